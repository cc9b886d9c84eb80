use Rattle.ups_net.proofs.delivering.deliver_noted.Given as goal

abbrev pub ghosts-deliver_fixed : goal.ghosts-deliver_fixed
ghosts-deliver_fixed g a = record { table = a.pass.table; settings = a.pass.settings; number = a.pass.number }
