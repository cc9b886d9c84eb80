use Rattle.ups_net.proofs.serving.serve_noted.Given as goal

abbrev pub ghosts-serve_fixed : goal.ghosts-serve_fixed
ghosts-serve_fixed g a = record { table = a.pass.table; settings = a.pass.settings; number = a.pass.number }
