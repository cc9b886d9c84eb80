use Rattle.std.specs.Prelude.{◌≡◌, true, is_some}
use Rattle.ups_ledger.specs.Backed.{HadAtLeast}
use Rattle.ups_server.proofs.serving.serve_on.Given as goal

abbrev pub ghosts-serve_kept : goal.ghosts-serve_kept
ghosts-serve_kept g a = record { had = λ n. is_some a.begun.keeper ≡ true → HadAtLeast g.L.Ledger n }
