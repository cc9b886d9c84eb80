-- What the two files of a store hold as they are opened. The two definitions are abstract: the prover lets no proof see what
-- they stand for, so that each proof holds for any contents.
use Rattle.std.specs.Prelude.{ℕ, List, []}

pub log_held : List ℕ
log_held = []

pub file_held : List ℕ
file_held = []
