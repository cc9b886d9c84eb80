use Rattle.std.proofs.Common.{◌≡◌, false, true, sym, ◌∙◌}
use Rattle.std.specs.Str.{bytes_eq}
use Rattle.std.proofs.lemmas.Slice.Eq.{bytes_eq-Decides}
use Rattle.ups_args.specs.Arguments.{nowhere}
use Rattle.ups_args.proofs.Parts.{placed_nowhere, unplaced}
use Rattle.ups_args.proofs.peers.lock_of.Goals as goal

pub returns-then-eq : goal.returns-then-eq
returns-then-eq c =
    let place = c.lock_cut-lock.result.0.now in
    let same : bytes_eq place nowhere ≡ true = sym c.eq.ensures ∙ c.if-eq.true in
    placed_nowhere c.args.text.now place c.lock_cut-lock.result.1 c.lock_cut-lock.ensures ((bytes_eq-Decides place nowhere).0 same)

pub returns-in_err-address : goal.returns-in_err-address
returns-in_err-address c =
    let place = c.lock_cut-lock.result.0.now in
    let other : bytes_eq place nowhere ≡ false = sym c.eq.ensures ∙ c.if-eq.false in
    let some : place ≡ nowhere → ⊥ = λ is. let same : bytes_eq place nowhere ≡ true = (bytes_eq-Decides place nowhere).1 is in absurd cc in
    rw c.from_residual.ensures (unplaced c.args.text.now place c.lock_cut-lock.result.1 c.lock_cut-lock.ensures some c.in_err-address.ensures)
