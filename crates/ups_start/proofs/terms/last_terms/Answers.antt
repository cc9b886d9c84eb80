use Rattle.std.proofs.Common.{ℕ, List, subst}
use Rattle.ups_store.specs.Shown.{shown_by, last_terms_of}
use Rattle.ups_start.specs.Noted.{IsTextOf}
use Rattle.ups_start.proofs.Permitted.{terms_read, none_read}
use Rattle.ups_start.proofs.terms.last_terms.Goals as goal

pub returns-in-Some : goal.returns-in-Some
returns-in-Some g c =
    let replay = c.in_ok-replay.replay in
    let terms = c.in_ok-terms-in-Some.terms in
    let told = subst (λ (x : List ℕ). IsTextOf x terms) c.as_slice.ensures c.in_ok-terms-in-Some.ensures in
    (shown_by replay, c.in_ok-replay.ensures.found, c.noted_in.new.replay, λ clean. terms_read terms c.in_ok-noted.noted (last_terms_of replay) c.in-Some.text c.in-Some.is (c.in_ok-noted.ensures.noted clean) told)

pub returns : goal.returns
returns g c =
    let replay = c.in_ok-replay.replay in
    (shown_by replay, c.in_ok-replay.ensures.found, c.noted_in.new.replay, λ clean. none_read c.in_ok-noted.noted (last_terms_of replay) c.in-None.is (c.in_ok-noted.ensures.noted clean))
