use Rattle.std.proofs.Common.{ℕ, List, Some, subst}
use Rattle.ups_store.specs.Shown.{last_terms_of}
use Rattle.ups_start.specs.Noted.{PermitsNoted}
use Rattle.ups_start.proofs.Permitted.{permits_read}
use Rattle.ups_start.proofs.terms.check_terms.Goals as goal

pub returns-in-Ok-look_at_terms-clause-permits : goal.returns-in-Ok-look_at_terms-clause-permits
returns-in-Ok-look_at_terms-clause-permits g c keeps clean =
    let s = c.args.manager.now.settings in
    let permits = subst (λ (x : List ℕ). PermitsNoted s (Some x)) c.as_slice.ensures (c.in-Ok-look_at_terms.ensures keeps) in
    permits_read s c.in-Ok.noted (last_terms_of c.args.replay.now) c.in-Some.text c.in-Some.is (c.in-Ok.ensures.noted clean) permits
