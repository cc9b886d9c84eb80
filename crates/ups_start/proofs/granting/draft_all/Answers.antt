use Rattle.std.proofs.Common.{◌≡◌, ◌+◌, ◌∙◌, arith}
use Rattle.ups_start.specs.Granted.{as_granted}
use Rattle.ups_start.specs.Shelved.{kept_in}
use Rattle.ups_start.proofs.Granted.{drafted_on, drafted_all}
use Rattle.ups_start.proofs.granting.draft_all.Goals as goal

pub loop-preserved : goal.loop-preserved
loop-preserved g c =
    let inv = c.loop.invariant in
    let before = c.draft_next.ensures.sound in
    let next : c.in-Some.next ≡ c.loop.done + c.in_ok-many.many = omega (arith, c.in-Some.ensures.1) in
    record {
      put = λ sound.
          drafted_on (as_granted c.args.was.now c.args.peers.now) (kept_in c.args.shelf.now) (kept_in c.loop.shelf) _ _ c.loop.done c.in_ok-many.many c.in-Some.next next (inv.same (before sound)) (inv.put (before sound)) (c.in_ok-many.ensures.put sound);
      same = λ sound. c.draft_next.ensures.same sound ∙ inv.same (before sound);
      sound = λ sound. inv.sound (before sound);
    }

pub returns-then-many-eq0-clause-put : goal.returns-then-many-eq0-clause-put
returns-then-many-eq0-clause-put g c = λ sound.
    let inv = c.loop.invariant in
    let before = c.draft_next.ensures.sound sound in
    let none = c.if-many-eq0.true in
    drafted_all (as_granted c.args.was.now c.args.peers.now) (kept_in c.args.shelf.now) (kept_in c.loop.shelf) _ _ c.loop.done c.in_ok-many.many none (inv.same before) (c.in_ok-many.ensures.ended sound none) (inv.put before) (c.in_ok-many.ensures.put sound)
