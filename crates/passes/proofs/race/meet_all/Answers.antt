use Rattle.std.proofs.Common.{rules, ◌≡◌, ◌∙◌, ◌∷◌, All, subst, sym, Global}
use Rattle.std.proofs.lemmas.List.Elements.{All-head, All-push, All-tail}
use Rattle.std.specs.Vec.Iter.{into_iter_items}
use Rattle.ups_turn.specs.Pass.{PassView}
use Rattle.passes.specs.declared.claims.Claims.{Claims}
use Rattle.passes.proofs.race.meet_all.Goals as goal

-- the next pass is at the desk, and so are those after it
pub meet-requires-clause-left : goal.meet-requires-clause-left
meet-requires-clause-left c =
    let table = c.args.desk.now.table in
    let left : All (λ (d : PassView Global × Claims). d.0.table ≡ table) (c.in-Some-one.one ∷ into_iter_items c.next.new.self) = subst (All (λ (d : PassView Global × Claims). d.0.table ≡ table)) c.in-Some-one.ensures.steps.0 c.loop-one.invariant.left in
    All-head (λ (d : PassView Global × Claims). d.0.table ≡ table) c.in-Some-one.one (into_iter_items c.next.new.self) left

pub loop-one-preserved : goal.loop-one-preserved
loop-one-preserved c =
    let was = c.loop-one.invariant in
    let one = c.in-Some-one.one in
    let table = c.args.desk.now.table in
    let left : All (λ (d : PassView Global × Claims). d.0.table ≡ table) (one ∷ into_iter_items c.next.new.self) = subst (All (λ (d : PassView Global × Claims). d.0.table ≡ table)) c.in-Some-one.ensures.steps.0 was.left in
    let own : c.meet.new.left.table ≡ table = c.meet.ensures.same.0.0 ∙ All-head (λ (d : PassView Global × Claims). d.0.table ≡ table) one (into_iter_items c.next.new.self) left in
    record {
      room = search rules;
      here = subst (All (λ (p : PassView Global). p.table ≡ table)) (sym c.push_reserved.ensures.items) (All-push (λ (p : PassView Global). p.table ≡ table) c.loop-one.passes.items c.meet.new.left was.here own);
      left = All-tail (λ (d : PassView Global × Claims). d.0.table ≡ table) one (into_iter_items c.next.new.self) left;
      last = c.meet.ensures.same.1.0 ∙ was.last;
    }

pub returns : goal.returns
returns c =
    let was = c.loop-one.invariant in
    let table = c.args.desk.now.table in
    record { here = subst (All (λ (p : PassView Global). p.table ≡ table)) (sym c.push_reserved-2.ensures.items) (All-push (λ (p : PassView Global). p.table ≡ table) c.loop-one.passes.items c.loop-one.last was.here was.last) }
