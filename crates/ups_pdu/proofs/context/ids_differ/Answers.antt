use Rattle.std.proofs.Common.{◌≡◌, ◌<◌, [], ◌∷◌, true, false, map, get_or, refl, sym, ap, ◌∙◌, rules, arith}
use Rattle.std.proofs.lemmas.List.{nil_from_length, get_or-replicate, length-set}
use Rattle.ups_pdu.specs.Context.{first_byte, is_odd}
use Rattle.ups_pdu.proofs.Ids.{is_met, fresh_from_start, goes_on, stops, all_differ, refuses, first_byte-is, not_odd, odd, marked_more}
use Rattle.ups_pdu.proofs.context.ids_differ.Goals as goal

pub loop-content-init : goal.loop-content-init
loop-content-init c = record {
  met = [];
  room = refl;
  marked = λ k lt. get_or-replicate 256 k false false lt;
  on = λ found h. record { left = found; has = h; on = fresh_from_start (map first_byte found) };
}

pub returns-in_default-content : goal.returns-in_default-content
returns-in_default-content c = λ found h.
    let none : c.in-Some.content.now ≡ [] = nil_from_length _ (omega arith) in
    refuses _ (stops _ _ _ c.in-Some.content.now _ found c.in-Some.ensures.next (λ o n. let e : is_odd (first_byte []) ≡ true = sym (ap (λ l. is_odd (first_byte l)) none) ∙ o in cc) (c.loop-content.invariant.on found h))

pub returns-then-id-eq0 : goal.returns-then-id-eq0
returns-then-id-eq0 c = λ found h.
    refuses _ (stops _ _ _ c.in-Some.content.now _ found c.in-Some.ensures.next (λ o n. not_odd c.from-id.result c.if-id-eq0.true (ap is_odd (c.from-id.ensures ∙ sym (first_byte-is c.in-Some.content.now)) ∙ o)) (c.loop-content.invariant.on found h))

pub returns-then-seen-id : goal.returns-then-seen-id
returns-then-seen-id c = λ found h.
    let id = c.from-id.ensures ∙ sym (first_byte-is c.in-Some.content.now) in
    let lt : c.from-id.result < 256 = search rules in
    let marked = c.loop-content.invariant.marked c.from-id.result lt in
    refuses _ (stops _ _ _ c.in-Some.content.now _ found c.in-Some.ensures.next (λ o n. let e : get_or c.loop-content.seen c.from-id.result false ≡ false = marked ∙ ap (is_met c.loop-content.invariant.met) id ∙ n in cc) (c.loop-content.invariant.on found h))

pub loop-content-preserved : goal.loop-content-preserved
loop-content-preserved c =
    let id = c.from-id.ensures ∙ sym (first_byte-is c.in-Some.content.now) in
    let lt : c.from-id.result < 256 = search rules in
    let marked = c.loop-content.invariant.marked c.from-id.result lt in
    record {
      met = first_byte c.in-Some.content.now ∷ c.loop-content.invariant.met;
      room = length-set c.loop-content.seen c.from-id.result true ∙ c.loop-content.invariant.room;
      marked = marked_more _ _ _ _ id c.loop-content.invariant.room lt c.loop-content.invariant.marked;
      on = λ found h. goes_on _ _ _ _ _ found c.in-Some.ensures.next (ap is_odd (sym id) ∙ odd c.from-id.result c.if-id-eq0.false) (ap (is_met c.loop-content.invariant.met) (sym id) ∙ sym marked ∙ c.if-seen-id.false) (c.loop-content.invariant.on found h);
    }

pub returns : goal.returns
returns c = λ found h. (λ _. all_differ _ _ _ found c.in_default.ensures.next (c.loop-content.invariant.on found h), λ _. refl)
