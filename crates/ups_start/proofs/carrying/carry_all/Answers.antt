use Rattle.std.proofs.Common.{◌≡◌, ◌≤◌, true, List, ◌∷◌, length, take, refl, sym, subst, ap, ◌∙◌, arith}
use Rattle.std.proofs.lemmas.List.{take_all}
use Rattle.sqlite_trees.specs.View.{IsClean}
use Rattle.std.specs.declared.alloc.Global.{Global}
use Rattle.ups_life.specs.declared.entry.Entry.{Entry}
use Rattle.ups_life.specs.History.{legal}
use Rattle.ups_life.specs.Settings.{Settings}
use Rattle.ups_life.specs.Steps.{past}
use Rattle.ups_compact.specs.Compacting.{left_for}
use Rattle.ups_store.specs.declared.request.StoredRequest.{StoredRequest}
use Rattle.ups_store.specs.Shown.{shown_by, all_of, given_out}
use Rattle.ups_start.specs.Carried.{CarriesNext}
use Rattle.ups_start.specs.Started.{said}
use Rattle.ups_start.proofs.Carried.{carried_more, carried_all}
use Rattle.ups_start.proofs.carrying.carry_all.Goals as goal

pub loop-before-init : goal.loop-before-init
loop-before-init g c = record {
  carried = λ clean h written are ok few. ap past c.requires.new ∙ ap (λ (l : List StoredRequest). left_for c.args.fresh.now.settings c.args.steps.now (past (take (length l) h))) (sym c.requires.first);
  same = λ clean. refl;
  clean = λ clean. clean;
  settings = refl;
  digested = c.requires.none;
}

pub loop-before-preserved : goal.loop-before-preserved
loop-before-preserved g c =
    let inv = c.loop-before.invariant in
    let old = c.loop-before.reading.replay in
    let new = c.carry_next.new.reading.replay in
    let before = c.carry_next.ensures.clean in
    let step = λ (clean : IsClean (shown_by new)). subst (λ f. CarriesNext old new c.loop-before.fresh.settings c.args.steps.now c.loop-before.fresh.history c.carry_next.new.fresh.history c.args.most f) c.if-not-found.false (c.in_ok-found.ensures.carried clean) in
    record {
      carried = λ clean h written are ok few.
          let s = step clean in
          carried_more c.args.fresh.now.settings c.args.steps.now h c.loop-before.fresh.history c.carry_next.new.fresh.history (all_of new) (given_out old) (given_out new) new.count s.1.0 refl s.1.1 written are ok
          (inv.carried (before clean) h written (are ∙ ap said s.0) ok (omega (arith, c.carry_next.ensures.more, few)))
          (λ e w is es l was.
          s.1.2 e w is few es (subst (λ (x : Settings). legal x (e ∷ es) ≡ true) (sym inv.settings) l) (was ∙ ap (λ (x : Settings). left_for x c.args.steps.now es) (sym inv.settings))
          ∙ ap (λ (x : Settings). left_for x c.args.steps.now (e ∷ es)) inv.settings);
      same = λ clean. (step clean).0 ∙ inv.same (before clean);
      clean = λ clean. inv.clean (before clean);
      settings = c.carry_next.ensures.settings ∙ inv.settings;
      digested = c.in_ok-found.ensures.digested inv.digested;
    }

pub returns-then-not-found-clause-carried : goal.returns-then-not-found-clause-carried
returns-then-not-found-clause-carried g c = λ clean h written are ok few.
    let inv = c.loop-before.invariant in
    let old = c.loop-before.reading.replay in
    let new = c.carry_next.new.reading.replay in
    let s = subst (λ f. CarriesNext old new c.loop-before.fresh.settings c.args.steps.now c.loop-before.fresh.history c.carry_next.new.fresh.history c.args.most f) c.if-not-found.true (c.in_ok-found.ensures.carried clean) in
    let all : length h ≤ length (given_out old) = subst (λ (l : List StoredRequest). length h ≤ length l) (sym s.2 ∙ s.1) (carried_all h (all_of new) are) in
    ap past s.3
    ∙ (inv.carried (c.carry_next.ensures.clean clean) h written (are ∙ ap said s.0) ok (omega (arith, c.carry_next.ensures.more, few))
    ∙ ap (λ (es : List (Entry Global)). left_for c.args.fresh.now.settings c.args.steps.now (past es)) (take_all (length (given_out old)) h all))
