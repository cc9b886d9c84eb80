-- A look is a call: the pass has seen the history whose rows the reply comes from.
use Rattle.std.proofs.Common.{◌≡◌, ℕ, true, List, ◌++◌, sym, ap, subst, ◌∙◌}
use Rattle.std.proofs.lemmas.List.{append-nil}
use Rattle.ups_life.specs.declared.entry.Entry.{Entry}
use Rattle.ups_life.specs.declared.request.Ask.{Ask}
use Rattle.ups_life.specs.declared.request.Reply.{Reply}
use Rattle.ups_service.specs.Law.{OrLacking, lacking}
use Rattle.ups_service.specs.Looking.{is_look, rows_for, reply_from}
use Rattle.ups_service.proofs.Looks.{looks_right, look_enters_nothing}
use Rattle.ups_turn.specs.Pass.{PassView, HasObserved, IsServed}

pub looked : {A : Type 0} (old new : PassView A) (ask : Ask A) (reply : Reply A) → is_look ask ≡ true → HasObserved old new → OrLacking (lacking ask) (reply_from (rows_for new.settings new.seen ask) ask) reply
    → (ae : List ℕ) (moment : ℕ) → IsServed old ae moment ask reply new
looked {A} old new ask reply look has answer ae moment =
    let by_rows : reply_from (rows_for new.settings new.seen ask) ask ≡ reply_from (rows_for old.settings (old.seen ++ has.between) ask) ask = λ i. reply_from (rows_for (has.same.1 i) (has.seen i) ask) ask in
    record {
      same = has.same;
      calls = has.calls;
      between = has.between;
      others = has.others;
      legal = has.legal;
      answers = subst (λ (due : Reply A). OrLacking (lacking ask) due reply) (by_rows ∙ looks_right old.settings (old.seen ++ has.between) old.number ae moment ask look) answer;
      seen = has.seen ∙ sym (append-nil (old.seen ++ has.between)) ∙ ap (λ (l : List (Entry A)). (old.seen ++ has.between) ++ l) (sym (look_enters_nothing old.number ae moment ask reply look));
    }
