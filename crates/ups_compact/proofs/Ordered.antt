-- A compact history as it is kept, oldest first, and how acknowledgements are put behind it one after another: for who makes it.
use Rattle.std.proofs.Common.{◌≡◌, ℕ, Bool, true, false, cond, List, [], ◌∷◌, ◌++◌, refl, sym, ap, ◌∙◌}
use Rattle.std.proofs.lemmas.List.{reverse-append, append-nil}
use Rattle.std.proofs.lemmas.List.Elements.{filter-append}
use Rattle.ups_life.specs.declared.entry.Entry.{Entry}
use Rattle.ups_life.specs.Steps.{past}
use Rattle.ups_compact.specs.Compacting.{is_left, left}

-- what is left is the same in either order
pub past_left : {A : Type 0} (steps : List (List ℕ)) (history : List (Entry A)) → past (left steps history) ≡ left steps (past history)
past_left steps [] = refl
past_left {A} steps (e ∷ history) =
    at (is_left steps e.request) refl (past_left steps history)
    ∙ sym (filter-append (λ (x : Entry A). is_left steps x.request) (past history) (e ∷ []))
    ∙ ap (left steps) (sym last)
  where
    last : past (e ∷ history) ≡ past history ++ e ∷ []
    last = reverse-append (e ∷ []) history

    at : (b : Bool) → is_left steps e.request ≡ b → past (left steps history) ≡ left steps (past history) → past (cond b (e ∷ left steps history) (left steps history)) ≡ left steps (past history) ++ cond b (e ∷ []) []
    at true is rest = reverse-append (e ∷ []) (left steps history) ∙ ap (λ (xs : List (Entry A)). xs ++ e ∷ []) rest
    at false is rest = rest ∙ sym (append-nil (left steps (past history)))
