-- The title that bytes are.
use Rattle.std.proofs.Common.{◌≡◌, ℕ, Bool, true, false, cond, List, length, Option, None, Some, MatchOption, refl, sym, ap, ◌∙◌}
use Rattle.std.proofs.lemmas.Bool.{ltb-true, leb-true, lt-ltb, le-leb, and_parts, and_from}
use Rattle.ups_pdu.specs.Title.{IsAe, SpellsAe}
use Rattle.ups_assoc.specs.Titles.{trimmed, is_ae, title}

ae_is : (text : List ℕ) → IsAe text → is_ae text ≡ true
ae_is text h = and_from _ _ (lt-ltb 0 (length text) h.some) (and_from _ _ (le-leb (length text) 16 h.short) h.bytes)

is_ae_so : (text : List ℕ) → is_ae text ≡ true → IsAe text
is_ae_so text h =
    let first = and_parts _ _ h in
    let second = and_parts _ _ first.1 in
    record { some = ltb-true 0 (length text) first.0; short = leb-true (length text) 16 second.0; bytes = second.1 }

none_is : (bytes : List ℕ) (b : Bool) → is_ae (trimmed bytes) ≡ b → ((t : List ℕ) → SpellsAe bytes t → ⊥) → None ≡ cond b (Some (trimmed bytes)) None
none_is bytes false e h = refl
none_is bytes true e h = absurd (h (trimmed bytes) (record { is_ae = is_ae_so (trimmed bytes) e; parts = refl }))

pub title_is : (bytes : List ℕ) (found : Option (List ℕ)) → MatchOption found ((t : List ℕ) → SpellsAe bytes t → ⊥) (SpellsAe bytes) → found ≡ title bytes
unfolding title
title_is bytes None h = none_is bytes (is_ae (trimmed bytes)) refl h
title_is bytes (Some t) h =
    ap (λ (x : List ℕ). Some x) h.parts ∙ ap (λ (b : Bool). cond b (Some (trimmed bytes)) None) (sym (ap is_ae (sym h.parts) ∙ ae_is t h.is_ae))
