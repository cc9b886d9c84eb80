-- A history that is kept for the steps needed, with the acknowledgements behind it.
use Rattle.std.proofs.Common.{◌≡◌, ℕ, ◌-◌, nat_lt, true, List, ◌++◌, length, sym, ap, subst, ◌∙◌}
use Rattle.std.specs.Prelude.{Result, Ok, Err, OnOk}
use Rattle.ups_life.specs.declared.entry.Entry.{Entry}
use Rattle.ups_life.specs.Settings.{Settings}
use Rattle.ups_life.specs.Steps.{past}
use Rattle.ups_life.specs.Events.{events}
use Rattle.ups_life.specs.History.{legal}
use Rattle.ups_life.proofs.Past.{length-past}
use Rattle.ups_service.specs.Law.{is_legal}
use Rattle.ups_compact.specs.Compacting.{left, left_for, above_zero, upto_for, steps_needed, with_acks, compacted_for}
use Rattle.ups_compact.proofs.Needed.{needed_lose_nothing}
use Rattle.ups_compact.proofs.Ordered.{past_left}
use Rattle.ups_compact.proofs.Shifting.{number_behind}
use Rattle.ups_restore.specs.Compacting.{unacknowledged, known_behind, acks}
use Rattle.ups_restore.proofs.Acks.{past_acks}

module _ {A : Type 0} (s : Settings) (h one : List (Entry A)) (l : is_legal s h) (is : past one ≡ left_for s (steps_needed s (past h)) (past h)) where
  -- a watcher has not acknowledged as many events behind it as before
  same_number : (w : List ℕ) → known_behind s h one w ≡ upto_for s (steps_needed s (past h)) (past h) w
  same_number w =
      ap above_zero
      (ap (λ (es : List (Entry A)). length (events s es w) - unacknowledged s h w) is
      ∙ sym (number_behind s (steps_needed s (past h)) (past h) l (needed_lose_nothing s (past h)) w))

  -- with acknowledgements behind it, it is the compacted history
  pub past_compacted : (caller moment : ℕ) → past (one ++ acks caller moment (known_behind s h one) s.peers) ≡ compacted_for caller moment s (steps_needed s (past h)) (past h)
  past_compacted caller moment = past_acks caller moment (known_behind s h one) one s.peers ∙ (λ i. with_acks caller moment (λ w. same_number w i) s.peers (is i))

  -- which is legal
  pub legal_compacted : (t : Settings) (caller moment : ℕ) → t ≡ s → legal s (compacted_for caller moment s (steps_needed s (past h)) (past h)) ≡ true → is_legal t (one ++ acks caller moment (known_behind s h one) s.peers)
  legal_compacted t caller moment same ok =
      subst (λ (x : Settings). is_legal x (one ++ acks caller moment (known_behind s h one) s.peers)) (sym same)
      (subst (λ (es : List (Entry A)). legal s es ≡ true) (sym (past_compacted caller moment)) ok)

-- what was kept of a history that was shown, with settings that are the same
pub kept_history : {A : Type 0} (s t : Settings) (steps : List (List ℕ)) (h shown one : List (Entry A)) → t ≡ s → steps ≡ steps_needed s (past h) → shown ≡ h → past one ≡ left_for t steps (past shown)
    → past one ≡ left_for s (steps_needed s (past h)) (past h)
kept_history s t steps h shown one same all is kept = kept ∙ (λ i. left_for (same i) (all i) (past (is i)))

-- whether a compaction pays, by the count of what is left
pub left_pays : {A : Type 0} (steps needed : List (List ℕ)) (h shown : List (Entry A)) (n : ℕ) → steps ≡ needed → shown ≡ h → n ≡ length (left steps shown)
    → nat_lt n (length shown - n) ≡ nat_lt (length (left needed (past h))) (length h - length (left needed (past h)))
left_pays {A} steps needed h shown n all is many =
    let few : n ≡ length (left needed (past h)) =
    many ∙ (ap (λ (es : List (Entry A)). length (left steps es)) is ∙ (ap (λ (us : List (List ℕ)). length (left us h)) all ∙ (sym (length-past (left needed h)) ∙ ap length (past_left needed h)))) in
    λ i. nat_lt (few i) (length (is i) - few i)

pub on_ok : {T E : Type 0} (P Q : Type 0) (r : Result T E) → (P → Q) → OnOk r P → OnOk r Q
on_ok P Q (Ok x) f p = f p
on_ok P Q (Err e) f p = tt
