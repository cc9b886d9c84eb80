-- What a pass enters is all that a history has of its number.
use Rattle.std.proofs.Common.{◌≡◌, ◌≢◌, ℕ, Bool, true, false, eqb, nat_lt, slice_index_or, List, [], ◌∷◌, ◌++◌, refl, sym, ap, ◌∙◌, arith}
use Rattle.std.specs.Prelude.{All, MatchBool}
use Rattle.std.proofs.lemmas.Bool.Decides.{nat_tests}
use Rattle.std.proofs.lemmas.List.{append_assoc, append-nil, append_cancel_left}
use Rattle.std.proofs.lemmas.List.Elements.{All-head, All-tail, All-from_recursion, filter-append}
use Rattle.ups_life.specs.declared.entry.Entry.{Entry}
use Rattle.ups_life.specs.declared.request.Ask.{Ask}
use Rattle.ups_life.specs.declared.request.Reply.{Reply}
use Rattle.ups_service.specs.Law.{entered}
use Rattle.ups_service.proofs.Legality.{entered_numbered, lacking_enters_nothing}
use Rattle.ups_turn.specs.Own.{own, AddsOwn, HasOwn}
use Rattle.ups_turn.specs.Pass.{PassView, most_calls, part_of, IsServed, IsSpent, IsCall, HasObserved, Learns, EndsFor}
use Rattle.ups_turn.specs.Rule.{Behind}

other_number : (x n : ℕ) → x ≢ n → eqb x n ≡ false
other_number x n ne = at (eqb x n) refl
  where
    at : (b : Bool) → eqb x n ≡ b → eqb x n ≡ false
    at true is = absurd (ne (grind (arith, nat_tests)))
    at false is = is

same_number : (x n : ℕ) → x ≡ n → eqb x n ≡ true
same_number x n same = grind (arith, nat_tests)

module _ {A : Type 0} where
  -- of others' requests none is its own
  none_own : (number : ℕ) (log : List (Entry A)) → All (λ (e : Entry A). e.caller ≢ number) log → own number log ≡ []
  none_own number [] h = refl
  none_own number (e ∷ log) h =
      let no = other_number e.caller number (All-head (λ (d : Entry A). d.caller ≢ number) e log h) in
      rw no (none_own number log (All-tail (λ (d : Entry A). d.caller ≢ number) e log h))

  all_own : (number : ℕ) (log : List (Entry A)) → All (λ (e : Entry A). e.caller ≡ number) log → own number log ≡ log
  all_own number [] h = refl
  all_own number (e ∷ log) h =
      let yes = same_number e.caller number (All-head (λ (d : Entry A). d.caller ≡ number) e log h) in
      rw yes (ap (λ (l : List (Entry A)). e ∷ l) (all_own number log (All-tail (λ (d : Entry A). d.caller ≡ number) e log h)))

  -- others' requests add none
  own_before : (number : ℕ) (seen rest log : List (Entry A)) → seen ++ rest ≡ log → All (λ (e : Entry A). e.caller ≢ number) rest → own number log ≡ own number seen
  own_before number seen rest log is others =
      ap (own number) (sym is) ∙ (filter-append (λ (e : Entry A). eqb e.caller number) seen rest ∙ (ap (λ (l : List (Entry A)). own number seen ++ l) (none_own number rest others) ∙ append-nil (own number seen)))

  own_after : (number : ℕ) (before added : List (Entry A)) → All (λ (e : Entry A). e.caller ≡ number) added → own number (before ++ added) ≡ own number before ++ added
  own_after number before added by =
      filter-append (λ (e : Entry A). eqb e.caller number) before added ∙ ap (λ (l : List (Entry A)). own number before ++ l) (all_own number added by)

  module _ (old new : PassView A) (ae : List ℕ) (moment : ℕ) (ask : Ask A) (reply : Reply A) where
    served_adds : IsServed old ae moment ask reply new → AddsOwn old ae moment ask reply new
    served_adds s =
        let added = entered old.number ae moment ask reply in
        let by = All-from_recursion (λ (e : Entry A). e.caller ≡ old.number) added (entered_numbered old.number ae moment ask reply) in
        ap (own old.number) s.seen ∙ (own_after old.number (old.seen ++ s.between) added by ∙ ap (λ (l : List (Entry A)). l ++ added) (own_before old.number old.seen s.between (old.seen ++ s.between) refl s.others))

    spent_adds : IsSpent old ask reply new → AddsOwn old ae moment ask reply new
    spent_adds s =
        let nothing : entered old.number ae moment ask reply ≡ [] = ap (entered old.number ae moment ask) s.0 ∙ lacking_enters_nothing old.number ae moment ask in
        ap (λ (p : PassView A). own old.number p.seen) s.1 ∙ sym (ap (λ (l : List (Entry A)). own old.number old.seen ++ l) nothing ∙ append-nil (own old.number old.seen))

    pub call_adds : IsCall old ae moment ask reply new → AddsOwn old ae moment ask reply new
    call_adds = at (nat_lt old.calls most_calls)
      where
        at : (b : Bool) → MatchBool b (IsServed old ae moment ask reply new) (IsSpent old ask reply new) → AddsOwn old ae moment ask reply new
        at true s = served_adds s
        at false s = spent_adds s

  pub observing_adds_none : (old new : PassView A) → HasObserved old new → own old.number new.seen ≡ own old.number old.seen
  observing_adds_none old new o = own_before old.number old.seen o.between new.seen (sym o.seen) o.others

  pub learning_adds_none : (old from new : PassView A) → Learns old from new → own old.number new.seen ≡ own old.number old.seen
  learning_adds_none old from new l = own_before old.number old.seen l.behind.0 new.seen l.behind.1 l.behind.2

  has_own : (opening history : List (Entry A)) (p : PassView A) → Behind history (part_of p) → HasOwn opening history p
  has_own opening history p b since seen whole part =
      let split : seen ++ b.0 ≡ since = append_cancel_left opening (seen ++ b.0) since (sym (append_assoc opening seen b.0) ∙ (ap (λ (l : List (Entry A)). l ++ b.0) part ∙ (b.1 ∙ sym whole))) in
      own_before p.number seen b.0 since split b.2

  pub all_have_own : (opening history : List (Entry A)) (passes : List (PassView A)) → EndsFor history passes → All (HasOwn opening history) passes
  all_have_own opening history passes h k d lt = has_own opening history (slice_index_or passes k d) (h k d lt)
