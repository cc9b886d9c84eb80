-- What becomes of the parts when a place is written, and what a part has that is asked for.
use Rattle.std.proofs.Common.{◌≡◌, ◌≤◌, ◌<◌, ◌+◌, ◌*◌, ◌-◌, ◌⊎◌, inl, inr, ℕ, zero, suc, Bool, true, false, not, cond, List, [], ◌∷◌, ◌++◌, length, map, min, take, drop, set, position, Option, None, Some, refl, sym, ap, subst, ◌∙◌, arith, append_assoc, true≢false}
use Rattle.std.proofs.lemmas.List.{take_all, take-set-le, drop-set-lt, drop-set-add, take-append-le, drop-append-le, drop_all, drop-drop, append-nil, map-append, length-append, length-drop, take-append-drop}
use Rattle.std.proofs.lemmas.Bool.Decides.{nat_tests}
use Rattle.std.specs.List.{position_or_len}
use Rattle.std.specs.Prelude.{slice_get, is_some, nat_lt, nat_le}
use Rattle.std.specs.Map.{keys_of, lookup, remove_entry, set_value}
use Rattle.std.specs.Str.{bytes_eq}
use Rattle.indexmap.specs.IndexMap.{insert_entry}
use Rattle.ups_dataset.specs.Data.{El}
use Rattle.ups_life.proofs.Texts.{text_is_itself}
use Rattle.ups_rows.specs.Answering.{rows_of_parts}
use Rattle.ups_steps.specs.declared.held.HeldRow.{HeldRow}
use Rattle.ups_steps.specs.Held.{attributes_held}
use Rattle.ups_steps.specs.Parts.{HasRows, PartsCover}
use Rattle.ups_steps.specs.Places.{with_held, held_in}

-- the places behind those of so many parts
abbrev behind : {X : Type 0} → ℕ → List X → List X
behind zero places = places
behind (suc k) places = behind k (drop 64 places)

behind_is : {X : Type 0} (k : ℕ) (places : List X) → behind k places ≡ drop (64 * k) places
behind_is zero places = refl
behind_is (suc k) places =
    let more : 64 + 64 * k ≡ 64 * suc k = omega arith in
    behind_is k (drop 64 places) ∙ drop-drop (64 * k) 64 places ∙ ap (λ n. drop n places) more

at_position : (p : List ℕ → Bool) (us : List (List ℕ)) (i : ℕ) → position p us ≡ Some i → (position_or_len p us ≡ i) × (i < length us)
at_position p us i is = by (nat_lt (position_or_len p us) (length us)) refl is
  where
    by : (b : Bool) → nat_lt (position_or_len p us) (length us) ≡ b → cond b (Some (position_or_len p us)) None ≡ Some i → (position_or_len p us ≡ i) × (i < length us)
    by true less is = let same : position_or_len p us ≡ i = cc in (same, grind (arith, nat_tests, less, same))
    by false less is = absurd cc

module _ {A : Type 0} where
  -- A PLACE IS WRITTEN

  -- the part of a place that changes is forgotten
  covers_set : (k : ℕ) (parts : List (Option (List (List El)))) (places : List (List ℕ × Option (HeldRow A))) (n : ℕ) (v : List ℕ × Option (HeldRow A)) → 64 * k ≤ n → n < 64 * k + 64 → PartsCover parts places → PartsCover (set parts k None) (set places n v)
  covers_set zero [] places n v low high c = tt
  covers_set (suc k) [] places n v low high c = tt
  covers_set zero (p ∷ ps) places n v low high c = (tt, subst (PartsCover ps) (sym (drop-set-lt 64 places n v (omega (arith, high)))) c.1)
  covers_set (suc k) (p ∷ ps) places n v low high c =
      let m = n - 64 in
      let is : 64 + m ≡ n = omega (arith, low) in
      subst (λ (i : ℕ). HasRows p (take 64 (set places i v)) × PartsCover (set ps k None) (drop 64 (set places i v))) is (
        subst (HasRows p) (sym (take-set-le 64 places (64 + m) v (omega arith))) c.0,
        subst (PartsCover (set ps k None)) (sym (drop-set-add 64 places m v)) (covers_set k ps (drop 64 places) m v (omega (arith, low)) (omega (arith, low, high)) c.1),
      )

  -- the part that gets one more place is forgotten
  covers_end : (k : ℕ) (parts : List (Option (List (List El)))) (places : List (List ℕ × Option (HeldRow A))) (v : List ℕ × Option (HeldRow A)) → 64 * k ≤ length places → length places < 64 * k + 64 → PartsCover parts places → PartsCover (set parts k None) (places ++ v ∷ [])
  covers_end zero [] places v low high c = tt
  covers_end (suc k) [] places v low high c = tt
  covers_end zero (p ∷ ps) places v low high c =
      let short = length-append places (v ∷ []) in
      (tt, subst (PartsCover ps) (drop_all 64 places (omega (arith, high)) ∙ sym (drop_all 64 (places ++ v ∷ []) (omega (arith, high, short)))) c.1)
  covers_end (suc k) (p ∷ ps) places v low high c =
      let left = length-drop 64 places in (
        subst (HasRows p) (sym (take-append-le 64 places (v ∷ []) (omega (arith, low)))) c.0,
        subst (PartsCover (set ps k None)) (sym (drop-append-le 64 places (v ∷ []) (omega (arith, low)))) (covers_end k ps (drop 64 places) v (omega (arith, low, left)) (omega (arith, low, high, left)) c.1),
      )

  -- the place under a UID that was written: one that was there, or one behind the others
  record Placed (u : List ℕ) (v : Option (HeldRow A)) (es : List (List ℕ × Option (HeldRow A))) (i : ℕ) (fs : List (List ℕ × Option (HeldRow A))) : Type 0 where
    key : List ℕ
    is : ((i < length es) × (fs ≡ set es i (key, v))) ⊎ ((i ≡ length es) × (fs ≡ es ++ (key, v) ∷ []))

  at_front : {u : List ℕ} {v : Option (HeldRow A)} (e : List ℕ × Option (HeldRow A)) {es fs : List (List ℕ × Option (HeldRow A))} {i : ℕ} → Placed u v es i fs → Placed u v (e ∷ es) (suc i) (e ∷ fs)
  at_front {u} {v} e {es} {fs} {i} h = record { key = h.key; is = by h.is }
    where
      by : ((i < length es) × (fs ≡ set es i (h.key, v))) ⊎ ((i ≡ length es) × (fs ≡ es ++ (h.key, v) ∷ [])) → ((suc i < length (e ∷ es)) × (e ∷ fs ≡ set (e ∷ es) (suc i) (h.key, v))) ⊎ ((suc i ≡ length (e ∷ es)) × (e ∷ fs ≡ (e ∷ es) ++ (h.key, v) ∷ []))
      by (inl x) = inl (omega (arith, x.0), ap (λ l. e ∷ l) x.1)
      by (inr x) = inr (ap suc x.0, ap (λ l. e ∷ l) x.1)

  placed : (u : List ℕ) (v : Option (HeldRow A)) (es : List (List ℕ × Option (HeldRow A))) (i : ℕ) → position_or_len (bytes_eq u) (keys_of (insert_entry bytes_eq es u v)) ≡ i → i < length (keys_of (insert_entry bytes_eq es u v)) → Placed u v es i (insert_entry bytes_eq es u v)
  placed u v [] i at low = let none : i ≡ 0 = omega (arith, low) in record { key = u; is = inr (none, refl) }
  placed u v (e ∷ es) i at low = by (bytes_eq u e.0) refl (placed u v es) i at low
    where
      rest : List (List ℕ × Option (HeldRow A))
      rest = insert_entry bytes_eq es u v

      by : (b : Bool) → bytes_eq u e.0 ≡ b → ((j : ℕ) → position_or_len (bytes_eq u) (keys_of rest) ≡ j → j < length (keys_of rest) → Placed u v es j rest)
          → (n : ℕ) → position_or_len (bytes_eq u) (keys_of (cond b ((e.0, v) ∷ es) (e ∷ rest))) ≡ n → n < length (keys_of (cond b ((e.0, v) ∷ es) (e ∷ rest))) → Placed u v (e ∷ es) n (cond b ((e.0, v) ∷ es) (e ∷ rest))
      by true p r n at low =
          let front : 0 ≡ n = sym (ap (λ b. cond (not b) (1 + position_or_len (bytes_eq u) (keys_of es)) 0) p) ∙ at in
          subst (λ m. Placed u v (e ∷ es) m ((e.0, v) ∷ es)) front (record { key = e.0; is = inl (omega arith, refl) })
      by false p r n at low =
          let more : 1 + position_or_len (bytes_eq u) (keys_of rest) ≡ n = sym (ap (λ b. cond (not b) (1 + position_or_len (bytes_eq u) (keys_of rest)) 0) p) ∙ at in
          let next : suc (position_or_len (bytes_eq u) (keys_of rest)) ≡ n = omega (arith, more) in
          subst (λ m. Placed u v (e ∷ es) m (e ∷ rest)) next (at_front e (r (position_or_len (bytes_eq u) (keys_of rest)) refl (omega (arith, next, low))))

  -- THE PART OF A STEP'S PLACE IS FORGOTTEN, and the others are right as before
  pub covers_written : (k : ℕ) (parts : List (Option (List (List El)))) (es fs : List (List ℕ × Option (HeldRow A))) (u : List ℕ) (v : Option (HeldRow A)) (i : ℕ) → fs ≡ insert_entry bytes_eq es u v → position (bytes_eq u) (keys_of fs) ≡ Some i → 64 * k ≤ i → i < 64 * k + 64 → PartsCover parts es → PartsCover (set parts k None) fs
  covers_written k parts es fs u v i written at low high c =
      let here = at_position (bytes_eq u) (keys_of (insert_entry bytes_eq es u v)) i (ap (λ l. position (bytes_eq u) (keys_of l)) (sym written) ∙ at) in
      let h = placed u v es i here.0 here.1 in
      subst (PartsCover (set parts k None)) (sym written) (by h.key h.is)
    where
      by : (key : List ℕ) → ((i < length es) × (insert_entry bytes_eq es u v ≡ set es i (key, v))) ⊎ ((i ≡ length es) × (insert_entry bytes_eq es u v ≡ es ++ (key, v) ∷ [])) → PartsCover (set parts k None) (insert_entry bytes_eq es u v)
      by key (inl x) = subst (PartsCover (set parts k None)) (sym x.1) (covers_set k parts es i (key, v) low high c)
      by key (inr x) = subst (PartsCover (set parts k None)) (sym x.1) (covers_end k parts es (key, v) (omega (arith, low, x.0)) (omega (arith, high, x.0)) c)

  -- a write of the value of a key that is there
  pub set_is_insert : (u : List ℕ) (v w : Option (HeldRow A)) (es : List (List ℕ × Option (HeldRow A))) → lookup (bytes_eq u) es ≡ Some w → set_value (bytes_eq u) es v ≡ insert_entry bytes_eq es u v
  set_is_insert u v w [] is = absurd cc
  set_is_insert u v w (e ∷ es) is = by (bytes_eq u e.0) is (set_is_insert u v w es)
    where
      by : (b : Bool) → cond b (Some e.1) (lookup (bytes_eq u) es) ≡ Some w → (lookup (bytes_eq u) es ≡ Some w → set_value (bytes_eq u) es v ≡ insert_entry bytes_eq es u v)
          → cond b ((e.0, v) ∷ es) (e ∷ set_value (bytes_eq u) es v) ≡ cond b ((e.0, v) ∷ es) (e ∷ insert_entry bytes_eq es u v)
      by true is r = refl
      by false is r = ap (λ l. e ∷ l) (r is)

  -- what was written is there
  pub written_there : (u : List ℕ) (v : Option (HeldRow A)) (es : List (List ℕ × Option (HeldRow A))) → lookup (bytes_eq u) (insert_entry bytes_eq es u v) ≡ Some v
  written_there u v [] = ap (λ b. cond b (Some v) None) (text_is_itself u)
  written_there u v (e ∷ es) = by (bytes_eq u e.0) refl (written_there u v es)
    where
      by : (b : Bool) → bytes_eq u e.0 ≡ b → lookup (bytes_eq u) (insert_entry bytes_eq es u v) ≡ Some v → lookup (bytes_eq u) (cond b ((e.0, v) ∷ es) (e ∷ insert_entry bytes_eq es u v)) ≡ Some v
      by true p r = ap (λ b. cond b (Some v) (lookup (bytes_eq u) es)) p
      by false p r = ap (λ b. cond b (Some e.1) (lookup (bytes_eq u) (insert_entry bytes_eq es u v))) p ∙ r

  -- a key that is not there is not removed
  pub none_removed : (u : List ℕ) (es : List (List ℕ × Option (HeldRow A))) → lookup (bytes_eq u) es ≡ None → remove_entry (bytes_eq u) es ≡ es
  none_removed u [] is = refl
  none_removed u (e ∷ es) is = by (bytes_eq u e.0) is (none_removed u es)
    where
      by : (b : Bool) → cond b (Some e.1) (lookup (bytes_eq u) es) ≡ None → (lookup (bytes_eq u) es ≡ None → remove_entry (bytes_eq u) es ≡ es) → cond b es (e ∷ remove_entry (bytes_eq u) es) ≡ e ∷ es
      by true is r = absurd cc
      by false is r = ap (λ l. e ∷ l) (r is)

  -- A PART IS MADE, AND READ

  made_behind : (k : ℕ) (parts : List (Option (List (List El)))) (places : List (List ℕ × Option (HeldRow A))) (rows : List (List El)) → rows ≡ attributes_held (held_in (take 64 (behind k places))) → PartsCover parts places → PartsCover (set parts k (Some rows)) places
  made_behind zero [] places rows is c = tt
  made_behind (suc k) [] places rows is c = tt
  made_behind zero (p ∷ ps) places rows is c = (is, c.1)
  made_behind (suc k) (p ∷ ps) places rows is c = (c.0, made_behind k ps (drop 64 places) rows is c.1)

  more_behind : (k : ℕ) (parts : List (Option (List (List El)))) (places : List (List ℕ × Option (HeldRow A))) (rows : List (List El)) → k ≡ length parts → rows ≡ attributes_held (held_in (take 64 (behind k places))) → PartsCover parts places → PartsCover (parts ++ Some rows ∷ []) places
  more_behind zero [] places rows end is c = (is, tt)
  more_behind (suc k) [] places rows end is c = absurd (omega (arith, end))
  more_behind zero (p ∷ ps) places rows end is c = absurd (omega (arith, end))
  more_behind (suc k) (p ∷ ps) places rows end is c = (c.0, more_behind k ps (drop 64 places) rows (omega (arith, end)) is c.1)

  read_behind : (k : ℕ) (parts : List (Option (List (List El)))) (places : List (List ℕ × Option (HeldRow A))) (rows : List (List El)) → slice_get parts k ≡ Some (Some rows) → PartsCover parts places → rows ≡ attributes_held (held_in (take 64 (behind k places)))
  read_behind zero [] places rows is c = absurd cc
  read_behind (suc k) [] places rows is c = absurd cc
  read_behind zero (p ∷ ps) places rows is c = by p is c.0
    where
      by : (o : Option (List (List El))) → Some o ≡ Some (Some rows) → HasRows o (take 64 places) → rows ≡ attributes_held (held_in (take 64 places))
      by None is has = absurd cc
      by (Some r) is has = let same : r ≡ rows = cc in sym same ∙ has
  read_behind (suc k) (p ∷ ps) places rows is c = read_behind k ps (drop 64 places) rows is c.1

  module _ (k : ℕ) (parts : List (Option (List (List El)))) (places : List (List ℕ × Option (HeldRow A))) (rows : List (List El)) where
    there : rows ≡ attributes_held (held_in (take 64 (drop (64 * k) places))) → rows ≡ attributes_held (held_in (take 64 (behind k places)))
    there is = is ∙ ap (λ l. attributes_held (held_in (take 64 l))) (sym (behind_is k places))

    pub covers_made : rows ≡ attributes_held (held_in (take 64 (drop (64 * k) places))) → PartsCover parts places → PartsCover (set parts k (Some rows)) places
    covers_made is c = made_behind k parts places rows (there is) c

    pub covers_more : k ≡ length parts → rows ≡ attributes_held (held_in (take 64 (drop (64 * k) places))) → PartsCover parts places → PartsCover (parts ++ Some rows ∷ []) places
    covers_more end is c = more_behind k parts places rows end (there is) c

    pub covered : slice_get parts k ≡ Some (Some rows) → PartsCover parts places → rows ≡ attributes_held (held_in (take 64 (drop (64 * k) places)))
    covered is c = read_behind k parts places rows is c ∙ ap (λ l. attributes_held (held_in (take 64 l))) (behind_is k places)

-- THE ROWS OF ONE PART AFTER ANOTHER

held-append : {X : Type 0} (es fs : List (List ℕ × Option X)) → held_in (es ++ fs) ≡ held_in es ++ held_in fs
held-append [] fs = refl
held-append {X} (e ∷ es) fs = by e.1 (held-append es fs)
  where
    by : (o : Option X) → held_in (es ++ fs) ≡ held_in es ++ held_in fs → with_held e.0 o (held_in (es ++ fs)) ≡ with_held e.0 o (held_in es) ++ held_in fs
    by None r = r
    by (Some x) r = ap (λ hs. (e.0, x) ∷ hs) r

one_more : (ps : List (List (List El))) (p : List (List El)) → rows_of_parts (ps ++ p ∷ []) ≡ rows_of_parts ps ++ p
one_more [] p = append-nil p
one_more (q ∷ ps) p = ap (λ rows. q ++ rows) (one_more ps p) ∙ sym (append_assoc q (rows_of_parts ps) p)

-- the rows of the parts so far, with those of the places behind them, are all rows
pub next_part : {A : Type 0} (k : ℕ) (places : List (List ℕ × Option (HeldRow A))) (ps qs : List (List (List El))) (part all : List (List El)) → qs ≡ ps ++ part ∷ [] → part ≡ attributes_held (held_in (take 64 (drop (64 * k) places)))
    → rows_of_parts ps ++ attributes_held (held_in (drop (64 * k) places)) ≡ all → rows_of_parts qs ++ attributes_held (held_in (drop (64 * (k + 1)) places)) ≡ all
next_part {A} k places ps qs part all more is was =
    let rest = drop (64 * k) places in
    let behind = attributes_held (held_in (drop (64 * (k + 1)) places)) in
    let on : 64 * k + 64 ≡ 64 * (k + 1) = omega arith in
    let split : part ++ behind ≡ attributes_held (held_in rest) =
    ap (λ l. l ++ behind) is ∙ ap (λ l. attributes_held (held_in (take 64 rest)) ++ attributes_held (held_in l)) (ap (λ n. drop n places) (sym on) ∙ sym (drop-drop 64 (64 * k) places))
    ∙ sym (map-append (λ (e : List ℕ × HeldRow A). e.1.row.attributes) (held_in (take 64 rest)) (held_in (drop 64 rest)))
    ∙ ap attributes_held (sym (held-append (take 64 rest) (drop 64 rest)) ∙ ap held_in (take-append-drop 64 rest)) in
    ap (λ l. rows_of_parts l ++ behind) more ∙ ap (λ l. l ++ behind) (one_more ps part) ∙ append_assoc (rows_of_parts ps) part behind ∙ ap (λ l. rows_of_parts ps ++ l) split ∙ was

-- the places from `start` on, up to 64 of them
pub range_of : {X : Type 0} (start end : ℕ) (xs : List X) → start ≤ length xs → end ≡ min (length xs) (start + 64) → take (end - start) (drop start xs) ≡ take 64 (drop start xs)
range_of start end xs low is = by (nat_le (start + 64) (length xs)) refl
  where
    by : (b : Bool) → nat_le (start + 64) (length xs) ≡ b → take (end - start) (drop start xs) ≡ take 64 (drop start xs)
    by true more = let n : end - start ≡ 64 = grind (arith, nat_tests, is, more) in ap (λ m. take m (drop start xs)) n
    by false more =
        let left = length-drop start xs in
        let all : end ≡ length xs = grind (arith, nat_tests, is, more) in
        take_all (end - start) (drop start xs) (omega (arith, left, all)) ∙ sym (take_all 64 (drop start xs) (grind (arith, nat_tests, left, more)))

pub none_from : {X : Type 0} (o : Option X) → is_some o ≡ false → o ≡ None
none_from None empty = refl
none_from (Some x) empty = absurd (true≢false empty)
