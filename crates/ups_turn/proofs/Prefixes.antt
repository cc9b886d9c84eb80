-- Beginnings of one history.
use Rattle.std.proofs.Common.{◌≡◌, ◌≢◌, ◌<◌, ◌≤◌, Bool, true, false, cond, nat_lt, List, [], ◌∷◌, ◌++◌, length, refl, sym, ap, ◌∙◌, subst, arith}
use Rattle.std.specs.Prelude.{All}
use Rattle.std.proofs.lemmas.Bool.Decides.{nat_tests}
use Rattle.std.proofs.lemmas.List.{append_assoc}
use Rattle.std.proofs.lemmas.List.Elements.{All-nil, All-cons, All-head, All-tail}
use Rattle.ups_life.specs.declared.entry.Entry.{Entry}
use Rattle.ups_service.specs.Law.{is_legal, BeginsHistory}
use Rattle.ups_service.proofs.Legality.{beginning_legal}
use Rattle.ups_turn.specs.declared.view.Part.{Part}
use Rattle.ups_turn.specs.Rule.{Behind}
use Rattle.ups_turn.specs.Plays.{longer, longest, CaughtUp}
use Rattle.ups_life.specs.Settings.{Settings}

-- of two beginnings the shorter begins the longer
within : {X : Type 0} (xs ys cs bs : List X) → xs ++ cs ≡ ys ++ bs → length xs ≤ length ys → (rest : List X) × (xs ++ rest ≡ ys)
within [] ys cs bs e h = (ys, refl)
within (x ∷ xs) [] cs bs e h = absurd (omega arith)
within (x ∷ xs) (y ∷ ys) cs bs e h = let r = within xs ys cs bs (cc) (omega arith) in let same : x ≡ y = cc in (r.0, λ i. same i ∷ r.1 i)

-- what comes first of a list of which all is so
All-front : {X : Type 0} (P : X → Type 0) (xs ys : List X) → All P (xs ++ ys) → All P xs
All-front P [] ys h = All-nil P
All-front P (x ∷ xs) ys h = All-cons P x xs (All-head P x (xs ++ ys) h) (All-front P xs ys (All-tail P x (xs ++ ys) h))

-- a list that the history goes on to, from what a pass has seen
cancel : {X : Type 0} (xs ys zs : List X) → xs ++ ys ≡ xs ++ zs → ys ≡ zs
cancel [] ys zs e = e
cancel (x ∷ xs) ys zs e = cancel xs ys zs (cc)

module _ {A : Type 0} where
  pub behind_part : (log far : List (Entry A)) (p : (Part A)) → Behind log p → BeginsHistory far log → length p.seen ≤ length far → Behind far p
  behind_part log far p b f le =
      let w = within p.seen far b.0 f.0 (b.1 ∙ sym f.1) le in
      let split : b.0 ≡ w.0 ++ f.0 = cancel p.seen b.0 (w.0 ++ f.0) (b.1 ∙ (sym f.1 ∙ (ap (λ (x : List (Entry A)). x ++ f.0) (sym w.1) ∙ append_assoc p.seen w.0 f.0))) in
      (w.0, w.1, All-front (λ (e : (Entry A)). e.caller ≢ p.number) w.0 f.0 (subst (All (λ (e : (Entry A)). e.caller ≢ p.number)) split b.2))

  prefix_part : (log far x : List (Entry A)) → BeginsHistory x log → BeginsHistory far log → length x ≤ length far → BeginsHistory x far
  prefix_part log far x b f le = within x far b.0 f.0 (b.1 ∙ sym f.1) le

  longer_is : (P : List (Entry A) → Type 0) (xs ys : List (Entry A)) → P xs → P ys → P (longer xs ys)
  longer_is P xs ys p q = at (nat_lt (length xs) (length ys))
    where
      at : (b : Bool) → P (cond b ys xs)
      at true = q
      at false = p

  longer_left : (xs ys : List (Entry A)) → length xs ≤ length (longer xs ys)
  longer_left xs ys = at (nat_lt (length xs) (length ys)) refl
    where
      at : (b : Bool) → nat_lt (length xs) (length ys) ≡ b → length xs ≤ length (cond b ys xs)
      at true is = let lt : length xs < length ys = grind (arith, nat_tests) in omega arith
      at false is = omega arith

  longer_right : (xs ys : List (Entry A)) → length ys ≤ length (longer xs ys)
  longer_right xs ys = at (nat_lt (length xs) (length ys)) refl
    where
      at : (b : Bool) → nat_lt (length xs) (length ys) ≡ b → length ys ≤ length (cond b ys xs)
      at true is = omega arith
      at false is = let le : length ys ≤ length xs = grind (arith, nat_tests) in le

  longest_is : (P : List (Entry A) → Type 0) (xs : List (Entry A)) (yss : List (List (Entry A))) → P xs → All P yss → P (longest xs yss)
  longest_is P xs [] p q = p
  longest_is P xs (ys ∷ yss) p q = longest_is P (longer xs ys) yss (longer_is P xs ys p (All-head P ys yss q)) (All-tail P ys yss q)

  longest_first : (xs : List (Entry A)) (yss : List (List (Entry A))) → length xs ≤ length (longest xs yss)
  longest_first xs [] = omega arith
  longest_first xs (ys ∷ yss) = let a = longer_left xs ys in let b = longest_first (longer xs ys) yss in omega arith

  longest_each : (xs : List (Entry A)) (yss : List (List (Entry A))) → All (λ ys. length ys ≤ length (longest xs yss)) yss
  longest_each xs [] = All-nil _
  longest_each xs (ys ∷ yss) = All-cons (λ zs. length zs ≤ length (longest (longer xs ys) yss)) ys yss (let a = longer_right xs ys in let b = longest_first (longer xs ys) yss in omega arith) (longest_each (longer xs ys) yss)

  pub longest_prefix : (log : List (Entry A)) (p : (Part A)) (notes : List (List (Entry A))) → Behind log p → All (λ x. BeginsHistory x log) notes → BeginsHistory (longest p.seen notes) log
  longest_prefix log p notes b n = longest_is (λ x. BeginsHistory x log) p.seen notes (b.0, b.1) n

  pub behind_longest : (log : List (Entry A)) (p : (Part A)) (notes : List (List (Entry A))) → Behind log p → All (λ x. BeginsHistory x log) notes → Behind log record { number = p.number; seen = longest p.seen notes }
  behind_longest log p notes b n =
      let f = longest_prefix log p notes b n in
      let w = behind_part log (longest p.seen notes) p b f (longest_first p.seen notes) in
      let split : b.0 ≡ w.0 ++ f.0 = cancel p.seen b.0 (w.0 ++ f.0) (b.1 ∙ (sym f.1 ∙ (ap (λ (x : List (Entry A)). x ++ f.0) (sym w.1) ∙ append_assoc p.seen w.0 f.0))) in
      (f.0, f.1, back w.0 f.0 (subst (All (λ (e : (Entry A)). e.caller ≢ p.number)) split b.2))
    where
      back : (xs ys : List (Entry A)) → All (λ (e : (Entry A)). e.caller ≢ p.number) (xs ++ ys) → All (λ (e : (Entry A)). e.caller ≢ p.number) ys
      back [] ys h = h
      back (x ∷ xs) ys h = back xs ys (All-tail (λ (e : (Entry A)). e.caller ≢ p.number) x (xs ++ ys) h)

  pub caught_up : (settings : Settings) (log : List (Entry A)) (p : (Part A)) (notes : List (List (Entry A))) → is_legal settings log → Behind log p → All (λ x. BeginsHistory x log) notes → CaughtUp settings notes p
  caught_up settings log p notes legal b n =
      let f = longest_prefix log p notes b n in record {
        behind = behind_part log (longest p.seen notes) p b f (longest_first p.seen notes);
        noted = λ k d lt. prefix_part log (longest p.seen notes) _ (n k d lt) f (longest_each p.seen notes k d lt);
        legal = beginning_legal settings (longest p.seen notes) f.0 (subst (is_legal settings) (sym f.1) legal);
      }
