-- Two calls that were told that they have claimed a step are the same call.
use Rattle.std.proofs.Common.{◌≡◌, ◌≤◌, ◌<◌, ℕ, ◌+◌, Bool, true, false, List, [], ◌∷◌, ◌++◌, length, Option, Some, None, refl, sym, ap, ◌∙◌, subst, arith, nat_lt}
use Rattle.std.specs.Prelude.{MatchBool}
use Rattle.std.specs.Option.{option_map}
use Rattle.std.proofs.lemmas.List.{append_assoc, length-append, reverse-append}
use Rattle.std.proofs.lemmas.Bool.Decides.{nat_tests}
use Rattle.ups_cycle.specs.declared.status.Status.TheVariants.{Success}
use Rattle.ups_life.specs.declared.entry.Entry.{Entry}
use Rattle.ups_life.specs.declared.request.Ask.TheVariants.{Do}
use Rattle.ups_life.specs.declared.request.Reply.TheVariants.{Status as Answered}
use Rattle.ups_life.specs.Settings.{Settings}
use Rattle.ups_life.specs.Steps.{Claim, past, claim, claimed, is_on, holder}
use Rattle.ups_life.specs.History.{legal}
use Rattle.ups_life.proofs.Accepted.{legal_tail}
use Rattle.ups_life.proofs.OneHolder.{claimed_first, no_claim, claim_stays}
use Rattle.ups_life.proofs.Past.{past-push}
use Rattle.ups_life.proofs.Texts.{text_is_itself}
use Rattle.ups_service.specs.Law.{Others, Seen, is_legal, BeginsHistory, has_call_left, entry, Grants, Refuses}
use Rattle.ups_service.specs.Claiming.{claiming, HasClaimed}
use Rattle.ups_service.proofs.Legality.{beginning_legal}

-- of two beginnings the shorter begins the longer
within : {X : Type 0} (xs ys cs bs : List X) → xs ++ cs ≡ ys ++ bs → length xs ≤ length ys → (rest : List X) × (xs ++ rest ≡ ys)
within [] ys cs bs e h = (ys, refl)
within (x ∷ xs) [] cs bs e h = absurd (omega arith)
within (x ∷ xs) (y ∷ ys) cs bs e h = let r = within xs ys cs bs (cc) (omega arith) in let same : x ≡ y = cc in (r.0, λ i. same i ∷ r.1 i)

-- of the same length they are the same
alike : {X : Type 0} (xs ys cs bs : List X) → xs ++ cs ≡ ys ++ bs → length xs ≡ length ys → xs ≡ ys
alike [] [] cs bs e h = refl
alike [] (y ∷ ys) cs bs e h = absurd (omega arith)
alike (x ∷ xs) [] cs bs e h = absurd (omega arith)
alike (x ∷ xs) (y ∷ ys) cs bs e h = let r = alike xs ys cs bs (cc) (omega arith) in let same : x ≡ y = cc in (λ i. same i ∷ r i)

none_some : (x : Option Claim) (c : Claim) → x ≡ None → x ≡ Some c → ⊥
none_some x c n so = absurd cc

module _ {A : Type 0} (s : Settings) (u : List ℕ) where
  stays : (later es : List (Entry A)) (c : Claim) → legal s (later ++ es) ≡ true → claim es u ≡ Some c → claim (later ++ es) u ≡ Some c
  stays [] es c h is = is
  stays (e ∷ later) es c h is = claim_stays s e (later ++ es) u c h (stays later es c (legal_tail s e (later ++ es) h) is)

  -- an entry that claims the step, and the claim that it is
  pub record Claims (e : Entry A) : Type 0 where
    pub on : is_on u e.request ≡ true
    pub by : Claim
    pub is : claimed e ≡ Some by

  claim_at : (b : List (Entry A)) (e : Entry A) (k : Claims e) → claim (past (b ++ e ∷ [])) u ≡ Some k.by
  claim_at b e k = subst (λ es. claim es u ≡ Some k.by) (sym (past-push b e)) (rw (k.on, k.is) refl)

  -- no claim comes behind another
  not_behind : (h b1 b2 : List (Entry A)) (e1 e2 : Entry A) → is_legal s h → BeginsHistory (b1 ++ e1 ∷ []) h → BeginsHistory (b2 ++ e2 ∷ []) h → Claims e1 → Claims e2 → length (b1 ++ e1 ∷ []) ≤ length b2 → ⊥
  not_behind h b1 b2 e1 e2 ok (r1, p1) (r2, p2) k1 k2 le =
      let both : (b1 ++ e1 ∷ []) ++ r1 ≡ b2 ++ (e2 ∷ r2) = p1 ∙ sym p2 ∙ append_assoc b2 (e2 ∷ []) r2 in
      let (r, is) = within (b1 ++ e1 ∷ []) b2 r1 (e2 ∷ r2) both le in
      let second : is_legal s (b2 ++ e2 ∷ []) = beginning_legal s (b2 ++ e2 ∷ []) r2 (subst (is_legal s) (sym p2) ok) in
      let newest : legal s (e2 ∷ past b2) ≡ true = subst (λ es. legal s es ≡ true) (past-push b2 e2) second in
      let none = no_claim (past b2) u (claimed_first s e2 (past b2) u k2.by newest k2.on k2.is) in
      let split : past b2 ≡ past r ++ past (b1 ++ e1 ∷ []) = ap past (sym is) ∙ reverse-append (b1 ++ e1 ∷ []) r in
      let some = subst (λ es. claim es u ≡ Some k1.by) (sym split) (stays (past r) (past (b1 ++ e1 ∷ [])) k1.by (subst (λ es. legal s es ≡ true) split (legal_tail s e2 (past b2) newest)) (claim_at b1 e1 k1)) in
      none_some (claim (past b2) u) k1.by none some

  pub same_claim : (h b1 b2 : List (Entry A)) (e1 e2 : Entry A) → is_legal s h → BeginsHistory (b1 ++ e1 ∷ []) h → BeginsHistory (b2 ++ e2 ∷ []) h → Claims e1 → Claims e2 → b1 ++ e1 ∷ [] ≡ b2 ++ e2 ∷ []
  same_claim h b1 b2 e1 e2 ok p1 p2 k1 k2 =
      let n1 = length-append b1 (e1 ∷ []) in
      let n2 = length-append b2 (e2 ∷ []) in
      here n1 n2 (nat_lt (length b1) (length b2)) refl (nat_lt (length b2) (length b1)) refl
    where
      here : length (b1 ++ e1 ∷ []) ≡ length b1 + 1 → length (b2 ++ e2 ∷ []) ≡ length b2 + 1 → (less : Bool) → nat_lt (length b1) (length b2) ≡ less → (more : Bool) → nat_lt (length b2) (length b1) ≡ more → b1 ++ e1 ∷ [] ≡ b2 ++ e2 ∷ []
      here n1 n2 true is more q = let lt : length b1 < length b2 = grind (arith, nat_tests) in absurd (not_behind h b1 b2 e1 e2 ok p1 p2 k1 k2 (omega arith))
      here n1 n2 false is true q = let lt : length b2 < length b1 = grind (arith, nat_tests) in absurd (not_behind h b2 b1 e2 e1 ok p2 p1 k2 k1 (omega arith))
      here n1 n2 false is false q =
          let le1 : length b2 ≤ length b1 = grind (arith, nat_tests) in
          let le2 : length b1 ≤ length b2 = grind (arith, nat_tests) in
          alike (b1 ++ e1 ∷ []) (b2 ++ e2 ∷ []) p1.0 p2.0 (p1.1 ∙ sym p2.1) (omega arith)

  pub last_same : (b1 b2 : List (Entry A)) (e1 e2 : Entry A) → b1 ++ e1 ∷ [] ≡ b2 ++ e2 ∷ [] → e1 ≡ e2
  last_same b1 b2 e1 e2 is = let heads : e1 ∷ past b1 ≡ e2 ∷ past b2 = sym (past-push b1 e1) ∙ (ap past is ∙ past-push b2 e2) in cc

  pub held : (h b : List (Entry A)) (e : Entry A) → is_legal s h → BeginsHistory (b ++ e ∷ []) h → (k : Claims e) → claim (past h) u ≡ Some k.by
  held h b e ok (r, p) k =
      let split : past h ≡ past r ++ past (b ++ e ∷ []) = ap past (sym p) ∙ reverse-append (b ++ e ∷ []) r in
      subst (λ es. claim es u ≡ Some k.by) (sym split) (stays (past r) (past (b ++ e ∷ [])) k.by (subst (λ es. legal s es ≡ true) split ok) (claim_at b e k))

  abbrev on_itself : (caller : ℕ) (ae : List ℕ) (moment : ℕ) (uid : List ℕ) → Claims (entry caller ae moment (claiming u uid))
  on_itself caller ae moment uid = record { on = text_is_itself u; by = record { holder = record { caller = caller; ae = ae }; transaction = uid }; is = refl }

  -- what was told to be claimed is entered
  entered_claim : (others : Others) (caller : ℕ) (ae : List ℕ) (moment : ℕ) (after : Seen A) (c : HasClaimed s others caller ae moment u after) → (b : List (Entry A)) × (after.history ≡ b ++ entry caller ae moment (claiming u c.uid) ∷ [])
  entered_claim others caller ae moment after c = at (has_call_left c.seen.calls) c.call
    where
      at : (b : Bool) → MatchBool b (Grants s others caller c.seen ae moment (Do (claiming u c.uid)) (Answered Success) after) (Refuses c.seen (Do (claiming u c.uid)) (Answered Success) after)
          → (b : List (Entry A)) × (after.history ≡ b ++ entry caller ae moment (claiming u c.uid) ∷ [])
      at true g = (c.seen.history ++ g.0, ap (λ (x : Seen A). x.history) g.4)
      at false (told, same) = absurd cc

  pub one_holder : (h : List (Entry A)) (o1 o2 : Others) (c1 c2 : ℕ) (ae1 ae2 : List ℕ) (m1 m2 : ℕ) (after1 after2 : Seen A) → is_legal s h → HasClaimed s o1 c1 ae1 m1 u after1 → HasClaimed s o2 c2 ae2 m2 u after2 → BeginsHistory after1.history h → BeginsHistory after2.history h
      → (after1.history ≡ after2.history) × (c1 ≡ c2) × (ae1 ≡ ae2) × (m1 ≡ m2) × (holder (past h) u ≡ Some (record { caller = c1; ae = ae1 }))
  one_holder h o1 o2 c1 c2 ae1 ae2 m1 m2 after1 after2 ok k1 k2 p1 p2 =
      let (b1, is1) = entered_claim o1 c1 ae1 m1 after1 k1 in
      let (b2, is2) = entered_claim o2 c2 ae2 m2 after2 k2 in
      let e1 : Entry A = entry c1 ae1 m1 (claiming u k1.uid) in
      let e2 : Entry A = entry c2 ae2 m2 (claiming u k2.uid) in
      let q1 : BeginsHistory (b1 ++ e1 ∷ []) h = subst (λ l. BeginsHistory l h) is1 p1 in
      let q2 : BeginsHistory (b2 ++ e2 ∷ []) h = subst (λ l. BeginsHistory l h) is2 p2 in
      let x1 = on_itself c1 ae1 m1 k1.uid in
      let x2 = on_itself c2 ae2 m2 k2.uid in
      let same = same_claim h b1 b2 e1 e2 ok q1 q2 x1 x2 in
      let one : e1 ≡ e2 = last_same b1 b2 e1 e2 same in (
        is1 ∙ (same ∙ sym is2),
        ap (λ (e : Entry A). e.caller) one,
        ap (λ (e : Entry A). e.ae) one,
        ap (λ (e : Entry A). e.moment) one,
        ap (λ (x : Option Claim). option_map (λ (c : Claim). c.holder) x) (held h b1 e1 ok q1 x1),
      )
