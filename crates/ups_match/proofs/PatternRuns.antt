-- How the runs of a pattern are found in a text like it.
use Rattle.std.proofs.Common.{◌≡◌, ◌↔◌, ◌≤◌, ◌-◌, ◌+◌, ◌&&◌, ◌||◌, ℕ, zero, suc, Bool, true, false, not, cond, List, [], ◌∷◌, ◌++◌, length, replicate, take, drop, refl, sym, ap, ◌∙◌, subst, arith, append_assoc, length-append, length-drop, append-nil, drop-drop}
use Rattle.std.proofs.lemmas.List.{take-append-drop, nil_from_length}
use Rattle.std.proofs.Math.Seq.{drop-append-add, drop-append_seam}
use Rattle.std.specs.Prelude.{Option, None, Some, is_some, IsTrue, ◌==◌}
use Rattle.std.proofs.lemmas.Bool.Decides.{nat_tests, same_from_decides}
use Rattle.ups_match.proofs.Fields.{passes-front}
use Rattle.std.specs.Bool.{MatchBool}
use Rattle.std.specs.List.{AllPass, prefix_len, list_any}
use Rattle.ups_match.specs.Likeness.{is_star, is_question_mark, MatchesPart, IsLike, begins_like, ends_of, is_like}
use Rattle.ups_match.specs.Runs.{is_no_star, run_of, behind_run, behind_front, or_behind, behind_first}

pub same_number : (n : ℕ) → (n == n) ≡ true
same_number n = grind (arith, nat_tests)

-- a byte other than * stands for one byte
pub one_byte : (p : ℕ) (part : List ℕ) → is_star p ≡ false → MatchesPart p part → (b : ℕ) × (part ≡ b ∷ []) × ((is_question_mark p || p == b) ≡ true)
one_byte p part other stands = go (is_question_mark p) (rw other at stands)
  where
    single : (xs : List ℕ) → length xs ≡ 1 → (b : ℕ) × (xs ≡ b ∷ [])
    single [] h = absurd (omega arith)
    single (b ∷ []) h = (b, refl)
    single (b ∷ c ∷ more) h = absurd (omega arith)

    go : (q : Bool) → MatchBool q (length part ≡ 1) (part ≡ p ∷ []) → (b : ℕ) × (part ≡ b ∷ []) × ((q || p == b) ≡ true)
    go true h = let x = single part h in (x.0, x.1, refl)
    go false h = (p, h, same_number p)

pub one_byte_back : (p b : ℕ) → is_star p ≡ false → (is_question_mark p || p == b) ≡ true → MatchesPart p (b ∷ [])
one_byte_back p b other fits = rw other (go (is_question_mark p) fits)
  where
    go : (q : Bool) → (q || p == b) ≡ true → MatchBool q (length (b ∷ []) ≡ 1) (b ∷ [] ≡ p ∷ [])
    go true h = refl
    go false h = let e : p ≡ b = grind (arith, nat_tests) in ap (λ (x : ℕ). x ∷ []) (sym e)

-- what is left of a text behind a run is like the rest of a pattern
abbrev pub LeftLike : List ℕ → Option (List ℕ) → Type 0
LeftLike ps None = ⊥
LeftLike ps (Some rest) = IsLike ps rest

abbrev pub NoStars : List ℕ → Type 0
NoStars run = AllPass is_no_star run

no_star : (p : ℕ) → is_no_star p ≡ true → is_star p ≡ false
no_star p h = go (is_star p) h
  where
    go : (b : Bool) → not b ≡ true → b ≡ false
    go true e = cc
    go false e = refl

head_no_star : (p : ℕ) (run : List ℕ) → NoStars (p ∷ run) → is_star p ≡ false
head_no_star p run h = no_star p (h 0 0 (omega arith))

tail_no_stars : (p : ℕ) (run : List ℕ) → NoStars (p ∷ run) → NoStars run
tail_no_stars p run h k d lt = h (suc k) d (omega arith)

none_before : (part rest : List ℕ) → [] ≡ part ++ rest → rest ≡ []
none_before [] rest e = sym e
none_before (x ∷ xs) rest e = cc

-- a run stands for the bytes at the front of a text, and the rest of the pattern for what is left
pub left_like : (run ps text : List ℕ) → NoStars run → IsLike (run ++ ps) text ↔ LeftLike ps (behind_front run text)
left_like [] ps text all = (λ h. h, λ h. h)
left_like (p ∷ run) ps [] all = (λ h. let one = one_byte p h.0 (head_no_star p run all) h.3 in let e : [] ≡ one.0 ∷ h.1 = h.2 ∙ ap (λ (x : List ℕ). x ++ h.1) one.1 in cc, λ h. absurd h)
left_like (p ∷ run) ps (b ∷ bs) all = go (left_like run ps bs (tail_no_stars p run all)) (is_question_mark p || p == b) refl
  where
    go : (IsLike (run ++ ps) bs ↔ LeftLike ps (behind_front run bs)) → (q : Bool) → (is_question_mark p || p == b) ≡ q → IsLike (p ∷ run ++ ps) (b ∷ bs) ↔ LeftLike ps (cond q (behind_front run bs) None)
    go more true is = (
      λ h. let one = one_byte p h.0 (head_no_star p run all) h.3 in
          let e : b ∷ bs ≡ one.0 ∷ h.1 = h.2 ∙ ap (λ (x : List ℕ). x ++ h.1) one.1 in
          let same : h.1 ≡ bs = cc in
          more.0 (subst (λ (t : List ℕ). IsLike (run ++ ps) t) same h.4),
      λ h. (b ∷ [], bs, refl, one_byte_back p b (head_no_star p run all) is, more.1 h),
    )
    go more false is = (
      λ h. let one = one_byte p h.0 (head_no_star p run all) h.3 in
          let e : b ∷ bs ≡ one.0 ∷ h.1 = h.2 ∙ ap (λ (x : List ℕ). x ++ h.1) one.1 in
          let same : one.0 ≡ b = cc in
          let fits = one.2 in
          let wrong : false ≡ true = sym is ∙ ap (λ (x : ℕ). is_question_mark p || p == x) (sym same) ∙ fits in
          cc,
      λ h. absurd h,
    )

-- a * stands for more bytes as well
pub more_before : (ps text : List ℕ) (n : ℕ) → IsLike (42 ∷ ps) (drop n text) → IsLike (42 ∷ ps) text
more_before ps text n h =
    (take n text ++ h.0, h.1, sym (take-append-drop n text) ∙ ap (λ (x : List ℕ). take n text ++ x) h.2 ∙ sym (append_assoc (take n text) h.0 h.1), tt, h.4)

-- and a * behind a * says no more
star_again : (ps text : List ℕ) → IsLike (42 ∷ ps) text ↔ IsLike (42 ∷ 42 ∷ ps) text
star_again ps text = (
  λ h. ([], text, refl, tt, h),
  λ h. (h.0 ++ h.4.0, h.4.1, h.2 ∙ ap (λ (x : List ℕ). h.0 ++ x) h.4.2 ∙ sym (append_assoc h.0 h.4.0 h.4.1), tt, h.4.4),
)

pub stars_again : (n : ℕ) (ps text : List ℕ) → IsLike (42 ∷ ps) text ↔ IsLike (42 ∷ replicate n 42 ++ ps) text
stars_again zero ps text = (λ h. h, λ h. h)
stars_again (suc n) ps text =
    let more = stars_again n ps text in
    let one = star_again (replicate n 42 ++ ps) text in
    (λ h. one.0 (more.0 h), λ h. more.1 (one.1 h))

-- a run stands for as many bytes as it has
pub behind_is : (run text left : List ℕ) → behind_front run text ≡ Some left → (left ≡ drop (length run) text) × (length left + length run ≡ length text)
behind_is [] text left e = let same : text ≡ left = cc in (sym same, rw same (omega arith))
behind_is (p ∷ run) [] left e = cc
behind_is (p ∷ run) (b ∷ bs) left e = go (λ h. behind_is run bs left h) (is_question_mark p || p == b) e
  where
    go : (behind_front run bs ≡ Some left → (left ≡ drop (length run) bs) × (length left + length run ≡ length bs)) → (q : Bool) → cond q (behind_front run bs) None ≡ Some left → (left ≡ drop (length run) bs) × (length left + suc (length run) ≡ suc (length bs))
    go more true h = let m = more h in (m.0, omega arith)
    go more false h = cc

-- bytes and what stands behind a run, behind them or before them
later : (part rest : List ℕ) (n : ℕ) → drop n rest ≡ drop (length part) (drop n (part ++ rest))
later part rest n =
    let sum : length part + n ≡ n + length part = omega arith in
    sym (drop-append-add part rest n) ∙ ap (λ (k : ℕ). drop k (part ++ rest)) sum ∙ sym (drop-drop (length part) n (part ++ rest))

-- where a run fits, the rest of the pattern may as well be looked for behind this first place
pub first_fits : (run ps text left : List ℕ) → NoStars run → behind_front run text ≡ Some left → IsLike (42 ∷ run ++ 42 ∷ ps) text ↔ IsLike (42 ∷ ps) left
first_fits run ps text left all found = (
  λ h. let found_later = (left_like run (42 ∷ ps) h.1 all).0 h.4 in here h.0 h.1 h.2 (behind_front run h.1) refl found_later,
  λ h. ([], text, refl, tt, (left_like run (42 ∷ ps) text all).1 (subst (LeftLike (42 ∷ ps)) (sym found) h)),
)
  where
    here : (part rest : List ℕ) → text ≡ part ++ rest → (o : Option (List ℕ)) → behind_front run rest ≡ o → LeftLike (42 ∷ ps) o → IsLike (42 ∷ ps) left
    here part rest e None is h = absurd h
    here part rest e (Some later_left) is h =
        let there = (behind_is run rest later_left is).0 in
        let first = (behind_is run text left found).0 in
        let same : later_left ≡ drop (length part) left = there ∙ later part rest (length run) ∙ ap (λ (t : List ℕ). drop (length part) (drop (length run) t)) (sym e) ∙ ap (drop (length part)) (sym first) in
        more_before ps left (length part) (subst (IsLike (42 ∷ ps)) same h)

pub first_like : (run ps text : List ℕ) → NoStars run → IsLike (42 ∷ run ++ 42 ∷ ps) text ↔ LeftLike (42 ∷ ps) (behind_first run text)
first_like run ps [] all = (
  λ h. (left_like run (42 ∷ ps) [] all).0 (subst (IsLike (run ++ 42 ∷ ps)) (none_before h.0 h.1 h.2) h.4),
  λ h. ([], [], refl, tt, (left_like run (42 ∷ ps) [] all).1 h),
)
first_like run ps (b ∷ bs) all = go (first_like run ps bs all) (behind_front run (b ∷ bs)) refl
  where
    go : (IsLike (42 ∷ run ++ 42 ∷ ps) bs ↔ LeftLike (42 ∷ ps) (behind_first run bs)) → (o : Option (List ℕ)) → behind_front run (b ∷ bs) ≡ o → IsLike (42 ∷ run ++ 42 ∷ ps) (b ∷ bs) ↔ LeftLike (42 ∷ ps) (or_behind o (behind_first run bs))
    go more (Some left) is = first_fits run ps (b ∷ bs) left all is
    go more None is = (λ h. on h.0 h.1 h.2 h.4, λ h. let there = more.1 h in (b ∷ there.0, there.1, ap (λ (t : List ℕ). b ∷ t) there.2, tt, there.4))
      where
        on : (part rest : List ℕ) → b ∷ bs ≡ part ++ rest → IsLike (run ++ 42 ∷ ps) rest → LeftLike (42 ∷ ps) (behind_first run bs)
        on [] rest e h = absurd (subst (LeftLike (42 ∷ ps)) is ((left_like run (42 ∷ ps) (b ∷ bs) all).0 (subst (IsLike (run ++ 42 ∷ ps)) (sym e) h)))
        on (x ∷ part) rest e h = let same : bs ≡ part ++ rest = cc in more.0 (part, rest, same, tt, h)

-- a run alone
only_run : (run text : List ℕ) → NoStars run → IsLike run text → (length text ≡ length run) × (is_some (behind_front run text) ≡ true)
only_run run text all h = on (behind_front run text) refl ((left_like run [] text all).0 (subst (λ (p : List ℕ). IsLike p text) (sym (append-nil run)) h))
  where
    on : (o : Option (List ℕ)) → behind_front run text ≡ o → LeftLike [] o → (length text ≡ length run) × (is_some o ≡ true)
    on None is h = absurd h
    on (Some left) is h = let l = (behind_is run text left is).1 in let none : length left ≡ 0 = ap length h in (omega arith, refl)

-- a run at the end of a text
pub last_like : (run text : List ℕ) → NoStars run → IsLike (42 ∷ run) text → (length run ≤ length text) × (is_some (behind_front run (drop (length text - length run) text)) ≡ true)
last_like run text all h =
    let only = only_run run h.1 all h.4 in
    let whole : length text ≡ length h.0 + length h.1 = ap length h.2 ∙ length-append h.0 h.1 in
    let place : length text - length run ≡ length h.0 = omega arith in
    let end : drop (length text - length run) text ≡ h.1 = ap (λ (n : ℕ). drop n text) place ∙ ap (drop (length h.0)) h.2 ∙ drop-append_seam h.0 h.1 in
    (omega arith, ap (λ (t : List ℕ). is_some (behind_front run t)) end ∙ only.1)

pub last_like_back : (run text : List ℕ) → NoStars run → length run ≤ length text → is_some (behind_front run (drop (length text - length run) text)) ≡ true → IsLike (42 ∷ run) text
last_like_back run text all fits h = on (behind_front run (drop (length text - length run) text)) refl h
  where
    on : (o : Option (List ℕ)) → behind_front run (drop (length text - length run) text) ≡ o → is_some o ≡ true → IsLike (42 ∷ run) text
    on None is h = cc
    on (Some left) is h =
        let l = (behind_is run (drop (length text - length run) text) left is).1 in
        let none : left ≡ [] = nil_from_length left (omega (arith, length-drop (length text - length run) text)) in
        let like = (left_like run [] (drop (length text - length run) text) all).1 (subst (LeftLike []) (sym is) none) in
        (take (length text - length run) text, drop (length text - length run) text, sym (take-append-drop (length text - length run) text), tt, subst (λ (p : List ℕ). IsLike p (drop (length text - length run) text)) (append-nil run) like)

-- a pattern is its first run and what stands behind it
pub run_and_rest : (pattern : List ℕ) → run_of pattern ++ behind_run pattern ≡ pattern
run_and_rest pattern = take-append-drop (prefix_len is_no_star pattern) pattern

pub run_no_stars : (pattern : List ℕ) → NoStars (run_of pattern)
run_no_stars pattern = passes-front is_no_star pattern

-- what stands behind the first run begins with a *
pub star_behind : (pattern : List ℕ) (b : ℕ) (after : List ℕ) → behind_run pattern ≡ b ∷ after → b ≡ 42
star_behind [] b after e = cc
star_behind (p ∷ pattern) b after e = go (λ h. star_behind pattern b after h) (is_star p) refl e
  where
    go : (behind_run pattern ≡ b ∷ after → b ≡ 42) → (q : Bool) → is_star p ≡ q → drop (cond (not q) (1 + prefix_len is_no_star pattern) 0) (p ∷ pattern) ≡ b ∷ after → b ≡ 42
    go more true is h = let same : p ≡ b = cc in let star : p ≡ 42 = grind (arith, nat_tests) in sym same ∙ star
    go more false is h =
        let one : 1 + prefix_len is_no_star pattern ≡ suc (prefix_len is_no_star pattern) = omega arith in
        more (sym (ap (λ (n : ℕ). drop n (p ∷ pattern)) one) ∙ h)

-- the steps of the matcher

runs_and_star : (pattern run behind after : List ℕ) (b : ℕ) → run ≡ run_of pattern → behind ≡ behind_run pattern → behind ≡ b ∷ after → run ++ 42 ∷ after ≡ pattern
runs_and_star pattern run behind after b is_run is_behind more =
    let star = star_behind pattern b after (sym is_behind ∙ more) in
    let tail : 42 ∷ after ≡ behind_run pattern = ap (λ (x : ℕ). x ∷ after) (sym star) ∙ sym more ∙ is_behind in
    ap (λ (x : List ℕ). x ++ 42 ∷ after) is_run ∙ ap (λ (x : List ℕ). run_of pattern ++ x) tail ∙ run_and_rest pattern

runs_alone : (pattern run behind : List ℕ) → run ≡ run_of pattern → behind ≡ behind_run pattern → behind ≡ [] → run ≡ pattern
runs_alone pattern run behind is_run is_behind none =
    is_run ∙ sym (append-nil (run_of pattern)) ∙ ap (λ (x : List ℕ). run_of pattern ++ x) (sym none ∙ is_behind) ∙ run_and_rest pattern

no_stars_in : (pattern run : List ℕ) → run ≡ run_of pattern → NoStars run
no_stars_in pattern run is_run = subst NoStars (sym is_run) (run_no_stars pattern)

pub first_run : (pattern run behind after text : List ℕ) (b : ℕ) → run ≡ run_of pattern → behind ≡ behind_run pattern → behind ≡ b ∷ after → IsLike pattern text ↔ LeftLike (42 ∷ after) (behind_front run text)
first_run pattern run behind after text b is_run is_behind more =
    subst (λ (p : List ℕ). IsLike p text ↔ LeftLike (42 ∷ after) (behind_front run text)) (runs_and_star pattern run behind after b is_run is_behind more) (left_like run (42 ∷ after) text (no_stars_in pattern run is_run))

pub next_run : (pattern run behind after text : List ℕ) (b : ℕ) → run ≡ run_of pattern → behind ≡ behind_run pattern → behind ≡ b ∷ after → IsLike (42 ∷ pattern) text ↔ LeftLike (42 ∷ after) (behind_first run text)
next_run pattern run behind after text b is_run is_behind more =
    subst (λ (p : List ℕ). IsLike (42 ∷ p) text ↔ LeftLike (42 ∷ after) (behind_first run text)) (runs_and_star pattern run behind after b is_run is_behind more) (first_like run after text (no_stars_in pattern run is_run))

pub whole_run : (pattern run behind text : List ℕ) → run ≡ run_of pattern → behind ≡ behind_run pattern → behind ≡ [] → IsLike pattern text ↔ LeftLike [] (behind_front run text)
whole_run pattern run behind text is_run is_behind none =
    subst (λ (p : List ℕ). IsLike p text ↔ LeftLike [] (behind_front run text)) (append-nil run ∙ runs_alone pattern run behind is_run is_behind none) (left_like run [] text (no_stars_in pattern run is_run))

pub end_run : (pattern run behind text : List ℕ) → run ≡ run_of pattern → behind ≡ behind_run pattern → behind ≡ [] → (IsLike (42 ∷ run) text ↔ IsLike (42 ∷ pattern) text)
end_run pattern run behind text is_run is_behind none =
    let same = runs_alone pattern run behind is_run is_behind none in
    (λ h. subst (λ (p : List ℕ). IsLike (42 ∷ p) text) same h, λ h. subst (λ (p : List ℕ). IsLike (42 ∷ p) text) (sym same) h)

-- where the first run doesn't fit, the text isn't like the pattern
pub no_run : (pattern run text : List ℕ) → run ≡ run_of pattern → behind_front run text ≡ None → IsLike pattern text → ⊥
no_run pattern run text is_run none like =
    let whole : run ++ behind_run pattern ≡ pattern = ap (λ (x : List ℕ). x ++ behind_run pattern) is_run ∙ run_and_rest pattern in
    let left = (left_like run (behind_run pattern) text (no_stars_in pattern run is_run)).0 (subst (λ (p : List ℕ). IsLike p text) (sym whole) like) in
    subst (LeftLike (behind_run pattern)) none left

pub empty_left : (left : List ℕ) (b : Bool) → b ≡ (length left == 0) → (IsTrue b ↔ (left ≡ []))
empty_left [] b e = (λ h. refl, λ h. e)
empty_left (x ∷ xs) b e = (λ h. let wrong : length (x ∷ xs) ≡ 0 = grind (arith, nat_tests) in absurd (omega arith), λ h. cc)

-- by the computing definition

any_part : (test : List ℕ → Bool) (Good : List ℕ → Type 0) → ((t : List ℕ) → IsTrue (test t) ↔ Good t) → (text : List ℕ) → IsTrue (list_any test (ends_of text)) ↔ ((part : List ℕ) × (rest : List ℕ) × (text ≡ part ++ rest) × Unit {0} × Good rest)
any_part test Good same [] = (λ h. go (test []) refl h, λ h. let none = none_before h.0 h.1 h.2 in let t = (same []).1 (subst Good none h.4) in rw t)
  where
    go : (q : Bool) → test [] ≡ q → IsTrue (q || false) → (part : List ℕ) × (rest : List ℕ) × ([] ≡ part ++ rest) × Unit {0} × Good rest
    go true is h = ([], [], refl, tt, (same []).0 is)
    go false is h = cc
any_part test Good same (b ∷ bs) = (λ h. go (any_part test Good same bs) (test (b ∷ bs)) refl h, λ h. back (any_part test Good same bs) h.0 h.1 h.2 h.4)
  where
    go : (IsTrue (list_any test (ends_of bs)) ↔ ((part : List ℕ) × (rest : List ℕ) × (bs ≡ part ++ rest) × Unit {0} × Good rest)) → (q : Bool) → test (b ∷ bs) ≡ q → IsTrue (q || list_any test (ends_of bs)) → (part : List ℕ) × (rest : List ℕ) × (b ∷ bs ≡ part ++ rest) × Unit {0} × Good rest
    go more true is h = ([], b ∷ bs, refl, tt, (same (b ∷ bs)).0 is)
    go more false is h = let there = more.0 h in (b ∷ there.0, there.1, ap (λ (t : List ℕ). b ∷ t) there.2, tt, there.4)

    back : (IsTrue (list_any test (ends_of bs)) ↔ ((part : List ℕ) × (rest : List ℕ) × (bs ≡ part ++ rest) × Unit {0} × Good rest)) → (part rest : List ℕ) → b ∷ bs ≡ part ++ rest → Good rest → IsTrue (test (b ∷ bs) || list_any test (ends_of bs))
    back more [] rest e good = let t = (same (b ∷ bs)).1 (subst Good (sym e) good) in rw t
    back more (x ∷ part) rest e good = let tail : bs ≡ part ++ rest = cc in let t = more.1 (part, rest, tail, tt, good) in rw t (either (test (b ∷ bs)))
      where
        either : (q : Bool) → (q || true) ≡ true
        either true = refl
        either false = refl

pub decided : (pattern text : List ℕ) → IsTrue (is_like pattern text) ↔ IsLike pattern text
decided [] [] = (λ h. refl, λ h. refl)
decided [] (b ∷ bs) = (λ h. cc, λ h. cc)
decided (p ∷ ps) text = go (λ t. decided ps t) (is_star p) refl
  where
    go : ((t : List ℕ) → IsTrue (is_like ps t) ↔ IsLike ps t) → (q : Bool) → is_star p ≡ q → IsTrue (cond q (list_any (is_like ps) (ends_of text)) (begins_like p text && is_like ps (drop 1 text))) ↔ IsLike (p ∷ ps) text
    go more true is = let any = any_part (is_like ps) (IsLike ps) more text in
        (λ h. let x = any.0 h in (x.0, x.1, x.2, subst (λ (q : Bool). MatchBool q (Unit {0}) (MatchBool (is_question_mark p) (length x.0 ≡ 1) (x.0 ≡ p ∷ []))) (sym is) tt, x.4), λ h. any.1 (h.0, h.1, h.2, tt, h.4))
    go more false is = other more is text
      where
        other : ((t : List ℕ) → IsTrue (is_like ps t) ↔ IsLike ps t) → is_star p ≡ false → (t : List ℕ) → IsTrue (begins_like p t && is_like ps (drop 1 t)) ↔ IsLike (p ∷ ps) t
        other more is [] = (λ h. cc, λ h. let one = one_byte p h.0 is h.3 in let e : [] ≡ one.0 ∷ h.1 = h.2 ∙ ap (λ (x : List ℕ). x ++ h.1) one.1 in cc)
        other more is (b ∷ bs) = (
          λ h. on (is_question_mark p || p == b) refl h,
          λ h. let one = one_byte p h.0 is h.3 in
              let e : b ∷ bs ≡ one.0 ∷ h.1 = h.2 ∙ ap (λ (x : List ℕ). x ++ h.1) one.1 in
              let first : one.0 ≡ b = cc in
              let rest : h.1 ≡ bs = cc in
              let like = (more bs).1 (subst (IsLike ps) rest h.4) in
              let fits : (is_question_mark p || p == b) ≡ true = ap (λ (x : ℕ). is_question_mark p || p == x) (sym first) ∙ one.2 in
              rw fits like,
        )
          where
            on : (q : Bool) → (is_question_mark p || p == b) ≡ q → IsTrue (q && is_like ps bs) → IsLike (p ∷ ps) (b ∷ bs)
            on true fits h = (b ∷ [], bs, refl, one_byte_back p b is fits, (more bs).0 h)
            on false fits h = cc

-- two answers that are both right are the same
pub same_answer : (result : Bool) (pattern text : List ℕ) → (IsTrue result ↔ IsLike pattern text) → result ≡ is_like pattern text
same_answer result pattern text same = same_from_decides result (is_like pattern text) same (decided pattern text)
