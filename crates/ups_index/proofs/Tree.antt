-- What becomes of posts in a tree.
use Rattle.std.proofs.Common.{◌≡◌, ◌≢◌, ℕ, ◌≤◌, ◌<◌, ◌+◌, ◌∷◌, [], Bool, true, false, cond, not, List, Contains, filter, refl, sym, ap, ◌∙◌, subst, arith, inl, inr, zero, suc, length, get_or, take, ◌++◌, ◌||◌, true≢false}
use Rattle.std.specs.declared.cmp.Ordering.{Ordering}
use Rattle.std.specs.declared.cmp.Ordering.TheVariants.{Less, Equal, Greater}
use Rattle.std.specs.Cmp.{IsTotalOrder}
use Rattle.std.specs.Ordering.{nat_cmp, on, then_cmp, is_gt, is_eq, ordering_then}
use Rattle.std.specs.BTreeSet.{BTreeSet, contains, UpdatesBy}
use Rattle.std.proofs.lemmas.Bool.{ne_eqb}
use Rattle.std.proofs.Math.Dec.{eqb}
use Rattle.std.proofs.lemmas.List.{get_or_default, take_more, take_all}
use Rattle.std.proofs.lemmas.List.Elements.{Contains-push_cases, Contains-append_cases, Contains-append_left, Contains-append_right}
use Rattle.std.proofs.lemmas.Cmp.{nat_cmp_total, on_total, then_total, ranked, by_ranked}
use Rattle.std.proofs.lemmas.Map.Lookups.{CmpEqualImpliesEq, exact_unsigned}
use Rattle.std.proofs.lemmas.Map.Views.{btree_set_contains_iff}
use Rattle.ups_index.specs.declared.posts.Post.{Post}
use Rattle.ups_index.specs.Posts.{post, KeepsEach, KeepsOthers}

-- posts are in order by their numbers, and then by their places
abbrev pub post_cmp : Post → Post → Ordering
post_cmp = then_cmp (on (λ (p : Post). p.number) nat_cmp) (on (λ (p : Post). p.place) nat_cmp)

pub post_total : IsTotalOrder post_cmp
post_total = then_total (on_total (λ (p : Post). p.number) nat_cmp_total) (on_total (λ (p : Post). p.place) nat_cmp_total)

then_first : (a b : Ordering) → ordering_then a b ≡ Equal → a ≡ Equal
then_first Less b e = e
then_first Equal b e = refl
then_first Greater b e = e

then_second : (a b : Ordering) → ordering_then a b ≡ Equal → b ≡ Equal
then_second Less b e = absurd (true≢false (sym (ap is_eq e)))
then_second Equal b e = e
then_second Greater b e = absurd (true≢false (sym (ap is_eq e)))

pub post_exact : CmpEqualImpliesEq post_cmp
post_exact p q e =
    let n = exact_unsigned p.number q.number (then_first _ _ e) in
    let m = exact_unsigned p.place q.place (then_second (nat_cmp p.number q.number) (nat_cmp p.place q.place) e) in
    λ i. record { number = n i; place = m i }

either : (b c : Bool) → c ≡ true → cond b true c ≡ true
either true c h = refl
either false c h = h

-- a post that is put in
pub put_keeps : (s t : BTreeSet Post) (p : Post) → UpdatesBy post_cmp (post_cmp p) s t true → KeepsEach s.keys t.keys
put_keeps s t p u number place h =
    let q : Post = post number place in
    (btree_set_contains_iff post_total post_exact t q).0 (u.0 q ∙ either (is_eq (post_cmp p q)) (contains post_cmp s q) ((btree_set_contains_iff post_total post_exact s q).1 h))

pub put_has : (s t : BTreeSet Post) (p : Post) → UpdatesBy post_cmp (post_cmp p) s t true → Contains t.keys p
put_has s t p u = (btree_set_contains_iff post_total post_exact t p).0 u.1

-- a post that is taken out
pub others_kept : (s t : BTreeSet Post) (p q : Post) → UpdatesBy post_cmp (post_cmp p) s t false → q ≢ p → Contains s.keys q → Contains t.keys q
others_kept s t p q u apart h =
    (btree_set_contains_iff post_total post_exact t q).0 (u.2 q (differs (is_eq (post_cmp p q)) refl) ∙ (btree_set_contains_iff post_total post_exact s q).1 h)
  where
    equal : (o : Ordering) → is_eq o ≡ true → o ≡ Equal
    equal Less e = absurd (true≢false (sym e))
    equal Equal e = refl
    equal Greater e = absurd (true≢false (sym e))

    differs : (b : Bool) → is_eq (post_cmp p q) ≡ b → is_eq (post_cmp p q) ≡ false
    differs true e = absurd (apart (sym (post_exact p q (equal _ e))))
    differs false e = e

pub taken_keeps : (s t : BTreeSet Post) (number place : ℕ) → UpdatesBy post_cmp (post_cmp (post number place)) s t false → KeepsOthers place s.keys t.keys
taken_keeps s t number place u n other apart h = others_kept s t (post number place) (post n other) u (λ e. apart (ap (λ (p : Post). p.place) e)) h

-- those of the same place too
abbrev pub KeepsNumbers : ℕ → ℕ → List Post → List Post → Type 0
KeepsNumbers number place old new = (other : ℕ) → other ≢ number → Contains old (post other place) → Contains new (post other place)

pub taken_spares : (s t : BTreeSet Post) (number place : ℕ) → UpdatesBy post_cmp (post_cmp (post number place)) s t false → KeepsNumbers number place s.keys t.keys
taken_spares s t number place u n apart h = others_kept s t (post number place) (post n place) u (λ e. apart (ap (λ (p : Post). p.number) e)) h

pub numbers_both : (number place : ℕ) (a b c d : List Post) → KeepsNumbers number place a c → KeepsNumbers number place b d → KeepsNumbers number place (a ++ b) (c ++ d)
numbers_both number place a b c d f g n apart h = elim (Contains-append_cases a b (post n place) h) [
  | inl x ↦ Contains-append_left c d (post n place) (f n apart x)
  | inr y ↦ Contains-append_right c d (post n place) (g n apart y)
]

-- what a filter keeps
pub filter_keeps : {X : Type 0} (p : X → Bool) (xs : List X) (x : X) → p x ≡ true → Contains xs x → Contains (filter p xs) x
filter_keeps p [] x t (k, l, e) = absurd (omega (arith, l))
filter_keeps {X} p (y ∷ ys) x t (k, l, e) = here (p y) refl k l e (filter_keeps p ys x t)
  where
    here : (b : Bool) → p y ≡ b → (k : ℕ) → k < length (y ∷ ys) → get_or (y ∷ ys) k x ≡ x → (Contains ys x → Contains (filter p ys) x) → Contains (cond b (y ∷ filter p ys) (filter p ys)) x
    here true is zero l e later = (0, omega arith, e)
    here true is (suc k) l e later = let (j, m, f) = later (k, omega (arith, l), e) in (suc j, omega (arith, m), f)
    here false is zero l e later = absurd (true≢false (sym t ∙ sym (ap p e) ∙ is))
    here false is (suc k) l e later = later (k, omega (arith, l), e)

-- posts by their numbers
pub is_from : (low number place : ℕ) → low ≤ number → is_gt (post_cmp (post low 0) (post number place)) ≡ false
is_from low number place le = by_ranked (low < number) (low ≡ number) (number < low) (nat_cmp low number) (ranked low number (nat_cmp low number) refl)
    (λ e _. ap (λ (o : Ordering). is_gt (ordering_then o (nat_cmp 0 place))) e)
    (λ e _. ap (λ (o : Ordering). is_gt (ordering_then o (nat_cmp 0 place))) e ∙ least place)
    (λ _ g. absurd (omega (arith, g, le)))
  where
    least : (place : ℕ) → is_gt (nat_cmp 0 place) ≡ false
    least place = by_ranked (0 < place) (0 ≡ place) (place < 0) (nat_cmp 0 place) (ranked 0 place (nat_cmp 0 place) refl) (λ e _. ap is_gt e) (λ e _. ap is_gt e) (λ _ g. absurd (omega (arith, g)))

pub is_before : (number behind place : ℕ) → number < behind → post_cmp (post number place) (post behind 0) ≡ Less
is_before number behind place lt = by_ranked (number < behind) (number ≡ behind) (behind < number) (nat_cmp number behind) (ranked number behind (nat_cmp number behind) refl)
    (λ e _. ap (λ (o : Ordering). ordering_then o (nat_cmp place 0)) e)
    (λ _ g. absurd (omega (arith, g, lt)))
    (λ _ g. absurd (omega (arith, g, lt)))

-- a post more of a list
pub posts_more : (posts old new : List Post) (i : ℕ) → i < length posts → KeepsEach (take i posts) old → KeepsEach old new → Contains new (get_or posts i (post 0 0)) → KeepsEach (take (i + 1) posts) new
posts_more posts old new i l has keeps this number place h =
    let p : Post = get_or posts i (post 0 0) in
    let is : p ≡ get_or posts i p = get_or_default posts i (post 0 0) p l in
    elim (Contains-push_cases (take i posts) p (post number place) (subst (λ (t : List Post). Contains t (post number place)) (take_more posts i p l ∙ ap (λ (q : Post). take i posts ++ q ∷ []) (sym is)) h)) [
      | inl a ↦ keeps number place (has number place a)
      | inr e ↦ subst (λ (q : Post). Contains new q) e this
    ]

-- the posts that wait without one
abbrev pub is_apart : ℕ → ℕ → Post → Bool
is_apart number place p = not (eqb p.place place) || not (eqb p.number number)

pub apart_keeps : (posts : List Post) (number place : ℕ) → KeepsOthers place posts (filter (is_apart number place) posts)
apart_keeps posts number place n other apart h =
    filter_keeps (is_apart number place) posts (post n other) (ap (λ (b : Bool). not b || not (eqb n number)) (ne_eqb other place apart)) h

-- the posts that wait at other places
abbrev pub is_elsewhere : ℕ → Post → Bool
is_elsewhere place p = not (eqb p.place place)

pub elsewhere_keeps : (posts : List Post) (place : ℕ) → KeepsOthers place posts (filter (is_elsewhere place) posts)
elsewhere_keeps posts place n other apart h =
    filter_keeps (is_elsewhere place) posts (post n other) (ap not (ne_eqb other place apart)) h

pub live_all : (posts new : List Post) (i : ℕ) → length posts ≤ i → KeepsEach (take i posts) new → KeepsEach posts new
live_all posts new i l h = subst (λ (t : List Post). KeepsEach t new) (take_all i posts l) h

or_true : (b : Bool) → b || true ≡ true
or_true true = refl
or_true false = refl

pub apart_spares : (posts : List Post) (number place : ℕ) → KeepsNumbers number place posts (filter (is_apart number place) posts)
apart_spares posts number place n apart h =
    filter_keeps (is_apart number place) posts (post n place) (ap (λ (b : Bool). not (eqb place place) || not b) (ne_eqb n number apart) ∙ or_true (not (eqb place place))) h
