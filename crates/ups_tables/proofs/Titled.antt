-- What is said of peers by their places, said of titles.
use Rattle.std.proofs.Common.{◌≡◌, ◌<◌, ℕ, suc, Bool, true, false, ◌&&◌, ◌||◌, cond, List, [], ◌∷◌, length, get_or, Option, None, Some, refl, sym, ap, ◌∙◌, arith, nat_eq}
use Rattle.std.specs.List.{list_any}
use Rattle.std.specs.Option.{option_map}
use Rattle.std.specs.Str.{bytes_eq}
use Rattle.std.proofs.lemmas.Bool.Decides.{nat_tests}
use Rattle.ups_life.specs.declared.peer.Peer.{Peer}
use Rattle.ups_life.specs.declared.watching.Subscription.{Subscription}
use Rattle.ups_life.specs.Watching.{is_peer}
use Rattle.ups_life.proofs.Texts.{same_text, text_is_itself}
use Rattle.ups_life.proofs.Accepted.{differ, neither}
use Rattle.ups_keep.proofs.Waiting.{other_text, is_false}
use Rattle.ups_tables.specs.Seen.{Once}
use Rattle.ups_watch.specs.Rows.{Cells}
use Rattle.ups_watch.specs.Table.{is_locked, is_locked_by_any}
use Rattle.ups_tables.specs.Places.{place_of_title, by_place}

shift_none : (o : Option ℕ) (r : ℕ) → option_map suc o ≡ Some r → (k : ℕ) × (o ≡ Some k) × (r ≡ suc k)
shift_none None r h = absurd cc
shift_none (Some k) r h = (k, refl, (let e : suc k ≡ r = cc in sym e))

-- two titles at one place are one
pub same_place : (ps : List Peer) (v w : List ℕ) (r : ℕ) → place_of_title ps v ≡ Some r → place_of_title ps w ≡ Some r → bytes_eq v w ≡ true
same_place [] v w r h k = absurd cc
same_place (p ∷ ps) v w r h k = at (bytes_eq p.ae v) refl (bytes_eq p.ae w) refl h k (same_place ps v w)
  where
    at : (a : Bool) → bytes_eq p.ae v ≡ a → (b : Bool) → bytes_eq p.ae w ≡ b → cond a (Some 0) (option_map suc (place_of_title ps v)) ≡ Some r → cond b (Some 0) (option_map suc (place_of_title ps w)) ≡ Some r
        → ((q : ℕ) → place_of_title ps v ≡ Some q → place_of_title ps w ≡ Some q → bytes_eq v w ≡ true) → bytes_eq v w ≡ true
    at true a true b h k ih = ap (λ x. bytes_eq x w) (sym (same_text p.ae v a)) ∙ b
    at true a false b h k ih =
        let s = shift_none (place_of_title ps w) r k in
        let z : 0 ≡ r = cc in
        let n : r ≡ suc s.0 = s.2 in
        absurd (omega (arith, z, n))
    at false a true b h k ih =
        let s = shift_none (place_of_title ps v) r h in
        let z : 0 ≡ r = cc in
        let n : r ≡ suc s.0 = s.2 in
        absurd (omega (arith, z, n))
    at false a false b h k ih =
        let s = shift_none (place_of_title ps v) r h in
        let t = shift_none (place_of_title ps w) r k in
        let n : r ≡ suc s.0 = s.2 in
        let m : r ≡ suc t.0 = t.2 in
        let e : t.0 ≡ s.0 = omega (arith, n, m) in
        ih s.0 s.1 (t.1 ∙ ap Some e)

-- a change at a peer's place is a change at its title
pub set_at : {X : Type 0} (ps : List Peer) (receiver w : List ℕ) (r : ℕ) (none : X) (x : X → X) (b : Bool) (f f' : ℕ → X) → place_of_title ps receiver ≡ Some r → ((p : ℕ) → f' p ≡ cond (nat_eq r p && b) (x (f p)) (f p))
    → by_place none f' (place_of_title ps w) ≡ cond (bytes_eq receiver w && b) (x (by_place none f (place_of_title ps w))) (by_place none f (place_of_title ps w))
set_at {X} ps receiver w r none x b f f' here step = at (place_of_title ps w) refl (bytes_eq receiver w) refl
  where
    at : (o : Option ℕ) → place_of_title ps w ≡ o → (own : Bool) → bytes_eq receiver w ≡ own → by_place none f' o ≡ cond (own && b) (x (by_place none f o)) (by_place none f o)
    at None is true own = let never : Some r ≡ None = sym here ∙ ap (place_of_title ps) (same_text receiver w own) ∙ is in absurd cc
    at None is false own = refl
    at (Some p) is true own =
        let same : Some r ≡ Some p = sym here ∙ ap (place_of_title ps) (same_text receiver w own) ∙ is in
        let e : r ≡ p = cc in
        let t : nat_eq r p ≡ true = grind (arith, nat_tests, e) in
        step p ∙ ap (λ k. cond (k && b) (x (f p)) (f p)) t
    at (Some p) is false own =
        let n : nat_eq r p ≡ false = is_false (nat_eq r p) (λ t. let e : p ≡ r = grind (arith, nat_tests, t) in differ (bytes_eq receiver w) own (same_place ps receiver w r here (is ∙ ap Some e))) in
        step p ∙ ap (λ k. cond (k && b) (x (f p)) (f p)) n

pub same_at : {X : Type 0} (o : Option ℕ) (none : X) (f f' : ℕ → X) → ((p : ℕ) → f' p ≡ f p) → by_place none f' o ≡ by_place none f o
same_at None none f f' h = refl
same_at (Some p) none f f' h = h p

-- LOCKS

shifted : (o : Option ℕ) (c : Option Subscription) (cs : Cells) → by_place None (λ i. get_or (c ∷ cs) i None) (option_map suc o) ≡ by_place None (λ i. get_or cs i None) o
shifted None c cs = refl
shifted (Some i) c cs = refl

-- of the peers behind the first the first place is none
behind : (p : Peer) (ps zs : List Peer) (c : Option Subscription) (cs : Cells) → is_peer zs p.ae ≡ false
    → list_any (λ (q : Peer). is_locked (by_place None (λ i. get_or (c ∷ cs) i None) (place_of_title (p ∷ ps) q.ae))) zs ≡ list_any (λ (q : Peer). is_locked (by_place None (λ i. get_or cs i None) (place_of_title ps q.ae))) zs
behind p ps [] c cs none = refl
behind p ps (z ∷ zs) c cs none =
    let n = neither (bytes_eq z.ae p.ae) (is_peer zs p.ae) none in
    ap (λ b. is_locked (by_place None (λ i. get_or (c ∷ cs) i None) (cond b (Some 0) (option_map suc (place_of_title ps z.ae)))) || list_any (λ (q : Peer). is_locked (by_place None (λ i. get_or (c ∷ cs) i None) (place_of_title (p ∷ ps) q.ae))) zs) (other_text p.ae z.ae ∙ n.0)
    ∙ ap (λ o. is_locked o || list_any (λ (q : Peer). is_locked (by_place None (λ i. get_or (c ∷ cs) i None) (place_of_title (p ∷ ps) q.ae))) zs) (shifted (place_of_title ps z.ae) c cs)
    ∙ ap (λ b. is_locked (by_place None (λ i. get_or cs i None) (place_of_title ps z.ae)) || b) (behind p ps zs c cs n.1)

-- a peer keeps a step, by titles and by places
pub kept_by_titles : (ps : List Peer) (row : Cells) → Once ps → length row ≡ length ps → list_any (λ (q : Peer). is_locked (by_place None (λ i. get_or row i None) (place_of_title ps q.ae))) ps ≡ is_locked_by_any row
kept_by_titles [] [] once len = refl
kept_by_titles [] (c ∷ cs) once len = absurd (omega (arith, len))
kept_by_titles (p ∷ ps) [] once len = absurd (omega (arith, len))
kept_by_titles (p ∷ ps) (c ∷ cs) once len =
    ap (λ b. is_locked (by_place None (λ i. get_or (c ∷ cs) i None) (cond b (Some 0) (option_map suc (place_of_title ps p.ae)))) || list_any (λ (q : Peer). is_locked (by_place None (λ i. get_or (c ∷ cs) i None) (place_of_title (p ∷ ps) q.ae))) ps) (text_is_itself p.ae)
    ∙ ap (λ b. is_locked c || b) (behind p ps ps c cs once.0 ∙ kept_by_titles ps cs once.1 (omega (arith, len)))

pub any_same : (p q : Peer → Bool) (ps : List Peer) → ((x : Peer) → p x ≡ q x) → list_any p ps ≡ list_any q ps
any_same p q [] h = refl
any_same p q (x ∷ xs) h = ap (λ b. b || list_any p xs) (h x) ∙ ap (λ b. q x || b) (any_same p q xs h)

pub nobody_locks : (ps : List Peer) (f : Peer → Option Subscription) → ((q : Peer) → f q ≡ None) → list_any (λ (q : Peer). is_locked (f q)) ps ≡ false
nobody_locks [] f none = refl
nobody_locks (p ∷ ps) f none = ap (λ o. is_locked o || list_any (λ (q : Peer). is_locked (f q)) ps) (none p) ∙ nobody_locks ps f none

-- a title's place is within
pub place_within : (ps : List Peer) (w : List ℕ) (r : ℕ) → place_of_title ps w ≡ Some r → r < length ps
place_within [] w r h = absurd cc
place_within (p ∷ ps) w r h = at (bytes_eq p.ae w) h (λ k e. place_within ps w k e)
  where
    at : (b : Bool) → cond b (Some 0) (option_map suc (place_of_title ps w)) ≡ Some r → ((k : ℕ) → place_of_title ps w ≡ Some k → k < length ps) → r < length (p ∷ ps)
    at true e rest = let z : 0 ≡ r = cc in omega (arith, z)
    at false e rest = let s = shift_none (place_of_title ps w) r e in let l = rest s.0 s.1 in let n : r ≡ suc s.0 = s.2 in omega (arith, l, n)
