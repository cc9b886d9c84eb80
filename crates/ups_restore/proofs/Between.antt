-- The shifts between two histories, peer by peer, and records that are gathered one by one.
use Rattle.std.proofs.Common.{◌≡◌, ℕ, ◌<◌, ◌≤◌, ◌+◌, Bool, true, false, ◌||◌, cond, List, [], ◌∷◌, ◌++◌, length, map, take, get_or, refl, sym, ap, subst, ◌∙◌, arith}
use Rattle.std.specs.List.{All}
use Rattle.std.specs.Str.{bytes_eq}
use Rattle.std.proofs.lemmas.List.{map-append, take_more, take_all}
use Rattle.std.proofs.lemmas.List.Elements.{All-more}
use Rattle.ups_life.specs.declared.entry.Entry.{Entry}
use Rattle.ups_life.specs.declared.peer.Peer.{Peer}
use Rattle.ups_life.specs.Settings.{Settings}
use Rattle.ups_life.specs.History.{legal}
use Rattle.ups_life.specs.Watching.{is_peer}
use Rattle.ups_life.proofs.Texts.{same_text}
use Rattle.ups_compact.specs.declared.shifts.Shift.{Shift}
use Rattle.ups_compact.specs.Shifting.{shift}
use Rattle.ups_compact.specs.Shifts.{has_shift, less_by}
use Rattle.ups_compact.proofs.Outside.{no_events}
use Rattle.ups_compact.proofs.Summing.{has_added, less_added}

-- ONE MORE of those that are made of each
pub made_more : {X Y : Type 0} (f : X → Y) (xs : List X) (i : ℕ) (x : X) (now then : List Y) (y : Y) → i < length xs → x ≡ get_or xs i x → now ≡ map f (take i xs) → y ≡ f x → then ≡ now ++ y ∷ []
    → then ≡ map f (take (i + 1) xs)
made_more {X} {Y} f xs i x now then y low is was own put =
    put
    ∙ ((λ k. was k ++ own k ∷ [])
    ∙ (sym (map-append f (take i xs) (x ∷ [])) ∙ ap (map f) (ap (λ (z : X). take i xs ++ z ∷ []) is ∙ sym (take_more xs i x low))))

pub made_all : {X Y : Type 0} (f : X → Y) (xs : List X) (i : ℕ) (now : List Y) → length xs ≤ i → now ≡ map f (take i xs) → now ≡ map f xs
made_all f xs i now end was = was ∙ ap (map f) (take_all i xs end)

pub all_more : {X : Type 0} (P : X → Type 0) (xs : List X) (i : ℕ) (x : X) → i < length xs → x ≡ get_or xs i x → All P (take i xs) → P x → All P (take (i + 1) xs)
all_more P xs i x low is before here = All-more P xs i x low before (subst P is here)

pub all_all : {X : Type 0} (P : X → Type 0) (xs : List X) (i : ℕ) → length xs ≤ i → All P (take i xs) → All P xs
all_all {X} P xs i end before = subst (λ (ys : List X). All P ys) (take_all i xs end) before

-- THE PEERS
or_assoc : (a b c : Bool) → a || (b || c) ≡ (a || b) || c
or_assoc true b c = refl
or_assoc false b c = refl

or_false : (a : Bool) → a || false ≡ a
or_false true = refl
or_false false = refl

peer_added : (ps : List Peer) (p : Peer) (w : List ℕ) → is_peer (ps ++ p ∷ []) w ≡ is_peer ps w || bytes_eq p.ae w
peer_added [] p w = or_false (bytes_eq p.ae w)
peer_added (q ∷ ps) p w = ap (λ (b : Bool). bytes_eq q.ae w || b) (peer_added ps p w) ∙ or_assoc (bytes_eq q.ae w) (is_peer ps w) (bytes_eq p.ae w)

peer_next : (ps : List Peer) (i : ℕ) (p : Peer) (w : List ℕ) → i < length ps → p ≡ get_or ps i p → is_peer (take (i + 1) ps) w ≡ is_peer (take i ps) w || bytes_eq p.ae w
peer_next ps i p w low is =
    ap (λ (qs : List Peer). is_peer qs w) (take_more ps i p low)
    ∙ ap (λ (q : Peer). is_peer (take i ps ++ q ∷ []) w) (sym is)
    ∙ peer_added (take i ps) p w

-- the shifts are those of these peers
pub record AreOfPeers (f : List ℕ → ℕ) (ps : List Peer) (shifts : List Shift) : Type 0 where
  pub less : (w : List ℕ) → less_by shifts w ≡ cond (is_peer ps w) (f w) 0
  pub has : (w : List ℕ) → has_shift shifts w ≡ is_peer ps w

pub of_no_peers : (f : List ℕ → ℕ) (shifts : List Shift) → shifts ≡ [] → AreOfPeers f [] shifts
of_no_peers f shifts none = record { less = λ w. ap (λ (xs : List Shift). less_by xs w) none; has = λ w. ap (λ (xs : List Shift). has_shift xs w) none }

pub one_peer_more : (f : List ℕ → ℕ) (ps : List Peer) (i : ℕ) (p : Peer) (now then : List Shift) (n : ℕ) → i < length ps → p ≡ get_or ps i p → AreOfPeers f (take i ps) now → n ≡ f p.ae
    → then ≡ now ++ record { watcher = p.ae; less = n } ∷ [] → AreOfPeers f (take (i + 1) ps) then
one_peer_more f ps i p now then n low is was own put = record {
  less = λ w.
      ap (λ (xs : List Shift). less_by xs w) put
      ∙ less_added now (record { watcher = p.ae; less = n }) w
      ∙ ap (λ (b : Bool). cond b (less_by now w) (cond (bytes_eq p.ae w) n 0)) (was.has w)
      ∙ at w (is_peer (take i ps) w) (was.less w) (bytes_eq p.ae w) refl
      ∙ ap (λ (b : Bool). cond b (f w) 0) (sym (peer_next ps i p w low is));
  has = λ w.
      ap (λ (xs : List Shift). has_shift xs w) put
      ∙ has_added now (record { watcher = p.ae; less = n }) w
      ∙ ap (λ (b : Bool). b || bytes_eq p.ae w) (was.has w)
      ∙ sym (peer_next ps i p w low is);
}
  where
    at : (w : List ℕ) (b : Bool) → less_by now w ≡ cond b (f w) 0 → (d : Bool) → bytes_eq p.ae w ≡ d → cond b (less_by now w) (cond d n 0) ≡ cond (b || d) (f w) 0
    at w true h d same = h
    at w false h true same = own ∙ ap f (same_text p.ae w same)
    at w false h false same = refl

-- THE SHIFT of who is no peer is 0: it is told nothing
pub of_all : {A : Type 0} (s : Settings) (by log : List (Entry A)) (ps : List Peer) (i : ℕ) (shifts : List Shift) → legal s log ≡ true → ps ≡ s.peers → length ps ≤ i → AreOfPeers (shift s by log) (take i ps) shifts
    → (w : List ℕ) → less_by shifts w ≡ shift s by log w
of_all {A} s by log ps i shifts l all end are w = are.less w ∙ at (is_peer s.peers w) refl (ap (λ (qs : List Peer). is_peer qs w) (take_all i ps end ∙ all))
  where
    nothing : is_peer s.peers w ≡ false → 0 ≡ shift s by log w
    nothing out = let none = ap length (no_events s w out log l) in omega (arith, none)

    at : (b : Bool) → is_peer s.peers w ≡ b → is_peer (take i ps) w ≡ is_peer s.peers w → cond (is_peer (take i ps) w) (shift s by log w) 0 ≡ shift s by log w
    at true peer same = ap (λ (b : Bool). cond b (shift s by log w) 0) (same ∙ peer)
    at false out same = ap (λ (b : Bool). cond b (shift s by log w) 0) (same ∙ out) ∙ nothing out
