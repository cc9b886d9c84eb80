-- Global subscriptions, where what is about steps is dropped.
use Rattle.std.proofs.Common.{◌≡◌, ℕ, Bool, true, false, cond, List, [], ◌∷◌, Option, refl, sym, ap, ◌∙◌}
use Rattle.std.specs.Str.{bytes_eq}
use Rattle.ups_dataset.specs.Data.{El}
use Rattle.ups_life.specs.declared.entry.Entry.{Entry}
use Rattle.ups_life.specs.declared.peer.Peer.{Peer}
use Rattle.ups_life.specs.declared.request.Request.{Request}
use Rattle.ups_life.specs.declared.request.Request.TheVariants.{Create, Change, AskCancel, Set, Subscribe, Unsubscribe, Suspend, Ack, Sweep, Reserve}
use Rattle.ups_life.specs.declared.watching.Subscription.{Subscription}
use Rattle.ups_life.specs.declared.watching.Target.TheVariants.{Single, Global, Filtered}
use Rattle.ups_life.specs.declared.watching.Place.TheVariants.{At, Everywhere}
use Rattle.ups_life.specs.Watching.{cover_after, cover}
use Rattle.ups_compact.specs.Compacting.{left}
use Rattle.ups_compact.proofs.Off.{does_some, plain}

either : {X : Type 0} (b : Bool) (x : X) → cond b x x ≡ x
either true x = refl
either false x = refl

cover_off : {A : Type 0} (steps : List (List ℕ)) (peers : List Peer) (w : List ℕ) (attributes : List El) (before : Option Subscription) (r : Request A) → does_some steps r ≡ false
    → cover_after peers w attributes before r ≡ before
cover_off steps peers w attributes before (Create step set) out = refl
cover_off steps peers w attributes before (Change step state transaction) out = refl
cover_off steps peers w attributes before (AskCancel step reasons) out = refl
cover_off steps peers w attributes before (Set step transaction set) out = refl
cover_off steps peers w attributes before (Subscribe (Single step) receiver lock) out = either (bytes_eq receiver w) before
cover_off steps peers w attributes before (Subscribe Global receiver lock) out = absurd cc
cover_off steps peers w attributes before (Subscribe (Filtered keys) receiver lock) out = absurd cc
cover_off steps peers w attributes before (Unsubscribe (At step) receiver) out = either (bytes_eq receiver w) before
cover_off steps peers w attributes before (Unsubscribe Everywhere receiver) out = absurd cc
cover_off steps peers w attributes before (Suspend receiver) out = absurd cc
cover_off steps peers w attributes before (Ack upto) out = refl
cover_off steps peers w attributes before Sweep out = refl
cover_off steps peers w attributes before (Reserve step) out = refl

pub cover_plain : {A : Type 0} (steps : List (List ℕ)) (peers : List Peer) (w : List ℕ) (attributes : List El) (es : List (Entry A)) → cover peers (plain steps es) w attributes ≡ cover peers es w attributes
cover_plain steps peers w attributes [] = refl
cover_plain {A} steps peers w attributes (e ∷ es) = at (does_some steps e.request) refl (cover_plain steps peers w attributes es)
  where
    at : (b : Bool) → does_some steps e.request ≡ b → cover peers (plain steps es) w attributes ≡ cover peers es w attributes → cover peers (cond b (e ∷ plain steps es) (plain steps es)) w attributes ≡ cover peers (e ∷ es) w attributes
    at true is h = ap (λ (x : Option Subscription). cover_after peers w attributes x e.request) h
    at false is h = h ∙ sym (cover_off steps peers w attributes (cover peers es w attributes) e.request is)
