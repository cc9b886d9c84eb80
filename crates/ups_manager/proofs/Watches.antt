-- What a watcher is subscribed to, by the tables of a manager.
use Rattle.std.proofs.Common.{◌≡◌, refl, ℕ, List, Option, None, Result, Ok, Err, IfOk, Vec, ap, ◌∙◌, sym, subst}
use Rattle.std.specs.Prelude.{Some}
use Rattle.std.specs.List.{filter_map, AllByRecursion}
use Rattle.std.specs.Map.{keys_of}
use Rattle.ups_life.specs.declared.entry.Entry.{Entry}
use Rattle.ups_life.specs.declared.peer.Peer.{Peer}
use Rattle.ups_life.specs.declared.watching.Watched.{Watched}
use Rattle.ups_life.specs.Settings.{Settings}
use Rattle.ups_life.specs.Steps.{past}
use Rattle.ups_life.specs.Watching.{watched_step, watched}
use Rattle.ups_life.specs.Events.{events, view, present, pending}
use Rattle.ups_life.proofs.Viewing.{watched_views}
use Rattle.ups_events.specs.Telling.{Line, empty_line}
use Rattle.ups_tables.specs.Live.{IsLive, final, locked, queue}
use Rattle.ups_tables.proofs.Asking.{watched_by}
use Rattle.ups_tables.specs.declared.tables.Tables.{Tables}
use Rattle.ups_tables.specs.Fit.{how, queue_line, uses}
use Rattle.ups_tables.specs.Places.{place_of_title, by_place}
use Rattle.ups_tables.specs.Stands.{Stands, Lives, cover_of, how_of, queue_of}
use Rattle.ups_manager.proofs.Keyed.{keys_held_are}

-- the tables are live
pub to_live : {A : Type 0} (s : Settings) (es : List (Entry A)) (t : Tables A) → Lives s es t → IsLive s es (cover_of s.peers t) (how_of s.peers t) (final s es) (locked s es) (queue_of s.peers t) (uses t)
to_live s es t l = record { covers = l.covers; pairs = l.pairs; finals = λ u. refl; locks = λ u. refl; queues = l.queues; used = l.used }

pub watched_is : {A : Type 0} (s : Settings) (history : List (Entry A)) (t : Tables A) (us lent : List (List ℕ)) (peers : List Peer) (place : Option ℕ) (w : List ℕ) (found : List Watched) → Stands s history t
    → us ≡ keys_of t.steps.entries → lent ≡ us → peers ≡ s.peers → place ≡ place_of_title peers w → found ≡ filter_map (λ u. watched_step u (by_place None (λ p. how t p u) place)) lent → found ≡ watched s (past history) w
watched_is {A} s history t us lent peers place w found st keys are named at is =
    is
    ∙ ap (λ (o : Option ℕ). filter_map (λ u. watched_step u (by_place None (λ p. how t p u) o)) lent) (at ∙ ap (λ (ps : List Peer). place_of_title ps w) named)
    ∙ ap (filter_map (λ (u : List ℕ). watched_step u (how_of s.peers t w u))) (are ∙ keys ∙ keys_held_are s history t st)
    ∙ watched_by s (past history) _ _ _ _ _ _ (to_live s (past history) t st.lives) w

-- of each the view shows what is so
pub views_are : {A : Type 0} (s : Settings) (es : List (Entry A)) (w : List ℕ) (found : List Watched) → found ≡ watched s es w → AllByRecursion (λ (x : Watched). view (events s es w) x.step ≡ Some (present s es x.step)) found
views_are s es w found is = subst (λ (l : List Watched). AllByRecursion (λ (x : Watched). view (events s es w) x.step ≡ Some (present s es x.step)) l) (sym is) (watched_views s es w)

-- where memory sufficed
pub watched_if_ok : {A E : Type 0} (s : Settings) (history : List (Entry A)) (t : Tables A) (us lent : List (List ℕ)) (peers : List Peer) (place : Option ℕ) (w : List ℕ) (r : Result (Vec Watched A) E) → Stands s history t
    → us ≡ keys_of t.steps.entries → lent ≡ us → peers ≡ s.peers → place ≡ place_of_title peers w → IfOk r (λ v. v.items ≡ filter_map (λ u. watched_step u (by_place None (λ p. how t p u) place)) lent) → IfOk r (λ v. v.items ≡ watched s (past history) w)
watched_if_ok s history t us lent peers place w (Ok v) st keys are named at is = watched_is s history t us lent peers place w v.items st keys are named at is
watched_if_ok s history t us lent peers place w (Err e) st keys are named at is = is

pub views_if_ok : {A E : Type 0} (s : Settings) (es : List (Entry A)) (w : List ℕ) (r : Result (Vec Watched A) E) → IfOk r (λ v. v.items ≡ watched s es w) → IfOk r (λ v. AllByRecursion (λ (x : Watched). view (events s es w) x.step ≡ Some (present s es x.step)) v.items)
views_if_ok s es w (Ok v) is = views_are s es w v.items is
views_if_ok s es w (Err e) is = is

-- the queue of a watcher is the one that the definitions compute
pub queue_is : {A : Type 0} (s : Settings) (history : List (Entry A)) (t : Tables A) (peers : List Peer) (place : Option ℕ) (w : List ℕ) → Stands s history t → peers ≡ s.peers → place ≡ place_of_title peers w
    → by_place empty_line (λ p. queue_line t p) place ≡ queue s (past history) w
queue_is s history t peers place w st named at =
    ap (λ (o : Option ℕ). by_place empty_line (λ p. queue_line t p) o) (at ∙ ap (λ (ps : List Peer). place_of_title ps w) named) ∙ st.lives.queues w

-- what is pending
pub pending_is : {A : Type 0} (s : Settings) (history : List (Entry A)) (t : Tables A) (peers : List Peer) (place : Option ℕ) (w : List ℕ) → Stands s history t → peers ≡ s.peers → place ≡ place_of_title peers w
    → (by_place empty_line (λ p. queue_line t p) place).events ≡ pending s (past history) w
pending_is s history t peers place w st named at = ap (λ (k : Line). k.events) (queue_is s history t peers place w st named at)
