-- A server that does what its command line asks.
use Rattle.std.specs.Prelude.{◌≡◌, ℕ, ◌+◌, ◌-◌, min, max, Bool, false, List, [], codes, length, is_some, option_map, string_bytes, unwrap_or, Option, None, Some, MatchOption}
use Rattle.std.specs.Global.{Global}
use Rattle.atomic_table.specs.Seated.{TableId}
use Rattle.clap.specs.Matches.{first_value}
use Rattle.clap.specs.declared.parser.matches.Found.{Found}
use Rattle.ups_args.specs.Arguments.{IsFlag, NamePeers, NameWatchers, SaysCompactAtOrNot, SaysDeliveryTimeout, SaysFrom, SaysIdle, SaysKeep, SaysOffset, SaysTimeout, SaysWaiting, SaysWorkersOrNot, argument_words}
use Rattle.ups_args.specs.declared.server.ServeArguments.{ServeArguments}
use Rattle.ups_ledger.specs.declared.keeper.Keeper.{Keeper}
use Rattle.ups_ledger.specs.declared.ledger.Ledger.{Ghosts}
use Rattle.ups_ledger.specs.Keeping.{IsKept, IsSafe}
use Rattle.ups_life.specs.declared.entry.Entry.{Entry}
use Rattle.ups_manager.specs.declared.manager.TheConstants.{LASTING_LIMIT}
use Rattle.ups_life.specs.Settings.{Settings}
use Rattle.ups_net.specs.Working.{Ran}
use Rattle.ups_net.specs.declared.options.ServerOptions.{ServerOptions}
use Rattle.ups_pdu.specs.Title.{SpellsAe}
use Rattle.ups_service.specs.State.{State}
use Rattle.ups_peers.specs.Limits.{turns_limit, workers_limit}
use Rattle.ups_terms.specs.declared.choices.StartChoices.{StartChoices}
use Rattle.ups_turn.specs.Pass.{PassView, passes_from}

-- the number of deliverers of event reports beside that many workers: one for each watcher, at most eight; no more than the
-- desk has seats for, and at least one
abbrev pub deliverers_of : ℕ → ℕ → ℕ
deliverers_of workers watchers = max 1 (min (min watchers 8) (workers_limit + 1 - workers))

-- the seats of the desk: for the workers, for the deliverers, and for the sweeper
abbrev pub seats_of : ℕ → ℕ → ℕ
seats_of workers watchers = workers + deliverers_of workers watchers + 1

-- the settings of the manager that the command line asks for; its history has no end
abbrev pub settings_asked : ServeArguments → Settings
settings_asked asked = record { peers = asked.peers.items; keep = asked.keep; offset = asked.offset; limit = LASTING_LIMIT }

-- how the threads of the server work: with its title, its local time, its limits, its watchers and the address to leave from; each worker has
-- `to_serve` associations to serve, and the sweeper and each deliverer have `to_make` rounds to make
pub record AreAsked (options : ServerOptions) (asked : ServeArguments) (to_serve to_make : ℕ) : Type 0 where
  pub ae : options.config.ae ≡ asked.ae
  pub offset : options.config.offset ≡ asked.offset
  pub limits : options.limits ≡ asked.limits
  pub watchers : options.watchers ≡ asked.watchers
  pub from : options.from ≡ asked.from
  pub verbose : options.verbose ≡ asked.verbose
  pub audit : options.audit ≡ asked.audit
  pub metrics : option_map (λ m. string_bytes m.path) options.metrics ≡ option_map (λ w. w.now) asked.metrics
  pub associations : options.associations ≡ to_serve
  pub rounds : options.rounds ≡ to_make

-- A manager begins without history if no ledger is kept; otherwise its whole history is committed, and the ledger has the
-- records if it is sound, and would leave them.
abbrev pub HasBegun : {L : Type 0} → (g : Ghosts L) → Option (Keeper L g) → List (Entry Global) → Type 0
HasBegun g None history = history ≡ []
HasBegun g (Some keeper) history = IsKept g keeper history × IsSafe g keeper history × (keeper.committed ≡ length history)

-- the outcome for the passes of the server: its threads have all done what is asked, or none has begun
abbrev pub RanAsAsked : {A : Type 0} → ServeArguments → ℕ → ℕ → Bool → List (PassView A) → List (PassView A) → Type 0
RanAsAsked asked associations rounds begun olds news = (options : ServerOptions) × AreAsked options asked associations rounds × Ran options (is_some asked.store) begun olds news

-- the words of a command line, as the parser found them, ask this of `serve`
pub record AreWords (found : Found) (asked : ServeArguments) : Type 0 where
  pub title : SpellsAe (unwrap_or (first_value found (codes "ae")) []) asked.ae
  pub peers : NamePeers (argument_words found (codes "peer")) asked.peers.items
  pub watchers : NameWatchers (argument_words found (codes "peer")) asked.watchers.items
  pub keep : SaysKeep (first_value found (codes "keep")) asked.keep
  pub offset : SaysOffset (first_value found (codes "offset")) asked.offset
  pub workers : SaysWorkersOrNot (first_value found (codes "associations")) asked.limits.workers
  pub turns : asked.limits.turns ≡ turns_limit
  pub idle : SaysIdle (first_value found (codes "idle")) asked.limits.idle
  pub timeout : SaysTimeout (first_value found (codes "timeout")) asked.limits.timeout
  pub delivery_timeout : SaysDeliveryTimeout (first_value found (codes "delivery-timeout")) asked.limits.delivery_timeout
  pub waiting : SaysWaiting (first_value found (codes "waiting")) asked.limits.waiting
  pub compact_at : SaysCompactAtOrNot (first_value found (codes "compact-at")) asked.limits.compact_at
  pub from : SaysFrom (first_value found (codes "from")) asked.from
  pub check : IsFlag found (codes "check") asked.check
  pub verbose : IsFlag found (codes "verbose") asked.verbose
  pub audit : IsFlag found (codes "audit") asked.audit
  pub store : option_map (λ w. w.now) asked.store ≡ first_value found (codes "store")
  pub leave_out : IsFlag found (codes "store-leave-out") asked.choices.may_leave_out
  pub compact : IsFlag found (codes "compact") asked.choices.may_compact
  pub other_settings : IsFlag found (codes "store-other-settings") asked.choices.may_change_terms
  pub metrics : option_map (λ w. w.now) asked.metrics ≡ first_value found (codes "metrics")

-- without a store a server begins with no history, and otherwise as one does on its file
abbrev pub BeginsOn : {A : Type 0} → (List ℕ → StartChoices → Settings → List (Entry A) → Type 0) → ServeArguments → Settings → List (Entry A) → Type 0
BeginsOn Begins asked settings history = MatchOption asked.store (history ≡ []) (λ file. Begins file.now asked.choices settings history)

-- A server has run as the words of a command line ask: they ask for more than a look; its manager opened with the settings
-- that they ask for, without history if they name no store, and otherwise with that with which a server begins on it; and its
-- threads have done what they ask for, or none has begun.
pub record RanAsWords {A : Type 0} (found : Found) (associations rounds : ℕ) (begun : Bool) (Begins : List ℕ → StartChoices → Settings → List (Entry A) → Type 0) (table : TableId) (opening : State A) (news : List (PassView A)) : Type 0 where
  pub asked : ServeArguments
  pub words : AreWords found asked
  pub serves : asked.check ≡ false
  pub settings : opening.settings ≡ settings_asked asked
  pub begins : BeginsOn Begins asked opening.settings opening.history
  pub ran : RanAsAsked asked associations rounds begun (passes_from table opening 1 (seats_of asked.limits.workers (length asked.watchers.items))) news
