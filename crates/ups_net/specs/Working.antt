-- The effect of a server's threads on their passes.
use Rattle.std.specs.Prelude.{◌≡◌, Bool, true, false, nat_le, List, [], ◌∷◌, ◌++◌, MatchBool}
use Rattle.ups_life.specs.declared.entry.Entry.{Entry}
use Rattle.ups_net.specs.Delivering.{DeliversRounds}
use Rattle.ups_net.specs.Serving.{ServesAssociations}
use Rattle.ups_net.specs.Sweeping.{Sweeps}
use Rattle.ups_net.specs.declared.options.ServerOptions.{ServerOptions}
use Rattle.ups_turn.specs.Pass.{PassView}

-- a worker (`true`) has served as many associations as the options say, or a deliverer has made as many rounds
abbrev pub Works : {A : Type 0} → ServerOptions → Bool → PassView A → PassView A → Type 0
Works options true old new = ServesAssociations options.config options.limits.turns options.associations old new
Works options false old new = DeliversRounds options.config options.limits options.watchers.items options.rounds old new

-- a thread has done its job: that of a worker if its number is at most the number of workers, otherwise that of a deliverer
abbrev pub DoesJob : {A : Type 0} → ServerOptions → PassView A → PassView A → Type 0
DoesJob options old new = Works options (nat_le old.number options.limits.workers) old new

-- the thread has done its job; or no thread was to begin, and its pass is unchanged
abbrev pub EndsThread : {A : Type 0} → ServerOptions → Bool → PassView A → PassView A → Type 0
EndsThread options begun old new = MatchBool begun (DoesJob options old new) (new ≡ old)

-- the same for each of several threads
abbrev pub EndThreads : {A : Type 0} → ServerOptions → Bool → List (PassView A) → List (PassView A) → Type 0
EndThreads options begun [] [] = Unit {0}
EndThreads options begun [] (new ∷ news) = ⊥
EndThreads options begun (old ∷ olds) [] = ⊥
EndThreads options begun (old ∷ olds) (new ∷ news) = EndsThread options begun old new × EndThreads options begun olds news

-- the thread of each pass but the last has done its job, and that of the last has swept
pub record AllWork {A : Type 0} (options : ServerOptions) (keeps : Bool) (olds news : List (PassView A)) : Type 0 where
  pub front : List (PassView A)
  pub sweeper : PassView A
  pub worked : List (PassView A)
  pub swept : PassView A
  pub before : olds ≡ front ++ sweeper ∷ []
  pub after : news ≡ worked ++ swept ∷ []
  pub each : EndThreads options true front worked
  pub sweeps : Sweeps options.config.ae keeps options.rounds sweeper swept

-- the threads of a server have all done their jobs, with a ledger (`keeps`) or without; or none has begun, and each pass is
-- unchanged
abbrev pub Ran : {A : Type 0} → ServerOptions → Bool → Bool → List (PassView A) → List (PassView A) → Type 0
Ran options keeps begun olds news = MatchBool begun (AllWork options keeps olds news) (news ≡ olds)

-- the history that the last of these passes has seen
abbrev pub seen_last : {A : Type 0} → List (PassView A) → List (Entry A)
seen_last [] = []
seen_last (p ∷ []) = p.seen
seen_last (p ∷ q ∷ ps) = seen_last (q ∷ ps)
