-- What a crash leaves of a ledger, after calls that succeeded and calls that failed.
use Rattle.std.proofs.Common.{◌≡◌, ℕ, ◌+◌, ◌≤◌, ◌⊎◌, inl, inr, List, ◌++◌, length, map, take, Option, None, Some, sym, subst, arith}
use Rattle.std.specs.Prelude.{drop}
use Rattle.std.specs.Global.{Global}
use Rattle.ups_life.specs.declared.entry.Entry.{Entry}
use Rattle.ups_journal.specs.declared.record.Record.{Record}
use Rattle.ups_journal.specs.Columns.{recorded}
use Rattle.ups_service.specs.Law.{BeginsHistory}
use Rattle.ups_ledger.specs.declared.ledger.Ledger.{Ghosts}
use Rattle.ups_ledger.specs.declared.keeper.Keeper.{Keeper}
use Rattle.ups_ledger.specs.Keeping.{AreFirst, AreKept, AreSafe, KeeperGoesOn, KeepersGoOn, IsKept, IsSafe, KeepsSeen, LeavesFirst}
use Rattle.ups_ledger.proofs.Growing.{first_again, more_first, rests_first}

module _ {L : Type 0} (g : Ghosts L) where
  -- the history went on, and nothing was appended
  pub leaves_on : (ledger : L) (old between new : List (Entry Global)) (count : ℕ) → new ≡ old ++ between → LeavesFirst g ledger old count → LeavesFirst g ledger new count
  leaves_on ledger old between new count is leaves = λ first rs after. let was = leaves first rs after in (was.0, was.1, first_again rs old between new was.0 is was.2)

  -- an append failed
  pub leaves_failed : (before after : L) (added : List (Record Global)) (old between new : List (Entry Global)) (count most : ℕ) → new ≡ old ++ between → added ≡ map recorded (take most (drop count new))
      → (g.is_sound before → AreFirst (g.kept before) old count) → LeavesFirst g before old count → (g.is_first after → g.is_first before)
      → (g.is_first after → (rs : List (Record Global)) → g.recovers after rs → g.recovers before rs ⊎ (g.is_sound before × (rs ≡ g.kept before ++ added))) → LeavesFirst g after new count
  leaves_failed before after added old between new count most is put kept leaves first crash = λ is_first rs later.
      elim (crash is_first rs later) [
        | inl was ↦ leaves_on before old between new count is leaves (first is_first) rs was
        | inr both ↦ (count + length added, omega arith, more_first (g.kept before) added rs new count most (first_again (g.kept before) old between new count is (kept both.0)) put both.1)
      ]

  -- an append succeeded
  pub leaves_put : (after : L) (history : List (Entry Global)) (count : ℕ) → (g.is_sound after → AreFirst (g.kept after) history count)
      → (g.is_first after → (rs : List (Record Global)) → g.recovers after rs → g.is_sound after × (rs ≡ g.kept after)) → LeavesFirst g after history count
  leaves_put after history count kept left = λ first rs later.
      let both = left first rs later in
      (count, omega arith, subst (λ (l : List (Record Global)). AreFirst l history count) (sym both.1) (kept both.0))

  -- what a crash leaves begins with what answers rest on
  pub leaves_rests : (ledger : L) (watched seen history : List (Entry Global)) (committed rests : ℕ) (records : List (Record Global)) → LeavesFirst g ledger watched committed → BeginsHistory watched history → BeginsHistory seen history
      → rests ≤ committed → rests ≤ length seen → g.is_first ledger → g.recovers ledger records → take rests records ≡ map recorded (take rests seen)
  leaves_rests ledger watched seen history committed rests records leaves (more, is) begins few within first after =
      let (n, most, are) = leaves first records after in
      rests_first records history seen n rests (first_again records watched more history n (sym is) are) begins (omega (arith, few, most)) within

  -- the same of each history that begins with that one
  pub kept_longer : (keeper : Keeper L g) (seen history : List (Entry Global)) → BeginsHistory seen history → IsKept g keeper seen → IsKept g keeper history
  kept_longer keeper seen history (more, is) kept = λ sound. first_again (g.kept keeper.ledger) seen more history keeper.committed (sym is) (kept sound)

  pub safe_longer : (keeper : Keeper L g) (seen history : List (Entry Global)) → BeginsHistory seen history → IsSafe g keeper seen → IsSafe g keeper history
  safe_longer keeper seen history (more, is) safe = leaves_on keeper.ledger seen more history keeper.committed (sym is) safe

  pub are_kept_longer : (keeper : Option (Keeper L g)) (seen history : List (Entry Global)) → BeginsHistory seen history → AreKept g keeper seen → AreKept g keeper history
  are_kept_longer None seen history begins kept = tt
  are_kept_longer (Some keeper) seen history begins kept = kept_longer keeper seen history begins kept

  pub are_safe_longer : (keeper : Option (Keeper L g)) (seen history : List (Entry Global)) → BeginsHistory seen history → AreSafe g keeper seen → AreSafe g keeper history
  are_safe_longer None seen history begins safe = tt
  are_safe_longer (Some keeper) seen history begins safe = safe_longer keeper seen history begins safe

  -- a ledger keeps what each pass has seen
  pub keeps_seen : (keeper : Keeper L g) (watched seen history : List (Entry Global)) → BeginsHistory watched history → BeginsHistory seen history → IsKept g keeper watched → IsSafe g keeper watched → KeepsSeen g keeper seen
  keeps_seen keeper watched seen history watches begins kept safe = record {
    has = λ n few within sound. rests_first (g.kept keeper.ledger) history seen keeper.committed n (kept_longer keeper watched history watches kept sound) begins few within;
    leaves = λ n few within first rs after. leaves_rests keeper.ledger watched seen history keeper.committed n rs safe watches begins few within first after;
  }

  -- a ledger that goes on
  pub goes_same : (keeper : Keeper L g) (history : List (Entry Global)) → KeeperGoesOn g keeper history keeper history
  goes_same keeper history = record { kept = λ kept. kept; safe = λ kept safe. safe; more = omega arith; sound = λ sound. sound }

  pub goes_on : (one two three : Keeper L g) (first second third : List (Entry Global)) → KeeperGoesOn g one first two second → KeeperGoesOn g two second three third → KeeperGoesOn g one first three third
  goes_on one two three first second third x y = record {
    kept = λ kept. y.kept (x.kept kept);
    safe = λ kept safe. y.safe (x.kept kept) (x.safe kept safe);
    more = omega (arith, x.more, y.more);
    sound = λ sound. x.sound (y.sound sound);
  }

  pub go_same : (keeper : Option (Keeper L g)) (history : List (Entry Global)) → KeepersGoOn g keeper history keeper history
  go_same None history = tt
  go_same (Some keeper) history = goes_same keeper history

  pub go_on : (one two three : Option (Keeper L g)) (first second third : List (Entry Global)) → KeepersGoOn g one first two second → KeepersGoOn g two second three third → KeepersGoOn g one first three third
  go_on None None None first second third x y = tt
  go_on None None (Some three) first second third x y = y
  go_on None (Some two) three first second third x y = absurd x
  go_on (Some one) None three first second third x y = absurd x
  go_on (Some one) (Some two) None first second third x y = y
  go_on (Some one) (Some two) (Some three) first second third x y = goes_on one two three first second third x y

  pub go_longer : (keeper : Option (Keeper L g)) (seen history : List (Entry Global)) → BeginsHistory seen history → KeepersGoOn g keeper seen keeper history
  go_longer None seen history begins = tt
  go_longer (Some keeper) seen history begins = record { kept = kept_longer keeper seen history begins; safe = λ kept. safe_longer keeper seen history begins; more = omega arith; sound = λ sound. sound }

  pub kept_by : (old new : Option (Keeper L g)) (before after : List (Entry Global)) → KeepersGoOn g old before new after → AreKept g old before → AreKept g new after
  kept_by None None before after go kept = tt
  kept_by None (Some new) before after go kept = absurd go
  kept_by (Some old) None before after go kept = tt
  kept_by (Some old) (Some new) before after go kept = go.kept kept

  pub safe_by : (old new : Option (Keeper L g)) (before after : List (Entry Global)) → KeepersGoOn g old before new after → AreKept g old before → AreSafe g old before → AreSafe g new after
  safe_by None None before after go kept safe = tt
  safe_by None (Some new) before after go kept safe = absurd go
  safe_by (Some old) None before after go kept safe = tt
  safe_by (Some old) (Some new) before after go kept safe = go.safe kept safe
