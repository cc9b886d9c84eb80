-- What a server's ledger has of what its passes have seen, from its beginning to its end.
use Rattle.std.proofs.Common.{◌≡◌, ℕ, List, [], ◌∷◌, Option, None, Some, refl, ◌∙◌}
use Rattle.std.specs.Prelude.{All, IfSome, MatchOption}
use Rattle.std.specs.Global.{Global}
use Rattle.std.proofs.lemmas.List.Elements.{All-head, All-tail, All-weaker}
use Rattle.ups_ledger.specs.declared.keeper.Keeper.{Keeper}
use Rattle.ups_ledger.specs.declared.ledger.Ledger.{Ghosts}
use Rattle.ups_args.specs.declared.server.ServeArguments.{ServeArguments}
use Rattle.ups_ledger.specs.Keeping.{AreKept, AreSafe, AreSound, KeepersGoOn, KeepsSeen}
use Rattle.ups_ledger.proofs.Leaving.{keeps_seen}
use Rattle.ups_life.specs.declared.entry.Entry.{Entry}
use Rattle.ups_life.specs.Settings.{Settings}
use Rattle.ups_net.specs.Working.{seen_last}
use Rattle.ups_service.specs.Law.{BeginsHistory}
use Rattle.ups_terms.specs.declared.choices.StartChoices.{StartChoices}
use Rattle.ups_turn.specs.Pass.{PassView, EndsFor, part_of}
use Rattle.ups_turn.specs.Rule.{Behind}
use Rattle.ups_server.specs.Serving.{BeginsOn, HasBegun}

module _ {L : Type 0} (g : Ghosts L) where
  pub begun_kept : (keeper : Option (Keeper L g)) (history : List (Entry Global)) → HasBegun g keeper history → AreKept g keeper history
  begun_kept None history begun = tt
  begun_kept (Some keeper) history begun = begun.0

  pub begun_safe : (keeper : Option (Keeper L g)) (history : List (Entry Global)) → HasBegun g keeper history → AreSafe g keeper history
  begun_safe None history begun = tt
  begun_safe (Some keeper) history begun = begun.1

  -- a ledger that is sound at the end was sound before
  pub sound_before : (old new : Option (Keeper L g)) (before after : List (Entry Global)) → KeepersGoOn g old before new after → AreSound g new → AreSound g old
  sound_before None None before after on sound = tt
  sound_before None (Some new) before after on sound = absurd on
  sound_before (Some old) None before after on sound = absurd on
  sound_before (Some old) (Some new) before after on sound = on.sound sound

-- what a server begins with is known as well by what follows from it
pub begins_so : {A : Type 0} (P Q : List ℕ → StartChoices → Settings → List (Entry A) → Type 0) (asked : ServeArguments) (s : Settings) (history : List (Entry A))
    → ((file : List ℕ) (choices : StartChoices) → P file choices s history → Q file choices s history) → BeginsOn P asked s history → BeginsOn Q asked s history
begins_so {A} P Q asked s history so = at (λ file. file.now) asked.store
  where
    at : {X : Type 0} (path : X → List ℕ) (o : Option X) → MatchOption o (history ≡ []) (λ file. P (path file) asked.choices s history) → MatchOption o (history ≡ []) (λ file. Q (path file) asked.choices s history)
    at path None none = none
    at path (Some file) begins = so (path file) asked.choices begins

-- the history of a closed desk begins with what each pass has seen
behind_begins : {A : Type 0} (history : List (Entry A)) (p : PassView A) → Behind history (part_of p) → BeginsHistory p.seen history
behind_begins history p behind = (behind.0, behind.1)

-- and with what the last of them has seen
pub last_begins : {A : Type 0} (history : List (Entry A)) (passes : List (PassView A)) → EndsFor history passes → BeginsHistory (seen_last passes) history
last_begins history [] ends = (history, refl)
last_begins {A} history (p ∷ []) ends = behind_begins history p (All-head (λ (p : PassView A). Behind history (part_of p)) p [] ends)
last_begins {A} history (p ∷ q ∷ ps) ends = last_begins history (q ∷ ps) (All-tail (λ (p : PassView A). Behind history (part_of p)) p (q ∷ ps) ends)

module _ {L : Type 0} (g : Ghosts L) where
  -- the ledger keeps what each pass has seen, as far as it is committed
  pub all_kept : (keeper : Option (Keeper L g)) (history : List (Entry Global)) (passes : List (PassView Global)) → EndsFor history passes → AreKept g keeper (seen_last passes) → AreSafe g keeper (seen_last passes)
      → IfSome keeper (λ k. All (λ p. KeepsSeen g k p.seen) passes)
  all_kept None history passes ends kept safe = tt
  all_kept (Some keeper) history passes ends kept safe =
      All-weaker (λ (p : PassView Global). Behind history (part_of p)) (λ (p : PassView Global). KeepsSeen g keeper p.seen)
      (λ p behind. keeps_seen g keeper (seen_last passes) p.seen history (last_begins history passes ends) (behind_begins history p behind) kept safe) passes ends
