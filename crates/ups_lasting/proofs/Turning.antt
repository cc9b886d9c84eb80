-- What a slice of a compaction does, by its result.
use Rattle.std.proofs.Common.{◌≡◌, ◌≤◌, ℕ, List, refl, sym, subst, arith}
use Rattle.std.specs.Prelude.{Ok}
use Rattle.std.specs.Global.{Global}
use mathlib.Core.Logic.{∥∥₁_map}
use Rattle.ups_life.specs.Settings.{Settings}
use Rattle.ups_journal.specs.declared.record.Record.{Record}
use Rattle.ups_ledger.specs.declared.fault.LedgerFault.{LedgerFault}
use Rattle.ups_lasting.specs.declared.draft_ledger.DraftLedger.{Ghosts}
use Rattle.ups_lasting.specs.declared.compaction.Tended.TheVariants as tended
use Rattle.ups_lasting.specs.declared.stage.Follow.{Follow}
use Rattle.ups_lasting.specs.declared.stage.Stage.{Stage}
use Rattle.ups_lasting.specs.declared.stage.Stage.TheVariants.{Resting, Following, Freeing}
use Rattle.ups_lasting.specs.Exchanging.{Drafts, HasExchanged, MayHaveExchanged}
use Rattle.ups_lasting.specs.Slices.{Stays}
use Rattle.ups_lasting.specs.Stages.{Agrees, Covers, IsFollowed}
use Rattle.ups_lasting.specs.Tending.{IsAgreed, Turns}
use Rattle.ups_lasting.proofs.Exchanged.{leaves_some, noted_agreed, shortened_agreed, stands_agreed}

module _ {L : Type 0} (g : Ghosts L) (s : Settings) (begun : ℕ) (old new : L) where
  module _ (before after : Stage) (st : Stays g old new) (agreed : g.is_sound new → IsAgreed s after (g.kept new) (g.drafts new)) (covered : g.is_sound new → Covers begun after (g.kept new)) where
    pub turns_going : Turns g s begun old new before after (Ok tended.Going)
    turns_going = record { agrees = agreed; covers = covered; same = st.same; exchanged = tt; sound = st.sound; first = st.first; crash = st.crash; left = tt; unsound = tt; doubt = tt }

  -- the next stage covers as much
  pub covers_next : (before after : Stage) → Stays g old new → (g.is_sound old → Covers begun before (g.kept old)) → (g.is_sound new → Covers begun before (g.kept old) → Covers begun after (g.kept old)) → g.is_sound new → Covers begun after (g.kept new)
  covers_next before after st covered on k = subst (λ (rs : List (Record Global)). Covers begun after rs) (sym (st.same k)) (on k (covered (st.sound k)))

  pub covers_resting : (after : Stage) → after ≡ Resting → g.is_sound new → Covers begun after (g.kept new)
  covers_resting after is k = subst (λ (x : Stage). Covers begun x (g.kept new)) (sym is) (let low : begun ≤ begun = omega arith in low)

  pub covers_freeing : (after : Stage) → after ≡ Freeing → g.is_sound new → Covers begun after (g.kept new)
  covers_freeing after is k = subst (λ (x : Stage). Covers begun x (g.kept new)) (sym is) (let low : begun ≤ begun = omega arith in low)

  pub covers_same : (before : Stage) → (g.is_sound new → g.is_sound old) → (g.is_sound new → g.kept new ≡ g.kept old) → (g.is_sound old → Covers begun before (g.kept old)) → g.is_sound new → Covers begun before (g.kept new)
  covers_same before sound same covered k = subst (λ (rs : List (Record Global)). Covers begun before rs) (sym (same k)) (covered (sound k))

  -- nothing is under way
  pub agreed_resting : (after : Stage) → after ≡ Resting → g.is_sound new → IsAgreed s after (g.kept new) (g.drafts new)
  agreed_resting after is k = subst (λ (x : Stage). IsAgreed s x (g.kept new) (g.drafts new)) (sym is) ∣ tt ∣₁

  -- what the drafts are is no longer needed
  pub agreed_freeing : (after : Stage) → after ≡ Freeing → g.is_sound new → IsAgreed s after (g.kept new) (g.drafts new)
  agreed_freeing after is k = subst (λ (x : Stage). IsAgreed s x (g.kept new) (g.drafts new)) (sym is) ∣ tt ∣₁

  -- the next stage agrees
  pub agreed_next : (before after : Stage) → Stays g old new → (g.is_sound old → IsAgreed s before (g.kept old) (g.drafts old)) → (g.is_sound new → Agrees s before (g.kept old) (g.drafts old) → Agrees s after (g.kept old) (g.drafts new))
      → g.is_sound new → IsAgreed s after (g.kept new) (g.drafts new)
  agreed_next before after st agreed on k =
      subst (λ (rs : List (Record Global)). IsAgreed s after rs (g.drafts new)) (sym (st.same k)) (∥∥₁_map (agreed (st.sound k)) (λ x. on k x))

  module _ (after : Stage) (f h : Follow) (agreed : g.is_sound old → IsAgreed s (Following f) (g.kept old) (g.drafts old)) (covered : g.is_sound old → Covers begun (Following f) (g.kept old)) where
    pub turns_drafted : after ≡ Following h → Drafts g old new f h → Turns g s begun old new (Following f) after (Ok tended.Going)
    turns_drafted is d = turns_going (Following f) after d.stays (λ k. subst (λ (x : Stage). IsAgreed s x (g.kept new) (g.drafts new)) (sym is)
        (∥∥₁_map (agreed (d.stays.sound k)) (λ x. (subst (λ (rs : List (Record Global)). IsFollowed s rs h) (sym (d.stays.same k)) (d.followed k s x.0), d.put k x.1))))
        (λ k. subst (λ (x : Stage). Covers begun x (g.kept new)) (sym is) (subst (λ (n : ℕ). begun ≤ n) (sym d.from) (covered (d.stays.sound k))))

    pub turns_exchanged : after ≡ Freeing → HasExchanged g old new f h → Turns g s begun old new (Following f) after (Ok (tended.Exchanged h.drafts))
    turns_exchanged is x = record {
      agrees = agreed_freeing after is;
      covers = covers_freeing after is;
      same = tt;
      exchanged = record {
        extra = f.shifts;
        is = refl;
        kept = λ k. noted_agreed g s old f _ _ (agreed (x.sound k)) (x.kept k);
        stands = λ k. stands_agreed g s old f _ (agreed (x.sound k)) (x.stands k);
        shortened = λ k. shortened_agreed g s old f _ begun (covered (x.sound k)) (agreed (x.sound k)) (x.stands k);
      };
      sound = x.sound;
      first = x.first;
      crash = tt;
      left = x.left;
      unsound = tt;
      doubt = tt;
    }

    pub turns_doubtful : (fault : LedgerFault) → after ≡ Freeing → MayHaveExchanged g old new f → Turns g s begun old new (Following f) after (Ok (tended.Doubtful h.drafts fault))
    turns_doubtful fault is m = record {
      agrees = agreed_freeing after is;
      covers = covers_freeing after is;
      same = λ k. absurd (m.unsound k);
      exchanged = tt;
      sound = λ k. absurd (m.unsound k);
      first = m.first;
      crash = tt;
      left = tt;
      unsound = m.unsound;
      doubt = leaves_some g s old new f agreed m;
    }
