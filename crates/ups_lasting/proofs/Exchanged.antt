-- The drafts take the place of the records.
use Rattle.std.proofs.Props.{props}
use Rattle.std.proofs.Common.{◌≡◌, ◌⊎◌, ℕ, ◌≤◌, List, length, take, drop, refl, sym, subst, ◌∙◌, inl, inr}
use Rattle.std.specs.Prelude.{Result, Ok, Err}
use Rattle.std.specs.Global.{Global}
use Rattle.ups_life.specs.Settings.{Settings}
use Rattle.ups_journal.specs.declared.record.Record.{Record}
use Rattle.ups_compact.specs.Shifts.{less_by}
use Rattle.ups_compact.specs.declared.shifts.Shift.{Shift}
use Rattle.ups_ledger.specs.declared.fault.LedgerFault.{LedgerFault}
use Rattle.ups_lasting.specs.declared.draft_ledger.DraftLedger.{Ghosts}
use Rattle.ups_lasting.specs.declared.stage.Follow.{Follow}
use Rattle.ups_lasting.specs.declared.stage.Stage.TheVariants.{Following}
use Rattle.ups_lasting.specs.declared.following.Followed.{Followed}
use Rattle.ups_lasting.specs.declared.following.Followed.TheVariants.{Drafted, Exchanged, Doubtful}
use Rattle.ups_lasting.specs.Exchanging.{StandsIf, Drafts, Follows, HasExchanged, MayHaveExchanged, MayTakePlace, EndsExchange, TakesPlace}
use Rattle.ups_lasting.specs.Slices.{Stays}
use Rattle.ups_lasting.specs.Stages.{ShortenedBy, StandsBy, IsFollowed}
use Rattle.ups_lasting.specs.Standing.{firsts}
use mathlib.Core.Logic.{∥∥₁_elim, ∥∥₁_map}
use Rattle.ups_lasting.specs.Tending.{IsAgreed, StandsBySome}
use Rattle.ups_lasting.proofs.Followed.{follows_all, shortens_all}
use Rattle.ups_lasting.proofs.Slices.{stays_then}

module _ {L : Type 0} (g : Ghosts L) (a m b : L) (f h : Follow) where
  -- the drafts stand for the records, once nothing is left to draft
  stands_all : Drafts g a m f h → h.shifts ≡ f.shifts → g.is_sound m → length (g.kept a) ≤ h.read → StandsIf g a f (firsts h.drafts.items)
  stands_all d same k all = λ s i was. (
    subst (λ (e : List Shift). StandsBy s (g.kept a) (firsts h.drafts.items) (less_by e)) same
        (follows_all s (g.kept a) (firsts h.drafts.items) (less_by h.shifts) h.from h.read all (d.followed k s i)),
    λ begun low. subst (λ (e : List Shift). ShortenedBy s begun (g.kept a) (firsts h.drafts.items) (less_by e)) same
        (shortens_all s (g.kept a) (firsts h.drafts.items) (less_by h.shifts) h.from h.read begun (subst (λ (n : ℕ). begun ≤ n) (sym d.from) low) all (d.followed k s i)),
  )

  stands_if : (rs : List (Record Global)) → Drafts g a m f h → h.shifts ≡ f.shifts → g.is_sound m → length (g.kept a) ≤ h.read → rs ≡ g.drafts m → StandsIf g a f rs
  stands_if rs d same k all is = λ s i was.
      let both = stands_all d same k all s i was in
      let rs_are : rs ≡ firsts h.drafts.items = is ∙ d.put k was in (
        subst (λ (x : List (Record Global)). StandsBy s (g.kept a) x (less_by f.shifts)) (sym rs_are) both.0,
        λ begun low. subst (λ (x : List (Record Global)). ShortenedBy s begun (g.kept a) x (less_by f.shifts)) (sym rs_are) (both.1 begun low),
      )

  pub may_have_exchanged : Drafts g a m f h → h.shifts ≡ f.shifts → (g.is_sound m → length (g.kept a) ≤ h.read) → MayTakePlace g m b → MayHaveExchanged g a b f
  may_have_exchanged d same all may = record {
    unsound = may.unsound;
    first = λ k. d.stays.first (may.first k);
    crash = λ k rs can. elim (may.crash k rs can) [
      | inl before ↦ elim (d.stays.crash (may.first k) rs before) [ inl x ↦ inl x | inr both ↦ inr (both.0, inl both.1) ]
      | inr both ↦ inr (d.stays.sound both.0, inr (stands_if rs d same both.0 (all both.0) both.1))
    ];
  }

  pub exchanged : Drafts g a m f h → h.shifts ≡ f.shifts → (g.is_sound m → length (g.kept a) ≤ h.read) → TakesPlace g m b → HasExchanged g a b f h
  exchanged d same all takes = record {
    kept = λ k was. takes.put k ∙ d.put (takes.sound k) was;
    stands = λ k. stands_all d same (takes.sound k) (all (takes.sound k));
    shifts = same;
    sound = λ k. d.stays.sound (takes.sound k);
    first = λ k. d.stays.first (takes.first k);
    left = takes.left;
  }

  -- by what the exchange has come to
  pub ends_follows : (r : Result Followed LedgerFault) → Drafts g a m f h → h.shifts ≡ f.shifts → (g.is_sound m → length (g.kept a) ≤ h.read) → EndsExchange g m b r → Follows g a b f h r
  ends_follows (Ok Drafted) d same all t = absurd t
  ends_follows (Ok Exchanged) d same all t = exchanged d same all t
  ends_follows (Ok (Doubtful fault)) d same all t = may_have_exchanged d same all t
  ends_follows (Err fault) d same all t = stays_then g a m b d.stays t

  -- further records are drafted
  pub drafts_more : (v : List (Record Global)) (most : ℕ) → Stays g a m → Stays g m b → (g.is_sound m → g.drafts m ≡ g.drafts a) → (g.is_sound m → v ≡ take most (drop f.read (g.kept a)))
      → ((s : Settings) → (content : List (Record Global)) → v ≡ take most (drop f.read content) → IsFollowed s content f → IsFollowed s content h)
      → (g.is_sound b → g.drafts m ≡ firsts f.drafts.items → g.drafts b ≡ firsts h.drafts.items) → h.from ≡ f.from → Drafts g a b f h
  drafts_more v most x y drafts read on put from = record {
    stays = stays_then g a m b x y;
    followed = λ k s i. on s (g.kept a) (read (y.sound k)) i;
    put = λ k was. put k (drafts (y.sound k) ∙ was);
    from = from;
  }

-- there is nothing to draft
pub drafts_none : {L : Type 0} (g : Ghosts L) (a m : L) (f : Follow) → Stays g a m → (g.is_sound m → g.drafts m ≡ g.drafts a) → Drafts g a m f f
drafts_none g a m f st drafts = record { stays = st; followed = λ k s i. i; put = λ k was. drafts k ∙ was; from = refl }

-- a call that fails while the ledger is open
pub stays_open : {L : Type 0} (g : Ghosts L) (m b : L) → ((l : L) → g.is_sound l → (rs : List (Record Global)) → g.recovers l rs → rs ≡ g.kept l) → (g.is_first b → (rs : List (Record Global)) → g.recovers b rs → g.is_sound b)
    → (g.is_sound b → g.kept b ≡ g.kept m) → (g.is_sound b → g.is_sound m) → (g.is_first b → g.is_first m) → Stays g m b
stays_open g m b settled up same sound first = record {
  same = same;
  sound = sound;
  first = first;
  crash = λ k rs can. let s = up k rs can in inr (sound s, settled b s rs can ∙ same s);
}

-- what a crash leaves, where the drafts are right
pub leaves_some : {L : Type 0} (g : Ghosts L) (s : Settings) (a b : L) (f : Follow) → (g.is_sound a → IsAgreed s (Following f) (g.kept a) (g.drafts a)) → MayHaveExchanged g a b f
    → g.is_first b → (rs : List (Record Global)) → g.recovers b rs → g.recovers a rs ⊎ (g.is_sound a × ((rs ≡ g.kept a) ⊎ StandsBySome s (g.kept a) rs))
leaves_some g s a b f agrees may k rs can = elim (may.crash k rs can) [
  | inl before ↦ inl before
  | inr both ↦ inr (both.0, some both.0 both.1)
]
  where
    some : g.is_sound a → (rs ≡ g.kept a) ⊎ StandsIf g a f rs → (rs ≡ g.kept a) ⊎ StandsBySome s (g.kept a) rs
    some sound which = elim which [
      | inl same ↦ inl same
      | inr stands ↦ inr (∥∥₁_map (agrees sound) (λ x. (less_by f.shifts, (stands s x.0 x.1).0)))
    ]

-- the drafts stand for the records, where they are right
pub stands_agreed : {L : Type 0} (g : Ghosts L) (s : Settings) (a : L) (f : Follow) (rs : List (Record Global)) → IsAgreed s (Following f) (g.kept a) (g.drafts a) → StandsIf g a f rs → StandsBy s (g.kept a) rs (less_by f.shifts)
stands_agreed g s a f rs agreed stands = λ by are once. ∥∥₁_elim agreed squash₁ (λ x. (stands s x.0 x.1).0 by are once)

pub shortened_agreed : {L : Type 0} (g : Ghosts L) (s : Settings) (a : L) (f : Follow) (rs : List (Record Global)) (begun : ℕ) → begun ≤ f.from → IsAgreed s (Following f) (g.kept a) (g.drafts a) → StandsIf g a f rs
    → ShortenedBy s begun (g.kept a) rs (less_by f.shifts)
shortened_agreed g s a f rs begun low agreed stands = λ by are once. ∥∥₁_elim agreed squash₁ (λ x. (stands s x.0 x.1).1 begun low by are once)

-- the drafts are those that were noted, where they are right
pub noted_agreed : {L : Type 0} (g : Ghosts L) (s : Settings) (a : L) (f : Follow) (rs noted : List (Record Global)) → IsAgreed s (Following f) (g.kept a) (g.drafts a) → (g.drafts a ≡ firsts f.drafts.items → rs ≡ noted) → rs ≡ noted
noted_agreed g s a f rs noted agreed put = ∥∥₁_elim agreed (hlevel props) (λ x. put x.1)
