-- What is known of a ledger of the log goes on to hold.
use Rattle.std.proofs.Common.{◌≡◌, ◌⊎◌, inl, inr, Bool, true, false, List, ◌++◌, ℕ, ◌+◌, map, refl, sym, ap, subst, ◌∙◌}
use Rattle.std.specs.Global.{Global}
use mathlib.Core.Logic.{∥∥₁_map}
use Rattle.ups_life.specs.Settings.{Settings}
use Rattle.ups_journal.specs.declared.record.Record.{Record}
use Rattle.ups_restore.specs.Lessening.{lessened}
use Rattle.ups_lasting.specs.declared.doubt.Doubt.{Doubt}
use Rattle.ups_lasting.specs.declared.doubt.Doubt.TheVariants.{Nothing, Append, Exchange}
use Rattle.ups_lasting.specs.declared.draft_ledger.DraftLedger.{Ghosts}
use Rattle.ups_lasting.specs.declared.stage.Stage.{Stage}
use Rattle.ups_lasting.specs.Doubting.{is_append, is_sure}
use Rattle.ups_lasting.specs.Leaving.{AreLeft, Appended, Failed, LeavesStanding}
use Rattle.ups_lasting.specs.Stages.{StandsBy}
use Rattle.ups_lasting.specs.Standing.{StandsForLog, StandsForSome}
use Rattle.ups_lasting.specs.Tending.{IsAgreed, StandsBySome}
use Rattle.ups_lasting.proofs.Stages.{agrees_on}

-- the laws of records that stand for a log, as contracts tell them
abbrev pub StandsOn : Type 0
StandsOn = (s : Settings) → (content said more : List (Record Global)) → (less : List ℕ → ℕ) → StandsForLog s content said less → StandsForLog s (content ++ map (lessened less) more) (said ++ more) less

abbrev pub StandsAcross : Type 0
StandsAcross = (s : Settings) → (other content said : List (Record Global)) → (extra less : List ℕ → ℕ) → StandsForLog s content said less → StandsForLog s other content extra → StandsForLog s other said (λ w. extra w + less w)

abbrev pub StandsAlike : Type 0
StandsAlike = (s : Settings) → (content said : List (Record Global)) → (less other : List ℕ → ℕ) → ((w : List ℕ) → less w ≡ other w) → StandsForLog s content said less → StandsForLog s content said other

-- while the ledger is sound, a crash leaves what it has
abbrev pub Settled : {L : Type 0} → Ghosts L → Type 0
Settled {L} g = (l : L) → g.is_sound l → (rs : List (Record Global)) → g.recovers l rs → rs ≡ g.kept l

-- with nothing in doubt
pub sure_append : (d : Doubt) → is_sure d ≡ true → is_append d ≡ false
sure_append Nothing sure = refl
sure_append Append sure = absurd cc
sure_append (Exchange x) sure = absurd cc

-- the stage agrees with more
pub agreed_on : (s : Settings) (stage : Stage) (content more drafts : List (Record Global)) → IsAgreed s stage content drafts → IsAgreed s stage (content ++ more) drafts
agreed_on s stage content more drafts a = ∥∥₁_map a (λ x. agrees_on s stage content more drafts x)

module _ (s : Settings) where
  pub some_stands : (found is said : List (Record Global)) (less : List ℕ → ℕ) → found ≡ is → StandsForLog s is said less → StandsForSome s found said
  some_stands found is said less same stands = ∣ (less, subst (λ (rs : List (Record Global)). StandsForLog s rs said less) (sym same) stands) ∣₁

  -- what takes the place of the content stands for the log
  pub stands_next : StandsAcross → (content before other said : List (Record Global)) (extra less : List ℕ → ℕ) → before ≡ content → StandsForLog s content said less → StandsBy s before other extra → StandsForLog s other said (λ w. extra w + less w)
  stands_next across content before other said extra less same stands by =
      across s other content said extra less stands
      (subst (λ (rs : List (Record Global)). StandsForLog s other rs extra) same (λ log writable are l once. by log (record { writable = writable; are = are; legally = l }) once))

  module _ {L : Type 0} (g : Ghosts L) (old new : L) (content said tried : List (Record Global)) (less : List ℕ → ℕ) where
    -- an append succeeded
    pub stands_appended : StandsOn → (records after all : List (Record Global)) → (g.is_sound old → StandsForLog s content said less) → Appended g old (map (lessened less) records) new → after ≡ content ++ map (lessened less) records → all ≡ said ++ records
        → g.is_sound new → StandsForLog s after all less
    stands_appended on records after all stands put are more sound =
        subst (λ (rs : List (Record Global)). StandsForLog s rs all less) (sym are)
        (subst (λ (rs : List (Record Global)). StandsForLog s (content ++ map (lessened less) records) rs less) (sym more) (on s content said records less (stands (put.sound sound))))

    pub left_appended : StandsOn → (records after all none : List (Record Global)) (is_exchange : Bool) → (g.is_sound old → g.kept old ≡ content) → (g.is_sound old → StandsForLog s content said less) → Appended g old (map (lessened less) records) new
        → after ≡ content ++ map (lessened less) records → all ≡ said ++ records → LeavesStanding g s new after all none less is_exchange
    left_appended on records after all none is_exchange now stands put are more = λ first found can.
        let left = put.left first found can in
        let is : found ≡ after = left.1 ∙ (put.put left.0 ∙ (ap (λ (rs : List (Record Global)). rs ++ map (lessened less) records) (now (put.sound left.0)) ∙ sym are)) in
        ∣ (all, inl (is, refl), some_stands found after all less is (stands_appended on records after all stands put are more left.0)) ∣₁

    pub agreed_appended : (stage : Stage) (records : List (Record Global)) → (g.is_sound old → IsAgreed s stage (g.kept old) (g.drafts old)) → Appended g old records new → g.is_sound new → IsAgreed s stage (g.kept new) (g.drafts new)
    agreed_appended stage records agreed put sound =
        subst (λ (rs : List (Record Global)). IsAgreed s stage rs (g.drafts new)) (sym (put.put sound))
        (subst (λ (rs : List (Record Global)). IsAgreed s stage (g.kept old ++ records) rs) (sym (put.drafts sound)) (agreed_on s stage (g.kept old) records (g.drafts old) (agreed (put.sound sound))))

    -- the records and the drafts stay
    pub agreed_same : (stage : Stage) → (g.is_sound new → g.is_sound old) → (g.is_sound new → g.kept new ≡ g.kept old) → (g.is_sound new → g.drafts new ≡ g.drafts old) → (g.is_sound old → IsAgreed s stage (g.kept old) (g.drafts old))
        → g.is_sound new → IsAgreed s stage (g.kept new) (g.drafts new)
    agreed_same stage sound kept drafts agreed k =
        subst (λ (rs : List (Record Global)). IsAgreed s stage rs (g.drafts new)) (sym (kept k)) (subst (λ (rs : List (Record Global)). IsAgreed s stage (g.kept old) rs) (sym (drafts k)) (agreed (sound k)))

    -- an append failed while the ledger was open
    pub left_failed : StandsOn → Settled g → (records attempted : List (Record Global)) (is_exchange : Bool) → (g.is_sound old → g.kept old ≡ content) → (g.is_sound old → StandsForLog s content said less)
        → (g.is_first old → (rs : List (Record Global)) → g.recovers old rs → g.is_sound old) → Failed g old (map (lessened less) records) new → attempted ≡ records → LeavesStanding g s new content said attempted less is_exchange
    left_failed on settled records attempted is_exchange now stands up failed are = λ first found can. at first found (failed.crash first found can)
      where
        same : map (lessened less) attempted ≡ map (lessened less) records
        same = ap (map (lessened less)) are

        at : g.is_first new → (found : List (Record Global)) → g.recovers old found ⊎ (g.is_sound old × (found ≡ g.kept old ++ map (lessened less) records))
            → ∥ ((rs : List (Record Global)) × AreLeft content said attempted less is_exchange found rs × StandsForSome s found rs) ∥₁
        at first found (inl before) =
            let sound = up (failed.first first) found before in
            let is : found ≡ content = settled old sound found before ∙ now sound in
            ∣ (said, inl (is, refl), some_stands found content said less is (stands sound)) ∣₁
        at first found (inr both) =
            let is : found ≡ content ++ map (lessened less) attempted =
            both.1 ∙ (ap (λ (rs : List (Record Global)). rs ++ map (lessened less) records) (now both.0) ∙ ap (λ (rs : List (Record Global)). content ++ rs) (sym same)) in
            ∣ (said ++ attempted, inr (inl (is, refl)), some_stands found (content ++ map (lessened less) attempted) (said ++ attempted) less is (on s content said attempted less (stands both.0))) ∣₁

    -- an append failed while the ledger was not open
    pub left_shut : (records : List (Record Global)) (was_exchange is_exchange : Bool) → was_exchange ≡ false → ¬ g.is_sound old → LeavesStanding g s old content said tried less was_exchange → Failed g old (map (lessened less) records) new
        → LeavesStanding g s new content said tried less is_exchange
    left_shut records was_exchange is_exchange not_so unsound left failed = λ first found can. elim (failed.crash first found can) [
      | inl before ↦ ∥∥₁_map (left (failed.first first) found before) (λ x. (x.0, weaker x.0 found x.1, x.2))
      | inr both ↦ absurd (unsound both.0)
    ]
      where
        weaker : (rs found : List (Record Global)) → AreLeft content said tried less was_exchange found rs → AreLeft content said tried less is_exchange found rs
        weaker rs found (inl a) = inl a
        weaker rs found (inr (inl a)) = inr (inl a)
        weaker rs found (inr (inr a)) = absurd (cc (a.0, not_so))

    -- a call after which a crash leaves what it could leave before, or the records
    pub left_staying : (is_exchange : Bool) → (g.is_sound old → g.kept old ≡ content) → (g.is_sound old → StandsForLog s content said less) → (g.is_first new → g.is_first old)
        → (g.is_first new → (rs : List (Record Global)) → g.recovers new rs → g.recovers old rs ⊎ (g.is_sound old × (rs ≡ g.kept old))) → LeavesStanding g s old content said tried less is_exchange
        → LeavesStanding g s new content said tried less is_exchange
    left_staying is_exchange now stands first_too crash left = λ first found can. elim (crash first found can) [
      | inl before ↦ left (first_too first) found before
      | inr both ↦ ∣ (said, inl (both.1 ∙ now both.0, refl), some_stands found content said less (both.1 ∙ now both.0) (stands both.0)) ∣₁
    ]

    -- the drafts took the place of the records
    module _ (across : StandsAcross) (alike : StandsAlike) (next : List (Record Global)) (extra total : List ℕ → ℕ) (now : g.is_sound old → g.kept old ≡ content) (stands : g.is_sound old → StandsForLog s content said less)
        (sums : (w : List ℕ) → total w ≡ extra w + less w) (sound_too : g.is_sound new → g.is_sound old) (exchanged : g.is_sound new → (g.kept new ≡ next) × StandsBy s (g.kept old) next extra) where
      pub stands_exchanged : g.is_sound new → StandsForLog s next said total
      stands_exchanged sound =
          alike s next said (λ w. extra w + less w) total (λ w. sym (sums w))
          (stands_next across content (g.kept old) next said extra less (now (sound_too sound)) (stands (sound_too sound)) (exchanged sound).1)

      pub left_exchanged : (is_exchange : Bool) → (g.is_first new → (rs : List (Record Global)) → g.recovers new rs → g.is_sound new × (rs ≡ g.kept new)) → LeavesStanding g s new next said tried total is_exchange
      left_exchanged is_exchange left = λ first found can.
          let both = left first found can in
          let is : found ≡ next = both.1 ∙ (exchanged both.0).0 in
          ∣ (said, inl (is, refl), some_stands found next said total is (stands_exchanged both.0)) ∣₁

    -- nobody knows whether they did
    pub left_doubtful : StandsAcross → (was_exchange : Bool) → (g.is_sound old → g.kept old ≡ content) → (g.is_sound old → StandsForLog s content said less) → (g.is_first new → g.is_first old)
        → (g.is_first new → (rs : List (Record Global)) → g.recovers new rs → g.recovers old rs ⊎ (g.is_sound old × ((rs ≡ g.kept old) ⊎ StandsBySome s (g.kept old) rs))) → LeavesStanding g s old content said tried less was_exchange
        → LeavesStanding g s new content said tried less true
    left_doubtful across was_exchange now stands first_too crash left = λ first found can. at first found (crash first found can)
      where
        more : (rs found : List (Record Global)) → AreLeft content said tried less was_exchange found rs → AreLeft content said tried less true found rs
        more rs found (inl a) = inl a
        more rs found (inr (inl a)) = inr (inl a)
        more rs found (inr (inr a)) = inr (inr (refl, a.1))

        at : g.is_first new → (found : List (Record Global)) → g.recovers old found ⊎ (g.is_sound old × ((found ≡ g.kept old) ⊎ StandsBySome s (g.kept old) found))
            → ∥ ((rs : List (Record Global)) × AreLeft content said tried less true found rs × StandsForSome s found rs) ∥₁
        at first found (inl before) = ∥∥₁_map (left (first_too first) found before) (λ x. (x.0, more x.0 found x.1, x.2))
        at first found (inr (sound, inl same)) = ∣ (said, inl (same ∙ now sound, refl), some_stands found content said less (same ∙ now sound) (stands sound)) ∣₁
        at first found (inr (sound, inr some)) =
            ∥∥₁_map some (λ x. (said, inr (inr (refl, refl)), ∣ (_, stands_next across content (g.kept old) found said x.0 less (now sound) (stands sound) x.1) ∣₁))
