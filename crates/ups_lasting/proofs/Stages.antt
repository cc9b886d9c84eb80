-- A stage goes on to agree with a ledger that grows.
use Rattle.std.proofs.Common.{ℕ, ◌≤◌, List, ◌++◌, length, take, drop, sym, subst, arith}
use Rattle.std.proofs.lemmas.List.{take-append-le, length-append}
use Rattle.std.specs.Global.{Global}
use Rattle.ups_life.specs.declared.entry.Entry.{Entry}
use Rattle.ups_life.specs.Settings.{Settings}
use Rattle.ups_journal.specs.declared.record.Record.{Record}
use Rattle.ups_manager.specs.View.{ManagerView}
use Rattle.ups_lasting.specs.declared.stage.Stage.{Stage}
use Rattle.ups_lasting.specs.declared.stage.Stage.TheVariants.{Resting, Clearing, Surveying, Sorting as Sort, Carrying, Finishing, Following, Freeing}
use Rattle.ups_lasting.specs.Stages.{AreRecordsOf, IsSurveyed, AreCarried, AreFinished, AreFollowed, GoesOnDrafted, Agrees, Covers}

module _ (s : Settings) (content more : List (Record Global)) where
  -- the first records are the same
  of_more : (n : ℕ) (log : List (Entry Global)) → n ≤ length content → AreRecordsOf s (take n (content ++ more)) log → AreRecordsOf s (take n content) log
  of_more n log h o = subst (λ (rs : List (Record Global)). AreRecordsOf s rs log) (take-append-le n content more h) o

  surveyed_more : (whole : ManagerView Global) → IsSurveyed s content whole → IsSurveyed s (content ++ more) whole
  surveyed_more whole i = record {
    settings = i.settings;
    within = omega (arith, i.within, length-append content more);
    all = λ log o. i.all log (of_more (length whole.history) log i.within o);
  }

  carried_more : (whole : ManagerView Global) (steps : List (List ℕ)) (kept : List (Entry Global)) (read drafted : ℕ) (drafts : List (Record Global))
      → AreCarried s content whole steps kept read drafted drafts → AreCarried s (content ++ more) whole steps kept read drafted drafts
  carried_more whole steps kept read drafted drafts c =
      let low : read ≤ length content = omega (arith, c.within, c.surveyed.within) in
      record {
        surveyed = surveyed_more whole c.surveyed;
        needed = c.needed;
        within = c.within;
        keeps = λ log o. c.keeps log (of_more read log low o);
        drafts_are = λ log o. c.drafts_are log (of_more read log low o);
      }

  finished_more : (kept : List (Entry Global)) (less : List ℕ → ℕ) (from drafted : ℕ) (drafts : List (Record Global))
      → AreFinished s content kept less from drafted drafts → AreFinished s (content ++ more) kept less from drafted drafts
  finished_more kept less from drafted drafts f = record {
    within = omega (arith, f.within, length-append content more);
    left = λ log o once. f.left log (of_more from log f.within o) once;
    drafts_are = λ log o. f.drafts_are log (of_more from log f.within o);
  }

  followed_more : (less : List ℕ → ℕ) (from read : ℕ) (drafts : List (Record Global)) → AreFollowed s content less from read drafts → AreFollowed s (content ++ more) less from read drafts
  followed_more less from read drafts f =
      let low : from ≤ length content = omega (arith, f.behind, f.within) in
      record {
        behind = f.behind;
        within = omega (arith, f.within, length-append content more);
        goes = λ log o once.
            subst (λ (rs : List (Record Global)). GoesOnDrafted s (drop from rs) log less drafts) (sym (take-append-le read content more f.within))
            (f.goes log (of_more from log low o) once);
      }

-- WHAT IS APPENDED TO THE LEDGER changes nothing
pub agrees_on : (s : Settings) (stage : Stage) (content more drafts : List (Record Global)) → Agrees s stage content drafts → Agrees s stage (content ++ more) drafts
agrees_on s Resting content more drafts a = tt
agrees_on s Clearing content more drafts a = tt
agrees_on s (Surveying whole) content more drafts a = (surveyed_more s content more whole a.0, a.1)
agrees_on s (Sort n) content more drafts a = ((surveyed_more s content more _ a.0.0, a.0.1), a.1)
agrees_on s (Carrying c) content more drafts a = (carried_more s content more _ _ _ _ _ _ a.0, a.1)
agrees_on s (Finishing f) content more drafts a = (finished_more s content more _ _ _ _ _ a.0, a.1)
agrees_on s (Following f) content more drafts a = (followed_more s content more _ _ _ _ a.0, a.1)
agrees_on s Freeing content more drafts a = tt

-- it goes on to cover as many of the records
pub covers_on : (begun : ℕ) (stage : Stage) (content more : List (Record Global)) → Covers begun stage content → Covers begun stage (content ++ more)
covers_on begun Resting content more a = a
covers_on begun Clearing content more a = omega (arith, a, length-append content more)
covers_on begun (Surveying whole) content more a = omega (arith, a, length-append content more)
covers_on begun (Sort n) content more a = a
covers_on begun (Carrying c) content more a = a
covers_on begun (Finishing f) content more a = a
covers_on begun (Following f) content more a = a
covers_on begun Freeing content more a = a
