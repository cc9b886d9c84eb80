use Rattle.std.proofs.Common.{List, [], ◌∷◌, refl, sym, ◌∙◌}
use Rattle.ups_assoc.specs.declared.sop_class.SopClass.{SopClass}
use Rattle.ups_assoc.specs.declared.sop_class.SopClass.TheVariants.{Verification, UpsPush, UpsPull, UpsWatch, UpsEvent}
use Rattle.ups_assoc.proofs.Classes.{is_first, is_later, both_ways}
use Rattle.ups_assoc.proofs.sop_class.SopClass.of.Goals as goal

-- the SOP classes from one on
abbrev from_event : List SopClass
from_event = UpsEvent ∷ []

abbrev from_watch : List SopClass
from_watch = UpsWatch ∷ from_event

abbrev from_pull : List SopClass
from_pull = UpsPull ∷ from_watch

abbrev from_push : List SopClass
from_push = UpsPush ∷ from_pull

pub returns-then-has_uid-clause-class : goal.returns-then-has_uid-clause-class
returns-then-has_uid-clause-class c = let uid = c.args.uid.now in is_first uid Verification from_push (sym c.has_uid.ensures ∙ c.if-has_uid.true)

pub returns-then-has_uid-clause-both_ways : goal.returns-then-has_uid-clause-both_ways
returns-then-has_uid-clause-both_ways c = both_ways c.args.uid.now _ (returns-then-has_uid-clause-class c)

pub returns-then-has_uid-2-clause-class : goal.returns-then-has_uid-2-clause-class
returns-then-has_uid-2-clause-class c = let uid = c.args.uid.now in is_later uid Verification from_push _ (sym c.has_uid.ensures ∙ c.if-has_uid.false) (is_first uid UpsPush from_pull (sym c.has_uid-else-has_uid.ensures ∙ c.if-has_uid-2.true))

pub returns-then-has_uid-2-clause-both_ways : goal.returns-then-has_uid-2-clause-both_ways
returns-then-has_uid-2-clause-both_ways c = both_ways c.args.uid.now _ (returns-then-has_uid-2-clause-class c)

pub returns-then-has_uid-3-clause-class : goal.returns-then-has_uid-3-clause-class
returns-then-has_uid-3-clause-class c = let uid = c.args.uid.now in is_later uid Verification from_push _ (sym c.has_uid.ensures ∙ c.if-has_uid.false) (is_later uid UpsPush from_pull _ (sym c.has_uid-else-has_uid.ensures ∙ c.if-has_uid-2.false) (is_first uid UpsPull from_watch (sym c.has_uid-else-has_uid-2.ensures ∙ c.if-has_uid-3.true)))

pub returns-then-has_uid-3-clause-both_ways : goal.returns-then-has_uid-3-clause-both_ways
returns-then-has_uid-3-clause-both_ways c = both_ways c.args.uid.now _ (returns-then-has_uid-3-clause-class c)

pub returns-then-has_uid-4-clause-class : goal.returns-then-has_uid-4-clause-class
returns-then-has_uid-4-clause-class c = let uid = c.args.uid.now in is_later uid Verification from_push _ (sym c.has_uid.ensures ∙ c.if-has_uid.false) (is_later uid UpsPush from_pull _ (sym c.has_uid-else-has_uid.ensures ∙ c.if-has_uid-2.false) (is_later uid UpsPull from_watch _ (sym c.has_uid-else-has_uid-2.ensures ∙ c.if-has_uid-3.false) (is_first uid UpsWatch from_event (sym c.has_uid-else-has_uid-3.ensures ∙ c.if-has_uid-4.true))))

pub returns-then-has_uid-4-clause-both_ways : goal.returns-then-has_uid-4-clause-both_ways
returns-then-has_uid-4-clause-both_ways c = both_ways c.args.uid.now _ (returns-then-has_uid-4-clause-class c)

pub returns-then-has_uid-5-clause-class : goal.returns-then-has_uid-5-clause-class
returns-then-has_uid-5-clause-class c = let uid = c.args.uid.now in is_later uid Verification from_push _ (sym c.has_uid.ensures ∙ c.if-has_uid.false) (is_later uid UpsPush from_pull _ (sym c.has_uid-else-has_uid.ensures ∙ c.if-has_uid-2.false) (is_later uid UpsPull from_watch _ (sym c.has_uid-else-has_uid-2.ensures ∙ c.if-has_uid-3.false) (is_later uid UpsWatch from_event _ (sym c.has_uid-else-has_uid-3.ensures ∙ c.if-has_uid-4.false) (is_first uid UpsEvent [] (sym c.has_uid-else-has_uid-4.ensures ∙ c.if-has_uid-5.true)))))

pub returns-then-has_uid-5-clause-both_ways : goal.returns-then-has_uid-5-clause-both_ways
returns-then-has_uid-5-clause-both_ways c = both_ways c.args.uid.now _ (returns-then-has_uid-5-clause-class c)

pub returns-else-has_uid-5-clause-class : goal.returns-else-has_uid-5-clause-class
returns-else-has_uid-5-clause-class c = let uid = c.args.uid.now in is_later uid Verification from_push _ (sym c.has_uid.ensures ∙ c.if-has_uid.false) (is_later uid UpsPush from_pull _ (sym c.has_uid-else-has_uid.ensures ∙ c.if-has_uid-2.false) (is_later uid UpsPull from_watch _ (sym c.has_uid-else-has_uid-2.ensures ∙ c.if-has_uid-3.false) (is_later uid UpsWatch from_event _ (sym c.has_uid-else-has_uid-3.ensures ∙ c.if-has_uid-4.false) (is_later uid UpsEvent [] _ (sym c.has_uid-else-has_uid-4.ensures ∙ c.if-has_uid-5.false) refl))))

pub returns-else-has_uid-5-clause-both_ways : goal.returns-else-has_uid-5-clause-both_ways
returns-else-has_uid-5-clause-both_ways c = both_ways c.args.uid.now _ (returns-else-has_uid-5-clause-class c)
