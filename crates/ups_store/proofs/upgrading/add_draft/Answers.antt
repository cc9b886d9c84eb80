use Rattle.std.proofs.Common.{◌≡◌, false, true, inr, sym, ap, ◌∙◌}
use Rattle.sqlite_trees.specs.Objects.{catalog_tree}
use Rattle.sqlite_trees.specs.declared.store.Shape.TheVariants.{Absent}
use Rattle.ups_store.specs.Format.{names_draft}
use Rattle.ups_store.proofs.Steps.{clean_before, mapped}
use Rattle.ups_store.proofs.Relisted.{third_absent, makes_draft, is_draft, free_for_draft, draft_cause, names_cut}
use Rattle.ups_store.proofs.upgrading.add_draft.Goals as goal

pub returns-then-names_draft-clause-cause : goal.returns-then-names_draft-clause-cause
returns-then-names_draft-clause-cause g c clean =
    let v = g.S.Store.view c.args.store.now in
    let absent : v.shape 2 ≡ Absent = sym c.shape.ensures ∙ c.in-Absent.is in
    let named : names_draft (v.trees catalog_tree) ≡ true = sym (names_cut (v.trees catalog_tree)) ∙ ap names_draft (sym (c.in_ok-listed.ensures clean) ∙ sym c.as_slice.ensures.value) ∙ sym c.names_draft.ensures ∙ c.if-names_draft.true in
    (third_absent v (g.met.S.Alter.listed c.args.store.now (c.requires.sound clean)) absent, inr (inr named))

pub create-requires : goal.create-requires
create-requires g c clean =
    let v = g.S.Store.view c.args.store.now in
    let absent : v.shape 2 ≡ Absent = sym c.shape.ensures ∙ c.in-Absent.is in
    let none : names_draft (v.trees catalog_tree) ≡ false = sym (names_cut (v.trees catalog_tree)) ∙ ap names_draft (sym (c.in_ok-listed.ensures clean) ∙ sym c.as_slice.ensures.value) ∙ sym c.names_draft.ensures ∙ c.if-names_draft.false in
    free_for_draft v c.draft_table.result (is_draft c.draft_table.result c.draft_table.ensures.wanted c.draft_table.ensures.listed) (c.requires.numbered clean) absent none

pub returns-clause-added : goal.returns-clause-added
returns-clause-added g c =
    let old = g.S.Store.view c.args.store.now in
    let new = g.S.Store.view c.create.new.self in
    let absent : old.shape 2 ≡ Absent = sym c.shape.ensures ∙ c.in-Absent.is in
    mapped c.create.result (λ creates clean.
    let was = clean_before old new c.create.ensures.quiet.clean clean in
    makes_draft old new c.draft_table.result (is_draft c.draft_table.result c.draft_table.ensures.wanted c.draft_table.ensures.listed) (g.met.S.Alter.listed c.args.store.now (c.requires.sound was)) absent (creates clean)) c.create.ensures.ok

pub returns-clause-cause : goal.returns-clause-cause
returns-clause-cause g c clean =
    let old = g.S.Store.view c.args.store.now in
    let new = g.S.Store.view c.create.new.self in
    let absent : old.shape 2 ≡ Absent = sym c.shape.ensures ∙ c.in-Absent.is in
    let sound = c.requires.sound (clean_before old new c.create.ensures.quiet.clean clean) in
    draft_cause c.create.result old _ _ c.draft_table.result (is_draft c.draft_table.result c.draft_table.ensures.wanted c.draft_table.ensures.listed) sound (third_absent old (g.met.S.Alter.listed c.args.store.now sound) absent) (c.create.ensures.cause clean)
