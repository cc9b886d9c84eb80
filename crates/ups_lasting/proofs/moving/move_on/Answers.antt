use Rattle.std.proofs.Common.{subst}
use Rattle.ups_lasting.specs.Stages.{Agrees, Covers}
use Rattle.ups_lasting.specs.declared.stage.Stage.{Stage}
use Rattle.ups_lasting.proofs.Slices.{if_ok}
use Rattle.ups_lasting.proofs.moving.move_on.Goals as goal

pub returns-in-Clearing-clause-agrees : goal.returns-in-Clearing-clause-agrees
returns-in-Clearing-clause-agrees g c = if_ok _ _ c.clear.result (λ next p k a. p k) c.clear.ensures.agrees

pub returns-in-Surveying-clause-agrees : goal.returns-in-Surveying-clause-agrees
returns-in-Surveying-clause-agrees g c =
    let s = c.args.empty.now.settings in
    if_ok _ _ c.survey_next.result
    (λ next p k a. p k s (subst (λ (x : Stage). Agrees s x (g.D.DraftLedger.kept c.args.ledger.now) (g.D.DraftLedger.drafts c.args.ledger.now)) c.in-Surveying.is a))
    c.survey_next.ensures.agrees

pub returns-in-Sorting-clause-agrees : goal.returns-in-Sorting-clause-agrees
returns-in-Sorting-clause-agrees g c =
    let s = c.args.empty.now.settings in
    let kept = g.D.DraftLedger.kept c.args.ledger.now in
    let drafts = g.D.DraftLedger.drafts c.args.ledger.now in
    if_ok _ _ c.sort_next.result (λ next p k a. p s kept drafts (subst (λ (x : Stage). Agrees s x kept drafts) c.in-Sorting.is a)) c.sort_next.ensures.agrees

pub returns-in-Carrying-clause-agrees : goal.returns-in-Carrying-clause-agrees
returns-in-Carrying-clause-agrees g c =
    let s = c.args.empty.now.settings in
    if_ok _ _ c.carry_next.result
    (λ next p k a. p k s (subst (λ (x : Stage). Agrees s x (g.D.DraftLedger.kept c.args.ledger.now) (g.D.DraftLedger.drafts c.args.ledger.now)) c.in-Carrying.is a))
    c.carry_next.ensures.agrees

pub returns-in-Finishing-clause-agrees : goal.returns-in-Finishing-clause-agrees
returns-in-Finishing-clause-agrees g c =
    let s = c.args.empty.now.settings in
    if_ok _ _ c.finish_next.result
    (λ next p k a. p k s (subst (λ (x : Stage). Agrees s x (g.D.DraftLedger.kept c.args.ledger.now) (g.D.DraftLedger.drafts c.args.ledger.now)) c.in-Finishing.is a))
    c.finish_next.ensures.agrees

pub returns-in-Clearing-clause-covers : goal.returns-in-Clearing-clause-covers
returns-in-Clearing-clause-covers g c = if_ok _ _ c.clear.result (λ next p k a. p c.args.upto (subst (λ (x : Stage). Covers c.args.upto x (g.D.DraftLedger.kept c.args.ledger.now)) c.in-Clearing.is a)) c.clear.ensures.covers

pub returns-in-Surveying-clause-covers : goal.returns-in-Surveying-clause-covers
returns-in-Surveying-clause-covers g c = if_ok _ _ c.survey_next.result (λ next p k a. p k (subst (λ (x : Stage). Covers c.args.upto x (g.D.DraftLedger.kept c.args.ledger.now)) c.in-Surveying.is a)) c.survey_next.ensures.covers

pub returns-in-Sorting-clause-covers : goal.returns-in-Sorting-clause-covers
returns-in-Sorting-clause-covers g c = if_ok _ _ c.sort_next.result (λ next p k a. p c.args.upto (g.D.DraftLedger.kept c.args.ledger.now) (subst (λ (x : Stage). Covers c.args.upto x (g.D.DraftLedger.kept c.args.ledger.now)) c.in-Sorting.is a)) c.sort_next.ensures.covers

pub returns-in-Carrying-clause-covers : goal.returns-in-Carrying-clause-covers
returns-in-Carrying-clause-covers g c = if_ok _ _ c.carry_next.result (λ next p k a. p c.args.upto (subst (λ (x : Stage). Covers c.args.upto x (g.D.DraftLedger.kept c.args.ledger.now)) c.in-Carrying.is a)) c.carry_next.ensures.covers

pub returns-in-Finishing-clause-covers : goal.returns-in-Finishing-clause-covers
returns-in-Finishing-clause-covers g c = if_ok _ _ c.finish_next.result (λ next p k a. p c.args.upto (subst (λ (x : Stage). Covers c.args.upto x (g.D.DraftLedger.kept c.args.ledger.now)) c.in-Finishing.is a)) c.finish_next.ensures.covers
