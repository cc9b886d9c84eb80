use Rattle.std.proofs.Common.{◌∙◌, sym}
use Rattle.ups_lasting.proofs.Carried.{carried_drafted}
use Rattle.ups_lasting.proofs.Slices.{stays_then}
use Rattle.ups_lasting.proofs.carrying.carry_on.Goals as goal

pub returns-clause-carried : goal.returns-clause-carried
returns-clause-carried g c = λ k s i.
    carried_drafted s _ _ _ _ _ _ _ _ _ c.in_ok-draft_on.ensures.drafted (c.in_ok-carry.ensures.carried (c.draft_on.ensures.stays.sound k) s i)

pub returns-clause-put : goal.returns-clause-put
returns-clause-put g c = λ k was. c.in_ok-draft_on.ensures.put k (c.carry.ensures.drafts (c.draft_on.ensures.stays.sound k) ∙ (was ∙ sym c.carry.ensures.noted))

pub returns-clause-stays : goal.returns-clause-stays
returns-clause-stays g c = stays_then g.D.DraftLedger _ _ _ c.carry.ensures.stays c.draft_on.ensures.stays

pub returns-in_err-draft_on-clause-stays : goal.returns-in_err-draft_on-clause-stays
returns-in_err-draft_on-clause-stays g c = stays_then g.D.DraftLedger _ _ _ c.carry.ensures.stays c.draft_on.ensures.stays
