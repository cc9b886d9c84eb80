use Rattle.std.proofs.Common.{refl, sym, subst}
use Rattle.ups_lasting.specs.Stages.{Covers}
use Rattle.ups_lasting.specs.Tending.{IsAgreed}
use Rattle.ups_lasting.specs.declared.stage.Stage.{Stage}
use Rattle.ups_lasting.proofs.Turning.{agreed_next, covers_next, turns_going}
use Rattle.ups_lasting.proofs.compaction.Compaction.turn.Goals as goal

pub returns-in-Ok : goal.returns-in-Ok
returns-in-Ok g c =
    let s = c.args.self.now.empty.settings in
    let begun = c.args.self.now.begun in
    let a = c.args.ledger.now in
    let b = c.move_on.new.ledger in
    let agreed : g.D.DraftLedger.is_sound a → IsAgreed s c.replace.result (g.D.DraftLedger.kept a) (g.D.DraftLedger.drafts a) = λ k. subst (λ (x : Stage). IsAgreed s x (g.D.DraftLedger.kept a) (g.D.DraftLedger.drafts a)) (sym c.replace.ensures.value) (c.requires.agrees k) in
    let covered : g.D.DraftLedger.is_sound a → Covers begun c.replace.result (g.D.DraftLedger.kept a) = λ k. subst (λ (x : Stage). Covers begun x (g.D.DraftLedger.kept a)) (sym c.replace.ensures.value) (c.requires.covers k) in
    record {
      turns = turns_going g.D.DraftLedger s begun a b c.args.self.now.stage c.in-Ok.next c.move_on.ensures.stays
          (agreed_next g.D.DraftLedger s begun a b c.replace.result c.in-Ok.next c.move_on.ensures.stays agreed c.in-Ok.ensures.agrees)
          (covers_next g.D.DraftLedger s begun a b c.replace.result c.in-Ok.next c.move_on.ensures.stays covered c.in-Ok.ensures.covers);
      settings = refl;
      begun = refl;
    }
