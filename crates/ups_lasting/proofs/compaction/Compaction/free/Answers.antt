use Rattle.ups_lasting.specs.Slices.{Stays}
use Rattle.ups_lasting.specs.declared.stage.Stage.TheVariants.{Freeing}
use Rattle.ups_lasting.proofs.Turning.{agreed_freeing, covers_freeing, turns_going}
use Rattle.ups_lasting.proofs.compaction.Compaction.free.Goals as goal

pub returns : goal.returns
returns g c =
    let s = c.args.self.now.empty.settings in
    let begun = c.args.self.now.begun in
    let a = c.args.ledger.now in
    let b = c.clear.new.self in
    let st : Stays g.D.DraftLedger a b = record { same = c.clear.ensures.same; sound = c.clear.ensures.sound; first = c.clear.ensures.first; crash = c.clear.ensures.crash } in
    record {
      turns = turns_going g.D.DraftLedger s begun a b Freeing c.give_up.new.self.stage st (agreed_freeing g.D.DraftLedger s begun a b c.give_up.new.self.stage c.give_up.ensures.stage)
          (covers_freeing g.D.DraftLedger s begun a b c.give_up.new.self.stage c.give_up.ensures.stage);
      settings = c.give_up.ensures.settings;
      begun = c.give_up.ensures.begun;
    }
