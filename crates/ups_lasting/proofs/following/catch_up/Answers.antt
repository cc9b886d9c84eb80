use Rattle.std.proofs.Common.{◌≡◌, length, refl, arith, inl, ◌∙◌}
use Rattle.std.proofs.lemmas.Bool.{ltb-true}
use Rattle.std.proofs.lemmas.Bool.Decides.{nat_tests}
use Rattle.ups_lasting.specs.Slices.{Stays}
use Rattle.ups_lasting.specs.declared.stage.TheConstants.{FOLLOWED}
use Rattle.ups_lasting.proofs.Exchanged.{drafts_more, drafts_none}
use Rattle.ups_lasting.proofs.Followed.{all_read}
use Rattle.ups_lasting.proofs.following.catch_up.Goals as goal

pub returns-then-is_empty : goal.returns-then-is_empty
returns-then-is_empty g c =
    let st : Stays g.D.DraftLedger c.args.ledger.now c.read.new.self = record { same = c.read.ensures.same; sound = c.read.ensures.sound; first = c.read.ensures.first; crash = λ k rs can. inl (c.read.ensures.crash k rs can) } in
    let none : length c.in_ok-records.records.items ≡ 0 = grind (arith, nat_tests) in
    record {
      drafts = drafts_none g.D.DraftLedger c.args.ledger.now c.read.new.self c.args.f.now st c.read.ensures.drafts;
      all = λ _ k. all_read (g.D.DraftLedger.kept c.args.ledger.now) c.in_ok-records.records.items c.args.f.now.read FOLLOWED c.args.f.now.read (c.in_ok-records.ensures.read k) (omega (arith, none)) (omega (arith, none));
      shifts = refl;
      stays = st;
    }

pub returns : goal.returns
returns g c =
    let st : Stays g.D.DraftLedger c.args.ledger.now c.read.new.self = record { same = c.read.ensures.same; sound = c.read.ensures.sound; first = c.read.ensures.first; crash = λ k rs can. inl (c.read.ensures.crash k rs can) } in
    let on = drafts_more g.D.DraftLedger c.args.ledger.now c.read.new.self c.follow_with.new.ledger c.args.f.now c.follow_with.new.f c.in_ok-records.records.items FOLLOWED st c.follow_with.ensures.stays c.read.ensures.drafts c.in_ok-records.ensures.read
    (λ s content is i. c.in_ok-follow_with.ensures.followed s content (c.deref.ensures.value ∙ is) i)
    c.in_ok-follow_with.ensures.put c.follow_with.ensures.from in
    record {
      drafts = on;
      all = λ is k.
          all_read (g.D.DraftLedger.kept c.args.ledger.now) c.in_ok-records.records.items c.args.f.now.read FOLLOWED c.follow_with.new.f.read (c.in_ok-records.ensures.read (c.follow_with.ensures.stays.sound k))
          (omega (arith, ltb-true c.len.result FOLLOWED is, c.len.ensures)) (cc (c.in_ok-follow_with.ensures.read));
      shifts = c.follow_with.ensures.shifts;
      stays = on.stays;
    }
