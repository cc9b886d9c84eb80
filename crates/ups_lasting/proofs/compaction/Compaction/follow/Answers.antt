use Rattle.std.proofs.Common.{refl, subst}
use Rattle.std.specs.Prelude.{Ok}
use Rattle.ups_lasting.specs.declared.following.Followed.{Followed}
use Rattle.ups_lasting.specs.Exchanging.{Follows}
use Rattle.ups_lasting.proofs.Turning.{turns_drafted, turns_exchanged, turns_doubtful}
use Rattle.ups_lasting.proofs.compaction.Compaction.follow.Goals as goal

pub returns-in-Ok-Drafted-clause-turns : goal.returns-in-Ok-Drafted-clause-turns
returns-in-Ok-Drafted-clause-turns g c =
    let a = c.args.ledger.now in
    let b = c.follow_on.new.ledger in
    let d = subst (λ (x : Followed). Follows g.D.DraftLedger a b c.args.f c.follow_on.new.f (Ok x)) c.in-Ok-Drafted.field-0-is c.in-Ok-Drafted.ensures.follows in
    turns_drafted g.D.DraftLedger c.args.self.now.empty.settings c.args.self.now.begun a b _ c.args.f c.follow_on.new.f c.requires.agrees c.requires.covers refl d

pub returns-in-Ok-Exchanged-clause-turns : goal.returns-in-Ok-Exchanged-clause-turns
returns-in-Ok-Exchanged-clause-turns g c =
    let a = c.args.ledger.now in
    let b = c.follow_on.new.ledger in
    let d = subst (λ (x : Followed). Follows g.D.DraftLedger a b c.args.f c.follow_on.new.f (Ok x)) c.in-Ok-Exchanged.field-0-is c.in-Ok-Exchanged.ensures.follows in
    turns_exchanged g.D.DraftLedger c.args.self.now.empty.settings c.args.self.now.begun a b _ c.args.f c.follow_on.new.f c.requires.agrees c.requires.covers c.requires.freeing d

pub returns-in-Ok-Doubtful-clause-turns : goal.returns-in-Ok-Doubtful-clause-turns
returns-in-Ok-Doubtful-clause-turns g c =
    let a = c.args.ledger.now in
    let b = c.follow_on.new.ledger in
    let d = subst (λ (x : Followed). Follows g.D.DraftLedger a b c.args.f c.follow_on.new.f (Ok x)) c.in-Ok-Doubtful.field-0-is c.in-Ok-Doubtful.ensures.follows in
    turns_doubtful g.D.DraftLedger c.args.self.now.empty.settings c.args.self.now.begun a b _ c.args.f c.follow_on.new.f c.requires.agrees c.requires.covers c.in-Ok-Doubtful.fault c.requires.freeing d
