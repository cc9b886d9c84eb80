use Rattle.std.proofs.Common.{arith, sym, ap, ◌∙◌}
use Rattle.sqlite_trees.specs.View.{IsClean}
use Rattle.ups_store.specs.Rewriting.{seen, written_anew}
use Rattle.ups_start.specs.Anew.{put_so_far}
use Rattle.ups_store.specs.Digest.{digest_of}
use Rattle.ups_start.specs.Started.{said}
use Rattle.ups_start.proofs.Digested.{digest_behind}
use Rattle.ups_start.proofs.Said.{said_more}
use Rattle.ups_start.proofs.Behind.{behind_all}
use Rattle.ups_start.proofs.rewriting.AnewLedger.append.Goals as goal

pub returns-in-Ok-clause-put : goal.returns-in-Ok-clause-put
returns-in-Ok-clause-put g c sound = said_more (written_anew c.args.self.now.rewrite) (written_anew c.put.new.self) c.args.self.now.run c.args.records.now (c.in-Ok.ensures.added sound.1)

pub returns-in-Ok-clause-behind : goal.returns-in-Ok-clause-behind
returns-in-Ok-clause-behind g c = λ clean.
    let old = c.args.self.now in
    let before : IsClean (seen old.rewrite) = omega (arith, c.put.ensures.quiet.clean, clean) in
    let more = said_more (written_anew old.rewrite) (written_anew c.put.new.self) old.run c.args.records.now (c.in-Ok.ensures.added clean) in
    behind_all (put_so_far old) _ c.args.records.now old.count (old.counted c.if-not-self.false before) more

pub invariant_of-self-clause-digested : goal.invariant_of-self-clause-digested
invariant_of-self-clause-digested g c = λ _ clean.
    let old = c.args.self.now in
    let before : IsClean (seen old.rewrite) = omega (arith, c.put.ensures.quiet.clean, clean) in
    let more = said_more (written_anew old.rewrite) (written_anew c.put.new.self) old.run c.args.records.now (c.in-Ok.ensures.added clean) in
    c.digest_after-self.ensures ∙ sym (ap digest_of more ∙ digest_behind (said (written_anew old.rewrite)) c.args.records.now old.digest (sym (old.digested c.if-not-self.false before)))
