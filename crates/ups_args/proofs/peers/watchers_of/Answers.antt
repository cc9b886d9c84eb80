use Rattle.std.proofs.Common.{rules, subst, sym}
use Rattle.ups_args.specs.Arguments.{NamesPeer, NamesWatcher, SaysWhere}
use Rattle.ups_args.proofs.Parts.{named_at, one_further}
use Rattle.ups_args.proofs.peers.watchers_of.Goals as goal

pub loop-word-preserved : goal.loop-word-preserved
loop-word-preserved c =
    let is = c.in-Some.ensures in
    one_further NamesWatcher c.args.words.now c.loop-word.word-index _ c.loop-word.watchers.items _ _ (search rules) c.loop-word.invariant
    (c.in-Some.place.peer.lock, record { names = is.names; is_there = subst (SaysWhere is.names.says.address) (sym c.in_ok-kept_address.ensures) is.is_there }) c.in_ok-push.ensures.items

pub returns-in_default-clause-fault : goal.returns-in_default-clause-fault
returns-in_default-clause-fault c = λ peers named.
    let (peer, names) = named_at NamesPeer c.args.words.now c.loop-word.word-index _ peers (search rules) named in
    absurd (c.in_default.ensures peer names)
