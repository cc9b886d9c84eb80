use Rattle.std.proofs.Common.{rules, ◌≡◌, ◌<◌, None, length, get_or, sym, ap, ◌∙◌, arith}
use Rattle.std.proofs.lemmas.List.{length-set, get_or_past, get_or_default}
use Rattle.ups_watch.specs.Covers.{covered, covering_in}
use Rattle.ups_watch.proofs.Filling.{filled_more, filled}
use Rattle.ups_watch.proofs.cover.fill.Goals as goal

pub loop-peer-preserved : goal.loop-peer-preserved
loop-peer-preserved g c =
    let row = c.loop-peer.row in
    let i = c.loop-peer.peer in
    let within : i < length c.args.covers.now = search rules in
    let inside : i < length row = search rules in
    let cover : c.index-covers-peer.result ≡ get_or c.args.covers.now i None = c.index-covers-peer.is ∙ get_or_default c.args.covers.now i c.index-covers-peer.result None within in
    let is : c.covered.result ≡ covering_in c.args.covers.now i c.args.attributes.now = c.covered.ensures ∙ ap (λ o. covered o c.args.attributes.now) cover in (
      ap length c.set.ensures ∙ length-set row i c.covered.result ∙ c.loop-peer.invariant.0,
      λ p l. ap (λ r. get_or r p None) c.set.ensures ∙ filled_more row i None c.covered.result (λ p. covering_in c.args.covers.now p c.args.attributes.now) is c.loop-peer.invariant.1 inside p l,
    )

pub returns-clause-cells : goal.returns-clause-cells
returns-clause-cells g c =
    let end : c.loop-peer.peer ≡ length c.args.covers.now = search rules in
    filled c.loop-peer.row c.loop-peer.peer None (λ p. covering_in c.args.covers.now p c.args.attributes.now) (c.loop-peer.invariant.0 ∙ sym end) c.loop-peer.invariant.1
    (λ p a. ap (λ o. covered o c.args.attributes.now) (get_or_past c.args.covers.now p None (omega (arith, end, a))))
