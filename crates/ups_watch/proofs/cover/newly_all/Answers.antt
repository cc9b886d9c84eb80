use Rattle.std.proofs.Common.{rules, ◌≡◌, ◌<◌, ◌+◌, None, length, get_or, ap, ◌∙◌, arith, ◌++◌, ◌∷◌, [], ℕ, Option}
use Rattle.std.proofs.lemmas.List.{get_or_past, get_or_default}
use Rattle.ups_life.specs.declared.watching.Subscription.{Subscription}
use Rattle.ups_watch.specs.Covers.{subscription_gained}
use Rattle.ups_watch.proofs.Filling.{pushed_more, filled}
use Rattle.ups_watch.proofs.cover.newly_all.Goals as goal

pub loop-peer-preserved : goal.loop-peer-preserved
loop-peer-preserved g c =
    let i = c.loop-peer.peer in
    let want : ℕ → Option Subscription = λ p. subscription_gained (get_or c.args.covers.now p None) (get_or c.args.cells.now p None) c.args.before.now c.args.after.now in
    let within : i < length c.args.covers.now = search rules in
    let cover : c.index-covers-peer.result ≡ get_or c.args.covers.now i None = c.index-covers-peer.is ∙ get_or_default c.args.covers.now i c.index-covers-peer.result None within in
    let is : c.newly_covered.result ≡ subscription_gained (get_or c.args.covers.now i None) (get_or c.args.cells.now i None) c.args.before.now c.args.after.now =
    c.newly_covered.ensures ∙ ap (λ o. subscription_gained o c.cell_at.result c.args.before.now c.args.after.now) cover ∙ ap (λ o. subscription_gained (get_or c.args.covers.now i None) o c.args.before.now c.args.after.now) c.cell_at.ensures in
    let items : c.push.new.self.items ≡ c.loop-peer.found.items ++ c.newly_covered.result ∷ [] = search rules in
    let len : length c.push.new.self.items ≡ i + 1 = search rules in
    (len, λ p l. ap (λ r. get_or r p None) items ∙ pushed_more c.loop-peer.found.items i None c.newly_covered.result want is c.loop-peer.invariant.1 c.loop-peer.invariant.0 p l)

pub returns-clause-newly : goal.returns-clause-newly
returns-clause-newly g c =
    let want : ℕ → Option Subscription = λ p. subscription_gained (get_or c.args.covers.now p None) (get_or c.args.cells.now p None) c.args.before.now c.args.after.now in
    let end : c.loop-peer.peer ≡ length c.args.covers.now = search rules in
    filled c.loop-peer.found.items c.loop-peer.peer None want c.loop-peer.invariant.0 c.loop-peer.invariant.1
    (λ p a. ap (λ o. subscription_gained o (get_or c.args.cells.now p None) c.args.before.now c.args.after.now) (get_or_past c.args.covers.now p None (omega (arith, end, a))))
