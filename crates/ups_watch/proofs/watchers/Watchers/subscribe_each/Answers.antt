use Rattle.std.proofs.Common.{rules, ◌≡◌, None, cond, length, ap, ◌∙◌, subst, arith}
use Rattle.std.specs.Option.{option_or}
use Rattle.std.specs.Str.{bytes_eq}
use Rattle.ups_watch.specs.Rows.{HasWidth}
use Rattle.ups_watch.proofs.Seen.{seen_watching, seen_known, seen_peers}
use Rattle.std.proofs.Common.{get_or}
use Rattle.ups_watch.proofs.watchers.Watchers.subscribe_each.Goals as goal

pub put_each-requires-clause-known : goal.put_each-requires-clause-known
put_each-requires-clause-known g c = seen_known _ _ c.self.view_is c.args.step ∙ c.requires.known

pub put_each-requires-clause-width : goal.put_each-requires-clause-width
put_each-requires-clause-width g c =
    let n : length c.self.inside.covers.items ≡ c.len.result = search rules in
    subst (λ k. HasWidth k c.self.inside.rows.entries) n c.self.invariant.width

pub put_each-requires-clause-cells : goal.put_each-requires-clause-cells
put_each-requires-clause-cells g c =
    let n : length c.self.inside.covers.items ≡ c.len.result = search rules in
    let e = seen_peers _ _ c.self.view_is in
    omega (arith, n, e, c.requires.width)

pub invariant_of-self : goal.invariant_of-self
invariant_of-self g c =
    let n : c.len.result ≡ length c.self.inside.covers.items = search rules in
    record { width = subst (λ k. HasWidth k c.put_each.new.rows.entries) n c.put_each.ensures.width; blank = c.self.invariant.blank }

pub returns-clause-watching : goal.returns-clause-watching
returns-clause-watching g c p u = c.put_each.ensures.watching p u ∙ ap (λ x. cond (bytes_eq c.args.step u) (option_or (get_or c.args.newly.now p None) x) x) (seen_watching _ _ c.self.view_is p u)

pub returns-clause-known : goal.returns-clause-known
returns-clause-known g c u = c.put_each.ensures.known u ∙ seen_known _ _ c.self.view_is u
