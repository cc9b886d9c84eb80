use Rattle.std.proofs.Common.{rules, ◌≡◌, None, cond, ◌&&◌, eqb, length, ap, ◌∙◌, sym, subst, arith}
use Rattle.ups_life.specs.Watching.{is_at}
use Rattle.ups_watch.specs.Rows.{HasWidth}
use Rattle.ups_watch.specs.Table.{AreBlank}
use Rattle.ups_watch.proofs.Seen.{seen_watching, seen_known, seen_peers}
use Rattle.ups_watch.proofs.Peers.{covers_left_peers}
use Rattle.ups_watch.proofs.watchers.Watchers.unsubscribe.Goals as goal

pub end_at-requires-clause-width : goal.end_at-requires-clause-width
end_at-requires-clause-width g c =
    let n : length c.self.inside.covers.items ≡ c.len.result = search rules in
    subst (λ k. HasWidth k c.self.inside.rows.entries) n c.self.invariant.width

pub end_at-requires-clause-within : goal.end_at-requires-clause-within
end_at-requires-clause-within g c =
    let n : length c.self.inside.covers.items ≡ c.len.result = search rules in
    let e = seen_peers _ _ c.self.view_is in
    omega (arith, n, e, c.requires.peer)

pub end_cover-requires : goal.end_cover-requires
end_cover-requires g c = let e = seen_peers _ _ c.self.view_is in omega (arith, e, c.requires.peer)

pub invariant_of-self : goal.invariant_of-self
invariant_of-self g c =
    let n : c.len.result ≡ length c.self.inside.covers.items = search rules in
    let m : length c.end_cover.new.covers.items ≡ length c.self.inside.covers.items = ap length c.end_cover.ensures ∙ covers_left_peers c.args.place c.args.peer c.self.inside.covers.items in
    record { width = subst (λ k. HasWidth k c.end_at.new.rows.entries) (n ∙ sym m) c.end_at.ensures.width; blank = subst (λ k. AreBlank k c.self.inside.blanks.items) (sym m) c.self.invariant.blank }

pub returns-clause-watching : goal.returns-clause-watching
returns-clause-watching g c p u = c.end_at.ensures.watching p u ∙ ap (λ x. cond (eqb c.args.peer p && is_at c.args.place u) None x) (seen_watching _ _ c.self.view_is p u)

pub returns-clause-known : goal.returns-clause-known
returns-clause-known g c u = c.end_at.ensures.known u ∙ seen_known _ _ c.self.view_is u
