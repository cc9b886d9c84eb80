use Rattle.std.proofs.Common.{rules, ◌≡◌, ◌||◌, ◌∷◌, ◌++◌, [], cond, length, ap, ◌∙◌, sym, subst}
use Rattle.std.specs.Str.{bytes_eq}
use Rattle.ups_watch.specs.Rows.{HasWidth, watching_in}
use Rattle.ups_watch.specs.Covers.{covering_in}
use Rattle.ups_watch.specs.Table.{AreBlank, covering}
use Rattle.ups_watch.proofs.Seen.{seen_watching, seen_known, seen_covering}
use Rattle.ups_watch.proofs.Blanks.{blank_left, blank_taken}
use Rattle.ups_watch.proofs.watchers.Watchers.created.Goals as goal

pub fill-requires : goal.fill-requires
fill-requires g c =
    let was : c.self.inside.blanks.items ≡ c.pop.new.self.items ++ c.in-Some.row ∷ [] = search rules in
    record { width = blank_taken _ c.pop.new.self.items c.in-Some.row (subst (AreBlank (length c.self.inside.covers.items)) was c.self.invariant.blank) ∙ ap length (sym c.deref.ensures.value) }

pub put_row-requires-clause-width : goal.put_row-requires-clause-width
put_row-requires-clause-width g c =
    let n : length c.self.inside.covers.items ≡ c.len.result = search rules in
    subst (λ k. HasWidth k c.self.inside.rows.entries) n c.self.invariant.width

pub invariant_of-self : goal.invariant_of-self
invariant_of-self g c =
    let n : c.len.result ≡ length c.self.inside.covers.items = search rules in
    let was : c.self.inside.blanks.items ≡ c.pop.new.self.items ++ c.in-Some.row ∷ [] = search rules in
    record { width = subst (λ k. HasWidth k c.put_row.new.rows.entries) n c.put_row.ensures.width; blank = blank_left _ c.pop.new.self.items c.in-Some.row (subst (AreBlank (length c.self.inside.covers.items)) was c.self.invariant.blank) }

pub returns-clause-watching : goal.returns-clause-watching
returns-clause-watching g c p u =
    c.put_row.ensures.watching p u ∙ ap (λ x. cond (bytes_eq c.args.step u) x (watching_in c.self.inside.rows.entries p u)) (c.fill.ensures.cells p ∙ ap (λ cs. covering_in cs p c.args.attributes.now) c.deref.ensures.value ∙ seen_covering _ _ c.self.view_is p c.args.attributes.now)
    ∙ ap (λ x. cond (bytes_eq c.args.step u) (covering c.args.self.now p c.args.attributes.now) x) (seen_watching _ _ c.self.view_is p u)

pub returns-clause-known : goal.returns-clause-known
returns-clause-known g c u = c.put_row.ensures.known u ∙ ap (λ b. bytes_eq c.args.step u || b) (seen_known _ _ c.self.view_is u)
