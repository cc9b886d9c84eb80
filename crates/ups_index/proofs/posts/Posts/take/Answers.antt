use Rattle.std.proofs.Common.{rules, tests, ◌≡◌, ◌++◌, filter, subst, sym}
use Rattle.std.proofs.lemmas.Fn.{filter_same}
use Rattle.ups_index.specs.Posts.{Table, KeepsOthers}
use Rattle.ups_index.proofs.Runs.{others_both}
use Rattle.ups_index.proofs.Tree.{KeepsNumbers, taken_keeps, taken_spares, numbers_both, is_apart, apart_keeps, apart_spares}
use Rattle.ups_index.proofs.posts.Posts.take.Goals as goal

pub returns-clause-keeps : goal.returns-clause-keeps
returns-clause-keeps g c =
    let waiting = c.self.inside.waiting.items in
    let is : c.retain.new.self.items ≡ filter (is_apart c.args.number c.args.place) waiting = filter_same _ (is_apart c.args.number c.args.place) _ (λ x b f k. search (rules, tests)) _ _ c.retain.ensures.filtered in
    let kept = subst (KeepsOthers c.args.place waiting) (sym is) (apart_keeps waiting c.args.number c.args.place) in
    subst (λ (t : Table). KeepsOthers c.args.place t.posts (c.remove.new.self.keys ++ c.retain.new.self.items)) c.self.view_is
    (others_both c.args.place c.self.inside.tree.keys waiting c.remove.new.self.keys c.retain.new.self.items (taken_keeps c.self.inside.tree c.remove.new.self c.args.number c.args.place c.remove.ensures.updates) kept)

pub returns-clause-spares : goal.returns-clause-spares
returns-clause-spares g c =
    let waiting = c.self.inside.waiting.items in
    let is : c.retain.new.self.items ≡ filter (is_apart c.args.number c.args.place) waiting = filter_same _ (is_apart c.args.number c.args.place) _ (λ x b f k. search (rules, tests)) _ _ c.retain.ensures.filtered in
    let kept = subst (KeepsNumbers c.args.number c.args.place waiting) (sym is) (apart_spares waiting c.args.number c.args.place) in
    subst (λ (t : Table). KeepsNumbers c.args.number c.args.place t.posts (c.remove.new.self.keys ++ c.retain.new.self.items)) c.self.view_is
    (numbers_both c.args.number c.args.place c.self.inside.tree.keys waiting c.remove.new.self.keys c.retain.new.self.items (taken_spares c.self.inside.tree c.remove.new.self c.args.number c.args.place c.remove.ensures.updates) kept)
