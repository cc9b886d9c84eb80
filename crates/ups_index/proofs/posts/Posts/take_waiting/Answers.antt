use Rattle.std.proofs.Common.{rules, tests, ◌≡◌, ◌++◌, filter, subst, sym}
use Rattle.std.proofs.lemmas.Fn.{filter_same}
use Rattle.ups_index.specs.Posts.{Table, KeepsOthers}
use Rattle.ups_index.proofs.Runs.{others_both}
use Rattle.ups_index.proofs.Tree.{is_elsewhere, elsewhere_keeps}
use Rattle.ups_index.proofs.posts.Posts.take_waiting.Goals as goal

pub returns-clause-keeps : goal.returns-clause-keeps
returns-clause-keeps g c =
    let waiting = c.self.inside.waiting.items in
    let keys = c.self.inside.tree.keys in
    let is : c.retain.new.self.items ≡ filter (is_elsewhere c.args.place) waiting = filter_same _ (is_elsewhere c.args.place) _ (λ x b f k. search (rules, tests)) _ _ c.retain.ensures.filtered in
    let kept = subst (KeepsOthers c.args.place waiting) (sym is) (elsewhere_keeps waiting c.args.place) in
    subst (λ (t : Table). KeepsOthers c.args.place t.posts (keys ++ c.retain.new.self.items)) c.self.view_is
    (others_both c.args.place keys waiting keys c.retain.new.self.items (λ _ _ _ h. h) kept)
