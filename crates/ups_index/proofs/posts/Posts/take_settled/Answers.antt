use Rattle.std.proofs.Common.{◌++◌, subst}
use Rattle.ups_index.specs.Posts.{Table, KeepsOthers}
use Rattle.ups_index.proofs.Runs.{others_both}
use Rattle.ups_index.proofs.Tree.{taken_keeps}
use Rattle.ups_index.proofs.posts.Posts.take_settled.Goals as goal

pub returns-clause-keeps : goal.returns-clause-keeps
returns-clause-keeps g c =
    let waiting = c.self.inside.waiting.items in
    subst (λ (t : Table). KeepsOthers c.args.place t.posts (c.remove.new.self.keys ++ waiting)) c.self.view_is
    (others_both c.args.place c.self.inside.tree.keys waiting c.remove.new.self.keys waiting (taken_keeps c.self.inside.tree c.remove.new.self c.args.number c.args.place c.remove.ensures.updates) (λ _ _ _ h. h))
