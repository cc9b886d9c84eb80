use Rattle.std.proofs.Common.{◌≡◌, [], ◌++◌, ◌∙◌, List, subst, sym}
use Rattle.ups_index.specs.declared.posts.Post.{Post}
use Rattle.ups_index.specs.Posts.{Table, KeepsEach}
use Rattle.ups_index.proofs.Runs.{keeps_both, same_live, joined}
use Rattle.ups_index.proofs.posts.Posts.reserve.Goals as goal

pub returns-in_err-settle-clause-keeps : goal.returns-in_err-settle-clause-keeps
returns-in_err-settle-clause-keeps g c =
    let waiting = c.self.inside.waiting.items in
    subst (λ (t : Table). KeepsEach t.posts (c.settle.new.tree.keys ++ waiting)) c.self.view_is
    (keeps_both c.self.inside.tree.keys waiting c.settle.new.tree.keys waiting c.settle.ensures.keeps (same_live waiting))

pub returns-clause-keeps : goal.returns-clause-keeps
returns-clause-keeps g c =
    let waiting = c.self.inside.waiting.items in
    let empty : c.reserve.new.self.items ≡ [] = c.reserve.ensures.items ∙ c.clear.ensures.items in
    let moved = subst (λ (l : List Post). KeepsEach l c.settle.new.tree.keys) c.deref.ensures.value c.in_ok-settle.ensures.has in
    subst (λ (t : Table). KeepsEach t.posts (c.settle.new.tree.keys ++ c.reserve.new.self.items)) c.self.view_is
    (subst (λ (l : List Post). KeepsEach (c.self.inside.tree.keys ++ waiting) (c.settle.new.tree.keys ++ l)) (sym empty)
    (joined c.self.inside.tree.keys waiting c.settle.new.tree.keys c.settle.ensures.keeps moved))
