use Rattle.std.proofs.Common.{List, sym, subst, inl, inr}
use Rattle.std.specs.Prelude.{Contains}
use Rattle.std.proofs.lemmas.List.Elements.{Contains-append_cases}
use Rattle.ups_index.specs.declared.posts.Post.{Post}
use Rattle.ups_index.specs.Posts.{post, Table}
use Rattle.ups_index.proofs.posts.Posts.runs.Goals as goal

pub returns : goal.returns
returns g c number place h low high =
    let has = subst (λ (t : Table). Contains t.posts (post number place)) (sym c.self.view_is) h in
    elim (Contains-append_cases c.self.inside.tree.keys c.self.inside.waiting.items (post number place) has) [
      | inl x ↦ inl (c.run.ensures number place x low high)
      | inr y ↦ inr (subst (λ (l : List Post). Contains l (post number place)) (sym c.deref.ensures.value) y)
    ]
