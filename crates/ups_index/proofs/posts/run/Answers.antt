use Rattle.std.proofs.Common.{rules, ◌≡◌, ◌+◌, List, Contains, subst, sym, arith}
use Rattle.std.specs.declared.ops.Bound.TheVariants.{Included, Excluded, Unbounded}
use Rattle.std.specs.BTreeMap.Range.{range_contains}
use Rattle.std.proofs.lemmas.Map.Views.{range_contains-from_IsInRange}
use Rattle.ups_index.specs.declared.posts.Post.{Post}
use Rattle.ups_index.specs.Posts.{post}
use Rattle.ups_index.proofs.Tree.{post_cmp, post_total, is_from, is_before, filter_keeps}
use Rattle.ups_index.proofs.posts.run.Goals as goal

pub returns-in-Some : goal.returns-in-Some
returns-in-Some g c number place h low high =
    let behind : c.in-Some.number ≡ c.args.high + 1 = search rules in
    let from = Included (post c.args.low 0) in
    let to = Excluded (post c.in-Some.number 0) in
    subst (λ (l : List Post). Contains l (post number place)) (sym (c.range.ensures.between tt))
    (filter_keeps (range_contains post_cmp from to) c.args.tree.now.keys (post number place)
    (range_contains-from_IsInRange post_total from to (post number place) (is_from c.args.low number place low, is_before number c.in-Some.number place (omega (arith, behind, high)))) h)

pub returns-in-None : goal.returns-in-None
returns-in-None g c number place h low high =
    let from = Included (post c.args.low 0) in
    subst (λ (l : List Post). Contains l (post number place)) (sym (c.range-in-None.ensures.between tt))
    (filter_keeps (range_contains post_cmp from Unbounded) c.args.tree.now.keys (post number place)
    (range_contains-from_IsInRange post_total from Unbounded (post number place) (is_from c.args.low number place low, tt)) h)
