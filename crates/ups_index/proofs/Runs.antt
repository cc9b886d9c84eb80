-- What is kept of posts.
use Rattle.std.proofs.Common.{ℕ, List, [], ◌++◌, inl, inr}
use Rattle.std.proofs.lemmas.List.Elements.{Contains-append_right, Contains-append_left, Contains-append_cases}
use Rattle.ups_index.specs.declared.posts.Post.{Post}
use Rattle.ups_index.specs.Posts.{post, KeepsEach, KeepsOthers}

-- what is kept of two lists is kept of both
pub keeps_both : (a b c d : List Post) → KeepsEach a c → KeepsEach b d → KeepsEach (a ++ b) (c ++ d)
keeps_both a b c d f g number place h = elim (Contains-append_cases a b (post number place) h) [
  | inl x ↦ Contains-append_left c d (post number place) (f number place x)
  | inr y ↦ Contains-append_right c d (post number place) (g number place y)
]

pub others_both : (place : ℕ) (a b c d : List Post) → KeepsOthers place a c → KeepsOthers place b d → KeepsOthers place (a ++ b) (c ++ d)
others_both place a b c d f g number other apart h = elim (Contains-append_cases a b (post number other) h) [
  | inl x ↦ Contains-append_left c d (post number other) (f number other apart x)
  | inr y ↦ Contains-append_right c d (post number other) (g number other apart y)
]

pub same_live : (a : List Post) → KeepsEach a a
same_live a number place h = h

pub then_live : (a b c : List Post) → KeepsEach a b → KeepsEach b c → KeepsEach a c
then_live a b c f g number place h = g number place (f number place h)

-- two lists that are put together
pub joined : (a b c : List Post) → KeepsEach a c → KeepsEach b c → KeepsEach (a ++ b) (c ++ [])
joined a b c f g number place h = elim (Contains-append_cases a b (post number place) h) [
  | inl x ↦ Contains-append_left c [] (post number place) (f number place x)
  | inr y ↦ Contains-append_left c [] (post number place) (g number place y)
]
