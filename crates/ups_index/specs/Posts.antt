-- Posts: the places of the slots at which a number is found.
use Rattle.std.specs.Prelude.{ℕ, ℤ, ◌≢◌, List, Contains, Option, MatchOption}
use Rattle.ups_dataset.specs.declared.tag.Tag.{Tag}
use Rattle.ups_index.specs.Numbers.{text_number, moment_number}
use Rattle.ups_index.specs.declared.posts.Post.{Post}

-- the post of a number at a place
abbrev pub post : ℕ → ℕ → Post
post number place = record { number = number; place = place }

-- each old post is still there
abbrev pub KeepsEach : List Post → List Post → Type 0
KeepsEach old new = (number place : ℕ) → Contains old (post number place) → Contains new (post number place)

-- each old post at another place is still there
abbrev pub KeepsOthers : ℕ → List Post → List Post → Type 0
KeepsOthers place old new = (number other : ℕ) → other ≢ place → Contains old (post number other) → Contains new (post number other)

-- each of the texts has its post at a place
abbrev pub HasTexts : List (Tag × List ℕ) → ℕ → List Post → Type 0
HasTexts texts place posts = (stored : Tag × List ℕ) → Contains texts stored → Contains posts (post (text_number stored.0 stored.1) place)

-- the posts of the texts at a place are still there, if they were there before
abbrev pub KeepsTexts : List (Tag × List ℕ) → ℕ → List Post → List Post → Type 0
KeepsTexts texts place old new = (stored : Tag × List ℕ) → Contains texts stored → Contains old (post (text_number stored.0 stored.1) place) → Contains new (post (text_number stored.0 stored.1) place)

-- a start, if there is one, has its post at a place
abbrev pub HasStart : Option ℤ → ℕ → List Post → Type 0
HasStart start place posts = MatchOption start (Unit {0}) (λ moment. Contains posts (post (moment_number moment) place))

-- posts as contracts see them: all of them, and how many more may wait
pub record Table : Type 0 where
  pub posts : List Post
  pub room : ℕ
