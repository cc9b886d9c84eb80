-- The terms that the last run on a store noted.
use Rattle.std.specs.Prelude.{◌≡◌, ⊤, ℕ, List, Option, None, Some}
use Rattle.std.specs.declared.alloc.Global.{Global}
use Rattle.ups_life.specs.Settings.{Settings}
use Rattle.ups_terms.specs.declared.terms.Terms.{Terms}
use Rattle.ups_terms.specs.Text.{terms_text}
use Rattle.ups_terms.specs.Permits.{Permits}

-- this is the text of these terms
abbrev pub IsTextOf : List ℕ → Terms Global → Type 0
IsTextOf text terms = terms_text terms.keep terms.offset terms.peers.items ≡ text

-- the last run noted none, or the settings permit as much as the terms that it noted
abbrev pub PermitsNoted : Settings → Option (List ℕ) → Type 0
PermitsNoted s None = ⊤
PermitsNoted s (Some text) = (old : Terms Global) × IsTextOf text old × Permits old s.keep s.offset s.peers

-- these terms were noted, or none
abbrev pub AreNoted : Option (Terms Global) → Option (List ℕ) → Type 0
AreNoted None None = ⊤
AreNoted (Some terms) (Some text) = IsTextOf text terms
AreNoted None (Some text) = ⊥
AreNoted (Some terms) None = ⊥
