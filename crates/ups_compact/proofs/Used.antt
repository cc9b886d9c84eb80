-- Which steps held were held before.
use Rattle.std.proofs.Common.{◌≡◌, ℕ, Bool, true, false, not, List, [], ◌∷◌, ◌++◌, refl}
use Rattle.std.specs.Str.{bytes_eq}
use Rattle.ups_life.specs.declared.entry.Entry.{Entry}
use Rattle.ups_life.specs.declared.request.Request.{Request}
use Rattle.ups_life.specs.declared.request.Request.TheVariants.{Create, Sweep}
use Rattle.ups_life.specs.Settings.{Settings}
use Rattle.ups_life.specs.Steps.{creates}
use Rattle.ups_life.specs.Watching.{is_due, held_after, is_among}
use Rattle.ups_life.proofs.Accepted.{differ}
use Rattle.ups_life.proofs.HeldOnce.{not_among_more}
use Rattle.ups_life.proofs.RowsTell.{any_filter}

-- a step that is held after an entry that does not create it was held
pub held_then : {A : Type 0} (s : Settings) (es : List (Entry A)) (m : ℕ) (us : List (List ℕ)) (u : List ℕ) (q : Request A) → creates u q ≡ false → is_among u (held_after s es m us q) ≡ true → is_among u us ≡ true
held_then s es m us u (Create v set) c h = at (is_among u us) refl
  where
    at : (b : Bool) → is_among u us ≡ b → b ≡ true
    at true is = refl
    at false is = absurd (differ (is_among u (us ++ v ∷ [])) (not_among_more u v us is c) h)
held_then s es m us u Sweep c h = any_filter (λ v. bytes_eq v u) (λ v. not (is_due s es m v)) us h
held_then s es m us u q c h = h
