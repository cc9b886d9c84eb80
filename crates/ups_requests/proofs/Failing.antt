-- Why a line is bad.
use Rattle.std.proofs.Common.{◌≡◌, ◌∷◌, ℕ, List, inl, inr, subst}
use Rattle.ups_lines.specs.declared.fault.LineFault.{LineFault}
use Rattle.ups_lines.specs.declared.fault.LineFault.TheVariants.{Malformed, Memory}
use Rattle.ups_lines.specs.declared.fault.LineReason.{LineReason}
use Rattle.ups_lines.specs.declared.fault.LineReason.TheVariants.{OfHistory}
use Rattle.ups_lines.specs.Words.{words_of}
use Rattle.ups_requests.specs.declared.line.Verb.{Verb}
use Rattle.ups_requests.specs.Questions.{IsHeading, IsOfHistory, NoTitle, FailsVerb, FailsTitle, FailsHeading, FailsArguments, IsBad, OnBad}

-- the words behind a moment fail
behind_moment : (words : List (List ℕ)) (moment : List ℕ) (rest : List (List ℕ)) (reason : LineReason) → words ≡ moment ∷ rest → FailsTitle rest reason → FailsHeading words reason
behind_moment words moment rest reason begins h = inr (moment, rest, begins, inr h)

-- the words behind a moment and a title fail
pub behind_title : (words : List (List ℕ)) (moment : List ℕ) (rest : List (List ℕ)) (title : List ℕ) (left : List (List ℕ)) (reason : LineReason)
    → words ≡ moment ∷ rest → rest ≡ title ∷ left → FailsVerb left reason → FailsHeading words reason
behind_title words moment rest title left reason begins then h = behind_moment words moment rest reason begins (inr (title, left, then, inr h))

-- the word behind a moment is no title
pub at_title : (words : List (List ℕ)) (moment : List ℕ) (rest : List (List ℕ)) (title : List ℕ) (left : List (List ℕ)) (fault : LineFault)
    → words ≡ moment ∷ rest → rest ≡ title ∷ left → OnBad fault (NoTitle title) → OnBad fault (FailsHeading words)
at_title words moment rest title left (Malformed reason) begins then h = behind_moment words moment rest reason begins (inr (title, left, then, inl h))
at_title words moment rest title left Memory begins then h = tt

-- the heading of a line fails
pub by_heading : (line : List ℕ) (words : List (List ℕ)) (fault : LineFault) → words ≡ words_of line → OnBad fault (FailsHeading words) → OnBad fault (IsBad line)
by_heading line words (Malformed reason) is h = inr (inl (subst (λ (ws : List (List ℕ)). FailsHeading ws reason) is h))
by_heading line words Memory is h = tt

-- the arguments behind a heading fail
pub by_arguments : (line : List ℕ) (words : List (List ℕ)) (moment : ℕ) (ae : List ℕ) (verb : Verb) (arguments : List (List ℕ)) (fault : LineFault)
    → words ≡ words_of line → IsHeading words moment ae verb arguments → OnBad fault (λ reason. FailsArguments verb arguments) → OnBad fault (IsBad line)
by_arguments line words moment ae verb arguments (Malformed reason) is heading h =
    inr (inr (inl (record { moment = moment; ae = ae; verb = verb; arguments = arguments; heading = subst (λ (ws : List (List ℕ)). IsHeading ws moment ae verb arguments) is heading; fails = h })))
by_arguments line words moment ae verb arguments Memory is heading h = tt

-- only a history has the line
pub by_grammar : (line : List ℕ) (words : List (List ℕ)) (moment : ℕ) (ae : List ℕ) (verb : Verb) (arguments : List (List ℕ)) (fault : LineFault)
    → words ≡ words_of line → IsHeading words moment ae verb arguments → OnBad fault (λ reason. (reason ≡ OfHistory) × IsOfHistory verb arguments) → OnBad fault (IsBad line)
by_grammar line words moment ae verb arguments (Malformed reason) is heading (of, h) =
    inr (inr (inr (of, (moment, ae, verb, arguments, subst (λ (ws : List (List ℕ)). IsHeading ws moment ae verb arguments) is heading, h))))
by_grammar line words moment ae verb arguments Memory is heading h = tt
