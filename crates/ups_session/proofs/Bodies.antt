-- A message whose bytes spell no data set.
use Rattle.std.proofs.Common.{◌≡◌, ℕ, List, sym, subst, Option, Some, None, Result, Ok, Err, IfOk}
use Rattle.std.specs.Prelude.{◌≢◌, MatchOption}
use Rattle.ups_pdu.specs.declared.syntax.TransferSyntax.{TransferSyntax}
use Rattle.ups_dataset.specs.declared.fault.SetFault.{SetFault}
use Rattle.ups_dataset.specs.declared.fault.SetFault.TheVariants.{Memory}
use Rattle.ups_dataset.specs.Data.{El}
use Rattle.ups_dataset.specs.Reading.{SetFails}
use Rattle.ups_dataset.specs.Spelling.{SpellsSet}
use Rattle.ups_session.specs.Rules.{HasSet}

abbrev Found : TransferSyntax → Option (List ℕ) → Option (List El) → Type 0
Found syntax body found = MatchOption found ((set : List El) → HasSet syntax body set → ⊥) (HasSet syntax body)

pub none_spelled : {E : Type 0} (syntax : TransferSyntax) (r : Result (Option (List El)) E) (fault : SetFault) (body : Option (List ℕ)) (bytes : List ℕ) → body ≡ Some bytes
    → ((set : List El) → SpellsSet syntax bytes set → fault ≡ Memory) → IfOk r (λ found. (found ≡ None) × (fault ≢ Memory)) → IfOk r (Found syntax body)
none_spelled syntax (Ok found) fault body bytes is only (none, other) =
    subst (λ (f : Option (List El)). Found syntax body f) (sym none) (λ set h. other (only set (subst (λ (b : Option (List ℕ)). HasSet syntax b set) is h)))
none_spelled syntax (Err e) fault body bytes is only h = tt

-- where memory ran out, the bytes spell one
pub one_spelled : (syntax : TransferSyntax) (fault : SetFault) (body : Option (List ℕ)) (bytes : List ℕ) → body ≡ Some bytes → SetFails syntax bytes fault → fault ≡ Memory → (set : List El) × HasSet syntax body set
one_spelled syntax fault body bytes is fails lost =
    let (set, spells) = subst (λ (f : SetFault). SetFails syntax bytes f) lost fails in
    (set, subst (λ (b : Option (List ℕ)). HasSet syntax b set) (sym is) spells)
