use Rattle.std.proofs.Common.{rules, ◌≡◌, List, [], ◌∷◌, Option, None, Some, MatchOption, refl, sym, ◌∙◌}
use Rattle.std.specs.Borrow.{Bor}
use Rattle.std.specs.Option.{option_copied}
use Rattle.std.specs.Prelude.{slice_get}
use Rattle.ups_dataset.specs.Code.{list_of-elements_of}
use Rattle.ups_dataset.specs.Data.{El, items, items_of}
use Rattle.ups_reports.specs.Payloads.{first_item}
use Rattle.ups_reports.proofs.payloads.first_item.Goals as goal

-- the first of some sets is the first item of a sequence of them
first_of : (r : Option (Bor (List El))) (sets : List (List El)) → option_copied r ≡ slice_get sets 0
    → MatchOption r (first_item (items (items_of sets)) ≡ []) (λ x. first_item (items (items_of sets)) ≡ x.now)
first_of None [] e = refl
first_of None (s ∷ ss) e = absurd cc
first_of (Some x) [] e = absurd cc
first_of (Some x) (s ∷ ss) e = let same : x.now ≡ s = cc in list_of-elements_of s ∙ sym same

pub returns-in-Items : goal.returns-in-Items
returns-in-Items g c =
    let same : option_copied c.first.result ≡ slice_get c.in-Items.sets.items 0 = search rules in
    rw c.in-Items.is (first_of c.first.result c.in-Items.sets.items same)
