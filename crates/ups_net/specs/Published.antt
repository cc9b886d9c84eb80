-- The numbers of a store on a server's page of numbers.
use Rattle.std.specs.Prelude.{ℕ, ◌-◌, Bool, List, [], ◌∷◌, if◌then◌else◌}
use Rattle.ups_net.specs.declared.publisher.Page.{Page}

-- 1 if something is so, and else 0
abbrev pub flag : Bool → ℕ
flag is = if is then 1 else 0

-- the run; the requests that are committed in all, and the rows: those less what compactions saved; how these went; and whether
-- the store fails, or is lost
abbrev pub store_numbers : ℕ → ℕ → Page → List ℕ
store_numbers run committed page = run ∷ committed ∷ (committed - page.compactions.saved) ∷ page.compactions.done ∷ page.compactions.last
    ∷ flag page.compactions.is_failing ∷ flag page.is_failing ∷ flag page.is_lost ∷ []
