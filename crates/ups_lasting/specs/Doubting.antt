-- What is in doubt about the records of a ledger.
use Rattle.std.specs.Prelude.{Bool, true, false}
use Rattle.ups_lasting.specs.declared.doubt.Doubt.{Doubt}
use Rattle.ups_lasting.specs.declared.doubt.Doubt.TheVariants.{Nothing, Append, Exchange}

-- nothing is
abbrev pub is_sure : Doubt → Bool
is_sure Nothing = true
is_sure Append = false
is_sure (Exchange successor) = false

-- whether others have taken their place
abbrev pub is_exchange : Doubt → Bool
is_exchange Nothing = false
is_exchange Append = false
is_exchange (Exchange successor) = true

-- whether the last records that were to be appended are there
abbrev pub is_append : Doubt → Bool
is_append Nothing = false
is_append Append = true
is_append (Exchange successor) = false
