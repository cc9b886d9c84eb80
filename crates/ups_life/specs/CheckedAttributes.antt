-- The attributes that are checked, by rising tag, each with the rule for its value (PS3.4 table CC.2.5-3).
use Rattle.std.specs.Prelude.{List, [], ◌∷◌}
use Rattle.ups_life.specs.declared.checks.Checked.{Checked}
use Rattle.ups_life.specs.declared.checks.ValueRule.TheVariants.{AnyText, DateTime, Readiness, Priority}

-- Scheduled Procedure Step Start DateTime, Input Readiness State, Scheduled Procedure Step Priority, Procedure Step Label
abbrev pub checked_attributes : List Checked
checked_attributes =
    record { tag = record { group = 0x0040; element = 0x4005 }; rule = DateTime }
    ∷ record { tag = record { group = 0x0040; element = 0x4041 }; rule = Readiness }
    ∷ record { tag = record { group = 0x0074; element = 0x1200 }; rule = Priority }
    ∷ record { tag = record { group = 0x0074; element = 0x1204 }; rule = AnyText }
    ∷ []
