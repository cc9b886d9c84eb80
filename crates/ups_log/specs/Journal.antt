-- How the end of an association is told.
use Rattle.std.specs.Prelude.{Bool, true, false, Result, Ok, Err}
use Rattle.ups_session.specs.declared.fault.End.{End}
use Rattle.ups_session.specs.declared.fault.SessionFault.{SessionFault}
use Rattle.ups_session.specs.declared.fault.SessionFault.TheVariants.{Write}

-- how an association ended, as it is told: by whether its last bytes were sent, and by how its session ended
abbrev pub end_told : Bool → Result End SessionFault → Result End SessionFault
end_told true ended = ended
end_told false (Ok end) = Err Write
end_told false (Err fault) = Err fault
