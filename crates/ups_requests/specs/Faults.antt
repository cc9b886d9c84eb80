-- Why there is no line, by the fault in making or reading it.
use Rattle.ups_lines.specs.declared.fault.LineFault.{LineFault}
use Rattle.ups_lines.specs.declared.fault.LineFault.TheVariants as lines
use Rattle.ups_journal.specs.declared.fault.RecordingFault.{RecordingFault}
use Rattle.ups_journal.specs.declared.fault.RecordingFault.TheVariants as records
use Rattle.ups_requests.specs.declared.fault.Untold.{Untold}
use Rattle.ups_requests.specs.declared.fault.Untold.TheVariants.{Unsayable, Memory}

abbrev pub untold_line : LineFault → Untold
untold_line lines.Memory = Memory
untold_line (lines.Malformed reason) = Unsayable

abbrev pub untold_record : RecordingFault → Untold
untold_record records.Memory = Memory
untold_record fault = Unsayable
