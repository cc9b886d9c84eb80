-- The exit statuses of the program.
use Rattle.std.specs.Prelude.{ℕ, Bool, true, false, Result, Ok, Err}
use Rattle.clap.specs.declared.error.kind.ErrorKind.{ErrorKind}
use Rattle.clap.specs.declared.error.kind.ErrorKind.TheVariants as kinds
use Rattle.ups_session.specs.declared.fault.End.{End}
use Rattle.ups_session.specs.declared.fault.SessionFault.{SessionFault}
use Rattle.ups_session.specs.declared.fault.SessionFault.TheVariants as sessions
use Rattle.ups_script.specs.declared.fault.ScriptFault.{ScriptFault}
use Rattle.ups_script.specs.declared.fault.ScriptFault.TheVariants as scripts
use Rattle.upsd.specs.declared.ending.ExitStatus.{ExitStatus}
use Rattle.upsd.specs.declared.ending.ExitStatus.TheVariants.{Done, Usage, Stopped, Memory}

abbrev pub exit_code : ExitStatus → ℕ
exit_code Done = 0
exit_code Usage = 1
exit_code Stopped = 2
exit_code Memory = 3

-- the status of an association: 0 at each End, 3 for lack of memory, 2 for any other fault
abbrev pub session_status : Result End SessionFault → ExitStatus
session_status (Ok end) = Done
session_status (Err sessions.Memory) = Memory
session_status (Err fault) = Stopped

-- the status of a script: 0 at the end of its input, 3 for lack of memory, 2 for any other fault
abbrev pub script_status : Result Unit ScriptFault → ExitStatus
script_status (Ok done) = Done
script_status (Err scripts.Memory) = Memory
script_status (Err fault) = Stopped

-- the status of a look at what a start would find: 0 if a server can start, as far as that can be seen, and 2 if it can't
abbrev pub checked_status : Bool → ExitStatus
checked_status true = Done
checked_status false = Stopped

-- the status of a command line that the parser does not accept: 0 if it asks for the help or the version, 3 for lack of
-- memory, 1 for any other
abbrev pub parse_status : ErrorKind → ExitStatus
parse_status kinds.DisplayHelp = Done
parse_status kinds.DisplayVersion = Done
parse_status kinds.OutOfMemory = Memory
parse_status kind = Usage
