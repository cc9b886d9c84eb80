-- A server by the words of a command line, of which those that it is asked by are known.
use Rattle.std.proofs.Common.{◌≡◌, ℕ, false, List, Option, None, Some, length}
use Rattle.std.specs.Prelude.{IfSome}
use Rattle.std.specs.Global.{Global}
use Rattle.clap.specs.declared.parser.matches.Found.{Found}
use Rattle.ups_args.specs.declared.server.ServeArguments.{ServeArguments}
use Rattle.ups_ledger.specs.declared.ledger.Ledger.{Ghosts}
use Rattle.ups_life.specs.declared.entry.Entry.{Entry}
use Rattle.ups_life.specs.Settings.{Settings}
use Rattle.ups_turn.specs.Pass.{passes_from}
use Rattle.ups_terms.specs.declared.choices.StartChoices.{StartChoices}
use Rattle.ups_server.specs.Serving.{AreWords, BeginsOn, RanAsAsked, RanAsWords, seats_of, settings_asked}
use Rattle.ups_server.specs.declared.serving.RanServer.{RanServer}

pub by_words : {L : Type 0} (g : Ghosts L) (found : Found) (associations rounds : ℕ) (asked : ServeArguments) → AreWords found asked → asked.check ≡ false → (left : Option (RanServer L g))
    → (Begins : RanServer L g → List ℕ → StartChoices → Settings → List (Entry Global) → Type 0) → IfSome left (λ server. server.desk.opening.settings ≡ settings_asked asked) → IfSome left (λ server. BeginsOn (Begins server) asked server.desk.opening.settings server.desk.opening.history)
    → IfSome left (λ server. RanAsAsked asked associations rounds server.begun (passes_from server.desk.table server.desk.opening 1 (seats_of asked.limits.workers (length asked.watchers.items))) server.passes.items)
    → IfSome left (λ server. RanAsWords found associations rounds server.begun (Begins server) server.desk.table server.desk.opening server.passes.items)
by_words g found associations rounds asked words serves None Begins settings begins ran = tt
by_words g found associations rounds asked words serves (Some server) Begins settings begins ran = record { asked = asked; words = words; serves = serves; settings = settings; begins = begins; ran = ran }
