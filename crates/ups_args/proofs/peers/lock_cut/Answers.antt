use Rattle.std.proofs.Common.{true, ℕ, List, ◌++◌, ◌≢◌}
use Rattle.std.specs.Str.Pattern.{FindsTextSuffix, StripsSuffix}
use Rattle.ups_args.specs.Arguments.{ending_of}
use Rattle.ups_args.proofs.Parts.{ends_so, cut_locked, cut_unlocked}
use Rattle.ups_args.proofs.peers.lock_cut.Goals as goal

pub returns-in-Some : goal.returns-in-Some
returns-in-Some c =
    let s : StripsSuffix (FindsTextSuffix (ending_of true)) c.args.text.now c.in-Some.front.now = rw c.in-Some.is at c.strip_suffix.ensures.cases in
    cut_locked c.args.text.now c.in-Some.front.now (ends_so c.args.text.now c.in-Some.front.now s)

pub returns-in-None : goal.returns-in-None
returns-in-None c =
    let none : (front : List ℕ) → c.args.text.now ≢ front ++ ending_of true = rw c.in-None.is at c.strip_suffix.ensures.cases in
    cut_unlocked c.args.text.now none
