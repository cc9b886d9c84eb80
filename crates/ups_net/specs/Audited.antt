-- What a line of the audit may say.
use Rattle.std.specs.Prelude.{◌≡◌, ℕ, List, length}
use Rattle.std.specs.declared.alloc.Global.{Global}
use Rattle.ups_life.specs.Settings.{Settings}
use Rattle.ups_life.specs.declared.request.Ask.{Ask}
use Rattle.ups_life.specs.declared.request.Reply.{Reply}
use Rattle.ups_service.specs.Law.{Others, Seen, Serves}

-- A caller of a service was given this reply for the application entity with this title, and has seen the first `number` accepted
-- requests since: those that decide the reply, with its own request at the end if that was accepted.
pub record HasAnswered (settings : Settings) (others : Others) (caller : ℕ) (after : Seen Global) (title : List ℕ) (number : ℕ) (reply : Reply Global) : Type 0 where
  pub before : Seen Global
  pub moment : ℕ
  pub ask : Ask Global
  pub serves : Serves settings others caller before title moment ask reply after
  pub counted : number ≡ length after.history
