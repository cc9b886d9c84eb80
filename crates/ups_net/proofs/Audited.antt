-- An answer of which a line of the audit may tell.
use Rattle.std.proofs.Common.{◌≡◌, ℕ, false, true, List, length, Option, Some, None}
use Rattle.std.specs.Prelude.{is_some}
use Rattle.std.specs.Option.{IfSome}
use Rattle.std.specs.declared.alloc.Global.{Global}
use Rattle.ups_life.specs.Settings.{Settings}
use Rattle.ups_life.specs.declared.request.Ask.{Ask}
use Rattle.ups_life.specs.declared.request.Reply.{Reply}
use Rattle.ups_service.specs.Law.{Others, Seen, Serves}
use Rattle.ups_net.specs.Audited.{HasAnswered}

-- the reply of a service that stays the same is one that the caller was given
pub has_answered : (s s' : Settings) (o o' : Others) (c c' : ℕ) (before after : Seen Global) (title : List ℕ) (moment number : ℕ) (ask : Option (Ask Global)) (reply : Reply Global)
    → (s' ≡ s) × (o' ≡ o) × (c' ≡ c) → is_some ask ≡ true → IfSome ask (λ asked. Serves s o c before title moment asked reply after) → number ≡ length after.history
    → HasAnswered s' o' c' after title number reply
has_answered s s' o o' c c' before after title moment number None reply same some serves counted = let e : false ≡ true = some in absurd cc
has_answered s s' o o' c c' before after title moment number (Some asked) reply (es, eo, ec) some serves counted =
    rw (es, eo, ec) (record { before = before; moment = moment; ask = asked; serves = serves; counted = counted })
