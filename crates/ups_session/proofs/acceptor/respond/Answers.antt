use Rattle.std.proofs.Common.{◌≡◌, Option, None, Some, false, true, is_some, refl, sym, subst}
use Rattle.std.specs.Option.{IfSome}
use Rattle.ups_life.specs.declared.request.Ask.{Ask}
use Rattle.ups_session.specs.declared.effect.AwaitedParts.{AwaitedParts}
use Rattle.ups_session.specs.Acceptor.{acceptor}
use Rattle.ups_session.specs.Effects.{ask_in, parts_view}
use Rattle.ups_session.specs.Responses.{response}
use Rattle.ups_session.specs.Sides.{sending}
use Rattle.ups_session.specs.World.{AsksOnce}
use Rattle.ups_session.proofs.Settling.{settled_asked, settled_said, on_ok}
use Rattle.ups_session.proofs.acceptor.respond.Goals as goal

asked_there : {A : Type 0} (o : Option (Ask A)) (P : Ask A → Type 0) → is_some o ≡ true → IfSome o P → P (ask_in o)
asked_there None P e h = let never : false ≡ true = e in absurd cc
asked_there (Some ask) P e h = h

pub returns-clause-settled : goal.returns-clause-settled
returns-clause-settled g c = λ config association. rw (← c.deref_mut-parts.ensures.value) (
    let parts = c.deref_mut-parts.result.now in
    let w = parts_view parts in
    let reply = c.answer-reply.result in
    let next = sending association (response w.max w.context w.command reply) in
    let there : is_some parts.ask ≡ true = subst (λ (p : AwaitedParts g.row.A.Denot). is_some p.ask ≡ true) (sym c.deref_mut-parts.ensures.value) c.requires.1 in
    let asked = asked_there parts.ask (λ ask. AsksOnce (record { ae = parts.ae; ask = ask }) reply (g.E.Environment.world c.args.environment.now) (g.E.Environment.world c.answer-reply.new.self)) there c.answer-reply.ensures.answered in
    settled_asked (acceptor config) association association w reply next _ _ _ c.send_reply.result asked refl
    (settled_said (acceptor config) next association _ _ c.send_reply.result refl (on_ok association c.send_reply.result) c.send_reply.ensures.sent))
