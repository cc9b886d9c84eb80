use Rattle.std.proofs.Common.{subst, sym}
use Rattle.std.specs.Prelude.{IfSome}
use Rattle.std.specs.Global.{Global}
use Rattle.ups_ledger.proofs.Leaving.{kept_by, safe_by}
use Rattle.ups_ledger.specs.Keeping.{AreSound}
use Rattle.ups_net.specs.Working.{seen_last}
use Rattle.ups_server.specs.Serving.{BeginsOn, HasBegun}
use Rattle.ups_service.specs.State.{State}
use Rattle.ups_server.proofs.Leaving.{begins_so, begun_kept, begun_safe, sound_before}
use Rattle.ups_server.proofs.serving.answer_network.Goals as goal

pub returns-in_ok-serve_on-in-Ok-clause-safe : goal.returns-in_ok-serve_on-in-Ok-clause-safe
returns-in_ok-serve_on-in-Ok-clause-safe g c =
    let server = c.in_ok-serve_on-in-Ok.field-0 in
    let begun : HasBegun g.L.Ledger c.in-Some.begun.keeper c.in-Some.begun.manager.history = subst (λ o. IfSome o (λ b. HasBegun g.L.Ledger b.keeper b.manager.history)) c.in-Some.is c.in_ok-begun.ensures.kept in
    safe_by g.L.Ledger c.in-Some.begun.keeper server.keeper c.in-Some.begun.manager.history (seen_last server.passes.items) c.in_ok-serve_on-in-Ok.ensures.goes_on (begun_kept g.L.Ledger c.in-Some.begun.keeper c.in-Some.begun.manager.history begun) (begun_safe g.L.Ledger c.in-Some.begun.keeper c.in-Some.begun.manager.history begun)

pub returns-in_ok-serve_on-in-Ok-clause-kept : goal.returns-in_ok-serve_on-in-Ok-clause-kept
returns-in_ok-serve_on-in-Ok-clause-kept g c =
    let server = c.in_ok-serve_on-in-Ok.field-0 in
    let begun : HasBegun g.L.Ledger c.in-Some.begun.keeper c.in-Some.begun.manager.history = subst (λ o. IfSome o (λ b. HasBegun g.L.Ledger b.keeper b.manager.history)) c.in-Some.is c.in_ok-begun.ensures.kept in
    kept_by g.L.Ledger c.in-Some.begun.keeper server.keeper c.in-Some.begun.manager.history (seen_last server.passes.items) c.in_ok-serve_on-in-Ok.ensures.goes_on (begun_kept g.L.Ledger c.in-Some.begun.keeper c.in-Some.begun.manager.history begun)

pub returns-in_ok-serve_on-in-Ok-clause-begins : goal.returns-in_ok-serve_on-in-Ok-clause-begins
returns-in_ok-serve_on-in-Ok-clause-begins g c =
    let server = c.in_ok-serve_on-in-Ok.field-0 in
    let manager = c.in-Some.begun.manager in
    let begins : BeginsOn (λ file choices settings history. AreSound g.L.Ledger c.in-Some.begun.keeper → g.O.StoreOpener.begins c.args.opener.now file choices settings history) c.args.asked manager.settings manager.history =
    subst (λ o. IfSome o (λ b. BeginsOn (λ file choices settings history. AreSound g.L.Ledger b.keeper → g.O.StoreOpener.begins c.args.opener.now file choices settings history) c.args.asked b.manager.settings b.manager.history)) c.in-Some.is c.in_ok-begun.ensures.begins in
    subst (λ (o : State Global). BeginsOn (λ file choices settings history. AreSound g.L.Ledger server.keeper → g.O.StoreOpener.begins c.args.opener.now file choices settings history) c.args.asked o.settings o.history) (sym c.in_ok-serve_on-in-Ok.ensures.opening)
    (begins_so (λ file choices settings history. AreSound g.L.Ledger c.in-Some.begun.keeper → g.O.StoreOpener.begins c.args.opener.now file choices settings history)
    (λ file choices settings history. AreSound g.L.Ledger server.keeper → g.O.StoreOpener.begins c.args.opener.now file choices settings history) c.args.asked manager.settings manager.history
    (λ file choices begins sound. begins (sound_before g.L.Ledger c.in-Some.begun.keeper server.keeper manager.history (seen_last server.passes.items) c.in_ok-serve_on-in-Ok.ensures.goes_on sound)) begins)
