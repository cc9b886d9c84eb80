use denote.Param.Send.{sendable}
use Rattle.std.proofs.Common.{◌≡◌, ◌+◌, ◌≤◌, ◌∙◌, ap, arith, is_some, length, subst, sym}
use Rattle.std.specs.Prelude.{All, option_map, string_bytes}
use Rattle.ups_turn.specs.Pass.{PassView, passes_from}
use Rattle.ups_manager.specs.View.{shared_state}
use Rattle.ups_manager.proofs.Crosses.{manager_send}
use Rattle.ups_ledger.specs.Keeping.{KeepersGoOn}
use Rattle.ups_net.specs.Working.{Ran, seen_last}
use Rattle.ups_net.specs.declared.options.MetricsFile.{MetricsFile}
use Rattle.ups_server.specs.Serving.{seats_of}
use Rattle.ups_server.proofs.Seating.{all_here, as_many, seen_at_first}
use Rattle.ups_server.proofs.serving.serve_kept.Goals as goal

pub run-begun-requires-clause-some : goal.run-begun-requires-clause-some
run-begun-requires-clause-some g c κs within =
    let seats = c.args.asked.limits.workers + c.deliverers_of-deliverers.result + 1 in
    let all : length c.in-Ok-open.passes.items ≡ seats = ap length c.in-Ok-open.ensures.passes ∙ as_many c.in-Ok-open.desk (shared_state c.args.begun.manager) 1 seats in
    omega (arith, all, c.requires.some, c.deliverers_of-deliverers.ensures.some)

pub run-begun-requires-clause-here : goal.run-begun-requires-clause-here
run-begun-requires-clause-here g c κs within =
    let table = c.in-Ok-open.desk.table in
    let seats = c.args.asked.limits.workers + c.deliverers_of-deliverers.result + 1 in
    subst (All (λ (p : PassView _). p.table ≡ table)) (sym c.in-Ok-open.ensures.passes) (all_here c.in-Ok-open.desk (shared_state c.args.begun.manager) 1 seats)

pub returns-clause-ran : goal.returns-clause-ran
returns-clause-ran g c =
    let e = c.options_of-options.ensures in
    let opened = c.in-Ok-open.ensures in
    let seats : c.args.asked.limits.workers + c.deliverers_of-deliverers.result + 1 ≡ seats_of c.args.asked.limits.workers (length c.args.asked.watchers.items) = ap (λ n. c.args.asked.limits.workers + n + 1) c.deliverers_of-deliverers.ensures.number ∙ ap (λ k. seats_of c.args.asked.limits.workers k) (c.len-watchers.ensures ∙ c.args.asked.watchers.ok.0) in
    let passes = opened.passes ∙ (ap (λ n. passes_from c.in-Ok-open.desk.table (shared_state c.args.begun.manager) 1 n) seats ∙ ap (λ m. passes_from c.in-Ok-open.desk.table m 1 (seats_of c.args.asked.limits.workers (length c.args.asked.watchers.items))) (sym opened.desk.1)) in (
      c.options_of-options.result,
      record { ae = e.ae; offset = e.offset; limits = e.limits; watchers = e.watchers; from = e.from; verbose = e.verbose; audit = e.audit; metrics = ap (option_map (λ (m : MetricsFile). string_bytes m.path)) e.metrics ∙ c.in-Ok-metrics_of.ensures; associations = e.associations; rounds = e.rounds },
      subst (λ l. Ran c.options_of-options.result (is_some c.args.asked.store) c.run-begun.result.0 l c.run-begun.result.1.items) passes
          (subst (λ b. Ran c.options_of-options.result b c.run-begun.result.0 c.in-Ok-open.passes.items c.run-begun.result.1.items) c.requires.keeps c.run-begun.ensures.ran),
    )

pub returns-clause-goes_on : goal.returns-clause-goes_on
returns-clause-goes_on g c =
    let seats = c.args.asked.limits.workers + c.deliverers_of-deliverers.result + 1 in
    let some : 1 ≤ seats = omega arith in
    let seen = ap seen_last c.in-Ok-open.ensures.passes ∙ seen_at_first c.in-Ok-open.desk (shared_state c.args.begun.manager) seats some in
    subst (λ l. KeepersGoOn g.L.Ledger c.args.begun.keeper l c.run-begun.result.2 (seen_last c.run-begun.result.1.items)) seen c.run-begun.ensures.goes_on

pub run-begun-requires-send-M : goal.run-begun-requires-send-M
run-begun-requires-send-M g c κs within = search (sendable, manager_send) depth 30
