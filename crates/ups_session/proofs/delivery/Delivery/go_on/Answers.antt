use Rattle.std.proofs.Common.{◌≡◌, ◌<◌, ◌≤◌, ◌∙◌, length, sym, ap, arith, Result, Ok, Err}
use Rattle.std.specs.Prelude.{OnErr}
use Rattle.std.proofs.lemmas.List.{drop_all}
use Rattle.ups_session.specs.Deliveries.{delivery_view}
use Rattle.ups_session.specs.Requestor.{DeliveryReaction}
use Rattle.ups_session.proofs.Delivered.{stops, goes_on, asks_again}
use Rattle.ups_session.proofs.delivery.Delivery.go_on.Goals as goal

lost : {T E : Type 0} (r : Result T E) (P : Type 0) → P → OnErr r P
lost (Ok x) P p = tt
lost (Err e) P p = p

pub returns-then-self-clause-reaction : goal.returns-then-self-clause-reaction
returns-then-self-clause-reaction g c =
    let most : c.args.self.now.sent ≡ 65535 = omega (arith) in
    c.in_ok-release.ensures.reaction ∙ sym (stops (delivery_view c.args.self.now) most)

pub returns-in_err-release-clause-lost : goal.returns-in_err-release-clause-lost
returns-in_err-release-clause-lost g c =
    let most : c.args.self.now.sent ≡ 65535 = omega (arith) in
    lost c.from_residual.result _ (ap (λ (r : DeliveryReaction g.row.A.Denot). r.waiting) (stops (delivery_view c.args.self.now) most))

pub returns-then-self-as_slice-clause-reaction : goal.returns-then-self-as_slice-clause-reaction
returns-then-self-as_slice-clause-reaction g c =
    let few : c.args.self.now.sent < 65535 = omega (arith) in
    let sent : length c.args.self.now.reports ≤ c.args.self.now.taken = omega (arith, ap length c.as_slice.ensures) in
    sym (asks_again (delivery_view c.args.self.now) few (drop_all c.args.self.now.taken c.args.self.now.reports sent))

pub returns-in_err-report-clause-lost : goal.returns-in_err-report-clause-lost
returns-in_err-report-clause-lost g c =
    let few : c.args.self.now.sent < 65535 = omega (arith) in
    lost c.from_residual-in_err-report.result _ (ap (λ (r : DeliveryReaction g.row.A.Denot). r.waiting) (goes_on (delivery_view c.args.self.now) few) ∙ c.in_err-report.ensures.lost)

pub returns-clause-reaction : goal.returns-clause-reaction
returns-clause-reaction g c =
    let few : c.args.self.now.sent < 65535 = omega (arith) in
    c.in_ok-report.ensures.reaction ∙ sym (goes_on (delivery_view c.args.self.now) few)
