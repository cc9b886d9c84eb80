use Rattle.std.proofs.Common.{rules, ◌≡◌, ◌<◌, arith, length}
use Rattle.ups_args.proofs.Parts.{uncut, cut_at, address_from, address_parts}
use Rattle.ups_args.proofs.addresses.address_of.Goals as goal

pub returns-in_err-host : goal.returns-in_err-host
returns-in_err-host c = rw c.from_residual.ensures (uncut c.args.text.now c.rsplit_once.result c.rsplit_once.ensures.cases c.in_err-host.was)

pub returns-then-is_empty : goal.returns-then-is_empty
returns-then-is_empty c =
    let cut = cut_at c.args.text.now c.rsplit_once.result c.in_ok-host.host c.in_ok-host.port c.rsplit_once.ensures.cases c.in_ok-host.was in
    let none : length c.in_ok-host.host.now ≡ 0 = search rules in
    λ a. absurd (omega (arith, none, (address_parts _ _ _ cut a).0))

pub returns-in_err-port : goal.returns-in_err-port
returns-in_err-port c =
    let cut = cut_at c.args.text.now c.rsplit_once.result c.in_ok-host.host c.in_ok-host.port c.rsplit_once.ensures.cases c.in_ok-host.was in
    rw c.from_residual-in_err-port.ensures (λ a. c.in_err-port.ensures (address_parts _ _ _ cut a).1)

pub returns : goal.returns
returns c =
    let cut = cut_at c.args.text.now c.rsplit_once.result c.in_ok-host.host c.in_ok-host.port c.rsplit_once.ensures.cases c.in_ok-host.was in
    let some : 0 < length c.in_ok-host.host.now = search rules in
    address_from _ _ _ _ cut some c.in_ok-port.ensures.0 c.in_ok-port.ensures.1
