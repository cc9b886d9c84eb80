use Rattle.std.proofs.Common.{◌≡◌, codes, map, rules}
use Rattle.std.proofs.lemmas.Result.{err_from_is_err_and}
use Rattle.clap.specs.Matches.{found_of}
use Rattle.ups_args.specs.Arguments.{argument_words}
use Rattle.ups_args.proofs.Refusing.{by_watchers}
use Rattle.ups_args.proofs.server.serve_arguments.Goals as goal

pub returns-in_err-watchers-clause-refused : goal.returns-in_err-watchers-clause-refused
returns-in_err-watchers-clause-refused c =
    let p = err_from_is_err_and c.from_residual-in_err-watchers.result c.from_residual-in_err-watchers.ensures.1 in
    let are : map (λ w. w.now) c.unwrap_or-3.result.now ≡ argument_words (found_of c.args.matches.now) (codes "peer") = search rules in
    rw (p.1, p.2)
    (by_watchers (found_of c.args.matches.now) (map (λ w. w.now) c.unwrap_or-3.result.now) c.in_err-watchers.field-0.0 c.in_ok-service.service.peers.items are c.in_ok-service.ensures.peers c.in_ok-service.ensures.few
    c.in_err-watchers.ensures.fault)
