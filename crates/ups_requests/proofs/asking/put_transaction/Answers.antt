use Rattle.std.proofs.Common.{ℕ, List, sym, ap, ◌∙◌}
use Rattle.std.specs.Str.{bytes_eq}
use Rattle.ups_requests.proofs.Exacting.{transaction_put}
use Rattle.ups_requests.proofs.asking.put_transaction.Goals as goal

pub returns : goal.returns
returns g c =
    transaction_put c.args.word.now _ _ c.put_argument.result (sym (c.if-eq.ensures ∙ ap (λ (l : List ℕ). bytes_eq c.args.word.now l) c.as_slice.ensures)) c.put_argument.ensures
