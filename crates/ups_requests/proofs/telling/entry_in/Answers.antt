use Rattle.std.proofs.Common.{ℤ, refl, subst, w16}
use Rattle.std.proofs.lemmas.Int.{to_z-of_z}
use Rattle.ups_requests.specs.Told.{AsksFor}
use Rattle.ups_requests.proofs.Determined.{tells}
use Rattle.ups_requests.proofs.telling.entry_in.Goals as goal

pub returns-clause-tells : goal.returns-clause-tells
returns-clause-tells g c =
    tells c.what_is_printed_is_read_again.ensures.alone c.words_encode_one_data_set.ensures c.args.offset c.args.line.now _ _ c.in_ok-asked.asked.question
    (record { caller = c.args.caller; ae = c.in_ok-asked.asked.ae; moment = c.in_ok-asked.asked.moment; request = c.in_ok-request.request }) c.in_ok-asked.ensures.asks c.in_ok-asked.ensures.exact refl refl
    (subst (λ (z : ℤ). AsksFor z c.in_ok-asked.asked.question c.in_ok-request.request) (to_z-of_z w16 c.args.offset c.ranges.offset) c.in_ok-request.ensures)
