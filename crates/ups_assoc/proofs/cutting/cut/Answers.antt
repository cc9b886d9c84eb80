use Rattle.std.proofs.Common.{◌≡◌, ℕ, ◌<◌, ◌≤◌, option_copied, subst, rules, arith}
use Rattle.ups_assoc.specs.Cutting.{pieces}
use Rattle.ups_assoc.proofs.Pieces.{fits_pieces}
use Rattle.ups_assoc.proofs.cutting.cut.Goals as goal

pub returns-clause-fits : goal.returns-clause-fits
returns-clause-fits g c =
    let is : c.put_body.new.out.items ≡ pieces {A = g.row.A.Denot} c.args.context c.args.command.now (option_copied c.args.body) c.args.max = search rules in
    let some = subst (λ (n : ℕ). 0 < n) c.room-size.ensures.room (omega (arith, c.room-size.ensures.some)) in
    let most = subst (λ (n : ℕ). n ≤ 16378) c.room-size.ensures.room c.room-size.ensures.most in
    rw is (fits_pieces g.row.A.Denot c.args.context c.args.command.now (option_copied c.args.body) c.args.max some most)

pub returns-clause-pieces : goal.returns-clause-pieces
returns-clause-pieces g c = search rules
