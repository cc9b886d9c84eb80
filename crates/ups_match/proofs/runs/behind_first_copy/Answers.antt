use Rattle.std.proofs.Common.{◌≡◌, ◌∙◌, ◌+◌, ap, sym, length, Some, None, option_copied, drop}
use Rattle.std.specs.Option.{option_map}
use Rattle.ups_match.proofs.Places.{found_first}
use Rattle.ups_match.proofs.runs.behind_first_copy.Goals as goal

pub returns-in_err-place : goal.returns-in_err-place
returns-in_err-place c =
    let found = found_first c.args.run.now c.args.text.now c.requires c.find.result c.find.ensures in
    let none : c.find.result ≡ None = cc in
    let gone : option_copied c.from_residual.result ≡ None = cc in
    gone ∙ sym (found ∙ ap (option_map (λ k. drop (k + length c.args.run.now) c.args.text.now)) none)

pub returns : goal.returns
returns c =
    let found = found_first c.args.run.now c.args.text.now c.requires c.find.result c.find.ensures in
    let some : c.find.result ≡ Some c.in_ok-place.place = cc in
    ap Some c.split_at.ensures.back ∙ sym (found ∙ ap (option_map (λ k. drop (k + length c.args.run.now) c.args.text.now)) some)
