use Rattle.std.proofs.Common.{◌≡◌, length, subst, rules}
use Rattle.std.specs.Io.BufRead.{FillKeeps}
use Rattle.ups_script.specs.Lines.{IsLinePart}
use Rattle.ups_script.proofs.Taking.{lengthens}
use Rattle.ups_script.proofs.reading.lengthen.Goals as goal

pub returns-clause-whole : goal.returns-clause-whole
returns-clause-whole g c =
    let rested = c.fill_buf.follows.lender-at-none in
    let filled = subst (FillKeeps _ (g.R.Read.remaining rested) (g.R.BufRead.consumable_len rested)) c.in-Ok.is c.fill_buf.follows.holds-at-none in
    let part = c.part_in-part in
    let has : c.len.result ≡ length c.args.line.now.items = search rules in
    lengthens _ _ _ _ c.in-Ok.shown.now c.args.line.now.items c.extend_from_slice.new.self.items part.result.count part.result.taken part.result.is_whole
    part.ensures.within.0 part.ensures.within.1 c.in-Ok.ensures.front c.in-Ok.ensures.end filled.0 filled.1 c.consume.ensures.bytes part.ensures.none
    (subst (λ n. IsLinePart c.in-Ok.shown.now n part.result.count part.result.taken part.result.is_whole) has part.ensures.ends) (search rules)
