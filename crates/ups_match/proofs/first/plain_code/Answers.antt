use Rattle.std.proofs.Common.{◌≡◌, rules}
use Rattle.ups_match.proofs.KeyWalks.{value_at_is}
use Rattle.ups_match.proofs.first.plain_code.Goals as goal

pub returns-in_default : goal.returns-in_default
returns-in_default g c = rw (value_at_is c.args.tag c.args.keys.now, c.in_default.ensures)

pub returns-in-Bytes : goal.returns-in-Bytes
returns-in-Bytes g c = rw (value_at_is c.args.tag c.args.keys.now, c.in-Some.ensures, c.in-Bytes.is)

pub returns-in-Items : goal.returns-in-Items
returns-in-Items g c =
    let same : c.deref.result.now ≡ c.in-Items.sets.items = search rules in
    rw (value_at_is c.args.tag c.args.keys.now, c.in-Some.ensures, c.in-Items.is) (rw same at c.code_of.ensures)
