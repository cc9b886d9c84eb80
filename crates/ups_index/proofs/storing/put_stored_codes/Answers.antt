use Rattle.std.proofs.Common.{◌≡◌, map, sym, rules}
use Rattle.ups_match.proofs.KeyWalks.{value_at_is}
use Rattle.ups_index.specs.Kept.{text_view}
use Rattle.ups_index.proofs.Copied.{append_nil}
use Rattle.ups_index.proofs.storing.put_stored_codes.Goals as goal

pub returns-in_default : goal.returns-in_default
returns-in_default g c = rw (value_at_is c.args.tag c.args.row.now, c.in_default.ensures) (sym (append_nil (map text_view c.args.texts.now.items)))

pub returns-in-Bytes : goal.returns-in-Bytes
returns-in-Bytes g c = rw (value_at_is c.args.tag c.args.row.now, c.in-Some.ensures, c.in-Bytes.is) (sym (append_nil (map text_view c.args.texts.now.items)))

pub returns-in-Items : goal.returns-in-Items
returns-in-Items g c =
    let same : c.deref.result.now ≡ c.in-Items.sets.items = search rules in
    rw (value_at_is c.args.tag c.args.row.now, c.in-Some.ensures, c.in-Items.is) (rw same at c.put_codes.ensures)
