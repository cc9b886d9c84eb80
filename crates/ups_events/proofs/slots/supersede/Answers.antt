use Rattle.std.proofs.Common.{rules, ◌≡◌, Some, None}
use Rattle.std.specs.Map.{lookup}
use Rattle.std.specs.Str.{bytes_eq}
use Rattle.ups_events.proofs.SlotLists.{alone_from, none_from}
use Rattle.ups_events.proofs.Spending.{none_spent}
use Rattle.ups_events.proofs.slots.supersede.Goals as goal

pub spend-requires-clause-alone : goal.spend-requires-clause-alone
spend-requires-clause-alone g c =
    let had : lookup (bytes_eq c.args.step) c.args.index.now.entries ≡ Some c.in-Some.earlier = search rules in
    alone_from c.args.index.now.entries c.args.slots.now.items c.args.step c.in-Some.earlier c.requires.indexed had

pub returns-in-None-clause-slots : goal.returns-in-None-clause-slots
returns-in-None-clause-slots g c =
    let had : lookup (bytes_eq c.args.step) c.args.index.now.entries ≡ None = search rules in
    none_spent c.args.step c.args.slots.now.items (none_from c.args.index.now.entries c.args.slots.now.items c.args.step c.requires.indexed had)
