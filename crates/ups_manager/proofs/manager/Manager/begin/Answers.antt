use Rattle.std.proofs.Common.{◌≡◌, ℤ, w16, List, [], refl, sym, ap, subst, ◌∙◌}
use Rattle.std.specs.List.{AllByRecursion}
use Rattle.std.proofs.lemmas.Int.{to_z-of_z}
use Rattle.ups_life.specs.declared.entry.Entry.{Entry}
use Rattle.ups_life.specs.declared.peer.Peer.{Peer}
use Rattle.ups_life.specs.Settings.{Settings, IsOffset}
use Rattle.ups_life.specs.Steps.{past}
use Rattle.ups_tables.specs.HeldSteps.{held_steps}
use Rattle.ups_tables.specs.Seen.{Once}
use Rattle.ups_tables.specs.Stands.{Stands as TablesStand}
use Rattle.ups_manager.specs.Held.{IsSmallStep}
use Rattle.ups_manager.specs.Indexing.{indexed_steps}
use Rattle.ups_manager.proofs.Entering.{HaveDates, no_moments}
use Rattle.ups_manager.proofs.Remembering.{remembers_nothing}
use Rattle.ups_manager.proofs.manager.Manager.begin.Goals as goal

pub returns-clause-settings : goal.returns-clause-settings
returns-clause-settings g c =
    c.new-configuration.ensures ∙ ap {B = Settings} (λ (z : ℤ). record { peers = c.in_ok-named.named.items; keep = c.args.keep; offset = z; limit = c.args.limit }) (to_z-of_z w16 c.args.offset c.ranges.offset)
    ∙ ap {B = Settings} (λ (ps : List Peer). record { peers = ps; keep = c.args.keep; offset = c.args.offset; limit = c.args.limit }) c.in_ok-named.ensures.items

pub begin-requires : goal.begin-requires
begin-requires g c = subst Once (sym (ap (λ (s : Settings). s.peers) c.new-configuration.ensures ∙ c.in_ok-named.ensures.items)) c.requires.titles

pub invariant_of-result : goal.invariant_of-result
invariant_of-result g c = (
  record {
    offset = subst (λ (s : Settings). IsOffset s.offset) (sym (returns-clause-settings g c)) c.requires.offset;
    moments = subst HaveDates (sym c.new.ensures.entries) no_moments;
    tables = subst (λ (l : List (Entry g.row.A.Denot)). TablesStand c.new-configuration.result l c.in_ok-tables.tables) (sym c.new.ensures.entries) c.in_ok-tables.ensures;
    small = subst (λ (l : List (Entry g.row.A.Denot)). AllByRecursion IsSmallStep (held_steps c.new-configuration.result (past l))) (sym c.new.ensures.entries) tt;
  },
  record {
    offset = c.new-2.ensures.offset ∙ to_z-of_z w16 c.args.offset c.ranges.offset ∙ sym (ap (λ (s : Settings). s.offset) (returns-clause-settings g c));
    steps = c.new-2.ensures.steps ∙ subst (λ (l : List (Entry g.row.A.Denot)). [] ≡ indexed_steps c.new-configuration.result (past l)) (sym c.new.ensures.entries) refl;
  },
  remembers_nothing c.new-configuration.result c.new.result c.new.ensures.entries c.new.ensures.first,
)
