use Rattle.std.proofs.Common.{Some, [], ◌∷◌, ◌++◌, ap, ◌∙◌}
use Rattle.std.specs.Str.{bytes_eq}
use Rattle.indexmap.proofs.CallerLemmas.{insert_entry-new}
use Rattle.ups_steps.specs.Places.{held_in}
use Rattle.ups_steps.proofs.Placing.{removed_free, held_behind}
use Rattle.ups_steps.proofs.places.add.Goals as goal

pub returns-clause-steps : goal.returns-clause-steps
returns-clause-steps g c =
    ap held_in (c.in-Ok.ensures.entries ∙ insert_entry-new bytes_eq c.remove_place.new.places c.args.step (Some c.args.held) c.remove_place.ensures.gone)
    ∙ held_behind c.args.step c.args.held c.remove_place.new.places.entries
    ∙ ap (λ hs. hs ++ (c.args.step, c.args.held) ∷ []) (ap held_in c.remove_place.ensures.entries ∙ removed_free c.args.step c.args.places.now.entries c.requires.fresh)

pub returns-clause-covers : goal.returns-clause-covers
returns-clause-covers g c = λ right. c.forget.ensures c.remove_place.new.places.entries (Some c.args.held) c.in-Ok.ensures.entries (c.remove_place.ensures.covers right)
