use Rattle.std.proofs.Common.{sym, ◌∙◌}
use Rattle.std.proofs.lemmas.List.{length-map}
use Rattle.ups_store.specs.Shown.{requests_shown, requests}
use Rattle.ups_store.proofs.Steps.{open_clean}
use Rattle.ups_start.proofs.granting.shelf_of.Goals as goal

pub first-requires : goal.first-requires
first-requires g c = λ up.
    let store = c.args.begun.store in
    record {
      many = length-map (requests store) (λ r. r.asked) ∙ sym (c.len-count.ensures up);
      same = sym (c.args.begun.digested (open_clean (requests_shown store) (g.met.S.Store.shut_if_dirty store.store) up));
    }
