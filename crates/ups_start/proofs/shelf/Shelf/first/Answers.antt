use Rattle.ups_store.specs.Shown.{requests_shown}
use Rattle.ups_store.proofs.Steps.{open_clean}
use Rattle.ups_start.proofs.shelf.Shelf.first.Goals as goal

pub returns-clause-clean : goal.returns-clause-clean
returns-clause-clean g c sound = open_clean (requests_shown c.args.store) (g.met.S.Store.shut_if_dirty c.args.store.store) sound.1

pub returns-clause-at_first : goal.returns-clause-at_first
returns-clause-at_first g c sound = open_clean (requests_shown c.args.store) (g.met.S.Store.shut_if_dirty c.args.store.store) sound.1
