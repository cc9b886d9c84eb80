use Rattle.std.proofs.Common.{sym, ◌∙◌}
use Rattle.ups_store.specs.Shown.{requests_shown}
use Rattle.ups_store.proofs.Steps.{open_clean, sound_open}
use Rattle.ups_store.proofs.store.RequestStore.is_shut.Goals as goal

pub returns-clause-open : goal.returns-clause-open
returns-clause-open g c clean sound = sound_open (requests_shown c.args.self.now) (g.met.S.Store.broken_if_shut c.args.self.now.store) (sym (c.is_broken.ensures clean) ∙ sound)

pub returns-clause-shut : goal.returns-clause-shut
returns-clause-shut g c up =
    let clean = open_clean (requests_shown c.args.self.now) (g.met.S.Store.shut_if_dirty c.args.self.now.store) up in
    c.is_broken.ensures clean ∙ (c.args.self.now.held up).adding.sound
