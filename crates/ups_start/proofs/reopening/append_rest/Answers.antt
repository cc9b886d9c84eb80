use Rattle.std.proofs.Common.{◌-◌, length, take}
use Rattle.std.specs.Prelude.{drop}
use Rattle.ups_store.specs.Shown.{requests_shown, requests}
use Rattle.ups_store.proofs.Steps.{open_clean}
use Rattle.ups_start.proofs.Said.{said_more}
use Rattle.ups_start.proofs.Behind.{behind_rest}
use Rattle.ups_start.proofs.reopening.append_rest.Goals as goal

pub returns-in-Ok : goal.returns-in-Ok
returns-in-Ok g c = record {
  behind = λ committed was clean.
      let old = c.args.reopened.store in
      let up = c.append.ensures.keeps.was_open (c.in-Ok.ensures.keeps.is_open clean) in
      let before = open_clean (requests_shown old) (g.met.S.Store.shut_if_dirty old.store) up in
      let there = c.args.reopened.there in
      let rs = c.args.records.now in
      let more = said_more _ (requests c.append.new.self) c.args.run (take (length rs - there) (drop there rs)) (c.in-Ok.ensures.added clean) in
      behind_rest _ _ rs committed there (was before) more;
}
