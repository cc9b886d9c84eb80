use Rattle.std.proofs.Common.{◌≡◌, inl, List, ◌++◌, map, ap, ◌∙◌}
use Rattle.ups_store.specs.declared.request.StoredRequest.{StoredRequest}
use Rattle.ups_store.specs.Rows.{stored_in_run, requests_in, table_in, IsNumbered}
use Rattle.ups_store.specs.Rewriting.{records_of, IsReplaced}
use Rattle.ups_store.proofs.Steps.{clean_before, open_clean, sound_open, mapped}
use Rattle.ups_store.proofs.Cleared.{tables_as, both_ways}
use Rattle.ups_store.proofs.rewriting.Rewrite.replace.Goals as goal

pub returns-in_err-begin-clause-tables : goal.returns-in_err-begin-clause-tables
returns-in_err-begin-clause-tables g c tables clean = tables_as (g.S.Store.view c.args.self.now.store) (g.S.Store.view c.begin.new.self.store) c.begin.ensures.schema tables

pub returns-in_err-put_groups-clause-tables : goal.returns-in_err-put_groups-clause-tables
returns-in_err-put_groups-clause-tables g c tables clean =
    let one = g.S.Store.view c.begin.new.self.store in
    tables_as one (g.S.Store.view c.put_groups.new.self.store) c.put_groups.ensures.schema (tables_as (g.S.Store.view c.args.self.now.store) one c.begin.ensures.schema tables)

pub returns-in_err-put_groups-clause-crash : goal.returns-in_err-put_groups-clause-crash
returns-in_err-put_groups-clause-crash g c db after = inl (c.begin.ensures.quiet.outcomes db (c.put_groups.ensures.quiet.outcomes db after))

pub returns-clause-tables : goal.returns-clause-tables
returns-clause-tables g c tables clean =
    let one = g.S.Store.view c.begin.new.self.store in
    c.commit.ensures.tables (tables_as one (g.S.Store.view c.put_groups.new.self.store) c.put_groups.ensures.schema (tables_as (g.S.Store.view c.args.self.now.store) one c.begin.ensures.schema tables)) clean

pub returns-clause-replaced : goal.returns-clause-replaced
returns-clause-replaced g c =
    let one = g.S.Store.view c.begin.new.self.store in
    let two = g.S.Store.view c.put_groups.new.self.store in
    let last = g.S.Store.view c.commit.new.self.store in
    let all = map (stored_in_run c.args.entered_in) (records_of c.args.groups.now) in
    mapped c.commit.result (λ says clean.
    let before = clean_before two last c.commit.ensures.clean clean in
    says clean ∙ c.in_ok-put_groups.ensures.added before ∙ ap (λ (rs : List StoredRequest). rs ++ all) (c.in_ok-begin.ensures.empty (clean_before one two c.put_groups.ensures.quiet.clean before))) c.commit.ensures.replaced

pub returns-clause-crash : goal.returns-clause-crash
returns-clause-crash g c db after =
    let one = g.S.Store.view c.begin.new.self.store in
    let two = g.S.Store.view c.put_groups.new.self.store in
    let all = map (stored_in_run c.args.entered_in) (records_of c.args.groups.now) in
    let before = λ (between : g.S.Store.recovers c.put_groups.new.self.store db). c.begin.ensures.quiet.outcomes db (c.put_groups.ensures.quiet.outcomes db between) in
    let has = λ (is : IsReplaced c.put_groups.new.self db).
    let clean = open_clean two (g.met.S.Store.shut_if_dirty c.put_groups.new.self.store) (sound_open two (g.met.S.Store.broken_if_shut c.put_groups.new.self.store) is.sound.1) in
    let requests : requests_in db ≡ all = is.requests ∙ c.in_ok-put_groups.ensures.added clean ∙ ap (λ (rs : List StoredRequest). rs ++ all) (c.in_ok-begin.ensures.empty (clean_before one two c.put_groups.ensures.quiet.clean clean)) in
    let both : (requests_in db ≡ all) × IsNumbered (db (table_in db)) = (requests, is.numbered) in
    both in
    both_ways before has (c.commit.ensures.crash db after)
