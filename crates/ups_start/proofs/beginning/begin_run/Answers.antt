use Rattle.std.proofs.Common.{◌≡◌, List, sym, subst, ap, ◌∙◌}
use Rattle.sqlite_trees.specs.View.{View, IsClean}
use Rattle.ups_store.specs.Rows.{requests_in}
use Rattle.ups_store.specs.declared.request.StoredRequest.{StoredRequest}
use Rattle.ups_store.specs.Digest.{digest_of}
use Rattle.ups_store.specs.Shown.{requests_shown, requests, all_of}
use Rattle.ups_store.proofs.Steps.{open_clean, clean_before}
use Rattle.ups_start.specs.Started.{said}
use Rattle.ups_start.proofs.beginning.begin_run.Goals as goal

pub returns-in-Ok-clause-clean : goal.returns-in-Ok-clause-clean
returns-in-Ok-clause-clean g c = λ clean.
    let store = c.in-Some.store in
    let upgraded = c.upgrade.new.self in
    let was = c.begin_run.ensures.keeps.was_open (c.in-Ok.ensures.keeps.is_open clean) in
    let mid = open_clean (requests_shown upgraded) (g.met.S.Store.shut_if_dirty upgraded.store) was in
    subst (λ (v : View). IsClean v) c.in-Some.ensures.same (clean_before (requests_shown store) (requests_shown upgraded) c.upgrade.ensures.keeps.clean mid)

pub returns-in-Ok-clause-same : goal.returns-in-Ok-clause-same
returns-in-Ok-clause-same g c = λ clean.
    let upgraded = c.upgrade.new.self in
    let was = c.begin_run.ensures.keeps.was_open (c.in-Ok.ensures.keeps.is_open clean) in
    let mid = open_clean (requests_shown upgraded) (g.met.S.Store.shut_if_dirty upgraded.store) was in
    let first : requests c.in-Some.store ≡ all_of c.args.reading.replay = ap (λ (v : View). requests_in v.committed) c.in-Some.ensures.same in
    c.in-Ok.ensures.requests clean ∙ (c.in_default-upgrade.ensures.requests mid ∙ first)

pub invariant_of-result : goal.invariant_of-result
invariant_of-result g c = record {
  digested = λ clean.
      let store = c.in-Some.store in
      let upgraded = c.upgrade.new.self in
      let was = c.begin_run.ensures.keeps.was_open (c.in-Ok.ensures.keeps.is_open clean) in
      let mid = open_clean (requests_shown upgraded) (g.met.S.Store.shut_if_dirty upgraded.store) was in
      let before = subst (λ (v : View). IsClean v) c.in-Some.ensures.same (clean_before (requests_shown store) (requests_shown upgraded) c.upgrade.ensures.keeps.clean mid) in
      let first : requests store ≡ all_of c.args.reading.replay = ap (λ (v : View). requests_in v.committed) c.in-Some.ensures.same in
      let same = c.in-Ok.ensures.requests clean ∙ (c.in_default-upgrade.ensures.requests mid ∙ first) in
      c.requires.digested before ∙ sym (ap (λ (rs : List StoredRequest). digest_of (said rs)) same);
}
