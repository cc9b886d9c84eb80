use Rattle.std.proofs.Common.{rules, ◌≡◌, ℕ, ℤ, pos, ◌+◌, ◌<◌, ◌^◌, w64, FitsSigned, true, false, Option, Ok, IfSome, sym, ap, subst, ◌∙◌}
use Rattle.std.proofs.lemmas.Int.{to_z-of_z, fits_signed_from_abs}
use Rattle.ups_store.specs.declared.request.StoredRequest.{StoredRequest}
use Rattle.ups_store.specs.Rows.{request_row, request_in}
use Rattle.ups_store.proofs.Steps.{writes_kept, failed_kept, on_either, mapped, clean_before}
use Rattle.ups_store.proofs.Placed.{not_missing, says_place, not_other, looks_only}
use Rattle.ups_store.proofs.drafting.read_one.Goals as goal

fits_number : (before : ℕ) (number : ℤ) → number ≡ pos (before + 1) → before + 1 < 2 ^ 63 → FitsSigned w64 number
fits_number before number is low = subst (FitsSigned w64) (sym is) (fits_signed_from_abs w64 (pos (before + 1)) low)

pub returns-then-not-branch-clause-kept : goal.returns-then-not-branch-clause-kept
returns-then-not-branch-clause-kept g c =
    let old = g.S.Store.view c.args.store.now in
    let new = g.S.Store.view c.get.new.self in
    on_either c.get.result (mapped c.get.result (λ same. writes_kept old new c.get.ensures.schema (g.met.S.Store.shut_if_dirty c.get.new.self) (λ clean. looks_only old new (same clean))) c.get.ensures.same) (failed_kept c.get.result old new c.get.ensures.err)

pub returns-in_err-request-clause-kept : goal.returns-in_err-request-clause-kept
returns-in_err-request-clause-kept g c =
    let old = g.S.Store.view c.args.store.now in
    let new = g.S.Store.view c.get.new.self in
    on_either c.get.result (mapped c.get.result (λ same. writes_kept old new c.get.ensures.schema (g.met.S.Store.shut_if_dirty c.get.new.self) (λ clean. looks_only old new (same clean))) c.get.ensures.same) (failed_kept c.get.result old new c.get.ensures.err)

pub returns-in-Some-2-clause-kept : goal.returns-in-Some-2-clause-kept
returns-in-Some-2-clause-kept g c =
    let old = g.S.Store.view c.args.store.now in
    let new = g.S.Store.view c.get.new.self in
    on_either c.get.result (mapped c.get.result (λ same. writes_kept old new c.get.ensures.schema (g.met.S.Store.shut_if_dirty c.get.new.self) (λ clean. looks_only old new (same clean))) c.get.ensures.same) (failed_kept c.get.result old new c.get.ensures.err)

pub returns-in-None-clause-kept : goal.returns-in-None-clause-kept
returns-in-None-clause-kept g c =
    let old = g.S.Store.view c.args.store.now in
    let new = g.S.Store.view c.get.new.self in
    on_either c.get.result (mapped c.get.result (λ same. writes_kept old new c.get.ensures.schema (g.met.S.Store.shut_if_dirty c.get.new.self) (λ clean. looks_only old new (same clean))) c.get.ensures.same) (failed_kept c.get.result old new c.get.ensures.err)

pub returns-then-not-branch-clause-cause : goal.returns-then-not-branch-clause-cause
returns-then-not-branch-clause-cause g c clean =
    let old = g.S.Store.view c.args.store.now in
    let was = clean_before old (g.S.Store.view c.get.new.self) c.get.ensures.quiet.clean clean in
    let z = to_z-of_z w64 c.in-Some.number (fits_number c.args.before c.in-Some.number c.in-Some.ensures.0 c.in-Some.ensures.1) in
    let missing : c.in_ok-get.field-0 ≡ false = search rules in
    not_missing (old.trees c.args.table) c.args.before _ c.get.new.row c.in_ok-get.field-0 (c.requires.numbered was) (c.requires.within was) (z ∙ c.in-Some.ensures.0) (c.in_ok-get.ensures.ok clean) missing

pub returns-in-Some-2-clause-read : goal.returns-in-Some-2-clause-read
returns-in-Some-2-clause-read g c clean =
    let old = g.S.Store.view c.args.store.now in
    let was = clean_before old (g.S.Store.view c.get.new.self) c.get.ensures.quiet.clean clean in
    let z = to_z-of_z w64 c.in-Some.number (fits_number c.args.before c.in-Some.number c.in-Some.ensures.0 c.in-Some.ensures.1) in
    let there : c.in_ok-get.field-0 ≡ true = search rules in
    let says = subst (λ (f : Option StoredRequest). IfSome f (λ r. (c.get.new.row ≡ request_row c.in-Some.number r) × (request_in c.get.new.row ≡ r))) c.in-Some-2.is
    (subst (λ (n : ℤ). IfSome c.in_ok-request.field-0 (λ r. (c.get.new.row ≡ request_row n r) × (request_in c.get.new.row ≡ r))) z c.in_ok-request.ensures.some) in
    says_place (old.trees c.args.table) c.args.before _ c.get.new.row c.in_ok-get.field-0 c.in-Some-2.request (c.requires.numbered was) (c.requires.within was) (z ∙ c.in-Some.ensures.0) (c.in_ok-get.ensures.ok clean) there says.1

pub returns-in-None-clause-cause : goal.returns-in-None-clause-cause
returns-in-None-clause-cause g c clean =
    let old = g.S.Store.view c.args.store.now in
    let was = clean_before old (g.S.Store.view c.get.new.self) c.get.ensures.quiet.clean clean in
    let z = to_z-of_z w64 c.in-Some.number (fits_number c.args.before c.in-Some.number c.in-Some.ensures.0 c.in-Some.ensures.1) in
    let there : c.in_ok-get.field-0 ≡ true = search rules in
    let none = c.in_ok-request.ensures.none (ap Ok c.in-None.is) in
    not_other (old.trees c.args.table) c.args.before _ c.get.new.row c.in_ok-get.field-0 (c.requires.numbered was) (c.requires.within was) (z ∙ c.in-Some.ensures.0) (c.in_ok-get.ensures.ok clean) there none
