use Rattle.std.proofs.lemmas.Result.{err_from_is_err_and}
use Rattle.ups_pdu.specs.Context.{IsProposedHead, SpellsProposedContext}
use Rattle.ups_pdu.proofs.AssociationWays.{rq_of, items_at, one_user_content, user_at, heads_as_contexts, has_contexts, items_by}
use Rattle.ups_pdu.proofs.association.request_of.Goals as goal

pub returns-in_default : goal.returns-in_default
returns-in_default g c = λ rq s. c.in_default.ensures rq.protocol_version rq.called rq.calling s.text s.head

pub returns-in_default-association_items : goal.returns-in_default-association_items
returns-in_default-association_items g c = λ rq s. let i = items_at _ _ _ _ _ c.in-Some.ensures rq s in c.in_default-association_items.ensures rq.application_context i.0 s.user i.1

pub returns-in_default-user_parts : goal.returns-in_default-user_parts
returns-in_default-user_parts g c = λ rq s.
    let i = items_at _ _ _ _ _ c.in-Some.ensures rq s in
    let mine = c.in-Some-association_items.ensures in
    let e = one_user_content 0x20 IsProposedHead IsProposedHead _ _ _ s.user _ i.0 mine.0 i.1 mine.1 in
    c.in_default-user_parts.ensures _ _ _ _ _ (user_at s.user _ e rq.user_information s.user_information)

pub returns-in_err-contexts : goal.returns-in_err-contexts
returns-in_err-contexts g c =
    let p = err_from_is_err_and c.from_residual.result c.from_residual.ensures.1 in
    let items = c.in-Some-association_items.ensures in
    let user = c.in-Some-user_parts.ensures in
    rw (p.1, p.2) (rq_of g.row.A.Denot _ _ _ _ _ c.in-Some.ensures _ _ items.0 items.1 _ _ _ _ _ user.1)

pub returns-in_err-user_information : goal.returns-in_err-user_information
returns-in_err-user_information g c =
    let p = err_from_is_err_and c.from_residual-in_err-user_information.result c.from_residual-in_err-user_information.ensures.1 in
    let items = c.in-Some-association_items.ensures in
    let user = c.in-Some-user_parts.ensures in
    rw (p.1, p.2) (rq_of g.row.A.Denot _ _ _ _ _ c.in-Some.ensures _ _ items.0 items.1 _ _ _ _ _ user.1)

pub returns : goal.returns
returns g c =
    let mine = c.in-Some-association_items.ensures in
    let old = heads_as_contexts g.row.A.Denot _ _ _ mine.0 mine.1 in
    let new = c.in_ok-contexts.ensures _ (has_contexts 0x20 IsProposedHead _ _ _ mine.0 mine.1) old.0 old.1 in
    let items = items_by 0x20 IsProposedHead SpellsProposedContext _ _ _ mine.0 mine.1 _ new in
    let user = c.in-Some-user_parts.ensures in
    record { text = c.in-Some.head.items.now; user = c.in-Some-association_items.items.user_information.now; head = c.in-Some.ensures; items = items; user_information = c.in_ok-user_information.ensures user.0 user.1 }
