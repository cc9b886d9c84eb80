use Rattle.std.proofs.Common.{◌∙◌, max, refl}
use Rattle.ups_turn.proofs.Meets.{learned_is, learned, told, front_longer}
use Rattle.ups_turn.proofs.desk.Desk.tell.Goals as goal

pub invariant_of-pass : goal.invariant_of-pass
invariant_of-pass g c =
    let p = c.pass.inside in
    let f = c.from.inside in
    let now = learned_is _ p.number p.calls _ f.number f.calls _ _ p.place.me f.place.me c.note-told.result.me c.absorb.new.place.me c.settle.new.place.me c.pass.invariant.0 c.from.invariant.0 c.note-told.ensures.note.1 c.absorb.ensures.joined c.settle.ensures.settled c.settle.ensures.caught_up in
    let up = learned _ p.number p.calls _ f.number f.calls _ _ p.place.me f.place.me c.note-told.result.me c.absorb.new.place.me c.settle.new.place.me c.pass.invariant.0 c.from.invariant.0 c.note-told.ensures.note.1 c.absorb.ensures.joined c.settle.ensures.settled c.settle.ensures.caught_up in
    rw now (refl, c.max-pass-inside.ensures ∙ ((λ i. max (c.pass.invariant.1 i) (c.from.invariant.1 i)) ∙ front_longer _ _), c.pass.invariant.2, up.legal)

pub returns-clause-learns : goal.returns-clause-learns
returns-clause-learns g c =
    let p = c.pass.inside in
    let f = c.from.inside in
    let now = learned_is _ p.number p.calls _ f.number f.calls _ _ p.place.me f.place.me c.note-told.result.me c.absorb.new.place.me c.settle.new.place.me c.pass.invariant.0 c.from.invariant.0 c.note-told.ensures.note.1 c.absorb.ensures.joined c.settle.ensures.settled c.settle.ensures.caught_up in
    let up = learned _ p.number p.calls _ f.number f.calls _ _ p.place.me f.place.me c.note-told.result.me c.absorb.new.place.me c.settle.new.place.me c.pass.invariant.0 c.from.invariant.0 c.note-told.ensures.note.1 c.absorb.ensures.joined c.settle.ensures.settled c.settle.ensures.caught_up in
    rw (← c.pass.view_is, ← c.from.view_is, now) (record {
      same = (c.settle.ensures.same.0 ∙ c.absorb.ensures.same.0, refl, refl);
      calls = refl;
      seen = refl;
      behind = up.behind;
      told = told _ p.number p.calls _ f.number f.calls _ _ p.place.me f.place.me c.note-told.result.me c.absorb.new.place.me c.settle.new.place.me c.pass.invariant.0 c.from.invariant.0 c.note-told.ensures.note.1 c.absorb.ensures.joined c.settle.ensures.settled c.settle.ensures.caught_up;
      legal = up.legal;
    })
