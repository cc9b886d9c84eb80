use Rattle.std.proofs.Common.{◌≡◌, w16, None, sym, ap, subst, ◌∙◌, rules}
use Rattle.std.proofs.lemmas.Int.{to_z-of_z}
use Rattle.ups_life.specs.Settings.{IsOffset}
use Rattle.ups_settings.specs.Refusal.{refusal}
use Rattle.ups_manager.proofs.Offsets.{good_offset, good_titles}
use Rattle.ups_manager.proofs.manager.Manager.new.Goals as goal

pub returns-clause-allowed : goal.returns-clause-allowed
returns-clause-allowed g c =
    let none : c.refusal.result ≡ None = search rules in
    ap (λ z. refusal c.args.peers.now z c.args.limit) (sym (to_z-of_z w16 c.args.offset c.ranges.offset)) ∙ sym c.refusal.ensures ∙ none

pub begin-requires-clause-titles : goal.begin-requires-clause-titles
begin-requires-clause-titles g c =
    let none : c.refusal.result ≡ None = search rules in
    good_titles c.args.peers.now c.args.offset c.args.limit (ap (λ z. refusal c.args.peers.now z c.args.limit) (sym (to_z-of_z w16 c.args.offset c.ranges.offset)) ∙ sym c.refusal.ensures ∙ none)

pub begin-requires-clause-offset : goal.begin-requires-clause-offset
begin-requires-clause-offset g c =
    let none : c.refusal.result ≡ None = search rules in
    subst IsOffset (sym (to_z-of_z w16 c.args.offset c.ranges.offset)) (good_offset c.args.peers.now c.args.offset c.args.limit (ap (λ z. refusal c.args.peers.now z c.args.limit) (sym (to_z-of_z w16 c.args.offset c.ranges.offset)) ∙ sym c.refusal.ensures ∙ none))
