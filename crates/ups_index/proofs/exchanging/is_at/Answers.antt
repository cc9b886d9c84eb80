use Rattle.std.proofs.Common.{◌∙◌, ap, arith, ℕ, List}
use Rattle.ups_index.specs.Kept.{text_view}
use Rattle.ups_index.specs.Stored.{is_stored_text}
use Rattle.ups_index.proofs.Exchanged.{found_at}
use Rattle.ups_index.proofs.exchanging.is_at.Goals as goal

pub returns : goal.returns
returns g c = λ h.
    found_at c.args.texts.now c.args.index c.index-texts-index.result c.args.stored.now c.is_text.result (omega arith) c.index-texts-index.is
    (c.is_text.ensures ∙ ap (λ (t : List ℕ). is_stored_text c.args.stored.now.tag t (text_view c.index-texts-index.result)) c.as_slice.ensures) h
