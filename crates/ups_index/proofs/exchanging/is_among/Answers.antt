use Rattle.std.proofs.Common.{◌∙◌, ap, ℕ, List}
use Rattle.std.specs.List.{list_any}
use Rattle.ups_index.specs.Kept.{text_view}
use Rattle.ups_index.specs.Stored.{is_stored_text}
use Rattle.ups_index.proofs.Exchanged.{found_among}
use Rattle.ups_index.proofs.exchanging.is_among.Goals as goal

pub returns : goal.returns
returns g c = λ h.
    found_among c.args.texts.now c.args.stored.now c.has_text.result
    (c.has_text.ensures ∙ ap (λ (t : List ℕ). list_any (λ s. is_stored_text c.args.stored.now.tag t (text_view s)) c.args.texts.now) c.as_slice.ensures) h
