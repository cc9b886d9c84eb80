use Rattle.std.proofs.Common.{ℕ, List, ◌∷◌, sym, ap, ◌∙◌}
use Rattle.std.specs.Option.{option_copied}
use Rattle.ups_lines.specs.Words.{words_left}
use Rattle.ups_lines.proofs.Encoding.{word_encoded, all_encoded}
use Rattle.ups_lines.proofs.elements.elements_of.Goals as goal

pub loop-word-preserved : goal.loop-word-preserved
loop-word-preserved g c =
    word_encoded _ _ _ _ _ _ (c.in-Some.ensures.word ∙ ap (λ (w : List ℕ). w ∷ words_left (option_copied c.front.new.self.rest)) (sym c.in_ok-filled.ensures.filled)) c.in_ok-put_word.ensures c.loop-word.invariant

pub returns : goal.returns
returns g c = all_encoded _ _ _ c.in_default.ensures.word c.loop-word.invariant
