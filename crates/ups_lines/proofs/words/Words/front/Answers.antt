use Rattle.std.proofs.Common.{◌+◌, ◌∷◌, ◌∙◌, ap, sym, take}
use Rattle.std.specs.Option.{option_copied}
use Rattle.ups_lines.specs.Words.{words_of}
use Rattle.ups_lines.specs.Words.{words_left}
use Rattle.ups_lines.proofs.Parting.{first_word, last_word, rest_of}
use Rattle.ups_lines.proofs.words.Words.front.Goals as goal

pub returns-in-Some-clause-word : goal.returns-in-Some-clause-word
returns-in-Some-clause-word c =
    let text = c.in_ok-text.text.now in
    let place = c.in-Some.place in
    ap (λ o. words_left (option_copied o)) c.in_ok-text.was ∙ (first_word text place (sym c.in-Some.ensures)).1
    ∙ ap (λ l. take place text ∷ words_of l) (sym (rest_of text (place + 1)))

pub returns-in-None-clause-word : goal.returns-in-None-clause-word
returns-in-None-clause-word c = ap (λ o. words_left (option_copied o)) c.in_ok-text.was ∙ last_word c.in_ok-text.text.now (sym c.in-None.ensures)
