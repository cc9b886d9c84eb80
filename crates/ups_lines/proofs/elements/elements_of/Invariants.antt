use Rattle.std.specs.Option.{option_copied}
use Rattle.ups_lines.specs.Words.{words_left, word_bytes_left}
use Rattle.ups_lines.proofs.Encoding.{HasEncoded}
use Rattle.ups_lines.proofs.elements.elements_of.Given as goal

abbrev pub invariant-loop-word : goal.invariant-loop-word
invariant-loop-word g l = HasEncoded (words_left (option_copied l.fn.words.rest)) (words_left (option_copied l.words.rest)) l.out.items

abbrev pub decreases-loop-word : goal.decreases-loop-word
decreases-loop-word g l = word_bytes_left (option_copied l.words.rest)
