-- The way from a data set to an item nested in it.
use Rattle.std.specs.Prelude.{ℕ, List, []}
use Rattle.ups_lines.specs.declared.printing.Way.{Way, Here, Into'}
use Rattle.ups_lines.specs.Printing.{way_into}

-- each sequence on the way with the number of its item, the outermost first
abbrev pub way_text : Way → List ℕ
way_text Here = []
way_text (Into' place outer sequence number) = way_into (way_text outer) sequence number
