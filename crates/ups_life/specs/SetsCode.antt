-- Lists of data sets as codes of their parts, by which a proof tells lists apart.
use Rattle.std.specs.Prelude.{List}
use Rattle.std.specs.Coded.{Coded, coded_list}
use Rattle.ups_dataset.specs.Data.{El}
use Rattle.ups_dataset.specs.Code.{set_code}

abbrev pub sets_code : Coded (List (List El))
sets_code = coded_list set_code
