-- Key sets encoded by their parts, by which a proof distinguishes them.
use Rattle.std.specs.Prelude.{List, ℤ, refl}
use Rattle.std.specs.Coded.{Coded, code_by, coded×, coded_ℤ}
use Rattle.ups_dataset.specs.Data.{El}
use Rattle.ups_dataset.specs.Code.{set_code}
use Rattle.ups_match.specs.Matching.{KeySet}

abbrev pub keys_code : Coded KeySet
keys_code = code_by (List El × ℤ) (coded× set_code coded_ℤ) (λ k. (k.attributes, k.offset)) (λ p. record { attributes = p.0; offset = p.1 }) (λ _. refl)
