-- The limits on the bodies of PDUs, in bytes.
use Rattle.std.specs.Prelude.{ℕ}

-- the longest body of a P-DATA-TF, which is the maximum length that this side announces (PS3.8 annex D.1)
abbrev pub max_data_length : ℕ
max_data_length = 16384

-- the longest body of any other PDU
abbrev pub max_body_length : ℕ
max_body_length = 131072
