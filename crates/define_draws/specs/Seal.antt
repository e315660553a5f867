-- The seal of some bytes: their SHA-256 digest (FIPS 180-4) in lower case hexadecimal digits. `sealed_draw` makes it. Draws, summaries and
-- the office use it.
use Rattle.std.specs.Prelude.{ℕ, Bool, List, bytes_eq, map}
use Rattle.std.specs.Char.{to_ascii_lowercase}
use Rattle.hex.specs.Hex.{encode_lower}
use Rattle.sha2.specs.Sha256.{sha256}

abbrev pub seal_of : List ℕ → List ℕ
seal_of bytes = encode_lower (sha256 bytes)

-- true if the seal that was given, with its capitals made small, is the one that is kept
abbrev pub is_seal : List ℕ → List ℕ → Bool
is_seal kept given = bytes_eq (map to_ascii_lowercase given) kept
