use Rattle.std.proofs.Common.{refl}
use Rattle.hex.specs.Hex.{encode_with}
use Rattle.sha2.specs.Sha256.{compress, digest_bytes, first_words, hash_after, rounds, schedule, sha256}
use Rattle.define_offices.proofs.worked_imports.Goals as goal

-- proved by computation, with the definition of digests unfolded, since the rows keep the digests of the keys
pub returns-clause-rows : goal.returns-clause-rows
unfolding sha256 hash_after compress rounds schedule first_words digest_bytes encode_with
returns-clause-rows c = refl
