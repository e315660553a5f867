use Rattle.std.proofs.Common.{refl}
use Rattle.std.specs.Fmt.{digits}
use Rattle.hex.specs.Hex.{encode_with}
use Rattle.sha2.specs.Sha256.{compress, digest_bytes, first_words, hash_after, rounds, schedule, sha256}
use Rattle.define_offices.proofs.worked_rows.Goals as goal

pub returns-clause-full : goal.returns-clause-full
unfolding sha256 hash_after compress rounds schedule first_words digest_bytes encode_with digits
returns-clause-full c = refl
