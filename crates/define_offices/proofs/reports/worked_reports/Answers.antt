use Rattle.std.proofs.Common.{refl}
use Rattle.std.specs.Fmt.{digits}
use Rattle.hex.specs.Hex.{encode_with}
use Rattle.frac128.specs.Divisors.{common_divisor_up_to, gcd_of}
use Rattle.sha2.specs.Sha256.{compress, digest_bytes, first_words, hash_after, rounds, schedule, sha256}
use Rattle.define_offices.proofs.reports.worked_reports.Goals as goal

-- proved by computation, with the definition of digests unfolded, since the report shows a seal
pub returns-clause-drawn : goal.returns-clause-drawn
unfolding sha256 hash_after compress rounds schedule first_words digest_bytes encode_with digits common_divisor_up_to gcd_of
returns-clause-drawn c = refl

pub returns-clause-tickets : goal.returns-clause-tickets
unfolding sha256 hash_after compress rounds schedule first_words digest_bytes encode_with digits common_divisor_up_to gcd_of
returns-clause-tickets c = refl

pub returns-clause-open : goal.returns-clause-open
unfolding digits
returns-clause-open c = refl
