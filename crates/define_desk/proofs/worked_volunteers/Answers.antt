use Rattle.std.proofs.Common.{refl}
use Rattle.std.specs.Fmt.{digits}
use Rattle.frac128.specs.Divisors.{common_divisor_up_to, gcd_of}
use Rattle.hex.specs.Hex.{encode_with}
use Rattle.sha2.specs.Sha256.{compress, digest_bytes, first_words, hash_after, rounds, schedule, sha256}
use Rattle.json.specs.Print.{escape_byte}
use Rattle.define_desk.proofs.worked_volunteers.Goals as goal

pub returns-clause-open : goal.returns-clause-open
unfolding digits common_divisor_up_to gcd_of sha256 hash_after compress rounds schedule first_words digest_bytes encode_with escape_byte
returns-clause-open c = refl

pub returns-clause-others : goal.returns-clause-others
unfolding digits common_divisor_up_to gcd_of sha256 hash_after compress rounds schedule first_words digest_bytes encode_with escape_byte
returns-clause-others c = refl

pub returns-clause-sealed : goal.returns-clause-sealed
unfolding digits common_divisor_up_to gcd_of sha256 hash_after compress rounds schedule first_words digest_bytes encode_with escape_byte
returns-clause-sealed c = refl

pub returns-clause-in_ten : goal.returns-clause-in_ten
unfolding digits common_divisor_up_to gcd_of sha256 hash_after compress rounds schedule first_words digest_bytes encode_with escape_byte
returns-clause-in_ten c = refl

pub returns-clause-drawn : goal.returns-clause-drawn
unfolding digits common_divisor_up_to gcd_of sha256 hash_after compress rounds schedule first_words digest_bytes encode_with escape_byte
returns-clause-drawn c = refl

pub returns-clause-second : goal.returns-clause-second
unfolding digits common_divisor_up_to gcd_of sha256 hash_after compress rounds schedule first_words digest_bytes encode_with escape_byte
returns-clause-second c = refl
