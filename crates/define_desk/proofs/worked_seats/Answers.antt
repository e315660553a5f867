use Rattle.std.proofs.Common.{refl}
use Rattle.std.specs.Fmt.{digits}
use Rattle.hex.specs.Hex.{encode_with}
use Rattle.sha2.specs.Sha256.{compress, digest_bytes, first_words, hash_after, rounds, schedule, sha256}
use Rattle.json.specs.Print.{escape_byte}
use Rattle.define_desk.proofs.worked_seats.Goals as goal

pub returns-clause-open : goal.returns-clause-open
unfolding digits sha256 hash_after compress rounds schedule first_words digest_bytes encode_with escape_byte
returns-clause-open c = refl

pub returns-clause-others : goal.returns-clause-others
unfolding digits sha256 hash_after compress rounds schedule first_words digest_bytes encode_with escape_byte
returns-clause-others c = refl

pub returns-clause-withdrawn : goal.returns-clause-withdrawn
unfolding digits sha256 hash_after compress rounds schedule first_words digest_bytes encode_with escape_byte
returns-clause-withdrawn c = refl

pub returns-clause-drawn : goal.returns-clause-drawn
unfolding digits sha256 hash_after compress rounds schedule first_words digest_bytes encode_with escape_byte
returns-clause-drawn c = refl

pub returns-clause-dropped : goal.returns-clause-dropped
unfolding digits sha256 hash_after compress rounds schedule first_words digest_bytes encode_with escape_byte
returns-clause-dropped c = refl

pub returns-clause-gone : goal.returns-clause-gone
unfolding digits sha256 hash_after compress rounds schedule first_words digest_bytes encode_with escape_byte
returns-clause-gone c = refl

pub returns-clause-seated : goal.returns-clause-seated
unfolding digits sha256 hash_after compress rounds schedule first_words digest_bytes encode_with escape_byte
returns-clause-seated c = refl

pub returns-clause-undrawn : goal.returns-clause-undrawn
unfolding digits sha256 hash_after compress rounds schedule first_words digest_bytes encode_with escape_byte
returns-clause-undrawn c = refl

pub returns-clause-drawn_now : goal.returns-clause-drawn_now
unfolding digits sha256 hash_after compress rounds schedule first_words digest_bytes encode_with escape_byte
returns-clause-drawn_now c = refl

pub returns-clause-drops_now : goal.returns-clause-drops_now
unfolding digits sha256 hash_after compress rounds schedule first_words digest_bytes encode_with escape_byte
returns-clause-drops_now c = refl

pub returns-clause-third : goal.returns-clause-third
unfolding digits sha256 hash_after compress rounds schedule first_words digest_bytes encode_with escape_byte
returns-clause-third c = refl

pub returns-clause-third_gone : goal.returns-clause-third_gone
unfolding digits sha256 hash_after compress rounds schedule first_words digest_bytes encode_with escape_byte
returns-clause-third_gone c = refl
