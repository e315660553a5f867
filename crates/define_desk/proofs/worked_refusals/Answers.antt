use Rattle.std.proofs.Common.{refl}
use Rattle.hex.specs.Hex.{encode_with}
use Rattle.sha2.specs.Sha256.{compress, digest_bytes, first_words, hash_after, rounds, schedule, sha256}
use Rattle.define_desk.proofs.worked_refusals.Goals as goal

pub returns-clause-nowhere : goal.returns-clause-nowhere
unfolding sha256 hash_after compress rounds schedule first_words digest_bytes encode_with
returns-clause-nowhere c = refl

pub returns-clause-no_round : goal.returns-clause-no_round
unfolding sha256 hash_after compress rounds schedule first_words digest_bytes encode_with
returns-clause-no_round c = refl

pub returns-clause-round_zero : goal.returns-clause-round_zero
unfolding sha256 hash_after compress rounds schedule first_words digest_bytes encode_with
returns-clause-round_zero c = refl

pub returns-clause-five_digits : goal.returns-clause-five_digits
unfolding sha256 hash_after compress rounds schedule first_words digest_bytes encode_with
returns-clause-five_digits c = refl

pub returns-clause-method : goal.returns-clause-method
unfolding sha256 hash_after compress rounds schedule first_words digest_bytes encode_with
returns-clause-method c = refl

pub returns-clause-other_method : goal.returns-clause-other_method
unfolding sha256 hash_after compress rounds schedule first_words digest_bytes encode_with
returns-clause-other_method c = refl

pub returns-clause-seat_method : goal.returns-clause-seat_method
unfolding sha256 hash_after compress rounds schedule first_words digest_bytes encode_with
returns-clause-seat_method c = refl

pub returns-clause-seat_no_key : goal.returns-clause-seat_no_key
unfolding sha256 hash_after compress rounds schedule first_words digest_bytes encode_with
returns-clause-seat_no_key c = refl

pub returns-clause-seat_two_keys : goal.returns-clause-seat_two_keys
unfolding sha256 hash_after compress rounds schedule first_words digest_bytes encode_with
returns-clause-seat_two_keys c = refl

pub returns-clause-seat_key : goal.returns-clause-seat_key
unfolding sha256 hash_after compress rounds schedule first_words digest_bytes encode_with
returns-clause-seat_key c = refl

pub returns-clause-no_key : goal.returns-clause-no_key
unfolding sha256 hash_after compress rounds schedule first_words digest_bytes encode_with
returns-clause-no_key c = refl

pub returns-clause-two_keys : goal.returns-clause-two_keys
unfolding sha256 hash_after compress rounds schedule first_words digest_bytes encode_with
returns-clause-two_keys c = refl

pub returns-clause-key : goal.returns-clause-key
unfolding sha256 hash_after compress rounds schedule first_words digest_bytes encode_with
returns-clause-key c = refl

pub returns-clause-large : goal.returns-clause-large
unfolding sha256 hash_after compress rounds schedule first_words digest_bytes encode_with
returns-clause-large c = refl

pub returns-clause-bad : goal.returns-clause-bad
unfolding sha256 hash_after compress rounds schedule first_words digest_bytes encode_with
returns-clause-bad c = refl
