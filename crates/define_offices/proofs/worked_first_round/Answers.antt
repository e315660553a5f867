use Rattle.std.proofs.Common.{refl}
use Rattle.std.specs.Fmt.{digits}
use Rattle.hex.specs.Hex.{encode_with}
use Rattle.sha2.specs.Sha256.{compress, digest_bytes, first_words, hash_after, rounds, schedule, sha256}
use Rattle.define_offices.proofs.worked_first_round.Goals as goal

pub returns-clause-solved : goal.returns-clause-solved
unfolding digits
returns-clause-solved c = refl

pub returns-clause-solved_again : goal.returns-clause-solved_again
unfolding digits
returns-clause-solved_again c = λ all. refl

pub returns-clause-drawn : goal.returns-clause-drawn
unfolding sha256 hash_after compress rounds schedule first_words digest_bytes encode_with digits
returns-clause-drawn c = refl

pub returns-clause-drawn_again : goal.returns-clause-drawn_again
unfolding sha256 hash_after compress rounds schedule first_words digest_bytes encode_with digits
returns-clause-drawn_again c = refl

pub returns-clause-other_digits : goal.returns-clause-other_digits
unfolding sha256 hash_after compress rounds schedule first_words digest_bytes encode_with digits
returns-clause-other_digits c = refl
