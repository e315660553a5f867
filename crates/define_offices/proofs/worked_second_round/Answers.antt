use Rattle.std.proofs.Common.{refl}
use Rattle.std.specs.Fmt.{digits}
use Rattle.hex.specs.Hex.{encode_with}
use Rattle.sha2.specs.Sha256.{compress, digest_bytes, first_words, hash_after, rounds, schedule, sha256}
use Rattle.define_offices.proofs.worked_second_round.Goals as goal

pub returns-clause-dropped : goal.returns-clause-dropped
unfolding digits
returns-clause-dropped c = refl

pub returns-clause-dropped_again : goal.returns-clause-dropped_again
unfolding digits
returns-clause-dropped_again c = refl

pub returns-clause-next : goal.returns-clause-next
unfolding digits
returns-clause-next c = refl

pub returns-clause-next_again : goal.returns-clause-next_again
unfolding digits
returns-clause-next_again c = refl

pub returns-clause-solved : goal.returns-clause-solved
unfolding digits
returns-clause-solved c = refl

pub returns-clause-withdrawn : goal.returns-clause-withdrawn
unfolding sha256 hash_after compress rounds schedule first_words digest_bytes encode_with digits
returns-clause-withdrawn c = refl

pub returns-clause-seated : goal.returns-clause-seated
unfolding sha256 hash_after compress rounds schedule first_words digest_bytes encode_with digits
returns-clause-seated c = refl

pub returns-clause-unknown : goal.returns-clause-unknown
unfolding sha256 hash_after compress rounds schedule first_words digest_bytes encode_with digits
returns-clause-unknown c = refl
