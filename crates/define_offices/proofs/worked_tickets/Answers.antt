use Rattle.std.proofs.Common.{refl}
use Rattle.std.specs.Fmt.{digits}
use Rattle.hex.specs.Hex.{encode_with}
use Rattle.sha2.specs.Sha256.{compress, digest_bytes, first_words, hash_after, rounds, schedule, sha256}
use Rattle.define_offices.proofs.worked_tickets.Goals as goal

pub returns-clause-tried : goal.returns-clause-tried
unfolding sha256 hash_after compress rounds schedule first_words digest_bytes encode_with digits
returns-clause-tried c = refl

pub returns-clause-drawn : goal.returns-clause-drawn
unfolding sha256 hash_after compress rounds schedule first_words digest_bytes encode_with digits
returns-clause-drawn c = refl

pub returns-clause-drawn_again : goal.returns-clause-drawn_again
unfolding sha256 hash_after compress rounds schedule first_words digest_bytes encode_with digits
returns-clause-drawn_again c = refl

pub returns-clause-tried_again : goal.returns-clause-tried_again
unfolding sha256 hash_after compress rounds schedule first_words digest_bytes encode_with digits
returns-clause-tried_again c = refl

pub returns-clause-tried_other : goal.returns-clause-tried_other
unfolding sha256 hash_after compress rounds schedule first_words digest_bytes encode_with digits
returns-clause-tried_other c = refl
