use Rattle.std.proofs.Common.{refl}
use Rattle.std.specs.Fmt.{digits}
use Rattle.hex.specs.Hex.{encode_with}
use Rattle.sha2.specs.Sha256.{compress, digest_bytes, first_words, hash_after, rounds, schedule, sha256}
use Rattle.json.specs.Print.{escape_byte}
use Rattle.define_desk.proofs.worked_pages.Goals as goal

pub returns-clause-solved : goal.returns-clause-solved
unfolding digits sha256 hash_after compress rounds schedule first_words digest_bytes encode_with escape_byte
returns-clause-solved c = refl

pub returns-clause-sealed : goal.returns-clause-sealed
unfolding digits sha256 hash_after compress rounds schedule first_words digest_bytes encode_with escape_byte
returns-clause-sealed c = refl

pub returns-clause-size : goal.returns-clause-size
unfolding digits sha256 hash_after compress rounds schedule first_words digest_bytes encode_with escape_byte
returns-clause-size c = refl

pub returns-clause-zeros : goal.returns-clause-zeros
unfolding digits sha256 hash_after compress rounds schedule first_words digest_bytes encode_with escape_byte
returns-clause-zeros c = refl

pub returns-clause-undrawn : goal.returns-clause-undrawn
unfolding digits sha256 hash_after compress rounds schedule first_words digest_bytes encode_with escape_byte
returns-clause-undrawn c = refl

pub returns-clause-drawn : goal.returns-clause-drawn
unfolding digits sha256 hash_after compress rounds schedule first_words digest_bytes encode_with escape_byte
returns-clause-drawn c = refl

pub returns-clause-tickets : goal.returns-clause-tickets
unfolding digits sha256 hash_after compress rounds schedule first_words digest_bytes encode_with escape_byte
returns-clause-tickets c = refl
