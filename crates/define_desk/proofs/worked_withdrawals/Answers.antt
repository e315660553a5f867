use Rattle.std.proofs.Common.{refl}
use Rattle.hex.specs.Hex.{encode_with}
use Rattle.sha2.specs.Sha256.{compress, digest_bytes, first_words, hash_after, rounds, schedule, sha256}
use Rattle.json.specs.Print.{escape_byte}
use Rattle.define_desk.proofs.worked_withdrawals.Goals as goal

pub returns-clause-first : goal.returns-clause-first
unfolding sha256 hash_after compress rounds schedule first_words digest_bytes encode_with escape_byte
returns-clause-first c = refl

pub returns-clause-again : goal.returns-clause-again
unfolding sha256 hash_after compress rounds schedule first_words digest_bytes encode_with escape_byte
returns-clause-again c = refl

pub returns-clause-sealed : goal.returns-clause-sealed
unfolding sha256 hash_after compress rounds schedule first_words digest_bytes encode_with escape_byte
returns-clause-sealed c = refl

pub returns-clause-seated : goal.returns-clause-seated
unfolding sha256 hash_after compress rounds schedule first_words digest_bytes encode_with escape_byte
returns-clause-seated c = refl
