-- What several calls, one after another, do to the bytes.
use Rattle.std.proofs.Common.{◌≡◌, ℕ, ◌+◌, ◌≤◌, ◌++◌, List, Option, arith, length, min, subst, sym, take, ◌∙◌}
use Rattle.std.specs.Io.KnownBytes.{Appends}
use Rattle.std.proofs.KnownBytes.{Appends-trans, Consumes-trans}
use Rattle.std.proofs.lemmas.List.{take-append-le, take_min}
use Rattle.std.proofs.Math.Seq.{take-append-add}
use Rattle.outside.specs.Content.{AppendsPart, LosesFront}

take_of_longer : (count : ℕ) (piece more : List ℕ) → take (min count (length piece)) (piece ++ more) ≡ take count piece
take_of_longer count piece more =
    let within : min count (length piece) ≤ length piece = omega arith in
    take-append-le (min count (length piece)) piece more within ∙ take_min count piece

-- if the bytes grew by a prefix of `piece`, they grew by a prefix of `piece ++ more`
pub AppendsPart-append : (old new : Option (List ℕ)) (piece more : List ℕ) → AppendsPart old new piece → AppendsPart old new (piece ++ more)
AppendsPart-append old new piece more part =
    let P : List ℕ → Type 0 = λ bytes. Appends old new bytes in
    (min part.0 (length piece), subst P (sym (take_of_longer part.0 piece more)) part.1)

-- if the bytes grew by all of `piece`, and then by a prefix of `more`, they grew by a prefix of `piece ++ more`
pub AppendsPart-after : (a b c : Option (List ℕ)) (piece more : List ℕ) → Appends a b piece → AppendsPart b c more → AppendsPart a c (piece ++ more)
AppendsPart-after a b c piece more whole part =
    let P : List ℕ → Type 0 = λ bytes. Appends a c bytes in
    (length piece + part.0, subst P (sym (take-append-add piece more part.0)) (Appends-trans a b c piece (take part.0 more) whole part.1))

-- if one call takes bytes from the front, and then another does, both together take bytes from the front
pub LosesFront-trans : (a b c : Option (List ℕ)) → LosesFront a b → LosesFront b c → LosesFront a c
LosesFront-trans a b c h more = (h.0 ++ more.0, Consumes-trans a b c h.0 more.0 h.1 more.1)
