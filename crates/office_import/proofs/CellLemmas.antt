-- Lemmas for reading cells: blanks at the ends of a field, fields and elements at a place of a list, and the digits of a number.
use Rattle.std.proofs.Common.{◌≡◌, ◌<◌, ◌+◌, ◌-◌, ◌*◌, ◌^◌, add-one, ap, zero, suc, sym, ◌∙◌, ◌++◌, arith, reverse, refl, Bool, true, false, ℕ, List, [], ◌∷◌, length, get_or, leb, Some, None}
use Rattle.std.specs.Char.{digit_value}
use Rattle.std.specs.List.{position}
use Rattle.std.proofs.Math.Nat.{pow-suc}
use Rattle.std.proofs.lemmas.Str.{digit_value_digit}
use Rattle.std.specs.Int.{IsInRange}
use Rattle.std.proofs.lemmas.Bool.{false≢true, and_parts, leb-true}
use Rattle.std.proofs.lemmas.List.Quantifiers.{position-Some}
use Rattle.define_pools.proofs.Found.{position-None}
use Rattle.std.proofs.lemmas.List.{length-reverse, reverse-append, reverse-reverse}
use Rattle.csv.specs.Records.{field_at}
use Rattle.define_imports.specs.Cells.{is_blank, trim_front}
use Rattle.define_imports.specs.Rules.{is_digit}

blank_first : (b : ℕ) (rest : List ℕ) → is_blank b ≡ true → trim_front (b ∷ rest) ≡ trim_front rest
unfolding trim_front
blank_first b rest e = rw e refl

plain_first : (b : ℕ) (rest : List ℕ) → is_blank b ≡ false → trim_front (b ∷ rest) ≡ b ∷ rest
unfolding trim_front
plain_first b rest e = rw e refl

pub front_steps : (rest others : List ℕ) (b : ℕ) → rest ≡ b ∷ others → is_blank b ≡ true → trim_front others ≡ trim_front rest
front_steps rest others b e blank = sym (ap trim_front e ∙ blank_first b others blank)

pub front_stops : (rest others : List ℕ) (b : ℕ) → rest ≡ b ∷ others → is_blank b ≡ false → trim_front rest ≡ rest
front_stops rest others b e plain = ap trim_front e ∙ plain_first b others plain ∙ sym e

pub front_ends : (rest : List ℕ) → length rest ≡ 0 → trim_front rest ≡ rest
unfolding trim_front
front_ends [] e = refl
front_ends (b ∷ rest) e = absurd (omega (arith, e))

pub back_steps : (rest others : List ℕ) (b : ℕ) → rest ≡ others ++ b ∷ [] → is_blank b ≡ true → trim_front (reverse others) ≡ trim_front (reverse rest)
back_steps rest others b e blank = front_steps (reverse rest) (reverse others) b (ap reverse e ∙ reverse-append others (b ∷ [])) blank

pub back_stops : (rest others : List ℕ) (b : ℕ) → rest ≡ others ++ b ∷ [] → is_blank b ≡ false → reverse (trim_front (reverse rest)) ≡ rest
back_stops rest others b e plain =
    ap reverse (front_stops (reverse rest) (reverse others) b (ap reverse e ∙ reverse-append others (b ∷ [])) plain) ∙ reverse-reverse rest

pub back_ends : (rest : List ℕ) → length rest ≡ 0 → reverse (trim_front (reverse rest)) ≡ rest
back_ends rest e = ap reverse (front_ends (reverse rest) (length-reverse rest ∙ e)) ∙ reverse-reverse rest

-- if a record has no field at a place, the field that is read there is empty
pub not_there : (fields : List (List ℕ)) (place : ℕ) → field_at fields place ≡ None → get_or fields place [] ≡ []
unfolding field_at
not_there [] place e = refl
not_there (f ∷ fs) zero e = cc
not_there (f ∷ fs) (suc place) e = not_there fs place e

-- `position` returns the first place at which the test passes
pub first_place : {X : Type 0} (p : X → Bool) (xs : List X) (k : ℕ) (d : X) → k < length xs → p (get_or xs k d) ≡ true → ((j : ℕ) → j < k → p (get_or xs j d) ≡ false) → position p xs ≡ Some k
first_place p xs k d inside good before =
    (elim (position p xs) as (λ r. position p xs ≡ r → r ≡ Some k) [
      | None ↦ λ e. absurd (false≢true (sym (position-None p xs k d e inside) ∙ good))
      | Some i ↦ λ e.
          let facts = position-Some p xs i d e in
          let not_below : i < k → ⊥ = λ h. false≢true (sym (before i h) ∙ facts.1) in
          let not_above : k < i → ⊥ = λ h. false≢true (sym (facts.2 k h) ∙ good) in
          let same : i ≡ k = omega arith in
          ap Some same
    ]) refl

-- if the test passes at no place, `position` returns None
pub no_place : {X : Type 0} (p : X → Bool) (xs : List X) (d : X) → ((j : ℕ) → j < length xs → p (get_or xs j d) ≡ false) → position p xs ≡ None
no_place p xs d none =
    (elim (position p xs) as (λ r. position p xs ≡ r → r ≡ None) [
      | None ↦ λ e. refl
      | Some i ↦ λ e. let facts = position-Some p xs i d e in absurd (false≢true (sym (none i facts.0) ∙ facts.1))
    ]) refl

pub digit_in_range : (byte : ℕ) → is_digit byte ≡ true → IsInRange 48 57 byte
digit_in_range byte h = let parts = and_parts (leb 48 byte) (leb byte 57) h in (leb-true 48 byte parts.0, leb-true byte 57 parts.1)

-- appending a digit to a number below `10 ^ i` adds the digit's value to 10 times the number, and stays below `10 ^ (i + 1)`
pub one_more_digit : (number digit i : ℕ) → IsInRange 48 57 digit → number < 10 ^ i → (number * 10 + (digit - 48) ≡ number * 10 + digit_value digit) × (number * 10 + (digit - 48) < 10 ^ (i + 1))
one_more_digit number digit i range small =
    let own : digit_value digit + 48 ≡ digit = digit_value_digit digit range in
    let value : digit - 48 ≡ digit_value digit = other (digit_value digit) own in
    (ap (λ d. number * 10 + d) value, rw (add-one, pow-suc 10 i) (below (10 ^ i) small))
  where
    other : (v : ℕ) → v + 48 ≡ digit → digit - 48 ≡ v
    other v e = omega arith

    below : (power : ℕ) → number < power → number * 10 + (digit - 48) < power * 10
    below power h = let high = range.1 in omega arith
