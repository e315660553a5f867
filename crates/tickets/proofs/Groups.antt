-- Groups of digits: their size, their numbers, and which is the first that is accepted.
use Rattle.std.proofs.Common.{◌≡◌, ℕ, suc, ◌+◌, ◌-◌, ◌*◌, ◌/◌, ◌^◌, ◌<◌, ◌≤◌, Bool, true, false, not, List, length, get_or, take, pos, sym, ap, ap₂, ◌∙◌, arith, Some, None, ⊎_elim}
use Rattle.std.specs.Prelude.{position, Ok, Err}
use Rattle.define_pools.proofs.Found.{position-None, find_range-first, find_range-none}
use Rattle.define_draws.specs.declared.Named.{Named}
use Rattle.define_draws.specs.declared.DiceStop.TheVariants.{MoreDigits}
use Rattle.std.specs.Char.{digit_value, is_ascii_digit}
use Rattle.std.specs.Str.Parse.{digits_value}
use Rattle.std.proofs.lemmas.Int.Digits.{digits_value_more}
use Rattle.std.proofs.lemmas.Bool.{cases_lt, lt-ltb, not-false}
use Rattle.std.proofs.lemmas.Bool.Decides.{nat_tests}
use Rattle.std.proofs.Math.Nat.{le_antisymm, pow-le-pow_right, pow-suc}
use Rattle.define_draws.specs.Dice.{first_accepted, group_at, group_size, is_accepted, named_at, groups_per_ticket}
use Rattle.tickets.specs.declared.dice.Groups.{Groups}
use Rattle.tickets.specs.Reading.{AreDigits, AreGroupsOf}
use Rattle.define_draws.proofs.DiceLemmas.{groups_per_ticket-within, size-enough, size-least, size-some, ticket-below}

-- ---- the size of a group, and how many groups are accepted

pub is_group_size : (total size : ℕ) → 1 ≤ size → total ≤ 10 ^ size → ((other : ℕ) → 1 ≤ other → other < size → 10 ^ other < total) → size ≡ group_size total
is_group_size total size some enough smaller =
    let most = size-least total size some enough in
    ⊎_elim
    (λ (less : group_size total < size). let h = smaller (group_size total) (size-some total) less in absurd (omega (arith, size-enough total)))
    (λ (least : size ≤ group_size total). le_antisymm least most)
    (cases_lt (group_size total) size)

-- if a power of ten is below 10^38, its exponent is below 38
pub exponent-below : (size : ℕ) → 10 ^ size < 10 ^ 38 → size < 38
exponent-below size h =
    ⊎_elim (λ (less : size < 38). less) (λ (more : 38 ≤ size). let l = pow-le-pow_right {n = 10} (omega arith) more in absurd (omega arith)) (cases_lt size 38)

-- at most 10^38 groups are accepted
pub most_groups : (total : ℕ) (groups : Groups) → AreGroupsOf total groups → total * groups.groups_per_ticket ≤ 10 ^ 38
most_groups total groups are =
    let few : group_size total ≤ 38 = omega (arith, are.size, are.few) in
    let power = pow-le-pow_right {n = 10} (omega arith) {i = group_size total} {j = 38} few in
    omega (arith, groups_per_ticket-within total, power, ap (λ n. total * n) are.groups_per_ticket)

pub some_digits : (total : ℕ) (groups : Groups) → AreGroupsOf total groups → 1 ≤ groups.size
some_digits total groups are = omega (arith, are.size, size-some total)

-- ---- digits

pub digit_is : (byte : ℕ) → is_ascii_digit byte ≡ true → (digit_value byte ≡ byte - 48) × (48 ≤ byte) × (byte ≤ 57)
digit_is byte h = (grind (arith, nat_tests), grind (arith, nat_tests), grind (arith, nat_tests))

-- if `value` is the number of the first `i` digits, that of the first `i + 1` digits is 10 times `value`, plus digit `i`
pub next_value : (digits : List ℕ) (i value : ℕ) → i < length digits → is_ascii_digit (get_or digits i 0) ≡ true → value ≡ digits_value 10 (take i digits) → value * 10 + (get_or digits i 0 - 48) ≡ digits_value 10 (take (i + 1) digits)
next_value digits i value l digit is = omega (arith, digits_value_more 10 digits i l, (digit_is (get_or digits i 0) digit).0)

pub next_small : (value i digit : ℕ) → value < 10 ^ i → digit ≤ 9 → value * 10 + digit < 10 ^ (i + 1)
next_small value i digit small few = let e : i + 1 ≡ suc i = omega arith in rw e (omega (arith, pow-suc 10 i))

-- a power of ten with an exponent below 38 is at most 10^37
pub small-power : (i : ℕ) → i < 38 → 10 ^ i ≤ 10 ^ 37
small-power i l = pow-le-pow_right {n = 10} (omega arith) {i = i} {j = 37} (omega arith)

-- ---- the ticket that digits name

-- if a search for a byte that is no digit finds none, all bytes are digits
pub digits_alone : (digits : List ℕ) → position (λ byte. not (is_ascii_digit byte)) digits ≡ None → AreDigits digits
digits_alone digits e = record { each = λ place l. not-false (is_ascii_digit (get_or digits place 0)) (position-None (λ byte. not (is_ascii_digit byte)) digits place 0 e l) }

module _ (total : ℕ) (groups : Groups) (digits : List ℕ) (are : AreGroupsOf total groups) where
  abbrev is_accepted_at : ℕ → Bool
  is_accepted_at place = is_accepted total (group_at (group_size total) digits place)

  -- if the group at `place` is accepted, and none before it is, it names the ticket
  pub names : (place group : ℕ) → place < length digits / groups.size → group ≡ group_at groups.size digits place → group < total * groups.groups_per_ticket →
      ((before : ℕ) → before < place → is_accepted_at before ≡ false) →
      Ok (record { ticket = pos (group / groups.groups_per_ticket); used = (place + 1) * groups.size }) ≡ named_at total digits (first_accepted total digits)
  names place group l is less before =
      let here : group ≡ group_at (group_size total) digits place = is ∙ ap (λ size. group_at size digits place) are.size in
      let shares : total * groups.groups_per_ticket ≡ total * groups_per_ticket total = ap (λ n. total * n) are.groups_per_ticket in
      let accepted : is_accepted_at place ≡ true = lt-ltb (group_at (group_size total) digits place) (total * groups_per_ticket total) (omega (arith, here)) in
      let sized : length digits / groups.size ≡ length digits / group_size total = ap (λ size. length digits / size) are.size in
      let found : first_accepted total digits ≡ Some place = find_range-first is_accepted_at 0 (length digits / group_size total) place (omega arith) (omega arith) accepted (λ k l m. before k m) in
      let ticket : group / groups.groups_per_ticket ≡ group_at (group_size total) digits place / groups_per_ticket total = ap₂ (λ g n. g / n) here are.groups_per_ticket in
      let used : (place + 1) * groups.size ≡ (place + 1) * group_size total = ap (λ size. (place + 1) * size) are.size in
      ap₂ (λ (t u : ℕ). let named : Named = record { ticket = pos t; used = u } in Ok named) ticket used ∙ sym (ap (named_at total digits) found)

  -- if no group is accepted, the outcome is that more digits are needed
  pub names_nothing : (places : ℕ) → length digits / groups.size ≤ places → ((place : ℕ) → place < places → is_accepted_at place ≡ false) →
      Err (MoreDigits (length digits)) ≡ named_at total digits (first_accepted total digits)
  names_nothing places l before =
      let sized : length digits / groups.size ≡ length digits / group_size total = ap (λ size. length digits / size) are.size in
      let nothing : first_accepted total digits ≡ None = find_range-none is_accepted_at 0 (length digits / group_size total) (λ place at_least below. before place (omega arith)) in
      sym (ap (named_at total digits) nothing)

-- the ticket that an accepted group names is below the total
pub named_below : (total group : ℕ) (groups : Groups) → AreGroupsOf total groups → 1 ≤ total → group < total * groups.groups_per_ticket → group / groups.groups_per_ticket < total
named_below total group groups are some less =
    let shares : total * groups.groups_per_ticket ≡ total * groups_per_ticket total = ap (λ n. total * n) are.groups_per_ticket in
    let ticket = ticket-below total group total some (omega arith) in
    rw are.groups_per_ticket ticket
