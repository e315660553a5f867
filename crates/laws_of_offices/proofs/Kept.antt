-- Bundles, the tickets of seals and draws stay, and a bundle's pool is the pool of its round.
use Rattle.std.proofs.Common.{◌≡◌, ℕ, zero, suc, true, List, Option, Some, None, is_some, Ok, refl, ap, ◌∙◌}
use Rattle.std.proofs.lemmas.Bool.{false≢true}
use Rattle.define_pools.specs.Pool.{Category}
use Rattle.define_bundles.specs.BundleText.{Bundle}
use Rattle.define_offices.specs.Tables.{Charter, Round, Open, Solved, Sealed, Drawn, Tables, bundle_of, round_at, tickets_of}
use Rattle.define_offices.specs.Commands.{Command}
use Rattle.define_offices.specs.Facts.{IsTables, KeepsBundle, KeepsRound}
use Rattle.define_offices.specs.Pools.{pool_of, round_pool}
use Rattle.define_offices.specs.Steps.{LeadThrough}
use Rattle.define_offices.proofs.Later.{Grows, StaysSolved, IsSealed, IsDrawn, StaysSealed, DrawnFrom, OtherDrops, IsPastOpen, RoundsGrow, through_extends}
use Rattle.laws_of_offices.specs.Bounds.{HasBundle, IsDrawnBy, IsSealedWith, is_sealed}

-- ---- bundles

has_is_past : (round : Round) (bundle : Bundle) → bundle_of round ≡ Some bundle → IsPastOpen round
has_is_past Open bundle h = absurd (cc)
has_is_past (Solved other) bundle h = tt
has_is_past (Sealed other tickets) bundle h = tt
has_is_past (Drawn other tickets digits dropped) bundle h = tt

pub same_bundle : {round next : Round} → Grows round next → bundle_of next ≡ bundle_of round
same_bundle (StaysSolved bundle) = refl
same_bundle (IsSealed bundle tickets) = refl
same_bundle (IsDrawn bundle tickets digits dropped) = refl
same_bundle (StaysSealed bundle tickets) = refl
same_bundle (DrawnFrom bundle tickets digits dropped) = refl
same_bundle (OtherDrops bundle tickets digits dropped other) = refl

pub bundle_grown : (before after : Tables) (number : ℕ) (bundle : Bundle) → RoundsGrow before.rounds after.rounds → HasBundle before number bundle → HasBundle after number bundle
bundle_grown before after zero bundle grow has = absurd (let at = has.there in cc)
bundle_grown before after (suc place) bundle grow has =
    let grown = grow place has.round has.there (has_is_past has.round bundle has.has) in
    record { round = grown.next; there = grown.there; has = same_bundle grown.grows ∙ has.has }

pub bundles_stay : (before : Tables) (commands : List Command) (after : Tables) (number : ℕ) (bundle : Bundle) → LeadThrough before commands after → HasBundle before number bundle → HasBundle after number bundle
bundles_stay before commands after number bundle leads has = bundle_grown before after number bundle (through_extends before commands after leads).rounds has

-- ---- the pool of a round that has a bundle

-- there are a charter and rules
record IsReady (tables : Tables) : Type 0 where
  charter : Charter
  categories : List Category
  has_charter : tables.charter ≡ Some charter
  has_rules : tables.rules ≡ Some categories

some_of : {A : Type 0} (found : Option A) → is_some found ≡ true → (a : A) × (found ≡ Some a)
some_of None h = absurd (false≢true h)
some_of (Some a) h = (a, refl)

is_ready : (tables : Tables) (bundle : Bundle) → KeepsBundle tables bundle → IsReady tables
is_ready tables bundle kept =
    let one = some_of tables.charter kept.charter in
    let two = some_of tables.rules kept.rules in
    record { charter = one.0; categories = two.0; has_charter = one.1; has_rules = two.1 }

pub pool_at : (tables : Tables) (place : ℕ) (charter : Charter) (categories : List Category) (round : Round) → tables.charter ≡ Some charter → tables.rules ≡ Some categories → round_at tables.rounds place ≡ Some round →
    pool_of tables (suc place) ≡ Ok (round_pool charter categories tables place round)
pool_at tables place charter categories round c r at = rw (at, c, r) refl

by_round : (tables : Tables) (place : ℕ) (bundle : Bundle) (round : Round) → KeepsRound tables round → round_at tables.rounds place ≡ Some round → bundle_of round ≡ Some bundle → pool_of tables (suc place) ≡ Ok bundle.pool
by_round tables place bundle Open kept at has = absurd (cc)
by_round tables place bundle (Solved other) kept at has =
    let ready = is_ready tables other kept in
    let same : other ≡ bundle = cc in
    pool_at tables place ready.charter ready.categories (Solved other) ready.has_charter ready.has_rules at ∙ ap (λ (b : Bundle). Ok b.pool) same
by_round tables place bundle (Sealed other tickets) kept at has =
    let ready = is_ready tables other kept.0 in
    let same : other ≡ bundle = cc in
    pool_at tables place ready.charter ready.categories (Sealed other tickets) ready.has_charter ready.has_rules at ∙ ap (λ (b : Bundle). Ok b.pool) same
by_round tables place bundle (Drawn other tickets digits dropped) kept at has =
    let ready = is_ready tables other kept.0 in
    let same : other ≡ bundle = cc in
    pool_at tables place ready.charter ready.categories (Drawn other tickets digits dropped) ready.has_charter ready.has_rules at ∙ ap (λ (b : Bundle). Ok b.pool) same

pub bundles_have_pools : (tables : Tables) (number : ℕ) (bundle : Bundle) → IsTables tables → HasBundle tables number bundle → pool_of tables number ≡ Ok bundle.pool
bundles_have_pools tables zero bundle keeps has = absurd (let at = has.there in cc)
bundles_have_pools tables (suc place) bundle keeps has = by_round tables place bundle has.round (keeps.rounds place has.round has.there) has.there has.has

-- ---- tickets

sealed_is_past : (round : Round) → is_sealed round ≡ true → IsPastOpen round
sealed_is_past Open h = absurd (false≢true h)
sealed_is_past (Solved bundle) h = tt
sealed_is_past (Sealed bundle tickets) h = tt
sealed_is_past (Drawn bundle tickets digits dropped) h = tt

-- `next` is sealed as `round` is
record IsSealedAs (round next : Round) : Type 0 where
  sealed : is_sealed next ≡ true
  same : tickets_of next ≡ tickets_of round

sealed_as : {round next : Round} → Grows round next → is_sealed round ≡ true → IsSealedAs round next
sealed_as (StaysSolved bundle) h = absurd (false≢true h)
sealed_as (IsSealed bundle tickets) h = absurd (false≢true h)
sealed_as (IsDrawn bundle tickets digits dropped) h = absurd (false≢true h)
sealed_as (StaysSealed bundle tickets) h = record { sealed = refl; same = refl }
sealed_as (DrawnFrom bundle tickets digits dropped) h = record { sealed = refl; same = refl }
sealed_as (OtherDrops bundle tickets digits dropped other) h = record { sealed = refl; same = refl }

pub tickets_stay : (before : Tables) (commands : List Command) (after : Tables) (number : ℕ) (tickets : Option ℕ) → LeadThrough before commands after → IsSealedWith before number tickets → IsSealedWith after number tickets
tickets_stay before commands after zero tickets leads has = absurd (let at = has.there in cc)
tickets_stay before commands after (suc place) tickets leads has =
    let grown = (through_extends before commands after leads).rounds place has.round has.there (sealed_is_past has.round has.sealed) in
    let same = sealed_as grown.grows has.sealed in
    record { round = grown.next; there = grown.there; sealed = same.sealed; is = same.same ∙ has.is }

-- ---- draws

drawn_by_same : {bundle : Bundle} {tickets : Option ℕ} {digits : List ℕ} {dropped : List (List ℕ)} {next : Round} → Grows (Drawn bundle tickets digits dropped) next → (after : Tables) (place : ℕ) →
    round_at after.rounds place ≡ Some next → IsDrawnBy after (suc place) bundle tickets digits
drawn_by_same (OtherDrops bundle tickets digits dropped other) after place at = record { dropped = other; there = at }

pub draws_stay : (before : Tables) (commands : List Command) (after : Tables) (number : ℕ) (bundle : Bundle) (tickets : Option ℕ) (digits : List ℕ) → LeadThrough before commands after →
    IsDrawnBy before number bundle tickets digits → IsDrawnBy after number bundle tickets digits
draws_stay before commands after zero bundle tickets digits leads drawn = absurd (let at = drawn.there in cc)
draws_stay before commands after (suc place) bundle tickets digits leads drawn =
    let grown = (through_extends before commands after leads).rounds place (Drawn bundle tickets digits drawn.dropped) drawn.there tt in
    drawn_by_same grown.grows after place grown.there
