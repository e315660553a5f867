-- What holds of the last round, and of the round before it if the last is open: who withdrew is gone in the pool of a round with a bundle,
-- and no member of a drawn panel has withdrawn, unless the member dropped out.
use Rattle.std.proofs.Common.{◌≡◌, ℕ, zero, suc, Bool, true, false, List, [], ◌∷◌, ◌++◌, length, Option, Some, None, ◌⊎◌, inl, inr, refl, sym, ap, subst}
use Rattle.std.proofs.lemmas.Bool.{and_parts, false≢true}
use Rattle.define_pools.specs.declared.Standing.TheVariants as standing
use Rattle.define_pools.specs.Lists.{includes}
use Rattle.define_pools.specs.Pool.{Pool, volunteer}
use Rattle.define_bundles.specs.BundleText.{Bundle}
use Rattle.define_offices.specs.Deciding.{is_last_open}
use Rattle.define_offices.specs.Facts.{closed_but_last, has_drop}
use Rattle.define_offices.specs.Pools.{drawn_of, has_withdrawn, numbers_of}
use Rattle.define_offices.specs.Tables.{Entry, Round, Open, Solved, Sealed, Drawn, changed_at, changed_named, named_round, round_at, taken_at, taken_named}
use Rattle.define_offices.proofs.Rounds.{round_at-push, round_at-taken}

-- who withdrew is gone in the pool
abbrev pub AreGone : List Entry → Pool → Type 0
AreGone register pool = (i : ℕ) → has_withdrawn register i ≡ true → (volunteer pool.volunteers i).standing ≡ standing.Gone

-- no member of the drawn panel has withdrawn, unless the member dropped out
abbrev pub MembersStay : List Entry → Bundle → Option ℕ → List ℕ → List (List ℕ) → Type 0
MembersStay register bundle tickets digits dropped = (i : ℕ) → includes (drawn_of bundle tickets digits).panel i ≡ true → includes (numbers_of bundle.pool dropped) i ≡ false → has_withdrawn register i ≡ false

abbrev pub KeepsSeats : List Entry → Round → Type 0
KeepsSeats register Open = Unit {0}
KeepsSeats register (Solved bundle) = AreGone register bundle.pool
KeepsSeats register (Sealed bundle tickets) = AreGone register bundle.pool
KeepsSeats register (Drawn bundle tickets digits dropped) = MembersStay register bundle tickets digits dropped

-- there is no round, or it is open
abbrev pub none_or_open : Option Round → Bool
none_or_open None = true
none_or_open (Some Open) = true
none_or_open (Some (Solved bundle)) = false
none_or_open (Some (Sealed bundle tickets)) = false
none_or_open (Some (Drawn bundle tickets digits dropped)) = false

-- `KeepsSeats` holds of each round after which there is no round or an open one
abbrev pub SeatsKept : List Entry → List Round → Type 0
SeatsKept register rounds = (q : ℕ) (round : Round) → round_at rounds q ≡ Some round → none_or_open (round_at rounds (suc q)) ≡ true → KeepsSeats register round

-- ---- a round that is begun

open_before_push : (rounds : List Round) (q : ℕ) → none_or_open (round_at (rounds ++ Open ∷ []) q) ≡ true → none_or_open (round_at rounds q) ≡ true
open_before_push [] q h = refl
open_before_push (round ∷ rounds) zero h = h
open_before_push (round ∷ rounds) (suc q) h = open_before_push rounds q h

pub pushed_seats : (register : List Entry) (rounds : List Round) → SeatsKept register rounds → SeatsKept register (rounds ++ Open ∷ [])
pushed_seats register rounds kept = λ q round at after.
    elim (round_at-push rounds Open q round at) [
      | inl old ↦ kept q round old (open_before_push rounds (suc q) after)
      | inr new ↦ subst (KeepsSeats register) (sym new) tt
    ]

-- ---- a round that is taken away

open_before_taken : (rounds : List Round) (p q : ℕ) → none_or_open (round_at (taken_at rounds p) q) ≡ true → none_or_open (round_at rounds q) ≡ true
open_before_taken [] p q h = h
open_before_taken (Open ∷ []) zero zero h = refl
open_before_taken (Open ∷ []) zero (suc q) h = refl
open_before_taken (Open ∷ next ∷ later) zero q h = h
open_before_taken (Solved bundle ∷ later) zero q h = h
open_before_taken (Sealed bundle tickets ∷ later) zero q h = h
open_before_taken (Drawn bundle tickets digits dropped ∷ later) zero q h = h
open_before_taken (first ∷ later) (suc p) zero h = h
open_before_taken (first ∷ later) (suc p) (suc q) h = open_before_taken later p q h

pub taken_seats : (register : List Entry) (rounds : List Round) (number : ℕ) → SeatsKept register rounds → SeatsKept register (taken_named rounds number)
taken_seats register rounds zero kept = kept
taken_seats register rounds (suc p) kept = λ q round at after. kept q round (round_at-taken rounds p q round at) (open_before_taken rounds p (suc q) after)

-- ---- a round that is changed

-- `round`, at the place `q`, is as it was, or it is the changed round
record WasThere (change : Round → Round) (rounds : List Round) (p q : ℕ) (round : Round) : Type 0 where
  old : Round
  there : round_at rounds q ≡ Some old
  how : (round ≡ old) ⊎ ((p ≡ q) × (round ≡ change old))

was_there : (change : Round → Round) (rounds : List Round) (p q : ℕ) (round : Round) → round_at (changed_at change rounds p) q ≡ Some round → WasThere change rounds p q round
was_there change [] p q round at = absurd (cc)
was_there change (first ∷ rounds) zero zero round at = let same : change first ≡ round = cc in record { old = first; there = refl; how = inr (refl, sym same) }
was_there change (first ∷ rounds) zero (suc q) round at = record { old = round; there = at; how = inl refl }
was_there change (first ∷ rounds) (suc p) zero round at = record { old = round; there = at; how = inl refl }
was_there change (first ∷ rounds) (suc p) (suc q) round at =
    let was = was_there change rounds p q round at in
    record { old = was.old; there = was.there; how = elim was.how [ inl same ↦ inl same | inr changed ↦ inr (ap suc changed.0, changed.1) ] }

-- `change` opens no round
abbrev pub OpensNone : (Round → Round) → Type 0
OpensNone change = (round : Round) → none_or_open (Some (change round)) ≡ true → none_or_open (Some round) ≡ true

open_before_change : (change : Round → Round) → OpensNone change → (rounds : List Round) (p q : ℕ) → none_or_open (round_at (changed_at change rounds p) q) ≡ true → none_or_open (round_at rounds q) ≡ true
open_before_change change none [] p q h = h
open_before_change change none (first ∷ rounds) zero zero h = none first h
open_before_change change none (first ∷ rounds) zero (suc q) h = h
open_before_change change none (first ∷ rounds) (suc p) zero h = h
open_before_change change none (first ∷ rounds) (suc p) (suc q) h = open_before_change change none rounds p q h

pub changed_seats : (register : List Entry) (change : Round → Round) → OpensNone change → (rounds : List Round) (number : ℕ) →
    ((old : Round) → named_round rounds number ≡ Some old → KeepsSeats register old → KeepsSeats register (change old)) → SeatsKept register rounds → SeatsKept register (changed_named change rounds number)
changed_seats register change none rounds zero right kept = kept
changed_seats register change none rounds (suc p) right kept = λ q round at after.
    let was = was_there change rounds p q round at in
    let had = kept q was.old was.there (open_before_change change none rounds p (suc q) after) in
    elim was.how [
      | inl same ↦ subst (KeepsSeats register) (sym same) had
      | inr changed ↦ subst (KeepsSeats register) (sym changed.1) (right was.old (subst (λ k. round_at rounds k ≡ Some was.old) (sym changed.0) was.there) had)
    ]

-- ---- the last round is open

-- the round `q` is the last but one, and the last is open
pub record IsBeforeOpen (rounds : List Round) (q : ℕ) : Type 0 where
  pub next : round_at rounds (suc q) ≡ Some Open
  pub last : length rounds ≡ suc (suc q)

pub last_is_open : (rounds : List Round) (q : ℕ) (round : Round) → is_last_open rounds ≡ true → closed_but_last rounds ≡ true → round_at rounds q ≡ Some round → none_or_open (round_at rounds (suc q)) ≡ true →
    (round ≡ Open) ⊎ IsBeforeOpen rounds q
last_is_open [] q round last closed at after = absurd (false≢true last)
last_is_open (Open ∷ []) zero round last closed at after = inl (cc)
last_is_open (Solved bundle ∷ []) zero round last closed at after = absurd (false≢true last)
last_is_open (Sealed bundle tickets ∷ []) zero round last closed at after = absurd (false≢true last)
last_is_open (Drawn bundle tickets digits dropped ∷ []) zero round last closed at after = absurd (false≢true last)
last_is_open (first ∷ []) (suc q) round last closed at after = absurd (cc)
last_is_open (first ∷ Open ∷ []) zero round last closed at after = inr (record { next = refl; last = refl })
last_is_open (first ∷ Open ∷ next ∷ later) zero round last closed at after =
    absurd (false≢true (and_parts (has_drop Open) (closed_but_last (next ∷ later)) (and_parts (has_drop first) (closed_but_last (Open ∷ next ∷ later)) closed).1).0)
last_is_open (first ∷ Solved bundle ∷ later) zero round last closed at after = absurd (false≢true after)
last_is_open (first ∷ Sealed bundle tickets ∷ later) zero round last closed at after = absurd (false≢true after)
last_is_open (first ∷ Drawn bundle tickets digits dropped ∷ later) zero round last closed at after = absurd (false≢true after)
last_is_open (first ∷ next ∷ later) (suc q) round last closed at after =
    elim (last_is_open (next ∷ later) q round last (and_parts (has_drop first) (closed_but_last (next ∷ later)) closed).1 at after) [
      | inl is ↦ inl is
      | inr before ↦ inr (record { next = before.next; last = ap suc before.last })
    ]
