-- Lists of rounds after one round is changed, or one is added.
use Rattle.std.proofs.Common.{◌≡◌, ℕ, zero, suc, true, List, [], ◌∷◌, ◌++◌, length, Option, Some, None, ◌⊎◌, inl, inr, refl, ap, ◌∙◌, arith}
use Rattle.std.proofs.lemmas.Bool.{and_from, and_parts, false≢true}
use Rattle.define_bundles.specs.BundleText.{Bundle}
use Rattle.define_offices.specs.Tables.{Round, Open, Solved, Sealed, Drawn, changed_at, round_at, taken_at}
use Rattle.define_offices.specs.Facts.{closed_but_last, has_drop}

-- `round` is what `change` makes of the round at `place`
pub record IsChanged (change : Round → Round) (rounds : List Round) (place : ℕ) (round : Round) : Type 0 where
  pub old : Round
  pub there : round_at rounds place ≡ Some old
  pub is : round ≡ change old

pub round_at-changed : (change : Round → Round) (rounds : List Round) (p q : ℕ) (round : Round) → round_at (changed_at change rounds p) q ≡ Some round →
    (round_at rounds q ≡ Some round) ⊎ IsChanged change rounds p round
round_at-changed change [] p q round h = inl h
round_at-changed change (first ∷ rounds) zero zero round h = inr (record { old = first; there = refl; is = cc })
round_at-changed change (first ∷ rounds) zero (suc q) round h = inl h
round_at-changed change (first ∷ rounds) (suc p) zero round h = inl h
round_at-changed change (first ∷ rounds) (suc p) (suc q) round h =
    elim (round_at-changed change rounds p q round h) [ inl same ↦ inl same | inr changed ↦ inr (record { old = changed.old; there = changed.there; is = changed.is }) ]

-- if `change` leaves a dropout in each round that has one, `closed_but_last` still holds after one round is changed
pub closed-changed : (change : Round → Round) → ((round : Round) → has_drop round ≡ true → has_drop (change round) ≡ true) → (rounds : List Round) (p : ℕ) →
    closed_but_last rounds ≡ true → closed_but_last (changed_at change rounds p) ≡ true
closed-changed change keeps [] p h = h
closed-changed change keeps (round ∷ []) zero h = refl
closed-changed change keeps (round ∷ []) (suc p) h = refl
closed-changed change keeps (round ∷ next ∷ later) zero h =
    let parts = and_parts (has_drop round) (closed_but_last (next ∷ later)) h in
    and_from (has_drop (change round)) (closed_but_last (next ∷ later)) (keeps round parts.0) parts.1
closed-changed change keeps (round ∷ next ∷ later) (suc zero) h =
    let parts = and_parts (has_drop round) (closed_but_last (next ∷ later)) h in
    and_from (has_drop round) (closed_but_last (change next ∷ later)) parts.0 (closed-changed change keeps (next ∷ later) zero parts.1)
closed-changed change keeps (round ∷ next ∷ later) (suc (suc p)) h =
    let parts = and_parts (has_drop round) (closed_but_last (next ∷ later)) h in
    and_from (has_drop round) (closed_but_last (next ∷ changed_at change later p)) parts.0 (closed-changed change keeps (next ∷ later) (suc p) parts.1)

-- after one round is added, a round is an earlier one or the added one
pub round_at-push : (rounds : List Round) (last : Round) (q : ℕ) (round : Round) → round_at (rounds ++ last ∷ []) q ≡ Some round →
    (round_at rounds q ≡ Some round) ⊎ (round ≡ last)
round_at-push [] last zero round h = inr (cc)
round_at-push [] last (suc q) round h = inl h
round_at-push (first ∷ rounds) last zero round h = inl h
round_at-push (first ∷ rounds) last (suc q) round h = round_at-push rounds last q round h

-- if the last round has a dropout, `closed_but_last` still holds after a round is added at the end
pub closed-push : (rounds : List Round) (place : ℕ) (round last : Round) → closed_but_last rounds ≡ true → round_at rounds place ≡ Some round → suc place ≡ length rounds → has_drop round ≡ true →
    closed_but_last (rounds ++ last ∷ []) ≡ true
closed-push [] place round last h at end drop = absurd (cc)
closed-push (first ∷ []) zero round last h at end drop = let same : first ≡ round = cc in and_from (has_drop first) true (ap has_drop same ∙ drop) refl
closed-push (first ∷ []) (suc place) round last h at end drop = absurd (cc)
closed-push (first ∷ next ∷ later) zero round last h at end drop = absurd (omega arith)
closed-push (first ∷ next ∷ later) (suc place) round last h at end drop =
    let parts = and_parts (has_drop first) (closed_but_last (next ∷ later)) h in
    and_from (has_drop first) (closed_but_last ((next ∷ later) ++ last ∷ [])) parts.0 (closed-push (next ∷ later) place round last parts.1 at (omega arith) drop)

-- after the last round is changed, `closed_but_last` still holds
pub closed-changed-last : (change : Round → Round) (rounds : List Round) (place : ℕ) → suc place ≡ length rounds → closed_but_last rounds ≡ true → closed_but_last (changed_at change rounds place) ≡ true
closed-changed-last change [] place end h = h
closed-changed-last change (round ∷ []) zero end h = refl
closed-changed-last change (round ∷ []) (suc place) end h = refl
closed-changed-last change (round ∷ next ∷ later) zero end h = absurd (omega arith)
closed-changed-last change (round ∷ next ∷ later) (suc zero) end h =
    let parts = and_parts (has_drop round) (closed_but_last (next ∷ later)) h in
    and_from (has_drop round) (closed_but_last (change next ∷ later)) parts.0 (closed-changed-last change (next ∷ later) zero (omega arith) parts.1)
closed-changed-last change (round ∷ next ∷ later) (suc (suc place)) end h =
    let parts = and_parts (has_drop round) (closed_but_last (next ∷ later)) h in
    and_from (has_drop round) (closed_but_last (next ∷ changed_at change later place)) parts.0 (closed-changed-last change (next ∷ later) (suc place) (omega arith) parts.1)

-- ---- after a round is taken away

-- a round that is still there was there before
pub round_at-taken : (rounds : List Round) (p q : ℕ) (round : Round) → round_at (taken_at rounds p) q ≡ Some round → round_at rounds q ≡ Some round
round_at-taken [] p q round h = h
round_at-taken (Open ∷ []) zero q round h = absurd (cc)
round_at-taken (Open ∷ next ∷ later) zero q round h = h
round_at-taken (Solved bundle ∷ later) zero q round h = h
round_at-taken (Sealed bundle tickets ∷ later) zero q round h = h
round_at-taken (Drawn bundle tickets digits dropped ∷ later) zero q round h = h
round_at-taken (first ∷ later) (suc p) zero round h = h
round_at-taken (first ∷ later) (suc p) (suc q) round h = round_at-taken later p q round h

-- unless the first round is taken away, `closed_but_last` still holds
pub closed-taken : (rounds : List Round) (place : ℕ) → closed_but_last rounds ≡ true → closed_but_last (taken_at rounds (suc place)) ≡ true
closed-taken [] place h = h
closed-taken (round ∷ []) place h = refl
closed-taken (round ∷ Open ∷ []) zero h = refl
closed-taken (round ∷ Open ∷ next ∷ later) zero h = h
closed-taken (round ∷ Solved bundle ∷ later) zero h = h
closed-taken (round ∷ Sealed bundle tickets ∷ later) zero h = h
closed-taken (round ∷ Drawn bundle tickets digits dropped ∷ later) zero h = h
closed-taken (round ∷ next ∷ later) (suc place) h =
    let parts = and_parts (has_drop round) (closed_but_last (next ∷ later)) h in
    and_from (has_drop round) (closed_but_last (next ∷ taken_at later place)) parts.0 (closed-taken (next ∷ later) place parts.1)

-- an open last round that is taken away leaves one round less
pub length-taken : (rounds : List Round) (place : ℕ) → round_at rounds place ≡ Some Open → suc place ≡ length rounds → length (taken_at rounds place) ≡ place
length-taken [] place at end = absurd (cc)
length-taken (Open ∷ []) zero at end = refl
length-taken (Open ∷ next ∷ later) zero at end = absurd (omega arith)
length-taken (Solved bundle ∷ later) zero at end = absurd (cc)
length-taken (Sealed bundle tickets ∷ later) zero at end = absurd (cc)
length-taken (Drawn bundle tickets digits dropped ∷ later) zero at end = absurd (cc)
length-taken (first ∷ later) (suc place) at end = ap suc (length-taken later place at (omega arith))

-- there is no round at the end
pub none-after : (rounds : List Round) → round_at rounds (length rounds) ≡ None
none-after [] = refl
none-after (round ∷ rounds) = none-after rounds

-- `round` is drawn
pub record IsDrawn (round : Round) : Type 0 where
  pub bundle : Bundle
  pub tickets : Option ℕ
  pub digits : List ℕ
  pub dropped : List (List ℕ)
  pub is : round ≡ Drawn bundle tickets digits dropped

pub drop_means_drawn : (round : Round) → has_drop round ≡ true → IsDrawn round
drop_means_drawn Open h = absurd (false≢true h)
drop_means_drawn (Solved bundle) h = absurd (false≢true h)
drop_means_drawn (Sealed bundle tickets) h = absurd (false≢true h)
drop_means_drawn (Drawn bundle tickets digits dropped) h = record { bundle = bundle; tickets = tickets; digits = digits; dropped = dropped; is = refl }

pub record DrawnBefore (rounds : List Round) (place : ℕ) : Type 0 where
  pub bundle : Bundle
  pub tickets : Option ℕ
  pub digits : List ℕ
  pub dropped : List (List ℕ)
  pub there : round_at rounds place ≡ Some (Drawn bundle tickets digits dropped)

pub drawn_before : (rounds : List Round) (place : ℕ) (round : Round) → closed_but_last rounds ≡ true → round_at rounds (suc place) ≡ Some round → DrawnBefore rounds place
drawn_before [] place round h at = absurd (cc)
drawn_before (first ∷ []) place round h at = absurd (cc)
drawn_before (first ∷ next ∷ later) zero round h at =
    let drawn = drop_means_drawn first (and_parts (has_drop first) (closed_but_last (next ∷ later)) h).0 in
    record { bundle = drawn.bundle; tickets = drawn.tickets; digits = drawn.digits; dropped = drawn.dropped; there = ap Some drawn.is }
drawn_before (first ∷ next ∷ later) (suc place) round h at =
    let before = drawn_before (next ∷ later) place round (and_parts (has_drop first) (closed_but_last (next ∷ later)) h).1 at in
    record { bundle = before.bundle; tickets = before.tickets; digits = before.digits; dropped = before.dropped; there = before.there }
