-- Each change that a command may make keeps the seats: `SeatsKept` still holds after it.
use Rattle.std.proofs.Common.{◌≡◌, ℕ, zero, suc, Bool, true, false, not, ◌&&◌, List, [], ◌∷◌, ◌++◌, length, Option, Some, inl, inr, ⊎_elim, refl, sym, ap, ◌∙◌, subst}
use Rattle.std.proofs.lemmas.Bool.{and_parts, false≢true, not-true, or_left}
use Rattle.std.proofs.lemmas.List.Folds.{list_any-append}
use Rattle.std.specs.Str.{bytes_eq}
use Rattle.define_pools.specs.declared.Standing.TheVariants as standing
use Rattle.define_pools.specs.Lists.{includes, includes_list}
use Rattle.define_pools.specs.Pool.{everybody, volunteer}
use Rattle.define_bundles.specs.BundleText.{Bundle}
use Rattle.define_offices.specs.Commands.{Change, CharterSet, RulesSet, Added, SolvedWith, SealTold, DrawnWith, DroppedOut, Begun, Withdrawn, BoundsSet, TakenBack, Reopened}
use Rattle.define_offices.specs.Deciding.{is_last_open, is_seated_in, is_withdrawn, with_id}
use Rattle.define_offices.specs.Facts.{AreCertified, IsTables}
use Rattle.define_offices.specs.Pools.{drawn_of, has_withdrawn, numbers_of, pool_of}
use Rattle.define_offices.specs.Steps.{apply, drawn_by, dropped_out, seal_told, solved_with, taken_back, withdrawn_at, without_id}
use Rattle.define_offices.specs.Tables.{Entry, Round, Open, Solved, Sealed, Drawn, Tables, is_enrolling, named_round, round_at}
use Rattle.define_offices.proofs.Changes.{enrolling_rounds}
use Rattle.define_offices.proofs.Rounds.{drawn_before}
use Rattle.define_offices.proofs.Steps.{IsOpenRound}
use Rattle.laws_of_offices.proofs.DrawnPanels.{drawn_panel_has}
use Rattle.laws_of_offices.proofs.Members.{filtered_passes, filtered_too, id_has_not_withdrawn, taken_out, withdrew_before}
use Rattle.laws_of_offices.proofs.SeatRounds.{AreGone, KeepsSeats, MembersStay, OpensNone, SeatsKept, changed_seats, last_is_open, pushed_seats, taken_seats}
use Rattle.laws_of_offices.proofs.Standings.{member_seated, open_gone, own_id}

-- what holds of the tables if a command makes this change
abbrev pub MayChange : Tables → Change → Type 0
MayChange tables (CharterSet charter) = Unit {0}
MayChange tables (RulesSet rules) = Unit {0}
MayChange tables (Added entries) = is_enrolling tables.rounds ≡ true
MayChange tables (SolvedWith number bundle) = IsOpenRound tables number bundle.pool
MayChange tables (SealTold number tickets) = Unit {0}
MayChange tables (DrawnWith number digits) = Unit {0}
MayChange tables (DroppedOut number id) = Unit {0}
MayChange tables Begun = Unit {0}
MayChange tables (Withdrawn place) = (is_last_open tables.rounds && not (is_seated_in (pool_of tables (length tables.rounds)) place)) ≡ true
MayChange tables (BoundsSet bounds) = Unit {0}
MayChange tables (TakenBack number id) = is_withdrawn (with_id tables.register id) ≡ false
MayChange tables (Reopened number) = Unit {0}

-- ---- no change opens a round

solving_opens_none : (bundle : Bundle) → OpensNone (solved_with bundle)
solving_opens_none bundle Open h = refl
solving_opens_none bundle (Solved other) h = h
solving_opens_none bundle (Sealed other tickets) h = h
solving_opens_none bundle (Drawn other tickets digits dropped) h = h

sealing_opens_none : (given : Option ℕ) → OpensNone (seal_told given)
sealing_opens_none given Open h = h
sealing_opens_none given (Solved bundle) h = h
sealing_opens_none given (Sealed bundle tickets) h = h
sealing_opens_none given (Drawn bundle tickets digits dropped) h = h

drawing_opens_none : (thrown : List ℕ) → OpensNone (drawn_by thrown)
drawing_opens_none thrown Open h = h
drawing_opens_none thrown (Solved bundle) h = h
drawing_opens_none thrown (Sealed bundle tickets) h = h
drawing_opens_none thrown (Drawn bundle tickets digits dropped) h = h

dropping_opens_none : (id : List ℕ) → OpensNone (dropped_out id)
dropping_opens_none id Open h = h
dropping_opens_none id (Solved bundle) h = h
dropping_opens_none id (Sealed bundle tickets) h = h
dropping_opens_none id (Drawn bundle tickets digits dropped) h = h

taking_opens_none : (id : List ℕ) → OpensNone (taken_back id)
taking_opens_none id Open h = h
taking_opens_none id (Solved bundle) h = h
taking_opens_none id (Sealed bundle tickets) h = h
taking_opens_none id (Drawn bundle tickets digits dropped) h = h

-- ---- who dropped out

module _ (bundle : Bundle) where
  -- the ids `dropped` have the id of volunteer `i`
  abbrev is_in : List (List ℕ) → ℕ → Bool
  is_in dropped i = includes_list dropped (volunteer bundle.pool.volunteers i).id

  -- if an id isn't in a list, no volunteer with this id is among those whom the list names
  pub not_named : (dropped : List (List ℕ)) (i : ℕ) → is_in dropped i ≡ false → includes (numbers_of bundle.pool dropped) i ≡ false
  not_named dropped i out = by (includes (numbers_of bundle.pool dropped) i) refl
    where
      by : (named : Bool) → includes (numbers_of bundle.pool dropped) i ≡ named → named ≡ false
      by true h = absurd (false≢true (sym out ∙ filtered_passes (is_in dropped) (everybody bundle.pool) i h))
      by false h = refl

  -- who isn't among those whom a longer list names isn't among those whom the list names
  named_by_fewer : (dropped : List (List ℕ)) (id : List ℕ) (i : ℕ) → includes (numbers_of bundle.pool (dropped ++ id ∷ [])) i ≡ false → includes (numbers_of bundle.pool dropped) i ≡ false
  named_by_fewer dropped id i out = by (includes (numbers_of bundle.pool dropped) i) refl
    where
      by : (named : Bool) → includes (numbers_of bundle.pool dropped) i ≡ named → named ≡ false
      by true h =
          let own = (volunteer bundle.pool.volunteers i).id in
          let more : is_in (dropped ++ id ∷ []) i ≡ true =
          list_any-append (bytes_eq own) dropped (id ∷ []) ∙ or_left (includes_list dropped own) (includes_list (id ∷ []) own) (filtered_passes (is_in dropped) (everybody bundle.pool) i h) in
          absurd (false≢true (sym out ∙ filtered_too (is_in dropped) (is_in (dropped ++ id ∷ [])) (everybody bundle.pool) i h more))
      by false h = refl

  -- if a list names a volunteer, and no longer does so once `id` is taken out, the volunteer has this id
  named_until : (dropped : List (List ℕ)) (id : List ℕ) (i : ℕ) → includes (numbers_of bundle.pool dropped) i ≡ true → includes (numbers_of bundle.pool (without_id id dropped)) i ≡ false →
      (volunteer bundle.pool.volunteers i).id ≡ id
  named_until dropped id i named out = taken_out id (volunteer bundle.pool.volunteers i).id dropped (filtered_passes (is_in dropped) (everybody bundle.pool) i named) (by (is_in (without_id id dropped) i) refl)
    where
      by : (still : Bool) → is_in (without_id id dropped) i ≡ still → still ≡ false
      by true h = absurd (false≢true (sym out ∙ filtered_too (is_in dropped) (is_in (without_id id dropped)) (everybody bundle.pool) i named h))
      by false h = refl

-- ---- a round that is changed

sealing_keeps : (register : List Entry) (given : Option ℕ) (old : Round) → KeepsSeats register old → KeepsSeats register (seal_told given old)
sealing_keeps register given Open kept = kept
sealing_keeps register given (Solved bundle) kept = kept
sealing_keeps register given (Sealed bundle tickets) kept = kept
sealing_keeps register given (Drawn bundle tickets digits dropped) kept = kept

dropping_keeps : (register : List Entry) (id : List ℕ) (old : Round) → KeepsSeats register old → KeepsSeats register (dropped_out id old)
dropping_keeps register id Open kept = kept
dropping_keeps register id (Solved bundle) kept = kept
dropping_keeps register id (Sealed bundle tickets) kept = kept
dropping_keeps register id (Drawn bundle tickets digits dropped) kept = λ i member out. kept i member (named_by_fewer bundle dropped id i out)

solving_keeps : (register : List Entry) (bundle : Bundle) → AreGone register bundle.pool → (old : Round) → KeepsSeats register old → KeepsSeats register (solved_with bundle old)
solving_keeps register bundle gone Open kept = gone
solving_keeps register bundle gone (Solved other) kept = kept
solving_keeps register bundle gone (Sealed other tickets) kept = kept
solving_keeps register bundle gone (Drawn other tickets digits dropped) kept = kept

-- if who withdrew is gone in the pool, and nobody on the panel is gone, nobody on the panel has withdrawn
nobody_withdrew : (register : List Entry) (bundle : Bundle) (i : ℕ) → AreGone register bundle.pool → ((volunteer bundle.pool.volunteers i).standing ≡ standing.Gone → ⊥) → has_withdrawn register i ≡ false
nobody_withdrew register bundle i gone here = by (has_withdrawn register i) refl
  where
    by : (withdrew : Bool) → has_withdrawn register i ≡ withdrew → withdrew ≡ false
    by true h = absurd (here (gone i h))
    by false h = refl

module _ (tables : Tables) (keeps : IsTables tables) (certified : AreCertified tables) where
  drawing_keeps : (thrown : List ℕ) (number : ℕ) (old : Round) → named_round tables.rounds number ≡ Some old → KeepsSeats tables.register old → KeepsSeats tables.register (drawn_by thrown old)
  drawing_keeps thrown number Open at kept = kept
  drawing_keeps thrown number (Solved bundle) at kept = kept
  drawing_keeps thrown zero (Sealed bundle tickets) at kept = absurd (cc)
  drawing_keeps thrown (suc place) (Sealed bundle tickets) at kept = λ i member out.
      nobody_withdrew tables.register bundle i kept (drawn_panel_has bundle tickets thrown i (certified place (Sealed bundle tickets) bundle at refl) member)
  drawing_keeps thrown number (Drawn bundle tickets digits dropped) at kept = kept

  taken_back_stay : (id : List ℕ) (place : ℕ) (bundle : Bundle) (tickets : Option ℕ) (digits : List ℕ) (dropped : List (List ℕ)) → is_withdrawn (with_id tables.register id) ≡ false →
      round_at tables.rounds place ≡ Some (Drawn bundle tickets digits dropped) → MembersStay tables.register bundle tickets digits dropped → MembersStay tables.register bundle tickets digits (without_id id dropped)
  taken_back_stay id place bundle tickets digits dropped none at stay = λ i member out. by i member out (includes (numbers_of bundle.pool dropped) i) refl
    where
      by : (i : ℕ) → includes (drawn_of bundle tickets digits).panel i ≡ true → includes (numbers_of bundle.pool (without_id id dropped)) i ≡ false → (named : Bool) →
          includes (numbers_of bundle.pool dropped) i ≡ named → has_withdrawn tables.register i ≡ false
      by i member out true named =
          let kept = (keeps.rounds place (Drawn bundle tickets digits dropped) at).0 in
          id_has_not_withdrawn tables.register id i keeps.different_ids none (own_id bundle.pool.volunteers tables.register i kept.same_ids ∙ named_until bundle dropped id i named out)
      by i member out false named = stay i member named

  taking_keeps : (id : List ℕ) → is_withdrawn (with_id tables.register id) ≡ false → (number : ℕ) (old : Round) → named_round tables.rounds number ≡ Some old → KeepsSeats tables.register old →
      KeepsSeats tables.register (taken_back id old)
  taking_keeps id none number Open at kept = kept
  taking_keeps id none number (Solved bundle) at kept = kept
  taking_keeps id none number (Sealed bundle tickets) at kept = kept
  taking_keeps id none zero (Drawn bundle tickets digits dropped) at kept = absurd (cc)
  taking_keeps id none (suc place) (Drawn bundle tickets digits dropped) at kept = taken_back_stay id place bundle tickets digits dropped none at kept

  -- ---- a withdrawal

  -- no member of the drawn panel before an open round has withdrawn after the withdrawal of a row that isn't seated
  still_stay : (place q : ℕ) (bundle : Bundle) (tickets : Option ℕ) (digits : List ℕ) (dropped : List (List ℕ)) → round_at tables.rounds q ≡ Some (Drawn bundle tickets digits dropped) →
      round_at tables.rounds (suc q) ≡ Some Open → is_seated_in (pool_of tables (suc (suc q))) place ≡ false → MembersStay tables.register bundle tickets digits dropped →
      MembersStay (withdrawn_at tables.register place) bundle tickets digits dropped
  still_stay place q bundle tickets digits dropped at opened free stay = λ i member out. by i member out (has_withdrawn (withdrawn_at tables.register place) i) refl
    where
      by : (i : ℕ) → includes (drawn_of bundle tickets digits).panel i ≡ true → includes (numbers_of bundle.pool dropped) i ≡ false → (withdrew : Bool) →
          has_withdrawn (withdrawn_at tables.register place) i ≡ withdrew → withdrew ≡ false
      by i member out false h = refl
      by i member out true h =
          ⊎_elim (λ (before : has_withdrawn tables.register i ≡ true). absurd (false≢true (sym (stay i member out) ∙ before)))
          (λ (same : i ≡ place).
          let here = drawn_panel_has bundle tickets digits i (certified q (Drawn bundle tickets digits dropped) bundle at refl) member in
          let seated = member_seated tables keeps q i bundle tickets digits dropped at opened member out here in
          absurd (false≢true (sym free ∙ (ap (is_seated_in (pool_of tables (suc (suc q)))) (sym same) ∙ seated))))
          (withdrew_before tables.register place i h)

  -- a round with an open one after it is drawn
  drawn_if_open_follows : (place q : ℕ) (round : Round) → round_at tables.rounds q ≡ Some round → round_at tables.rounds (suc q) ≡ Some Open →
      is_seated_in (pool_of tables (suc (suc q))) place ≡ false → KeepsSeats tables.register round → KeepsSeats (withdrawn_at tables.register place) round
  drawn_if_open_follows place q Open at opened free kept = tt
  drawn_if_open_follows place q (Solved bundle) at opened free kept = absurd (let drawn = drawn_before tables.rounds q Open keeps.closed opened in let there = drawn.there in cc)
  drawn_if_open_follows place q (Sealed bundle tickets) at opened free kept = absurd (let drawn = drawn_before tables.rounds q Open keeps.closed opened in let there = drawn.there in cc)
  drawn_if_open_follows place q (Drawn bundle tickets digits dropped) at opened free kept = still_stay place q bundle tickets digits dropped at opened free kept

  withdrawing_keeps : (place : ℕ) → is_last_open tables.rounds ≡ true → is_seated_in (pool_of tables (length tables.rounds)) place ≡ false → SeatsKept tables.register tables.rounds →
      SeatsKept (withdrawn_at tables.register place) tables.rounds
  withdrawing_keeps place last free kept = λ q round at after.
      elim (last_is_open tables.rounds q round last keeps.closed at after) [
        | inl is ↦ subst (KeepsSeats (withdrawn_at tables.register place)) (sym is) tt
        | inr before ↦ drawn_if_open_follows place q round at before.next (subst (λ n. is_seated_in (pool_of tables n) place ≡ false) before.last free) (kept q round at after)
      ]

  -- ---- rows that are added

  -- while rows are added, the one round is open
  enrolled_seats : (register : List Entry) → is_enrolling tables.rounds ≡ true → SeatsKept register tables.rounds
  enrolled_seats register enrolling = subst (SeatsKept register) (sym (enrolling_rounds tables.rounds enrolling)) one_open
    where
      one_open : SeatsKept register (Open ∷ [])
      one_open zero round at after = let same : Open ≡ round = cc in subst (KeepsSeats register) same tt
      one_open (suc q) round at after = absurd (cc)

  -- ---- every change

  pub change_keeps : (change : Change) → MayChange tables change → SeatsKept tables.register tables.rounds → SeatsKept (apply tables change).register (apply tables change).rounds
  change_keeps (CharterSet charter) may kept = kept
  change_keeps (RulesSet rules) may kept = kept
  change_keeps (Added entries) may kept = enrolled_seats (tables.register ++ entries) may
  change_keeps (SolvedWith number bundle) may kept =
      let gone = open_gone tables keeps kept number bundle.pool may.open_now may.pool_is in
      changed_seats tables.register (solved_with bundle) (solving_opens_none bundle) tables.rounds number (λ old there. solving_keeps tables.register bundle gone old) kept
  change_keeps (SealTold number tickets) may kept =
      changed_seats tables.register (seal_told tickets) (sealing_opens_none tickets) tables.rounds number (λ old there. sealing_keeps tables.register tickets old) kept
  change_keeps (DrawnWith number digits) may kept = changed_seats tables.register (drawn_by digits) (drawing_opens_none digits) tables.rounds number (drawing_keeps digits number) kept
  change_keeps (DroppedOut number id) may kept = changed_seats tables.register (dropped_out id) (dropping_opens_none id) tables.rounds number (λ old there. dropping_keeps tables.register id old) kept
  change_keeps Begun may kept = pushed_seats tables.register tables.rounds kept
  change_keeps (Withdrawn place) may kept =
      let parts = and_parts (is_last_open tables.rounds) (not (is_seated_in (pool_of tables (length tables.rounds)) place)) may in
      withdrawing_keeps place parts.0 (not-true (is_seated_in (pool_of tables (length tables.rounds)) place) parts.1) kept
  change_keeps (BoundsSet bounds) may kept = kept
  change_keeps (TakenBack number id) may kept = changed_seats tables.register (taken_back id) (taking_opens_none id) tables.rounds number (taking_keeps id may number) kept
  change_keeps (Reopened number) may kept = taken_seats tables.register tables.rounds number kept
