-- What later tables still have of earlier ones, whatever commands come between.
use Rattle.std.proofs.Common.{◌≡◌, ℕ, zero, suc, true, List, [], ◌∷◌, ◌++◌, Option, Some, None, refl, sym, ◌∙◌, subst}
use Rattle.define_bundles.specs.BundleText.{Bundle}
use Rattle.define_offices.specs.Tables.{Entry, Round, Open, Solved, Sealed, Drawn, Tables, changed_at, changed_named, round_at, taken_at, taken_named}
use Rattle.define_offices.specs.Commands.{Command, Change, CharterSet, RulesSet, Added, SolvedWith, SealTold, DrawnWith, DroppedOut, Begun, Withdrawn, BoundsSet, TakenBack, Reopened, Outcome, Replies, Refuses, Stops, Unproved}
use Rattle.define_offices.specs.Steps.{LeadThrough, apply, drawn_by, dropped_out, seal_told, solved_with, tables_after, taken_back, withdrawn_at, without_id}

-- ---- rounds in later tables

-- `Grows round later`: later tables may have `later` in the place of `round`, which is past Open. Dropouts may be entered and taken back
pub data Grows : Round → Round → Type 0 where
  StaysSolved : (bundle : Bundle) → Grows (Solved bundle) (Solved bundle)
  IsSealed : (bundle : Bundle) (tickets : Option ℕ) → Grows (Solved bundle) (Sealed bundle tickets)
  IsDrawn : (bundle : Bundle) (tickets : Option ℕ) (digits : List ℕ) (dropped : List (List ℕ)) → Grows (Solved bundle) (Drawn bundle tickets digits dropped)
  StaysSealed : (bundle : Bundle) (tickets : Option ℕ) → Grows (Sealed bundle tickets) (Sealed bundle tickets)
  DrawnFrom : (bundle : Bundle) (tickets : Option ℕ) (digits : List ℕ) (dropped : List (List ℕ)) → Grows (Sealed bundle tickets) (Drawn bundle tickets digits dropped)
  OtherDrops : (bundle : Bundle) (tickets : Option ℕ) (digits : List ℕ) (dropped other : List (List ℕ)) → Grows (Drawn bundle tickets digits dropped) (Drawn bundle tickets digits other)

-- the round is past Open
abbrev pub IsPastOpen : Round → Type 0
IsPastOpen Open = ⊥
IsPastOpen (Solved bundle) = Unit {0}
IsPastOpen (Sealed bundle tickets) = Unit {0}
IsPastOpen (Drawn bundle tickets digits dropped) = Unit {0}

grows_itself : (round : Round) → IsPastOpen round → Grows round round
grows_itself Open past = absurd past
grows_itself (Solved bundle) past = StaysSolved bundle
grows_itself (Sealed bundle tickets) past = StaysSealed bundle tickets
grows_itself (Drawn bundle tickets digits dropped) past = OtherDrops bundle tickets digits dropped dropped

grows_on : {one next last : Round} → Grows one next → Grows next last → Grows one last
grows_on (StaysSolved bundle) g = g
grows_on (IsSealed bundle tickets) (StaysSealed other with_tickets) = IsSealed bundle tickets
grows_on (IsSealed bundle tickets) (DrawnFrom other with_tickets digits dropped) = IsDrawn bundle tickets digits dropped
grows_on (IsDrawn bundle tickets digits dropped) (OtherDrops other with_tickets digits' dropped' all) = IsDrawn bundle tickets digits all
grows_on (StaysSealed bundle tickets) g = g
grows_on (DrawnFrom bundle tickets digits dropped) (OtherDrops other with_tickets digits' dropped' all) = DrawnFrom bundle tickets digits all
grows_on (OtherDrops bundle tickets digits dropped all) (OtherDrops other with_tickets digits' dropped' all') = OtherDrops bundle tickets digits dropped all'

grown_is_past : {one next : Round} → Grows one next → IsPastOpen next
grown_is_past (StaysSolved bundle) = tt
grown_is_past (IsSealed bundle tickets) = tt
grown_is_past (IsDrawn bundle tickets digits dropped) = tt
grown_is_past (StaysSealed bundle tickets) = tt
grown_is_past (DrawnFrom bundle tickets digits dropped) = tt
grown_is_past (OtherDrops bundle tickets digits dropped other) = tt

solving_grows : (bundle : Bundle) (round : Round) → IsPastOpen round → Grows round (solved_with bundle round)
solving_grows bundle Open past = absurd past
solving_grows bundle (Solved other) past = StaysSolved other
solving_grows bundle (Sealed other tickets) past = StaysSealed other tickets
solving_grows bundle (Drawn other tickets digits dropped) past = grows_itself (Drawn other tickets digits dropped) past

sealing_grows : (given : Option ℕ) (round : Round) → IsPastOpen round → Grows round (seal_told given round)
sealing_grows given Open past = absurd past
sealing_grows given (Solved other) past = IsSealed other given
sealing_grows given (Sealed other tickets) past = StaysSealed other tickets
sealing_grows given (Drawn other tickets digits dropped) past = grows_itself (Drawn other tickets digits dropped) past

drawing_grows : (thrown : List ℕ) (round : Round) → IsPastOpen round → Grows round (drawn_by thrown round)
drawing_grows thrown Open past = absurd past
drawing_grows thrown (Solved other) past = StaysSolved other
drawing_grows thrown (Sealed other tickets) past = DrawnFrom other tickets thrown []
drawing_grows thrown (Drawn other tickets digits dropped) past = grows_itself (Drawn other tickets digits dropped) past

dropping_grows : (id : List ℕ) (round : Round) → IsPastOpen round → Grows round (dropped_out id round)
dropping_grows id Open past = absurd past
dropping_grows id (Solved other) past = StaysSolved other
dropping_grows id (Sealed other tickets) past = StaysSealed other tickets
dropping_grows id (Drawn other tickets digits dropped) past = OtherDrops other tickets digits dropped (dropped ++ id ∷ [])

taking_back_grows : (id : List ℕ) (round : Round) → IsPastOpen round → Grows round (taken_back id round)
taking_back_grows id Open past = absurd past
taking_back_grows id (Solved other) past = StaysSolved other
taking_back_grows id (Sealed other tickets) past = StaysSealed other tickets
taking_back_grows id (Drawn other tickets digits dropped) past = OtherDrops other tickets digits dropped (without_id id dropped)

-- the round at `place` in later tables, which has grown from `round`
pub record HasGrown (rounds : List Round) (place : ℕ) (round : Round) : Type 0 where
  pub next : Round
  pub there : round_at rounds place ≡ Some next
  pub grows : Grows round next

abbrev pub RoundsGrow : List Round → List Round → Type 0
RoundsGrow old new = (place : ℕ) (round : Round) → round_at old place ≡ Some round → IsPastOpen round → HasGrown new place round

rounds_stay : (rounds : List Round) → RoundsGrow rounds rounds
rounds_stay rounds = λ place round at past. record { next = round; there = at; grows = grows_itself round past }

changed_grow : (change : Round → Round) → ((round : Round) → IsPastOpen round → Grows round (change round)) → (rounds : List Round) (p : ℕ) → RoundsGrow rounds (changed_at change rounds p)
changed_grow change grows [] p place round at past = absurd (cc)
changed_grow change grows (first ∷ rounds) zero zero round at past =
    let same : round ≡ first = cc in record { next = change first; there = refl; grows = subst (λ r. Grows r (change first)) (sym same) (grows first (subst IsPastOpen same past)) }
changed_grow change grows (first ∷ rounds) zero (suc place) round at past = record { next = round; there = at; grows = grows_itself round past }
changed_grow change grows (first ∷ rounds) (suc p) zero round at past = record { next = round; there = at; grows = grows_itself round past }
changed_grow change grows (first ∷ rounds) (suc p) (suc place) round at past =
    let later = changed_grow change grows rounds p place round at past in record { next = later.next; there = later.there; grows = later.grows }

named_grow : (change : Round → Round) → ((round : Round) → IsPastOpen round → Grows round (change round)) → (rounds : List Round) (number : ℕ) → RoundsGrow rounds (changed_named change rounds number)
named_grow change grows rounds zero = rounds_stay rounds
named_grow change grows rounds (suc place) = changed_grow change grows rounds place

pushed_grow : (rounds : List Round) (last : Round) → RoundsGrow rounds (rounds ++ last ∷ [])
pushed_grow [] last place round at past = absurd (cc)
pushed_grow (first ∷ rounds) last zero round at past = record { next = round; there = at; grows = grows_itself round past }
pushed_grow (first ∷ rounds) last (suc place) round at past =
    let later = pushed_grow rounds last place round at past in record { next = later.next; there = later.there; grows = later.grows }

-- only an open round is taken away
taken_grow : (rounds : List Round) (p : ℕ) → RoundsGrow rounds (taken_at rounds p)
taken_grow [] p place round at past = absurd (cc)
taken_grow (Open ∷ []) zero zero round at past = absurd (let same : round ≡ Open = cc in subst IsPastOpen same past)
taken_grow (Open ∷ []) zero (suc place) round at past = absurd (cc)
taken_grow (Open ∷ next ∷ later) zero place round at past = record { next = round; there = at; grows = grows_itself round past }
taken_grow (Solved bundle ∷ later) zero place round at past = record { next = round; there = at; grows = grows_itself round past }
taken_grow (Sealed bundle tickets ∷ later) zero place round at past = record { next = round; there = at; grows = grows_itself round past }
taken_grow (Drawn bundle tickets digits dropped ∷ later) zero place round at past = record { next = round; there = at; grows = grows_itself round past }
taken_grow (first ∷ later) (suc p) zero round at past = record { next = round; there = at; grows = grows_itself round past }
taken_grow (first ∷ later) (suc p) (suc place) round at past =
    let after = taken_grow later p place round at past in record { next = after.next; there = after.there; grows = after.grows }

named_taken_grow : (rounds : List Round) (number : ℕ) → RoundsGrow rounds (taken_named rounds number)
named_taken_grow rounds zero = rounds_stay rounds
named_taken_grow rounds (suc place) = taken_grow rounds place

-- ---- rows in later tables

-- the later row `other` is the row `one`, except that its volunteer may have withdrawn since
pub record IsSameRow (one other : Entry) : Type 0 where
  pub id : one.id ≡ other.id
  pub hash : one.hash ≡ other.hash
  pub values : one.values ≡ other.values
  pub household : one.household ≡ other.household
  pub withdrawn : one.withdrawn ≡ true → other.withdrawn ≡ true

same_row : (entry : Entry) → IsSameRow entry entry
same_row entry = record { id = refl; hash = refl; values = refl; household = refl; withdrawn = λ h. h }

abbrev pub RowsStay : List Entry → List Entry → Type 0
RowsStay [] new = Unit {0}
RowsStay (entry ∷ old) [] = ⊥
RowsStay (entry ∷ old) (other ∷ new) = IsSameRow entry other × RowsStay old new

rows_stay : (register : List Entry) → RowsStay register register
rows_stay [] = tt
rows_stay (entry ∷ register) = (same_row entry, rows_stay register)

rows_stay_on : (one next last : List Entry) → RowsStay one next → RowsStay next last → RowsStay one last
rows_stay_on [] next last a b = tt
rows_stay_on (e ∷ one) [] last a b = absurd a
rows_stay_on (e ∷ one) (f ∷ next) [] a b = absurd b
rows_stay_on (e ∷ one) (f ∷ next) (g ∷ last) a b = (
  record { id = a.0.id ∙ b.0.id; hash = a.0.hash ∙ b.0.hash; values = a.0.values ∙ b.0.values; household = a.0.household ∙ b.0.household; withdrawn = λ h. b.0.withdrawn (a.0.withdrawn h) },
  rows_stay_on one next last a.1 b.1,
)

added_stay : (register entries : List Entry) → RowsStay register (register ++ entries)
added_stay [] entries = tt
added_stay (entry ∷ register) entries = (same_row entry, added_stay register entries)

withdrawn_stay : (register : List Entry) (place : ℕ) → RowsStay register (withdrawn_at register place)
withdrawn_stay [] place = tt
withdrawn_stay (entry ∷ register) zero = (record { id = refl; hash = refl; values = refl; household = refl; withdrawn = λ h. refl }, rows_stay register)
withdrawn_stay (entry ∷ register) (suc place) = (same_row entry, withdrawn_stay register place)

-- ---- later tables as a whole

pub record Extends (old new : Tables) : Type 0 where
  pub rounds : RoundsGrow old.rounds new.rounds
  pub rows : RowsStay old.register new.register

extends_itself : (tables : Tables) → Extends tables tables
extends_itself tables = record { rounds = rounds_stay tables.rounds; rows = rows_stay tables.register }

extends_on : (one next last : Tables) → Extends one next → Extends next last → Extends one last
extends_on one next last a b = record {
  rounds = λ place round at past.
      let first = a.rounds place round at past in
      let second = b.rounds place first.next first.there (grown_is_past first.grows) in
      record { next = second.next; there = second.there; grows = grows_on first.grows second.grows };
  rows = rows_stay_on one.register next.register last.register a.rows b.rows;
}

pub apply_extends : (tables : Tables) (change : Change) → Extends tables (apply tables change)
apply_extends tables (CharterSet charter) = record { rounds = rounds_stay tables.rounds; rows = rows_stay tables.register }
apply_extends tables (RulesSet rules) = record { rounds = rounds_stay tables.rounds; rows = rows_stay tables.register }
apply_extends tables (Added entries) = record { rounds = rounds_stay tables.rounds; rows = added_stay tables.register entries }
apply_extends tables (SolvedWith number bundle) = record { rounds = named_grow (solved_with bundle) (solving_grows bundle) tables.rounds number; rows = rows_stay tables.register }
apply_extends tables (SealTold number tickets) = record { rounds = named_grow (seal_told tickets) (sealing_grows tickets) tables.rounds number; rows = rows_stay tables.register }
apply_extends tables (DrawnWith number digits) = record { rounds = named_grow (drawn_by digits) (drawing_grows digits) tables.rounds number; rows = rows_stay tables.register }
apply_extends tables (DroppedOut number id) = record { rounds = named_grow (dropped_out id) (dropping_grows id) tables.rounds number; rows = rows_stay tables.register }
apply_extends tables Begun = record { rounds = pushed_grow tables.rounds Open; rows = rows_stay tables.register }
apply_extends tables (Withdrawn place) = record { rounds = rounds_stay tables.rounds; rows = withdrawn_stay tables.register place }
apply_extends tables (BoundsSet bounds) = record { rounds = rounds_stay tables.rounds; rows = rows_stay tables.register }
apply_extends tables (TakenBack number id) = record { rounds = named_grow (taken_back id) (taking_back_grows id) tables.rounds number; rows = rows_stay tables.register }
apply_extends tables (Reopened number) = record { rounds = named_taken_grow tables.rounds number; rows = rows_stay tables.register }

after_extends : (tables : Tables) (outcome : Outcome) → Extends tables (tables_after tables outcome)
after_extends tables (Replies None reply) = extends_itself tables
after_extends tables (Replies (Some change) reply) = apply_extends tables change
after_extends tables (Refuses refusal) = extends_itself tables
after_extends tables (Stops ending) = extends_itself tables
after_extends tables (Unproved refusal) = extends_itself tables

-- tables after any commands extend those before
pub through_extends : (before : Tables) (commands : List Command) (after : Tables) → LeadThrough before commands after → Extends before after
through_extends before [] after leads = subst (Extends before) (sym leads) (extends_itself before)
through_extends before (command ∷ later) after (next, (leads, rest)) =
    extends_on before next after (subst (Extends before) (sym leads.leaves) (after_extends before leads.outcome)) (through_extends next later after rest)
