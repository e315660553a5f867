-- A store of version 2 can keep the tables after each change that it can keep.
use Rattle.std.proofs.Common.{◌≡◌, ℕ, zero, suc, true, not, ◌&&◌, List, [], ◌∷◌, Option, is_some, refl}
use Rattle.std.specs.List.{list_all}
use Rattle.std.proofs.lemmas.Bool.{and_from, and_parts}
use Rattle.define_pools.proofs.Each.{list_all-push}
use Rattle.define_bundles.specs.BundleText.{Bundle}
use Rattle.define_offices.specs.Tables.{Round, Open, Solved, Sealed, Drawn, Tables, changed_at, changed_named, taken_at, taken_named}
use Rattle.define_offices.specs.Commands.{Change, CharterSet, RulesSet, Added, SolvedWith, SealTold, DrawnWith, DroppedOut, Begun, Withdrawn, BoundsSet, TakenBack, Reopened}
use Rattle.define_offices.specs.Steps.{apply, drawn_by, dropped_out, seal_told, solved_with, taken_back}
use Rattle.define_offices.specs.Versions.{is_second, is_second_change, is_second_charter, is_second_round}

record IsSecond (tables : Tables) : Type 0 where
  charter : is_second_charter tables.charter ≡ true
  rounds : list_all is_second_round tables.rounds ≡ true
  bounds : not (is_some tables.bounds) ≡ true

second_parts : (tables : Tables) → is_second tables ≡ true → IsSecond tables
second_parts tables h =
    let parts = and_parts (is_second_charter tables.charter && list_all is_second_round tables.rounds) (not (is_some tables.bounds)) h in
    let first = and_parts (is_second_charter tables.charter) (list_all is_second_round tables.rounds) parts.0 in
    record { charter = first.0; rounds = first.1; bounds = parts.1 }

second_from : (tables : Tables) → IsSecond tables → is_second tables ≡ true
second_from tables is =
    and_from (is_second_charter tables.charter && list_all is_second_round tables.rounds) (not (is_some tables.bounds))
    (and_from (is_second_charter tables.charter) (list_all is_second_round tables.rounds) is.charter is.rounds) is.bounds

-- ---- rounds

second_at : (change : Round → Round) → ((round : Round) → is_second_round round ≡ true → is_second_round (change round) ≡ true) → (rounds : List Round) (place : ℕ) →
    list_all is_second_round rounds ≡ true → list_all is_second_round (changed_at change rounds place) ≡ true
second_at change keeps [] place h = h
second_at change keeps (round ∷ rounds) zero h =
    let parts = and_parts (is_second_round round) (list_all is_second_round rounds) h in
    and_from (is_second_round (change round)) (list_all is_second_round rounds) (keeps round parts.0) parts.1
second_at change keeps (round ∷ rounds) (suc place) h =
    let parts = and_parts (is_second_round round) (list_all is_second_round rounds) h in
    and_from (is_second_round round) (list_all is_second_round (changed_at change rounds place)) parts.0 (second_at change keeps rounds place parts.1)

second_named : (change : Round → Round) → ((round : Round) → is_second_round round ≡ true → is_second_round (change round) ≡ true) → (rounds : List Round) (number : ℕ) →
    list_all is_second_round rounds ≡ true → list_all is_second_round (changed_named change rounds number) ≡ true
second_named change keeps rounds zero h = h
second_named change keeps rounds (suc place) h = second_at change keeps rounds place h

second_taken : (rounds : List Round) (place : ℕ) → list_all is_second_round rounds ≡ true → list_all is_second_round (taken_at rounds place) ≡ true
second_taken [] place h = h
second_taken (Open ∷ []) zero h = refl
second_taken (Open ∷ next ∷ later) zero h = h
second_taken (Solved bundle ∷ later) zero h = h
second_taken (Sealed bundle tickets ∷ later) zero h = h
second_taken (Drawn bundle tickets digits dropped ∷ later) zero h = h
second_taken (round ∷ later) (suc place) h =
    let parts = and_parts (is_second_round round) (list_all is_second_round later) h in
    and_from (is_second_round round) (list_all is_second_round (taken_at later place)) parts.0 (second_taken later place parts.1)

second_taken_named : (rounds : List Round) (number : ℕ) → list_all is_second_round rounds ≡ true → list_all is_second_round (taken_named rounds number) ≡ true
second_taken_named rounds zero h = h
second_taken_named rounds (suc place) h = second_taken rounds place h

solving : (answered : Bundle) (round : Round) → is_second_round round ≡ true → is_second_round (solved_with answered round) ≡ true
solving answered Open h = refl
solving answered (Solved bundle) h = h
solving answered (Sealed bundle tickets) h = h
solving answered (Drawn bundle tickets digits dropped) h = h

sealing : (given : Option ℕ) → not (is_some given) ≡ true → (round : Round) → is_second_round round ≡ true → is_second_round (seal_told given round) ≡ true
sealing given none Open h = h
sealing given none (Solved bundle) h = none
sealing given none (Sealed bundle tickets) h = h
sealing given none (Drawn bundle tickets digits dropped) h = h

drawing : (thrown : List ℕ) (round : Round) → is_second_round round ≡ true → is_second_round (drawn_by thrown round) ≡ true
drawing thrown Open h = h
drawing thrown (Solved bundle) h = h
drawing thrown (Sealed bundle tickets) h = h
drawing thrown (Drawn bundle tickets digits dropped) h = h

dropping : (id : List ℕ) (round : Round) → is_second_round round ≡ true → is_second_round (dropped_out id round) ≡ true
dropping id Open h = h
dropping id (Solved bundle) h = h
dropping id (Sealed bundle tickets) h = h
dropping id (Drawn bundle tickets digits dropped) h = h

taking_back : (id : List ℕ) (round : Round) → is_second_round round ≡ true → is_second_round (taken_back id round) ≡ true
taking_back id Open h = h
taking_back id (Solved bundle) h = h
taking_back id (Sealed bundle tickets) h = h
taking_back id (Drawn bundle tickets digits dropped) h = h

-- ---- changes

after : (tables : Tables) (change : Change) → IsSecond tables → is_second_change change ≡ true → IsSecond (apply tables change)
after tables (CharterSet charter) is h = record { charter = h; rounds = is.rounds; bounds = is.bounds }
after tables (RulesSet rules) is h = record { charter = is.charter; rounds = is.rounds; bounds = is.bounds }
after tables (Added entries) is h = record { charter = is.charter; rounds = is.rounds; bounds = is.bounds }
after tables (SolvedWith number bundle) is h = record { charter = is.charter; rounds = second_named (solved_with bundle) (solving bundle) tables.rounds number is.rounds; bounds = is.bounds }
after tables (SealTold number tickets) is h = record { charter = is.charter; rounds = second_named (seal_told tickets) (sealing tickets h) tables.rounds number is.rounds; bounds = is.bounds }
after tables (DrawnWith number digits) is h = record { charter = is.charter; rounds = second_named (drawn_by digits) (drawing digits) tables.rounds number is.rounds; bounds = is.bounds }
after tables (DroppedOut number id) is h = record { charter = is.charter; rounds = second_named (dropped_out id) (dropping id) tables.rounds number is.rounds; bounds = is.bounds }
after tables Begun is h = record { charter = is.charter; rounds = list_all-push is_second_round tables.rounds Open is.rounds refl; bounds = refl }
after tables (Withdrawn place) is h = record { charter = is.charter; rounds = is.rounds; bounds = is.bounds }
after tables (BoundsSet bounds) is h = absurd (cc)
after tables (TakenBack number id) is h = record { charter = is.charter; rounds = second_named (taken_back id) (taking_back id) tables.rounds number is.rounds; bounds = is.bounds }
after tables (Reopened number) is h = record { charter = is.charter; rounds = second_taken_named tables.rounds number is.rounds; bounds = refl }

pub changes_keep_second : (tables : Tables) (change : Change) → is_second tables ≡ true → is_second_change change ≡ true → is_second (apply tables change) ≡ true
changes_keep_second tables change is h = second_from (apply tables change) (after tables change (second_parts tables is) h)
