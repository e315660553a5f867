-- If a store of version 2 can't keep a change, it can't keep the tables after it.
use Rattle.std.proofs.Common.{◌≡◌, ℕ, zero, suc, Bool, true, false, not, ◌&&◌, List, [], ◌∷◌, Option, Some, is_some, refl, sym, ap, ◌∙◌}
use Rattle.std.specs.List.{list_all}
use Rattle.std.proofs.lemmas.Bool.{false≢true}
use Rattle.define_offices.specs.Tables.{Round, Solved, Sealed, Tables, changed_named, named_round, round_at}
use Rattle.define_offices.specs.Commands.{Command, Change, CharterSet, RulesSet, Added, SolvedWith, SealTold, DrawnWith, DroppedOut, Begun, Withdrawn, BoundsSet, TakenBack, Reopened, Replies, Reply}
use Rattle.define_offices.specs.Facts.{IsCommand, IsTables}
use Rattle.define_offices.specs.Steps.{Comes, apply, seal_told}
use Rattle.define_offices.specs.Versions.{is_second, is_second_change, is_second_charter, is_second_round}
use Rattle.define_offices.proofs.Repeats.{named_there}
use Rattle.define_offices.proofs.Versions.{changes_keep_second}
use Rattle.laws_of_offices.proofs.ChangesFit.{Fits, IsAnswered, changes_fit}

-- a list with such a round is none of which all are
one_not : (p : Round → Bool) (rounds : List Round) (place : ℕ) (round : Round) → round_at rounds place ≡ Some round → p round ≡ false → list_all p rounds ≡ false
one_not p [] place round at h = absurd (cc)
one_not p (first ∷ rounds) zero round at h = let same : p first ≡ false = let is : first ≡ round = cc in ap p is ∙ h in rw same refl
one_not p (first ∷ rounds) (suc place) round at h = by (p first) (one_not p rounds place round at h)
  where
    by : (b : Bool) → list_all p rounds ≡ false → (b && list_all p rounds) ≡ false
    by true rest = rest
    by false rest = refl

named_not : (p : Round → Bool) (rounds : List Round) (number : ℕ) (round : Round) → named_round rounds number ≡ Some round → p round ≡ false → list_all p rounds ≡ false
named_not p rounds zero round at h = absurd (cc)
named_not p rounds (suc place) round at h = one_not p rounds place round at h

-- none of three tests may fail
first_fails : (a b c : Bool) → a ≡ false → (a && b && c) ≡ false
first_fails false b c h = refl
first_fails true b c h = absurd (false≢true (sym h))

second_fails : (a b c : Bool) → b ≡ false → (a && b && c) ≡ false
second_fails false b c h = refl
second_fails true false c h = refl
second_fails true true c h = absurd (false≢true (sym h))

third_fails : (a b c : Bool) → c ≡ false → (a && b && c) ≡ false
third_fails false b c h = refl
third_fails true false c h = refl
third_fails true true c h = h

sealed_third : (tables : Tables) (number : ℕ) (tickets : Option ℕ) → IsAnswered tables number → is_second_change (SealTold number tickets) ≡ false → list_all is_second_round (changed_named (seal_told tickets) tables.rounds number) ≡ false
sealed_third tables number tickets answered h =
    named_not is_second_round (changed_named (seal_told tickets) tables.rounds number) number (Sealed answered.bundle tickets)
    (named_there (seal_told tickets) tables.rounds number (Solved answered.bundle) answered.there) h

third_after : (tables : Tables) (command : Command) (change : Change) → Fits tables command change → is_second_change change ≡ false → is_second (apply tables change) ≡ false
third_after tables command (CharterSet charter) fits h = first_fails (is_second_charter (Some charter)) (list_all is_second_round tables.rounds) (not (is_some tables.bounds)) h
third_after tables command (RulesSet rules) fits h = absurd (false≢true (sym h))
third_after tables command (Added entries) fits h = absurd (false≢true (sym h))
third_after tables command (SolvedWith number bundle) fits h = absurd (false≢true (sym h))
third_after tables command (SealTold number tickets) fits h =
    second_fails (is_second_charter tables.charter) (list_all is_second_round (changed_named (seal_told tickets) tables.rounds number)) (not (is_some tables.bounds)) (sealed_third tables number tickets fits h)
third_after tables command (DrawnWith number digits) fits h = absurd (false≢true (sym h))
third_after tables command (DroppedOut number id) fits h = absurd (false≢true (sym h))
third_after tables command Begun fits h = absurd (false≢true (sym h))
third_after tables command (Withdrawn place) fits h = absurd (false≢true (sym h))
third_after tables command (BoundsSet bounds) fits h = third_fails (is_second_charter tables.charter) (list_all is_second_round tables.rounds) false refl
third_after tables command (TakenBack number id) fits h = absurd (false≢true (sym h))
third_after tables command (Reopened number) fits h = absurd (false≢true (sym h))

pub others_are_third : (tables : Tables) (command : Command) (change : Change) (reply : Reply) → IsTables tables → IsCommand command → Comes tables command (Replies (Some change) reply) →
    is_second_change change ≡ false → is_second (apply tables change) ≡ false
others_are_third tables command change reply keeps within comes h = third_after tables command change (changes_fit tables change reply keeps command within comes) h

pub changes_decide_versions : (tables : Tables) (command : Command) (change : Change) (reply : Reply) → IsTables tables → IsCommand command → Comes tables command (Replies (Some change) reply) →
    is_second tables ≡ true → is_second (apply tables change) ≡ is_second_change change
changes_decide_versions tables command change reply keeps within comes is = by (is_second_change change) refl
  where
    by : (second : Bool) → is_second_change change ≡ second → is_second (apply tables change) ≡ is_second_change change
    by true h = changes_keep_second tables change is h ∙ sym h
    by false h = others_are_third tables command change reply keeps within comes h ∙ sym h
