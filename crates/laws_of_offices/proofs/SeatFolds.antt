-- The laws on withdrawals and seats: `SeatsKept` holds of all tables that commands leave.
use Rattle.std.proofs.Common.{◌≡◌, ◌≢◌, ℕ, zero, suc, Bool, true, false, List, [], ◌∷◌, length, Option, Some, None, Result, Ok, Err, refl, sym, ap, subst}
use Rattle.std.specs.List.{AllByRecursion}
use Rattle.std.proofs.lemmas.Bool.{false≢true}
use Rattle.define_pools.specs.declared.Standing.{Standing}
use Rattle.define_pools.specs.Pool.{Category, Pool}
use Rattle.define_bundles.specs.BundleText.{Bundle}
use Rattle.define_offices.specs.declared.Phase.TheVariants as phase
use Rattle.define_offices.specs.Commands.{Command, Outcome, Replies, Refuses, Stops, Unproved, Refusal}
use Rattle.define_offices.specs.Deciding.{is_seated, is_seated_in}
use Rattle.define_offices.specs.Facts.{AreCertified, IsCommand, IsTables}
use Rattle.define_offices.specs.Pools.{has_withdrawn, pool_by, pool_if, pool_of, round_pool}
use Rattle.define_offices.specs.Steps.{LeadThrough, Leads, tables_after}
use Rattle.define_offices.specs.Tables.{Charter, Round, Open, Solved, Sealed, Drawn, Tables, bundle_of, first_tables, named_round, phase_of, round_at}
use Rattle.define_offices.proofs.Certified.{step_certified}
use Rattle.define_offices.proofs.Rounds.{drawn_before, none-after}
use Rattle.define_offices.proofs.Steps.{first_keeps, step_keeps}
use Rattle.laws_of_offices.specs.Seats.{InAllTables, MembersHaveNotWithdrawn, SeatedHaveNotWithdrawn, WithdrawnAreGone}
use Rattle.laws_of_offices.proofs.SeatChanges.{change_keeps, not_named}
use Rattle.laws_of_offices.proofs.SeatOutcomes.{MayCome, comes_may}
use Rattle.laws_of_offices.proofs.SeatRounds.{AreGone, KeepsSeats, SeatsKept, none_or_open}
use Rattle.laws_of_offices.proofs.Standings.{open_gone}

-- ---- lists of commands

-- what every step keeps
record IsKept (tables : Tables) : Type 0 where
  facts : IsTables tables
  certified : AreCertified tables
  seats : SeatsKept tables.register tables.rounds

outcome_keeps : (tables : Tables) → IsKept tables → (outcome : Outcome) → MayCome tables outcome → SeatsKept (tables_after tables outcome).register (tables_after tables outcome).rounds
outcome_keeps tables kept (Replies None reply) may = kept.seats
outcome_keeps tables kept (Replies (Some change) reply) may = change_keeps tables kept.facts kept.certified change may kept.seats
outcome_keeps tables kept (Refuses refusal) may = kept.seats
outcome_keeps tables kept (Stops ending) may = kept.seats
outcome_keeps tables kept (Unproved refusal) may = kept.seats

step_keeps_all : (before : Tables) (command : Command) (after : Tables) → IsKept before → IsCommand command → Leads before command after → IsKept after
step_keeps_all before command after kept is leads = record {
  facts = step_keeps before command after kept.facts is leads;
  certified = step_certified before command after kept.facts is kept.certified leads;
  seats = subst (λ (tables : Tables). SeatsKept tables.register tables.rounds) (sym leads.leaves) (outcome_keeps before kept leads.outcome (comes_may before kept.facts command leads.outcome is leads.comes));
}

through_keeps_all : (before : Tables) (commands : List Command) (after : Tables) → IsKept before → AllByRecursion IsCommand commands → LeadThrough before commands after → IsKept after
through_keeps_all before [] after kept are leads = subst IsKept (sym leads) kept
through_keeps_all before (command ∷ later) after kept are (next, (leads, rest)) = through_keeps_all next later after (step_keeps_all before command next kept are.0 leads) are.1 rest

first_kept : IsKept first_tables
first_kept = record { facts = first_keeps; certified = certified; seats = seats }
  where
    certified : AreCertified first_tables
    certified zero round bundle at has = absurd (let same : Open ≡ round = cc in let none = subst (λ r. bundle_of r ≡ Some bundle) (sym same) has in cc)
    certified (suc place) round bundle at has = absurd (cc)

    seats : SeatsKept first_tables.register first_tables.rounds
    seats zero round at after = let same : Open ≡ round = cc in subst (KeepsSeats []) same tt
    seats (suc q) round at after = absurd (cc)

all_kept : InAllTables IsKept
all_kept commands tables are folds = through_keeps_all first_tables commands tables first_kept are folds

-- ---- who withdrew is gone in the pool of a round that isn't drawn

-- after a round that isn't drawn there is no other
none_follows : (tables : Tables) → IsTables tables → (place : ℕ) (round : Round) → round_at tables.rounds place ≡ Some round → phase_of round ≢ phase.Drawn → (next : Option Round) →
    round_at tables.rounds (suc place) ≡ next → none_or_open next ≡ true
none_follows tables keeps place round at undrawn None after = refl
none_follows tables keeps place round at undrawn (Some next) after =
    absurd (let drawn = drawn_before tables.rounds place next keeps.closed after in let there = drawn.there in
    let same : Drawn drawn.bundle drawn.tickets drawn.digits drawn.dropped ≡ round = cc in undrawn (ap phase_of (sym same)))

bundle_pool : (charter : Option Charter) (rules : Option (List Category)) (tables : Tables) (place : ℕ) (round : Round) (bundle : Bundle) (pool : Pool) →
    ((c : Charter) (categories : List Category) → round_pool c categories tables place round ≡ bundle.pool) → pool_by charter rules tables place round ≡ Ok pool → bundle.pool ≡ pool
bundle_pool None rules tables place round bundle pool same h = absurd (cc)
bundle_pool (Some charter) None tables place round bundle pool same h = absurd (cc)
bundle_pool (Some charter) (Some categories) tables place round bundle pool same h = let its = same charter categories in cc

gone_in_round : (tables : Tables) → IsKept tables → (place : ℕ) (round : Round) (pool : Pool) → round_at tables.rounds place ≡ Some round → phase_of round ≢ phase.Drawn → pool_of tables (suc place) ≡ Ok pool →
    AreGone tables.register pool
gone_in_round tables kept place Open pool at undrawn of = open_gone tables kept.facts kept.seats (suc place) pool at of
gone_in_round tables kept place (Solved bundle) pool at undrawn of =
    let gone = kept.seats place (Solved bundle) at (none_follows tables kept.facts place (Solved bundle) at undrawn (round_at tables.rounds (suc place)) refl) in
    let its = subst (λ found. pool_if tables place found ≡ Ok pool) at of in
    subst (AreGone tables.register) (bundle_pool tables.charter tables.rules tables place (Solved bundle) bundle pool (λ c categories. refl) its) gone
gone_in_round tables kept place (Sealed bundle tickets) pool at undrawn of =
    let gone = kept.seats place (Sealed bundle tickets) at (none_follows tables kept.facts place (Sealed bundle tickets) at undrawn (round_at tables.rounds (suc place)) refl) in
    let its = subst (λ found. pool_if tables place found ≡ Ok pool) at of in
    subst (AreGone tables.register) (bundle_pool tables.charter tables.rules tables place (Sealed bundle tickets) bundle pool (λ c categories. refl) its) gone
gone_in_round tables kept place (Drawn bundle tickets digits dropped) pool at undrawn of = absurd (undrawn refl)

kept_are_gone : (tables : Tables) → IsKept tables → WithdrawnAreGone tables
kept_are_gone tables kept zero place round pool at undrawn of withdrew = absurd (cc)
kept_are_gone tables kept (suc before) place round pool at undrawn of withdrew = gone_in_round tables kept before round pool at undrawn of place withdrew

pub withdrawn_are_gone : InAllTables WithdrawnAreGone
withdrawn_are_gone commands tables are folds = kept_are_gone tables (all_kept commands tables are folds)

-- ---- who is seated has not withdrawn

seated_by_pool : (tables : Tables) → WithdrawnAreGone tables → (number place : ℕ) (round : Round) → named_round tables.rounds number ≡ Some round → phase_of round ≢ phase.Drawn →
    (found : Result Pool Refusal) → pool_of tables number ≡ found → is_seated_in found place ≡ true → (withdrew : Bool) → has_withdrawn tables.register place ≡ withdrew → withdrew ≡ false
seated_by_pool tables gone number place round at undrawn found of seated false h = refl
seated_by_pool tables gone number place round at undrawn (Err refusal) of seated true h = absurd (false≢true seated)
seated_by_pool tables gone number place round at undrawn (Ok pool) of seated true h =
    absurd (false≢true (subst (λ (s : Standing). is_seated s ≡ true) (gone number place round pool at undrawn of h) seated))

pub seated_have_not_withdrawn : InAllTables SeatedHaveNotWithdrawn
seated_have_not_withdrawn commands tables are folds = λ number place round at undrawn seated.
    seated_by_pool tables (withdrawn_are_gone commands tables are folds) number place round at undrawn (pool_of tables number) refl seated (has_withdrawn tables.register place) refl

-- ---- who is on the last panel and didn't drop out has not withdrawn

last_follows : (rounds : List Round) (number : ℕ) (round : Round) → number ≡ length rounds → named_round rounds number ≡ Some round → (place : ℕ) × ((round_at rounds place ≡ Some round) × (round_at rounds (suc place) ≡ None))
last_follows rounds zero round last at = absurd (cc)
last_follows rounds (suc place) round last at = (place, (at, subst (λ n. round_at rounds n ≡ None) (sym last) (none-after rounds)))

kept_members : (tables : Tables) → IsKept tables → MembersHaveNotWithdrawn tables
kept_members tables kept bundle tickets digits dropped i at member stayed =
    let last = last_follows tables.rounds (length tables.rounds) (Drawn bundle tickets digits dropped) refl at in
    kept.seats last.0 (Drawn bundle tickets digits dropped) last.1.0 (ap none_or_open last.1.1) i member (not_named bundle dropped i stayed)

pub members_have_not_withdrawn : InAllTables MembersHaveNotWithdrawn
members_have_not_withdrawn commands tables are folds = kept_members tables (all_kept commands tables are folds)
