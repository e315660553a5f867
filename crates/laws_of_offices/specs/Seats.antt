-- Withdrawals and seats: what is true of all tables that a list of commands leaves. A volunteer is named by the place of the row in the
-- register, counted from 0.
use Rattle.std.specs.Prelude.{◌≡◌, ◌≢◌, ℕ, IsTrue, IsFalse, List, length, Option, Some, Ok}
use Rattle.std.specs.List.{AllByRecursion}
use Rattle.define_pools.specs.declared.Standing.TheVariants as standing
use Rattle.define_pools.specs.Lists.{includes, includes_list}
use Rattle.define_pools.specs.Pool.{Pool, volunteer}
use Rattle.define_bundles.specs.BundleText.{Bundle}
use Rattle.define_offices.specs.declared.Phase.TheVariants as phase
use Rattle.define_offices.specs.Tables.{Round, Drawn, Tables, named_round, phase_of}
use Rattle.define_offices.specs.Commands.{Command}
use Rattle.define_offices.specs.Deciding.{is_seated_in}
use Rattle.define_offices.specs.Facts.{IsCommand}
use Rattle.define_offices.specs.Pools.{drawn_of, has_withdrawn, pool_of}
use Rattle.define_offices.specs.Steps.{Folds, LeadThrough}

-- `Fact` holds of all tables that a list of commands leaves, if each command is within its limits
abbrev pub InAllTables : (Tables → Type 0) → Type 0
InAllTables Fact = (commands : List Command) (tables : Tables) → AllByRecursion IsCommand commands → Folds commands tables → Fact tables

-- nobody who is seated in the pool of a round that isn't drawn has withdrawn. Only the last round isn't drawn
abbrev pub SeatedHaveNotWithdrawn : Tables → Type 0
SeatedHaveNotWithdrawn tables = (number place : ℕ) (round : Round) → named_round tables.rounds number ≡ Some round → phase_of round ≢ phase.Drawn →
    IsTrue (is_seated_in (pool_of tables number) place) → IsFalse (has_withdrawn tables.register place)

-- everybody who withdrew is gone in the pool of a round that isn't drawn, so that no panel of this round has them
abbrev pub WithdrawnAreGone : Tables → Type 0
WithdrawnAreGone tables = (number place : ℕ) (round : Round) (pool : Pool) → named_round tables.rounds number ≡ Some round → phase_of round ≢ phase.Drawn →
    pool_of tables number ≡ Ok pool → IsTrue (has_withdrawn tables.register place) → (volunteer pool.volunteers place).standing ≡ standing.Gone

-- if the last round is drawn, nobody on its panel who didn't drop out has withdrawn
abbrev pub MembersHaveNotWithdrawn : Tables → Type 0
MembersHaveNotWithdrawn tables = (bundle : Bundle) (tickets : Option ℕ) (digits : List ℕ) (dropped : List (List ℕ)) (place : ℕ) →
    named_round tables.rounds (length tables.rounds) ≡ Some (Drawn bundle tickets digits dropped) → IsTrue (includes (drawn_of bundle tickets digits).panel place) →
    IsFalse (includes_list dropped (volunteer bundle.pool.volunteers place).id) → IsFalse (has_withdrawn tables.register place)

-- whoever has withdrawn has withdrawn in all tables to which commands lead from there
abbrev pub WithdrawalsStay : Type 0
WithdrawalsStay = (before : Tables) (commands : List Command) (after : Tables) (place : ℕ) → LeadThrough before commands after →
    IsTrue (has_withdrawn before.register place) → IsTrue (has_withdrawn after.register place)
