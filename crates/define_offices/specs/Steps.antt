-- A step of the office, and the tables that a list of commands leaves.
use Rattle.std.specs.Prelude.{◌≡◌, ℕ, zero, suc, List, [], ◌∷◌, ◌++◌, Option, Some, None, true, not, filter, bytes_eq}
use Rattle.define_pools.specs.Pool.{Pool}
use Rattle.define_bundles.specs.BundleText.{Bundle}
use Rattle.define_runs.specs.Run.{Ending, Limits, RunEnds}
use Rattle.define_offices.specs.Tables.{Entry, Round, Open, Solved, Sealed, Drawn, Tables, changed_named, first_tables, taken_named}
use Rattle.define_offices.specs.Commands.{Command, Solve, Change, CharterSet, RulesSet, Added, SolvedWith, SealTold, DrawnWith, DroppedOut, Begun, Withdrawn, BoundsSet, TakenBack, Reopened, Outcome, Replies, Refuses, Stops, Unproved}
use Rattle.define_offices.specs.Deciding.{IsDecided, NeedsRun, asked, solved}

-- ---- how changes alter the tables

abbrev pub solved_with : Bundle → Round → Round
solved_with answered Open = Solved answered
solved_with answered (Solved bundle) = Solved bundle
solved_with answered (Sealed bundle tickets) = Sealed bundle tickets
solved_with answered (Drawn bundle tickets digits dropped) = Drawn bundle tickets digits dropped

abbrev pub seal_told : Option ℕ → Round → Round
seal_told with_tickets Open = Open
seal_told with_tickets (Solved bundle) = Sealed bundle with_tickets
seal_told with_tickets (Sealed bundle tickets) = Sealed bundle tickets
seal_told with_tickets (Drawn bundle tickets digits dropped) = Drawn bundle tickets digits dropped

abbrev pub drawn_by : List ℕ → Round → Round
drawn_by thrown Open = Open
drawn_by thrown (Solved bundle) = Solved bundle
drawn_by thrown (Sealed bundle tickets) = Drawn bundle tickets thrown []
drawn_by thrown (Drawn bundle tickets digits dropped) = Drawn bundle tickets digits dropped

abbrev pub dropped_out : List ℕ → Round → Round
dropped_out id Open = Open
dropped_out id (Solved bundle) = Solved bundle
dropped_out id (Sealed bundle tickets) = Sealed bundle tickets
dropped_out id (Drawn bundle tickets digits dropped) = Drawn bundle tickets digits (dropped ++ id ∷ [])

-- the ids other than `id`
abbrev pub without_id : List ℕ → List (List ℕ) → List (List ℕ)
without_id id ids = filter (λ other. not (bytes_eq id other)) ids

abbrev pub taken_back : List ℕ → Round → Round
taken_back id Open = Open
taken_back id (Solved bundle) = Solved bundle
taken_back id (Sealed bundle tickets) = Sealed bundle tickets
taken_back id (Drawn bundle tickets digits dropped) = Drawn bundle tickets digits (without_id id dropped)

-- the register, with the row at a place, counted from 0, marked as withdrawn
abbrev pub withdrawn_at : List Entry → ℕ → List Entry
withdrawn_at [] place = []
withdrawn_at (entry ∷ register) zero = record entry { withdrawn = true } ∷ register
withdrawn_at (entry ∷ register) (suc place) = entry ∷ withdrawn_at register place

abbrev pub apply : Tables → Change → Tables
apply tables (CharterSet charter) = record tables { charter = Some charter }
apply tables (RulesSet rules) = record tables { rules = Some rules }
apply tables (Added entries) = record tables { register = tables.register ++ entries }
apply tables (SolvedWith number bundle) = record tables { rounds = changed_named (solved_with bundle) tables.rounds number }
apply tables (SealTold number tickets) = record tables { rounds = changed_named (seal_told tickets) tables.rounds number }
apply tables (DrawnWith number digits) = record tables { rounds = changed_named (drawn_by digits) tables.rounds number }
apply tables (DroppedOut number id) = record tables { rounds = changed_named (dropped_out id) tables.rounds number }
apply tables Begun = record tables { rounds = tables.rounds ++ Open ∷ []; bounds = None }
apply tables (Withdrawn place) = record tables { register = withdrawn_at tables.register place }
apply tables (BoundsSet bounds) = record tables { bounds = Some bounds }
apply tables (TakenBack number id) = record tables { rounds = changed_named (taken_back id) tables.rounds number }
apply tables (Reopened number) = record tables { rounds = taken_named tables.rounds number; bounds = None }

abbrev pub applied : Tables → Option Change → Tables
applied tables None = tables
applied tables (Some change) = apply tables change

-- the tables after a command with this outcome
abbrev pub tables_after : Tables → Outcome → Tables
tables_after tables (Replies change reply) = applied tables change
tables_after tables (Refuses refusal) = tables
tables_after tables (Stops ending) = tables
tables_after tables (Unproved refusal) = tables

-- ---- the outcome of a command, and the tables that commands leave

-- `command` over `tables` has the outcome `outcome`
pub data Comes (tables : Tables) (command : Command) (outcome : Outcome) : Type 0 where
  AtOnce : asked tables command ≡ IsDecided outcome → Comes tables command outcome
  -- the outcome of a solve of an open round is decided by the ending of the stated run over the round's pool
  ByRun : (number : ℕ) (limits : Limits) (pool : Pool) (ending : Ending) → command ≡ Solve number limits → asked tables command ≡ NeedsRun pool → RunEnds pool limits ending →
      outcome ≡ solved number pool ending → Comes tables command outcome

-- `command` leads from the tables `before` to the tables `after`
pub record Leads (before : Tables) (command : Command) (after : Tables) : Type 0 where
  pub outcome : Outcome
  pub comes : Comes before command outcome
  pub leaves : after ≡ tables_after before outcome

-- the commands, one after the other, lead from the tables `before` to the tables `after`
abbrev pub LeadThrough : Tables → List Command → Tables → Type 0
LeadThrough before [] after = after ≡ before
LeadThrough before (command ∷ later) after = (next : Tables) × (Leads before command next × LeadThrough next later after)

-- the tables that a list of commands leaves, from the first tables on
abbrev pub Folds : List Command → Tables → Type 0
Folds commands tables = LeadThrough first_tables commands tables
