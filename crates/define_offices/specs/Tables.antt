-- The tables of an office: all that it keeps of one assembly.
use Rattle.std.specs.Prelude.{ℕ, zero, suc, Bool, true, false, ◌&&◌, ◌==◌, List, [], ◌∷◌, map, bytes_eq, Option, Some, None}
use Rattle.define_pools.specs.Pool.{BoundedValue, Category}
use Rattle.define_bundles.specs.BundleText.{Bundle}
use Rattle.define_offices.specs.declared.Phase.{Phase}
use Rattle.define_offices.specs.declared.Phase.TheVariants as phase

-- what the assembly is called, the size of its panels, and how many rows its register takes
pub record Charter : Type 0 where
  pub title : List ℕ
  pub size : ℕ
  pub volunteers : ℕ

-- a row of the register: the volunteer's id, the digest of the volunteer's key, for each category the name of a value, a household if one
-- is known, and whether the volunteer withdrew
pub record Entry : Type 0 where
  pub id : List ℕ
  pub hash : List ℕ
  pub values : List (List ℕ)
  pub household : Option (List ℕ)
  pub withdrawn : Bool

-- a round, by its phase. It has a bundle once it is solved; once it is sealed, the round number of tickets that was kept with the seal, if
-- one was; and, once it is drawn, the digits of the dice and the ids of the volunteers who dropped out
pub data Round : Type 0 where
  Open : Round
  Solved : (bundle : Bundle) → Round
  Sealed : (bundle : Bundle) (tickets : Option ℕ) → Round
  Drawn : (bundle : Bundle) (tickets : Option ℕ) (digits : List ℕ) (dropped : List (List ℕ)) → Round

-- all that an office keeps of one assembly. `rules` are the categories; the first of `rounds` is round 1. `bounds` are the categories with
-- the bounds that were set for the last round, if some were
pub record Tables : Type 0 where
  pub charter : Option Charter
  pub rules : Option (List Category)
  pub register : List Entry
  pub rounds : List Round
  pub bounds : Option (List Category)

abbrev pub first_tables : Tables
first_tables = record { charter = None; rules = None; register = []; rounds = Open ∷ []; bounds = None }

-- how many rows the register takes: as many as the charter says, or 400 if there is no charter
abbrev pub most_rows : Option Charter → ℕ
most_rows None = 400
most_rows (Some charter) = charter.volunteers

abbrev pub phase_of : Round → Phase
phase_of Open = phase.Open
phase_of (Solved bundle) = phase.Solved
phase_of (Sealed bundle tickets) = phase.Sealed
phase_of (Drawn bundle tickets digits dropped) = phase.Drawn

-- the bundle that a round keeps, if it has one
abbrev pub bundle_of : Round → Option Bundle
bundle_of Open = None
bundle_of (Solved bundle) = Some bundle
bundle_of (Sealed bundle tickets) = Some bundle
bundle_of (Drawn bundle tickets digits dropped) = Some bundle

-- the round number of tickets that is kept with the seal of a round, if there is one
abbrev pub tickets_of : Round → Option ℕ
tickets_of Open = None
tickets_of (Solved bundle) = None
tickets_of (Sealed bundle tickets) = tickets
tickets_of (Drawn bundle tickets digits dropped) = tickets

-- the round at a place, counted from 0, if there is one
abbrev pub round_at : List Round → ℕ → Option Round
round_at [] place = None
round_at (round ∷ rounds) zero = Some round
round_at (round ∷ rounds) (suc place) = round_at rounds place

-- the rounds, with `change` applied to the round at a place, counted from 0
abbrev pub changed_at : (Round → Round) → List Round → ℕ → List Round
changed_at change [] place = []
changed_at change (round ∷ rounds) zero = change round ∷ rounds
changed_at change (round ∷ rounds) (suc place) = round ∷ changed_at change rounds place

-- the round with a number, counted from 1, if there is one
abbrev pub named_round : List Round → ℕ → Option Round
named_round rounds zero = None
named_round rounds (suc place) = round_at rounds place

abbrev pub changed_named : (Round → Round) → List Round → ℕ → List Round
changed_named change rounds zero = rounds
changed_named change rounds (suc place) = changed_at change rounds place

abbrev pub last_phase : List Round → Phase
last_phase [] = phase.Open
last_phase (round ∷ []) = phase_of round
last_phase (round ∷ next ∷ later) = last_phase (next ∷ later)

-- round 1 is the last round and is open: charter and rules may still be set, and rows may still be added
abbrev pub is_enrolling : List Round → Bool
is_enrolling [] = false
is_enrolling (Open ∷ []) = true
is_enrolling (Open ∷ next ∷ later) = false
is_enrolling (Solved bundle ∷ later) = false
is_enrolling (Sealed bundle tickets ∷ later) = false
is_enrolling (Drawn bundle tickets digits dropped ∷ later) = false

-- no rounds if there is one that is open; else all of them
abbrev pub unless_open : List Round → List Round
unless_open [] = []
unless_open (Open ∷ []) = []
unless_open (Open ∷ next ∷ later) = Open ∷ next ∷ later
unless_open (Solved bundle ∷ later) = Solved bundle ∷ later
unless_open (Sealed bundle tickets ∷ later) = Sealed bundle tickets ∷ later
unless_open (Drawn bundle tickets digits dropped ∷ later) = Drawn bundle tickets digits dropped ∷ later

-- the rounds without the one at a place, counted from 0, if it is the last and open; else all of them
abbrev pub taken_at : List Round → ℕ → List Round
taken_at [] place = []
taken_at (round ∷ later) zero = unless_open (round ∷ later)
taken_at (round ∷ later) (suc place) = round ∷ taken_at later place

-- the same for the round with a number, counted from 1
abbrev pub taken_named : List Round → ℕ → List Round
taken_named rounds zero = rounds
taken_named rounds (suc place) = taken_at rounds place

-- ---- tests of equality

abbrev pub same_names : List (List ℕ) → List (List ℕ) → Bool
same_names [] [] = true
same_names [] (other ∷ others) = false
same_names (name ∷ names) [] = false
same_names (name ∷ names) (other ∷ others) = bytes_eq name other && same_names names others

abbrev pub same_charter : Charter → Charter → Bool
same_charter one other = bytes_eq one.title other.title && (one.size == other.size) && (one.volunteers == other.volunteers)

abbrev pub same_values : List BoundedValue → List BoundedValue → Bool
same_values [] [] = true
same_values [] (other ∷ others) = false
same_values (value ∷ values) [] = false
same_values (value ∷ values) (other ∷ others) =
    bytes_eq value.name other.name && (value.lower == other.lower) && (value.upper == other.upper) && same_values values others

abbrev pub same_rules : List Category → List Category → Bool
same_rules [] [] = true
same_rules [] (other ∷ others) = false
same_rules (category ∷ categories) [] = false
same_rules (category ∷ categories) (other ∷ others) =
    bytes_eq category.name other.name && same_values category.values other.values && same_rules categories others

-- both lists have the same names of categories and values, in the same order; their bounds may differ
abbrev pub same_shape : List Category → List Category → Bool
same_shape [] [] = true
same_shape [] (other ∷ others) = false
same_shape (category ∷ categories) [] = false
same_shape (category ∷ categories) (other ∷ others) =
    bytes_eq category.name other.name && same_names (map (λ value. value.name) category.values) (map (λ value. value.name) other.values) && same_shape categories others

abbrev pub same_household : Option (List ℕ) → Option (List ℕ) → Bool
same_household None None = true
same_household None (Some other) = false
same_household (Some name) None = false
same_household (Some name) (Some other) = bytes_eq name other
