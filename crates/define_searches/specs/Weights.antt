-- The greatest sums of units in a row, and the weights of fronts in it. Builds on Beside, on Row of `define_rows`, and on Classes,
-- Compositions and Fronts of `define_searches`. `panel_search` and `check_search` keep both as tables.
use Rattle.std.specs.Prelude.{◌≡◌, ℕ, ◌+◌, ◌*◌, ◌^◌, ◌≤◌, ◌<◌, List, length, drop, take, ℤ, pos, ◌+ℤ◌, unsigned_abs, slice_index_or, slice_get, Some}
use Rattle.std.specs.Int.{int_max}
use Rattle.define_searches.specs.Beside.{EachHas}
use Rattle.define_rows.specs.Row.{Row, sum_of_sizes}
use Rattle.define_searches.specs.Classes.{Classes}
use Rattle.define_searches.specs.Compositions.{weight_in}
use Rattle.define_searches.specs.Fronts.{sizes_of, units, falling, sum_of, greatest_sum}

-- the number in place `i`, or 0 if there is none
abbrev pub at : List ℤ → ℕ → ℤ
at xs i = slice_index_or xs i (pos 0)

-- the products of sizes and absolute entries sum to below 2 ^ 127, so every sum of units fits 128 bits
pub record AreNarrow (all : Classes) (entries : List ℤ) : Type 0 where
  pub one_each : length entries ≡ length all.classes
  pub narrow : sum_of_sizes (sizes_of all) entries < 2 ^ 127

-- the weight can be added to each of the sums within 128 bits
abbrev pub CanAdd : ℤ → List ℤ → Type 0
CanAdd weight sums = (n : ℕ) → n < length sums → unsigned_abs (at sums n) + unsigned_abs weight < 2 ^ 127

-- the greatest sum of `count` units, out of `units` units and one more. If there are fewer than `count` without this one, it is the sum
-- with this one; else the greater of the sums with and without it
pub record IsGreater (units count : ℕ) (without with_it result : ℤ) : Type 0 where
  pub all_taken : units < count → result ≡ with_it
  pub some_left : count ≤ units → result ≡ int_max without with_it

-- `before` has the greatest sums of 0, 1, 2 and more of `units` units, and `after` those with one more unit of weight `weight`
pub record HasUnit (units : ℕ) (weight : ℤ) (before after : List ℤ) : Type 0 where
  pub same : length after ≡ length before
  pub none : at after 0 ≡ at before 0
  pub some : (n : ℕ) → n + 1 < length before → IsGreater units (n + 1) (at before (n + 1)) (at before n +ℤ weight) (at after (n + 1))

-- `sums` has the greatest sums of 0, 1, 2 and more of the units in `units`
abbrev pub AreGreatest : List ℤ → List ℤ → Type 0
AreGreatest units sums = (n : ℕ) → n < length sums → at sums n ≡ sum_of (take n (falling units))

-- the units of the classes from `place` on
abbrev pub units_from : Classes → List ℤ → ℕ → List ℤ
units_from all entries place = units (drop place all.classes) (drop place entries)

-- the place in the table for `count` units of the last `later` classes
abbrev pub cell_of : Classes → ℕ → ℕ → ℕ
cell_of all later count = later * (all.size + 1) + count

-- the table has `lines` lines. Line `later` has the greatest sums of the units of the last `later` classes: those of 0, 1, 2 and more
-- units, up to the size
pub record HoldsSums (all : Classes) (entries : List ℤ) (lines : ℕ) (table : List ℤ) : Type 0 where
  pub room : length table ≡ lines * (all.size + 1)
  pub each : (later place count : ℕ) → later < lines → later + place ≡ length all.classes → count ≤ all.size →
      at table (cell_of all later count) ≡ greatest_sum count (drop place all.classes) (drop place entries)

-- the table has all greatest sums over the row's entries: a line for each number of last classes, from 0 to all classes
abbrev pub IsSummed : Classes → Row → List ℤ → Type 0
IsSummed all row sums = HoldsSums all row.a (length all.classes + 1) sums

-- `sums` has an element for each row, in order; `read` of the element is the table of all the greatest sums in that row
abbrev pub SumEach : {S : Type 0} → (S → List ℤ) → Classes → List Row → List S → Type 0
SumEach read all rows sums = EachHas (λ row here. IsSummed all row (read here)) rows sums

-- at each place `depth` up to the length of the front, `weights` has the weight in a row of the first `depth` counts of the front
pub record Weighs (all : Classes) (row : Row) (front : List ℕ) (weights : List ℤ) : Type 0 where
  pub room : length weights ≡ length all.classes + 1
  pub each : (depth : ℕ) → depth ≤ length front → at weights depth ≡ weight_in row.a (take depth front)

-- `weights` has an element for each row, in order; `read` of the element is the list of weights in that row, as `Weighs` says
abbrev pub WeighEach : {W : Type 0} → (W → List ℤ) → Classes → List Row → List ℕ → List W → Type 0
WeighEach read all rows front weights = EachHas (λ row here. Weighs all row front (read here)) rows weights

-- `AreNarrow` holds of the entries of each of the rows
abbrev pub EachNarrow : Classes → List Row → Type 0
EachNarrow all rows = (i : ℕ) (row : Row) → slice_get rows i ≡ Some row → AreNarrow all row.a
