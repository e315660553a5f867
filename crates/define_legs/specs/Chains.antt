-- Chains: lists of tables in order, with a stage open, in which each table is made from the one before by the pivot that Bland's rule
-- chooses. The laws say that a chain ends by itself: no basis comes twice. Builds on InOrder, Choice and Pivot of `define_rows`, and on
-- Binomials of `define_rows`. The laws of `define_legs` use it.
use Rattle.std.specs.Prelude.{◌≡◌, ℕ, zero, suc, ◌<◌, ◌≤◌, true, List, length, Contains, Some, Ok, slice_index_or}
use Rattle.std.specs.List.{All, AllPairs}
use Rattle.define_rows.specs.Binomials.{basis_count}
use Rattle.define_rows.specs.declared.Var.{Var}
use Rattle.define_rows.specs.Table.{Table}
use Rattle.define_rows.specs.Choice.{choice}
use Rattle.define_rows.specs.Pivot.{pivot}
use Rattle.define_rows.specs.InOrder.{IsInOrder}

-- `made` is the table after the pivot that is chosen in `table`
pub record IsNext (table made : Table) : Type 0 where
  pub row : ℕ
  pub entering : Var
  pub chosen : choice table ≡ Some (row, entering)
  pub pivoted : pivot table row entering ≡ Ok made

-- a chain: tables in order, with a stage open, each made from the one before by the chosen pivot
pub record IsChain (tables : List Table) : Type 0 where
  pub in_order : All IsInOrder tables
  pub open_now : All (λ table. table.in_stage ≡ true) tables
  pub next : (k : ℕ) (d : Table) → suc k < length tables → IsNext (slice_index_or tables k d) (slice_index_or tables (suc k) d)

-- the same variables are basic in both tables
abbrev pub HasBasisOf : Table → Table → Type 0
HasBasisOf table other = (v : Var) → (Contains table.basic v → Contains other.basic v) × (Contains other.basic v → Contains table.basic v)

-- no two tables of a chain have the same set of basic variables
abbrev pub NoBasisTwice : Type 0
NoBasisTwice = (tables : List Table) → IsChain tables → AllPairs (λ table other. HasBasisOf table other → ⊥) tables

-- how many sets of variables could be basic in a table
abbrev pub bases_of : Table → ℕ
bases_of table = basis_count (length table.sizes) (length table.stages) (length table.columns)

-- a chain has at most as many tables as there are sets of variables that could be basic in its first table, so fewer pivots
abbrev pub ChainsAreShort : Type 0
ChainsAreShort = (tables : List Table) (d : Table) → IsChain tables → 0 < length tables → length tables ≤ bases_of (slice_index_or tables 0 d)

-- `n` chosen pivots lead from the table `first` to `last`
abbrev pub Leads : ℕ → Table → Table → Type 0
Leads zero first last = first ≡ last
Leads (suc n) first last = (table : Table) × Leads n first table × IsNext table last

-- the chosen pivots that lead on from a table in order, with a stage open, are fewer than the sets of variables that could be basic in it
abbrev pub PivotsAreFew : Type 0
PivotsAreFew = (first last : Table) (n : ℕ) → IsInOrder first → first.in_stage ≡ true → Leads n first last → n < bases_of first
