-- The columns of positive value are parts that can be spread.
use Rattle.std.proofs.Common.{◌≡◌, ◌≢◌, ℕ, suc, ◌+◌, ◌*◌, ◌/◌, ◌<◌, true, false, not, ◌&&◌, ◌||◌, List, [], ◌∷◌, length, map, get_or, refl, sym, ap, ap₂, ◌∙◌, subst, arith}
use Rattle.std.specs.Prelude.{Contains, bytes_eq}
use Rattle.std.specs.Int.{◌∣◌}
use Rattle.std.specs.List.{AllByRecursion, AllPairs}
use Rattle.std.proofs.lemmas.List.Elements.{All-from_recursion, recursion_from_All}
use Rattle.std.proofs.lemmas.Slice.Eq.{bytes_eq-Decides}
use Rattle.std.proofs.lemmas.Bool.{false_from_ne_true}
use Rattle.define_pools.proofs.Sums.{total, sum_by-is-total}
use Rattle.define_pools.proofs.Each.{each_map, each_mapped, each_of_map}
use Rattle.frac128.specs.Divisors.{gcd_of}
use Rattle.frac128.specs.Fractions.{Fraction, lowest_of}
use Rattle.frac128.proofs.DivisorLaws.{beyond-positive}
use Rattle.frac128.proofs.FractionLaws.{IsLowest-divided}
use Rattle.define_pools.specs.Lists.{all_different, includes_list}
use Rattle.define_rows.specs.Table.{Table}
use Rattle.define_rows.specs.Steps.{ColumnValue, fraction_of, solution}
use Rattle.define_rows.specs.Solutions.{SolutionStands, numerator_over}
use Rattle.define_rows.proofs.Satisfied.{solution-stands}
use Rattle.define_searches.specs.Classes.{Classes}
use Rattle.define_searches.specs.Compositions.{compositions}
use Rattle.define_runs.specs.Spreading.{AreParts}
use Rattle.define_runs.specs.Run.{RunLimits, parts_of}
use Rattle.define_runs.specs.Keeps.{KeepsRun}

module _ (all : Classes) (limits : RunLimits) (table : Table) (keeps : KeepsRun all limits table) where
  part_at : ColumnValue → List ℕ × Fraction
  part_at there = (get_or table.columns there.column [], lowest_of there.side there.coefficient)

  mapped_twice : (theres : List ColumnValue) → map (λ (c, value). (get_or table.columns c [], value)) (map fraction_of theres) ≡ map part_at theres
  unfolding part_at
  mapped_twice [] = refl
  mapped_twice (there ∷ theres) = ap (λ rest. (get_or table.columns there.column [], lowest_of there.side there.coefficient) ∷ rest) (mapped_twice theres)

  solved : SolutionStands table
  solved = solution-stands table keeps.in_order

  known : AllByRecursion (λ there. there.column < length table.columns) (solution table)
  known = recursion_from_All (λ there. there.column < length table.columns) (solution table) solved.known

  positive : AllByRecursion (λ there. (0 < there.side) × (0 < there.coefficient)) (solution table)
  positive = recursion_from_All (λ there. (0 < there.side) × (0 < there.coefficient)) (solution table) solved.positive

  -- ---- different columns

  columns_of : List ColumnValue → List (List ℕ)
  columns_of theres = map (λ there. get_or table.columns there.column []) theres

  same_columns : (theres : List ColumnValue) → map (λ part. part.0) (map part_at theres) ≡ columns_of theres
  unfolding part_at columns_of
  same_columns [] = refl
  same_columns (there ∷ theres) = ap (λ rest. get_or table.columns there.column [] ∷ rest) (same_columns theres)

  later : (there : ColumnValue) (theres : List ColumnValue) → AllPairs (λ a b. a.column < b.column) (there ∷ theres) → AllByRecursion (λ b. there.column < b.column) theres
  later there theres pairs = recursion_from_All (λ b. there.column < b.column) theres (λ k d l. pairs 0 (suc k) d (omega arith) (omega arith))

  rest_pairs : (there : ColumnValue) (theres : List ColumnValue) → AllPairs (λ a b. a.column < b.column) (there ∷ theres) → AllPairs (λ a b. a.column < b.column) theres
  rest_pairs there theres pairs = λ i j d l m. pairs (suc i) (suc j) d (omega arith) (omega arith)

  stands_apart : (there : ColumnValue) (theres : List ColumnValue) → AllByRecursion (λ b. there.column < b.column) theres → AllByRecursion (λ b. b.column < length table.columns) theres →
      includes_list (columns_of theres) (get_or table.columns there.column []) ≡ false
  unfolding columns_of
  stands_apart there [] above within = refl
  stands_apart there (next ∷ theres) above within =
      let differ : get_or table.columns there.column [] ≢ get_or table.columns next.column [] = keeps.in_order.columns_different there.column next.column above.0 within.0 in
      let here : bytes_eq (get_or table.columns there.column []) (get_or table.columns next.column []) ≡ false =
      false_from_ne_true (bytes_eq (get_or table.columns there.column []) (get_or table.columns next.column []))
      (λ e. differ ((bytes_eq-Decides (get_or table.columns there.column []) (get_or table.columns next.column [])).0 e)) in
      ap₂ (λ a b. a || b) here (stands_apart there theres above.1 within.1)

  all_apart : (theres : List ColumnValue) → AllPairs (λ a b. a.column < b.column) theres → AllByRecursion (λ b. b.column < length table.columns) theres → all_different (columns_of theres) ≡ true
  unfolding columns_of
  all_apart [] pairs within = refl
  all_apart (there ∷ theres) pairs within =
      ap₂ (λ a b. not a && b) (stands_apart there theres (later there theres pairs) within.1) (all_apart theres (rest_pairs there theres pairs) within.1)

  -- ---- the values of the parts sum to one

  numerators : (common : ℕ) (theres : List ColumnValue) → total (λ part. part.1.num * (common / part.1.den)) (map part_at theres) ≡ total (numerator_over common) theres
  unfolding part_at
  numerators common [] = refl
  numerators common (there ∷ theres) = ap (λ rest. numerator_over common there + rest) (numerators common theres)

  pub parts_are : AreParts all (parts_of table)
  unfolding part_at
  parts_are = subst (AreParts all) (sym (mapped_twice (solution table))) (record {
    compositions = All-from_recursion (λ part. Contains (compositions all) part.0) (map part_at (solution table))
        (each_mapped (λ part. Contains (compositions all) part.0) part_at (solution table)
        (each_map (λ there. there.column < length table.columns) (λ there. Contains (compositions all) (get_or table.columns there.column []))
        (λ there l. keeps.columns there.column [] l) (solution table) known));
    different = ap all_different (same_columns (solution table)) ∙ all_apart (solution table) solved.rises known;
    positive = All-from_recursion (λ part. 0 < part.1.num) (map part_at (solution table))
        (each_mapped (λ part. 0 < part.1.num) part_at (solution table)
        (each_map (λ there. (0 < there.side) × (0 < there.coefficient)) (λ there. 0 < (lowest_of there.side there.coefficient).num)
        (λ there p. beyond-positive there.side there.coefficient (gcd_of there.side there.coefficient) refl p.0) (solution table) positive));
    over = All-from_recursion (λ part. 0 < part.1.den) (map part_at (solution table))
        (each_mapped (λ part. 0 < part.1.den) part_at (solution table)
        (each_map (λ there. (0 < there.side) × (0 < there.coefficient)) (λ there. 0 < (lowest_of there.side there.coefficient).den)
        (λ there p. (IsLowest-divided there.side there.coefficient (gcd_of there.side there.coefficient) refl p.1).0) (solution table) positive));
    one = λ common h.
        let divided = each_of_map (λ part. part.1.den ∣ common) part_at (solution table) (recursion_from_All (λ part. part.1.den ∣ common) (map part_at (solution table)) h) in
        sum_by-is-total (λ part. part.1.num * (common / part.1.den)) (map part_at (solution table))
        ∙ numerators common (solution table) ∙ sym (sum_by-is-total (numerator_over common) (solution table))
        ∙ solved.one common (All-from_recursion (λ there. (lowest_of there.side there.coefficient).den ∣ common) (solution table) divided);
  })
