-- The columns of a pool by class, and by volunteer, satisfy `AreColumns` and `NumberColumns`.
use Rattle.std.proofs.Common.{◌≡◌, ℕ, ◌+◌, ◌≤◌, ◌<◌, map, length, get_or, ap, ◌∙◌, arith}
use Rattle.std.specs.List.{All, AllByRecursion}
use Rattle.std.proofs.lemmas.Bool.{leb-true}
use Rattle.std.proofs.lemmas.List.{length-map}
use Rattle.std.proofs.lemmas.List.Elements.{All-from_recursion, All-map}
use Rattle.std.proofs.lemmas.List.FromFn.{get_or-range_with_len, length-range_with_len}
use Rattle.std.proofs.lemmas.List.Sums.{get_or-le-sum_by}
use Rattle.define_pools.specs.Pool.{IsPool, Pool, everybody, volunteer}
use Rattle.define_pools.specs.declared.Standing.{Standing}
use Rattle.define_pools.specs.declared.Standing.TheVariants.{Open, Seated, Gone}
use Rattle.define_searches.specs.Classes.{Class, Classes, KeepsLimits, MakesClasses, PartVolunteers, are_alike, class_number, classes_of, least_taken, most_taken, volunteer_count}
use Rattle.define_searches.proofs.AlikeClasses.{alike_makes}
use Rattle.define_searches.proofs.ClassNumbers.{number_below}
use Rattle.define_searches.proofs.Limits.{limits_kept}
use Rattle.define_searches.proofs.Parting.{all_counted, classes_part}
use Rattle.prove_program.specs.declared.columns.Column.{Column}
use Rattle.prove_program.specs.Demands.{AreColumns, IsColumn, NumberColumns}
use Rattle.prove_program.specs.Programs.{class_column, class_columns, own_column, own_columns}

module _ (pool : Pool) (is : IsPool pool) where
  abbrev n : ℕ
  n = length pool.volunteers

  few : n ≤ 4000
  few = leb-true n 4000 is.few_volunteers

  -- ---- classes

  abbrev all : Classes
  all = classes_of pool

  makes : MakesClasses pool (are_alike pool)
  makes = alike_makes pool

  limits : KeepsLimits all
  limits = limits_kept pool (are_alike pool) is makes

  parts : PartVolunteers all
  parts = classes_part pool (are_alike pool) makes

  count : volunteer_count all ≡ n
  count = all_counted pool (are_alike pool) makes

  class_first : All (λ class. (class_column class).first < n) all.classes
  class_first k d l =
      let class : Class = get_or all.classes k d in
      let known = All-from_recursion (λ class. AllByRecursion (λ i. i < volunteer_count all) class.members) all.classes parts.known k d l in
      let has = limits.members k d l in
      let below = All-from_recursion (λ i. i < volunteer_count all) class.members known 0 0 (omega arith) in
      omega (arith, below, count)

  class_is : All (λ class. IsColumn (class_column class)) all.classes
  class_is k d l =
      let in_order = All-from_recursion (λ class. class.least ≤ class.most) all.classes limits.searchable.in_order k d l in
      let most = limits.most k d l in
      let size = get_or-le-sum_by (λ class. length class.members) all.classes k d l in
      let in_all = limits.few_members in
      record { has_member = limits.members k d l; few = omega (arith, size, in_all); in_order = in_order; within = most }

  pub classes_are_columns : AreColumns pool (class_columns pool)
  classes_are_columns = record {
    few = let count = length-map all.classes class_column in let few = limits.few_classes in omega (arith, count, few);
    firsts = All-map (λ column. column.first < n) class_column all.classes class_first;
    each = All-map IsColumn class_column all.classes class_is;
  }

  pub classes_are_numbered : NumberColumns pool (map (class_number all.classes) (everybody pool)) (class_columns pool)
  classes_are_numbered = record {
    one_each = length-map (everybody pool) (class_number all.classes) ∙ length-range_with_len 0 n;
    within = All-map (λ t. t < length (class_columns pool)) (class_number all.classes) (everybody pool) number;
  }
    where
      number : All (λ i. class_number all.classes i < length (class_columns pool)) (everybody pool)
      number k d l =
          let many = length-range_with_len 0 n in
          let at : get_or (everybody pool) k d ≡ 0 + k = get_or-range_with_len 0 n k d (omega arith) in
          let below = number_below pool (are_alike pool) makes k (omega arith) in
          let count = length-map all.classes class_column in
          let same : class_number all.classes (get_or (everybody pool) k d) ≡ class_number all.classes k = ap (class_number all.classes) (at ∙ (let e : 0 + k ≡ k = omega arith in e)) in
          omega (arith, same, below, count)

  -- ---- volunteers

  own_first : All (λ i. (own_column pool i).first < n) (everybody pool)
  own_first k d l =
      let many = length-range_with_len 0 n in
      let at : get_or (everybody pool) k d ≡ 0 + k = get_or-range_with_len 0 n k d (omega arith) in omega (arith, at)

  own_is : (i : ℕ) → IsColumn (own_column pool i)
  own_is i = by (volunteer pool.volunteers i).standing
    where
      by : (s : Standing) → let column : Column = record { first = i; size = 1; least = least_taken s 1; greatest = most_taken s 1 } in IsColumn column
      by Open = record { has_member = omega arith; few = omega arith; in_order = omega arith; within = omega arith }
      by Seated = record { has_member = omega arith; few = omega arith; in_order = omega arith; within = omega arith }
      by Gone = record { has_member = omega arith; few = omega arith; in_order = omega arith; within = omega arith }

  pub own_are_columns : AreColumns pool (own_columns pool)
  own_are_columns = record {
    few = let many = length-range_with_len 0 n in let count = length-map (everybody pool) (own_column pool) in let small = few in omega (arith, many, count, small);
    firsts = All-map (λ column. column.first < n) (own_column pool) (everybody pool) own_first;
    each = All-map IsColumn (own_column pool) (everybody pool) (λ k d l. own_is (get_or (everybody pool) k d));
  }

  pub own_are_numbered : NumberColumns pool (everybody pool) (own_columns pool)
  own_are_numbered = record {
    one_each = length-range_with_len 0 n;
    within = λ k d l.
        let many = length-range_with_len 0 n in
        let at : get_or (everybody pool) k d ≡ 0 + k = get_or-range_with_len 0 n k d (omega arith) in
        let count = length-map (everybody pool) (own_column pool) in omega (arith, at, many, count);
  }
