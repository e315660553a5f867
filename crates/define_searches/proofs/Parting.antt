-- Each volunteer of a pool is in exactly one of the pool's classes.
use Rattle.std.proofs.Common.{◌≡◌, ℕ, ◌<◌, Bool, true, List, [], ◌∷◌, map, length, cond, refl, sym, ◌∙◌, subst, arith}
use Rattle.std.specs.List.{AllByRecursion, range_with_len}
use Rattle.define_pools.proofs.Each.{each_everywhere, each_filter, each_mapped, each_range}
use Rattle.define_pools.proofs.Sums.{sum_by-is-total, total, one_if}
use Rattle.define_pools.specs.Lists.{includes, is_increasing}
use Rattle.define_pools.specs.Pool.{Pool}
use Rattle.define_searches.specs.Classes.{Class, MakesClasses, PartVolunteers, class_of, class_by, classes_by, leaders, volunteer_count}
use Rattle.define_searches.proofs.ByClass.{one_leader}
use Rattle.define_searches.proofs.FirstPanel.{filter_increases, holds_filter}
use Rattle.define_searches.proofs.PoolClasses.{members_in_all}

module _ (pool : Pool) (alike : ℕ → ℕ → Bool) (makes : MakesClasses pool alike) where
  abbrev many : ℕ
  many = length pool.volunteers

  pub all_counted : volunteer_count (classes_by alike pool) ≡ length pool.volunteers
  all_counted = members_in_all pool alike makes

  each_class : (P : Class → Type 0) → ((l : ℕ) → P (class_by alike pool l)) → AllByRecursion P (classes_by alike pool).classes
  each_class P f = each_mapped P (class_by alike pool) (leaders alike many) (each_everywhere (λ l. P (class_by alike pool l)) f (leaders alike many))

  members_below : (l : ℕ) → AllByRecursion (λ i. i < many) (class_of alike many l)
  members_below l = each_filter (λ i. i < many) (alike l) (range_with_len 0 many) (each_range (λ i. alike l i ≡ true → i < many) 0 many (λ i low high t. omega arith))

  -- the number of classes that contain a volunteer equals the number of leaders to whom the volunteer is alike
  classes_with : (i : ℕ) → i < many → (xs : List ℕ) → total (λ (class : Class). cond (includes class.members i) 1 0) (map (class_by alike pool) xs) ≡ total (λ l. one_if (alike l i)) xs
  classes_with i below [] = refl
  classes_with i below (l ∷ xs) =
      let here : includes (class_of alike many l) i ≡ alike l i = holds_filter (alike l) i 0 many (omega arith) (omega arith) in
      let rest = classes_with i below xs in rw (here, rest) refl

  pub classes_part : PartVolunteers (classes_by alike pool)
  classes_part = record {
    rising = each_class (λ class. is_increasing class.members ≡ true) (λ l. filter_increases (alike l) 0 many);
    known = subst (λ n. AllByRecursion (λ (class : Class). AllByRecursion (λ i. i < n) class.members) (classes_by alike pool).classes) (sym all_counted)
        (each_class (λ class. AllByRecursion (λ i. i < many) class.members) members_below);
    once = λ i below.
        let inside : i < many = subst (λ n. i < n) all_counted below in
        sum_by-is-total (λ (class : Class). cond (includes class.members i) 1 0) (classes_by alike pool).classes
        ∙ classes_with i inside (leaders alike many) ∙ one_leader alike makes.same many i inside;
  }
