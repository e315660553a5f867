-- If a panel's composition, by leaders, is among the compositions, the panel is a quota panel.
use Rattle.std.proofs.Common.{◌≡◌, ℕ, ◌+◌, ◌-◌, ◌≤◌, ◌<◌, Bool, true, false, cond, not, ◌&&◌, eqb, leb, ltb, List, [], ◌∷◌, map, length, count_by, slice_index, Some, None, refl, sym, ap, ◌∙◌, ⊎_elim, arith, subst, le_of_eq}
use Rattle.std.specs.Prelude.{is_some}
use Rattle.std.specs.List.{list_all, list_any, AllByRecursion, range_with_len, enumerate_from}
use Rattle.std.proofs.lemmas.Bool.{and_parts, cases_Bool, eqb-true, eq-eqb, ne_eqb, leb-true, ltb-true, false≢true}
use Rattle.define_pools.proofs.Sums.{total, total_same, total-ones, one_if, length-filter-total, count_by-total}
use Rattle.define_pools.proofs.Lists.{map_same}
use Rattle.define_pools.proofs.Each.{each_both, each_everywhere, each_from_filter, each_from_list_all, each_map, each_mapped, list_all-enumerated, list_all_equal, range_each}
use Rattle.define_pools.specs.declared.Standing.{Standing}
use Rattle.define_pools.specs.declared.Standing.TheVariants.{Open, Seated, Gone}
use Rattle.define_pools.specs.Lists.{includes, is_increasing}
use Rattle.define_pools.specs.Pool.{Pool, volunteer, is_quota_panel, allows, keeps_standings, keeps_households, meets_quotas, members_with, is_within}
use Rattle.define_pools.proofs.AllPanels.{quota_from}
use Rattle.define_pools.proofs.Weights.{total_panel}
use Rattle.define_searches.specs.Classes.{leaders, class_of, least_taken, most_taken, shared_household, MakesClasses}
use Rattle.define_searches.specs.Compositions.{is_of_household}
use Rattle.define_searches.proofs.LeaderForm.{all_counts, composition_of, taken_of, meets_bounds, takes_one_of, takes_one_a_household, is_composition, compositions}
use Rattle.define_searches.proofs.ByClass.{Least, any_false, is_first, least_passing, leads}
use Rattle.define_searches.proofs.Households.{alike_number, households_kept}
use Rattle.define_searches.proofs.Contained.{filtered}
use Rattle.define_searches.proofs.Listed.{each_count}
use Rattle.define_searches.proofs.PanelCompositions.{passing, term_most}

-- if two functions map a list to the same list, they are equal at each of its elements
same_at_each : (f g : ℕ → ℕ) (xs : List ℕ) → map f xs ≡ map g xs → AllByRecursion (λ x. f x ≡ g x) xs
same_at_each f g [] e = tt
same_at_each f g (x ∷ xs) e = (cc, same_at_each f g xs cc)

module _ (pool : Pool) (alike : ℕ → ℕ → Bool) (makes : MakesClasses pool alike) (g : ℕ → ℕ) (panel : List ℕ) (up : is_increasing panel ≡ true)
    (below : list_all (λ i. ltb i (length pool.volunteers)) panel ≡ true) where
  abbrev n : ℕ
  n = length pool.volunteers

  abbrev standing_of : ℕ → Standing
  standing_of i = (volunteer pool.volunteers i).standing

  abbrev firsts : List ℕ
  firsts = leaders alike n

  abbrev counts : List ℕ
  counts = map g firsts

  abbrev size_of : ℕ → ℕ
  size_of l = length (class_of alike n l)

  each_below : AllByRecursion (λ i. i < n) panel
  each_below = each_map (λ i. ltb i n ≡ true) (λ i. i < n) (λ i e. ltb-true i n e) panel (each_from_list_all (λ i. ltb i n) panel below)

  taken_here : (l : ℕ) → count_by (alike l) panel ≡ total (λ i. cond (includes panel i) (one_if (alike l i)) 0) (range_with_len 0 n)
  taken_here l = count_by-total (alike l) panel ∙ total_panel (λ i. one_if (alike l i)) n panel up below

  -- if a panel has as many members of a class as the class has, each member of the class is on it
  all_in : (l i : ℕ) → i < n → alike l i ≡ true → size_of l ≤ count_by (alike l) panel → includes panel i ≡ true
  all_in l i inside t whole =
      let same = total_same (λ i. cond (includes panel i) (one_if (alike l i)) 0) (λ i. one_if (alike l i)) (range_with_len 0 n)
      (each_everywhere (λ i. cond (includes panel i) (one_if (alike l i)) 0 ≤ one_if (alike l i)) (λ i. term_most (includes panel i) (alike l i)) (range_with_len 0 n))
      (omega (arith, whole, taken_here l, length-filter-total (alike l) (range_with_len 0 n))) in
      let here = range_each (λ i. cond (includes panel i) (one_if (alike l i)) 0 ≡ one_if (alike l i)) 0 n i same (omega arith) (omega arith) in
      is_in (includes panel i) (rw t at here)
    where
      is_in : (b : Bool) → one_if b ≡ 1 → b ≡ true
      is_in true e = refl
      is_in false e = absurd (omega arith)

  -- if a panel has no member of a class, no member of the class is on it
  none_in : (l i : ℕ) → i < n → alike l i ≡ true → count_by (alike l) panel ≤ 0 → includes panel i ≡ false
  none_in l i inside t none =
      let same = total_same (λ i. 0) (λ i. cond (includes panel i) (one_if (alike l i)) 0) (range_with_len 0 n)
      (each_everywhere (λ i. 0 ≤ cond (includes panel i) (one_if (alike l i)) 0) (λ i. omega arith) (range_with_len 0 n))
      (omega (arith, none, taken_here l)) in
      let here = range_each (λ i. 0 ≡ cond (includes panel i) (one_if (alike l i)) 0) 0 n i same (omega arith) (omega arith) in
      is_out (includes panel i) (sym (rw t at here))
    where
      is_out : (b : Bool) → one_if b ≡ 0 → b ≡ false
      is_out true e = absurd (omega arith)
      is_out false e = refl

  -- if P holds of each element of the list of leaders, it holds of each volunteer who leads
  at_leaders : (P : ℕ → Type 0) → AllByRecursion P firsts → (l : ℕ) → l < n → leads alike makes.same n l ≡ true → P l
  unfolding leads
  at_leaders P each l inside lead =
      range_each (λ l. leads alike makes.same n l ≡ true → P l) 0 n l (each_from_filter P (leads alike makes.same n) (range_with_len 0 n) each) (omega arith) (omega arith) lead

  -- the leader of a volunteer's class
  leader_of : (i : ℕ) → Least (λ j. alike j i) i
  leader_of i = least_passing (λ j. alike j i) i (makes.same.itself i)

  lead_of : (i : ℕ) → leads alike makes.same n (leader_of i).at ≡ true
  lead_of i =
      let first = leader_of i in
      let e = is_first alike makes.same n i first first.at in
      let itself : eqb first.at first.at ≡ true = eq-eqb first.at first.at refl in
      leads_from (leads alike makes.same n first.at) (one_if (alike first.at i)) (rw itself at e)
    where
      leads_from : (b : Bool) (v : ℕ) → cond b v 0 ≡ 1 → b ≡ true
      leads_from true v h = refl
      leads_from false v h = absurd (omega arith)

  -- someone who shares a household is alone in a class, and so its leader
  leads_alone : (i h : ℕ) → shared_household pool.volunteers i ≡ Some h → leads alike makes.same n i ≡ true
  unfolding leads
  leads_alone i h e =
      let some : is_some (shared_household pool.volunteers i) ≡ true = ap is_some e in
      let none : list_any (λ j. alike j i) (range_with_len 0 i) ≡ false =
      any_false (λ j. alike j i) 0 i (λ k l m. ⊎_elim
      (λ (t : alike k i ≡ true). let same = makes.alone i k (makes.same.back k i t) some in absurd (omega arith))
      (λ (f : alike k i ≡ false). f) (cases_Bool (alike k i))) in
      ap not none

  module _ (composed : composition_of alike firsts panel ≡ counts)
      (within : AllByRecursion (λ l. (least_taken (standing_of l) (size_of l) ≤ g l) × (g l ≤ most_taken (standing_of l) (size_of l))) firsts)
      (composes : is_composition pool firsts counts ≡ true) where
    both : (eqb (taken_of (λ leader. true) firsts counts) pool.size && meets_bounds pool firsts counts ≡ true) × (takes_one_a_household pool firsts counts ≡ true)
    both = and_parts (eqb (taken_of (λ leader. true) firsts counts) pool.size && meets_bounds pool firsts counts) (takes_one_a_household pool firsts counts) composes

    parts : (eqb (taken_of (λ leader. true) firsts counts) pool.size ≡ true) × (meets_bounds pool firsts counts ≡ true)
    parts = and_parts (eqb (taken_of (λ leader. true) firsts counts) pool.size) (meets_bounds pool firsts counts) both.0

    -- the number of panel members that pass equals the sum of the counts of the leaders that pass
    taken_by : (passes : ℕ → Bool) → ((i j : ℕ) → alike i j ≡ true → passes i ≡ passes j) → count_by passes panel ≡ taken_of passes firsts counts
    taken_by passes respects = sym (passing alike makes.same n passes respects panel each_below) ∙ ap (taken_of passes firsts) composed

    size_is : length panel ≡ pool.size
    size_is =
        sym (total-ones panel) ∙ sym (count_by-total (λ leader. true) panel) ∙ taken_by (λ leader. true) (λ i j e. refl)
        ∙ eqb-true (taken_of (λ leader. true) firsts counts) pool.size parts.0

    meets : meets_quotas pool.categories pool.volunteers panel ≡ true
    meets =
        list_all_equal
        (λ (c, category). list_all (λ (v, value). is_within value (members_with pool.volunteers panel c v)) (enumerate_from 0 category.values))
        (λ (c, category). list_all (λ (v, value). is_within value (taken_of (λ leader. eqb (slice_index (volunteer pool.volunteers leader).values c) v) firsts counts)) (enumerate_from 0 category.values))
        (λ (c, category). list_all_equal (λ (v, value). is_within value (members_with pool.volunteers panel c v))
        (λ (v, value). is_within value (taken_of (λ leader. eqb (slice_index (volunteer pool.volunteers leader).values c) v) firsts counts))
        (λ (v, value). ap (is_within value) (value_is c v)) (enumerate_from 0 category.values))
        (enumerate_from 0 pool.categories)
        ∙ parts.1
      where
        value_is : (c v : ℕ) → members_with pool.volunteers panel c v ≡ taken_of (λ leader. eqb (slice_index (volunteer pool.volunteers leader).values c) v) firsts counts
        value_is c v = taken_by (λ i. eqb (slice_index (volunteer pool.volunteers i).values c) v) (λ i j e. ap (λ values. eqb (slice_index values c) v) (makes.values i j e))

    count_at : (l : ℕ) → l < n → leads alike makes.same n l ≡ true → count_by (alike l) panel ≡ g l
    count_at = at_leaders (λ l. count_by (alike l) panel ≡ g l) (same_at_each (λ l. count_by (alike l) panel) g firsts composed)

    keeps_at : (i : ℕ) → i < n → allows (standing_of i) (includes panel i) ≡ true
    keeps_at i inside =
        let first = leader_of i in
        let before : first.at < n = omega (arith, first.within) in
        let lead = lead_of i in
        let bounds = at_leaders (λ l. (least_taken (standing_of l) (size_of l) ≤ g l) × (g l ≤ most_taken (standing_of l) (size_of l))) within first.at before lead in
        keeps (standing_of first.at) (standing_of i) (makes.standing first.at i first.passes) (count_at first.at before lead) bounds.0 bounds.1
      where
        keeps : (s t : Standing) → s ≡ t → count_by (alike (leader_of i).at) panel ≡ g (leader_of i).at →
            least_taken s (size_of (leader_of i).at) ≤ g (leader_of i).at → g (leader_of i).at ≤ most_taken s (size_of (leader_of i).at) → allows t (includes panel i) ≡ true
        keeps Open t e is low high = subst (λ t. allows t (includes panel i) ≡ true) e refl
        keeps Seated t e is low high = subst (λ t. allows t (includes panel i) ≡ true) e (all_in (leader_of i).at i inside (leader_of i).passes (omega arith))
        keeps Gone t e is low high = subst (λ t. allows t (includes panel i) ≡ true) e (ap not (none_in (leader_of i).at i inside (leader_of i).passes (omega arith)))

    standings : keeps_standings pool.volunteers panel ≡ true
    standings =
        list_all-enumerated (λ (i, v). allows v.standing (includes panel i)) 0 pool.volunteers (record { id = []; values = []; standing = Gone; household = None })
        (λ k l. let e : 0 + k ≡ k = omega arith in subst (λ z. allows (standing_of k) (includes panel z) ≡ true) (sym e) (keeps_at k l))

    households : keeps_households pool.volunteers panel ≡ true
    households = households_kept pool.volunteers panel up below (each_map (λ i. i < n)
        (λ i. (h : ℕ) → shared_household pool.volunteers i ≡ Some h → count_by (λ j. is_of_household h (shared_household pool.volunteers j)) panel ≤ 1)
        (λ i inside h e.
        let one = at_leaders (λ l. takes_one_of pool firsts counts (shared_household pool.volunteers l) ≡ true)
        (each_from_list_all (λ l. takes_one_of pool firsts counts (shared_household pool.volunteers l)) firsts both.1) i inside (leads_alone i h e) in
        let of : ℕ → Bool = λ j. is_of_household h (shared_household pool.volunteers j) in
        let few = leb-true (taken_of of firsts counts) 1 (rw e at one) in
        omega (arith, few, taken_by of (λ i j t. ap (is_of_household h) (alike_number pool alike makes i j t)))) panel each_below)

    -- the panel is a quota panel
    pub panel_fits : is_quota_panel pool panel ≡ true
    panel_fits = quota_from pool panel (record { size = size_is; up = up; below = below; standings = standings; quotas = meets; households = households })

-- ---- each composition, as a function of the leaders

-- `counts` are the values of a function `of` at the leaders `firsts`, and its value at each `l` is from `low l` to `high l`
pub record ByLeader (low high : ℕ → ℕ) (firsts counts : List ℕ) : Type 0 where
  pub of : ℕ → ℕ
  pub is : counts ≡ map of firsts
  pub within : AllByRecursion (λ l. (low l ≤ of l) × (of l ≤ high l)) firsts

pub by_leader : (low high : ℕ → ℕ) → ((l : ℕ) → low l ≤ high l) → (firsts : List ℕ) → is_increasing firsts ≡ true → AllByRecursion (ByLeader low high firsts) (all_counts low high firsts)
by_leader low high order [] up = (record { of = λ l. 0; is = refl; within = tt }, tt)
by_leader low high order (l ∷ firsts) up =
    let ups = and_parts (list_all (λ y. ltb l y) firsts) (is_increasing firsts) up in
    let rest = by_leader low high order firsts ups.1 in
    let later = each_map (λ y. ltb l y ≡ true) (λ y. l < y) (λ y e. ltb-true l y e) firsts (each_from_list_all (λ y. ltb l y) firsts ups.0) in
    each_count (ByLeader low high (l ∷ firsts)) (λ c. map (λ counts. c ∷ counts) (all_counts low high firsts)) (low l) (high l - low l)
    (λ c lo hi. let o = order l in each_mapped (ByLeader low high (l ∷ firsts)) (λ counts. c ∷ counts) (all_counts low high firsts)
    (each_map (ByLeader low high firsts) (λ counts. ByLeader low high (l ∷ firsts) (c ∷ counts)) (λ counts given. extended low high l firsts c counts later lo (omega arith) given) (all_counts low high firsts) rest))
  where
    extended : (low high : ℕ → ℕ) (l : ℕ) (firsts : List ℕ) (c : ℕ) (counts : List ℕ) → AllByRecursion (λ y. l < y) firsts → low l ≤ c → c ≤ high l → ByLeader low high firsts counts → ByLeader low high (l ∷ firsts) (c ∷ counts)
    extended low high l firsts c counts later lo hi given =
        let of : ℕ → ℕ = λ y. cond (eqb y l) c (given.of y) in
        let here : of l ≡ c = let e : eqb l l ≡ true = eq-eqb l l refl in rw e refl in
        let others = each_map (λ y. l < y) (λ y. of y ≡ given.of y) (λ y m. let e : eqb y l ≡ false = ne_eqb y l (λ e. omega arith) in rw e refl) firsts later in
        let maps = map_same of given.of firsts others in
        let equal : map of firsts ≡ counts = maps ∙ sym given.is in
        record {
          of = of;
          is = cc;
          within = (
            (omega arith, omega arith),
            each_map (λ y. (of y ≡ given.of y) × ((low y ≤ given.of y) × (given.of y ≤ high y))) (λ y. (low y ≤ of y) × (of y ≤ high y))
                (λ y p. let e = p.0 in let a = p.1.0 in let b = p.1.1 in (omega arith, omega arith)) firsts (each_both (λ y. of y ≡ given.of y) (λ y. (low y ≤ given.of y) × (given.of y ≤ high y)) firsts others given.within),
          );
        }

pub least_to_most : (s : Standing) (size : ℕ) → least_taken s size ≤ most_taken s size
least_to_most Open size = omega arith
least_to_most Seated size = le_of_eq refl
least_to_most Gone size = le_of_eq refl

-- each composition has a count for each leader, from the least to the most of the leader's class
pub each_by_leader : (pool : Pool) (alike : ℕ → ℕ → Bool) → is_increasing (leaders alike (length pool.volunteers)) ≡ true →
    AllByRecursion (λ counts. ByLeader (λ l. least_taken (volunteer pool.volunteers l).standing (length (class_of alike (length pool.volunteers) l)))
    (λ l. most_taken (volunteer pool.volunteers l).standing (length (class_of alike (length pool.volunteers) l))) (leaders alike (length pool.volunteers)) counts
    × (is_composition pool (leaders alike (length pool.volunteers)) counts ≡ true)) (compositions pool alike)
each_by_leader pool alike up =
    let n = length pool.volunteers in
    let low : ℕ → ℕ = λ l. least_taken (volunteer pool.volunteers l).standing (length (class_of alike n l)) in
    let high : ℕ → ℕ = λ l. most_taken (volunteer pool.volunteers l).standing (length (class_of alike n l)) in
    filtered (ByLeader low high (leaders alike n)) (is_composition pool (leaders alike n)) (all_counts low high (leaders alike n))
    (by_leader low high (λ l. least_to_most (volunteer pool.volunteers l).standing (length (class_of alike n l))) (leaders alike n) up)
