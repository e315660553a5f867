-- What a tree shows: that no quota panel passes a stage's cap, or that there is no quota panel.
use Rattle.std.proofs.Common.{◌≡◌, ℕ, zero, suc, ◌+◌, Bool, true, false, not, ◌&&◌, ◌||◌, ltb, List, [], ◌∷◌, map, set, length, get_or, pos, ◌≤ℤ◌, refl, sym, ap, ◌∙◌, subst, arith, ◌⊎◌, inl, inr}
use Rattle.std.specs.Prelude.{int_le}
use Rattle.std.specs.List.{AllByRecursion, enumerate_from, list_all}
use Rattle.std.proofs.lemmas.Bool.{and_from, and_parts, false_from_ne_true}
use Rattle.std.proofs.lemmas.Int.{ints}
use Rattle.std.proofs.lemmas.List.{length-map, length-set}
use Rattle.define_pools.proofs.Each.{each_everywhere, each_filter_passes, list_all_from_each, none_pass}
use Rattle.define_pools.proofs.Integers.{tested-le}
use Rattle.define_pools.proofs.Tests.{implies}
use Rattle.define_pools.specs.declared.Standing.{Standing}
use Rattle.define_pools.specs.declared.Standing.TheVariants.{Seated, Gone}
use Rattle.define_pools.specs.Certificate.{Stage, attains, is_capped, panel_weight, weight_of}
use Rattle.define_pools.specs.Lists.{choices, includes, is_increasing}
use Rattle.define_pools.specs.Pool.{Pool, Volunteer, allows, everybody, is_quota_panel, panels}
use Rattle.define_pools.proofs.AllPanels.{quota_parts}
use Rattle.define_proofs.specs.CapsHold.{EarlierCapsHold}
use Rattle.define_proofs.specs.Leaves.{Problem, no_panel, no_panel_problem, stage_problem, standings}
use Rattle.define_proofs.specs.Trees.{AtLeaf, AtSplit, Tree, is_undecided, tree_shows}
use Rattle.define_proofs.proofs.LeafShows.{keeps, weight_below}
use Rattle.define_proofs.proofs.MetConstraints.{Meets, all_met}
use Rattle.define_proofs.proofs.SignedSums.{sum-is-total, total}

-- ---- a panel in one of the two subtrees of a split

module _ (panel : List ℕ) where
  -- let a panel keep the standings `all`. If `standing` agrees with whether volunteer `first + i` is a member, the panel also keeps `all`
  -- with `standing` in the place of this volunteer's
  keeps_set : (first i : ℕ) (all : List Standing) (standing : Standing) → keeps panel first all ≡ true → allows standing (includes panel (first + i)) ≡ true → keeps panel first (set all i standing) ≡ true
  keeps_set first i [] standing h k = refl
  keeps_set first zero (one ∷ all) standing h k =
      let parts = and_parts (allows one (includes panel first)) (keeps panel (first + 1) all) h in
      let here : first + 0 ≡ first = omega arith in
      and_from (allows standing (includes panel first)) (keeps panel (first + 1) all) (subst (λ j. allows standing (includes panel j) ≡ true) here k) parts.1
  keeps_set first (suc i) (one ∷ all) standing h k =
      let parts = and_parts (allows one (includes panel first)) (keeps panel (first + 1) all) h in
      let next : first + suc i ≡ (first + 1) + i = omega arith in
      and_from (allows one (includes panel first)) (keeps panel (first + 1) (set all i standing)) parts.0
      (keeps_set (first + 1) i all standing parts.1 (subst (λ j. allows standing (includes panel j) ≡ true) next k))

  -- a panel that keeps the standings before a split keeps those of one of its two subtrees
  keeps_one : (i : ℕ) (all : List Standing) → keeps panel 0 all ≡ true → (keeps panel 0 (set all i Gone) ≡ true) ⊎ (keeps panel 0 (set all i Seated) ≡ true)
  keeps_one i all h = by (includes panel i) refl
    where
      here : 0 + i ≡ i
      here = omega arith

      by : (b : Bool) → includes panel i ≡ b → (keeps panel 0 (set all i Gone) ≡ true) ⊎ (keeps panel 0 (set all i Seated) ≡ true)
      by false e = inl (keeps_set 0 i all Gone h (ap (allows Gone) (ap (includes panel) here ∙ e)))
      by true e = inr (keeps_set 0 i all Seated h (ap (allows Seated) (ap (includes panel) here ∙ e)))

  module _ (problem : Problem) (up : is_increasing panel ≡ true) (met : AllByRecursion (Meets panel) problem.constraints) where
    -- if a tree shows the cap for standings that the panel keeps, the panel weighs at most the cap
    pub tree_weight_below : (tree : Tree) (all : List Standing) → list_all (λ i. ltb i (length all)) panel ≡ true → keeps panel 0 all ≡ true → tree_shows problem all tree ≡ true →
        total (weight_of problem.stage) panel ≤ℤ problem.stage.cap
    tree_weight_below (AtLeaf leaf) all below kept shows = weight_below problem all panel up below kept met leaf shows
    tree_weight_below (AtSplit i without with) all below kept shows =
        let A = is_undecided all i in let B = tree_shows problem (set all i Gone) without in
        let parts = and_parts (A && B) (tree_shows problem (set all i Seated) with) shows in
        let first = and_parts A B parts.0 in
        by (keeps_one i all kept)
        (λ k. tree_weight_below without (set all i Gone) (still Gone) k first.1)
        (λ k. tree_weight_below with (set all i Seated) (still Seated) k parts.1)
      where
        still : (standing : Standing) → list_all (λ j. ltb j (length (set all i standing))) panel ≡ true
        still standing = subst (λ n. list_all (λ j. ltb j n) panel ≡ true) (sym (length-set all i standing)) below

        by : (keeps panel 0 (set all i Gone) ≡ true) ⊎ (keeps panel 0 (set all i Seated) ≡ true) →
            (keeps panel 0 (set all i Gone) ≡ true → total (weight_of problem.stage) panel ≤ℤ problem.stage.cap) →
            (keeps panel 0 (set all i Seated) ≡ true → total (weight_of problem.stage) panel ≤ℤ problem.stage.cap) →
            total (weight_of problem.stage) panel ≤ℤ problem.stage.cap
        by (inl k) f g = f k
        by (inr k) f g = g k

-- ---- trees over the standings of a pool

-- if a panel keeps each volunteer's standing, it keeps the list of the volunteers' standings
listed_standings : (panel : List ℕ) (first : ℕ) (volunteers : List Volunteer) → list_all (λ (i, volunteer). allows volunteer.standing (includes panel i)) (enumerate_from first volunteers) ≡ true →
    keeps panel first (map (λ volunteer. volunteer.standing) volunteers) ≡ true
listed_standings panel first [] h = refl
listed_standings panel first (volunteer ∷ volunteers) h =
    let A = allows volunteer.standing (includes panel first) in
    let rest = list_all (λ (i, volunteer). allows volunteer.standing (includes panel i)) (enumerate_from (first + 1) volunteers) in
    let parts = and_parts A rest h in
    and_from A (keeps panel (first + 1) (map (λ volunteer. volunteer.standing) volunteers)) parts.0 (listed_standings panel (first + 1) volunteers parts.1)

module _ (pool : Pool) (earlier : List Stage) (stage : Stage) (tree : Tree) (hold : EarlierCapsHold pool earlier) (shows : tree_shows (stage_problem pool earlier stage) (standings pool) tree ≡ true) where
  -- each quota panel that attains the earlier caps weighs at most the stage's cap
  pub weighs_at_most : (panel : List ℕ) → is_quota_panel pool panel ≡ true → attains earlier panel ≡ true → (panel_weight stage panel) ≤ℤ stage.cap
  weighs_at_most panel quota attained =
      let parts = quota_parts pool panel quota in
      let n = length pool.volunteers in
      let many : length (standings pool) ≡ n = length-map pool.volunteers (λ (volunteer : Volunteer). volunteer.standing) in
      let below = subst (λ n. list_all (λ i. ltb i n) panel ≡ true) (sym many) parts.below in
      let bound = tree_weight_below panel (stage_problem pool earlier stage) parts.up (all_met pool panel quota earlier hold attained) tree (standings pool) below
      (listed_standings panel 0 pool.volunteers parts.standings) shows in
      let same = sum-is-total (weight_of stage) panel in omega (arith, ints, bound, same)

  pub capped : is_capped pool earlier stage ≡ true
  capped =
      let within : List ℕ → Bool = λ panel. not (attains earlier panel) || int_le (panel_weight stage panel) stage.cap in
      list_all_from_each within (panels pool)
      (each_filter_passes (λ panel. within panel ≡ true) (is_quota_panel pool)
      (λ panel quota. implies (attains earlier panel) (int_le (panel_weight stage panel) stage.cap) (λ attained. tested-le (panel_weight stage panel) stage.cap (weighs_at_most panel quota attained)))
      (choices pool.size (everybody pool)))

-- ---- trees that show that a pool has no quota panel

weighs_nothing : (volunteers : List Volunteer) (i : ℕ) → get_or (map (λ volunteer. pos 0) volunteers) i (pos 0) ≡ pos 0
weighs_nothing [] i = refl
weighs_nothing (volunteer ∷ volunteers) zero = refl
weighs_nothing (volunteer ∷ volunteers) (suc i) = weighs_nothing volunteers i

module _ (pool : Pool) (tree : Tree) (shows : tree_shows (no_panel_problem pool) (standings pool) tree ≡ true) where
  pub is_none : (panel : List ℕ) → is_quota_panel pool panel ≡ true → ⊥
  is_none panel quota =
      let bound = weighs_at_most pool [] (no_panel pool) tree tt shows panel quota refl in
      let same = sum-is-total (weight_of (no_panel pool)) panel in
      let none = nothing panel in omega (arith, ints, bound, same, none)
    where
      nothing : (xs : List ℕ) → total (weight_of (no_panel pool)) xs ≡ pos 0
      nothing [] = refl
      nothing (x ∷ xs) = let here = weighs_nothing pool.volunteers x in let rest = nothing xs in omega (arith, ints, here, rest)

  pub no_panels : panels pool ≡ []
  no_panels =
      none_pass (is_quota_panel pool) (choices pool.size (everybody pool))
      (each_everywhere (λ panel. is_quota_panel pool panel ≡ false) (λ panel. false_from_ne_true (is_quota_panel pool panel) (is_none panel)) (choices pool.size (everybody pool)))
