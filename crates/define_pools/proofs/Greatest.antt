-- A certified lottery is leximin greatest.
use Rattle.std.proofs.Common.{◌≡◌, ℕ, ◌+◌, ◌*◌, ◌≤◌, ◌<◌, Bool, true, false, cond, not, ◌||◌, ◌&&◌, eqb, ltb, leb, List, [], ◌∷◌, length, ℤ, pos, negsuc, refl, sym, ap, ◌∙◌, ⊎_elim, arith, le_of_eq, mul-le-mul_right, zero-le, filter, fold, ◌+ℤ◌}
use Rattle.std.specs.Prelude.{int_lt, int_le}
use Rattle.std.specs.Ordering.{int_eq}
use Rattle.std.specs.List.{AllByRecursion}
use Rattle.std.proofs.lemmas.Bool.{and_from, or_cases, cases_Bool, eqb-true, leb-true, ltb-true, false≢true, not_from_false}
use Rattle.std.proofs.lemmas.Bool.Decides.{Decides-int_eq}
use borrow.Author.Differences.{up, down, sum_is_lem, le-true, true_is_le, true_is_lt}
use Rattle.define_pools.proofs.Tests.{implied}
use Rattle.define_pools.proofs.Sums.{total, sum_by-is-total, total_le, total_same, total_eq, total_ext}
use Rattle.define_pools.proofs.Each.{each_from_list_all, each_from_filter, each_map, each_both, each_everywhere}
use Rattle.define_pools.specs.Lists.{includes, rising}
use Rattle.define_pools.specs.Pool.{Pool, everybody, panels, is_quota_panel}
use Rattle.define_pools.specs.Lottery.{LotteryRow, Lottery, IsLottery, LeximinGreatest, count, counts, is_above}
use Rattle.define_pools.specs.Certificate.{Stage, weight_of, is_positive, panel_weight, is_settled, attains, unsettled, settling, StageHolds, StagesHold, Certifies}
use Rattle.define_pools.proofs.Orders.{at_most, at_most-rising, at_most-map, Rises-rising, NoMoreAtFirst, not_greater, le_one, Known, all_reach}
use Rattle.define_pools.proofs.Weights.{Fits, counted, exchange}
use Rattle.define_pools.proofs.OneStage.{Weighs, cancel, newly_equal, cap_met}
use Rattle.define_pools.proofs.AllPanels.{each_panel, quota_parts}

-- ---- weights as differences of two natural numbers

abbrev pub plus : Stage → ℕ → ℕ
plus stage i = up (weight_of stage i)

abbrev pub minus : Stage → ℕ → ℕ
minus stage i = down (weight_of stage i)

fold_parts : (stage : Stage) (sum : ℤ) (panel : List ℕ) →
    up (fold (λ sum i. sum +ℤ weight_of stage i) sum panel) + total (minus stage) panel + down sum
    ≡ total (plus stage) panel + down (fold (λ sum i. sum +ℤ weight_of stage i) sum panel) + up sum
fold_parts stage sum [] = omega arith
fold_parts stage sum (i ∷ panel) = omega (arith, sum_is_lem sum (weight_of stage i), fold_parts stage (sum +ℤ weight_of stage i) panel)

pub weight_parts : (stage : Stage) (panel : List ℕ) → up (panel_weight stage panel) + total (minus stage) panel ≡ total (plus stage) panel + down (panel_weight stage panel)
weight_parts stage panel = omega (arith, fold_parts stage (pos 0) panel)

-- `weight = cap` as an equation of natural numbers is `heavy = light`. The heavy side is the sum of the members' weights above 0,
-- and the cap without its sign if it is negative
abbrev heavy : Stage → List ℕ → ℕ
heavy stage panel = total (plus stage) panel + down stage.cap

-- the light side: the sum of the members' weights below 0, without their signs, and the cap if it is positive
abbrev light : Stage → List ℕ → ℕ
light stage panel = total (minus stage) panel + up stage.cap

light_from_test : (stage : Stage) (panel : List ℕ) → int_le (panel_weight stage panel) stage.cap ≡ true → heavy stage panel ≤ light stage panel
light_from_test stage panel h = omega (arith, le-true (panel_weight stage panel) stage.cap h, weight_parts stage panel)

equal_from_test : (stage : Stage) (panel : List ℕ) → int_eq (panel_weight stage panel) stage.cap ≡ true → heavy stage panel ≡ light stage panel
equal_from_test stage panel h =
    let e : panel_weight stage panel ≡ stage.cap = (Decides-int_eq (panel_weight stage panel) stage.cap).0 h in
    omega (arith, ap up e, ap down e, weight_parts stage panel)

test_from_equal : (stage : Stage) (panel : List ℕ) → heavy stage panel ≡ light stage panel → int_le stage.cap (panel_weight stage panel) ≡ true
test_from_equal stage panel h = sym (true_is_le stage.cap (panel_weight stage panel) (omega (arith, h, weight_parts stage panel)))

-- ---- a lottery's sums

total-filter : (i : ℕ) (rows : List LotteryRow) → total (λ row. row.weight) (filter (λ row. includes row.panel i) rows) ≡ counted rows i
total-filter i [] = refl
total-filter i (row ∷ rows) =
    let rest = total-filter i rows in
    elim (includes row.panel i) as (λ b. total (λ row. row.weight) (cond b (row ∷ filter (λ row. includes row.panel i) rows) (filter (λ row. includes row.panel i) rows)) ≡ cond b row.weight 0 + counted rows i) [
      | true ↦ ap (λ z. row.weight + z) rest
      | false ↦ omega (arith, rest)
    ]

pub count-is : (lottery : Lottery) (i : ℕ) → count lottery i ≡ counted lottery.rows i
count-is lottery i = sum_by-is-total (λ row. row.weight) (filter (λ row. includes row.panel i) lottery.rows) ∙ total-filter i lottery.rows

all_fit : (pool : Pool) (lottery : Lottery) → IsLottery pool lottery → AllByRecursion (λ row. Fits (length pool.volunteers) row.panel) lottery.rows
all_fit pool lottery is =
    each_map (λ row. is_quota_panel pool row.panel ≡ true) (λ row. Fits (length pool.volunteers) row.panel)
    (λ row h. let q = quota_parts pool row.panel h in record { up = q.up; below = q.below }) lottery.rows
    (each_from_list_all (λ row. is_quota_panel pool row.panel) lottery.rows is.panels)

total-weight : (rows : List LotteryRow) (f : List ℕ → ℕ) (k : ℕ) → total (λ row. (f row.panel + k) * row.weight) rows ≡ total (λ row. f row.panel * row.weight) rows + k * total (λ row. row.weight) rows
total-weight [] f k = omega arith
total-weight (row ∷ rows) f k = omega (arith, total-weight rows f k)

-- The sum over rows of weight times (the sum of `f` over the panel, plus `k`) equals the sum over volunteers of `f` times count, plus `k`
-- times the total.
by_members : (pool : Pool) (lottery : Lottery) → IsLottery pool lottery → (f : ℕ → ℕ) (k : ℕ) →
    total (λ row. (total f row.panel + k) * row.weight) lottery.rows ≡ total (λ i. f i * count lottery i) (everybody pool) + k * lottery.total
by_members pool lottery is f k =
    let n = length pool.volunteers in
    let ex = exchange f n lottery.rows (all_fit pool lottery is) in
    let same = total_ext (λ i. f i * counted lottery.rows i) (λ i. f i * count lottery i) (λ i. ap (λ z. f i * z) (sym (count-is lottery i))) (everybody pool) in
    let tot : lottery.total ≡ total (λ row. row.weight) lottery.rows = is.total_agrees.total ∙ sum_by-is-total (λ row. row.weight) lottery.rows in
    let times : k * lottery.total ≡ k * total (λ row. row.weight) lottery.rows = ap (λ z. k * z) tot in
    omega (arith, total-weight lottery.rows (total f) k, ex, same, times)

positive_sum : (rows : List LotteryRow) → ltb 0 (length rows) ≡ true → AllByRecursion (λ row. leb 1 row.weight ≡ true) rows → 0 < total (λ row. row.weight) rows
positive_sum [] h k = let l = ltb-true 0 0 h in absurd (omega arith)
positive_sum (row ∷ rows) h k = let l = leb-true 1 row.weight k.0 in omega arith

positive_total : (pool : Pool) (lottery : Lottery) → IsLottery pool lottery → 0 < lottery.total
positive_total pool lottery is =
    let tot : lottery.total ≡ total (λ row. row.weight) lottery.rows = is.total_agrees.total ∙ sum_by-is-total (λ row. row.weight) lottery.rows in
    let p = positive_sum lottery.rows is.some (each_from_list_all (λ row. leb 1 row.weight) lottery.rows is.total_agrees.weights) in omega arith

-- ---- two lotteries over one pool

module _ (pool : Pool) (mine other : Lottery) (is_mine : IsLottery pool mine) (is_other : IsLottery pool other) where
  -- the chance of volunteer `i` in the first lottery, `mine`, as a numerator over the product of the two totals
  abbrev x : ℕ → ℕ
  x i = count mine i * other.total

  -- the chance of volunteer `i` in the other lottery, over the same product
  abbrev y : ℕ → ℕ
  y i = count other i * mine.total

  -- `at_most` over the first lottery's sorted counts is how many of its chances are at most `u`
  mine_at : (u : ℕ) → at_most other.total u (rising (counts pool mine)) ≡ total (λ i. le_one (x i) u) (everybody pool)
  mine_at u = at_most-rising other.total u (counts pool mine) ∙ at_most-map other.total u (count mine) (everybody pool)

  -- `at_most` over the other lottery's sorted counts is how many of its chances are at most `u`
  other_at : (u : ℕ) → at_most mine.total u (rising (counts pool other)) ≡ total (λ i. le_one (y i) u) (everybody pool)
  other_at u = at_most-rising mine.total u (counts pool other) ∙ at_most-map mine.total u (count other) (everybody pool)

  not_above : NoMoreAtFirst (λ u. total (λ i. le_one (y i) u) (everybody pool)) (λ u. total (λ i. le_one (x i) u) (everybody pool)) → is_above pool other mine ≡ false
  not_above h =
      not_greater other.total mine.total (rising (counts pool other)) (rising (counts pool mine)) (Rises-rising (counts pool other)) (Rises-rising (counts pool mine))
      (λ u before. let here = h u (λ w l. sym (other_at w) ∙ before w l ∙ mine_at w) in omega (arith, mine_at u, other_at u, here))

  -- what is known after some stages: whoever is settled has equal chances in both lotteries, and the other lottery's panels attain the caps
  record Agrees (earlier : List Stage) : Type 0 where
    equal : AllByRecursion (λ i. is_settled earlier i ≡ true → x i ≡ y i) (everybody pool)
    attained : AllByRecursion (λ row. attains earlier row.panel ≡ true) other.rows

  module _ (above : is_above pool other mine ≡ true) where
    module _ (earlier : List Stage) (stage : Stage) (holds_stage : StageHolds pool mine earlier stage) (agrees : Agrees earlier) where
      abbrev T : ℕ
      T = holds_stage.common_count

      abbrev level : ℕ
      level = T * other.total

      low_counts : AllByRecursion (λ i. is_settled earlier i ≡ false → T ≤ count mine i) (everybody pool)
      low_counts =
          each_map (λ i. not (is_settled earlier i) ≡ true → leb T (count mine i) ≡ true) (λ i. is_settled earlier i ≡ false → T ≤ count mine i)
          (λ i f s. leb-true T (count mine i) (f (not_from_false (is_settled earlier i) s))) (everybody pool)
          (each_from_filter (λ i. leb T (count mine i) ≡ true) (λ i. not (is_settled earlier i)) (everybody pool)
          (each_from_list_all (λ i. leb T (count mine i)) (unsettled pool earlier) holds_stage.least_count))

      known_first : AllByRecursion (λ i. Known (is_settled earlier i) (x i) (y i) level 0) (everybody pool)
      known_first =
          each_map (λ i. (is_settled earlier i ≡ true → x i ≡ y i) × (is_settled earlier i ≡ false → T ≤ count mine i)) (λ i. Known (is_settled earlier i) (x i) (y i) level 0)
          (λ i p. record { equal = p.0; high = λ s. mul-le-mul_right other.total (p.1 s); low = λ s. zero-le }) (everybody pool)
          (each_both (λ i. is_settled earlier i ≡ true → x i ≡ y i) (λ i. is_settled earlier i ≡ false → T ≤ count mine i) (everybody pool) agrees.equal low_counts)

      -- in the other lottery too, each unsettled volunteer's chance is at least the level
      known : AllByRecursion (λ i. Known (is_settled earlier i) (x i) (y i) level level) (everybody pool)
      known = all_reach (everybody pool) (is_settled earlier) x y level (λ h. false≢true (sym (not_above h) ∙ above)) known_first level (le_of_eq refl)

      no_minus : AllByRecursion (λ i. is_settled earlier i ≡ false → minus stage i ≡ 0) (everybody pool)
      no_minus =
          each_map (λ i. not (is_settled earlier i) ≡ true → int_le (pos 0) (weight_of stage i) ≡ true) (λ i. is_settled earlier i ≡ false → minus stage i ≡ 0)
          (λ i f s. no_down (weight_of stage i) (f (not_from_false (is_settled earlier i) s))) (everybody pool)
          (each_from_filter (λ i. int_le (pos 0) (weight_of stage i) ≡ true) (λ i. not (is_settled earlier i)) (everybody pool)
          (each_from_list_all (λ i. int_le (pos 0) (weight_of stage i)) (unsettled pool earlier) holds_stage.none_negative))
        where
          no_down : (z : ℤ) → int_le (pos 0) z ≡ true → down z ≡ 0
          no_down (pos n) h = refl
          no_down (negsuc n) h = absurd (false≢true h)

      at_level : AllByRecursion (λ i. is_settled earlier i ≡ false → 0 < plus stage i → x i ≡ level) (everybody pool)
      at_level =
          each_map (λ i. not (is_settled earlier i) ≡ true → is_positive stage i ≡ true → eqb (count mine i) T ≡ true) (λ i. is_settled earlier i ≡ false → 0 < plus stage i → x i ≡ level)
          (λ i f s p. ap (λ z. z * other.total) (eqb-true (count mine i) T (f (not_from_false (is_settled earlier i) s) (up_positive (weight_of stage i) p)))) (everybody pool)
          (each_from_filter (λ i. is_positive stage i ≡ true → eqb (count mine i) T ≡ true) (λ i. not (is_settled earlier i)) (everybody pool)
          (each_from_filter (λ i. eqb (count mine i) T ≡ true) (is_positive stage) (unsettled pool earlier)
          (each_from_list_all (λ i. eqb (count mine i) T) (settling pool earlier stage) holds_stage.same_count)))
        where
          up_positive : (z : ℤ) → 0 < up z → int_lt (pos 0) z ≡ true
          up_positive (pos n) h = sym (true_is_lt (pos 0) (pos n) (omega arith))
          up_positive (negsuc n) h = absurd (omega arith)

      weighs : AllByRecursion (λ i. Weighs (is_settled earlier i) (plus stage i) (minus stage i) (x i) level) (everybody pool)
      weighs =
          each_map (λ i. (is_settled earlier i ≡ false → minus stage i ≡ 0) × (is_settled earlier i ≡ false → 0 < plus stage i → x i ≡ level))
          (λ i. Weighs (is_settled earlier i) (plus stage i) (minus stage i) (x i) level)
          (λ i p. record { none_negative = p.0; at_level = p.1 }) (everybody pool)
          (each_both (λ i. is_settled earlier i ≡ false → minus stage i ≡ 0) (λ i. is_settled earlier i ≡ false → 0 < plus stage i → x i ≡ level) (everybody pool) no_minus at_level)

      -- each panel of the first lottery weighs the cap
      mine_rows : AllByRecursion (λ row. heavy stage row.panel ≡ light stage row.panel) mine.rows
      mine_rows =
          each_map (λ row. int_eq (panel_weight stage row.panel) stage.cap ≡ true) (λ row. heavy stage row.panel ≡ light stage row.panel)
          (λ row e. equal_from_test stage row.panel e) mine.rows
          (each_from_list_all (λ row. int_eq (panel_weight stage row.panel) stage.cap) mine.rows holds_stage.reached)

      -- each panel of the other lottery weighs at most the cap
      other_rows : AllByRecursion (λ row. heavy stage row.panel ≤ light stage row.panel) other.rows
      other_rows =
          each_map (λ row. (is_quota_panel pool row.panel ≡ true) × (attains earlier row.panel ≡ true)) (λ row. heavy stage row.panel ≤ light stage row.panel)
          (λ row p. light_from_test stage row.panel (under row.panel p.0 p.1)) other.rows
          (each_both (λ row. is_quota_panel pool row.panel ≡ true) (λ row. attains earlier row.panel ≡ true) other.rows
          (each_from_list_all (λ row. is_quota_panel pool row.panel) other.rows is_other.panels) agrees.attained)
        where
          under : (panel : List ℕ) → is_quota_panel pool panel ≡ true → attains earlier panel ≡ true → int_le (panel_weight stage panel) stage.cap ≡ true
          under panel q a =
              implied (attains earlier panel) (int_le (panel_weight stage panel) stage.cap)
              (each_panel (λ panel. (not (attains earlier panel) || int_le (panel_weight stage panel) stage.cap) ≡ true) pool
              (each_from_list_all (λ panel. not (attains earlier panel) || int_le (panel_weight stage panel) stage.cap) (panels pool) holds_stage.capped) panel q) a

      weighted_heavy : LotteryRow → ℕ
      weighted_heavy row = heavy stage row.panel * row.weight

      weighted_light : LotteryRow → ℕ
      weighted_light row = light stage row.panel * row.weight

      first_sum : total (λ i. plus stage i * count mine i) (everybody pool) + down stage.cap * mine.total ≡ up stage.cap * mine.total + total (λ i. minus stage i * count mine i) (everybody pool)
      first_sum =
          let a = by_members pool mine is_mine (plus stage) (down stage.cap) in
          let b = by_members pool mine is_mine (minus stage) (up stage.cap) in
          let e = total_eq (λ row. heavy stage row.panel * row.weight) (λ row. light stage row.panel * row.weight) mine.rows
          (each_map (λ row. heavy stage row.panel ≡ light stage row.panel) (λ row. heavy stage row.panel * row.weight ≡ light stage row.panel * row.weight)
          (λ row e. ap (λ z. z * row.weight) e) mine.rows mine_rows) in
          omega (arith, a, b, e)

      other_terms : AllByRecursion (λ row. heavy stage row.panel * row.weight ≤ light stage row.panel * row.weight) other.rows
      other_terms =
          each_map (λ row. heavy stage row.panel ≤ light stage row.panel) (λ row. heavy stage row.panel * row.weight ≤ light stage row.panel * row.weight)
          (λ row l. mul-le-mul_right row.weight l) other.rows other_rows

      second_sum : total (λ i. plus stage i * count other i) (everybody pool) + down stage.cap * other.total ≤ up stage.cap * other.total + total (λ i. minus stage i * count other i) (everybody pool)
      second_sum =
          let a = by_members pool other is_other (plus stage) (down stage.cap) in
          let b = by_members pool other is_other (minus stage) (up stage.cap) in
          let l = total_le (λ row. heavy stage row.panel * row.weight) (λ row. light stage row.panel * row.weight) other.rows other_terms in
          omega (arith, a, b, l)

      now_equal : AllByRecursion (λ i. is_settled earlier i ≡ false → 0 < plus stage i → x i ≡ y i) (everybody pool)
      now_equal =
          newly_equal (everybody pool) (is_settled earlier) (plus stage) (minus stage) (count mine) (count other) mine.total other.total (up stage.cap) (down stage.cap) T
          first_sum known weighs second_sum

      cap_is_met : up stage.cap * other.total + total (λ i. minus stage i * count other i) (everybody pool) ≤ total (λ i. plus stage i * count other i) (everybody pool) + down stage.cap * other.total
      cap_is_met =
          cap_met (everybody pool) (is_settled earlier) (plus stage) (minus stage) (count mine) (count other) mine.total other.total (up stage.cap) (down stage.cap) T
          first_sum known weighs second_sum (positive_total pool mine is_mine)

      other_reaches : AllByRecursion (λ row. int_le stage.cap (panel_weight stage row.panel) ≡ true) other.rows
      other_reaches =
          let a = by_members pool other is_other (plus stage) (down stage.cap) in
          let b = by_members pool other is_other (minus stage) (up stage.cap) in
          let back : total (λ row. light stage row.panel * row.weight) other.rows ≤ total (λ row. heavy stage row.panel * row.weight) other.rows = omega (arith, a, b, cap_is_met) in
          let same = total_same (λ row. heavy stage row.panel * row.weight) (λ row. light stage row.panel * row.weight) other.rows other_terms back in
          each_map (λ row. (leb 1 row.weight ≡ true) × (heavy stage row.panel * row.weight ≡ light stage row.panel * row.weight)) (λ row. int_le stage.cap (panel_weight stage row.panel) ≡ true)
          (λ row p. test_from_equal stage row.panel (cancel (heavy stage row.panel) (light stage row.panel) row.weight (leb-true 1 row.weight p.0) p.1)) other.rows
          (each_both (λ row. leb 1 row.weight ≡ true) (λ row. heavy stage row.panel * row.weight ≡ light stage row.panel * row.weight) other.rows
          (each_from_list_all (λ row. leb 1 row.weight) other.rows is_other.total_agrees.weights) same)

      -- the lotteries also agree after the stage
      agree_after : Agrees (stage ∷ earlier)
      agree_after = record {
        equal =
            each_map (λ i. (is_settled earlier i ≡ true → x i ≡ y i) × (is_settled earlier i ≡ false → 0 < plus stage i → x i ≡ y i)) (λ i. (is_positive stage i || is_settled earlier i) ≡ true → x i ≡ y i)
            (λ i p s. equal_now (is_settled earlier i) (weight_of stage i) (x i) (y i) p.0 p.1 s) (everybody pool)
            (each_both (λ i. is_settled earlier i ≡ true → x i ≡ y i) (λ i. is_settled earlier i ≡ false → 0 < plus stage i → x i ≡ y i) (everybody pool) agrees.equal now_equal);
        attained =
            each_map (λ row. (int_le stage.cap (panel_weight stage row.panel) ≡ true) × (attains earlier row.panel ≡ true)) (λ row. (int_le stage.cap (panel_weight stage row.panel) && attains earlier row.panel) ≡ true)
            (λ row p. and_from (int_le stage.cap (panel_weight stage row.panel)) (attains earlier row.panel) p.0 p.1) other.rows
            (each_both (λ row. int_le stage.cap (panel_weight stage row.panel) ≡ true) (λ row. attains earlier row.panel ≡ true) other.rows other_reaches agrees.attained);
      }
        where
          up_from : (z : ℤ) → int_lt (pos 0) z ≡ true → 0 < up z
          up_from (pos n) h = ltb-true 0 n h
          up_from (negsuc n) h = absurd (false≢true h)

          equal_now : (b : Bool) (z : ℤ) (a c : ℕ) → (b ≡ true → a ≡ c) → (b ≡ false → 0 < up z → a ≡ c) → (int_lt (pos 0) z || b) ≡ true → a ≡ c
          equal_now true z a c f g h = f refl
          equal_now false z a c f g h = ⊎_elim (λ p. g refl (up_from z p)) (λ p. absurd (false≢true p)) (or_cases (int_lt (pos 0) z) false h)

    -- if all stages hold, everybody has the same chance in both lotteries
    agree_at_end : (earlier later : List Stage) → StagesHold pool mine earlier later → Agrees earlier → AllByRecursion (λ i. x i ≡ y i) (everybody pool)
    agree_at_end earlier [] all agrees =
        each_map (λ i. (is_settled earlier i ≡ true) × (is_settled earlier i ≡ true → x i ≡ y i)) (λ i. x i ≡ y i) (λ i p. p.1 p.0) (everybody pool)
        (each_both (λ i. is_settled earlier i ≡ true) (λ i. is_settled earlier i ≡ true → x i ≡ y i) (everybody pool) (each_from_list_all (is_settled earlier) (everybody pool) all) agrees.equal)
    agree_at_end earlier (stage ∷ later) hold agrees = agree_at_end (stage ∷ earlier) later hold.1 (agree_after earlier stage hold.0 agrees)

    at_start : Agrees []
    at_start = record {
      equal = each_everywhere (λ i. is_settled [] i ≡ true → x i ≡ y i) (λ i h. absurd (false≢true h)) (everybody pool);
      attained = each_everywhere (λ row. attains [] row.panel ≡ true) (λ row. refl) other.rows;
    }

    so_not_above : (stages : List Stage) → StagesHold pool mine [] stages → is_above pool other mine ≡ false
    so_not_above stages hold =
        not_above (λ u before. le_of_eq (total_eq (λ i. le_one (x i) u) (λ i. le_one (y i) u) (everybody pool)
        (each_map (λ i. x i ≡ y i) (λ i. le_one (x i) u ≡ le_one (y i) u) (λ i e. ap (λ m. le_one m u) e) (everybody pool) (agree_at_end [] stages hold at_start))))

  none_is_above : (stages : List Stage) → StagesHold pool mine [] stages → is_above pool other mine ≡ false
  none_is_above stages hold = ⊎_elim (λ above. so_not_above above stages hold) (λ e. e) (cases_Bool (is_above pool other mine))

-- a lottery with a certificate is leximin greatest
pub greatest_from_Certifies : (pool : Pool) (lottery : Lottery) (stages : List Stage) → Certifies pool lottery stages → LeximinGreatest pool lottery
greatest_from_Certifies pool lottery stages certified = record {
  is_lottery = certified.is_lottery;
  none_above = λ other is_other. none_is_above pool lottery other certified.is_lottery is_other stages certified.stages_hold;
}
