-- Compositions with fractions, spread over panels so that all members of a class have the same chance. Builds on Classes and Compositions
-- of `define_searches`, on Lists and Lottery of `define_pools`, and on Divisors and Fractions of `frac128`. `alike` spreads compositions
-- exactly this way.
use Rattle.std.specs.Prelude.{◌≡◌, ℕ, ◌+◌, ◌-◌, ◌*◌, ◌/◌, ◌^◌, ◌<◌, ◌≤◌, ◌==◌, nat_lt, nat_le, if◌then◌else◌, Bool, false, ◌&&◌, ◌||◌, IsTrue, List, [], ◌∷◌, ◌++◌, drop, filter, fold, length, map, slice_get, slice_index, sum_by, take, Contains, Some, Result, Ok, Err}
use Rattle.std.specs.Int.{◌∣◌}
use Rattle.std.specs.List.{All, AllByRecursion, flat_map, range_with_len}
use Rattle.frac128.specs.Divisors.{lcm_of}
use Rattle.frac128.specs.Fractions.{Fraction, lowest_of}
use Rattle.define_pools.specs.Lists.{all_different, includes, rising}
use Rattle.define_pools.specs.Lottery.{LotteryRow, Lottery, count}
use Rattle.define_searches.specs.Classes.{Class, Classes, volunteer_count}
use Rattle.define_searches.specs.Compositions.{compositions}

-- a class is taken in part: at least one of its members is taken, and not all
abbrev pub is_partly_taken : Class → ℕ → Bool
is_partly_taken class count = nat_lt 0 count && nat_lt count (length class.members)

-- the sizes of the classes that are taken in part
abbrev pub partly_taken : List Class → List ℕ → List ℕ
partly_taken [] counts = []
partly_taken (class ∷ classes) [] = []
partly_taken (class ∷ classes) (count ∷ counts) =
    (if is_partly_taken class count then length class.members ∷ [] else []) ++ partly_taken classes counts

-- the length of a composition's dial: the least common multiple of the sizes of the classes taken in part, or 1 if there are none
abbrev pub dial : Classes → List ℕ → ℕ
dial all counts = fold lcm_of 1 (partly_taken all.classes counts)

-- the marks of a class of `size` members: `size` places, evenly along a dial of this length, the first at 0
abbrev pub marks : ℕ → ℕ → List ℕ
marks length_of_dial size = map (λ j. j * length_of_dial / size) (range_with_len 0 size)

-- the numbers of a rising list, each once
abbrev pub once_each : List ℕ → List ℕ
once_each [] = []
once_each (x ∷ []) = x ∷ []
once_each (x ∷ (y ∷ ys)) = if x == y then once_each (y ∷ ys) else x ∷ once_each (y ∷ ys)

-- 0 and the marks of the classes taken in part, along the dial
abbrev pub cuts : Classes → List ℕ → List ℕ
cuts all counts = once_each (rising (0 ∷ flat_map (marks (dial all counts)) (partly_taken all.classes counts)))

-- the arcs between these cuts of a dial that ends at `end`: where each begins, and its length
abbrev pub arcs_between : ℕ → List ℕ → List (ℕ × ℕ)
arcs_between end [] = []
arcs_between end (x ∷ []) = (x, end - x) ∷ []
arcs_between end (x ∷ (y ∷ ys)) = (x, y - x) ∷ arcs_between end (y ∷ ys)

-- the arcs of a composition's dial
abbrev pub arcs : Classes → List ℕ → List (ℕ × ℕ)
arcs all counts = arcs_between (dial all counts) (cuts all counts)

-- a window: `count` members from `place` on, going on with the first members after the last one
abbrev pub turned : ℕ → ℕ → List ℕ → List ℕ
turned place count members = take count (drop place members ++ take place members)

-- true if a class gives volunteer `i` on the arc that begins at place `at` of the dial: `i` is in the class's window there
abbrev pub is_given : ℕ → ℕ → List Class → List ℕ → ℕ → Bool
is_given length_of_dial at [] counts i = false
is_given length_of_dial at (class ∷ classes) [] i = false
is_given length_of_dial at (class ∷ classes) (count ∷ counts) i =
    includes (turned (at * length class.members / length_of_dial) count class.members) i || is_given length_of_dial at classes counts i

-- the panel of the arc that begins at place `at` of the dial
abbrev pub panel_at : Classes → List ℕ → ℕ → List ℕ
panel_at all counts at = filter (is_given (dial all counts) at all.classes counts) (range_with_len 0 (volunteer_count all))

-- the lottery rows of a composition with its fraction: one for each arc, along the dial. The weight of an arc is the composition's fraction
-- of the total, times the arc's length over the dial's length
abbrev pub rows_of : Classes → ℕ → List ℕ × Fraction → List LotteryRow
rows_of all total (counts, fraction) =
    map (λ (at, arc). record { panel = panel_at all counts at; weight = arc * fraction.num * total / (fraction.den * dial all counts) }) (arcs all counts)

-- the greatest total that a lottery may have: 10 ^ 38
abbrev pub greatest_total : ℕ
greatest_total = 10 ^ 38

-- why there is no total: the part that makes the total pass 10 ^ 38, given by its place in the list, the total before it, and the
-- denominator of its fraction
pub record TotalPass : Type 0 where
  pub place : ℕ
  pub total : ℕ
  pub den : ℕ

-- the least common multiple of `total`, the total so far, and for each part its denominator times the length of its dial. If it gets
-- greater than 10 ^ 38, the `TotalPass` of the first part that makes it so. `place` is the place of the list's first part among all parts
abbrev pub total_from : Classes → ℕ → ℕ → List (List ℕ × Fraction) → Result ℕ TotalPass
total_from all place total [] = Ok total
total_from all place total ((counts, fraction) ∷ parts) =
    if nat_le (lcm_of total (fraction.den * dial all counts)) greatest_total
    then total_from all (place + 1) (lcm_of total (fraction.den * dial all counts)) parts
    else Err (record { place = place; total = total; den = fraction.den })

-- the lottery of this total with the rows of all parts, or the `TotalPass` if there is no total
abbrev pub lottery_of : Classes → List (List ℕ × Fraction) → Result ℕ TotalPass → Result Lottery TotalPass
lottery_of all parts (Ok total) = Ok (record { total = total; rows = flat_map (rows_of all total) parts })
lottery_of all parts (Err pass) = Err pass

-- the lottery that spreads compositions with their fractions over panels. Its rows are in the order of the compositions, and for each
-- composition in the order of its dial's arcs
unfoldable pub spread : Classes → List (List ℕ × Fraction) → Result Lottery TotalPass
spread all parts = lottery_of all parts (total_from all 0 1 parts)

-- different compositions of the classes, with positive fractions that sum to one
pub record AreParts (all : Classes) (parts : List (List ℕ × Fraction)) : Type 0 where
  pub compositions : All (λ part. Contains (compositions all) part.0) parts
  pub different : IsTrue (all_different (map (λ part. part.0) parts))
  pub positive : All (λ part. 0 < part.1.num) parts
  pub over : All (λ part. 0 < part.1.den) parts
  -- the fractions sum to one: over each common denominator, their numerators sum to this denominator
  pub one : (common : ℕ) → All (λ part. part.1.den ∣ common) parts → sum_by (λ part. part.1.num * (common / part.1.den)) parts ≡ common

-- different compositions of the classes, each with a share of at least 1; the shares sum to `whole`, which is above 0
pub record AreShares (all : Classes) (whole : ℕ) (shares : List (List ℕ × ℕ)) : Type 0 where
  pub compositions : AllByRecursion (λ part. Contains (compositions all) part.0) shares
  pub different : IsTrue (all_different (map (λ part. part.0) shares))
  pub positive : AllByRecursion (λ part. 0 < part.1) shares
  pub some : 0 < whole
  pub sum : sum_by (λ part. part.1) shares ≡ whole

-- a share as a fraction of the whole, in lowest terms
abbrev pub with_fraction : ℕ → List ℕ × ℕ → List ℕ × Fraction
with_fraction whole (counts, share) = (counts, lowest_of share whole)

-- a positive total of at most 10 ^ 38 that is a multiple of each denominator times the length of its part's dial
pub record IsCommonTotal (all : Classes) (parts : List (List ℕ × Fraction)) (total : ℕ) : Type 0 where
  pub positive : 0 < total
  pub within : total ≤ greatest_total
  pub multiple : All (λ part. part.1.den * dial all part.0 ∣ total) parts

-- how many members of class t are expected on a panel, times the total: the sum of each composition's count of the class times its fraction
-- of the total
abbrev pub expected : ℕ → List (List ℕ × Fraction) → ℕ → ℕ
expected total parts t = sum_by (λ part. slice_index part.0 t * (part.1.num * (total / part.1.den))) parts

-- all members of a class have the same chance: each member's count times the class's size is the expected number of members, times the
-- total
abbrev pub HasEvenChances : Classes → List (List ℕ × Fraction) → Lottery → Type 0
HasEvenChances all parts lottery = (t i : ℕ) (class : Class) → slice_get all.classes t ≡ Some class → IsTrue (includes class.members i) →
    count lottery i * length class.members ≡ expected lottery.total parts t
