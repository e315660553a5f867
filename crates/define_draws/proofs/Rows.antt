-- The rows of a shortened lottery: their weights, and the counts of the volunteers.
use Rattle.std.proofs.Common.{◌≡◌, ℕ, zero, suc, ◌+◌, ◌-◌, ◌*◌, ◌<◌, ◌≤◌, Bool, true, false, cond, not, ◌||◌, eqb, leb, List, [], ◌∷◌, filter, get_or, length, map, refl, sym, ap, ap₂, ◌∙◌, arith}
use Rattle.std.specs.Prelude.{bytes_eq, sum}
use Rattle.std.specs.List.{list_all, sum_by}
use Rattle.std.proofs.lemmas.Bool.{and_parts, eqb-false, eqb-true, le-leb, leb-true}
use Rattle.std.proofs.lemmas.List.Sums.{sum_by-cons}
use Rattle.define_draws.proofs.TicketLemmas.{sum-cons}
use Rattle.define_pools.specs.Lists.{all_different, includes, includes_list}
use Rattle.define_pools.specs.Lottery.{LotteryRow}
use Rattle.define_pools.proofs.Weights.{counted}
use Rattle.define_draws.specs.Short.{rows_with_tickets}
use Rattle.define_draws.specs.Shares.{distance}

abbrev with_count : LotteryRow → ℕ → LotteryRow
with_count row count = record { panel = row.panel; weight = count }

-- each row that is kept has a ticket
pub kept_have_tickets : (rows : List LotteryRow) (counts : List ℕ) → list_all (λ (row : LotteryRow). leb 1 row.weight) (rows_with_tickets rows counts) ≡ true
kept_have_tickets [] counts = refl
kept_have_tickets (row ∷ rows) [] = refl
kept_have_tickets (row ∷ rows) (count ∷ counts) = by (eqb count 0) refl (kept_have_tickets rows counts)
  where
    by : (b : Bool) → eqb count 0 ≡ b → list_all (λ (row : LotteryRow). leb 1 row.weight) (rows_with_tickets rows counts) ≡ true →
        list_all (λ (row : LotteryRow). leb 1 row.weight) (cond b (rows_with_tickets rows counts) (with_count row count ∷ rows_with_tickets rows counts)) ≡ true
    by true e rest = rest
    by false e rest = let some : leb 1 count ≡ true = le-leb 1 count (let n = eqb-false count 0 e in omega arith) in rw some rest

pub sum-kept : (rows : List LotteryRow) (counts : List ℕ) → length counts ≡ length rows → sum_by (λ (row : LotteryRow). row.weight) (rows_with_tickets rows counts) ≡ sum counts
sum-kept [] [] size = refl
sum-kept [] (count ∷ counts) size = absurd (omega arith)
sum-kept (row ∷ rows) [] size = absurd (omega arith)
sum-kept (row ∷ rows) (count ∷ counts) size = by (eqb count 0) refl (sum-kept rows counts (omega arith))
  where
    by : (b : Bool) → eqb count 0 ≡ b → sum_by (λ (row : LotteryRow). row.weight) (rows_with_tickets rows counts) ≡ sum counts →
        sum_by (λ (row : LotteryRow). row.weight) (cond b (rows_with_tickets rows counts) (with_count row count ∷ rows_with_tickets rows counts)) ≡ sum (count ∷ counts)
    by true e rest = let none = eqb-true count 0 e in omega (arith, rest, sum-cons count counts)
    by false e rest = omega (arith, rest, sum-cons count counts, sum_by-cons (λ (row : LotteryRow). row.weight) (with_count row count) (rows_with_tickets rows counts))

-- a row with `count` tickets adds `count` to the counts of its members, even if `count` is 0, so that the row isn't kept
counted-kept : (row : LotteryRow) (rest : List LotteryRow) (count i : ℕ) →
    counted (cond (eqb count 0) rest (with_count row count ∷ rest)) i ≡ cond (includes row.panel i) count 0 + counted rest i
counted-kept row rest count i = by (eqb count 0) refl
  where
    nothing : (b : Bool) (n : ℕ) → n ≡ 0 → cond b n 0 ≡ 0
    nothing true n e = e
    nothing false n e = refl

    by : (b : Bool) → eqb count 0 ≡ b → counted (cond b rest (with_count row count ∷ rest)) i ≡ cond (includes row.panel i) count 0 + counted rest i
    by true e = let none = nothing (includes row.panel i) count (eqb-true count 0 e) in omega arith
    by false e = refl

-- if each row's tickets differ from its share by at most one, a volunteer's tickets differ from the sum of the shares of the panels with
-- this volunteer by at most the number of these panels
pub counted-moves : (rows : List LotteryRow) (counts : List ℕ) (total tickets i : ℕ) → length counts ≡ length rows →
    ((place : ℕ) → place < length rows → distance (get_or counts place 0 * total) (get_or (map (λ (row : LotteryRow). row.weight) rows) place 0 * tickets) ≤ total) →
    distance (counted (rows_with_tickets rows counts) i * total) (counted rows i * tickets) ≤ length (filter (λ (row : LotteryRow). includes row.panel i) rows) * total
counted-moves [] [] total tickets i size near = omega arith
counted-moves [] (count ∷ counts) total tickets i size near = absurd (omega arith)
counted-moves (row ∷ rows) [] total tickets i size near = absurd (omega arith)
counted-moves (row ∷ rows) (count ∷ counts) total tickets i size near =
    rw (counted-kept row (rows_with_tickets rows counts) count i)
    (by (includes row.panel i) (near 0 (omega arith)) (counted-moves rows counts total tickets i (omega arith) (λ place l. near (suc place) (omega arith))))
  where
    by : (b : Bool) → distance (count * total) (row.weight * tickets) ≤ total →
        distance (counted (rows_with_tickets rows counts) i * total) (counted rows i * tickets) ≤ length (filter (λ (row : LotteryRow). includes row.panel i) rows) * total →
        distance ((cond b count 0 + counted (rows_with_tickets rows counts) i) * total) ((cond b row.weight 0 + counted rows i) * tickets)
        ≤ length (cond b (row ∷ filter (λ (row : LotteryRow). includes row.panel i) rows) (filter (λ (row : LotteryRow). includes row.panel i) rows)) * total
    by true here rest =
        added (count * total) (row.weight * tickets) (counted (rows_with_tickets rows counts) i * total) (counted rows i * tickets)
        ((count + counted (rows_with_tickets rows counts) i) * total) ((row.weight + counted rows i) * tickets)
        total (length (filter (λ (row : LotteryRow). includes row.panel i) rows) * total) (suc (length (filter (λ (row : LotteryRow). includes row.panel i) rows)) * total)
        (omega arith) (omega arith) (omega arith) here rest
      where
        added : (a b c d e f t p q : ℕ) → e ≡ a + c → f ≡ b + d → q ≡ t + p → distance a b ≤ t → distance c d ≤ p → distance e f ≤ q
        added a b c d e f t p q x y z g h = omega arith
    by false here rest =
        let short : 0 + counted (rows_with_tickets rows counts) i ≡ counted (rows_with_tickets rows counts) i = omega arith in
        let whole : 0 + counted rows i ≡ counted rows i = omega arith in
        rw (short, whole) rest

-- ---- the panels that are kept

-- if all panels pass a test, so do those that are kept
pub kept_pass : (p : List ℕ → Bool) (rows : List LotteryRow) (counts : List ℕ) → list_all (λ (row : LotteryRow). p row.panel) rows ≡ true →
    list_all (λ (row : LotteryRow). p row.panel) (rows_with_tickets rows counts) ≡ true
kept_pass p [] counts h = refl
kept_pass p (row ∷ rows) [] h = refl
kept_pass p (row ∷ rows) (count ∷ counts) h =
    let parts = and_parts (p row.panel) (list_all (λ (row : LotteryRow). p row.panel) rows) h in
    by (eqb count 0) parts.0 (kept_pass p rows counts parts.1)
  where
    by : (b : Bool) → p row.panel ≡ true → list_all (λ (row : LotteryRow). p row.panel) (rows_with_tickets rows counts) ≡ true →
        list_all (λ (row : LotteryRow). p row.panel) (cond b (rows_with_tickets rows counts) (with_count row count ∷ rows_with_tickets rows counts)) ≡ true
    by true here rest = rest
    by false here rest = rw here rest

abbrev panels_of : List LotteryRow → List (List ℕ)
panels_of rows = map (λ (row : LotteryRow). row.panel) rows

-- a panel that isn't among the rows isn't among those that are kept
kept_lack : (rows : List LotteryRow) (counts : List ℕ) (panel : List ℕ) → includes_list (panels_of rows) panel ≡ false → includes_list (panels_of (rows_with_tickets rows counts)) panel ≡ false
kept_lack [] counts panel h = refl
kept_lack (row ∷ rows) [] panel h = refl
kept_lack (row ∷ rows) (count ∷ counts) panel h =
    let parts = or_false (bytes_eq panel row.panel) (includes_list (panels_of rows) panel) h in
    by (eqb count 0) parts.0 (kept_lack rows counts panel parts.1)
  where
    or_false : (a b : Bool) → (a || b) ≡ false → (a ≡ false) × (b ≡ false)
    or_false true b e = absurd cc
    or_false false b e = (refl, e)

    by : (b : Bool) → bytes_eq panel row.panel ≡ false → includes_list (panels_of (rows_with_tickets rows counts)) panel ≡ false →
        includes_list (panels_of (cond b (rows_with_tickets rows counts) (with_count row count ∷ rows_with_tickets rows counts))) panel ≡ false
    by true here rest = rest
    by false here rest = rw here rest

pub kept_differ : (rows : List LotteryRow) (counts : List ℕ) → all_different (panels_of rows) ≡ true → all_different (panels_of (rows_with_tickets rows counts)) ≡ true
kept_differ [] counts h = refl
kept_differ (row ∷ rows) [] h = refl
kept_differ (row ∷ rows) (count ∷ counts) h =
    let parts = and_parts (not (includes_list (panels_of rows) row.panel)) (all_different (panels_of rows)) h in
    by (eqb count 0) (kept_lack rows counts row.panel (not-true (includes_list (panels_of rows) row.panel) parts.0)) (kept_differ rows counts parts.1)
  where
    not-true : (b : Bool) → not b ≡ true → b ≡ false
    not-true true e = absurd cc
    not-true false e = refl

    by : (b : Bool) → includes_list (panels_of (rows_with_tickets rows counts)) row.panel ≡ false → all_different (panels_of (rows_with_tickets rows counts)) ≡ true →
        all_different (panels_of (cond b (rows_with_tickets rows counts) (with_count row count ∷ rows_with_tickets rows counts))) ≡ true
    by true here rest = rest
    by false here rest = rw here rest

-- if the weights sum to at least 1, there is a row. Conversely, if there is a row and each weight is at least 1, the weights sum to at
-- least 1
pub rows_from_weight : (rows : List LotteryRow) → 1 ≤ sum_by (λ (row : LotteryRow). row.weight) rows → 0 < length rows
rows_from_weight [] h = absurd (omega arith)
rows_from_weight (row ∷ rows) h = omega arith

pub weight_from_rows : (rows : List LotteryRow) → 0 < length rows → list_all (λ (row : LotteryRow). leb 1 row.weight) rows ≡ true → 1 ≤ sum_by (λ (row : LotteryRow). row.weight) rows
weight_from_rows [] some h = absurd (omega arith)
weight_from_rows (row ∷ rows) some h =
    let here = leb-true 1 row.weight (and_parts (leb 1 row.weight) (list_all (λ (row : LotteryRow). leb 1 row.weight) rows) h).0 in
    omega (arith, here, sum_by-cons (λ (row : LotteryRow). row.weight) row rows)
