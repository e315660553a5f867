-- The rows of a lottery, read one after the other.
use Rattle.std.proofs.Common.{◌≡◌, ℕ, zero, suc, ◌+◌, ◌-◌, ◌*◌, ◌<◌, ◌≤◌, Bool, true, false, cond, eqb, leb, List, [], ◌∷◌, ◌++◌, get_or, length, map, take, refl, sym, ap, ap₂, ◌∙◌, subst, arith}
use Rattle.std.specs.Prelude.{sum}
use Rattle.std.specs.List.{list_all, sum_by}
use Rattle.std.proofs.lemmas.Bool.{and_from, and_parts, le-leb, leb-true}
use Rattle.std.proofs.lemmas.List.{take_all}
use Rattle.std.proofs.lemmas.List.FromFn.{get_or-map-range_with_len, length-map-range_with_len}
use Rattle.std.proofs.lemmas.List.Sums.{sum_by-cons}
use Rattle.define_pools.proofs.Each.{each_at, each_from_list_all}
use Rattle.define_pools.specs.Lottery.{Lottery, LotteryRow, TotalAgrees}
use Rattle.define_draws.specs.Short.{rows_with_tickets, shortened, tickets_at, tickets_by_weight}
use Rattle.define_draws.proofs.Shortened.{agrees_shortened}
use Rattle.short_tickets.specs.Parts.{AreWithin, weights_in}

pub weight_within : (total : ℕ) (rows : List LotteryRow) (place : ℕ) (row : LotteryRow) → AreWithin total rows → place < length rows → row ≡ get_or rows place row → row.weight ≤ total
weight_within total rows place row within inside at =
    leb-true row.weight total
    (each_at (λ (row : LotteryRow). leb row.weight total ≡ true) rows place row (each_from_list_all (λ (row : LotteryRow). leb row.weight total) rows within) inside at)

-- if the weights sum to at most `total`, each weight is at most `total`
pub within_sum : (total : ℕ) (rows : List LotteryRow) → sum_by (λ (row : LotteryRow). row.weight) rows ≤ total → AreWithin total rows
within_sum total [] h = refl
within_sum total (row ∷ rows) h =
    let e = sum_by-cons (λ (row : LotteryRow). row.weight) row rows in
    let here : leb row.weight total ≡ true = le-leb row.weight total (omega (arith, e)) in
    rw here (within_sum total rows (omega (arith, e)))

abbrev pub with_count : LotteryRow → ℕ → LotteryRow
with_count row count = record { panel = row.panel; weight = count }

-- the row at `place` is appended to the rows with tickets, with its tickets as weight, or left out if it gets none
pub rows_more : (rows : List LotteryRow) (counts : List ℕ) (place : ℕ) (row : LotteryRow) → place < length rows → place < length counts → row ≡ get_or rows place row →
    rows_with_tickets (take (place + 1) rows) (take (place + 1) counts)
    ≡ cond (eqb (get_or counts place 0) 0) (rows_with_tickets (take place rows) (take place counts))
    (rows_with_tickets (take place rows) (take place counts) ++ with_count row (get_or counts place 0) ∷ [])
rows_more [] counts place row l m at = absurd (omega arith)
rows_more (first ∷ rows) [] place row l m at = absurd (omega arith)
rows_more (first ∷ rows) (count ∷ counts) zero row l m at = ap (λ (r : LotteryRow). cond (eqb count 0) [] (with_count r count ∷ [])) (sym at)
rows_more (first ∷ rows) (count ∷ counts) (suc place) row l m at =
    let e : suc place + 1 ≡ suc (place + 1) = omega arith in
    rw e (by (eqb count 0) (eqb (get_or counts place 0) 0) (rows_more rows counts place row (omega arith) (omega arith) at))
  where
    by : (a b : Bool) →
        rows_with_tickets (take (place + 1) rows) (take (place + 1) counts)
        ≡ cond b (rows_with_tickets (take place rows) (take place counts))
        (rows_with_tickets (take place rows) (take place counts) ++ with_count row (get_or counts place 0) ∷ []) →
        cond a (rows_with_tickets (take (place + 1) rows) (take (place + 1) counts)) (with_count first count ∷ rows_with_tickets (take (place + 1) rows) (take (place + 1) counts))
        ≡ cond b (cond a (rows_with_tickets (take place rows) (take place counts)) (with_count first count ∷ rows_with_tickets (take place rows) (take place counts)))
        (cond a (rows_with_tickets (take place rows) (take place counts)) (with_count first count ∷ rows_with_tickets (take place rows) (take place counts))
        ++ with_count row (get_or counts place 0) ∷ [])
    by true true rest = rest
    by true false rest = rest
    by false true rest = ap (λ kept. with_count first count ∷ kept) rest
    by false false rest = ap (λ kept. with_count first count ∷ kept) rest

-- the number at `place` in the list of tickets is the number of tickets of the row at `place`
pub tickets_are : (total tickets : ℕ) (weights : List ℕ) (place : ℕ) → place < length weights →
    get_or (tickets_by_weight total tickets weights) place 0 ≡ tickets_at total tickets weights place
tickets_are total tickets weights place l = get_or-map-range_with_len (tickets_at total tickets weights) 0 (length weights) place place 0 l (omega arith)

pub length-tickets : (total tickets : ℕ) (weights : List ℕ) → length (tickets_by_weight total tickets weights) ≡ length weights
length-tickets total tickets weights = length-map-range_with_len (tickets_at total tickets weights) 0 (length weights)

-- if `place` is past all rows and counts, the rows with tickets up to it are all of them
pub all_rows : (rows : List LotteryRow) (counts : List ℕ) (place : ℕ) → length rows ≤ place → length counts ≤ place →
    rows_with_tickets (take place rows) (take place counts) ≡ rows_with_tickets rows counts
all_rows rows counts place l m = ap₂ (λ (rs : List LotteryRow) (cs : List ℕ). rows_with_tickets rs cs) (take_all place rows l) (take_all place counts m)

-- the lottery that is made of the kept rows is the shortened lottery, so its weights sum to its total if those of `lottery` do
pub made_agrees : (lottery made : Lottery) (rows kept : List LotteryRow) (total count tickets : ℕ) → total ≡ lottery.total → rows ≡ lottery.rows → count ≡ tickets →
    kept ≡ rows_with_tickets rows (tickets_by_weight total count (weights_in rows)) → made ≡ record { total = tickets; rows = kept } →
    TotalAgrees lottery → 1 ≤ lottery.total → TotalAgrees made
made_agrees lottery made rows kept total count tickets total_is rows_are count_is kept_are made_is agrees some =
    let same : kept ≡ (shortened lottery tickets).rows =
    kept_are ∙ (ap₂ (λ (t n : ℕ). rows_with_tickets rows (tickets_by_weight t n (weights_in rows))) total_is count_is
    ∙ ap (λ (rs : List LotteryRow). rows_with_tickets rs (tickets_by_weight lottery.total tickets (weights_in rs))) rows_are) in
    let whole : made ≡ shortened lottery tickets = made_is ∙ ap (λ (ks : List LotteryRow). let l : Lottery = record { total = tickets; rows = ks } in l) same in
    subst (λ (l : Lottery). TotalAgrees l) (sym whole) (agrees_shortened lottery tickets agrees some)
