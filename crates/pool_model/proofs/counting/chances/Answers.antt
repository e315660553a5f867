use Rattle.std.proofs.Common.{◌≡◌, ℕ, zero, suc, ◌+◌, ◌<◌, ◌≤◌, ◌^◌, Bool, true, false, cond, List, [], ◌∷◌, length, take, get_or, ℤ, pos, ◌+ℤ◌, sym, ap, ◌∙◌, arith, rules}
use Rattle.std.proofs.lemmas.List.{with_items_is}
use Rattle.std.proofs.lemmas.List.FromFn.{fill_by_all}
use Rattle.std.proofs.lemmas.Int.{to_z-of_z}
use Rattle.std.proofs.lemmas.List.{take_all}
use Rattle.std.proofs.lemmas.Simd.{map-map}
use mir.Val.{SFits, to_z, of_z}
use mir.Syntax.{w128}
use Rattle.define_pools.specs.Lists.{includes}
use Rattle.define_pools.specs.Pool.{everybody}
use Rattle.define_pools.specs.Lottery.{LotteryRow, count}
use Rattle.define_pools.proofs.Sums.{total, sum_by-is-total}
use Rattle.define_pools.proofs.Weights.{counted}
use Rattle.define_pools.proofs.Greatest.{count-is}
use Rattle.pool_model.proofs.counting.chances.Goals as goal

-- a count over the first j + 1 rows is the one over the first j, plus the weight of row j if volunteer i is on its panel
counted_more : (rows : List LotteryRow) (j i : ℕ) (d : LotteryRow) → j < length rows →
    counted (take (j + 1) rows) i ≡ counted (take j rows) i + cond (includes (get_or rows j d).panel i) (get_or rows j d).weight 0
counted_more [] j i d h = absurd (omega arith)
counted_more (row ∷ rows) zero i d h = omega arith
counted_more (row ∷ rows) (suc j) i d h =
    let e : suc j + 1 ≡ suc (j + 1) = omega arith in
    let rest = counted_more rows j i d (omega arith) in rw e (omega (arith, rest))

-- a count over the first j rows, plus the weight of row j, is at most the sum of all weights
counted_room : (rows : List LotteryRow) (j i : ℕ) (d : LotteryRow) → j < length rows → counted (take j rows) i + (get_or rows j d).weight ≤ total (λ row. row.weight) rows
counted_room [] j i d h = absurd (omega arith)
counted_room (row ∷ rows) zero i d h = omega arith
counted_room (row ∷ rows) (suc j) i d h =
    let rest = counted_room rows j i d (omega arith) in
    let here = at_most (includes row.panel i) row.weight in omega arith
  where
    at_most : (b : Bool) (w : ℕ) → cond b w 0 ≤ w
    at_most true w = omega arith
    at_most false w = omega arith

-- a weight that fits 128 bits is stored as itself
stored : (z : ℤ) (n : ℕ) → SFits w128 z → z ≡ pos n → to_z w128 (of_z w128 z) ≡ pos n
stored z n fits e = to_z-of_z w128 z fits ∙ e

-- a natural number below 2^127 fits 128 bits with a sign
fits : (n : ℕ) → n < 2 ^ 127 → SFits w128 (pos n)
fits n h = record { sfits = h }

-- if `x` is `m` and `w` is `n`, adding `w` to `x` if `b` holds gives the same as adding `n` to `m` if `b` holds
more : (x w : ℤ) (b : Bool) (m n : ℕ) → x ≡ pos m → w ≡ pos n → cond b (x +ℤ w) x ≡ pos (m + cond b n 0)
more x w true m n e f = ap (λ z. z +ℤ w) e ∙ ap (λ z. pos m +ℤ z) f
more x w false m n e f = e ∙ (let g : m ≡ m + 0 = omega arith in ap pos g)

pub add_weight-requires-clause-room : goal.add_weight-requires-clause-room
add_weight-requires-clause-room c i l =
    let rows = c.args.lottery.now.rows in
    let row = c.row-item.result in
    let j = c.loop-row.row-index in
    let weight : to_z w128 (of_z w128 c.weight.result) ≡ pos row.weight = stored c.weight.result row.weight (search rules) c.weight.ensures in
    let here : get_or c.deref_mut.result.now i (pos 0) ≡ pos (counted (take j rows) i) =
    ap (λ xs. get_or xs i (pos 0)) c.deref_mut.ensures.value ∙ c.loop-row.invariant.each i (omega (arith, ap (λ (xs : List ℤ). length xs) c.deref_mut.ensures.value)) in
    let count_of_rows = ap (λ (rs : List LotteryRow). length rs) c.rows-row-items.ensures.value in
    let room = counted_room rows j i row (omega (arith, count_of_rows)) in
    let all : c.args.lottery.now.total ≡ total (λ (r : LotteryRow). r.weight) rows = c.requires.total ∙ sum_by-is-total (λ (r : LotteryRow). r.weight) rows in
    let same : row.weight ≡ (get_or rows j row).weight = ap (λ (r : LotteryRow). r.weight) (c.row-item.is ∙ ap (λ rs. get_or rs j row) c.rows-row-items.ensures.value) in
    let small = c.rows-row-items.ensures.total in
    rw (here, weight) (fits (counted (take j rows) i + row.weight) (omega arith))

pub loop-row-preserved : goal.loop-row-preserved
loop-row-preserved c =
    let rows = c.args.lottery.now.rows in
    let row = c.row-item.result in
    let j = c.loop-row.row-index in
    let new = c.add_weight.new.chances in
    let sizes : length c.deref_mut.result.now ≡ length c.loop-row.chances.items = ap (λ (xs : List ℤ). length xs) c.deref_mut.ensures.value in
    let kept : length new ≡ length c.deref_mut.result.now = c.add_weight.auto.chances in
    let whole = with_items_is c.loop-row.chances new (kept ∙ c.deref_mut.ensures.len) in
    let weight : to_z w128 (of_z w128 c.weight.result) ≡ pos row.weight = stored c.weight.result row.weight (search rules) c.weight.ensures in
    let same : row ≡ get_or rows j row = c.row-item.is ∙ ap (λ rs. get_or rs j row) c.rows-row-items.ensures.value in
    let count_of_rows = ap (λ (rs : List LotteryRow). length rs) c.rows-row-items.ensures.value in
    rw whole (record {
      each = λ k l.
          let here : get_or c.deref_mut.result.now k (pos 0) ≡ pos (counted (take j rows) k) =
          ap (λ xs. get_or xs k (pos 0)) c.deref_mut.ensures.value ∙ c.loop-row.invariant.each k (omega arith) in
          let panel : includes c.members.result.now k ≡ includes row.panel k = ap (λ p. includes p k) (c.members.ensures.value ∙ c.panel.ensures) in
          c.add_weight.ensures k (omega arith)
          ∙ (more (get_or c.deref_mut.result.now k (pos 0)) (to_z w128 (of_z w128 c.weight.result)) (includes c.members.result.now k) (counted (take j rows) k) row.weight here weight
          ∙ ap pos (ap (λ b. counted (take j rows) k + cond b row.weight 0) panel
          ∙ (ap (λ (r : LotteryRow). counted (take j rows) k + cond (includes r.panel k) r.weight 0) same ∙ sym (counted_more rows j k row (omega (arith, count_of_rows))))));
      size = kept ∙ (sizes ∙ c.loop-row.invariant.size);
    })

pub returns : goal.returns
returns c =
    let rows = c.args.lottery.now.rows in
    let all : take c.loop-row.row-index rows ≡ rows = take_all c.loop-row.row-index rows (omega (arith, ap (λ (rs : List LotteryRow). length rs) c.rows-row-items.ensures.value)) in
    fill_by_all (λ i. pos (count c.args.lottery.now i)) c.loop-row.chances.items (length c.args.pool.now.volunteers) (pos 0) c.loop-row.invariant.size
    (λ k l. c.loop-row.invariant.each k (omega arith) ∙ ap pos (ap (λ rs. counted rs k) all ∙ sym (count-is c.args.lottery.now k)))
    ∙ sym (map-map (λ n. pos n) (count c.args.lottery.now) (everybody c.args.pool.now))
