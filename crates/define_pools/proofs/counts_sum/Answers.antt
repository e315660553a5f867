-- The counts sum to the size times the total, since a panel adds its weight to the count of each of its members.
use Rattle.std.proofs.Common.{◌≡◌, ℕ, ◌*◌, true, ◌&&◌, eqb, ltb, List, length, ap, ◌∙◌, arith}
use Rattle.std.specs.List.{list_all}
use Rattle.std.proofs.lemmas.Bool.{and_parts, eqb-true}
use Rattle.std.proofs.lemmas.List.Sums.{sum-map}
use Rattle.define_pools.proofs.Sums.{total, sum_by-is-total, total_eq, total_ext, total-scaled, total-ones}
use Rattle.define_pools.proofs.Each.{each_from_list_all, each_map}
use Rattle.define_pools.specs.Lists.{is_increasing}
use Rattle.define_pools.specs.Pool.{Pool, everybody, is_of_size}
use Rattle.define_pools.specs.Lottery.{LotteryRow, count}
use Rattle.define_pools.proofs.Weights.{Fits, counted, exchange}
use Rattle.define_pools.proofs.Greatest.{count-is}
use Rattle.define_pools.proofs.counts_sum.Goals as goal

-- a panel of the pool's size: an increasing list of `size` numbers of volunteers
record IsOfSize (pool : Pool) (panel : List ℕ) : Type 0 where
  fits : Fits (length pool.volunteers) panel
  size : length panel ≡ pool.size

of_size : (pool : Pool) (panel : List ℕ) → is_of_size pool panel ≡ true → IsOfSize pool panel
of_size pool panel h =
    let A = eqb (length panel) pool.size in
    let c = and_parts (A && is_increasing panel) (list_all (λ i. ltb i (length pool.volunteers)) panel) h in
    let b = and_parts A (is_increasing panel) c.0 in
    record { fits = record { up = b.1; below = c.1 }; size = eqb-true (length panel) pool.size b.0 }

pub returns : goal.returns
returns c pool lottery agrees sizes =
    let one : ℕ → ℕ = λ i. 1 in
    let rows = lottery.rows in
    let each = each_map (λ (row : LotteryRow). is_of_size pool row.panel ≡ true) (λ row. IsOfSize pool row.panel) (λ row h. of_size pool row.panel h) rows (each_from_list_all (λ (row : LotteryRow). is_of_size pool row.panel) rows sizes) in
    let fit = each_map (λ (row : LotteryRow). IsOfSize pool row.panel) (λ row. Fits (length pool.volunteers) row.panel) (λ row is. is.fits) rows each in
    let swapped = exchange one (length pool.volunteers) rows fit in
    let weighed = total_eq (λ (row : LotteryRow). total one row.panel * row.weight) (λ row. row.weight * pool.size) rows
    (each_map (λ (row : LotteryRow). IsOfSize pool row.panel) (λ row. total one row.panel * row.weight ≡ row.weight * pool.size)
    (λ row is. let e : total one row.panel ≡ pool.size = total-ones row.panel ∙ is.size in ap (λ z. z * row.weight) e ∙ (let f : pool.size * row.weight ≡ row.weight * pool.size = omega arith in f)) rows each) in
    let scaled = total-scaled (λ (row : LotteryRow). row.weight) pool.size rows in
    let all : lottery.total ≡ total (λ row. row.weight) rows = agrees.total ∙ sum_by-is-total (λ (row : LotteryRow). row.weight) rows in
    let times : lottery.total * pool.size ≡ total (λ row. row.weight) rows * pool.size = ap (λ z. z * pool.size) all in
    let same = total_ext (count lottery) (λ i. one i * counted rows i) (λ i. let e = count-is lottery i in omega arith) (everybody pool) in
    let counted_all = sum-map (count lottery) (everybody pool) ∙ sum_by-is-total (count lottery) (everybody pool) in
    omega (arith, counted_all, same, swapped, weighed, scaled, times)
