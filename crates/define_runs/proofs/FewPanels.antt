-- If there is a volunteer, a dial has at most as many arcs as there are volunteers.
use Rattle.std.proofs.Common.{◌≡◌, ℕ, ◌+◌, ◌*◌, ◌/◌, ◌≤◌, ◌<◌, true, false, cond, List, [], ◌∷◌, ◌++◌, eqb, map, length, refl, ap, ◌∙◌, arith, subst, length-append}
use Rattle.std.specs.List.{flat_map, range_with_len, AllByRecursion}
use Rattle.std.proofs.lemmas.Bool.{eq-eqb}
use Rattle.std.proofs.Math.Nat.{zero-div}
use Rattle.std.proofs.lemmas.List.{length-map}
use Rattle.std.proofs.lemmas.List.Concat.{flat_map-cons}
use Rattle.std.proofs.lemmas.List.FromFn.{length-range_with_len}
use Rattle.define_pools.proofs.Sums.{total, sum_by-is-total}
use Rattle.define_pools.specs.Lists.{includes, rising}
use Rattle.frac128.specs.Fractions.{Fraction}
use Rattle.define_searches.specs.Classes.{Class, Classes, volunteer_count}
use Rattle.define_runs.specs.Spreading.{is_partly_taken, partly_taken, dial, marks, cuts, arcs_between, once_each, rows_of}
use Rattle.define_runs.proofs.Cuts.{includes-flat_map, zero_again}
use Rattle.define_runs.proofs.Dials.{IsPartly, each_partly, includes-mapped}
use Rattle.define_runs.proofs.Lotteries.{row_at, some_rows}

length-marks : (len : ℕ) (sizes : List ℕ) → length (flat_map (marks len) sizes) ≡ total (λ size. size) sizes
length-marks len [] = refl
length-marks len (size ∷ sizes) =
    let cons = ap length (flat_map-cons (marks len) size sizes) in
    omega (arith, cons, length-append (marks len size) (flat_map (marks len) sizes), length-map (range_with_len 0 size) (λ j. j * len / size), length-range_with_len 0 size, length-marks len sizes)

some_members : (classes : List Class) (counts : List ℕ) → total (λ size. size) (partly_taken classes counts) ≤ total (λ class. length class.members) classes
some_members [] counts = omega arith
some_members (class ∷ classes) [] = omega arith
some_members (class ∷ classes) (count ∷ counts) =
    let rest = some_members classes counts in
    elim (is_partly_taken class count) as (λ b. total (λ size. size) (cond b (length class.members ∷ []) [] ++ partly_taken classes counts) ≤ length class.members + total (λ class. length class.members) classes) [
      | true ↦ omega (arith, rest)
      | false ↦ omega (arith, rest)
    ]

pub length-arcs : (end : ℕ) (xs : List ℕ) → length (arcs_between end xs) ≡ length xs
length-arcs end [] = refl
length-arcs end (x ∷ []) = refl
length-arcs end (x ∷ (y ∷ ys)) = omega (arith, length-arcs end (y ∷ ys))

few_cuts : (all : Classes) (counts : List ℕ) → 0 < volunteer_count all → length (cuts all counts) ≤ volunteer_count all
few_cuts all counts some = by (partly_taken all.classes counts) (each_partly all.classes counts) (some_members all.classes counts)
  where
    len : ℕ
    len = dial all counts

    by : (sizes : List ℕ) → AllByRecursion (IsPartly all.classes counts) sizes → total (λ size. size) sizes ≤ total (λ class. length class.members) all.classes →
        length (once_each (rising (0 ∷ flat_map (marks (dial all counts)) sizes))) ≤ volunteer_count all
    by [] partly few = omega (arith, some)
    by (size ∷ sizes) partly few =
        let has : 0 < size = (let e = partly.0.size_is in let f = partly.0.few in omega arith) in
        let first : includes (marks (dial all counts) size) (0 * dial all counts / size) ≡ true = includes-mapped (λ j. j * dial all counts / size) 0 size 0 (omega arith) (omega arith) in
        let zero_mark : 0 * dial all counts / size ≡ 0 = (let e : 0 * dial all counts ≡ 0 = omega arith in ap (λ n. n / size) e ∙ zero-div size) in
        let there : includes (flat_map (marks (dial all counts)) (size ∷ sizes)) 0 ≡ true =
        includes-flat_map (marks (dial all counts)) (size ∷ sizes) size 0 (let e : eqb size size ≡ true = eq-eqb size size refl in rw e refl) (subst (λ z. includes (marks (dial all counts) size) z ≡ true) zero_mark first) in
        let again = zero_again (flat_map (marks (dial all counts)) (size ∷ sizes)) there in
        omega (arith, again, length-marks (dial all counts) (size ∷ sizes), few, sum_by-is-total (λ class. length class.members) all.classes)

-- if there is a volunteer, a part has at least one row, since it has one for each arc, and at most as many as there are volunteers
pub few_rows : (all : Classes) (sum : ℕ) (part : List ℕ × Fraction) → 0 < volunteer_count all → (0 < length (rows_of all sum part)) × (length (rows_of all sum part) ≤ volunteer_count all)
few_rows all sum part some = (
  some_rows all sum part,
  omega (arith, many (dial all part.0) (cuts all part.0), few_cuts all part.0 some),
)
  where
    many : (len : ℕ) (xs : List ℕ) → length (map (row_at all sum part) (arcs_between len xs)) ≡ length xs
    many len xs = length-map (arcs_between len xs) (row_at all sum part) ∙ length-arcs len xs
