-- The rows of a dial's arcs, one after the other, and their weights.
use Rattle.std.proofs.Common.{◌≡◌, ℕ, zero, suc, ◌+◌, ◌-◌, ◌*◌, ◌/◌, ◌≤◌, ◌<◌, true, ltb, List, [], ◌∷◌, ◌++◌, map, take, length, get_or, slice_index_or, refl, sym, ap, ◌∙◌, arith, subst, append_assoc}
use Rattle.std.specs.Int.{◌∣◌}
use Rattle.std.specs.List.{list_all, AllByRecursion}
use Rattle.std.proofs.lemmas.Bool.{and_parts, ltb-true}
use Rattle.std.proofs.Math.Nat.{mul-div_assoc, mul-div_cancel', mul-div_cancel_left, mul-le-mul_right, le_of_dvd}
use Rattle.define_pools.proofs.Lists.{map_same}
use Rattle.define_pools.proofs.Each.{each_map, each_everywhere}
use Rattle.frac128.specs.Fractions.{Fraction}
use Rattle.define_pools.specs.Lists.{is_increasing}
use Rattle.define_pools.specs.Lottery.{LotteryRow}
use Rattle.define_searches.specs.Classes.{Classes}
use Rattle.define_runs.specs.Spreading.{arcs, arcs_between, cuts, dial, panel_at, rows_of}
use Rattle.define_runs.proofs.Cuts.{cuts_increase}
use Rattle.define_runs.proofs.Dials.{Cut, cuts_are}
use Rattle.define_runs.proofs.Lotteries.{row_at}
use Rattle.alike.specs.Steps.{arc_row}
use Rattle.define_runs.proofs.FewPanels.{length-arcs}

-- ---- arcs by their number

-- arc `k` begins before the dial's end, and has a length above 0 up to the next cut or the end
pub record IsArc (end : ℕ) (xs : List ℕ) (k : ℕ) : Type 0 where
  pub on : get_or xs k 0 < end
  pub rises : get_or xs k 0 < slice_index_or xs (k + 1) end
  pub ends : slice_index_or xs (k + 1) end ≤ end
  pub is : get_or (arcs_between end xs) k (0, 0) ≡ (get_or xs k 0, slice_index_or xs (k + 1) end - get_or xs k 0)

pub arc_at : (end : ℕ) (xs : List ℕ) (k : ℕ) → is_increasing xs ≡ true → AllByRecursion (λ x. x < end) xs → k < length xs → IsArc end xs k
arc_at end [] k up below l = absurd (omega arith)
arc_at end (x ∷ []) zero up below l = record { on = below.0; rises = below.0; ends = omega arith; is = refl }
arc_at end (x ∷ []) (suc k) up below l = absurd (omega arith)
arc_at end (x ∷ (y ∷ ys)) zero up below l =
    let parts = and_parts (list_all (λ z. ltb x z) (y ∷ ys)) (is_increasing (y ∷ ys)) up in
    let less = ltb-true x y (and_parts (ltb x y) (list_all (λ z. ltb x z) ys) parts.0).0 in
    let within = below.1.0 in
    record { on = below.0; rises = less; ends = omega arith; is = refl }
arc_at end (x ∷ (y ∷ ys)) (suc k) up below l =
    let parts = and_parts (list_all (λ z. ltb x z) (y ∷ ys)) (is_increasing (y ∷ ys)) up in
    let rest = arc_at end (y ∷ ys) k parts.1 below.1 (omega arith) in
    let next : suc (k + 1) ≡ suc k + 1 = omega arith in
    let same : slice_index_or (y ∷ ys) (k + 1) end ≡ slice_index_or (x ∷ (y ∷ ys)) (suc k + 1) end = ap (λ n. slice_index_or (x ∷ (y ∷ ys)) n end) next in
    record {
      on = rest.on;
      rises = subst (λ n. get_or (y ∷ ys) k 0 < n) same rest.rises;
      ends = subst (λ n. n ≤ end) same rest.ends;
      is = rest.is ∙ ap (λ n. (get_or (y ∷ ys) k 0, n - get_or (y ∷ ys) k 0)) same;
    }

pub map-take_more : {X Y : Type 0} (f : X → Y) (xs : List X) (k : ℕ) (d : X) → k < length xs → map f (take (suc k) xs) ≡ map f (take k xs) ++ f (get_or xs k d) ∷ []
map-take_more f [] k d l = absurd (omega arith)
map-take_more f (x ∷ xs) zero d l = refl
map-take_more f (x ∷ xs) (suc k) d l = ap (λ rest. f x ∷ rest) (map-take_more f xs k d (omega arith))

-- ---- the weight of one place of a dial, and the rows that it gives

-- three numbers are at most the total: `den * places`; the sum of the weights of all places; and the weight of one place, which is
-- `num * (total / (den * places))`
pub record PlaceWeight (num den places total : ℕ) : Type 0 where
  pub product : den * places ≤ total
  pub whole : places * (num * (total / (den * places))) ≤ total
  pub small : num * (total / (den * places)) ≤ total

pub place_weighs : (num den places total : ℕ) → 0 < den → 0 < places → 0 < total → den * places ∣ total → num * (total / den) ≤ total → PlaceWeight num den places total
place_weighs num den places total over has some h share =
    let unit : ℕ = total / (den * places) in
    let whole : den * places * unit ≡ total = mul-div_cancel' (den * places) h in
    let quotient : total / den ≡ places * unit = ap (λ n. n / den) (sym whole ∙ (let e : den * places * unit ≡ den * (places * unit) = omega arith in e)) ∙ mul-div_cancel_left (places * unit) over in
    let shared : num * (total / den) ≡ places * (num * unit) = ap (λ n. num * n) quotient ∙ (let e : num * (places * unit) ≡ places * (num * unit) = omega arith in e) in
    let all : places * (num * unit) ≤ total = subst (λ n. n ≤ total) shared share in
    let one : 1 * (num * unit) ≤ places * (num * unit) = mul-le-mul_right (num * unit) has in
    record { product = le_of_dvd some h; whole = all; small = omega arith }

-- the rows made arc by arc are the definition's rows of the composition
pub rows_are : (all : Classes) (counts : List ℕ) (fraction : Fraction) (total place_weight : ℕ) → fraction.den * dial all counts ∣ total → place_weight ≡ fraction.num * (total / (fraction.den * dial all counts)) →
    map (arc_row all counts place_weight) (arcs all counts) ≡ rows_of all total (counts, fraction)
rows_are all counts fraction total place_weight h e =
    map_same (arc_row all counts place_weight) (row_at all total (counts, fraction)) (arcs all counts) (each_everywhere (λ a. arc_row all counts place_weight a ≡ row_at all total (counts, fraction) a) same (arcs all counts))
  where
    weighs : (arc : ℕ) → arc * place_weight ≡ arc * fraction.num * total / (fraction.den * dial all counts)
    weighs arc = ap (λ n. arc * n) e ∙ (let f : arc * (fraction.num * (total / (fraction.den * dial all counts))) ≡ arc * fraction.num * (total / (fraction.den * dial all counts)) = omega arith in f)
        ∙ sym (mul-div_assoc (fraction.den * dial all counts) (arc * fraction.num) h)

    same : (a : ℕ × ℕ) → arc_row all counts place_weight a ≡ row_at all total (counts, fraction) a
    same a = ap (λ (weight : ℕ). let row : LotteryRow = record { panel = panel_at all counts a.0; weight = weight } in row) (weighs a.1)

-- ---- the arcs of a composition

pub arc_of : (all : Classes) (counts xs : List ℕ) (places k : ℕ) → xs ≡ cuts all counts → places ≡ dial all counts → k < length xs → IsArc places xs k
arc_of all counts xs places k e f l =
    let up = subst (λ zs. is_increasing zs ≡ true) (sym e) (cuts_increase all counts) in
    let below = each_map (Cut all counts) (λ x. x < dial all counts) (λ x cut. cut.0) (cuts all counts) (cuts_are all counts) in
    arc_at places xs k up (subst (λ zs. AllByRecursion (λ x. x < places) zs) (sym e) (subst (λ n. AllByRecursion (λ x. x < n) (cuts all counts)) (sym f) below)) l

-- if the whole dial weighs at most `limit`, so does an arc
pub arc_weighs : (places at next place_weight limit : ℕ) → next ≤ places → places * place_weight ≤ limit → (next - at) * place_weight ≤ limit
arc_weighs places at next place_weight limit l whole = let less : (next - at) * place_weight ≤ places * place_weight = mul-le-mul_right {m = next - at} {n = places} place_weight (omega arith) in omega arith

-- if the rows so far are those of the first `k` arcs, pushing the row of arc `k` makes them those of the first `k + 1`
pub row_added : (all : Classes) (counts xs : List ℕ) (places k place_weight next : ℕ) (rows before : List LotteryRow) (row : LotteryRow) (panel : List ℕ) (weight : ℕ) → xs ≡ cuts all counts → places ≡ dial all counts → k < length xs →
    panel ≡ panel_at all counts (get_or xs k 0) → next ≡ slice_index_or xs (k + 1) places → weight ≡ (next - get_or xs k 0) * place_weight → row ≡ (let made : LotteryRow = record { panel = panel; weight = weight } in made) →
    rows ≡ before ++ map (arc_row all counts place_weight) (take k (arcs all counts)) → rows ++ row ∷ [] ≡ before ++ map (arc_row all counts place_weight) (take (k + 1) (arcs all counts))
row_added all counts xs places k place_weight next rows before row panel weight e f l is_panel is_next is_weight is_row so_far =
    let arc = arc_of all counts xs places k e f l in
    let many : k < length (arcs all counts) = omega (arith, length-arcs (dial all counts) (cuts all counts), ap (λ (zs : List ℕ). length zs) e) in
    let here : get_or (arcs all counts) k (0, 0) ≡ (get_or xs k 0, next - get_or xs k 0) =
    ap (λ n. get_or (arcs_between n (cuts all counts)) k (0, 0)) (sym f) ∙ ap (λ zs. get_or (arcs_between places zs) k (0, 0)) (sym e) ∙ arc.is ∙ ap (λ n. (get_or xs k 0, n - get_or xs k 0)) (sym is_next) in
    let made : row ≡ arc_row all counts place_weight (get_or (arcs all counts) k (0, 0)) =
    is_row ∙ ap (λ (p : List ℕ). let made : LotteryRow = record { panel = p; weight = weight } in made) is_panel
    ∙ ap (λ (w : ℕ). let made : LotteryRow = record { panel = panel_at all counts (get_or xs k 0); weight = w } in made) is_weight
    ∙ ap (arc_row all counts place_weight) (sym here) in
    let more : suc k ≡ k + 1 = omega arith in
    ap (λ zs. zs ++ row ∷ []) so_far
    ∙ ap (λ r. (before ++ map (arc_row all counts place_weight) (take k (arcs all counts))) ++ r ∷ []) made
    ∙ append_assoc before (map (arc_row all counts place_weight) (take k (arcs all counts))) (arc_row all counts place_weight (get_or (arcs all counts) k (0, 0)) ∷ [])
    ∙ ap (λ zs. before ++ zs) (sym (map-take_more (arc_row all counts place_weight) (arcs all counts) k (0, 0) many))
    ∙ ap (λ n. before ++ map (arc_row all counts place_weight) (take n (arcs all counts))) more
