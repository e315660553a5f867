-- Operations, pivots and choices under a greater width: an outcome that doesn't pass stays the same.
use Rattle.std.proofs.Common.{◌≡◌, ℕ, ◌+◌, ◌≤◌, Bool, true, false, cond, ◌&&◌, ◌||◌, eqb, List, [], ◌∷◌, Option, Some, None, Result, Ok, Err, ℤ, pos, refl, sym, ap, ap₂, ◌∙◌, arith}
use Rattle.std.specs.Prelude.{int_div, int_lt, not, slice_set, unsigned_abs}
use Rattle.std.specs.List.{find, zip}
use Rattle.std.specs.Option.{option_map, option_and_then}
use Rattle.std.specs.Ordering.{int_eq}
use Rattle.std.proofs.lemmas.Bool.{le-leb}
use Rattle.std.proofs.Math.Pow.{pow_mono}
use Rattle.frac128.specs.Divisors.{gcd_of}
use Rattle.define_pools.proofs.Each.{list_all_equal}
use Rattle.define_rows.specs.declared.Op.{Op}
use Rattle.define_rows.specs.declared.Op.TheVariants.{Mul, Sub, Add}
use Rattle.define_rows.specs.declared.Pass.{Pass}
use Rattle.define_rows.specs.declared.Var.{Var}
use Rattle.define_rows.specs.declared.Var.TheVariants.{Slack, Stage, Column}
use Rattle.define_rows.specs.Choice.{basic_row, choice, entering, entering_from, goes_before, is_eligible, is_least, leaves_before, leaving, may_leave}
use Rattle.define_rows.specs.Pivot.{combined, combined_entries, combined_row, eliminated, first_rows, first_table, pivot, row_after, rows_after, start}
use Rattle.define_rows.specs.Row.{Row, divided}
use Rattle.define_rows.specs.Steps.{add_column, close_stage, closed_by, enter_stage, solution}
use Rattle.define_rows.specs.Table.{Table, basic_at, coefficient, coefficient_at, row_at, row_numbers, stage_variable, variables}
use Rattle.define_rows.specs.Width.{after, all_in_turn, operation, outcome, reach_from, reach_operations, reach_step, width_limit}
use Rattle.define_rows.proofs.PivotLaws.{after-Ok_parts, operation-Ok_parts}

-- ---- operations that don't pass the width

-- if `first` succeeds, `second` succeeds with the same outcome
abbrev pub Lasts : {A : Type 0} → Result A Pass → Result A Pass → Type 0
Lasts {A} first second = (x : A) → first ≡ Ok x → second ≡ Ok x

after_lasts : {A B : Type 0} (r s : Result A Pass) (f g : A → Result B Pass) → Lasts r s → ((x : A) → Lasts (f x) (g x)) → Lasts (after r f) (after s g)
after_lasts r s f g first then y e =
    let parts = after-Ok_parts r f y e in ap (λ r. after r g) (first parts.0 parts.1) ∙ then parts.0 y parts.2

in_turn_lasts : {X Y : Type 0} (f g : ℕ → X → Result Y Pass) → ((i : ℕ) (x : X) → Lasts (f i x) (g i x)) → (i : ℕ) (xs : List X) → Lasts (all_in_turn f i xs) (all_in_turn g i xs)
unfolding all_in_turn
in_turn_lasts f g each i [] ys e = e
in_turn_lasts f g each i (x ∷ xs) zs e =
    after_lasts (f i x) (g i x) (λ y. after (all_in_turn f (i + 1) xs) (λ ys. Ok (y ∷ ys))) (λ y. after (all_in_turn g (i + 1) xs) (λ ys. Ok (y ∷ ys))) (each i x)
    (λ y. after_lasts (all_in_turn f (i + 1) xs) (all_in_turn g (i + 1) xs) (λ ys. Ok (y ∷ ys)) (λ ys. Ok (y ∷ ys)) (in_turn_lasts f g each (i + 1) xs) (λ ys zs e. e)) zs e

module _ (most more : ℕ) (greater : most ≤ more) where
  operation_lasts : (row : ℕ) (op : Op) (x y : ℤ) → Lasts (operation most row op x y) (operation more row op x y)
  unfolding operation
  operation_lasts row op x y z e =
      let parts = operation-Ok_parts most row op x y z e in
      let within : unsigned_abs (outcome op x y) ≤ more = omega (arith, greater, parts.1, ap unsigned_abs parts.0) in
      ap (λ b. cond b (Ok (outcome op x y)) (Err (record { row = row; op = op; x = x; y = y }))) (le-leb (unsigned_abs (outcome op x y)) more within) ∙ ap Ok parts.0

  combined_lasts : (row : ℕ) (f h x y : ℤ) → Lasts (combined most row f h x y) (combined more row f h x y)
  combined_lasts row f h x y =
      after_lasts (operation most row Mul f x) (operation more row Mul f x) (λ first. after (operation most row Mul h y) (λ second. operation most row Sub first second)) (λ first. after (operation more row Mul h y) (λ second. operation more row Sub first second))
      (operation_lasts row Mul f x)
      (λ first. after_lasts (operation most row Mul h y) (operation more row Mul h y) (λ second. operation most row Sub first second) (λ second. operation more row Sub first second)
      (operation_lasts row Mul h y) (λ second. operation_lasts row Sub first second))

  combined_row_lasts : (i : ℕ) (f h : ℤ) (old pivot : Row) → Lasts (combined_row most i f h old pivot) (combined_row more i f h old pivot)
  combined_row_lasts i f h old pivot =
      after_lasts (combined most i f h old.b pivot.b) (combined more i f h old.b pivot.b)
      (λ b. after (combined_entries most i f h old.a pivot.a) (λ a. Ok (row_of b a))) (λ b. after (combined_entries more i f h old.a pivot.a) (λ a. Ok (row_of b a)))
      (combined_lasts i f h old.b pivot.b)
      (λ b. after_lasts (combined_entries most i f h old.a pivot.a) (combined_entries more i f h old.a pivot.a) (λ a. Ok (row_of b a)) (λ a. Ok (row_of b a))
      (in_turn_lasts (λ _ p. combined most i f h p.0 p.1) (λ _ p. combined more i f h p.0 p.1) (λ _ p. combined_lasts i f h p.0 p.1) 0 (zip old.a pivot.a)) (λ a new e. e))
    where
      row_of : ℤ → List ℤ → Row
      row_of b a = record { b = b; a = a }

  reach_lasts : (row : ℕ) (sum : ℤ) (sizes : List ℕ) (xs : List ℤ) → Lasts (reach_from most row sum sizes xs) (reach_from more row sum sizes xs)
  unfolding reach_from
  reach_lasts row sum [] xs reached e = e
  reach_lasts row sum (s ∷ ss) [] reached e = e
  reach_lasts row sum (s ∷ ss) (x ∷ xs) reached e =
      after_lasts (reach_step most row sum s x) (reach_step more row sum s x) (λ next. reach_from most row next ss xs) (λ next. reach_from more row next ss xs)
      (after_lasts (operation most row Mul (pos s) (pos (unsigned_abs x))) (operation more row Mul (pos s) (pos (unsigned_abs x))) (λ product. operation most row Add sum product) (λ product. operation more row Add sum product)
      (operation_lasts row Mul (pos s) (pos (unsigned_abs x))) (λ product. operation_lasts row Add sum product))
      (λ next. reach_lasts row next ss xs) reached e

  eliminated_lasts : (sizes : List ℕ) (i : ℕ) (p e : ℤ) (old pivot : Row) → Lasts (eliminated most sizes i p e old pivot) (eliminated more sizes i p e old pivot)
  unfolding eliminated
  eliminated_lasts sizes i p e old pivot =
      let g = pos (gcd_of (unsigned_abs p) (unsigned_abs e)) in
      after_lasts (combined_row most i (int_div p g) (int_div e g) old pivot) (combined_row more i (int_div p g) (int_div e g) old pivot)
      (λ new. after (reach_operations most sizes i (divided new)) (λ reach. Ok (divided new))) (λ new. after (reach_operations more sizes i (divided new)) (λ reach. Ok (divided new)))
      (combined_row_lasts i (int_div p g) (int_div e g) old pivot)
      (λ new. after_lasts (reach_operations most sizes i (divided new)) (reach_operations more sizes i (divided new)) (λ reach. Ok (divided new)) (λ reach. Ok (divided new))
      (reach_lasts i (pos (unsigned_abs (divided new).b)) sizes (divided new).a) (λ reach row e. e))

pub limit_rises : (bits more : ℕ) → bits ≤ more → width_limit bits ≤ width_limit more
limit_rises bits more l = omega (arith, pow_mono l)

-- ---- a table of another width

abbrev pub wider : ℕ → Table → Table
wider bits table = record table { bits = bits }

module _ (bits : ℕ) (table : Table) where
  same_coefficient : (row : Row) (v : Var) → coefficient (wider bits table) row v ≡ coefficient table row v
  unfolding coefficient
  same_coefficient row (Slack t) = refl
  same_coefficient row (Stage r) = refl
  same_coefficient row (Column c) = refl

  same_at : (i : ℕ) (v : Var) → coefficient_at (wider bits table) i v ≡ coefficient_at table i v
  same_at i v = same_coefficient (row_at table i) v

  found_same : {X : Type 0} (p q : X → Bool) → ((x : X) → p x ≡ q x) → (xs : List X) → find p xs ≡ find q xs
  found_same p q each [] = refl
  found_same p q each (x ∷ xs) = ap₂ (λ b found. cond b (Some x) found) (each x) (found_same p q each xs)

  entering_same : entering (wider bits table) ≡ entering table
  unfolding entering
  entering_same = by (basic_row table (stage_variable table))
    where
      by : (open_row : Option ℕ) → entering_from (wider bits table) open_row ≡ entering_from table open_row
      by None = refl
      by (Some open_row) =
          found_same (λ v. is_eligible (wider bits table) v && int_lt (coefficient_at (wider bits table) open_row v) (pos 0)) (λ v. is_eligible table v && int_lt (coefficient_at table open_row v) (pos 0))
          (λ v. ap₂ (λ a b. a && b)
          (list_all_equal (λ i. int_eq (coefficient_at (wider bits table) i v) (pos 0)) (λ i. int_eq (coefficient_at table i v) (pos 0)) (λ i. ap (λ z. int_eq z (pos 0)) (same_at i v)) table.closed)
          (ap (λ z. int_lt z (pos 0)) (same_at open_row v))) (variables table)

  least_same : (v : Var) (i : ℕ) → is_least (wider bits table) v i ≡ is_least table v i
  least_same v i = ap₂ (λ a b. a && b) (ap (λ z. int_lt (pos 0) z) (same_at i v))
      (list_all_equal (λ j. not (may_leave (wider bits table) v j) || not (leaves_before (wider bits table) v j i)) (λ j. not (may_leave table v j) || not (leaves_before table v j i))
      (λ j. ap₂ (λ own other. not (int_lt (pos 0) other) || not (goes_before (row_at table j).b other (basic_at table j) (row_at table i).b own (basic_at table i))) (same_at i v) (same_at j v)) (row_numbers table))

  leaving_same : (v : Var) → leaving (wider bits table) v ≡ leaving table v
  unfolding leaving
  leaving_same v = found_same (is_least (wider bits table) v) (is_least table v) (least_same v) (row_numbers table)

  pub choice_same : choice (wider bits table) ≡ choice table
  unfolding choice
  choice_same = ap (chosen (leaving (wider bits table))) entering_same ∙ by (entering table)
    where
      chosen : (Var → Option ℕ) → Option Var → Option (ℕ × Var)
      chosen leaves entered = option_and_then (λ v. option_map (λ i. (i, v)) (leaves v)) entered

      with_variable : Var → Option ℕ → Option (ℕ × Var)
      with_variable v left = option_map (λ i. (i, v)) left

      by : (entered : Option Var) → chosen (leaving (wider bits table)) entered ≡ chosen (leaving table) entered
      by None = refl
      by (Some v) = ap (with_variable v) (leaving_same v)

  pub solution_same : solution (wider bits table) ≡ solution table
  unfolding solution coefficient
  solution_same = refl

  module _ (greater : table.bits ≤ bits) where
    row_lasts : (r : ℕ) (v : Var) (i : ℕ) (row : Row) → Lasts (row_after table r v i row) (row_after (wider bits table) r v i row)
    unfolding row_after
    row_lasts r v i row new e =
        ap₂ (λ own pivots. made (eqb i r || int_eq own (pos 0)) (eliminated (width_limit bits) table.sizes i pivots own row (row_at table r))) (same_coefficient row v) (same_at r v)
        ∙ by (eqb i r || int_eq (coefficient table row v) (pos 0)) e
      where
        made : Bool → Result Row Pass → Result Row Pass
        made b other = cond b (Ok row) other

        by : (b : Bool) → cond b (Ok row) (eliminated (width_limit table.bits) table.sizes i (coefficient_at table r v) (coefficient table row v) row (row_at table r)) ≡ Ok new →
            cond b (Ok row) (eliminated (width_limit bits) table.sizes i (coefficient_at table r v) (coefficient table row v) row (row_at table r)) ≡ Ok new
        by true e = e
        by false e =
            eliminated_lasts (width_limit table.bits) (width_limit bits) (limit_rises table.bits bits greater) table.sizes i (coefficient_at table r v) (coefficient table row v) row (row_at table r) new e

    pub pivot_lasts : (r : ℕ) (v : Var) (made : Table) → pivot table r v ≡ Ok made → pivot (wider bits table) r v ≡ Ok (wider bits made)
    unfolding pivot
    pivot_lasts r v made e =
        let parts = after-Ok_parts (rows_after table r v) (λ rows. Ok (with_rows table rows)) made e in
        let rows = in_turn_lasts (row_after table r v) (row_after (wider bits table) r v) (row_lasts r v) 0 table.rows parts.0 parts.1 in
        let same : with_rows table parts.0 ≡ made = inside (with_rows table parts.0) made parts.2 in
        ap (λ rows. after rows (λ rows. went (with_rows (wider bits table) rows))) rows ∙ ap (λ t. went (wider bits t)) same
      where
        went : Table → Result Table Pass
        went t = Ok t

        with_rows : Table → List Row → Table
        with_rows table rows = record table { rows = rows; basic = slice_set table.basic r v; pivots = table.pivots + 1 }

        inside : (t u : Table) → ◌≡◌ {A = Result Table Pass} (Ok t) (Ok u) → t ≡ u
        inside t u k = cc

pub start_lasts : (sizes first : List ℕ) (bits more : ℕ) (made : Table) → bits ≤ more → start sizes first bits ≡ Ok made → start sizes first more ≡ Ok (wider more made)
unfolding start
start_lasts sizes first bits more made greater e =
    let parts = after-Ok_parts (all_in_turn (reach_operations (width_limit bits) sizes) 0 (first_rows first)) (λ reaches. Ok (first_table sizes first bits)) made e in
    let reaches = in_turn_lasts (reach_operations (width_limit bits) sizes) (reach_operations (width_limit more) sizes)
    (λ i row. reach_lasts (width_limit bits) (width_limit more) (limit_rises bits more greater) i (pos (unsigned_abs row.b)) sizes row.a) 0 (first_rows first) parts.0 parts.1 in
    let same : first_table sizes first bits ≡ made = inside (first_table sizes first bits) made parts.2 in
    ap (λ r. after r (λ reaches. went (first_table sizes first more))) reaches ∙ ap (λ t. went (wider more t)) same
  where
    went : Table → Result Table Pass
    went t = Ok t

    inside : (t u : Table) → ◌≡◌ {A = Result Table Pass} (Ok t) (Ok u) → t ≡ u
    inside t u k = cc

-- ---- entering and closing a stage, and adding a column, under another width

module _ (bits : ℕ) (table : Table) where
  pub entered_wider : enter_stage (wider bits table) ≡ wider bits (enter_stage table)
  unfolding enter_stage
  entered_wider = refl

  pub closed_wider : close_stage (wider bits table) ≡ wider bits (close_stage table)
  unfolding closed_by
  closed_wider = refl

  pub added_wider : (counts : List ℕ) → add_column (wider bits table) counts ≡ wider bits (add_column table counts)
  unfolding add_column
  added_wider counts = refl

-- ---- no step changes the width

pub enter_width : (table : Table) → (enter_stage table).bits ≡ table.bits
unfolding enter_stage
enter_width table = refl

pub close_width : (table : Table) → (close_stage table).bits ≡ table.bits
unfolding closed_by
close_width table = refl

pub add_width : (table : Table) (counts : List ℕ) → (add_column table counts).bits ≡ table.bits
unfolding add_column
add_width table counts = refl

pub pivot_width : (table : Table) (r : ℕ) (v : Var) (made : Table) → pivot table r v ≡ Ok made → made.bits ≡ table.bits
unfolding pivot
pivot_width table r v made e =
    let parts = after-Ok_parts (rows_after table r v) (λ rows. Ok (with_rows rows)) made e in
    let same : with_rows parts.0 ≡ made = inside (with_rows parts.0) made parts.2 in sym (ap (λ t. t.bits) same)
  where
    with_rows : List Row → Table
    with_rows rows = record table { rows = rows; basic = slice_set table.basic r v; pivots = table.pivots + 1 }

    inside : (t u : Table) → ◌≡◌ {A = Result Table Pass} (Ok t) (Ok u) → t ≡ u
    inside t u k = cc

pub start_width : (sizes first : List ℕ) (bits : ℕ) (made : Table) → start sizes first bits ≡ Ok made → made.bits ≡ bits
unfolding start
start_width sizes first bits made e =
    let parts = after-Ok_parts (all_in_turn (reach_operations (width_limit bits) sizes) 0 (first_rows first)) (λ reaches. Ok (first_table sizes first bits)) made e in
    let same : first_table sizes first bits ≡ made = inside (first_table sizes first bits) made parts.2 in sym (ap (λ t. t.bits) same)
  where
    inside : (t u : Table) → ◌≡◌ {A = Result Table Pass} (Ok t) (Ok u) → t ≡ u
    inside t u k = cc
