-- The search keeps the same composition if it goes through the compositions below the fronts of the pieces alone as if it goes through
-- all compositions. `IsFront` holds of each of these fronts.
use Rattle.std.proofs.Common.{◌≡◌, ℕ, zero, suc, ◌+◌, ◌-◌, ◌≤◌, Bool, true, false, cond, List, [], ◌∷◌, ◌++◌, map, length, filter, take, drop, fold, ℤ, Some, refl, sym, ap, ◌∙◌, arith, subst, length-append, append_assoc}
use Rattle.std.specs.Prelude.{int_lt, nat_le, not}
use Rattle.std.specs.List.{flat_map, AllByRecursion, position_or_len, range_with_len}
use Rattle.std.proofs.lemmas.Grind.{flat_map-append}
use Rattle.std.proofs.lemmas.List.{append-nil, length-take-le, take-append-drop}
use Rattle.std.proofs.lemmas.List.FromFn.{length-range_with_len}
use Rattle.std.proofs.lemmas.List.Sums.{fold-append, prefix_len-le-length}
use Rattle.std.proofs.lemmas.List.Elements.{recursion_from_All}
use borrow.Author.Differences.{lt-true, lt-false}
use Rattle.define_pools.proofs.Each.{each_map, each_append, each_everywhere, each_left, each_mapped}
use Rattle.define_rows.specs.Row.{Row}
use Rattle.define_searches.specs.Classes.{Class, Classes, IsSearchable}
use Rattle.define_searches.specs.Compositions.{counts_of, counts_down, weight_in}
use Rattle.define_searches.specs.Fronts.{HaveEntries, is_live_above}
use Rattle.define_searches.proofs.FirstSearch.{InOrder, Split, child_splits}
use Rattle.define_searches.proofs.BestSearch.{Kept, keep, keep_none, sought, none_better, sought_by_child}
use Rattle.define_searches.specs.Below.{IsFront}
use Rattle.define_searches.specs.Waves.{Pieces, lists_of, piece_depth, together, pieces_below, pieces}
use Rattle.define_searches.proofs.Below.{Fits, fits_none, fitting_is_front}

-- ---- a floor that has risen

-- `floor` is at least `base`
abbrev pub IsAtLeast : ℤ → ℤ → Type 0
IsAtLeast floor base = int_lt floor base ≡ false

pub floor_rises : (weight : List ℕ → ℤ) (base : ℤ) (kept : Kept) (xs : List (List ℕ)) → IsAtLeast kept.0 base → IsAtLeast (fold (keep weight) kept xs).0 base
floor_rises weight base kept [] h = h
floor_rises weight base kept (x ∷ xs) h =
    (elim (int_lt kept.0 (weight x)) as (λ b. int_lt kept.0 (weight x) ≡ b → IsAtLeast (fold (keep weight) (cond b (weight x, Some x) kept) xs).0 base) [
      | true ↦ λ above. floor_rises weight base (weight x, Some x) xs (higher kept.0 (weight x) base h above)
      | false ↦ λ e. floor_rises weight base kept xs h
    ]) refl
  where
    higher : (floor more base : ℤ) → IsAtLeast floor base → int_lt floor more ≡ true → IsAtLeast more base
    higher floor more base h above = by (int_lt more base) refl
      where
        by : (b : Bool) → int_lt more base ≡ b → b ≡ false
        by false e = refl
        by true e = absurd (omega (arith, lt-false floor base h, lt-true floor more above, lt-true more base e))

pub not_above : (floor base x : ℤ) → IsAtLeast floor base → int_lt base x ≡ false → int_lt floor x ≡ false
not_above floor base x h e = by (int_lt floor x) refl
  where
    by : (b : Bool) → int_lt floor x ≡ b → b ≡ false
    by false f = refl
    by true f = absurd (omega (arith, lt-false floor base h, lt-false base x e, lt-true floor x f))

-- ---- the compositions below the pieces

module _ (all : Classes) (closed : List Row) (row : Row) (later : List Class) where
  -- the compositions below `fronts`, front by front
  abbrev below_each : List (List ℕ) → List (List ℕ)
  below_each fronts = flat_map (λ front. sought all closed front later) fronts

  abbrev keeping : Kept → List (List ℕ) → Kept
  keeping kept xs = fold (keep (weight_in row.a)) kept xs

  children_pieces : (firsts : List Class) (front : List ℕ) →
      ((c : ℕ) (kept : Kept) → IsAtLeast kept.0 row.b → is_live_above all closed row row.b (front ++ c ∷ []) ≡ true →
      keeping kept (below_each (pieces_below all closed row firsts (front ++ c ∷ [])).fronts) ≡ keeping kept (sought all closed (front ++ c ∷ []) (firsts ++ later))) →
      ((c : ℕ) → is_live_above all closed row row.b (front ++ c ∷ []) ≡ false → AllByRecursion (λ counts. int_lt row.b (weight_in row.a counts) ≡ false) (sought all closed (front ++ c ∷ []) (firsts ++ later))) →
      (cs : List ℕ) (kept : Kept) → IsAtLeast kept.0 row.b →
      keeping kept (below_each (together (map (λ child. pieces_below all closed row firsts child) (filter (is_live_above all closed row row.b) (map (λ c. front ++ c ∷ []) cs)))).fronts)
      ≡ keeping kept (flat_map (λ c. sought all closed (front ++ c ∷ []) (firsts ++ later)) cs)
  children_pieces firsts front lives dies [] kept h = refl
  children_pieces firsts front lives dies (c ∷ cs) kept h =
      let child = front ++ c ∷ [] in
      let others = filter (is_live_above all closed row row.b) (map (λ c. front ++ c ∷ []) cs) in
      let rest = (together (map (λ child. pieces_below all closed row firsts child) others)).fronts in
      let here = (pieces_below all closed row firsts child).fronts in
      let L = sought all closed child (firsts ++ later) in
      let M = flat_map (λ c. sought all closed (front ++ c ∷ []) (firsts ++ later)) cs in
      (elim (is_live_above all closed row row.b child) as (λ b. is_live_above all closed row row.b child ≡ b →
      keeping kept (below_each (together (map (λ child. pieces_below all closed row firsts child) (cond b (child ∷ others) others))).fronts) ≡ keeping kept (L ++ M)) [
        | true ↦ λ live. ap (keeping kept) (flat_map-append (λ front. sought all closed front later) here rest)
            ∙ fold-append (keep (weight_in row.a)) kept (below_each here) (below_each rest)
            ∙ ap (λ kept. keeping kept (below_each rest)) (lives c kept h live)
            ∙ children_pieces firsts front lives dies cs (keeping kept L) (floor_rises (weight_in row.a) row.b kept L h)
            ∙ sym (fold-append (keep (weight_in row.a)) kept L M)
        | false ↦ λ dead. children_pieces firsts front lives dies cs kept h
            ∙ ap (λ kept. keeping kept M) (sym (keep_none (weight_in row.a) kept.0 kept.1 L
            (each_map (λ counts. int_lt row.b (weight_in row.a counts) ≡ false) (λ counts. int_lt kept.0 (weight_in row.a counts) ≡ false) (λ counts e. not_above kept.0 row.b (weight_in row.a counts) h e) L (dies c dead))))
            ∙ sym (fold-append (keep (weight_in row.a)) kept L M)
      ]) refl

  -- if the floor is at least the row's right side, going through the compositions below the pieces keeps the same composition as going
  -- through all those below `front`
  pub pieces_keep : (pre firsts : List Class) (front : List ℕ) (kept : Kept) → Split all pre (firsts ++ later) front → InOrder (firsts ++ later) → HaveEntries all (row ∷ closed) → IsAtLeast kept.0 row.b →
      keeping kept (below_each (pieces_below all closed row firsts front).fronts) ≡ keeping kept (sought all closed front (firsts ++ later))
  pieces_keep pre [] front kept split order entries h = ap (keeping kept) (append-nil (sought all closed front later))
  pieces_keep pre (class ∷ firsts) front kept split order entries h =
      children_pieces firsts front
      (λ c kept h live. pieces_keep (pre ++ class ∷ []) firsts (front ++ c ∷ []) kept (child_splits all pre (firsts ++ later) class front c split) order.1 entries h)
      (λ c dead. none_better all closed row row.b (pre ++ class ∷ []) (firsts ++ later) (front ++ c ∷ []) (child_splits all pre (firsts ++ later) class front c split) order.1 entries dead)
      (counts_of class) kept h
      ∙ ap (keeping kept) (sought_by_child all closed front class (firsts ++ later))

-- ---- the length of the fronts of pieces

-- if P holds of each piece below each child, it holds of each piece below the live children
each_child : (P : List ℕ → Type 0) (live : List ℕ → Bool) (below : List ℕ → Pieces) (children : List (List ℕ)) → AllByRecursion (λ child. AllByRecursion P (below child).fronts) children →
    AllByRecursion P (together (map below (filter live children))).fronts
each_child P live below [] h = tt
each_child P live below (child ∷ children) h =
    elim (live child) as (λ b. AllByRecursion P (together (map below (cond b (child ∷ filter live children) (filter live children)))).fronts) [
      | true ↦ each_append P (below child).fronts (together (map below (filter live children))).fronts h.0 (each_child P live below children h.1)
      | false ↦ each_child P live below children h.1
    ]

pub lengths : (all : Classes) (closed : List Row) (row : Row) (firsts : List Class) (front : List ℕ) →
    AllByRecursion (λ piece. length piece ≡ length front + length firsts) (pieces_below all closed row firsts front).fronts
lengths all closed row [] front = (omega arith, tt)
lengths all closed row (class ∷ firsts) front =
    each_child (λ piece. length piece ≡ length front + suc (length firsts)) (is_live_above all closed row row.b) (λ child. pieces_below all closed row firsts child) (map (λ c. front ++ c ∷ []) (counts_of class))
    (each_mapped (λ child. AllByRecursion (λ piece. length piece ≡ length front + suc (length firsts)) (pieces_below all closed row firsts child).fronts) (λ c. front ++ c ∷ []) (counts_of class)
    (each_everywhere (λ c. AllByRecursion (λ piece. length piece ≡ length front + suc (length firsts)) (pieces_below all closed row firsts (front ++ c ∷ [])).fronts)
    (λ c. each_map (λ piece. length piece ≡ length (front ++ c ∷ []) + length firsts) (λ piece. length piece ≡ length front + suc (length firsts))
    (λ piece e. omega (arith, e, length-append front (c ∷ []))) (pieces_below all closed row firsts (front ++ c ∷ [])).fronts (lengths all closed row firsts (front ++ c ∷ [])))
    (counts_of class)))

position_within : {X : Type 0} (p : X → Bool) (xs : List X) → position_or_len p xs ≤ length xs
position_within p xs = prefix_len-le-length (λ x. not (p x)) xs

pub depth_within : (all : Classes) → piece_depth all ≤ length all.classes
depth_within all = omega (arith, position_within (λ depth. nat_le 64 (lists_of (take depth all.classes))) (range_with_len 0 (length all.classes)), length-range_with_len 0 (length all.classes))

pub piece_lengths : (all : Classes) (closed : List Row) (row : Row) → AllByRecursion (λ front. length front ≡ piece_depth all) (pieces all closed row).fronts
piece_lengths all closed row =
    elim (is_live_above all closed row row.b []) as (λ b. AllByRecursion (λ front. length front ≡ piece_depth all) (cond b (pieces_below all closed row (take (piece_depth all) all.classes) []) (record { visits = 1; fronts = [] })).fronts) [
      | true ↦ each_map (λ piece. length piece ≡ 0 + length (take (piece_depth all) all.classes)) (λ piece. length piece ≡ piece_depth all)
          (λ piece e. omega (arith, e, length-take-le (piece_depth all) all.classes (depth_within all)))
          (pieces_below all closed row (take (piece_depth all) all.classes) []).fronts (lengths all closed row (take (piece_depth all) all.classes) [])
      | false ↦ tt
    ]

-- ---- the front of each piece satisfies `IsFront`

fits_more : (pre later : List Class) (class : Class) (front : List ℕ) (c : ℕ) → Fits (pre ++ class ∷ later) front → length front ≡ length pre → class.least ≤ c → c ≤ class.most → Fits (pre ++ class ∷ later) (front ++ c ∷ [])
fits_more [] later class [] c fits e l m = ((l, m), fits_none later)
fits_more [] later class (b ∷ front) c fits e l m = absurd (omega arith)
fits_more (one ∷ pre) later class [] c fits e l m = absurd (omega arith)
fits_more (one ∷ pre) later class (b ∷ front) c fits e l m = (fits.0, fits_more pre later class front c fits.1 (omega arith) l m)

pub counts_within : (least more most : ℕ) → least + more ≤ most → AllByRecursion (λ c. (least ≤ c) × (c ≤ most)) (counts_down least more)
counts_within least more most l = by more l
  where
    by : (more : ℕ) → least + more ≤ most → AllByRecursion (λ c. (least ≤ c) × (c ≤ most)) (counts_down least more)
    by zero l = ((omega arith, omega arith), tt)
    by (suc more) l = ((omega arith, omega arith), by more (omega arith))

pieces_fit : (all : Classes) (closed : List Row) (row : Row) (pre firsts later : List Class) (front : List ℕ) → all.classes ≡ pre ++ (firsts ++ later) → length front ≡ length pre → InOrder firsts → Fits all.classes front →
    AllByRecursion (Fits all.classes) (pieces_below all closed row firsts front).fronts
pieces_fit all closed row pre [] later front whole long order fits = (fits, tt)
pieces_fit all closed row pre (class ∷ firsts) later front whole long order fits =
    let next : all.classes ≡ (pre ++ class ∷ []) ++ (firsts ++ later) = whole ∙ sym (append_assoc pre (class ∷ []) (firsts ++ later)) in
    each_child (Fits all.classes) (is_live_above all closed row row.b) (λ child. pieces_below all closed row firsts child) (map (λ c. front ++ c ∷ []) (counts_of class))
    (each_mapped (λ child. AllByRecursion (Fits all.classes) (pieces_below all closed row firsts child).fronts) (λ c. front ++ c ∷ []) (counts_of class)
    (each_map (λ c. (class.least ≤ c) × (c ≤ class.most)) (λ c. AllByRecursion (Fits all.classes) (pieces_below all closed row firsts (front ++ c ∷ [])).fronts)
    (λ c within. pieces_fit all closed row (pre ++ class ∷ []) firsts later (front ++ c ∷ []) next (omega (arith, long, length-append front (c ∷ []), length-append pre (class ∷ []))) order.1
    (subst (λ classes. Fits classes (front ++ c ∷ [])) (sym whole) (fits_more pre (firsts ++ later) class front c (subst (λ classes. Fits classes front) whole fits) long within.0 within.1)))
    (counts_of class) (counts_within class.least (class.most - class.least) class.most (omega (arith, order.0)))))

pub pieces_are : (all : Classes) (closed : List Row) (row : Row) → IsSearchable all → AllByRecursion (IsFront all) (pieces all closed row).fronts
pieces_are all closed row searchable =
    let firsts = take (piece_depth all) all.classes in
    let whole = take-append-drop (piece_depth all) all.classes in
    elim (is_live_above all closed row row.b []) as (λ b. AllByRecursion (IsFront all) (cond b (pieces_below all closed row firsts []) (record { visits = 1; fronts = [] })).fronts) [
      | true ↦ each_map (Fits all.classes) (IsFront all) (fitting_is_front all) (pieces_below all closed row firsts []).fronts
          (pieces_fit all closed row [] firsts (drop (piece_depth all) all.classes) [] (sym whole) refl
          (each_left (λ (class : Class). class.least ≤ class.most) firsts (drop (piece_depth all) all.classes) (subst InOrder (sym whole) searchable.in_order)) (fits_none all.classes))
      | false ↦ tt
    ]
