-- The search in waves finds the price.
use Rattle.std.proofs.Common.{◌≡◌, ℕ, zero, suc, ◌+◌, ◌*◌, ◌/◌, ◌≤◌, Bool, true, false, cond, List, [], ◌∷◌, ◌++◌, map, length, filter, take, drop, fold, ℤ, Option, Some, None, refl, sym, ap, ◌∙◌, arith, subst}
use Rattle.std.specs.Prelude.{int_lt, unwrap_or}
use Rattle.std.specs.List.{flat_map, AllByRecursion, range_with_len}
use Rattle.std.proofs.lemmas.Grind.{flat_map-append}
use Rattle.std.proofs.lemmas.List.{drop-drop, drop-take, take-append-drop, take-take, take_all}
use Rattle.std.proofs.Math.Nat.{mul-add, mul-suc}
use Rattle.std.proofs.lemmas.List.Sums.{fold-append}
use borrow.Author.Differences.{lt-true, true_is_lt}
use Rattle.define_pools.proofs.Each.{each_everywhere, each_left, each_right}
use Rattle.define_rows.specs.Row.{Row}
use Rattle.define_searches.specs.Classes.{Class, Classes, IsSearchable}
use Rattle.define_searches.specs.Compositions.{compositions, weight_in, attains, first_greatest, price}
use Rattle.define_searches.specs.Fronts.{HaveEntries, is_live_above, later_than}
use Rattle.define_searches.specs.Visits.{Pricing}
use Rattle.define_searches.proofs.FirstSearch.{InOrder, Split, completions_of_none}
use Rattle.define_searches.proofs.BestSearch.{Kept, keep, keep_none, keeps_first_greatest, told, sought, none_better}
use Rattle.define_searches.specs.Below.{search_from}
use Rattle.define_searches.specs.Waves.{best_in_waves, keep_heavier, piece_depth, pieces, pieces_below, take_piece, wave, waves}
use Rattle.define_searches.proofs.Below.{finds_greatest, greatest_is}
use Rattle.define_searches.proofs.Pieces.{IsAtLeast, floor_rises, not_above, pieces_keep, piece_lengths, depth_within}

-- ---- keeping what a piece found

itself : (z : ℤ) → IsAtLeast z z
itself z = by (int_lt z z) refl
  where
    by : (b : Bool) → int_lt z z ≡ b → b ≡ false
    by false e = refl
    by true e = absurd (omega (arith, lt-true z z e))

-- a composition that was found is kept if it weighs more than the floor of `now`
abbrev keep_found : (List ℕ → ℤ) → Kept → Option (List ℕ) → Kept
keep_found weight now None = now
keep_found weight now (Some counts) = keep weight now counts

greatest_above : (weight : List ℕ → ℤ) (floor : ℤ) (xs : List (List ℕ)) (counts : List ℕ) → first_greatest weight floor xs ≡ Some counts → int_lt floor (weight counts) ≡ true
greatest_above weight floor xs counts e = (greatest_is (λ x. Unit {0}) weight floor xs counts (each_everywhere (λ x. Unit {0}) (λ x. tt) xs) e).1

-- let `floor` be at least `base`. Going through all of `xs`, with `floor` as the floor at first, keeps the same list as looking only at the
-- first list of greatest weight above `base`, and keeping it if it weighs more than `floor`
found_keeps : (weight : List ℕ → ℤ) (base floor : ℤ) (kept : Option (List ℕ)) (xs : List (List ℕ)) → IsAtLeast floor base →
    keep_found weight (floor, kept) (first_greatest weight base xs) ≡ fold (keep weight) (floor, kept) xs
found_keeps weight base floor kept [] h = refl
found_keeps weight base floor kept (x ∷ xs) h =
    (elim (int_lt base (weight x)) as (λ b. int_lt base (weight x) ≡ b →
    keep_found weight (floor, kept) (cond b (Some (unwrap_or (first_greatest weight (weight x) xs) x)) (first_greatest weight base xs)) ≡ fold (keep weight) (keep weight (floor, kept) x) xs) [
      | true ↦ λ above. higher (int_lt floor (weight x)) refl (found_keeps weight (weight x) (weight x) (Some x) xs (itself (weight x))) (λ t. found_keeps weight (weight x) floor kept xs t)
      | false ↦ λ low. let same = not_above floor base (weight x) h low in rw same (found_keeps weight base floor kept xs h)
    ]) refl
  where
    -- let `x` be above the floor, and `o` the first list of greatest weight in `xs` that is heavier than `x`, if there is one. Keeping `o`,
    -- or `x` if there is none, keeps the same as keeping `x` and then `o`
    second : (o : Option (List ℕ)) → first_greatest weight (weight x) xs ≡ o → int_lt floor (weight x) ≡ true → keep_found weight (floor, kept) (Some (unwrap_or o x)) ≡ keep_found weight (weight x, Some x) o
    second None n t = rw t refl
    second (Some z) n t =
        let more = greatest_above weight (weight x) xs z n in
        let whole : int_lt floor (weight z) ≡ true = sym (true_is_lt floor (weight z) (omega (arith, lt-true floor (weight x) t, lt-true (weight x) (weight z) more))) in
        rw (more, whole) refl

    first : (o : Option (List ℕ)) → int_lt floor (weight x) ≡ false → keep_found weight (floor, kept) (Some (unwrap_or o x)) ≡ keep_found weight (floor, kept) o
    first None t = rw t refl
    first (Some z) t = refl

    higher : (b : Bool) → int_lt floor (weight x) ≡ b → keep_found weight (weight x, Some x) (first_greatest weight (weight x) xs) ≡ fold (keep weight) (weight x, Some x) xs →
        (int_lt floor (weight x) ≡ false → keep_found weight (floor, kept) (first_greatest weight (weight x) xs) ≡ fold (keep weight) (floor, kept) xs) →
        keep_found weight (floor, kept) (Some (unwrap_or (first_greatest weight (weight x) xs) x)) ≡ fold (keep weight) (keep weight (floor, kept) x) xs
    higher true t mine theirs = second (first_greatest weight (weight x) xs) refl t ∙ mine ∙ rw t refl
    higher false t mine theirs = first (first_greatest weight (weight x) xs) t ∙ theirs t ∙ rw t refl

module _ (all : Classes) (closed : List Row) (row : Row) (searchable : IsSearchable all) (entries : HaveEntries all (row ∷ closed)) where
  -- the compositions that begin with a front and attain the closed rows
  abbrev attaining : List ℕ → List (List ℕ)
  attaining front = sought all closed front (later_than front all.classes)

  abbrev keeping : Kept → List (List ℕ) → Kept
  keeping kept xs = fold (keep (weight_in row.a)) kept xs

  abbrev IsShort : List ℕ → Type 0
  IsShort front = length front ≤ length all.classes

  taken_keeps : (now : Pricing) (base : ℤ) (front : List ℕ) → IsShort front → IsAtLeast now.floor base → told (take_piece row now (search_from all closed row front base)) ≡ keeping (told now) (attaining front)
  taken_keeps now base front short h =
      by (search_from all closed row front base).kept
      ∙ ap (keep_found (weight_in row.a) (told now)) (finds_greatest all closed row front base searchable entries short)
      ∙ found_keeps (weight_in row.a) base now.floor now.kept (attaining front) h
    where
      by : (found : Option (List ℕ)) → told (keep_heavier row (record now { visits = now.visits + (search_from all closed row front base).visits }) found) ≡ keep_found (weight_in row.a) (told now) found
      by None = refl
      by (Some counts) =
          elim (int_lt now.floor (weight_in row.a counts)) as (λ b. told (cond b (record now { visits = now.visits + (search_from all closed row front base).visits; floor = weight_in row.a counts; kept = Some counts })
          (record now { visits = now.visits + (search_from all closed row front base).visits })) ≡ cond b (weight_in row.a counts, Some counts) (told now)) [
            | true ↦ refl
            | false ↦ refl
          ]

  -- if the floor of `now` is at least `base`, adding the outcomes of pieces that are searched with the floor `base` keeps the same
  -- composition as going through all compositions below their fronts that attain the closed rows
  pieces_taken : (base : ℤ) (fronts : List (List ℕ)) (now : Pricing) → AllByRecursion IsShort fronts → IsAtLeast now.floor base →
      told (fold (take_piece row) now (map (λ front. search_from all closed row front base) fronts)) ≡ keeping (told now) (flat_map attaining fronts)
  pieces_taken base [] now short h = refl
  pieces_taken base (front ∷ fronts) now short h =
      let next = take_piece row now (search_from all closed row front base) in
      let here = taken_keeps now base front short.0 h in
      let higher : IsAtLeast next.floor base = subst (λ (kept : Kept). IsAtLeast kept.0 base) (sym here) (floor_rises (weight_in row.a) base (told now) (attaining front) h) in
      pieces_taken base fronts next short.1 higher
      ∙ ap (λ kept. keeping kept (flat_map attaining fronts)) here
      ∙ sym (fold-append (keep (weight_in row.a)) (told now) (attaining front) (flat_map attaining fronts))

  waves_taken : (ws : List (List (List ℕ))) (now : Pricing) → AllByRecursion IsShort (flat_map (λ fronts. fronts) ws) →
      told (fold (wave all closed row) now ws) ≡ keeping (told now) (flat_map attaining (flat_map (λ fronts. fronts) ws))
  waves_taken [] now short = refl
  waves_taken (fronts ∷ ws) now short =
      let later = flat_map (λ fronts. fronts) ws in
      let here = pieces_taken now.floor fronts now (each_left IsShort fronts later short) (itself now.floor) in
      waves_taken ws (wave all closed row now fronts) (each_right IsShort fronts later short)
      ∙ ap (λ kept. keeping kept (flat_map attaining later)) here
      ∙ sym (fold-append (keep (weight_in row.a)) (told now) (flat_map attaining fronts) (flat_map attaining later))
      ∙ ap (keeping (told now)) (sym (flat_map-append attaining fronts later))

  -- ---- the compositions below all pieces

  -- if `later` are the classes after each front, the compositions below the fronts are their completions over `later`
  same_below : (later : List Class) (fronts : List (List ℕ)) → AllByRecursion (λ front. later_than front all.classes ≡ later) fronts → flat_map attaining fronts ≡ flat_map (λ front. sought all closed front later) fronts
  same_below later [] h = refl
  same_below later (front ∷ fronts) h =
      ap (λ after. sought all closed front after ++ flat_map attaining fronts) h.0 ∙ ap (λ rest. sought all closed front later ++ rest) (same_below later fronts h.1)

  each_later : (fronts : List (List ℕ)) → AllByRecursion (λ front. length front ≡ piece_depth all) fronts → AllByRecursion (λ front. later_than front all.classes ≡ drop (piece_depth all) all.classes) fronts
  each_later [] h = tt
  each_later (front ∷ fronts) h = (ap (λ n. drop n all.classes) h.0, each_later fronts h.1)

  each_short : (fronts : List (List ℕ)) → AllByRecursion (λ front. length front ≡ piece_depth all) fronts → AllByRecursion IsShort fronts
  each_short [] h = tt
  each_short (front ∷ fronts) h = (omega (arith, h.0, depth_within all), each_short fronts h.1)

  all_pieces : keeping (row.b, None) (flat_map attaining (pieces all closed row).fronts) ≡ keeping (row.b, None) (filter (attains closed) (compositions all))
  all_pieces =
      let firsts = take (piece_depth all) all.classes in
      let later = drop (piece_depth all) all.classes in
      let whole : all.classes ≡ firsts ++ later = sym (take-append-drop (piece_depth all) all.classes) in
      let split : Split all [] (firsts ++ later) [] = record { whole = whole; fits = refl } in
      let order : InOrder (firsts ++ later) = subst InOrder whole searchable.in_order in
      let every : sought all closed [] (firsts ++ later) ≡ filter (attains closed) (compositions all) =
      ap (sought all closed []) (sym whole) ∙ ap (filter (attains closed)) (completions_of_none all) in
      ap (keeping (row.b, None)) (same_below later (pieces all closed row).fronts (each_later (pieces all closed row).fronts (piece_lengths all closed row)))
      ∙ (elim (is_live_above all closed row row.b []) as (λ b. is_live_above all closed row row.b [] ≡ b →
      keeping (row.b, None) (flat_map (λ front. sought all closed front later) (cond b (pieces_below all closed row firsts []) (record { visits = 1; fronts = [] })).fronts) ≡ keeping (row.b, None) (sought all closed [] (firsts ++ later))) [
        | true ↦ λ live. pieces_keep all closed row later [] firsts [] (row.b, None) split order entries (itself row.b)
        | false ↦ λ dead. sym (keep_none (weight_in row.a) row.b None (sought all closed [] (firsts ++ later)) (none_better all closed row row.b [] (firsts ++ later) [] split order entries dead))
      ]) refl
      ∙ ap (keeping (row.b, None)) every

-- ---- the waves have all pieces, in order

chunks : {X : Type 0} (n : ℕ) (xs : List X) (first count : ℕ) → flat_map (λ part. part) (map (λ number. take n (drop (n * number) xs)) (range_with_len first count)) ≡ take (n * count) (drop (n * first) xs)
chunks n xs first zero = let none : n * 0 ≡ 0 = omega arith in rw none refl
chunks n xs first (suc count) =
    let more : n * suc count ≡ n + n * count = omega (arith, mul-suc n count) in
    let next : n * (first + 1) ≡ n * first + n = omega (arith, mul-add n first 1) in
    ap (λ rest. take n (drop (n * first) xs) ++ rest)
    (chunks n xs (first + 1) count ∙ ap (λ k. take (n * count) (drop k xs)) next ∙ ap (take (n * count)) (sym (drop-drop n (n * first) xs)))
    ∙ sym (taken_twice n (n * count) (drop (n * first) xs)) ∙ ap (λ k. take k (drop (n * first) xs)) (sym more)
  where
    taken_twice : {X : Type 0} (n m : ℕ) (xs : List X) → take (n + m) xs ≡ take n xs ++ take m (drop n xs)
    taken_twice n m xs =
        sym (take-append-drop n (take (n + m) xs)) ∙ ap (λ ys. ys ++ drop n (take (n + m) xs)) (take-take n (n + m) xs (omega arith)) ∙ ap (λ ys. take n xs ++ ys) (drop-take n m xs)

whole_waves : (fronts : List (List ℕ)) → flat_map (λ part. part) (waves fronts) ≡ fronts
whole_waves fronts = chunks 16 fronts 0 ((length fronts + 15) / 16) ∙ take_all (16 * ((length fronts + 15) / 16)) fronts (enough (length fronts))
  where
    enough : (n : ℕ) → n ≤ 16 * ((n + 15) / 16)
    enough n = omega arith

pub waves_keep_price : (all : Classes) (closed : List Row) (row : Row) → IsSearchable all → HaveEntries all (row ∷ closed) → (best_in_waves all closed row).kept ≡ price all closed row
waves_keep_price all closed row searchable entries =
    let fronts = (pieces all closed row).fronts in
    let same = whole_waves fronts in
    let short = each_short all closed row searchable entries fronts (piece_lengths all closed row) in
    ap (λ (now : Kept). now.1)
    (waves_taken all closed row searchable entries (waves fronts) (record { visits = (pieces all closed row).visits; floor = row.b; kept = None }) (subst (AllByRecursion (λ front. length front ≤ length all.classes)) (sym same) short)
    ∙ ap (λ xs. fold (keep (weight_in row.a)) (row.b, None) (flat_map (λ front. sought all closed front (later_than front all.classes)) xs)) same
    ∙ all_pieces all closed row searchable entries)
    ∙ keeps_first_greatest (weight_in row.a) row.b (filter (attains closed) (compositions all))
