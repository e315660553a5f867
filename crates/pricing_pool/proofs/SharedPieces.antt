-- The outcomes of a wave's pieces that share a word, taken in order, beside the definition's wave.
use Rattle.std.proofs.Common.{◌≡◌, ℕ, suc, ◌+◌, ◌-◌, ◌≤◌, ◌<◌, max, true, false, cond, List, [], ◌∷◌, fold, length, map, take, ℤ, pos, Option, Some, None, refl, sym, ap, ◌∙◌, arith, subst}
use Rattle.std.specs.Prelude.{MatchOption, int_lt, slice_index_or, ◌<ℤ◌, ◌≤ℤ◌}
use Rattle.std.specs.Int.{int_max}
use Rattle.std.specs.List.{AllByRecursion, flat_map}
use Rattle.std.proofs.lemmas.Int.{ints, clamps, by_lt_z}
use Rattle.std.proofs.lemmas.List.Sums.{fold-append}
use Rattle.define_rows.specs.Row.{Row}
use Rattle.define_searches.specs.Classes.{Classes, IsSearchable}
use Rattle.define_searches.specs.Compositions.{weight_in}
use Rattle.define_searches.specs.Fronts.{HaveEntries, later_than}
use Rattle.define_searches.specs.Visits.{Pricing}
use Rattle.define_searches.proofs.BestSearch.{Kept, keep, told, sought}
use Rattle.define_searches.specs.Below.{search_from}
use Rattle.define_searches.specs.Waves.{keep_heavier, take_piece, wave}
use Rattle.define_searches.proofs.Below.{from_keeps}
use Rattle.panel_search.specs.Answers.{IsKept}
use Rattle.panel_search.specs.Sharing.{Exceeds, IsShared, MayStand, Shares, begun_at, visits_from}
use Rattle.panel_search.proofs.SharedSearches.{IsSearch, Shifted, raised, stays}
use Rattle.pricing_pool.specs.SoFar.{heavier}
use Rattle.pricing_pool.proofs.Ended.{one_more, with_those_before}
use Rattle.pricing_pool.proofs.Kept.{search_weighed}
use Rattle.pricing_pool.proofs.Taking.{piece_visits}

-- ---- if nothing is kept, the floor is the first one

some_kept : (weight : List ℕ → ℤ) (xs : List (List ℕ)) (kept : Kept) (y : List ℕ) → kept.1 ≡ Some y → (fold (keep weight) kept xs).1 ≡ None → ⊥
some_kept weight [] kept y e = λ none. absurd cc
some_kept weight (x ∷ xs) kept y e =
    elim (int_lt kept.0 (weight x)) as (λ b. (fold (keep weight) (cond b (weight x, Some x) kept) xs).1 ≡ None → ⊥) [
      | true ↦ λ none. some_kept weight xs (weight x, Some x) x refl none
      | false ↦ λ none. some_kept weight xs kept y e none
    ]

pub none_kept : (weight : List ℕ → ℤ) (xs : List (List ℕ)) (floor : ℤ) → (fold (keep weight) (floor, None) xs).1 ≡ None → (fold (keep weight) (floor, None) xs).0 ≡ floor
none_kept weight [] floor = λ none. refl
none_kept weight (x ∷ xs) floor =
    elim (int_lt floor (weight x)) as (λ b. (fold (keep weight) (cond b (weight x, Some x) (floor, None)) xs).1 ≡ None → (fold (keep weight) (cond b (weight x, Some x) (floor, None)) xs).0 ≡ floor) [
      | true ↦ λ none. absurd (some_kept weight xs (weight x, Some x) x refl none)
      | false ↦ λ none. none_kept weight xs floor none
    ]

-- ---- one piece

module _ (all : Classes) (closed : List Row) (row : Row) (searchable : IsSearchable all) (entries : HaveEntries all (row ∷ closed)) where
  abbrev alone : List ℕ → ℤ → Pricing
  alone front floor = search_from all closed row front floor

  abbrev IsShort : List ℕ → Type 0
  IsShort front = length front ≤ length all.classes

  abbrev below_it : List ℕ → List (List ℕ)
  below_it front = sought all closed front (later_than front all.classes)

  no_rise : (front : List ℕ) (floor : ℤ) → IsShort front → (alone front floor).kept ≡ None → (alone front floor).floor ≡ floor
  no_rise front floor short none =
      let keeps = from_keeps all closed row front floor searchable entries short in
      ap (λ (kept : Kept). kept.0) keeps ∙ none_kept (weight_in row.a) (below_it front) floor (sym (ap (λ (kept : Kept). kept.1) keeps) ∙ none)

  module _ (front : List ℕ) (base : ℤ) (now : Pricing) (short : IsShort front) (low : base ≤ℤ now.floor) where
    abbrev piece : Pricing
    piece = alone front base

    -- the floor is the greater of the two
    pub taken_floor : (take_piece row now piece).floor ≡ int_max now.floor piece.floor
    taken_floor = by piece.kept refl
      where
        by : (kept : Option (List ℕ)) → piece.kept ≡ kept → (keep_heavier row (record now { visits = now.visits + piece.visits }) kept).floor ≡ int_max now.floor piece.floor
        by None e = let same = no_rise front base short e in omega (arith, ints, clamps)
        by (Some counts) e =
            let weighs = search_weighed all closed row front base counts e in
            (elim (int_lt now.floor (weight_in row.a counts)) as (λ b. int_lt now.floor (weight_in row.a counts) ≡ b →
            (cond b (record now { visits = now.visits + piece.visits; floor = weight_in row.a counts; kept = Some counts }) (record now { visits = now.visits + piece.visits })).floor ≡ int_max now.floor piece.floor) [
              | true ↦ λ t. omega (arith, ints, clamps)
              | false ↦ λ t. omega (arith, ints, clamps)
            ]) refl

    -- a heavier one is kept
    pub taken_new : now.floor <ℤ piece.floor → (take_piece row now piece).kept ≡ piece.kept
    taken_new lt = by piece.kept refl
      where
        by : (kept : Option (List ℕ)) → piece.kept ≡ kept → (keep_heavier row (record now { visits = now.visits + piece.visits }) kept).kept ≡ kept
        by None e = let same = no_rise front base short e in absurd (omega (arith, ints))
        by (Some counts) e =
            let weighs = search_weighed all closed row front base counts e in
            (elim (int_lt now.floor (weight_in row.a counts)) as (λ b. int_lt now.floor (weight_in row.a counts) ≡ b →
            (cond b (record now { visits = now.visits + piece.visits; floor = weight_in row.a counts; kept = Some counts }) (record now { visits = now.visits + piece.visits })).kept ≡ Some counts) [
              | true ↦ λ t. refl
              | false ↦ λ t. absurd (omega (arith, ints, t, weighs, lt))
            ]) refl

    -- else what was kept stays
    pub taken_old : piece.floor ≤ℤ now.floor → (take_piece row now piece).kept ≡ now.kept
    taken_old le = by piece.kept refl
      where
        by : (kept : Option (List ℕ)) → piece.kept ≡ kept → (keep_heavier row (record now { visits = now.visits + piece.visits }) kept).kept ≡ now.kept
        by None e = refl
        by (Some counts) e =
            let weighs = search_weighed all closed row front base counts e in
            (elim (int_lt now.floor (weight_in row.a counts)) as (λ b. int_lt now.floor (weight_in row.a counts) ≡ b →
            (cond b (record now { visits = now.visits + piece.visits; floor = weight_in row.a counts; kept = Some counts }) (record now { visits = now.visits + piece.visits })).kept ≡ now.kept) [
              | true ↦ λ t. absurd (omega (arith, ints, t, weighs, le))
              | false ↦ λ t. refl
            ]) refl

    keeps : told (take_piece row now piece) ≡ fold (keep (weight_in row.a)) (told now) (below_it front)
    keeps =
        let mine = from_keeps all closed row front base searchable entries short in
        let floor : piece.floor ≡ (fold (keep (weight_in row.a)) (base, None) (below_it front)).0 = ap (λ (kept : Kept). kept.0) mine in
        let theirs = raised (weight_in row.a) (below_it front) base now.floor None now.kept low in
        let up = taken_floor in
        let first : (take_piece row now piece).floor ≡ (fold (keep (weight_in row.a)) (told now) (below_it front)).0 = omega (arith, ints, clamps, theirs.0, floor, up) in
        let second : (take_piece row now piece).kept ≡ (fold (keep (weight_in row.a)) (told now) (below_it front)).1 =
        by_lt_z now.floor piece.floor
        (λ lt. taken_new lt ∙ ap (λ (kept : Kept). kept.1) mine ∙ sym (theirs.1 (subst (λ z. now.floor <ℤ z) floor lt)))
        (λ le. taken_old le ∙ sym (stays (weight_in row.a) (below_it front) (told now) (omega (arith, ints, clamps, theirs.0, floor, le)))) in
        pair _ _ _ _ first second
      where
        pair : (f g : ℤ) (k l : Option (List ℕ)) → f ≡ g → k ≡ l → ◌≡◌ {A = Kept} (f, k) (g, l)
        pair f g k l e d = ap (λ z. (z, k)) e ∙ ap (λ o. (g, o)) d

  -- ---- a wave, as a part of a search

  abbrev pub gone_through : List (List ℕ) → List (List ℕ)
  gone_through fronts = flat_map below_it fronts

  pieces_keep : (fronts : List (List ℕ)) (base : ℤ) (now : Pricing) → AllByRecursion IsShort fronts → base ≤ℤ now.floor →
      told (fold (take_piece row) now (map (λ front. alone front base) fronts)) ≡ fold (keep (weight_in row.a)) (told now) (flat_map below_it fronts)
  pieces_keep [] base now short low = refl
  pieces_keep (front ∷ fronts) base now short low =
      let next = take_piece row now (alone front base) in
      let up = taken_floor front base now short.0 low in
      pieces_keep fronts base next short.1 (omega (arith, ints, clamps))
      ∙ ap (λ kept. fold (keep (weight_in row.a)) kept (flat_map below_it fronts)) (keeps front base now short.0 low)
      ∙ sym (fold-append (keep (weight_in row.a)) (told now) (below_it front) (flat_map below_it fronts))

  piece_shift : (piece : Pricing) (n : ℕ) (a b : Pricing) → Shifted n a b → Shifted n (take_piece row a piece) (take_piece row b piece)
  piece_shift piece n a b e = by piece.kept
    where
      by : (kept : Option (List ℕ)) → Shifted n (keep_heavier row (record a { visits = a.visits + piece.visits }) kept) (keep_heavier row (record b { visits = b.visits + piece.visits }) kept)
      by None = (omega (arith, e.0), e.1)
      by (Some counts) =
          let same = ap (λ floor. int_lt floor (weight_in row.a counts)) e.1 in
          rw same (elim (int_lt b.floor (weight_in row.a counts)) as (λ t. Shifted n (cond t (record a { visits = a.visits + piece.visits; floor = weight_in row.a counts; kept = Some counts }) (record a { visits = a.visits + piece.visits }))
          (cond t (record b { visits = b.visits + piece.visits; floor = weight_in row.a counts; kept = Some counts }) (record b { visits = b.visits + piece.visits }))) [
            | true ↦ (omega (arith, e.0), refl)
            | false ↦ (omega (arith, e.0), e.1)
          ])

  pieces_shift : (pieces : List Pricing) (n : ℕ) (a b : Pricing) → Shifted n a b → Shifted n (fold (take_piece row) a pieces) (fold (take_piece row) b pieces)
  pieces_shift [] n a b e = e
  pieces_shift (piece ∷ pieces) n a b e = pieces_shift pieces n (take_piece row a piece) (take_piece row b piece) (piece_shift piece n a b e)

  pub wave_part : (fronts : List (List ℕ)) → AllByRecursion IsShort fronts → IsSearch (weight_in row.a) (λ now. wave all closed row now fronts) (flat_map below_it fronts)
  wave_part fronts short = record {
    keeps = λ now. pieces_keep fronts now.floor now short (omega (arith, ints));
    shift = λ n a b e. subst (λ floor. Shifted n (wave all closed row a fronts) (fold (take_piece row) b (map (λ front. alone front floor) fronts))) e.1
        (pieces_shift (map (λ front. alone front a.floor) fronts) n a b e);
  }

  -- ---- the outcomes of a wave, taken in order

  module _ (begun middle : Pricing) (fronts : List (List ℕ)) (place seen loaded last : ℕ) (there : place < length fronts) (short : IsShort (slice_index_or fronts place [])) (found : Option (List ℕ × ℤ)) (visits : ℕ)
      (a : Shares (record { classes = all; closed = closed; row = row }) (λ now. wave all closed row now (take place fronts)) begun seen middle loaded) (higher : begun.floor ≤ℤ (wave all closed row begun (take place fronts)).floor)
      (shared : IsShared (record { classes = all; closed = closed; row = row }) (slice_index_or fronts place []) begun.floor found visits last) where
    abbrev before : Pricing
    before = wave all closed row begun (take place fronts)

    abbrev searched : Pricing
    searched = alone (slice_index_or fronts place []) begun.floor

    abbrev then_taken : Pricing
    then_taken = take_piece row before searched

    next_is : (now : Pricing) → wave all closed row now (take (place + 1) fronts) ≡ take_piece row (wave all closed row now (take place fronts)) (alone (slice_index_or fronts place []) now.floor)
    next_is now =
        let on : suc place ≡ place + 1 = omega arith in
        ap (λ n. wave all closed row now (take n fronts)) (sym on) ∙ one_more row (λ front. alone front now.floor) now fronts place there

    up : then_taken.floor ≡ int_max before.floor searched.floor
    up = taken_floor (slice_index_or fronts place []) begun.floor before short higher

    pub higher_on : begun.floor ≤ℤ (wave all closed row begun (take (place + 1) fronts)).floor
    higher_on = let floor = ap (λ (now : Pricing). now.floor) (next_is begun) in omega (arith, ints, clamps, up, floor, higher)

    few_more : (u : ℤ) → u ≤ℤ begun.floor → middle.visits + visits ≤ begun.visits + visits_from (λ now. wave all closed row now (take (place + 1) fronts)) u
    few_more u under =
        let is = ap (λ (now : Pricing). now.visits) (next_is (begun_at u)) in
        let sum = piece_visits row (wave all closed row (begun_at u) (take place fronts)) (alone (slice_index_or fronts place []) u) in
        omega (arith, is, sum, a.few u under, shared.few u under)

    -- the state after the word was raised, and the outcome added
    module _ (raised_to after : Pricing) (stands : MayStand (record { classes = all; closed = closed; row = row }) (max loaded last)) (floor : raised_to.floor ≡ int_max middle.floor (pos last)) (same : raised_to.floor ≡ middle.floor → raised_to.kept ≡ middle.kept)
        (visits_are : after.visits ≡ middle.visits + visits) where
      abbrev Next : Type 0
      Next = Shares (record { classes = all; closed = closed; row = row }) (λ now. wave all closed row now (take (place + 1) fronts)) begun seen after (max loaded last)

      -- what the piece found isn't kept
      passed : searched.floor ≤ℤ raised_to.floor → after.floor ≡ raised_to.floor → after.kept ≡ raised_to.kept → Next
      passed low e d =
          let is = next_is begun in
          let made = ap (λ (now : Pricing). now.floor) is in
          record {
            no_less = omega (arith, a.no_less);
            stands = stands;
            rises = omega (arith, ints, clamps, e, floor, a.rises);
            floor = omega (arith, ints, clamps, e, floor, a.floor, low, made, up);
            kept = λ lt.
                let old : searched.floor ≤ℤ before.floor = omega (arith, ints, clamps, floor, a.floor, low, made, up, lt) in
                let above : pos loaded <ℤ before.floor = omega (arith, ints, clamps, made, up, lt, old) in
                d ∙ same (omega (arith, ints, clamps, floor, a.floor, made, up, lt, old)) ∙ a.kept above ∙ sym (taken_old (slice_index_or fronts place []) begun.floor before short higher old) ∙ ap (λ (now : Pricing). now.kept) (sym is);
            same = λ h.
                let still : middle.floor ≡ begun.floor = omega (arith, ints, clamps, h, e, floor, a.rises) in
                d ∙ same (omega (arith, ints, h, e, still)) ∙ a.same still;
            few = λ u under. omega (arith, visits_are, few_more u under);
          }

      -- what the piece found is kept
      taken : raised_to.floor <ℤ searched.floor → after.floor ≡ searched.floor → after.kept ≡ searched.kept → Next
      taken high e d =
          let is = next_is begun in
          let made = ap (λ (now : Pricing). now.floor) is in
          record {
            no_less = omega (arith, a.no_less);
            stands = stands;
            rises = omega (arith, ints, clamps, e, high, floor, a.rises);
            floor = omega (arith, ints, clamps, e, high, floor, a.floor, made, up);
            kept = λ lt. d ∙ sym (taken_new (slice_index_or fronts place []) begun.floor before short higher (omega (arith, ints, clamps, high, floor, a.floor))) ∙ ap (λ (now : Pricing). now.kept) (sym is);
            same = λ h. absurd (omega (arith, ints, clamps, h, e, high, floor, a.rises));
            few = λ u under. omega (arith, visits_are, few_more u under);
          }

      pub outcome_taken : after ≡ heavier found (record raised_to { visits = raised_to.visits + visits }) → Next
      outcome_taken = by found shared.best shared.light
        where
          by : (found : Option (List ℕ × ℤ)) → (pos last <ℤ searched.floor → IsKept searched found) → MatchOption found (Unit {0}) (λ (counts, weight). weight ≤ℤ int_max searched.floor (pos last)) →
              after ≡ heavier found (record raised_to { visits = raised_to.visits + visits }) → Next
          by None best light = λ e.
              let low : searched.floor ≤ℤ raised_to.floor = by_lt_z (pos last) searched.floor
              (λ lt. let still = no_rise (slice_index_or fronts place []) begun.floor short (best lt) in omega (arith, ints, clamps, still, floor, a.rises))
              (λ le. omega (arith, ints, clamps, le, floor)) in
              passed low (ap (λ now. now.floor) e) (ap (λ now. now.kept) e)
          by (Some (counts, weight)) best light =
              (elim (int_lt raised_to.floor weight) as (λ b. int_lt raised_to.floor weight ≡ b →
              after ≡ cond b (record raised_to { visits = raised_to.visits + visits; floor = weight; kept = Some counts }) (record raised_to { visits = raised_to.visits + visits }) → Next) [
                | true ↦ λ t e.
                    let lt : pos last <ℤ searched.floor = omega (arith, ints, clamps, t, light, floor) in
                    let is = best lt in
                    let weighs = is.1 in
                    taken (omega (arith, ints, t, weighs)) (ap (λ now. now.floor) e ∙ weighs) (ap (λ now. now.kept) e ∙ sym is.0)
                | false ↦ λ t e.
                    let low : searched.floor ≤ℤ raised_to.floor = by_lt_z (pos last) searched.floor
                    (λ lt. let weighs = (best lt).1 in omega (arith, ints, t, weighs))
                    (λ le. omega (arith, ints, clamps, le, floor)) in
                    passed low (ap (λ now. now.floor) e) (ap (λ now. now.kept) e)
              ]) refl

    -- if the visits would exceed the budget, so do those of the definition's wave
    pub visits_exceed : (nodes : ℕ) → nodes < middle.visits + visits → Exceeds (λ now. wave all closed row now fronts) begun nodes
    visits_exceed nodes over u under =
        let more = with_those_before row (λ front. alone front u) (begun_at u) fronts place there in
        omega (arith, over, more, a.few u under, shared.few u under)

  -- if a piece alone exceeds what is left of the budget, so does the definition's wave
  pub piece_exceeds : (begun : Pricing) (fronts : List (List ℕ)) (place nodes : ℕ) → place < length fronts → begun.visits ≤ nodes →
      ((u : ℤ) → u ≤ℤ begun.floor → nodes - begun.visits < (alone (slice_index_or fronts place []) u).visits) → Exceeds (λ now. wave all closed row now fronts) begun nodes
  piece_exceeds begun fronts place nodes there within over u under =
      let more = with_those_before row (λ front. alone front u) (begun_at u) fronts place there in
      let spent = over u under in
      omega (arith, within, spent, more)
