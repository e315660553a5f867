-- Waves whose pieces share a word, one after the other, and what the whole search answers.
use Rattle.std.proofs.Common.{◌≡◌, ℕ, zero, suc, ◌+◌, ◌-◌, ◌*◌, ◌/◌, ◌≤◌, ◌<◌, inl, inr, max, true, false, cond, List, [], ◌∷◌, ◌++◌, drop, fold, length, map, take, ℤ, pos, Option, Some, None, Ok, Err, refl, sym, ap, ◌∙◌, arith, subst, ltb, ltb-true}
use Rattle.std.specs.Prelude.{int_lt, slice_index_or, ◌<ℤ◌, ◌≤ℤ◌}
use Rattle.std.specs.Int.{int_max}
use Rattle.std.specs.List.{AllByRecursion, range_with_len}
use Rattle.std.proofs.lemmas.Bool.{ltb-false}
use Rattle.std.proofs.lemmas.Int.{ints, clamps}
use Rattle.std.proofs.lemmas.List.{take-append-drop}
use Rattle.define_pools.proofs.Each.{each_left, each_map, each_right}
use Rattle.define_rows.specs.Row.{Row}
use Rattle.define_searches.specs.Classes.{Classes, IsSearchable}
use Rattle.define_searches.specs.Compositions.{price, weight_in}
use Rattle.define_searches.specs.Fronts.{HaveEntries}
use Rattle.define_searches.specs.Visits.{Pricing}
use Rattle.define_searches.proofs.Best.{price_best, price_none_where}
use Rattle.define_searches.proofs.BestSearch.{Kept, keep, told}
use Rattle.define_searches.specs.Below.{IsFront}
use Rattle.define_searches.specs.Waves.{best_in_waves, pieces, wave, waves}
use Rattle.define_searches.proofs.WavesFind.{waves_keep_price}
use Rattle.panel_search.specs.Answers.{AnswersPieces}
use Rattle.panel_search.specs.Pricers.{Priced}
use Rattle.panel_search.specs.Sharing.{AnswersShared, IsBounded, MayStand, Shares, begun_at, visits_from}
use Rattle.panel_search.specs.declared.searching.SearchStop.{SearchStop}
use Rattle.panel_search.specs.declared.searching.SearchStop.TheVariants.{Spent, OutOfMemory}
use Rattle.panel_search.proofs.SharedSearches.{IsSearch, after_load, no_part, then, then_exceeds, two_parts, visits_are}
use Rattle.pricing_pool.specs.Outcomes.{Outcome, Told}
use Rattle.pricing_pool.specs.Sharing.{AnswersSharing, SharesOn, answers_shared}
use Rattle.pricing_pool.specs.SoFar.{CameTo, heavier}
use Rattle.pricing_pool.proofs.SharedPieces.{gone_through, higher_on, none_kept, outcome_taken, piece_exceeds, visits_exceed, wave_part}
use Rattle.pricing_pool.proofs.Waving.{one_more, part, up_to, wave_within}
use Rattle.pricing_pool.proofs.Whole.{pieces_stop}

-- ---- short lemmas

pub max_stands : (priced : Priced) (m n : ℕ) → MayStand priced m → MayStand priced n → MayStand priced (max m n)
max_stands priced m n first second =
    (elim (ltb m n) as (λ b. ltb m n ≡ b → MayStand priced (max m n)) [
      | true ↦ λ t. let lt = ltb-true m n t in let is : n ≡ max m n = omega arith in subst (MayStand priced) is second
      | false ↦ λ t. let le = ltb-false m n t in let is : m ≡ max m n = omega arith in subst (MayStand priced) is first
    ]) refl

pub front_at : (all : Classes) (fronts : List (List ℕ)) (place : ℕ) → AllByRecursion (IsFront all) fronts → place < length fronts → IsFront all (slice_index_or fronts place [])
front_at all [] place h l = absurd (omega arith)
front_at all (f ∷ fs) zero h l = h.0
front_at all (f ∷ fs) (suc place) h l = front_at all fs place h.1 (omega arith)

heavier_visits : (found : Option (List ℕ × ℤ)) (now : Pricing) → (heavier found now).visits ≡ now.visits
heavier_visits None now = refl
heavier_visits (Some (counts, weight)) now = elim (int_lt now.floor weight) as (λ b. (cond b (record now { floor = weight; kept = Some counts }) now).visits ≡ now.visits) [
  | true ↦ refl
  | false ↦ refl
]

-- a search that has done nothing yet
pub not_begun : (priced : Priced) (now : Pricing) (seen : ℕ) → IsBounded priced now.floor seen → Shares priced (λ now. now) now seen now seen
not_begun priced now seen bounded = let low = bounded.no_less in after_load priced now now seen seen (omega arith) bounded.stands low refl (omega (arith, ints, clamps)) (λ e. refl)

pub bounded_after : (priced : Priced) (due : Pricing → Pricing) (before after : Pricing) (seen last : ℕ) → IsBounded priced before.floor seen → Shares priced due before seen after last → IsBounded priced after.floor last
bounded_after priced due before after seen last bounded shares = record {
  above = let above = bounded.above in let rises = shares.rises in omega (arith, ints);
  no_less = let floor = shares.floor in omega (arith, ints, clamps);
  stands = shares.stands;
}

pub shares_same : (priced : Priced) (due other : Pricing → Pricing) → ((now : Pricing) → due now ≡ other now) → (before after : Pricing) (seen last : ℕ) → Shares priced due before seen after last → Shares priced other before seen after last
shares_same priced due other is before after seen last s = record {
  no_less = s.no_less;
  stands = s.stands;
  rises = s.rises;
  floor = s.floor ∙ ap (λ (now : Pricing). int_max now.floor (pos last)) (is before);
  kept = λ lt. s.kept (subst (λ (now : Pricing). pos last <ℤ now.floor) (sym (is before)) lt) ∙ ap (λ now. now.kept) (is before);
  same = s.same;
  few = λ u under. let few = s.few u under in omega (arith, few, ap (λ now. now.visits) (is (begun_at u)));
}

each_part : {X : Type 0} (P : X → Type 0) (first count : ℕ) (xs : List X) → AllByRecursion P xs → AllByRecursion P (take count (drop first xs))
each_part P first count xs h =
    let later = each_right P (take first xs) (drop first xs) (subst (AllByRecursion P) (sym (take-append-drop first xs)) h) in
    each_left P (take count (drop first xs)) (drop count (drop first xs)) (subst (AllByRecursion P) (sym (take-append-drop count (drop first xs))) later)

-- ---- the outcomes of a wave

module _ (all : Classes) (closed : List Row) (row : Row) (searchable : IsSearchable all) (entries : HaveEntries all (row ∷ closed)) where
  abbrev priced : Priced
  priced = record { classes = all; closed = closed; row = row }

  module _ (begun middle : Pricing) (fronts : List (List ℕ)) (place seen loaded nodes budget : ℕ) (told : Told) (there : place < length fronts) (are : AllByRecursion (IsFront all) fronts)
      (a : Shares priced (λ now. wave all closed row now (take place fronts)) begun seen middle loaded) (higher : begun.floor ≤ℤ (wave all closed row begun (take place fronts)).floor)
      (answers : answers_shared (record { priced = priced; fronts = fronts; floor = begun.floor; nodes = budget }) place told)
      (raised_to : Pricing) (visits : raised_to.visits ≡ middle.visits) (floor : raised_to.floor ≡ int_max middle.floor (pos told.1)) (same : raised_to.floor ≡ middle.floor → raised_to.kept ≡ middle.kept) where
    short : length (slice_index_or fronts place []) ≤ length all.classes
    short = let is = front_at all fronts place are there in is.few

    pub told_taken : (after : Pricing) → CameTo told.0 nodes (Ok tt) raised_to after →
        Shares priced (λ now. wave all closed row now (take (place + 1) fronts)) begun seen after (max loaded told.1) × (begun.floor ≤ℤ (wave all closed row begun (take (place + 1) fronts)).floor) × (after.visits ≤ nodes)
    told_taken after = by told.0 answers.0
      where
        by : (outcome : Outcome) → AnswersShared priced (slice_index_or fronts place []) begun.floor budget outcome told.1 → CameTo outcome nodes (Ok tt) raised_to after →
            Shares priced (λ now. wave all closed row now (take (place + 1) fronts)) begun seen after (max loaded told.1) × (begun.floor ≤ℤ (wave all closed row begun (take (place + 1) fronts)).floor) × (after.visits ≤ nodes)
        by (Ok (found, more)) shared = λ came. (
          outcome_taken all closed row searchable entries begun middle fronts place seen loaded told.1 there short found more a higher shared.0 raised_to after (max_stands priced loaded told.1 a.stands answers.1) floor same
              (omega (arith, ap (λ now. now.visits) came.0, heavier_visits found (record raised_to { visits = raised_to.visits + more }), visits)) came.0,
          higher_on all closed row searchable entries begun middle fronts place seen loaded told.1 there short found more a higher shared.0,
          came.1,
        )
        by (Err Spent) shared = λ came. absurd came
        by (Err OutOfMemory) shared = λ came. absurd came

    pub told_stops : (stop : SearchStop) (after left : Pricing) (last : ℕ) → budget ≡ nodes - begun.visits → begun.visits ≤ nodes → CameTo told.0 nodes (Err stop) raised_to after →
        SharesOn priced (λ now. wave all closed row now fronts) nodes begun seen (Err stop) left last
    told_stops stop after left last of within = by told.0 answers.0 stop
      where
        by : (outcome : Outcome) → AnswersShared priced (slice_index_or fronts place []) begun.floor budget outcome told.1 → (stop : SearchStop) → CameTo outcome nodes (Err stop) raised_to after →
            SharesOn priced (λ now. wave all closed row now fronts) nodes begun seen (Err stop) left last
        by (Ok (found, more)) shared Spent = λ came. visits_exceed all closed row searchable entries begun middle fronts place seen loaded told.1 there short found more a higher shared.0 nodes (omega (arith, came, visits))
        by (Ok (found, more)) shared OutOfMemory = λ came. tt
        by (Err Spent) shared Spent = λ came. piece_exceeds all closed row searchable entries begun fronts place nodes there within (λ u under. let over = shared u under in omega (arith, over, of))
        by (Err Spent) shared OutOfMemory = λ came. tt
        by (Err OutOfMemory) shared Spent = λ came. absurd came
        by (Err OutOfMemory) shared OutOfMemory = λ came. tt

  -- ---- waves as parts of a search

  abbrev IsShort : List ℕ → Type 0
  IsShort front = length front ≤ length all.classes

  pub short_fronts : (fronts : List (List ℕ)) → AllByRecursion (IsFront all) fronts → AllByRecursion IsShort fronts
  short_fronts fronts are = each_map (IsFront all) IsShort (λ front is. is.few) fronts are

  fold_part : (parts : List (List (List ℕ))) → AllByRecursion (AllByRecursion IsShort) parts → (xs : List (List ℕ)) × IsSearch (weight_in row.a) (λ now. fold (wave all closed row) now parts) xs
  fold_part [] h = ([], no_part (weight_in row.a))
  fold_part (p ∷ ps) h =
      let rest = fold_part ps h.1 in (
        gone_through all closed row searchable entries p ++ rest.0,
        two_parts (weight_in row.a) (λ now. wave all closed row now p) (λ now. fold (wave all closed row) now ps) (gone_through all closed row searchable entries p) rest.0 (wave_part all closed row searchable entries p h.0) rest.1,
      )

  module _ (fronts : List (List ℕ)) (short : AllByRecursion IsShort fronts) where
    each_wave : (first count : ℕ) → AllByRecursion (AllByRecursion IsShort) (map (λ number. take 16 (drop (16 * number) fronts)) (range_with_len first count))
    each_wave first zero = tt
    each_wave first (suc count) = (each_part IsShort (16 * first) 16 fronts short, each_wave (first + 1) count)

    up_to_part : (count : ℕ) → (xs : List (List ℕ)) × IsSearch (weight_in row.a) (λ now. up_to all closed row fronts now count) xs
    up_to_part count = fold_part (map (λ number. take 16 (drop (16 * number) fronts)) (range_with_len 0 count)) (each_wave 0 count)

    part_is : (number : ℕ) → IsSearch (weight_in row.a) (λ now. wave all closed row now (part all closed row fronts number)) (gone_through all closed row searchable entries (part all closed row fronts number))
    part_is number = wave_part all closed row searchable entries (part all closed row fronts number) (each_part IsShort (16 * number) 16 fronts short)

    module _ (begun middle : Pricing) (seen loaded number : ℕ) (a : Shares priced (λ now. up_to all closed row fronts now number) begun seen middle loaded) where
      -- one wave more
      pub wave_taken : (after : Pricing) (last : ℕ) → Shares priced (λ now. wave all closed row now (part all closed row fronts number)) middle loaded after last →
          Shares priced (λ now. up_to all closed row fronts now (number + 1)) begun seen after last
      wave_taken after last b =
          shares_same priced (λ now. wave all closed row (up_to all closed row fronts now number) (part all closed row fronts number)) (λ now. up_to all closed row fronts now (number + 1))
          (λ now. sym (one_more all closed row fronts now number)) begun after seen last
          (then (weight_in row.a) (λ now. up_to all closed row fronts now number) (λ now. wave all closed row now (part all closed row fronts number)) (up_to_part number).0 (gone_through all closed row searchable entries (part all closed row fronts number))
          (up_to_part number).1 (part_is number) priced begun middle after seen loaded last a b)

      -- a wave that stops
      pub wave_ends : (stop : SearchStop) (nodes : ℕ) (after left : Pricing) (last given : ℕ) → number < (length fronts + 15) / 16 →
          SharesOn priced (λ now. wave all closed row now (part all closed row fronts number)) nodes middle loaded (Err stop) after given →
          SharesOn priced (λ now. fold (wave all closed row) now (waves fronts)) nodes begun seen (Err stop) left last
      wave_ends Spent nodes after left last given l exceeds = λ u under.
          let spent = then_exceeds (weight_in row.a) (λ now. up_to all closed row fronts now number) (λ now. wave all closed row now (part all closed row fronts number)) (up_to_part number).0
          (gone_through all closed row searchable entries (part all closed row fronts number)) (up_to_part number).1 (part_is number) priced begun middle seen loaded nodes a exceeds u under in
          omega (arith, spent, wave_within all closed row fronts (begun_at u) number ((length fronts + 15) / 16) l)
      wave_ends OutOfMemory nodes after left last given l exceeds = tt

    -- ---- the whole search

    whole_part : (xs : List (List ℕ)) × IsSearch (weight_in row.a) (λ now. fold (wave all closed row) now (waves fronts)) xs
    whole_part = up_to_part ((length fronts + 15) / 16)

    pub whole_visits : (now : Pricing) → (fold (wave all closed row) now (waves fronts)).visits ≡ now.visits + visits_from (λ now. fold (wave all closed row) now (waves fronts)) now.floor
    whole_visits now = visits_are (weight_in row.a) (λ now. fold (wave all closed row) now (waves fronts)) whole_part.0 whole_part.1 now

    -- what is kept weighs as much as the floor
    pub whole_weighs : (visits : ℕ) (floor : ℤ) (counts : List ℕ) → (fold (wave all closed row) (record { visits = visits; floor = floor; kept = None }) (waves fronts)).kept ≡ Some counts →
        (fold (wave all closed row) (record { visits = visits; floor = floor; kept = None }) (waves fronts)).floor ≡ weight_in row.a counts
    whole_weighs visits floor counts e =
        let keeps = whole_part.1.keeps (record { visits = visits; floor = floor; kept = None }) in
        ap (λ (kept : Kept). kept.0) keeps ∙ weighed whole_part.0 (floor, None) (λ other e. absurd cc) counts (sym (ap (λ (kept : Kept). kept.1) keeps) ∙ e)
      where
        weighed : (xs : List (List ℕ)) (kept : Kept) → ((other : List ℕ) → kept.1 ≡ Some other → kept.0 ≡ weight_in row.a other) → (counts : List ℕ) → (fold (keep (weight_in row.a)) kept xs).1 ≡ Some counts →
            (fold (keep (weight_in row.a)) kept xs).0 ≡ weight_in row.a counts
        weighed [] kept h counts = λ e. h counts e
        weighed (x ∷ xs) kept h counts =
            elim (int_lt kept.0 (weight_in row.a x)) as (λ b. (fold (keep (weight_in row.a)) (cond b (weight_in row.a x, Some x) kept) xs).1 ≡ Some counts → (fold (keep (weight_in row.a)) (cond b (weight_in row.a x, Some x) kept) xs).0 ≡ weight_in row.a counts) [
              | true ↦ λ e. weighed xs (weight_in row.a x, Some x) (λ other d. let same : x ≡ other = cc in ap (weight_in row.a) same) counts e
              | false ↦ λ e. weighed xs kept h counts e
            ]

    pub whole_none : (visits : ℕ) (floor : ℤ) → (fold (wave all closed row) (record { visits = visits; floor = floor; kept = None }) (waves fronts)).kept ≡ None →
        (fold (wave all closed row) (record { visits = visits; floor = floor; kept = None }) (waves fronts)).floor ≡ floor
    whole_none visits floor e =
        let keeps = whole_part.1.keeps (record { visits = visits; floor = floor; kept = None }) in
        ap (λ (kept : Kept). kept.0) keeps ∙ none_kept (weight_in row.a) whole_part.0 floor (sym (ap (λ (kept : Kept). kept.1) keeps) ∙ e)

  -- a word that keeps the rule is below the weight of the price
  lighter_word : (counts : List ℕ) → price all closed row ≡ Some counts → {floor : ℤ} → floor ≡ weight_in row.a counts → pos 0 ≤ℤ row.b → {last : ℕ} → MayStand priced last → pos last <ℤ floor
  lighter_word counts e weighs positive (inl none) = let above = (price_best all closed row counts e).qualifies.above in omega (arith, ints)
  lighter_word counts e weighs positive (inr beaten) = let least = (price_best all closed row counts e).none_heavier beaten.counts beaten.qualifies in let heavier = beaten.heavier in omega (arith, ints)

  -- the search of all waves keeps the price
  pub keeps_price : (fronts : List (List ℕ)) → AllByRecursion IsShort fronts → fronts ≡ (pieces all closed row).fronts → pos 0 ≤ℤ row.b → (visits : ℕ) (after : Pricing) (last : ℕ) →
      Shares priced (λ now. fold (wave all closed row) now (waves fronts)) (record { visits = visits; floor = row.b; kept = None }) 0 after last → visits ≡ (pieces all closed row).visits → after.kept ≡ price all closed row
  keeps_price fronts short are positive visits after last s v = by (price all closed row) refl s.stands
    where
      due : Pricing
      due = fold (wave all closed row) (record { visits = visits; floor = row.b; kept = None }) (waves fronts)

      due_is : due ≡ best_in_waves all closed row
      due_is = ap (λ n. fold (wave all closed row) (record { visits = n; floor = row.b; kept = None }) (waves fronts)) v ∙ ap (λ fs. fold (wave all closed row) (record { visits = (pieces all closed row).visits; floor = row.b; kept = None }) (waves fs)) are

      kept_price : due.kept ≡ price all closed row
      kept_price = ap (λ now. now.kept) due_is ∙ waves_keep_price all closed row searchable entries

      by : (best : Option (List ℕ)) → price all closed row ≡ best → MayStand priced last → after.kept ≡ price all closed row
      by None e (inl zero_word) =
          let floor = whole_none fronts short visits row.b (kept_price ∙ e) in
          s.same (omega (arith, ints, clamps, s.floor, floor, zero_word, positive)) ∙ sym e
      by None e (inr beaten) = absurd ((price_none_where all closed row).0 e beaten.counts beaten.qualifies)
      by (Some counts) e stands = s.kept (lighter_word counts e (whole_weighs fronts short visits row.b counts (kept_price ∙ e)) positive stands) ∙ kept_price

  -- ---- what the whole search answers

  module _ (nodes visits : ℕ) (fronts : List (List ℕ)) (side : ℤ) (v : visits ≡ (pieces all closed row).visits) (are : fronts ≡ (pieces all closed row).fronts) (s : side ≡ row.b) (short : AllByRecursion IsShort fronts) where
    abbrev begun : Pricing
    begun = record { visits = visits; floor = side; kept = None }

    due_visits : (fold (wave all closed row) begun (waves fronts)).visits ≡ (best_in_waves all closed row).visits
    due_visits =
        ap (λ n. (fold (wave all closed row) (record { visits = n; floor = side; kept = None }) (waves fronts)).visits) v
        ∙ ap (λ z. (fold (wave all closed row) (record { visits = (pieces all closed row).visits; floor = z; kept = None }) (waves fronts)).visits) s
        ∙ ap (λ fs. (fold (wave all closed row) (record { visits = (pieces all closed row).visits; floor = row.b; kept = None }) (waves fs)).visits) are

    pub whole_answers : pos 0 ≤ℤ row.b → (after : Pricing) (last : ℕ) → Shares priced (λ now. fold (wave all closed row) now (waves fronts)) begun 0 after last → after.visits ≤ nodes →
        AnswersSharing (price all closed row) (best_in_waves all closed row).visits nodes (Ok (after.kept, after.visits))
    whole_answers positive after last shares within = (
      keeps_price fronts short are positive visits after last (subst (λ z. Shares priced (λ now. fold (wave all closed row) now (waves fronts)) (record { visits = visits; floor = z; kept = None }) 0 after last) s shares) v,
      omega (arith, shares.few side (omega (arith, ints)), whole_visits fronts short begun, due_visits),
      within,
    )

    pub whole_stops : (stop : SearchStop) (after : Pricing) (last : ℕ) → SharesOn priced (λ now. fold (wave all closed row) now (waves fronts)) nodes begun 0 (Err stop) after last →
        AnswersSharing (price all closed row) (best_in_waves all closed row).visits nodes (Err stop)
    whole_stops Spent after last exceeds = let spent = exceeds side (omega (arith, ints)) in omega (arith, spent, whole_visits fronts short begun, due_visits)
    whole_stops OutOfMemory after last exceeds = tt

  pub fronts_stop : (nodes : ℕ) (stop : SearchStop) → AnswersPieces (pieces all closed row) nodes (Err stop) → AnswersSharing (price all closed row) (best_in_waves all closed row).visits nodes (Err stop)
  fronts_stop nodes Spent told = pieces_stop all closed row nodes Spent told
  fronts_stop nodes OutOfMemory told = tt
