-- A search that shares a word, part by part, beside the search alone.
use Rattle.std.proofs.Common.{◌≡◌, ℕ, ◌+◌, ◌≤◌, true, false, cond, List, [], ◌∷◌, ◌++◌, fold, ℤ, pos, Option, Some, refl, sym, ap, ◌∙◌, arith, subst}
use Rattle.std.specs.Prelude.{int_lt, ◌<ℤ◌, ◌≤ℤ◌}
use Rattle.std.specs.Int.{int_max}
use Rattle.std.proofs.lemmas.Int.{ints, clamps, by_lt_z}
use Rattle.std.proofs.lemmas.List.Sums.{fold-append}
use Rattle.define_searches.specs.Visits.{Pricing}
use Rattle.define_searches.proofs.BestSearch.{Kept, keep, told}
use Rattle.panel_search.specs.Pricers.{Priced}
use Rattle.panel_search.specs.Sharing.{Exceeds, MayStand, Shares, begun_at, visits_from}

-- ---- what a search alone keeps of a list, from two floors

module _ (weight : List ℕ → ℤ) where
  abbrev keeping : Kept → List (List ℕ) → Kept
  keeping kept xs = fold (keep weight) kept xs

  pub rises : (xs : List (List ℕ)) (kept : Kept) → kept.0 ≤ℤ (keeping kept xs).0
  rises [] kept = omega (arith, ints)
  rises (x ∷ xs) kept =
      (elim (int_lt kept.0 (weight x)) as (λ b. int_lt kept.0 (weight x) ≡ b → kept.0 ≤ℤ (keeping (cond b (weight x, Some x) kept) xs).0) [
        | true ↦ λ e. let more = rises xs (weight x, Some x) in omega (arith, ints, e, more)
        | false ↦ λ e. rises xs kept
      ]) refl

  -- if the floor doesn't rise, nothing else is kept
  pub stays : (xs : List (List ℕ)) (kept : Kept) → (keeping kept xs).0 ≡ kept.0 → (keeping kept xs).1 ≡ kept.1
  stays [] kept = λ same. refl
  stays (x ∷ xs) kept =
      (elim (int_lt kept.0 (weight x)) as (λ b. int_lt kept.0 (weight x) ≡ b → (keeping (cond b (weight x, Some x) kept) xs).0 ≡ kept.0 → (keeping (cond b (weight x, Some x) kept) xs).1 ≡ kept.1) [
        | true ↦ λ e same. let more = rises xs (weight x, Some x) in absurd (omega (arith, ints, e, more, same))
        | false ↦ λ e same. stays xs kept same
      ]) refl

  -- from a higher floor `g` the search ends with the greater of its floor from `f` and `g`; and it keeps the same, if that weighs more
  -- than `g`
  pub raised : (xs : List (List ℕ)) (f g : ℤ) (k l : Option (List ℕ)) → f ≤ℤ g →
      ((keeping (g, l) xs).0 ≡ int_max (keeping (f, k) xs).0 g) × (g <ℤ (keeping (f, k) xs).0 → (keeping (g, l) xs).1 ≡ (keeping (f, k) xs).1)
  raised [] f g k l le = (omega (arith, ints, clamps), λ lt. absurd (omega (arith, ints)))
  raised (x ∷ xs) f g k l le =
      (elim (int_lt f (weight x)) as (λ b. int_lt f (weight x) ≡ b → ((keeping (cond (int_lt g (weight x)) (weight x, Some x) (g, l)) xs).0 ≡ int_max (keeping (cond b (weight x, Some x) (f, k)) xs).0 g)
      × (g <ℤ (keeping (cond b (weight x, Some x) (f, k)) xs).0 → (keeping (cond (int_lt g (weight x)) (weight x, Some x) (g, l)) xs).1 ≡ (keeping (cond b (weight x, Some x) (f, k)) xs).1)) [
        | true ↦ λ e. (elim (int_lt g (weight x)) as (λ b. int_lt g (weight x) ≡ b → ((keeping (cond b (weight x, Some x) (g, l)) xs).0 ≡ int_max (keeping (weight x, Some x) xs).0 g)
            × (g <ℤ (keeping (weight x, Some x) xs).0 → (keeping (cond b (weight x, Some x) (g, l)) xs).1 ≡ (keeping (weight x, Some x) xs).1)) [
              | true ↦ λ d. let more = rises xs (weight x, Some x) in (omega (arith, ints, clamps, more, d), λ lt. refl)
              | false ↦ λ d. raised xs (weight x) g (Some x) l (omega (arith, ints, d))
            ]) refl
        | false ↦ λ e. (elim (int_lt g (weight x)) as (λ b. int_lt g (weight x) ≡ b → ((keeping (cond b (weight x, Some x) (g, l)) xs).0 ≡ int_max (keeping (f, k) xs).0 g)
            × (g <ℤ (keeping (f, k) xs).0 → (keeping (cond b (weight x, Some x) (g, l)) xs).1 ≡ (keeping (f, k) xs).1)) [
              | true ↦ λ d. absurd (omega (arith, ints, d, e, le))
              | false ↦ λ d. raised xs f g k l le
            ]) refl
      ]) refl

-- ---- a part of a search alone

-- `a` has `n` visits more than `b`, and the same floor
abbrev pub Shifted : ℕ → Pricing → Pricing → Type 0
Shifted n a b = (a.visits ≡ n + b.visits) × (a.floor ≡ b.floor)

-- a part of a search goes through `xs`, and its visits depend on the floor alone
pub record IsSearch (weight : List ℕ → ℤ) (due : Pricing → Pricing) (xs : List (List ℕ)) : Type 0 where
  pub keeps : (now : Pricing) → told (due now) ≡ fold (keep weight) (told now) xs
  pub shift : (n : ℕ) (a b : Pricing) → Shifted n a b → Shifted n (due a) (due b)

pub no_part : (weight : List ℕ → ℤ) → IsSearch weight (λ now. now) []
no_part weight = record { keeps = λ now. refl; shift = λ n a b e. e }

pub two_parts : (weight : List ℕ → ℤ) (one other : Pricing → Pricing) (xs ys : List (List ℕ)) → IsSearch weight one xs → IsSearch weight other ys → IsSearch weight (λ now. other (one now)) (xs ++ ys)
two_parts weight one other xs ys first second = record {
  keeps = λ now. second.keeps (one now) ∙ ap (λ kept. fold (keep weight) kept ys) (first.keeps now) ∙ sym (fold-append (keep weight) (told now) xs ys);
  shift = λ n a b e. second.shift n (one a) (one b) (first.shift n a b e);
}

pub visits_are : (weight : List ℕ → ℤ) (due : Pricing → Pricing) (xs : List (List ℕ)) → IsSearch weight due xs → (now : Pricing) → (due now).visits ≡ now.visits + visits_from due now.floor
visits_are weight due xs search now = (search.shift now.visits now (begun_at now.floor) (omega arith, refl)).0

module _ (weight : List ℕ → ℤ) (due : Pricing → Pricing) (xs : List (List ℕ)) (search : IsSearch weight due xs) where
  floor_is : (now : Pricing) → (due now).floor ≡ (fold (keep weight) (told now) xs).0
  floor_is now = ap (λ (kept : Kept). kept.0) (search.keeps now)

  kept_is : (now : Pricing) → (due now).kept ≡ (fold (keep weight) (told now) xs).1
  kept_is now = ap (λ (kept : Kept). kept.1) (search.keeps now)

  pub floor_rises : (now : Pricing) → now.floor ≤ℤ (due now).floor
  floor_rises now = subst (λ z. now.floor ≤ℤ z) (sym (floor_is now)) (rises weight xs (told now))

  pub kept_stays : (now : Pricing) → (due now).floor ≡ now.floor → (due now).kept ≡ now.kept
  kept_stays now e = kept_is now ∙ stays weight xs (told now) (sym (floor_is now) ∙ e)

  pub floor_raised : (now then : Pricing) → now.floor ≤ℤ then.floor → (due then).floor ≡ int_max (due now).floor then.floor
  floor_raised now then le = floor_is then ∙ (raised weight xs now.floor then.floor now.kept then.kept le).0 ∙ ap (λ z. int_max z then.floor) (sym (floor_is now))

  pub kept_raised : (now then : Pricing) → now.floor ≤ℤ then.floor → then.floor <ℤ (due now).floor → (due then).kept ≡ (due now).kept
  kept_raised now then le lt = kept_is then ∙ (raised weight xs now.floor then.floor now.kept then.kept le).1 (subst (λ z. then.floor <ℤ z) (floor_is now) lt) ∙ sym (kept_is now)

  pub kept_same : (now then : Pricing) → then.floor ≡ now.floor → then.kept ≡ now.kept → (due then).kept ≡ (due now).kept
  kept_same now then e f = kept_is then ∙ ap (λ z. (fold (keep weight) (z, then.kept) xs).1) e ∙ ap (λ k. (fold (keep weight) (now.floor, k) xs).1) f ∙ sym (kept_is now)

-- ---- a part that shares a word

-- the search loads a word, and raises its floor to it
pub after_load : (priced : Priced) (before after : Pricing) (seen last : ℕ) → seen ≤ last → MayStand priced last → pos seen ≤ℤ before.floor → after.visits ≡ before.visits → after.floor ≡ int_max before.floor (pos last) →
    (after.floor ≡ before.floor → after.kept ≡ before.kept) → Shares priced (λ now. now) before seen after last
after_load priced before after seen last le stands bounded visits floor same = record {
  no_less = le;
  stands = stands;
  rises = omega (arith, ints, clamps, floor);
  floor = floor;
  kept = λ lt. same (omega (arith, ints, clamps, floor, lt));
  same = same;
  few = λ u under. omega (arith, visits);
}

-- the search does what the search alone does
pub as_alone : (weight : List ℕ → ℤ) (priced : Priced) (due : Pricing → Pricing) (xs : List (List ℕ)) (before after : Pricing) (seen : ℕ) → IsSearch weight due xs → MayStand priced seen → pos seen ≤ℤ before.floor → after ≡ due before →
    ((u : ℤ) → u ≤ℤ before.floor → after.visits ≤ before.visits + visits_from due u) → Shares priced due before seen after seen
as_alone weight priced due xs before after seen search stands bounded is few =
    let floor : after.floor ≡ (due before).floor = ap (λ now. now.floor) is in
    let more = floor_rises weight due xs search before in
    record {
      no_less = omega arith;
      stands = stands;
      rises = omega (arith, ints, floor, more);
      floor = omega (arith, ints, clamps, floor, more, bounded);
      kept = λ lt. ap (λ now. now.kept) is;
      same = λ e. ap (λ now. now.kept) is ∙ kept_stays weight due xs search before (sym floor ∙ e);
      few = few;
    }

-- a part that the search alone passes over too
pub passed_over : (weight : List ℕ → ℤ) (priced : Priced) (due : Pricing → Pricing) (xs : List (List ℕ)) (before after : Pricing) (seen : ℕ) → IsSearch weight due xs → MayStand priced seen → pos seen ≤ℤ before.floor →
    due before ≡ before → after ≡ before → Shares priced due before seen after seen
passed_over weight priced due xs before after seen search stands bounded dead is =
    as_alone weight priced due xs before after seen search stands bounded (is ∙ sym dead) (λ u under. omega (arith, ap (λ now. now.visits) is))

module _ (weight : List ℕ → ℤ) (one other : Pricing → Pricing) (xs ys : List (List ℕ)) (first : IsSearch weight one xs) (second : IsSearch weight other ys) where
  both_visits : (u : ℤ) → visits_from (λ now. other (one now)) u ≡ visits_from one u + visits_from other (one (begun_at u)).floor
  both_visits u = visits_are weight other ys second (one (begun_at u))

  -- from a floor that is no higher, the first part alone ends with a floor that is no higher
  middle_floor : (priced : Priced) (before middle : Pricing) (seen loaded : ℕ) → Shares priced one before seen middle loaded → (u : ℤ) → u ≤ℤ before.floor → (one (begun_at u)).floor ≤ℤ middle.floor
  middle_floor priced before middle seen loaded shares u under =
      let low = floor_raised weight one xs first (begun_at u) before under in
      omega (arith, ints, clamps, low, shares.floor)

  pub then : (priced : Priced) (before middle after : Pricing) (seen loaded last : ℕ) → Shares priced one before seen middle loaded → Shares priced other middle loaded after last →
      Shares priced (λ now. other (one now)) before seen after last
  then priced before middle after seen loaded last a b =
      let alone = one before in
      let begun = floor_rises weight one xs first before in
      let ended = floor_rises weight other ys second alone in
      let low : alone.floor ≤ℤ middle.floor = omega (arith, ints, clamps, a.floor) in
      let high = floor_raised weight other ys second alone middle low in
      record {
        no_less = omega (arith, a.no_less, b.no_less);
        stands = b.stands;
        rises = omega (arith, ints, a.rises, b.rises);
        floor = omega (arith, ints, clamps, a.floor, b.floor, high, ended, b.no_less);
        kept = λ lt.
            let theirs = b.kept (omega (arith, ints, clamps, high, lt)) in
            theirs ∙ by_lt_z middle.floor (other alone).floor
            (λ more. kept_raised weight other ys second alone middle low more)
            (λ less.
            let above : pos loaded <ℤ alone.floor = omega (arith, ints, clamps, a.floor, less, lt, b.no_less) in
            kept_same weight other ys second alone middle (omega (arith, ints, clamps, a.floor, above)) (a.kept above));
        same = λ e.
            let there : middle.floor ≡ before.floor = omega (arith, ints, e, a.rises, b.rises) in
            b.same (omega (arith, ints, e, there)) ∙ a.same there;
        few = λ u under.
            let one_few = a.few u under in
            let other_few = b.few (one (begun_at u)).floor (middle_floor priced before middle seen loaded a u under) in
            omega (arith, both_visits u, one_few, other_few);
      }

  pub first_exceeds : (before : Pricing) (nodes : ℕ) → Exceeds one before nodes → Exceeds (λ now. other (one now)) before nodes
  first_exceeds before nodes exceeds u under = let spent = exceeds u under in omega (arith, both_visits u, spent)

  pub then_exceeds : (priced : Priced) (before middle : Pricing) (seen loaded nodes : ℕ) → Shares priced one before seen middle loaded → Exceeds other middle nodes → Exceeds (λ now. other (one now)) before nodes
  then_exceeds priced before middle seen loaded nodes a exceeds u under =
      let one_few = a.few u under in
      let spent = exceeds (one (begun_at u)).floor (middle_floor priced before middle seen loaded a u under) in
      omega (arith, both_visits u, one_few, spent)

-- ---- a front that is entered

-- a visit is added
abbrev pub visited : Pricing → Pricing
visited now = record now { visits = now.visits + 1 }

module _ (due inner : Pricing → Pricing) (before : Pricing) (shift : (n : ℕ) (a b : Pricing) → Shifted n a b → Shifted n (inner a) (inner b)) (is : (now : Pricing) → now.floor ≤ℤ before.floor → due now ≡ inner (visited now)) where
  pub entered_visits : (u : ℤ) → u ≤ℤ before.floor → visits_from due u ≡ 1 + visits_from inner u
  entered_visits u under = ap (λ now. now.visits) (is (begun_at u) under) ∙ (shift 1 (visited (begun_at u)) (begun_at u) (refl, refl)).0

  -- a part that is a visit and what comes then
  pub entered : (priced : Priced) (after : Pricing) (seen last : ℕ) → Shares priced inner (visited before) seen after last → Shares priced due before seen after last
  entered priced after seen last s =
      let here = is before (omega (arith, ints)) in
      record {
        no_less = s.no_less;
        stands = s.stands;
        rises = s.rises;
        floor = s.floor ∙ ap (λ (now : Pricing). int_max now.floor (pos last)) (sym here);
        kept = λ lt. s.kept (subst (λ (now : Pricing). pos last <ℤ now.floor) here lt) ∙ ap (λ now. now.kept) (sym here);
        same = s.same;
        few = λ u under. let few = s.few u under in omega (arith, entered_visits u under, few);
      }

  pub entered_exceeds : (nodes : ℕ) → Exceeds inner (visited before) nodes → Exceeds due before nodes
  entered_exceeds nodes exceeds u under = let spent = exceeds u under in omega (arith, entered_visits u under, spent)
