-- If a search kept a composition, its floor is the weight of this composition.
use Rattle.std.proofs.Common.{◌≡◌, ℕ, ◌+◌, true, false, cond, List, [], ◌∷◌, ◌++◌, fold, ℤ, Some, None, ap}
use Rattle.define_rows.specs.Row.{Row}
use Rattle.define_searches.specs.Classes.{Class, Classes}
use Rattle.define_searches.specs.Compositions.{counts_of, weight_in}
use Rattle.define_searches.specs.Fronts.{is_live_above, later_than}
use Rattle.define_searches.specs.Visits.{Pricing, enter_best}
use Rattle.define_searches.specs.Below.{search_from}

-- if P holds at first, and each step of a fold keeps it, P holds at the end
fold_keeps : {A X : Type 0} (P : A → Type 0) (f : A → X → A) → ((a : A) (x : X) → P a → P (f a x)) → (xs : List X) (a : A) → P a → P (fold f a xs)
fold_keeps P f step [] a p = p
fold_keeps P f step (x ∷ xs) a p = fold_keeps P f step xs (f a x) (step a x p)

-- if a composition was kept, the floor is its weight in `row`
abbrev pub IsWeighed : Row → Pricing → Type 0
IsWeighed row now = (counts : List ℕ) → now.kept ≡ Some counts → now.floor ≡ weight_in row.a counts

enter_weighed : (all : Classes) (closed : List Row) (row : Row) (later : List Class) (front : List ℕ) (now : Pricing) → IsWeighed row now → IsWeighed row (enter_best all closed row later front now)
enter_weighed all closed row [] front now weighed = λ counts e. let same : front ≡ counts = cc in ap (weight_in row.a) same
enter_weighed all closed row (class ∷ later) front now weighed =
    fold_keeps (IsWeighed row) (λ now c. cond (is_live_above all closed row now.floor (front ++ c ∷ [])) (enter_best all closed row later (front ++ c ∷ []) now) now)
    (λ now c good.
    (elim (is_live_above all closed row now.floor (front ++ c ∷ [])) as (λ b. IsWeighed row (cond b (enter_best all closed row later (front ++ c ∷ []) now) now)) [
      | true ↦ enter_weighed all closed row later (front ++ c ∷ []) now good
      | false ↦ good
    ]))
    (counts_of class) (record now { visits = now.visits + 1 }) weighed

pub search_weighed : (all : Classes) (closed : List Row) (row : Row) (front : List ℕ) (floor : ℤ) → IsWeighed row (search_from all closed row front floor)
search_weighed all closed row front floor =
    let begun : Pricing = record { visits = 0; floor = floor; kept = None } in
    let nothing : IsWeighed row begun = λ counts e. absurd cc in
    (elim (is_live_above all closed row floor front) as (λ b. IsWeighed row (cond b (enter_best all closed row (later_than front all.classes) front begun) begun)) [
      | true ↦ enter_weighed all closed row (later_than front all.classes) front begun nothing
      | false ↦ nothing
    ])
