-- A search that finds nothing has one list of lines: each front is the shortest that isn't live, and its cause is the first that applies.
use Rattle.std.proofs.Common.{◌≡◌, ℕ, ◌≤◌, ◌<◌, ◌⊎◌, inl, inr, true, leb, List, [], ◌∷◌, map, length, take, Option, Some, None, refl, sym, ap, ap₂, ◌∙◌, arith}
use Rattle.std.specs.Prelude.{bytes_eq}
use Rattle.std.specs.List.{AllByRecursion}
use Rattle.std.proofs.lemmas.Bool.{and_parts, cases_lt, false≢true}
use Rattle.std.proofs.lemmas.List.{take-take}
use Rattle.std.proofs.lemmas.Slice.Eq.{bytes_eq-Decides}
use Rattle.define_checks.specs.Caps.{classes_at, stage_row}
use Rattle.define_pools.proofs.Found.{find-passes}
use Rattle.define_rows.specs.Row.{Row}
use Rattle.define_searches.specs.Classes.{Classes}
use Rattle.define_searches.specs.Fronts.{is_live_above}
use Rattle.define_covers.specs.Causes.{applies}
use Rattle.define_covers.specs.Covers.{Cause, FrontLine}
use Rattle.define_covers.specs.FrontOrder.{are_in_order, continues, filled, turned}
use Rattle.define_covers.specs.FirstCause.{causes, first_cause}
use Rattle.define_covers.specs.Made.{IsTried, SearchedOnce, TreesSearchedOnce}
use Rattle.define_covers.proofs.Ruled.{not_live_where_applies}

module _ (all : Classes) (closed : List Row) (row : Row) where
  abbrev fronts : List FrontLine → List (List ℕ)
  fronts lines = map (λ line. line.front) lines

  -- the lines are the last of a search, from the front on that begins with `beginning`
  record Ends (beginning : Option (List ℕ)) (lines : List FrontLine) : Type 0 where
    in_order : are_in_order all.classes beginning (fronts lines) ≡ true
    tried : AllByRecursion (λ line. IsTried all closed row line.front) lines
    causes : AllByRecursion (λ line. first_cause all closed row line.front ≡ Some line.cause) lines

  -- a front that continues a beginning is the first part of the counts that fill it
  whole_taken : (beginning front : List ℕ) → continues all.classes beginning front ≡ true → front ≡ take (length front) (filled all.classes beginning)
  whole_taken beginning front e =
      let parts = and_parts (leb (length beginning) (length front)) (bytes_eq front (take (length front) (filled all.classes beginning))) e in
      (bytes_eq-Decides front (take (length front) (filled all.classes beginning))).0 parts.1

  -- a front with a cause isn't the beginning of a longer one that the search tries
  not_shorter : (whole front other : List ℕ) (cause : Cause) → front ≡ take (length front) whole → other ≡ take (length other) whole → first_cause all closed row front ≡ Some cause →
      IsTried all closed row other → length front < length other → ⊥
  not_shorter whole front other cause e f first tried l =
      let same : take (length front) other ≡ front = ap (take (length front)) f ∙ take-take (length front) (length other) whole (omega arith) ∙ sym e in
      let dead = not_live_where_applies all closed row front cause (find-passes (applies all closed row front) (causes all closed) cause first) in
      false≢true (sym dead ∙ ap (is_live_above all closed row row.b) (sym same) ∙ tried (length front) l)

  -- so two fronts that the search tries, each with a cause, are one
  same_front : (whole front other : List ℕ) (cause due : Cause) → front ≡ take (length front) whole → other ≡ take (length other) whole → first_cause all closed row front ≡ Some cause →
      first_cause all closed row other ≡ Some due → IsTried all closed row front → IsTried all closed row other → front ≡ other
  same_front whole front other cause due e f first last tried also = by (cases_lt (length front) (length other)) (cases_lt (length other) (length front))
    where
      by : (length front < length other) ⊎ (length other ≤ length front) → (length other < length front) ⊎ (length front ≤ length other) → front ≡ other
      by (inl l) m = absurd (not_shorter whole front other cause e f first also l)
      by (inr l) (inl m) = absurd (not_shorter whole other front due f e last tried m)
      by (inr l) (inr m) = let long : length front ≡ length other = omega arith in e ∙ ap (λ n. take n whole) long ∙ sym f

  same_line : (line other : FrontLine) → line.front ≡ other.front → first_cause all closed row line.front ≡ Some line.cause → first_cause all closed row other.front ≡ Some other.cause → line ≡ other
  same_line line other e first last =
      let both : Some line.cause ≡ Some other.cause = sym first ∙ ap (first_cause all closed row) e ∙ last in
      let cause : line.cause ≡ other.cause = cc in
      let made : List ℕ → Cause → FrontLine = λ front cause. record { front = front; cause = cause } in
      ap₂ made e cause

  -- from one beginning on, there is one list of lines
  ends_once : (beginning : Option (List ℕ)) (first second : List FrontLine) → Ends beginning first → Ends beginning second → first ≡ second
  ends_once None [] [] f s = refl
  ends_once None [] (other ∷ second) f s = absurd (false≢true s.in_order)
  ends_once None (line ∷ first) second f s = absurd (false≢true f.in_order)
  ends_once (Some beginning) [] second f s = absurd (false≢true f.in_order)
  ends_once (Some beginning) (line ∷ first) [] f s = absurd (false≢true s.in_order)
  ends_once (Some beginning) (line ∷ first) (other ∷ second) f s =
      let here = and_parts (continues all.classes beginning line.front) (are_in_order all.classes (turned all.classes line.front) (fronts first)) f.in_order in
      let there = and_parts (continues all.classes beginning other.front) (are_in_order all.classes (turned all.classes other.front) (fronts second)) s.in_order in
      let front = same_front (filled all.classes beginning) line.front other.front line.cause other.cause (whole_taken beginning line.front here.0)
      (whole_taken beginning other.front there.0) f.causes.0 s.causes.0 f.tried.0 s.tried.0 in
      ap₂ (λ (it : FrontLine) those. it ∷ those) (same_line line other front f.causes.0 s.causes.0)
      (ends_once (turned all.classes line.front) first second (record { in_order = here.1; tried = f.tried.1; causes = f.causes.1 })
      (record {
        in_order = ap (λ front. are_in_order all.classes (turned all.classes front) (fronts second)) front ∙ there.1;
        tried = s.tried.1;
        causes = s.causes.1;
      }))

pub searched_once : SearchedOnce
searched_once all closed row first second f s =
    ends_once all closed row (Some []) first second (record { in_order = f.in_order; tried = f.tried; causes = f.causes })
    (record { in_order = s.in_order; tried = s.tried; causes = s.causes })

pub trees_searched_once : TreesSearchedOnce
trees_searched_once pool earlier [] [] [] l m f s = refl
trees_searched_once pool earlier [] [] (u ∷ second) l m f s = absurd (omega (arith, m))
trees_searched_once pool earlier [] (t ∷ first) second l m f s = absurd (omega (arith, l))
trees_searched_once pool earlier (stage ∷ later) [] second l m f s = absurd (omega (arith, l))
trees_searched_once pool earlier (stage ∷ later) (t ∷ first) [] l m f s = absurd (omega (arith, m))
trees_searched_once pool earlier (stage ∷ later) (t ∷ first) (u ∷ second) l m f s =
    ap₂ (λ (it : List FrontLine) those. it ∷ those)
    (searched_once (classes_at pool (stage ∷ earlier)) (map (stage_row pool (stage ∷ earlier)) earlier) (stage_row pool (stage ∷ earlier) stage) t u f.0 s.0)
    (trees_searched_once pool (stage ∷ earlier) later first second (omega (arith, l)) (omega (arith, m)) f.1 s.1)
