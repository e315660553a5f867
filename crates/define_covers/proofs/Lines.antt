-- A check of a tree goes on from line to line.
use Rattle.std.proofs.Common.{◌≡◌, ℕ, ◌+◌, ◌<◌, true, false, cond, List, ◌∷◌, drop, length, get_or, Option, Some, None, Result, Ok, Err, refl, sym, ap, ◌∙◌, arith}
use Rattle.std.proofs.lemmas.List.{drop_more}
use Rattle.define_rows.specs.Row.{Row}
use Rattle.define_searches.specs.Classes.{Classes}
use Rattle.define_proofs.specs.TreeLines.{TreeFault, fault}
use Rattle.define_covers.specs.Causes.{applies}
use Rattle.define_covers.specs.Covers.{FrontLine}
use Rattle.define_covers.specs.CoverVerdict.{fault_from}
use Rattle.define_covers.specs.FrontOrder.{continues, turned}
use Rattle.define_covers.specs.LineSteps.{next}

module _ (all : Classes) (closed : List Row) (row : Row) where
  along : ℕ → Result (Option (List ℕ)) ℕ → List FrontLine → Option TreeFault
  along number (Ok place) later = fault_from all closed row (number + 1) place later
  along number (Err reason) later = fault number reason

  -- the first fault from `line` on is the fault of `line`, or else the first fault of the later lines at the next place
  by_step : (number : ℕ) (place : Option (List ℕ)) (line : FrontLine) (later : List FrontLine) → fault_from all closed row number place (line ∷ later) ≡ along number (next all closed row place line) later
  unfolding along
  by_step number None line later = refl
  by_step number (Some beginning) line later =
      elim (continues all.classes beginning line.front) as (λ c. cond c (cond (applies all closed row line.front line.cause) (fault_from all closed row (number + 1) (turned all.classes line.front) later) (fault number 12)) (fault number 11)
      ≡ along number (cond c (cond (applies all closed row line.front line.cause) (Ok (turned all.classes line.front)) (Err 12)) (Err 11)) later) [
        | false ↦ refl
        | true ↦ elim (applies all closed row line.front line.cause) as (λ a. cond a (fault_from all closed row (number + 1) (turned all.classes line.front) later) (fault number 12)
            ≡ along number (cond a (Ok (turned all.classes line.front)) (Err 12)) later) [
              | true ↦ refl
              | false ↦ refl
            ]
      ]

  module _ (number k : ℕ) (lines : List FrontLine) (line : FrontLine) (here : Option (List ℕ)) (whole : Option TreeFault) (below : k < length lines) (is : line ≡ get_or lines k line)
      (same : whole ≡ fault_from all closed row (number + k) here (drop k lines)) where
    from_here : whole ≡ along (number + k) (next all closed row here line) (drop (k + 1) lines)
    from_here =
        same ∙ ap (fault_from all closed row (number + k) here) (drop_more lines k line below ∙ ap (λ one. one ∷ drop (k + 1) lines) (sym is)) ∙ by_step (number + k) here line (drop (k + 1) lines)

    -- if line `k` is passed, the first fault is that of the lines after it
    pub line_passed : (there : Option (List ℕ)) → Ok there ≡ next all closed row here line → whole ≡ fault_from all closed row (number + (k + 1)) there (drop (k + 1) lines)
    unfolding along
    line_passed there step =
        let counted : number + k + 1 ≡ number + (k + 1) = omega arith in
        from_here ∙ ap (λ it. along (number + k) it (drop (k + 1) lines)) (sym step) ∙ ap (λ n. fault_from all closed row n there (drop (k + 1) lines)) counted

    -- if line `k` is refused, it is the first fault
    pub line_refused : (reason : ℕ) → Err reason ≡ next all closed row here line → whole ≡ fault (number + k) reason
    unfolding along
    line_refused reason step = from_here ∙ ap (λ it. along (number + k) it (drop (k + 1) lines)) (sym step)
