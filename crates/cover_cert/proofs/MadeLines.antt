-- How the code that makes lines goes from one front to the next.
use Rattle.std.proofs.Common.{◌≡◌, ℕ, List, [], ◌∷◌, ◌++◌, ◌<◌, get_or, length, Option, Some, None, sym, ap, ◌∙◌, subst}
use Rattle.std.specs.Prelude.{option_map}
use Rattle.define_checks.specs.Caps.{first_above}
use Rattle.define_rows.specs.Row.{Row}
use Rattle.define_searches.specs.Classes.{Class, Classes, KeepsLimits}
use Rattle.define_covers.specs.Covers.{Cause, FrontLine}
use Rattle.define_covers.specs.FrontOrder.{turned}
use Rattle.cover_text.specs.declared.fronts.Cause.{Cause as CodeCause}
use Rattle.cover_text.specs.Causes.{seen_cause}
use Rattle.define_covers.specs.Counts.{Fits}
use Rattle.define_covers.specs.FirstCause.{first_cause}
use Rattle.define_covers.specs.Made.{IsSearched}
use Rattle.define_covers.proofs.Made.{Tries, ends, goes_down, goes_on, live_is_short, within_limits}

module _ (all : Classes) (closed : List Row) (row : Row) (lines : List FrontLine) (front : List ℕ) (tries : Tries all closed row lines front) (limits : KeepsLimits all) where
  pub read_fits : (read : List ℕ) → read ≡ front → Fits all.classes read
  read_fits read same = subst (Fits all.classes) (sym same) (within_limits all front limits tries.within)

  -- the cause that the code finds
  pub first_is : (read : List ℕ) (found cause : Option CodeCause) → read ≡ front → option_map seen_cause found ≡ first_cause all closed row read → found ≡ cause → first_cause all closed row front ≡ option_map seen_cause cause
  first_is read found cause same e is = ap (first_cause all closed row) (sym same) ∙ sym e ∙ ap (option_map seen_cause) is

  -- the next front as the code finds it
  pub next_is : (classes : List Class) (read : List ℕ) (next : Option (List ℕ)) → classes ≡ all.classes → read ≡ front → next ≡ turned classes read → turned all.classes front ≡ next
  next_is classes read next e same f = ap (λ those. turned those front) (sym e) ∙ ap (turned classes) (sym same) ∙ sym f

  module _ (none : first_above all closed row ≡ None) (live : first_cause all closed row front ≡ None) where
    pub short : length front < length all.classes
    short = live_is_short all closed row front none tries.within live

    pub down : (place : ℕ) (class : Class) (count : ℕ) (child : List ℕ) → place ≡ length front → class ≡ get_or all.classes place class → count ≡ class.most → child ≡ front ++ count ∷ [] → Tries all closed row lines child
    down place class count child f is most e =
        let at = subst (λ n. class ≡ get_or all.classes n class) f is in
        subst (Tries all closed row lines) (sym e) (goes_down all closed row lines front class count limits tries live short at most)

  module _ (cause : Cause) (first : first_cause all closed row front ≡ Some cause) (more : List FrontLine) (line : FrontLine) (is : line ≡ record { front = front; cause = cause }) (added : more ≡ lines ++ line ∷ []) where
    more_is : more ≡ lines ++ record { front = front; cause = cause } ∷ []
    more_is = added ∙ ap (λ it. lines ++ it ∷ []) is

    pub on : (next : List ℕ) → turned all.classes front ≡ Some next → Tries all closed row more next
    on next e = subst (λ them. Tries all closed row them next) (sym more_is) (goes_on all closed row lines front cause tries first next e)

    pub done : turned all.classes front ≡ None → IsSearched all closed row more
    done e = subst (IsSearched all closed row) (sym more_is) (ends all closed row lines front cause tries first e)
