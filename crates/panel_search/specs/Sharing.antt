-- A search that shares a word with others, beside the search alone. The contracts of `word`, `sharing` and `priced` cite it, and so do those
-- of `pricing_pool`.
use Rattle.std.specs.Prelude.{◌≡◌, ◌+◌, ◌≤◌, ◌<◌, ◌⊎◌, ℕ, ℤ, pos, ◌<ℤ◌, ◌≤ℤ◌, List, [], ◌∷◌, ◌++◌, take, Option, None, MatchOption, Result, Ok, Err}
use Rattle.std.specs.Int.{int_max}
use Rattle.define_rows.specs.Row.{Row}
use Rattle.define_searches.specs.Best.{Qualifies}
use Rattle.define_searches.specs.Classes.{Class, Classes}
use Rattle.define_searches.specs.Compositions.{weight_in}
use Rattle.define_searches.specs.Visits.{Pricing}
use Rattle.define_searches.specs.Below.{IsFront, search_from}
use Rattle.panel_search.specs.Answers.{IsKept}
use Rattle.panel_search.specs.Pricers.{Priced}
use Rattle.panel_search.specs.Pricing.{StandsAt, pricing_of}
use Rattle.panel_search.specs.declared.pricing.BestSearch.{BestSearch}
use Rattle.panel_search.specs.declared.pricing.Terms.{Terms}
use Rattle.panel_search.specs.declared.searching.BudgetSpent.{BudgetSpent}
use Rattle.panel_search.specs.declared.searching.SearchStop.{SearchStop}
use Rattle.panel_search.specs.declared.searching.SearchStop.TheVariants.{Spent, OutOfMemory}

-- some composition attains the closed rows, weighs more than the right side, and weighs more than `n`
pub record IsBeaten (priced : Priced) (n : ℕ) : Type 0 where
  pub counts : List ℕ
  pub qualifies : Qualifies priced.classes priced.closed priced.row counts
  pub heavier : pos n <ℤ weight_in priced.row.a counts

-- the rule of the shared word: it is 0, or below the weight of some composition that attains the closed rows and weighs more than the right
-- side
abbrev pub MayStand : Priced → ℕ → Type 0
MayStand priced n = (n ≡ 0) ⊎ IsBeaten priced n

-- a floor is at least the right side and the greatest word that was loaded, which keeps the rule
pub record IsBounded (priced : Priced) (floor : ℤ) (seen : ℕ) : Type 0 where
  pub above : priced.row.b ≤ℤ floor
  pub no_less : pos seen ≤ℤ floor
  pub stands : MayStand priced seen

-- a search before its first visit
abbrev pub begun_at : ℤ → Pricing
begun_at floor = record { visits = 0; floor = floor; kept = None }

-- how many visits a search that shares nothing makes in one part, if it begins the part with this floor. `due` says what the part does to
-- such a search
abbrev pub visits_from : (Pricing → Pricing) → ℤ → ℕ
visits_from due floor = (due (begun_at floor)).visits

-- one part of a search that shares a word, compared with the same part of a search that shares nothing, which `due` describes. The sharing
-- search is `before` at the beginning of the part and `after` at its end; the greatest word that it has loaded is `seen` at the beginning and
-- `last` at the end. If it loads a word above its floor, it drops the composition that it kept, since a heavier one exists
pub record Shares (priced : Priced) (due : Pricing → Pricing) (before : Pricing) (seen : ℕ) (after : Pricing) (last : ℕ) : Type 0 where
  pub no_less : seen ≤ last
  pub stands : MayStand priced last
  pub rises : before.floor ≤ℤ after.floor
  -- the floor is the greater of the floor that the search alone ends with and the word
  pub floor : after.floor ≡ int_max (due before).floor (pos last)
  -- what the search alone keeps is kept, if it weighs more than the word
  pub kept : pos last <ℤ (due before).floor → after.kept ≡ (due before).kept
  -- nothing else is kept unless the floor rises
  pub same : after.floor ≡ before.floor → after.kept ≡ before.kept
  -- there are at most the visits of a search alone that comes to the part with no higher floor
  pub few : (u : ℤ) → u ≤ℤ before.floor → after.visits ≤ before.visits + visits_from due u

-- the visits of `before`, and those of a search that shares nothing in the part that `due` describes, are together more than `nodes`. This
-- holds for each floor with which that search may begin the part, up to the floor of `before`
abbrev pub Exceeds : (Pricing → Pricing) → Pricing → ℕ → Type 0
Exceeds due before nodes = (u : ℤ) → u ≤ℤ before.floor → nodes < before.visits + visits_from due u

-- a step of the search does its part and returns to the same front, or the search alone would need more visits than the budget
abbrev pub Goes : Classes → List Row → Row → ℕ → List Class → Priced → (Pricing → Pricing) → BestSearch → ℕ → Result (Unit {0}) BudgetSpent → BestSearch → ℕ → Type 0
Goes all closed row depth later priced due before seen (Ok done) after last =
    Shares priced due (pricing_of before) seen (pricing_of after) last × (take depth after.counts.items ≡ take depth before.counts.items) × (after.nodes ≡ before.nodes) × (after.visits ≤ before.nodes)
    × StandsAt all closed row depth later after
Goes all closed row depth later priced due before seen (Err spent) after last = Exceeds due (pricing_of before) before.nodes

-- the whole search does its part, or the search alone would need more visits than the budget
abbrev pub Shared : Priced → (Pricing → Pricing) → BestSearch → ℕ → Result (Unit {0}) BudgetSpent → BestSearch → ℕ → Type 0
Shared priced due before seen (Ok done) after last = Shares priced due (pricing_of before) seen (pricing_of after) last × (after.visits ≤ before.nodes)
Shared priced due before seen (Err spent) after last = Exceeds due (pricing_of before) before.nodes

-- each count in `low..end` of the next class continues `front`
abbrev pub FrontsWithin : Classes → List ℕ → ℕ → ℕ → Type 0
FrontsWithin all front low end = (count : ℕ) → low ≤ count → count < end → IsFront all (front ++ count ∷ [])

-- the classes and rows that a search reads
abbrev pub priced_of : Terms → Priced
priced_of terms = record { classes = terms.classes.now; closed = terms.closed.now; row = terms.row.now }

-- the search below a front that shares nothing, with a floor of its own
abbrev pub alone_from : Priced → List ℕ → ℤ → Pricing
alone_from priced front floor = search_from priced.classes priced.closed priced.row front floor

-- the answer of a search below `front` that shares a word. `last` is the greatest word that its worker has loaded when it ends
pub record IsShared (priced : Priced) (front : List ℕ) (floor : ℤ) (found : Option (List ℕ × ℤ)) (visits last : ℕ) : Type 0 where
  -- it finds what the search alone finds, if that weighs more than the word
  pub best : pos last <ℤ (alone_from priced front floor).floor → IsKept (alone_from priced front floor) found
  -- nothing that it finds weighs more than the greater of the two
  pub light : MatchOption found (Unit {0}) (λ (counts, weight). weight ≤ℤ int_max (alone_from priced front floor).floor (pos last))
  -- it makes at most the visits of a search alone with no higher floor
  pub few : (u : ℤ) → u ≤ℤ floor → visits ≤ (alone_from priced front u).visits

-- the answer of the search below a front that shares a word: at most `nodes` visits; or the budget is spent, which comes only if a search
-- alone with no higher floor exceeds it. Running out of memory is allowed at any time
abbrev pub AnswersShared : Priced → List ℕ → ℤ → ℕ → Result (Option (List ℕ × ℤ) × ℕ) SearchStop → ℕ → Type 0
AnswersShared priced front floor nodes (Ok (found, visits)) last = IsShared priced front floor found visits last × (visits ≤ nodes)
AnswersShared priced front floor nodes (Err Spent) last = (u : ℤ) → u ≤ℤ floor → nodes < (alone_from priced front u).visits
AnswersShared priced front floor nodes (Err OutOfMemory) last = Unit {0}
