-- What the search below a front answers that shares a word.
use Rattle.std.proofs.Common.{◌≡◌, ℕ, List, ℤ, pos, Option, Some, None, refl, sym, ap, ◌∙◌, arith}
use Rattle.std.specs.Prelude.{◌≤ℤ◌, MatchOption}
use Rattle.std.specs.Int.{int_max}
use Rattle.std.proofs.lemmas.Int.{ints, clamps}
use Rattle.define_searches.specs.Fronts.{later_than}
use Rattle.define_searches.specs.Visits.{Pricing}
use Rattle.define_searches.specs.Below.{child_best}
use Rattle.panel_search.specs.Answers.{IsKept}
use Rattle.panel_search.specs.Pricers.{Priced}
use Rattle.panel_search.specs.Sharing.{IsBounded, IsShared, MayStand, Shares, alone_from, begun_at}
use Rattle.panel_search.proofs.SharedSearches.{after_load}

-- a search begins with the greatest word that its worker has loaded
pub begins_higher : (priced : Priced) (floor : ℤ) (seen : ℕ) → pos 0 ≤ℤ floor → MayStand priced seen → Shares priced (λ now. now) (begun_at floor) 0 (begun_at (int_max floor (pos seen))) seen
begins_higher priced floor seen positive stands = after_load priced (begun_at floor) (begun_at (int_max floor (pos seen))) 0 seen (omega arith) stands positive refl refl (λ e. refl)

pub bounded_higher : (priced : Priced) (floor : ℤ) (seen : ℕ) → IsBounded priced floor 0 → MayStand priced seen → IsBounded priced (int_max floor (pos seen)) seen
bounded_higher priced floor seen bounded stands = record {
  above = let above = bounded.above in omega (arith, ints, clamps);
  no_less = omega (arith, ints, clamps);
  stands = stands;
}

kept_by : (one other : Pricing) (found : Option (List ℕ × ℤ)) → one.kept ≡ other.kept → one.floor ≡ other.floor → IsKept one found → IsKept other found
kept_by one other None e f kept = sym e ∙ kept
kept_by one other (Some (counts, weight)) e f kept = (sym e ∙ kept.0, kept.1 ∙ f)

-- the search below a front, from any state
abbrev pub from_front_on : Priced → List ℕ → Pricing → Pricing
from_front_on priced front now = child_best priced.classes priced.closed priced.row (later_than front priced.classes.classes) front now

-- the answer of a whole search
pub is_shared : (scope priced : Priced) (front : List ℕ) (floor : ℤ) (after : Pricing) (last : ℕ) (found : Option (List ℕ × ℤ)) (visits : ℕ) → Shares scope (from_front_on priced front) (begun_at floor) 0 after last →
    IsKept after found → visits ≡ after.visits → IsShared priced front floor found visits last
is_shared scope priced front floor after last found visits shares kept e = record {
  best = λ lt. kept_by after (alone_from priced front floor) found (shares.kept lt) (let floor = shares.floor in omega (arith, ints, clamps)) kept;
  light = by found kept;
  few = λ u under. let few = shares.few u under in omega (arith, e, few);
}
  where
    by : (found : Option (List ℕ × ℤ)) → IsKept after found → MatchOption found (Unit {0}) (λ (counts, weight). weight ≤ℤ int_max (alone_from priced front floor).floor (pos last))
    by None kept = tt
    by (Some (counts, weight)) kept = let same = kept.1 in let floor = shares.floor in omega (arith, ints)

pub begun_same : (now : Pricing) (x y : ℤ) → now ≡ begun_at x → x ≡ y → now ≡ begun_at y
begun_same now x y e f = e ∙ ap begun_at f
