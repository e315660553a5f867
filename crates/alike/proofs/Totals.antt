-- The common total of the parts so far, and why the final total suits each part.
use Rattle.std.proofs.Common.{◌≡◌, ℕ, suc, ◌+◌, ◌*◌, ◌/◌, ◌≤◌, ◌<◌, List, ◌∷◌, drop, length, Err, get_or, sum_by, refl, sym, ap, ◌∙◌, arith}
use Rattle.std.specs.List.{All}
use Rattle.std.proofs.lemmas.Bool.{le-leb, lt-leb}
use Rattle.std.proofs.lemmas.List.Sums.{get_or-le-sum_by}
use Rattle.std.proofs.Math.Seq.{drop-cons}
use Rattle.frac128.specs.Divisors.{lcm_of}
use Rattle.frac128.specs.Fractions.{Fraction}
use Rattle.define_searches.specs.Classes.{Classes}
use Rattle.define_runs.specs.Spreading.{AreParts, IsCommonTotal, dial, greatest_total, total_from}
use Rattle.define_runs.proofs.PartsOfWhole.{sum_is_total}
use Rattle.alike.specs.Steps.{IsTotalOf}

cut_here : (parts : List (List ℕ × Fraction)) (place : ℕ) (part : List ℕ × Fraction) → place < length parts → part ≡ get_or parts place part → drop place parts ≡ part ∷ drop (suc place) parts
cut_here parts place part within at = drop-cons parts place part within ∙ ap (λ part. part ∷ drop (suc place) parts) (sym at)

-- let `next` be the least common multiple of `total` and what part `place` needs, and at most 10 ^ 38. If the total over all parts is that
-- from part `place` on, begun with `total`, it is also that from part `place + 1` on, begun with `next`
pub next_so_far : (all : Classes) (parts : List (List ℕ × Fraction)) (place total next : ℕ) (part : List ℕ × Fraction) → place < length parts → part ≡ get_or parts place part →
    lcm_of total (part.1.den * dial all part.0) ≤ greatest_total → next ≡ lcm_of total (part.1.den * dial all part.0) →
    total_from all 0 1 parts ≡ total_from all place total (drop place parts) → total_from all 0 1 parts ≡ total_from all (place + 1) next (drop (place + 1) parts)
next_so_far all parts place total next part within at low e so_far =
    let test = le-leb (lcm_of total (part.1.den * dial all part.0)) greatest_total low in
    let step : total_from all place total (part ∷ drop (suc place) parts) ≡ total_from all (place + 1) (lcm_of total (part.1.den * dial all part.0)) (drop (suc place) parts) = rw test refl in
    let more : suc place ≡ place + 1 = omega arith in
    so_far ∙ ap (total_from all place total) (cut_here parts place part within at) ∙ step
    ∙ ap (λ n. total_from all (place + 1) (lcm_of total (part.1.den * dial all part.0)) (drop n parts)) more
    ∙ ap (λ n. total_from all (place + 1) n (drop (place + 1) parts)) (sym e)

-- if the common total passes 10 ^ 38 at part `place`, the definition returns a `TotalPass` with this place, the common total of the parts
-- before it, and the denominator of this part's fraction
pub passes_here : (all : Classes) (parts : List (List ℕ × Fraction)) (place total : ℕ) (part : List ℕ × Fraction) → place < length parts → part ≡ get_or parts place part →
    greatest_total < lcm_of total (part.1.den * dial all part.0) → total_from all 0 1 parts ≡ total_from all place total (drop place parts) →
    total_from all 0 1 parts ≡ Err (record { place = place; total = total; den = part.1.den })
passes_here all parts place total part within at high so_far =
    let test = lt-leb (lcm_of total (part.1.den * dial all part.0)) greatest_total high in
    let stop : total_from all place total (part ∷ drop (suc place) parts) ≡ Err (record { place = place; total = total; den = part.1.den }) = rw test refl in
    so_far ∙ ap (total_from all place total) (cut_here parts place part within at) ∙ stop

-- the common total of all parts suits each part
pub total_of_each : (all : Classes) (parts : List (List ℕ × Fraction)) (total : ℕ) → AreParts all parts → IsCommonTotal all parts total → All (IsTotalOf all total) parts
total_of_each all parts total are common k d inside = record {
  some = common.positive;
  within = common.within;
  over = are.over k d inside;
  multiple = common.multiple k d inside;
  holds_part = holds_part parts k d inside (sum_is_total all parts total are common);
}
  where
    holds_part : (parts : List (List ℕ × Fraction)) (k : ℕ) (d : List ℕ × Fraction) → k < length parts → sum_by (λ part. part.1.num * (total / part.1.den)) parts ≡ total →
        (get_or parts k d).1.num * (total / (get_or parts k d).1.den) ≤ total
    holds_part parts k d inside e = let one = get_or-le-sum_by (λ part. part.1.num * (total / part.1.den)) parts k d inside in omega arith
