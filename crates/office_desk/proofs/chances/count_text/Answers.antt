use Rattle.std.proofs.Common.{◌≡◌, ℕ, ◌+◌, ◌<◌, ◌≤ℤ◌, List, length, get_or, map, ℤ, pos, unsigned_abs, FitsSigned, to_z, of_z, ap, subst, sym, ◌∙◌, arith, rules}
use Rattle.std.specs.Int.{w128}
use Rattle.std.proofs.Math.ListN.{get_or-map as read_mapped}
use Rattle.std.proofs.lemmas.Int.{ints, to_z-of_z}
use Rattle.std.proofs.lemmas.List.{get_or_read, length-map}
use Rattle.std.proofs.lemmas.List.FromFn.{get_or-map-range_with_len, length-map-range_with_len}
use Rattle.std.proofs.lemmas.Result.{IfOk-weaker}
use Rattle.frac128.specs.Fractions.{fraction_text, lowest_of}
use Rattle.define_pools.specs.Lottery.{Lottery, count, counts}
use Rattle.define_pools.specs.Pool.{Pool}
use Rattle.office_desk.proofs.chances.count_text.Goals as goal

-- there is a count for each volunteer
as_many : (pool : Pool) (lottery : Lottery) (all : List ℤ) → all ≡ map pos (counts pool lottery) → length all ≡ length pool.volunteers
as_many pool lottery all e = ap length e ∙ length-map (counts pool lottery) pos ∙ length-map-range_with_len (count lottery) 0 (length pool.volunteers)

count_read : (pool : Pool) (lottery : Lottery) (all : List ℤ) (i : ℕ) (n : ℤ) → i < length pool.volunteers → all ≡ map pos (counts pool lottery) → n ≡ get_or all i (pos 0) → n ≡ pos (count lottery i)
count_read pool lottery all i n inside e r =
    let zero_on : 0 + i ≡ i = omega arith in
    r ∙ ap (λ zs. get_or zs i (pos 0)) e ∙ read_mapped pos (counts pool lottery) i 0
    ∙ ap pos (get_or-map-range_with_len (count lottery) 0 (length pool.volunteers) i i 0 inside zero_on)

natural : (n : ℤ) (k : ℕ) → n ≡ pos k → pos 0 ≤ℤ n
natural n k e = subst (λ z. pos 0 ≤ℤ z) (sym e) (omega (arith, ints))

pub index-requires : goal.index-requires
index-requires c =
    let size = as_many c.args.pool.now c.args.lottery.now c.in_ok-counts.counts.items c.in_ok-counts.ensures in
    let below = c.requires.below in omega arith

pub fraction_text-requires-clause-count : goal.fraction_text-requires-clause-count
fraction_text-requires-clause-count c =
    let pool = c.args.pool.now in
    let i = c.args.number in
    let all = c.in_ok-counts.counts.items in
    let size = as_many pool c.args.lottery.now all c.in_ok-counts.ensures in
    let below = c.requires.below in
    let within : i < length all = omega arith in
    let fits : FitsSigned w128 c.index.result.now = search rules in
    let n_is = count_read pool c.args.lottery.now all i c.index.result.now below c.in_ok-counts.ensures (get_or_read all i c.index.result.now within c.index.ensures (pos 0)) in
    natural (to_z w128 (of_z w128 c.index.result.now)) (count c.args.lottery.now i) (to_z-of_z w128 c.index.result.now fits ∙ n_is)

pub returns : goal.returns
returns c =
    let pool = c.args.pool.now in
    let lottery = c.args.lottery.now in
    let i = c.args.number in
    let all = c.in_ok-counts.counts.items in
    let size = as_many pool lottery all c.in_ok-counts.ensures in
    let below = c.requires.below in
    let within : i < length all = omega arith in
    let fits : FitsSigned w128 c.index.result.now = search rules in
    let fits_total : FitsSigned w128 c.total.result = search rules in
    let n = to_z w128 (of_z w128 c.index.result.now) in
    let d = to_z w128 (of_z w128 c.total.result) in
    let n_is : n ≡ pos (count lottery i) = to_z-of_z w128 c.index.result.now fits ∙ count_read pool lottery all i c.index.result.now below c.in_ok-counts.ensures (get_or_read all i c.index.result.now within c.index.ensures (pos 0)) in
    let d_is : d ≡ pos lottery.total = to_z-of_z w128 c.total.result fits_total ∙ c.total.ensures in
    IfOk-weaker c.fraction_text.result _ _
    (λ text is. is ∙ (ap (λ (z : ℤ). fraction_text (lowest_of (unsigned_abs z) (unsigned_abs d))) n_is ∙ ap (λ (z : ℤ). fraction_text (lowest_of (count lottery i) (unsigned_abs z))) d_is))
    c.fraction_text.ensures
