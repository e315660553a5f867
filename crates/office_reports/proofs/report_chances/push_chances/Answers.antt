use Rattle.std.proofs.Common.{◌≡◌, ℕ, ◌<◌, ◌≤ℤ◌, ◌++◌, ◌∷◌, [], List, length, get_or, map, ℤ, pos, unsigned_abs, FitsSigned, to_z, of_z, ap, sym, ◌∙◌, arith, rules, subst}
use Rattle.std.specs.Int.{w128}
use Rattle.std.proofs.lemmas.Int.{ints, to_z-of_z}
use Rattle.std.proofs.lemmas.List.{get_or_read, length-map}
use Rattle.std.proofs.lemmas.List.FromFn.{length-map-range_with_len}
use Rattle.frac128.specs.Fractions.{lowest_of}
use Rattle.define_lines.specs.Lines.{text_of}
use Rattle.define_pools.specs.Lottery.{Lottery, count, counts}
use Rattle.define_pools.specs.Pool.{Pool, Volunteer}
use Rattle.define_offices.specs.Report.{chance_line}
use Rattle.define_offices.proofs.VolunteerSteps.{chance_added, count_read}
use Rattle.office_reports.proofs.report_chances.push_chances.Goals as goal

-- there is a count for each volunteer
as_many : (pool : Pool) (lottery : Lottery) (all : List ℤ) → all ≡ map pos (counts pool lottery) → length all ≡ length pool.volunteers
as_many pool lottery all e = ap length e ∙ length-map (counts pool lottery) pos ∙ length-map-range_with_len (count lottery) 0 (length pool.volunteers)

natural : (n : ℤ) (k : ℕ) → n ≡ pos k → pos 0 ≤ℤ n
natural n k e = subst (λ z. pos 0 ≤ℤ z) (sym e) (omega (arith, ints))

pub index-requires : goal.index-requires
index-requires c =
    let pool = c.args.pool.now in
    let items : length c.volunteers-volunteer-items.result.now ≡ length pool.volunteers = ap length c.volunteers-volunteer-items.ensures in
    let size = as_many pool c.args.lottery.now c.in_ok-counts.counts.items c.in_ok-counts.ensures in
    omega arith

pub push_chance-requires-clause-count : goal.push_chance-requires-clause-count
push_chance-requires-clause-count c =
    let pool = c.args.pool.now in
    let i = c.loop-i.i in
    let v = c.volunteer-item.result in
    let all = c.in_ok-counts.counts.items in
    let items : length c.volunteers-volunteer-items.result.now ≡ length pool.volunteers = ap length c.volunteers-volunteer-items.ensures in
    let inside : i < length pool.volunteers = omega arith in
    let read : v ≡ get_or pool.volunteers i v = c.volunteer-item.is ∙ ap (λ (vs : List Volunteer). get_or vs i v) c.volunteers-volunteer-items.ensures in
    let size = as_many pool c.args.lottery.now all c.in_ok-counts.ensures in
    let within : i < length all = omega arith in
    let fits : FitsSigned w128 c.index.result.now = search rules in
    let n_is = count_read pool i v inside read c.args.lottery.now all c.index.result.now c.in_ok-counts.ensures (get_or_read all i c.index.result.now within c.index.ensures (pos 0)) in
    natural (to_z w128 (of_z w128 c.index.result.now)) (count c.args.lottery.now i) (to_z-of_z w128 c.index.result.now fits ∙ n_is)

pub loop-i-preserved : goal.loop-i-preserved
loop-i-preserved c =
    let pool = c.args.pool.now in
    let lottery = c.args.lottery.now in
    let i = c.loop-i.i in
    let v = c.volunteer-item.result in
    let all = c.in_ok-counts.counts.items in
    let items : length c.volunteers-volunteer-items.result.now ≡ length pool.volunteers = ap length c.volunteers-volunteer-items.ensures in
    let inside : i < length pool.volunteers = omega arith in
    let read : v ≡ get_or pool.volunteers i v = c.volunteer-item.is ∙ ap (λ (vs : List Volunteer). get_or vs i v) c.volunteers-volunteer-items.ensures in
    let size = as_many pool lottery all c.in_ok-counts.ensures in
    let within : i < length all = omega arith in
    let fits : FitsSigned w128 c.index.result.now = search rules in
    let fits_total : FitsSigned w128 c.total.result = search rules in
    let n = to_z w128 (of_z w128 c.index.result.now) in
    let d = to_z w128 (of_z w128 c.total.result) in
    let n_is = to_z-of_z w128 c.index.result.now fits ∙ count_read pool i v inside read lottery all c.index.result.now c.in_ok-counts.ensures (get_or_read all i c.index.result.now within c.index.ensures (pos 0)) in
    let d_is = to_z-of_z w128 c.total.result fits_total ∙ c.total.ensures in
    let before = c.loop-i.text.items in
    let added : c.push_chance.new.text.items ≡ before ++ text_of (chance_line v.id (lowest_of (unsigned_abs n) (unsigned_abs d)) ∷ []) =
    c.in_ok-push_chance.ensures ∙ ap (λ id. before ++ text_of (chance_line id (lowest_of (unsigned_abs n) (unsigned_abs d)) ∷ [])) c.id.ensures in
    chance_added pool i v inside read lottery c.args.text.now.items before c.push_chance.new.text.items n d n_is d_is c.loop-i.invariant added
