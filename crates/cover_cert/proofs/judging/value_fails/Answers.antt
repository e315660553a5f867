use Rattle.std.proofs.Common.{◌≡◌, ℕ, ◌+◌, ◌-◌, ◌≤◌, ◌<◌, not, List, [], ◌∷◌, drop, get_or, length, arith, sym, ap, ◌∙◌}
use Rattle.std.specs.Prelude.{slice_get, slice_index_or}
use Rattle.std.proofs.lemmas.List.{drop_more, get_or_default}
use Rattle.std.proofs.lemmas.Option.{slice_get-get_or}
use Rattle.define_searches.specs.declared.Bounds.{Bounds}
use Rattle.define_searches.specs.Fronts.{value_reachable}
use Rattle.define_covers.specs.Causes.{all_values}
use Rattle.define_searches.proofs.WeightLaws.{within_few}
use Rattle.define_covers.proofs.Numbered.{fails_from, here_fails, later_fails, none_before}
use Rattle.cover_cert.proofs.judging.value_fails.Goals as goal

-- the values of a category come before those of the later categories
values_here : (bounds read : List (List Bounds)) (category : ℕ) (values : List Bounds) → category < length bounds → read ≡ bounds → values ≡ get_or read category values → drop category bounds ≡ values ∷ drop (category + 1) bounds
values_here bounds read category values below e is =
    drop_more bounds category values below ∙ ap (λ it. it ∷ drop (category + 1) bounds) (sym (is ∙ ap (λ (bs : List (List Bounds)). get_or bs category values) e))

read_here : (bounds read : List (List Bounds)) (category : ℕ) (values : List Bounds) → category < length bounds → read ≡ bounds → values ≡ get_or read category values → slice_index_or bounds category [] ≡ values
read_here bounds read category values below e is =
    sym (is ∙ ap (λ (bs : List (List Bounds)). get_or bs category values) e ∙ get_or_default bounds category values [] below)

pub returns-then-number-eq0 : goal.returns-then-number-eq0
returns-then-number-eq0 c =
    let all = c.args.classes.now in let front = c.args.front.now in
    sym (none_before (λ value. not (value_reachable all front value.0 value.1)) c.args.number 1 (all_values all) (omega arith))

pub reaches_value-requires-clause-few : goal.reaches_value-requires-clause-few
reaches_value-requires-clause-few c = omega (arith, within_few c.args.classes.now c.args.front.now c.facts.ensures c.requires.within)

pub returns-then-place-count : goal.returns-then-place-count
returns-then-place-count c =
    let all = c.args.classes.now in let front = c.args.front.now in let number = c.args.number in
    let category = c.loop-category.category in let place = c.loop-category.place in
    let values = c.index-bounds-category.result in
    let none : Bounds = record { lower = 0; upper = 0 } in
    let before = c.loop-category.invariant.below in
    let below : category < length all.bounds = omega (arith, c.loop-category-test.true, ap (λ (bs : List (List Bounds)). length bs) c.bounds-category-end.ensures) in
    let within : place < length values = omega (arith, c.if-place-count.true, ap (λ (vs : List Bounds). length vs) c.as_slice-count.ensures) in
    let at = slice_get-get_or values place none within in
    let read = read_here all.bounds c.bounds.result.now category values below c.bounds.ensures c.index-bounds-category.is in
    ap not (c.reaches_value.ensures (get_or values place none) (ap (λ (vs : List Bounds). slice_get vs place) read ∙ at))
    ∙ sym (here_fails all front number (number - place) category place values (drop (category + 1) all.bounds) (get_or values place none) (omega arith) at within)
    ∙ sym (ap (fails_from all front number (number - place) category) (values_here all.bounds c.bounds.result.now category values below c.bounds.ensures c.index-bounds-category.is))
    ∙ sym c.loop-category.invariant.same

pub loop-category-preserved : goal.loop-category-preserved
loop-category-preserved c =
    let all = c.args.classes.now in let front = c.args.front.now in let number = c.args.number in
    let category = c.loop-category.category in let place = c.loop-category.place in
    let values = c.index-bounds-category.result in
    let before = c.loop-category.invariant.below in
    let size : length c.as_slice-count.result.now ≡ length values = ap (λ (vs : List Bounds). length vs) c.as_slice-count.ensures in
    let few : length values ≤ place = omega (arith, c.if-place-count.false, size) in
    let below : category < length all.bounds = omega (arith, c.loop-category-test.true, ap (λ (bs : List (List Bounds)). length bs) c.bounds-category-end.ensures) in
    let next : number - place + length values ≡ number - (place - length c.as_slice-count.result.now) = omega (arith, size, few, before) in
    record {
      below = omega (arith, before);
      same = c.loop-category.invariant.same
          ∙ ap (fails_from all front number (number - place) category) (values_here all.bounds c.bounds.result.now category values below c.bounds.ensures c.index-bounds-category.is)
          ∙ later_fails all front number (number - place) category values (drop (category + 1) all.bounds) (omega (arith, few, before))
          ∙ ap (λ n. fails_from all front number n (category + 1) (drop (category + 1) all.bounds)) next;
    }
