use Rattle.std.proofs.Common.{◌+◌, sym, arith}
use Rattle.define_searches.proofs.FirstSearch.{taken_none}
use Rattle.panel_search.specs.Groups.{is_in_group}
use Rattle.panel_search.proofs.Counted.{category_same, taken_more_of, taken_small}
use Rattle.panel_search.proofs.counting.taken.Goals as goal

pub loop-place-init : goal.loop-place-init
loop-place-init c = sym (taken_none (is_in_group c.args.group) c.args.classes.now.classes)

pub share-taken-requires : goal.share-taken-requires
share-taken-requires c = category_same _ _ c.args.group c.class_at.ensures.places.one_each c.requires.group

pub overflow_add-taken : goal.overflow_add-taken
overflow_add-taken c =
    let all = c.args.classes.now in let front = c.args.front.now in let place = c.loop-place.place in
    let below = c.loop-place-test.true in
    let small = taken_small all front (place + 1) (is_in_group c.args.group) c.facts.ensures c.requires.counts (omega arith) in
    omega (arith, small, c.loop-place.invariant, c.share-taken.ensures, taken_more_of all front place c.class_at.result.now (is_in_group c.args.group) c.class_at.ensures.stands below)

pub loop-place-preserved : goal.loop-place-preserved
loop-place-preserved c =
    omega (
      arith,
      c.loop-place.invariant,
      c.share-taken.ensures,
      taken_more_of c.args.classes.now c.args.front.now c.loop-place.place c.class_at.result.now (is_in_group c.args.group) c.class_at.ensures.stands c.loop-place-test.true,
    )
