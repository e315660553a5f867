use Rattle.std.proofs.Common.{◌≡◌, cond, length, ap, ◌∙◌, arith}
use Rattle.define_searches.proofs.Tracking.{most_small}
use Rattle.panel_search.specs.Groups.{is_in_group}
use Rattle.panel_search.proofs.Counted.{category_same, given_end, given_more}
use Rattle.panel_search.proofs.counting.given.Goals as goal

pub share-given-requires : goal.share-given-requires
share-given-requires c = category_same _ _ c.args.group c.class_at-class.ensures.places.one_each c.requires.group

pub overflow_add-given : goal.overflow_add-given
overflow_add-given c =
    let all = c.args.classes.now in let i = c.loop-i.i in let p = is_in_group c.args.group in let class = c.class_at-class.result.now in
    let part : c.share-given.result ≡ cond (p class) class.most 0 = c.share-given.ensures ∙ ap (λ most. cond (p class) most 0) c.most.ensures in
    omega (arith, c.loop-i.invariant, given_more all i class p c.class_at-class.ensures.stands, most_small all c.args.place p c.facts.ensures)

pub loop-i-preserved : goal.loop-i-preserved
loop-i-preserved c =
    let all = c.args.classes.now in let i = c.loop-i.i in let p = is_in_group c.args.group in let class = c.class_at-class.result.now in
    let part : c.share-given.result ≡ cond (p class) class.most 0 = c.share-given.ensures ∙ ap (λ most. cond (p class) most 0) c.most.ensures in
    omega (arith, c.loop-i.invariant, given_more all i class p c.class_at-class.ensures.stands)

pub returns : goal.returns
returns c =
    let all = c.args.classes.now in
    omega (arith, c.loop-i.invariant, given_end all c.loop-i.i (is_in_group c.args.group) (omega (arith, c.loop-i-test.false, ap length c.classes-i-end.ensures)))
