use Rattle.std.proofs.Common.{◌≡◌, ◌+◌, length, sym, subst, arith}
use Rattle.define_bundles.specs.Ranges.{is_stage}
use Rattle.define_searches.proofs.Contained.{first_pass}
use Rattle.cover_cert.proofs.MadeTrees.{Grows, all_in_ranges, all_searched, cap_holds, no_tree, ranges_kept, tree_more}
use Rattle.cover_cert.proofs.making.trees_of.Goals as goal

pub loop-k-init : goal.loop-k-init
loop-k-init c = subst (Grows c.args.pool.now c.args.stages.now 0) (sym c.new-trees.ensures.items) (no_tree c.args.pool.now c.args.stages.now c.requires.capped)

pub tree_of-requires-clause-earlier : goal.tree_of-requires-clause-earlier
tree_of-requires-clause-earlier c = first_pass (is_stage (length c.args.pool.now.volunteers)) c.loop-k.k c.args.stages.now c.requires.ranges

pub tree_of-requires-clause-capped : goal.tree_of-requires-clause-capped
tree_of-requires-clause-capped c =
    cap_holds c.args.pool.now c.args.stages.now c.loop-k.k c.index-stages-k.result c.loop-k-test.true c.index-stages-k.is c.loop-k.trees.items c.loop-k.invariant

pub loop-k-preserved : goal.loop-k-preserved
loop-k-preserved c =
    let pool = c.args.pool.now in let stages = c.args.stages.now in let k = c.loop-k.k in let stage = c.index-stages-k.result in
    let ranges = ranges_kept pool stages k stage c.loop-k-test.true c.index-stages-k.is c.facts.ensures c.in_ok-tree.tree c.in_ok-tree.ensures in
    subst (Grows pool stages (k + 1)) (sym c.in_ok-push.ensures.items)
    (tree_more pool stages k stage c.loop-k-test.true c.index-stages-k.is c.loop-k.trees.items c.in_ok-tree.tree c.loop-k.invariant c.in_ok-tree.ensures ranges)

pub returns-clause-searched : goal.returns-clause-searched
returns-clause-searched c =
    let pool = c.args.pool.now in let stages = c.args.stages.now in
    let all : c.loop-k.k ≡ length stages = omega (arith, c.loop-k-test.false, c.loop-k.auto.k-end) in
    all_searched pool stages c.loop-k.trees.items (subst (λ k. Grows pool stages k c.loop-k.trees.items) all c.loop-k.invariant)

pub returns-clause-in_ranges : goal.returns-clause-in_ranges
returns-clause-in_ranges c =
    let pool = c.args.pool.now in let stages = c.args.stages.now in
    let all : c.loop-k.k ≡ length stages = omega (arith, c.loop-k-test.false, c.loop-k.auto.k-end) in
    all_in_ranges pool stages c.loop-k.trees.items (subst (λ k. Grows pool stages k c.loop-k.trees.items) all c.loop-k.invariant)
