use Rattle.std.proofs.Common.{◌≡◌, ◌+◌, true, List, [], get_or, ◌∙◌, sym, ap, subst, arith}
use Rattle.std.specs.List.{list_all}
use Rattle.std.proofs.lemmas.Bool.{false_from_ne_true, false≢true}
use Rattle.define_pools.proofs.Each.{enumerated-each, list_all-enumerated}
use Rattle.define_covers.specs.Covers.{FrontLine}
use Rattle.define_covers.specs.CoverRanges.{is_front_line}
use Rattle.define_covers.specs.CoverText.{keep_ranges}
use Rattle.cover_text.proofs.ranges.are_trees.Goals as goal

pub returns-then-not-is_tree : goal.returns-then-not-is_tree
returns-then-not-is_tree c =
    let pool = c.args.pool.now in
    let trees : List (List FrontLine) = c.args.trees.now in
    let i = c.loop-i.i in
    let fails = sym c.is_tree.ensures ∙ c.if-not-is_tree.true in
    sym (false_from_ne_true (keep_ranges pool 0 trees) (λ all.
    let here : list_all (is_front_line pool ((0 + i) + 1)) (get_or trees i c.index-trees-i.result) ≡ true = enumerated-each (λ (i, lines). list_all (is_front_line pool (i + 1)) lines) 0 trees all i c.index-trees-i.result c.loop-i-test.true in
    let zero : 0 + i ≡ i = omega arith in
    let same : c.lines.result.now ≡ get_or trees i c.index-trees-i.result = c.lines.ensures ∙ c.index-trees-i.is in
    false≢true (sym fails ∙ ap (list_all (is_front_line pool (i + 1))) same ∙ subst (λ n. list_all (is_front_line pool (n + 1)) (get_or trees i c.index-trees-i.result) ≡ true) zero here)))

pub returns : goal.returns
returns c =
    let pool = c.args.pool.now in
    let trees : List (List FrontLine) = c.args.trees.now in
    let done = c.loop-i-test.false in
    sym (list_all-enumerated (λ (i, lines). list_all (is_front_line pool (i + 1)) lines) 0 trees []
    (λ k l. let zero : k ≡ 0 + k = omega arith in subst (λ n. list_all (is_front_line pool (n + 1)) (get_or trees k []) ≡ true) zero (c.loop-i.invariant k (omega (arith, done, l)))))
