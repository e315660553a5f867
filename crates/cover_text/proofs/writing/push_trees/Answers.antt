use Rattle.std.proofs.Common.{◌≡◌, ◌+◌, ◌++◌, take, ap, ◌∙◌}
use Rattle.define_lines.specs.Lines.{text_of}
use Rattle.define_covers.specs.CoverText.{tree_lines, trees_from}
use Rattle.cover_text.proofs.Texts.{one_tree_more}
use Rattle.cover_text.proofs.writing.push_trees.Goals as goal

pub loop-i-preserved : goal.loop-i-preserved
loop-i-preserved c =
    let text = c.args.text.now.items in
    let trees = c.args.trees.now in
    let i = c.loop-i.i in
    let lines = c.index-trees-i.result in
    let so_far : c.loop-i.text.items ≡ text ++ text_of (trees_from 1 (take i trees)) = c.loop-i.invariant in
    let pushed : c.push_tree.new.text.items ≡ c.loop-i.text.items ++ text_of (tree_lines (i + 1) lines) = c.in_ok-push_tree.ensures in
    pushed
    ∙ ap (λ before. before ++ text_of (tree_lines (i + 1) lines)) so_far
    ∙ ap (λ tree. (text ++ text_of (trees_from 1 (take i trees))) ++ text_of (tree_lines (i + 1) tree)) c.index-trees-i.is
    ∙ one_tree_more text trees i lines c.loop-i-test.true
