use Rattle.std.proofs.Common.{◌∙◌, ◌||◌, sym, ap, not, arith}
use Rattle.check_search.specs.Likeness.{is_alike as alike}
use Rattle.define_searches.proofs.ByClass.{any_true}
use Rattle.define_searches.proofs.Filters.{any_next}
use Rattle.check_search.proofs.grouping.leads.Goals as goal

pub returns-then-are_alike : goal.returns-then-are_alike
returns-then-are_alike c =
    ap not (sym (any_true (λ j. alike c.args.likeness.now j c.args.i) 0 c.args.i c.loop-j.j (omega arith) (omega (arith, c.loop-j-test.true)) (sym c.are_alike.ensures ∙ c.if-are_alike.true)))

pub loop-j-preserved : goal.loop-j-preserved
loop-j-preserved c =
    any_next (λ j. alike c.args.likeness.now j c.args.i) c.loop-j.j ∙ ap (λ b. b || alike c.args.likeness.now c.loop-j.j c.args.i) c.loop-j.invariant ∙ sym c.are_alike.ensures ∙ c.if-are_alike.false
