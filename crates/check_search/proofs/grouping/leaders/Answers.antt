use Rattle.std.proofs.Common.{◌∙◌, ℕ, Bool, not, [], ◌∷◌, ◌++◌, List, Vec, Global, sym, ap}
use Rattle.std.specs.List.{list_any, range_with_len}
use Rattle.define_pools.proofs.Lists.{filter_passed, filter_taken}
use Rattle.check_search.specs.Likeness.{is_alike as alike}
use Rattle.check_search.proofs.grouping.leaders.Goals.{then-leads+in_ok-push, else-leads}
use Rattle.check_search.proofs.grouping.leaders.Goals as goal

pub loop-i-preserved : goal.loop-i-preserved
loop-i-preserved c =
    let leads : ℕ → Bool = λ i. not (list_any (λ j. alike c.args.likeness.now j i) (range_with_len 0 i)) in
    elim c.if-leads.branch [
      | then-leads+in_ok-push w ↦
          ap (λ (found : Vec ℕ Global). found.items) w.found-is ∙ w.in_ok-push.ensures.items ∙ ap (λ (items : List ℕ). items ++ c.loop-i.i ∷ []) c.loop-i.invariant
          ∙ sym (filter_taken leads c.loop-i.i (sym w.if-leads.ensures))
      | else-leads w ↦
          ap (λ (found : Vec ℕ Global). found.items) w.found-is ∙ c.loop-i.invariant ∙ sym (filter_passed leads c.loop-i.i (sym w.if-leads.ensures))
    ]
