use Rattle.std.proofs.Common.{◌∙◌, ℕ, [], ◌∷◌, ◌++◌, List, Vec, Global, sym, ap}
use Rattle.define_pools.proofs.Lists.{filter_passed, filter_taken}
use Rattle.check_search.specs.Likeness.{is_alike as alike}
use Rattle.check_search.proofs.grouping.members.Goals.{then-are_alike+in_ok-push, else-are_alike}
use Rattle.check_search.proofs.grouping.members.Goals as goal

pub loop-i-preserved : goal.loop-i-preserved
loop-i-preserved c =
    let alike_leader = alike c.args.likeness.now c.args.leader in
    elim c.if-are_alike.branch [
      | then-are_alike+in_ok-push w ↦
          ap (λ (found : Vec ℕ Global). found.items) w.found-is ∙ w.in_ok-push.ensures.items ∙ ap (λ (items : List ℕ). items ++ c.loop-i.i ∷ []) c.loop-i.invariant
          ∙ sym (filter_taken alike_leader c.loop-i.i (sym w.if-are_alike.ensures))
      | else-are_alike w ↦
          ap (λ (found : Vec ℕ Global). found.items) w.found-is ∙ c.loop-i.invariant ∙ sym (filter_passed alike_leader c.loop-i.i (sym w.if-are_alike.ensures))
    ]
