use Rattle.std.proofs.Common.{◌<◌, Some}
use Rattle.std.proofs.lemmas.List.Elements.{All-pop, All-push, All-same}
use Rattle.prove_branching.specs.declared.path.Branch.{Branch}
use Rattle.prove_branching.proofs.path.SearchPath.turn.Goals as goal

pub invariant_of-self-then-not-branch : goal.invariant_of-self-then-not-branch
invariant_of-self-then-not-branch c =
    let popped = All-pop (λ (branch : Branch). branch.column < c.back.self-inside.spans.len) c.back.self-inside.branches.items c.pop.new.self.items (Some c.in-Some.branch) c.in-Some.ensures.items c.back.invariant.within in
    All-same (λ (branch : Branch). branch.column < c.back.self-inside.spans.len) c.push.new.self.items _ c.in_ok-push.ensures.items
    (All-push (λ (branch : Branch). branch.column < c.back.self-inside.spans.len) c.pop.new.self.items _ popped.0 popped.1)

pub back-preserved : goal.back-preserved
back-preserved c =
    let popped = All-pop (λ (branch : Branch). branch.column < c.back.self-inside.spans.len) c.back.self-inside.branches.items c.pop.new.self.items (Some c.in-Some.branch) c.in-Some.ensures.items c.back.invariant.within in
    record { columns = c.back.invariant.columns; within = popped.0 }
