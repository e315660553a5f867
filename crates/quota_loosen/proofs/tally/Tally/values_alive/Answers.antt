use Rattle.std.proofs.Common.{List, ℕ, sym, ap, ◌∙◌}
use Rattle.std.specs.List.{enumerate_from, list_all}
use Rattle.std.proofs.lemmas.Bool.{le-leb}
use Rattle.define_searches.specs.declared.Bounds.{Bounds}
use Rattle.quota_loosen.proofs.Liveness.{few_in_all, few_in_cells}
use Rattle.quota_loosen.specs.Sums.{are_few}
use Rattle.quota_loosen.proofs.tally.Tally.values_alive.Goals as goal

pub returns-then-self-le-MAX_BOUND : goal.returns-then-self-le-MAX_BOUND
returns-then-self-le-MAX_BOUND c =
    le-leb c.args.self.now.taken 999 c.if-self-le-MAX_BOUND.true ∙ sym (few_in_all c.args.classes.now c.args.front.now _ c.requires.stands c.if-self-le-MAX_BOUND.true)

pub returns-else-self-le-MAX_BOUND : goal.returns-else-self-le-MAX_BOUND
returns-else-self-le-MAX_BOUND c =
    c.hold_few.ensures
    ∙ ap (λ (bounds : List (List Bounds)). list_all (λ (k, values). are_few values c.deref.result.now k) (enumerate_from 0 bounds)) c.bounds.ensures
    ∙ ap (λ (held : List ℕ). list_all (λ (k, values). are_few values held k) (enumerate_from 0 c.args.classes.now.bounds)) c.deref.ensures.value
    ∙ few_in_cells c.args.classes.now c.args.front.now _ c.facts.ensures c.requires.stands
