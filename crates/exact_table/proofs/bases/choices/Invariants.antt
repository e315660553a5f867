use Rattle.std.proofs.Common.{◌≡◌, ◌≤◌, ◌+◌, ◌^◌}
use Rattle.define_rows.specs.Binomials.{binomial}
use Rattle.exact_table.proofs.bases.choices.Given as goal

-- the ways to choose as many things as there were turns, and as many fewer things
abbrev pub invariant-loop-chosen : goal.invariant-loop-chosen
invariant-loop-chosen l = record {
  so_far : l.ways ≡ binomial (l.rest + l.chosen) l.chosen;
  within : l.ways ≤ 10 ^ 38;
}
