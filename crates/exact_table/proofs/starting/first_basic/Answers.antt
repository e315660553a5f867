use Rattle.std.proofs.Common.{◌≡◌, ℕ, ◌+◌, ◌∷◌, ◌++◌, [], map, ap, ◌∙◌, sym, arith}
use Rattle.std.specs.List.{range_with_len}
use Rattle.std.proofs.lemmas.List.FromFn.{map-range_with_len_more}
use Rattle.define_rows.specs.declared.Var.TheVariants.{Slack, Column}
use Rattle.exact_table.proofs.starting.first_basic.Goals as goal

more : (t : ℕ) → (Column 0 ∷ map Slack (range_with_len 0 t)) ++ Slack t ∷ [] ≡ Column 0 ∷ map Slack (range_with_len 0 (t + 1))
more t = ap (λ vs. Column 0 ∷ vs) (sym (map-range_with_len_more Slack 0 t t (omega arith)))

pub loop-class-preserved : goal.loop-class-preserved
loop-class-preserved c = c.in_ok-push-2.ensures.items ∙ ap (λ vs. vs ++ Slack c.loop-class.class ∷ []) c.loop-class.invariant ∙ more c.loop-class.class
