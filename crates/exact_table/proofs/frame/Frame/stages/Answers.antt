use Rattle.std.proofs.Common.{length, sym, ap, ◌∙◌}
use Rattle.std.proofs.lemmas.List.FromFn.{length-map-range_with_len}
use Rattle.exact_table.specs.Marks.{unsettled_before}
use Rattle.exact_table.proofs.frame.Frame.stages.Goals as goal

pub returns : goal.returns
returns c = sym (length-map-range_with_len (unsettled_before c.self.inside.settled_at.items) 0 c.self.inside.stages) ∙ ap (λ table. length table.stages) c.self.view_is
