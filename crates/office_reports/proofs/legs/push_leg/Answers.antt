use Rattle.std.proofs.Common.{◌∷◌, [], ◌++◌, append_assoc, ap, ◌∙◌}
use Rattle.define_legs.specs.LegTexts.{bound_field}
use Rattle.define_legs.specs.Legs.{leg_bases}
use Rattle.define_lines.specs.Lines.{line_feed}
use Rattle.office_reports.proofs.LegLines.{on_ok}
use Rattle.office_reports.proofs.legs.push_leg.Goals as goal

pub returns : goal.returns
returns c =
    on_ok c.push_bound.result (λ told classes bounded.
    told (leg_bases classes c.args.leg.now) bounded
    ∙ ap (λ bytes. bytes ++ bound_field (leg_bases classes c.args.leg.now) ++ line_feed ∷ []) c.in_ok-write.ensures.bytes
    ∙ simp append_assoc
    ) c.push_bound.ensures
