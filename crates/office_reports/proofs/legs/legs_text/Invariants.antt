use Rattle.std.proofs.Common.{◌≡◌, map, string_bytes, take}
use Rattle.std.specs.Prelude.{sum_by}
use Rattle.define_lines.specs.Lines.{text_of}
use Rattle.define_legs.specs.LegTexts.{leg_line}
use Rattle.define_legs.specs.Legs.{leg_bases}
use Rattle.office_reports.specs.Bounds.{TellsBound}
use Rattle.office_reports.proofs.legs.legs_text.Given as goal

-- the lines of the legs so far are written, and their bounds are added up
abbrev pub invariant-loop-leg : goal.invariant-loop-leg
invariant-loop-leg l = record {
  lines : string_bytes l.text ≡ text_of (map (leg_line l.classes) (take l.leg-index l.legs));
  total : TellsBound l.total (sum_by (leg_bases l.classes) (take l.leg-index l.legs));
}
