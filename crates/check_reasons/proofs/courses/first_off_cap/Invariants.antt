use Rattle.std.proofs.Common.{◌≡◌, not, map, None, take}
use Rattle.std.specs.List.{find}
use Rattle.std.specs.Ordering.{int_eq}
use Rattle.define_pools.specs.Certificate.{panel_weight as panel_weight_of}
use Rattle.check_reasons.proofs.courses.first_off_cap.Given as goal

-- each panel read so far weighs the cap
abbrev pub invariant-loop-row : goal.invariant-loop-row
invariant-loop-row l = find (λ panel. not (int_eq (panel_weight_of l.stage panel) l.stage.cap)) (map (λ row. row.panel) (take l.row-index l.rows)) ≡ None
