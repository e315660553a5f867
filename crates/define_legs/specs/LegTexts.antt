-- The text that tells a run's legs: a line for each leg, and a line for the bound of all its pivots. Builds on Legs, and on Lines of
-- `define_lines`. `office_reports` writes it for the command `legs`.
use Rattle.std.specs.Prelude.{ℕ, ◌^◌, nat_le, if◌then◌else◌, List, [], ◌∷◌, ◌++◌, codes, map, sum_by}
use Rattle.std.specs.Fmt.{decimal}
use Rattle.define_lines.specs.Lines.{line_of, text_of}
use Rattle.define_legs.specs.declared.Leg.{Leg}
use Rattle.define_legs.specs.Legs.{leg_bases}

-- a bound: the number, or a word if it is above 10^38
abbrev pub bound_field : ℕ → List ℕ
bound_field bound = if nat_le bound (10 ^ 38) then decimal bound else codes "above"

-- a leg: its stage variables, its columns, its pivots, and how many sets of variables could be basic in it
abbrev pub leg_line : ℕ → Leg → List ℕ
leg_line classes leg = line_of (codes "leg" ∷ decimal leg.stages ∷ decimal leg.columns ∷ decimal leg.pivots ∷ bound_field (leg_bases classes leg) ∷ [])

-- the sum of these numbers over all legs
abbrev pub bound_line : ℕ → List Leg → List ℕ
bound_line classes legs = line_of (codes "bound" ∷ bound_field (sum_by (leg_bases classes) legs) ∷ [])

-- the text of the legs of a run over `classes` classes
abbrev pub legs_text : ℕ → List Leg → List ℕ
legs_text classes legs = text_of (map (leg_line classes) legs ++ bound_line classes legs ∷ [])
