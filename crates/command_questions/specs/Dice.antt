-- What `dice` prints: what those who throw the dice must know of a bundle. Builds on the decimals of `bundle_page`, and the dice of
-- `define_draws`.
use Rattle.std.specs.Prelude.{ℕ, ◌*◌, ◌-◌, ◌^◌, List, [], ◌∷◌, codes}
use Rattle.frac128.specs.Fractions.{fraction_text, lowest_of}
use Rattle.define_bundles.specs.BundleText.{Bundle}
use Rattle.define_draws.specs.Dice.{group_size, groups_per_ticket}
use Rattle.define_lines.specs.Lines.{line_of}
use Rattle.define_made_pools.specs.Summary.{number_line}
use Rattle.bundle_page.specs.Decimals.{fixed_point}

-- how many groups of digits aren't accepted
abbrev pub refused_groups : ℕ → ℕ
refused_groups total = 10 ^ group_size total - total * groups_per_ticket total

-- which part of the groups isn't accepted, in lowest terms and as an exact decimal: if such a group is thrown, it is thrown again
abbrev pub refused_line : ℕ → List ℕ
refused_line total =
    line_of (codes "refused" ∷ fraction_text (lowest_of (refused_groups total) (10 ^ group_size total))
    ∷ fixed_point (group_size total) (refused_groups total) ∷ [])

-- the lines for a number of tickets
abbrev pub lines_for_tickets : ℕ → List (List ℕ)
lines_for_tickets total =
    number_line (codes "digits") (group_size total)
    ∷ number_line (codes "tickets") total
    ∷ refused_line total
    ∷ []

-- how many digits a group has, how many tickets there are, and which part of the groups isn't accepted
abbrev pub dice_lines : Bundle → List (List ℕ)
dice_lines bundle = lines_for_tickets bundle.answer.lottery.total
