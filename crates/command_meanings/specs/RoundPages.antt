-- The page of a round that is past `Open`: the title of its assembly, its number and its bundle, and, once it is drawn, the draw. Builds on
-- the pages of `bundle_page` and on `define_offices`. Steps and the contracts of `command_stores` cite it.
use Rattle.std.specs.Prelude.{ℕ, List, [], length, Option, Some, None, Result, Ok, Err}
use Rattle.bundle_page.specs.Page.{drawn_part, page_with, round_head}
use Rattle.define_bundles.specs.BundleText.{Bundle}
use Rattle.define_offices.specs.Commands.{Refusal, NoRound, WrongPhase}
use Rattle.define_draws.specs.Lines.{bundle_seal}
use Rattle.define_offices.specs.Pools.{drawn_lottery, drawn_of}
use Rattle.define_offices.specs.Tables.{Charter, Round, Open, Solved, Sealed, Drawn, Tables, bundle_of, named_round}
use Rattle.define_offices.specs.declared.Phase.TheVariants as phase

-- the title of the assembly. There is a charter if a round is past `Open`
abbrev pub title_of : Option Charter → List ℕ
title_of None = []
title_of (Some charter) = charter.title

-- the part about the draw of a round whose bundle has this seal. A round is drawn from all tickets of its lottery, or in the round number
-- of tickets that was kept with its seal. Later dropouts are in the report, not here
abbrev pub draw_of_round : Round → List ℕ → List ℕ
draw_of_round Open seal = []
draw_of_round (Solved bundle) seal = []
draw_of_round (Sealed bundle tickets) seal = []
draw_of_round (Drawn bundle tickets digits dropped) seal = drawn_part bundle seal digits (drawn_lottery bundle tickets).total (drawn_of bundle tickets digits)

-- the page of a round with this bundle, or why there is none. A round has a bundle exactly if it is past `Open`
abbrev pub page_with_bundle : List ℕ → ℕ → Round → Option Bundle → Result (List ℕ) Refusal
page_with_bundle title number round None = Err (WrongPhase phase.Open)
page_with_bundle title number round (Some bundle) =
    Ok (page_with (round_head title number) bundle (bundle_seal bundle) (draw_of_round round (bundle_seal bundle)))

abbrev pub page_if : Tables → ℕ → Option Round → Result (List ℕ) Refusal
page_if tables number None = Err (NoRound (length tables.rounds))
page_if tables number (Some round) = page_with_bundle (title_of tables.charter) number round (bundle_of round)

-- the page of the round of a number, or why there is none
abbrev pub page_of : Tables → ℕ → Result (List ℕ) Refusal
page_of tables number = page_if tables number (named_round tables.rounds number)
