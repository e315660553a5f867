-- What the steps of a report need of a round and find in it. Builds on Report of `define_offices`. The contracts of `reports` and of
-- `command_stores` cite it.
use Rattle.std.specs.Prelude.{◌≡◌, ℕ, IsTrue, List, [], ◌∷◌, length, Option, Some, None, is_ok, Result, Ok, Err, Vec, ⊤}
use Rattle.std.specs.Global.{Global}
use Rattle.std.specs.Option.{ForSome}
use Rattle.define_pools.specs.Lottery.{TotalAgrees}
use Rattle.define_pools.specs.Pool.{Pool}
use Rattle.define_bundles.specs.BundleText.{Bundle}
use Rattle.define_draws.specs.Dice.{name_ticket}
use Rattle.define_offices.specs.Commands as office
use Rattle.define_offices.specs.Tables.{Round, Open, Solved, Sealed, Drawn, bundle_of}
use Rattle.define_offices.specs.Pools.{drawn_lottery}
use Rattle.define_offices.specs.Report.{not_gone}
use Rattle.office_steps.specs.declared.pools.PoolStop.{PoolStop}
use Rattle.office_steps.specs.declared.pools.PoolStop.TheVariants.{NoRound, Incomplete, OutOfMemory}
use Rattle.office_reports.specs.Groups.{AreBelow}
use Rattle.office_tables.specs.Drawn.{Draws}
use Rattle.sealed_draw.specs.declared.drawn.Draw.{Draw}

-- the report of a round, or why there is none; running out of memory is allowed at any time
abbrev pub TellsReport : Result (List ℕ) office.Refusal → Result (Vec ℕ Global) PoolStop → Type 0
TellsReport is (Ok text) = is ≡ Ok text.items
TellsReport is (Err (NoRound last)) = is ≡ Err (office.NoRound last)
TellsReport is (Err (Incomplete what)) = is ≡ Err (office.Incomplete what)
TellsReport is (Err OutOfMemory) = ⊤

-- a bundle, if there is one, has this pool
abbrev pub HasPool : Round → Pool → Type 0
HasPool round pool = ForSome (bundle_of round) (λ bundle. bundle.pool ≡ pool)

-- the weights of a bundle, if there is one, sum to its total
abbrev pub WeightsAgree : Option Bundle → Type 0
WeightsAgree found = ForSome found (λ bundle. TotalAgrees bundle.answer.lottery)

-- if the round was drawn, its digits name a ticket
abbrev pub HasTicket : Round → Type 0
HasTicket Open = ⊤
HasTicket (Solved bundle) = ⊤
HasTicket (Sealed bundle tickets) = ⊤
HasTicket (Drawn bundle tickets digits dropped) = IsTrue (is_ok (name_ticket (drawn_lottery bundle tickets).total digits))

-- if the round has a bundle, its weights sum to its total; if the round was drawn, its digits name a ticket
pub record KeepsDraw (round : Round) : Type 0 where
  pub agrees : WeightsAgree (bundle_of round)
  pub named : HasTicket round

-- `drawn` is what the round drew: nothing until the round is drawn, then what its digits draw from its bundle
abbrev pub IsDrawnIn : Round → Option Draw → Type 0
IsDrawnIn Open drawn = drawn ≡ None
IsDrawnIn (Solved bundle) drawn = drawn ≡ None
IsDrawnIn (Sealed bundle tickets) drawn = drawn ≡ None
IsDrawnIn (Drawn bundle tickets digits dropped) None = ⊥
IsDrawnIn (Drawn bundle tickets digits dropped) (Some drawn) = Draws (drawn_lottery bundle tickets) (length bundle.pool.volunteers) digits drawn

-- the members of what is drawn are volunteers of the pool
abbrev pub IsOfPool : Pool → Option Draw → Type 0
IsOfPool pool None = ⊤
IsOfPool pool (Some drawn) = AreBelow (length pool.volunteers) drawn.panel

-- the groups that are counted: the volunteers who aren't gone and, if a panel was drawn, its members
abbrev pub counted_with : Pool → Option Draw → List (List ℕ)
counted_with pool None = not_gone pool ∷ []
counted_with pool (Some drawn) = not_gone pool ∷ drawn.panel ∷ []
