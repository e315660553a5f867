-- The pool of a round: from the charter, the rules and the register, or, after a draw, from the pool before.
use Rattle.std.specs.Prelude.{ℕ, zero, suc, ◌+◌, if◌then◌else◌, Bool, true, false, List, [], ◌∷◌, filter, map, length, Option, Some, None, Result, Ok, Err}
use Rattle.define_pools.specs.declared.Standing.{Standing}
use Rattle.define_pools.specs.declared.Standing.TheVariants as standing
use Rattle.define_pools.specs.Building.{empty_pool, places_of}
use Rattle.define_pools.specs.Lists.{includes, includes_list}
use Rattle.define_pools.specs.Lottery.{Lottery}
use Rattle.define_pools.specs.Pool.{Category, Pool, Volunteer, everybody, volunteer}
use Rattle.define_bundles.specs.BundleText.{Bundle}
use Rattle.define_draws.specs.Dice.{name_ticket}
use Rattle.define_draws.specs.Draw as draws
use Rattle.define_draws.specs.Draw.{drawn_with}
use Rattle.define_draws.specs.Short.{shortened}
use Rattle.define_offices.specs.declared.Part.TheVariants as part
use Rattle.define_offices.specs.Commands.{Refusal, NoRound, Incomplete}
use Rattle.define_offices.specs.Tables.{Charter, Entry, Round, Open, Solved, Sealed, Drawn, Tables, round_at, same_shape}

-- the volunteers, each with a new standing: what `other` returns for the volunteer's number and old standing. The first has number `i`
abbrev pub restood : (ℕ → Standing → Standing) → ℕ → List Volunteer → List Volunteer
restood other i [] = []
restood other i (volunteer ∷ volunteers) = record volunteer { standing = other i volunteer.standing } ∷ restood other (i + 1) volunteers

-- ---- the next pool

-- whoever is gone stays gone, dropouts are gone, the panel's other members are seated, and everybody else is open
abbrev pub next_standing : List ℕ → List ℕ → ℕ → Standing → Standing
next_standing panel drops i standing.Gone = standing.Gone
next_standing panel drops i standing.Open = if includes drops i then standing.Gone else if includes panel i then standing.Seated else standing.Open
next_standing panel drops i standing.Seated = if includes drops i then standing.Gone else if includes panel i then standing.Seated else standing.Open

abbrev pub restood_pool : (ℕ → Standing → Standing) → Pool → Pool
restood_pool other pool = record pool { volunteers = restood other 0 pool.volunteers }

-- the pool after `panel` was drawn and its members `drops` dropped out
abbrev pub next_pool : Pool → List ℕ → List ℕ → Pool
next_pool pool panel drops = restood_pool (next_standing panel drops) pool

-- the first number in `drops` that isn't in `panel`, if there is one
abbrev pub not_seated : List ℕ → List ℕ → Option ℕ
not_seated panel [] = None
not_seated panel (number ∷ drops) = if includes panel number then not_seated panel drops else Some number

-- ---- what a round has drawn

-- what the digits draw; if they name no ticket, ticket 0 and an empty panel. The digits of a drawn round always name a ticket
abbrev pub drawn_or_nothing : Result draws.Drawn draws.Refused → draws.Drawn
drawn_or_nothing (Ok drawn) = drawn
drawn_or_nothing (Err refused) = record { ticket = 0; used = 0; panel = [] }

-- the lottery that the digits draw from: the bundle's own, or that lottery shortened to a round number of tickets
abbrev pub lottery_in : Option ℕ → Lottery → Lottery
lottery_in None lottery = lottery
lottery_in (Some tickets) lottery = shortened lottery tickets

-- the lottery that a round with this bundle draws from, if `tickets` were kept with its seal
abbrev pub drawn_lottery : Bundle → Option ℕ → Lottery
drawn_lottery bundle tickets = lottery_in tickets bundle.answer.lottery

-- what the digits draw from a lottery
abbrev pub drawn_from : Lottery → List ℕ → draws.Drawn
drawn_from lottery digits = drawn_or_nothing (drawn_with lottery (name_ticket lottery.total digits))

-- what the digits draw in a round with this bundle, if `tickets` were kept with its seal
abbrev pub drawn_of : Bundle → Option ℕ → List ℕ → draws.Drawn
drawn_of bundle tickets digits = drawn_from (drawn_lottery bundle tickets) digits

-- the numbers of the volunteers whose id is in `ids`
abbrev pub numbers_of : Pool → List (List ℕ) → List ℕ
numbers_of pool ids = filter (λ i. includes_list ids (volunteer pool.volunteers i).id) (everybody pool)

-- ---- the register's rows as volunteers

abbrev pub standing_of : Bool → Standing
standing_of true = standing.Gone
standing_of false = standing.Open

abbrev pub volunteer_of : List Category → Entry → Volunteer
volunteer_of categories entry = record {
  id = entry.id;
  values = places_of categories entry.values;
  standing = standing_of entry.withdrawn;
  household = entry.household;
}

abbrev pub first_pool : Charter → List Category → List Entry → Pool
first_pool charter categories register = record {
  size = charter.size;
  categories = categories;
  volunteers = map (volunteer_of categories) register;
}

-- the volunteer of the row at `place`, counted from 0, withdrew
abbrev pub has_withdrawn : List Entry → ℕ → Bool
has_withdrawn [] place = false
has_withdrawn (entry ∷ register) zero = entry.withdrawn
has_withdrawn (entry ∷ register) (suc place) = has_withdrawn register place

-- an open volunteer who withdrew is gone; the other standings stay
abbrev pub after_withdrawals : List Entry → ℕ → Standing → Standing
after_withdrawals register i standing.Open = standing_of (has_withdrawn register i)
after_withdrawals register i standing.Seated = standing.Seated
after_withdrawals register i standing.Gone = standing.Gone

-- the pool of the round that follows a drawn round. Every round but the last is drawn, so the other cases don't occur
abbrev pub pool_after : List Entry → Option Round → Pool
pool_after register (Some (Drawn bundle tickets digits dropped)) =
    restood_pool (after_withdrawals register) (next_pool bundle.pool (drawn_of bundle tickets digits).panel (numbers_of bundle.pool dropped))
pool_after register (Some Open) = empty_pool 1
pool_after register (Some (Solved bundle)) = empty_pool 1
pool_after register (Some (Sealed bundle tickets)) = empty_pool 1
pool_after register None = empty_pool 1

-- the pool with other bounds, if some were set. They are set only if they have the names of the pool's categories and values, in the same
-- order; so the last case doesn't occur
abbrev pub with_bounds : Option (List Category) → Pool → Pool
with_bounds None pool = pool
with_bounds (Some bounds) pool = if same_shape pool.categories bounds then record pool { categories = bounds } else pool

-- the pool of the open round at a place, counted from 0
abbrev pub open_pool : Charter → List Category → Tables → ℕ → Pool
open_pool charter categories tables zero = first_pool charter categories tables.register
open_pool charter categories tables (suc before) = with_bounds tables.bounds (pool_after tables.register (round_at tables.rounds before))

-- the pool of the round at `place`: made from the tables if the round is open, else the pool of its bundle
abbrev pub round_pool : Charter → List Category → Tables → ℕ → Round → Pool
round_pool charter categories tables place Open = open_pool charter categories tables place
round_pool charter categories tables place (Solved bundle) = bundle.pool
round_pool charter categories tables place (Sealed bundle tickets) = bundle.pool
round_pool charter categories tables place (Drawn bundle tickets digits dropped) = bundle.pool

-- the pool of a round, or which of charter and rules is missing
abbrev pub pool_by : Option Charter → Option (List Category) → Tables → ℕ → Round → Result Pool Refusal
pool_by None rules tables place round = Err (Incomplete part.Charter)
pool_by (Some charter) None tables place round = Err (Incomplete part.Rules)
pool_by (Some charter) (Some categories) tables place round = Ok (round_pool charter categories tables place round)

abbrev pub pool_if : Tables → ℕ → Option Round → Result Pool Refusal
pool_if tables place None = Err (NoRound (length tables.rounds))
pool_if tables place (Some round) = pool_by tables.charter tables.rules tables place round

-- the pool of the round with a number, counted from 1, or why there is none
abbrev pub pool_of : Tables → ℕ → Result Pool Refusal
pool_of tables zero = Err (NoRound (length tables.rounds))
pool_of tables (suc place) = pool_if tables place (round_at tables.rounds place)
