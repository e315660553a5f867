-- What the desk shows of the tables of an office: to everybody what was published, and to a volunteer who gives a key what concerns
-- this volunteer.
use Rattle.std.specs.Prelude.{ℕ, ◌+◌, zero, suc, if◌then◌else◌, List, [], ◌∷◌, map, Option, Some, None}
use Rattle.define_pools.specs.Lists.{includes_list}
use Rattle.define_bundles.specs.BundleText.{Bundle}
use Rattle.define_draws.specs.Seal.{seal_of}
use Rattle.define_offices.specs.declared.Phase.{Phase}
use Rattle.define_offices.specs.Tables.{Entry, Round, Open, Solved, Sealed, Drawn, Tables, last_phase}
use Rattle.define_offices.specs.Deciding.{with_hash}

-- what is published of a round: its bundle once it is sealed; once it is drawn, also the digits of the dice, and the round number of
-- tickets that was kept with the seal, if one was
pub data Published : Type 0 where
  Nothing : Published
  TheBundle : (bundle : Bundle) → Published
  TheDraw : (bundle : Bundle) (tickets : Option ℕ) (digits : List ℕ) → Published

abbrev pub published : Round → Published
published Open = Nothing
published (Solved bundle) = Nothing
published (Sealed bundle tickets) = TheBundle bundle
published (Drawn bundle tickets digits dropped) = TheDraw bundle tickets digits

-- the ids of those who dropped out of a round
abbrev pub dropped_of : Round → List (List ℕ)
dropped_of Open = []
dropped_of (Solved bundle) = []
dropped_of (Sealed bundle tickets) = []
dropped_of (Drawn bundle tickets digits dropped) = dropped

-- the numbers of the rounds of which `id` dropped out, if the first of the rounds has the number `number`
abbrev pub dropped_from : List ℕ → List Round → ℕ → List ℕ
dropped_from id [] number = []
dropped_from id (round ∷ rounds) number =
    if includes_list (dropped_of round) id then number ∷ dropped_from id rounds (number + 1) else dropped_from id rounds (number + 1)

-- a volunteer: the row of the register, and the numbers of the rounds of which this volunteer dropped out
pub record Own : Type 0 where
  pub entry : Entry
  pub dropped : List ℕ

abbrev pub own_of : List Round → Option Entry → Option Own
own_of rounds None = None
own_of rounds (Some entry) = Some (record { entry = entry; dropped = dropped_from entry.id rounds 1 })

-- what the desk shows to someone who gives a key: the volunteer with this key, if there is one, the phase of the last round, and what is
-- published of each round. The number of the last round is how many rounds there are
pub record View : Type 0 where
  pub own : Option Own
  pub phase : Phase
  pub rounds : List Published

abbrev pub view : Tables → List ℕ → View
view tables key = record {
  own = own_of tables.rounds (with_hash tables.register (seal_of key));
  phase = last_phase tables.rounds;
  rounds = map published tables.rounds;
}

-- what is published of the last round
abbrev pub last_published : List Published → Published
last_published [] = Nothing
last_published (round ∷ []) = round
last_published (round ∷ next ∷ later) = last_published (next ∷ later)

-- what is published of the round at a place, counted from 0
abbrev pub published_at : List Published → ℕ → Published
published_at [] place = Nothing
published_at (round ∷ rounds) zero = round
published_at (round ∷ rounds) (suc place) = published_at rounds place

-- what is published of the round with a number, counted from 1; nothing if there is no such round
abbrev pub published_of : List Published → ℕ → Published
published_of rounds zero = Nothing
published_of rounds (suc place) = published_at rounds place
