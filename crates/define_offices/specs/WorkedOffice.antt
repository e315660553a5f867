-- An assembly of two women and two men, from the rules to a second round, for the worked examples.
use Rattle.std.specs.Prelude.{ℕ, List, [], ◌∷◌, codes, None, Some}
use Rattle.define_pools.specs.Pool.{Category}
use Rattle.define_pools.specs.WorkedExamples.{couple, four, after_dropout, dropout_lottery, dropout_stages}
use Rattle.define_bundles.specs.BundleText.{Bundle}
use Rattle.define_runs.specs.WorkedRuns.{pairs}
use Rattle.define_lines.specs.Lines.{line_of}
use Rattle.define_offices.specs.Tables.{Charter, Round, Open, Drawn, Tables, first_tables}
use Rattle.define_offices.specs.Commands.{Given}
use Rattle.define_offices.specs.Deciding.{entry_of}

abbrev pub rules : List Category
rules = four.categories

abbrev pub river : Charter
river = record { title = codes "River"; size = 2; volunteers = 400 }

abbrev pub given : List ℕ → List ℕ → List ℕ → Given
given id key gender = record { id = id; key = key; values = gender ∷ []; household = None }

abbrev pub a : Given
a = given (codes "a") (codes "abc") (codes "female")

abbrev pub b : Given
b = given (codes "b") (codes "k2") (codes "female")

abbrev pub c : Given
c = given (codes "c") (codes "k3") (codes "male")

abbrev pub d : Given
d = given (codes "d") (codes "k4") (codes "male")

abbrev pub rows : List Given
rows = a ∷ b ∷ c ∷ d ∷ []

abbrev pub with_rules : Tables
with_rules = record first_tables { rules = Some rules }

-- the tables after the rules are set and the four volunteers are registered
abbrev pub with_rows : Tables
with_rows = record with_rules { register = entry_of a ∷ entry_of b ∷ entry_of c ∷ entry_of d ∷ [] }

abbrev pub ready : Tables
ready = record with_rows { charter = Some river }

abbrev pub in_rounds : List Round → Tables
in_rounds rounds = record ready { rounds = rounds }

abbrev pub first_bundle : Bundle
first_bundle = record { pool = four; answer = pairs }

-- the first round after the digits `0` drew the panel of a and c, of whom `dropped` dropped out
abbrev pub drawn : List (List ℕ) → Round
drawn dropped = Drawn first_bundle None (codes "0") dropped

abbrev pub second_bundle : Bundle
second_bundle = record { pool = after_dropout; answer = record { lottery = dropout_lottery; stages = dropout_stages } }

-- the lines of the draw by the digits `0`: the ticket with how many digits were read, and the panel
abbrev pub the_draw : List (List ℕ)
the_draw = line_of (codes "ticket" ∷ codes "0" ∷ codes "1" ∷ []) ∷ line_of (codes "panel" ∷ codes "a" ∷ codes "c" ∷ []) ∷ []

-- one woman and one man of one household, for a panel of two: there is no quota panel
abbrev pub couple_tables : Tables
couple_tables = record {
  charter = Some river;
  rules = Some couple.categories;
  register = entry_of (record a { household = Some (codes "h") }) ∷ entry_of (record (given (codes "b") (codes "k2") (codes "male")) { household = Some (codes "h") }) ∷ [];
  rounds = Open ∷ [];
  bounds = None;
}

-- ---- the second version

-- the first round in 10 tickets, after the digit 7 drew the panel of b and d, of whom `dropped` dropped out
abbrev pub drawn_in_ten : List (List ℕ) → Round
drawn_in_ten dropped = Drawn first_bundle (Some 10) (codes "7") dropped

-- the lines of the draw by the digit 7 in 10 tickets
abbrev pub draw_in_ten : List (List ℕ)
draw_in_ten = line_of (codes "ticket" ∷ codes "7" ∷ codes "1" ∷ []) ∷ line_of (codes "panel" ∷ codes "b" ∷ codes "d" ∷ []) ∷ []

-- the second round is open, after a dropped out of the first
abbrev pub second_open : Tables
second_open = in_rounds (drawn (codes "a" ∷ []) ∷ Open ∷ [])

-- the same names of categories and values with wider bounds
abbrev pub wider : List Category
wider = record { name = codes "gender"; values = record { name = codes "female"; lower = 0; upper = 2 } ∷ record { name = codes "male"; lower = 0; upper = 2 } ∷ [] } ∷ []

-- other values of the category
abbrev pub other_values : List Category
other_values = record { name = codes "gender"; values = record { name = codes "female"; lower = 0; upper = 2 } ∷ [] } ∷ []

-- the open second round with the wider bounds
abbrev pub second_wider : Tables
second_wider = record second_open { bounds = Some wider }
