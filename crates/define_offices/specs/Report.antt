-- The report of a round: its title, phase and pool. Once the round is solved, also its lottery with each volunteer's chance; once it is
-- sealed, also the seal, with the round number of tickets if one was kept with it; and once it is drawn, also the draw. Builds on Pools and
-- Lines of `define_offices`, Draw of `define_draws`, and Summary of `define_made_pools`. `office_reports` writes it, and the meaning of
-- `report` in `command_stores` cites it.
use Rattle.std.specs.Prelude.{ℕ, true, List, [], ◌∷◌, ◌++◌, codes, filter, length, map, Option, Some, None, Result, Ok, Err}
use Rattle.std.specs.Fmt.{decimal}
use Rattle.std.specs.List.{enumerate_from, flat_map}
use Rattle.frac128.specs.Fractions.{Fraction, fraction_text, lowest_of}
use Rattle.define_pools.specs.Lottery.{Lottery, count}
use Rattle.define_pools.specs.Pool.{BoundedValue, Category, Pool, Volunteer, allows, everybody, members_with, volunteer}
use Rattle.define_lines.specs.Lines.{line_of, text_of}
use Rattle.define_bundles.specs.PoolText.{end_line}
use Rattle.define_bundles.specs.BundleText.{Bundle, total_line}
use Rattle.define_draws.specs.Draw as draws
use Rattle.define_made_pools.specs.Summary.{field_line, number_line}
use Rattle.define_offices.specs.declared.Phase.{Phase}
use Rattle.define_offices.specs.Tables.{Charter, Round, Open, Solved, Sealed, Drawn, Tables, bundle_of, named_round, phase_of}
use Rattle.define_offices.specs.Commands.{Refusal}
use Rattle.define_offices.specs.Lines.{phase_name}
use Rattle.define_draws.specs.Lines.{member_ids, seal_line, ticket_line}
use Rattle.define_offices.specs.Pools.{drawn_of, pool_of}

-- the lines that each report begins with: the round's number, the title, the phase, the size of a panel and how many volunteers there are
abbrev pub head_lines : ℕ → List ℕ → Phase → Pool → List (List ℕ)
head_lines number title phase pool =
    number_line (codes "report") number
    ∷ field_line (codes "title") title
    ∷ field_line (codes "phase") (phase_name phase)
    ∷ number_line (codes "size") pool.size
    ∷ number_line (codes "volunteers") (length pool.volunteers)
    ∷ []

-- ---- the lottery, its seal, and the draw

-- how many panels the lottery has, and its total
abbrev pub lottery_lines : Lottery → List (List ℕ)
lottery_lines lottery = number_line (codes "panels") (length lottery.rows) ∷ total_line lottery.total ∷ []

-- the line of a round number of tickets, if one was kept with the seal
abbrev pub tickets_lines : Option ℕ → List (List ℕ)
tickets_lines None = []
tickets_lines (Some tickets) = number_line (codes "tickets") tickets ∷ []

abbrev pub seal_lines : Bundle → Option ℕ → List (List ℕ)
seal_lines bundle tickets = seal_line bundle ∷ tickets_lines tickets

abbrev pub member_line : List ℕ → List ℕ
member_line id = field_line (codes "member") id

-- the digits of the dice, the ticket that they name, and the members of its panel
abbrev pub draw_lines : Pool → List ℕ → draws.Drawn → List (List ℕ)
draw_lines pool digits drawn = field_line (codes "digits") digits ∷ ticket_line drawn.ticket drawn.used ∷ map member_line (member_ids pool drawn.panel)

-- what a report shows of a round's bundle, which depends on the round's phase
abbrev pub bundle_lines : Round → List (List ℕ)
bundle_lines Open = []
bundle_lines (Solved bundle) = lottery_lines bundle.answer.lottery
bundle_lines (Sealed bundle tickets) = lottery_lines bundle.answer.lottery ++ seal_lines bundle tickets
bundle_lines (Drawn bundle tickets digits dropped) =
    lottery_lines bundle.answer.lottery ++ seal_lines bundle tickets ++ draw_lines bundle.pool digits (drawn_of bundle tickets digits)

-- ---- quotas

-- the numbers of the volunteers who aren't gone
abbrev pub not_gone : Pool → List ℕ
not_gone pool = filter (λ i. allows (volunteer pool.volunteers i).standing true) (everybody pool)

-- the lists of volunteers of which the members with a value are counted: those who aren't gone, and the panel, if one was drawn
abbrev pub counted : Pool → Round → List (List ℕ)
counted pool Open = not_gone pool ∷ []
counted pool (Solved bundle) = not_gone pool ∷ []
counted pool (Sealed bundle tickets) = not_gone pool ∷ []
counted pool (Drawn bundle tickets digits dropped) = not_gone pool ∷ (drawn_of bundle tickets digits).panel ∷ []

-- how many volunteers of each list in `groups` have the value at `value_place` of the category at `category_place`
abbrev pub numbers_with : List Volunteer → List (List ℕ) → ℕ → ℕ → List ℕ
numbers_with volunteers groups category_place value_place = map (λ group. members_with volunteers group category_place value_place) groups

-- the line of a value: its category, its name, its bounds, and `numbers`
abbrev pub quota_line : List ℕ → BoundedValue → List ℕ → List ℕ
quota_line category value numbers =
    line_of (codes "quota" ∷ category ∷ value.name ∷ decimal value.lower ∷ decimal value.upper ∷ map decimal numbers)

-- the lines of the values of the category at `category_place`
abbrev pub value_lines : List Volunteer → List (List ℕ) → ℕ → Category → List (List ℕ)
value_lines volunteers groups category_place category =
    map (λ (value_place, value). quota_line category.name value (numbers_with volunteers groups category_place value_place)) (enumerate_from 0 category.values)

abbrev pub quota_lines : Pool → List (List ℕ) → List (List ℕ)
quota_lines pool groups =
    flat_map (λ (category_place, category). value_lines pool.volunteers groups category_place category) (enumerate_from 0 pool.categories)

-- ---- chances

abbrev pub chance_line : List ℕ → Fraction → List ℕ
chance_line id chance = line_of (codes "chance" ∷ id ∷ fraction_text chance ∷ [])

-- a volunteer's chance, in lowest terms
abbrev pub chance_of : Lottery → ℕ → Fraction
chance_of lottery i = lowest_of (count lottery i) lottery.total

abbrev pub chance_lines : Pool → Lottery → List (List ℕ)
chance_lines pool lottery = map (λ i. chance_line (volunteer pool.volunteers i).id (chance_of lottery i)) (everybody pool)

-- ---- the report

-- the lines of the volunteers' chances; there are none if the round is open, and so has no bundle
abbrev pub chance_lines_in : Option Bundle → List (List ℕ)
chance_lines_in None = []
chance_lines_in (Some bundle) = chance_lines bundle.pool bundle.answer.lottery

abbrev pub report_lines : ℕ → List ℕ → Round → Pool → List (List ℕ)
report_lines number title round pool =
    head_lines number title (phase_of round) pool
    ++ bundle_lines round
    ++ quota_lines pool (counted pool round)
    ++ chance_lines_in (bundle_of round)
    ++ end_line ∷ []

-- the text of a report. If a round has a pool, the round exists and there is a charter, so the cases without them don't occur
abbrev pub report_with : ℕ → Option Charter → Option Round → Pool → List ℕ
report_with number (Some charter) (Some round) pool = text_of (report_lines number charter.title round pool)
report_with number (Some charter) None pool = []
report_with number None round pool = []

abbrev pub report_over : Tables → ℕ → Result Pool Refusal → Result (List ℕ) Refusal
report_over tables number (Ok pool) = Ok (report_with number tables.charter (named_round tables.rounds number) pool)
report_over tables number (Err refusal) = Err refusal

-- the report of round `number`, or the refusal that says why the round has no pool
abbrev pub report_of : Tables → ℕ → Result (List ℕ) Refusal
report_of tables number = report_over tables number (pool_of tables number)
