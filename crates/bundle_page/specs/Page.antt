-- The text of the page about a bundle. Its parts are the fixed texts of `src/templates.rt`, filled with names and numbers. Builds on
-- Markup, Numbers and Drawn. The promises of this crate cite it, and so do `command_questions`, `command_stores` and `command_browser`.
use Rattle.std.specs.Prelude.{ℕ, ◌+◌, ◌-◌, ◌*◌, ◌/◌, List, [], ◌∷◌, ◌++◌, length, map, slice_index}
use Rattle.std.specs.Fmt.{decimal}
use Rattle.std.specs.List.{enumerate_from, flat_map}
use Rattle.frac128.specs.Fractions.{fraction_text, lowest_of}
use Rattle.define_bundles.specs.BundleText.{Bundle}
use Rattle.define_draws.specs.Draw.{Drawn}
use Rattle.define_lines.specs.Lines.{text_of}
use Rattle.define_made_pools.specs.Summary.{greatest, least}
use Rattle.define_pools.specs.Lists.{rising}
use Rattle.define_pools.specs.Lottery.{counts}
use Rattle.define_pools.specs.Pool.{Category, Pool, Volunteer}
use Rattle.bundle_page.specs.Decimals.{fixed_point}
use Rattle.bundle_page.specs.declared.shares.Share.{Share}
use Rattle.bundle_page.specs.declared.sizes.Sizes.{Sizes}
use Rattle.bundle_page.specs.declared.templates.TheConstants.{CATEGORY, CHANCE, CLOSING, CURVE, CURVE_WORDS, END_OF_CATEGORY, HEAD, LEAD, NUMBERS, PLAIN_HEADING, PLAIN_TITLE, POINT, QUOTAS, ROUND_HEADING, SHAPES, TABLE, WORDS}
use Rattle.bundle_page.specs.Drawn.{drawn_text}
use Rattle.bundle_page.specs.Markup.{chance_words, escaped, filled, percent}
use Rattle.bundle_page.specs.Numbers.{equal_chance, present, rounded, seats_left, share_of, sizes_of}

-- ---- the head

-- the head: all lines from the first one to the heading
abbrev pub head_with : List ℕ → List ℕ → List ℕ
head_with title heading = text_of (filled HEAD.now (title ∷ heading ∷ []) ∷ [])

-- the head of a page that names no round
abbrev pub plain_head : Sizes → List ℕ
plain_head sizes = head_with (filled PLAIN_TITLE.now (decimal sizes.seats ∷ decimal sizes.volunteers ∷ [])) PLAIN_HEADING.now

-- the title and the heading of the page of a round: the assembly's title, and the round's number
abbrev pub round_heading : List ℕ → ℕ → List ℕ
round_heading title number = filled ROUND_HEADING.now (escaped title ∷ decimal number ∷ [])

abbrev pub round_head : List ℕ → ℕ → List ℕ
round_head title number = head_with (round_heading title number) (round_heading title number)

-- the words below the heading
abbrev pub lead : Sizes → ℕ → ℕ → List ℕ
lead sizes panels total =
    filled LEAD.now (decimal sizes.volunteers ∷ decimal sizes.seats ∷ decimal panels ∷ decimal total ∷ [])

-- ---- the categories. `name` and `expected` are the texts of a value's name, and of the seats expected

abbrev pub numbers_part : List ℕ → List ℕ → Share → List ℕ
numbers_part name expected share =
    filled NUMBERS.now (name ∷ decimal share.volunteers ∷ decimal share.lower ∷ decimal share.upper ∷ expected ∷ [])

abbrev pub words_part : List ℕ → List ℕ → Share → Sizes → List ℕ
words_part name expected share sizes =
    filled WORDS.now
    (decimal (present sizes * sizes.seats) ∷ name ∷ decimal share.volunteers ∷ decimal (present sizes) ∷ decimal share.lower
    ∷ decimal share.upper ∷ decimal sizes.seats ∷ expected ∷ [])

-- the bars of a value. The picture is as wide as the seats times the volunteers who aren't gone, so that such a volunteer is as wide as
-- there are seats, and a seat as wide as there are such volunteers
abbrev pub shapes_part : Share → Sizes → List ℕ
shapes_part share sizes =
    filled SHAPES.now
    (decimal (share.volunteers * sizes.seats) ∷ decimal (share.lower * present sizes)
    ∷ decimal ((share.upper - share.lower) * present sizes) ∷ decimal (share.expected * present sizes / 10000) ∷ [])

abbrev pub value_parts : List ℕ → Share → Sizes → List (List ℕ)
value_parts name share sizes =
    numbers_part (escaped name) (fixed_point 4 share.expected) share
    ∷ words_part (escaped name) (fixed_point 4 share.expected) share sizes
    ∷ shapes_part share sizes
    ∷ []

abbrev pub value_lines : Pool → List ℕ → ℕ → ℕ → Category → List (List ℕ)
value_lines pool counts total category_place category =
    flat_map (λ (value_place, value). value_parts value.name (share_of pool.volunteers counts total category_place value_place value) (sizes_of pool))
    (enumerate_from 0 category.values)

abbrev pub category_parts : Pool → List ℕ → ℕ → ℕ → Category → List (List ℕ)
category_parts pool counts total category_place category =
    filled CATEGORY.now (escaped category.name ∷ []) ∷ value_lines pool counts total category_place category ++ filled END_OF_CATEGORY.now [] ∷ []

abbrev pub category_lines : Pool → List ℕ → ℕ → List (List ℕ)
category_lines pool counts total =
    flat_map (λ (category_place, category). category_parts pool counts total category_place category) (enumerate_from 0 pool.categories)

-- ---- the curve

abbrev pub curve_words : List ℕ → ℕ → Sizes → List ℕ
curve_words counts total sizes =
    filled CURVE_WORDS.now
    (chance_words (least counts) total ∷ chance_words (greatest counts) total ∷ percent (equal_chance sizes) ∷ decimal sizes.open_count
    ∷ decimal (seats_left sizes) ∷ decimal sizes.seated_count ∷ decimal sizes.gone_count ∷ [])

-- the chances of the equal lottery, in rising order, as three level lines: first of the volunteers who are gone, then of the open ones,
-- then of those who are seated
abbrev pub curve_start : Sizes → List ℕ
curve_start sizes =
    filled CURVE.now
    (decimal sizes.volunteers ∷ decimal sizes.gone_count ∷ decimal sizes.gone_count ∷ decimal (10000 - equal_chance sizes) ∷ decimal (sizes.gone_count + sizes.open_count)
    ∷ decimal (sizes.gone_count + sizes.open_count) ∷ decimal sizes.volunteers ∷ [])

-- a step of the curve: a level line from one place to the next
abbrev pub point_line : ℕ → ℕ → List ℕ
point_line place chance =
    filled POINT.now (decimal place ∷ decimal (10000 - chance) ∷ decimal (place + 1) ∷ decimal (10000 - chance) ∷ [])

-- the points of the curve; `chances` are in ten-thousandths and in rising order
abbrev pub point_lines : List ℕ → List (List ℕ)
point_lines chances = map (λ (place, chance). point_line place chance) (enumerate_from 0 chances)

abbrev pub curve_parts : List ℕ → ℕ → Sizes → List (List ℕ)
curve_parts counts total sizes =
    curve_words counts total sizes ∷ curve_start sizes ∷ point_lines (rising (rounded counts total))

-- ---- the table of the volunteers' chances

abbrev pub chance_line : List ℕ → ℕ → ℕ → List ℕ
chance_line id count total =
    filled CHANCE.now (escaped id ∷ chance_words count total ∷ fraction_text (lowest_of count total) ∷ [])

abbrev pub chance_lines : List Volunteer → List ℕ → ℕ → List (List ℕ)
chance_lines volunteers counts total =
    map (λ (i, volunteer). chance_line volunteer.id (slice_index counts i) total) (enumerate_from 0 volunteers)

-- ---- the whole page

-- the rest of the page, from the categories to the last line; it comes after the lead, and after the part about a draw if there is one
abbrev pub lower_lines : Pool → List ℕ → ℕ → List ℕ → List (List ℕ)
lower_lines pool counts total seal =
    filled QUOTAS.now [] ∷ category_lines pool counts total
    ++ curve_parts counts total (sizes_of pool)
    ++ filled TABLE.now [] ∷ chance_lines pool.volunteers counts total
    ++ filled CLOSING.now (seal ∷ []) ∷ []

-- the page about a lottery of `panels` panels, with this head. `drawn` is the part about a draw, or empty
abbrev pub text_of_counts : List ℕ → Pool → List ℕ → ℕ → ℕ → List ℕ → List ℕ → List ℕ
text_of_counts head pool counts total panels seal drawn =
    head ++ text_of (lead (sizes_of pool) panels total ∷ []) ++ drawn ++ text_of (lower_lines pool counts total seal)

abbrev pub page_with : List ℕ → Bundle → List ℕ → List ℕ → List ℕ
page_with head bundle seal drawn =
    let lottery = bundle.answer.lottery in
    text_of_counts head bundle.pool (counts bundle.pool lottery) lottery.total (length lottery.rows) seal drawn

-- the part about the draw of these digits from a bundle with this seal, in `tickets` tickets
abbrev pub drawn_part : Bundle → List ℕ → List ℕ → ℕ → Drawn → List ℕ
drawn_part bundle seal digits tickets drawn = drawn_text bundle.pool bundle.answer.lottery.total seal digits tickets drawn

-- the page about a bundle with this seal
abbrev pub page_text : Bundle → List ℕ → List ℕ
page_text bundle seal = page_with (plain_head (sizes_of bundle.pool)) bundle seal []

-- the page about a bundle with this seal, and about a draw from it
abbrev pub drawn_page_text : Bundle → List ℕ → List ℕ → ℕ → Drawn → List ℕ
drawn_page_text bundle seal digits tickets drawn = page_with (plain_head (sizes_of bundle.pool)) bundle seal (drawn_part bundle seal digits tickets drawn)
