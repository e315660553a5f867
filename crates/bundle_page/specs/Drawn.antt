-- The part of the page about a draw: the digits and the ticket that they name, the members of its panel, and for each value how many of
-- them have it, beside its bounds. Builds on Markup, and on Draw of `define_draws`.
use Rattle.std.specs.Prelude.{ℕ, ◌==◌, if◌then◌else◌, List, [], ◌∷◌, ◌++◌, map, unsigned_abs}
use Rattle.std.specs.Fmt.{decimal}
use Rattle.std.specs.List.{enumerate_from, flat_map}
use Rattle.define_draws.specs.Draw.{Drawn}
use Rattle.define_lines.specs.Lines.{text_of}
use Rattle.define_pools.specs.Pool.{BoundedValue, Category, Pool, Volunteer, members_with, volunteer}
use Rattle.bundle_page.specs.declared.templates.TheConstants.{CHECK, CHECK_SHORT, DRAWN, DRAWN_TABLE, DRAWN_VALUE, END_OF_DRAWN, MEMBER, MEMBERS}
use Rattle.bundle_page.specs.Markup.{escaped, filled}
use Rattle.sealed_draw.specs.declared.drawn.Draw.{Draw}

-- the draw in words: the digits of the dice, how many tickets there are in all, how many digits were read, the ticket, and the seal. The
-- digits need no escaping, since a draw accepts nothing but digits
abbrev pub draw_words : List ℕ → List ℕ → ℕ → Drawn → List ℕ
draw_words seal digits tickets drawn =
    filled DRAWN.now (digits ∷ decimal tickets ∷ decimal drawn.used ∷ decimal drawn.ticket ∷ seal ∷ [])

-- how to check a draw in `tickets` tickets; the lottery itself has `total` tickets, which may be another number
abbrev pub check_words : ℕ → ℕ → List ℕ
check_words total tickets = if tickets == total then filled CHECK.now [] else filled CHECK_SHORT.now (decimal total ∷ [])

abbrev pub member_line : List Volunteer → ℕ → List ℕ
member_line volunteers number = filled MEMBER.now (escaped (volunteer volunteers number).id ∷ [])

-- the row of a value; `members` is how many members of the drawn panel have it
abbrev pub drawn_line : List ℕ → BoundedValue → ℕ → List ℕ
drawn_line category value members =
    filled DRAWN_VALUE.now (escaped category ∷ escaped value.name ∷ decimal members ∷ decimal value.lower ∷ decimal value.upper ∷ [])

abbrev pub drawn_value_lines : List Volunteer → List ℕ → ℕ → Category → List (List ℕ)
drawn_value_lines volunteers panel category_place category =
    map (λ (value_place, value). drawn_line category.name value (members_with volunteers panel category_place value_place))
    (enumerate_from 0 category.values)

abbrev pub drawn_category_lines : Pool → List ℕ → List (List ℕ)
drawn_category_lines pool panel =
    flat_map (λ (category_place, category). drawn_value_lines pool.volunteers panel category_place category) (enumerate_from 0 pool.categories)

-- the part about the draw. `total` is how many tickets the lottery itself has
abbrev pub drawn_text : Pool → ℕ → List ℕ → List ℕ → ℕ → Drawn → List ℕ
drawn_text pool total seal digits tickets drawn =
    text_of (draw_words seal digits tickets drawn ∷ check_words total tickets ∷ filled MEMBERS.now [] ∷ map (member_line pool.volunteers) drawn.panel
    ++ filled DRAWN_TABLE.now [] ∷ drawn_category_lines pool drawn.panel
    ++ filled END_OF_DRAWN.now [] ∷ [])

-- the code's draw as the record `Drawn` of the definitions
abbrev pub seen_draw : Draw → Drawn
seen_draw draw = record { ticket = unsigned_abs draw.ticket; used = draw.used; panel = draw.panel }
