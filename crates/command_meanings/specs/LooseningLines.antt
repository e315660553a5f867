-- What `loosen` prints about a loosening: how far bounds are moved in all, the values whose bounds are moved, and the panel. Builds on the
-- loosenings of `define_quotas` and the lines of commands.
use Rattle.std.specs.Prelude.{ℕ, ◌==◌, if◌then◌else◌, Bool, not, ◌||◌, List, [], ◌∷◌, ◌++◌, codes}
use Rattle.std.specs.Fmt.{decimal}
use Rattle.std.specs.List.{flat_map, zip}
use Rattle.define_lines.specs.Lines.{line_of, text_of}
use Rattle.define_quotas.specs.Loosenings.{Loosening}
use Rattle.define_pools.specs.Pool.{BoundedValue, Category, Pool}
use Rattle.command_meanings.specs.Lines.{panel_line}

-- the line of how far bounds are moved in all
abbrev pub total_line : ℕ → List ℕ
total_line total = line_of (codes "loosen" ∷ decimal total ∷ [])

-- the line of a value of this category, with its bounds
abbrev pub bound_line : List ℕ → BoundedValue → List ℕ
bound_line category value = line_of (codes "bound" ∷ category ∷ value.name ∷ decimal value.lower ∷ decimal value.upper ∷ [])

-- a bound of the value differs in the loosened pool
abbrev pub is_moved : BoundedValue → BoundedValue → Bool
is_moved value loosened = not (value.lower == loosened.lower) || not (value.upper == loosened.upper)

-- the line of a value with its bounds in the loosened pool, if they are moved
abbrev pub moved_line : List ℕ → BoundedValue × BoundedValue → List (List ℕ)
moved_line category (value, loosened) = if is_moved value loosened then bound_line category loosened ∷ [] else []

-- the lines of a category's values whose bounds are moved, in the order of the values
abbrev pub moved_in : Category × Category → List (List ℕ)
moved_in (category, loosened) = flat_map (moved_line category.name) (zip category.values loosened.values)

-- the lines of all values whose bounds are moved, in the pool's order
abbrev pub moved_lines : List Category → List Category → List (List ℕ)
moved_lines categories loosened = flat_map moved_in (zip categories loosened)

-- the text of a loosening of the pool
abbrev pub loosening_text : Pool → Loosening → List ℕ
loosening_text pool loosening =
    text_of (total_line loosening.total ∷ moved_lines pool.categories loosening.pool.categories) ++ panel_line pool loosening.panel
