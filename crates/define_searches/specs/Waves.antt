-- The search for the best composition in pieces, which run in waves. A piece is the search below one front. All pieces of a wave begin with
-- the same floor, so each can run without the others, and the number of workers changes neither the result nor the visits. Builds on Below,
-- and on Fronts and Visits of `define_searches`. `pricing_pool` searches this way.
use Rattle.std.specs.Prelude.{ℕ, ◌+◌, ◌-◌, ◌*◌, ◌/◌, nat_le, if◌then◌else◌, List, [], ◌∷◌, ◌++◌, drop, filter, fold, length, map, take, int_lt, Option, Some, None}
use Rattle.std.specs.List.{position_or_len, range_with_len}
use Rattle.define_rows.specs.Row.{Row}
use Rattle.define_searches.specs.Classes.{Class, Classes}
use Rattle.define_searches.specs.Compositions.{counts_of, weight_in}
use Rattle.define_searches.specs.Fronts.{is_live_above}
use Rattle.define_searches.specs.Visits.{Pricing}
use Rattle.define_searches.specs.Below.{search_from}

-- how many lists of counts these classes have, each count from the class's least to its most
abbrev pub lists_of : List Class → ℕ
lists_of classes = fold (λ lists class. lists * (class.most - class.least + 1)) 1 classes

-- how many classes the front of a piece has: the least number of first classes that have at least 64 lists of counts, or all classes
abbrev pub piece_depth : Classes → ℕ
piece_depth all = position_or_len (λ depth. nat_le 64 (lists_of (take depth all.classes))) (range_with_len 0 (length all.classes))

-- the fronts of pieces, and the visits to the fronts before them
pub record Pieces : Type 0 where
  pub visits : ℕ
  pub fronts : List (List ℕ)

-- several parts joined: the sum of their visits, and the fronts of all parts in order
abbrev pub together : List Pieces → Pieces
together [] = record { visits = 0; fronts = [] }
together (part ∷ later) = record { visits = part.visits + (together later).visits; fronts = part.fronts ++ (together later).fronts }

-- the pieces below a live front. The list has the classes for which the fronts of pieces have counts, but this front has none yet. If it
-- is empty, this front is that of a piece. Else this front is entered, which is one visit, and its live children lead to the pieces
abbrev pub pieces_below : Classes → List Row → Row → List Class → List ℕ → Pieces
pieces_below all closed row [] front = record { visits = 0; fronts = front ∷ [] }
pieces_below all closed row (class ∷ later) front =
    let below = together (map (λ child. pieces_below all closed row later child) (filter (is_live_above all closed row row.b) (map (λ c. front ++ c ∷ []) (counts_of class)))) in
    record { visits = 1 + below.visits; fronts = below.fronts }

-- the pieces in order, with the floor at the row's right side; the empty front counts one visit even if it isn't live
abbrev pub pieces : Classes → List Row → Row → Pieces
pieces all closed row =
    if is_live_above all closed row row.b [] then pieces_below all closed row (take (piece_depth all) all.classes) [] else record { visits = 1; fronts = [] }

-- a composition that a piece found is kept if it weighs more than the floor; its weight is then the floor
abbrev pub keep_heavier : Row → Pricing → Option (List ℕ) → Pricing
keep_heavier row so_far None = so_far
keep_heavier row so_far (Some counts) =
    if int_lt so_far.floor (weight_in row.a counts) then record so_far { floor = weight_in row.a counts; kept = Some counts } else so_far

-- adds the outcome of a piece: its visits, and the composition that it kept if that weighs more than the floor
abbrev pub take_piece : Row → Pricing → Pricing → Pricing
take_piece row so_far piece = keep_heavier row (record so_far { visits = so_far.visits + piece.visits }) piece.kept

-- a wave: each piece is searched with the floor before the wave, and the outcomes are added in order
abbrev pub wave : Classes → List Row → Row → Pricing → List (List ℕ) → Pricing
wave all closed row so_far fronts = fold (take_piece row) so_far (map (λ front. search_from all closed row front so_far.floor) fronts)

-- the fronts of pieces as waves: 16 in each wave, and what is left in the last one
abbrev pub waves : List (List ℕ) → List (List (List ℕ))
waves fronts = map (λ number. take 16 (drop (16 * number) fronts)) (range_with_len 0 ((length fronts + 15) / 16))

-- the search in waves
abbrev pub best_in_waves : Classes → List Row → Row → Pricing
best_in_waves all closed row =
    fold (wave all closed row) (record { visits = (pieces all closed row).visits; floor = row.b; kept = None }) (waves (pieces all closed row).fronts)
