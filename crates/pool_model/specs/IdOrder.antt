-- The order in which most pools list their ids: shorter ids first, and ids of one length by their bytes. So "v2" comes before "v10".
use Rattle.std.specs.Prelude.{ℕ, Bool, true, ◌&&◌, List, [], ◌∷◌, length}
use Rattle.std.specs.Ordering.{nat_cmp, then_cmp, on, is_lt}
use Rattle.std.specs.Cmp.Lexicographic.{slice_cmp}

abbrev pub precedes : List ℕ → List ℕ → Bool
precedes id other = is_lt (then_cmp (on length nat_cmp) (slice_cmp nat_cmp) id other)

-- the last of these ids precedes `id`, or there is none
abbrev pub follows_last : List (List ℕ) → List ℕ → Bool
follows_last [] id = true
follows_last (last ∷ []) id = precedes last id
follows_last (first ∷ next ∷ later) id = follows_last (next ∷ later) id

-- each id precedes the next one
abbrev pub are_in_order : List (List ℕ) → Bool
are_in_order [] = true
are_in_order (last ∷ []) = true
are_in_order (first ∷ next ∷ later) = precedes first next && are_in_order (next ∷ later)
