-- The marks of classes. A settled class's mark is the number of the stage at whose close it was settled; an unsettled class's is `never`.
-- Used by the modules `marks` and `width`, and by Parts.
use Rattle.std.specs.Prelude.{◌≢◌, ℕ, ◌-◌, ◌<◌, ◌^◌, nat_le, nat_lt, ◌==◌, ◌&&◌, if◌then◌else◌, Bool, List, [], ◌∷◌, map, ℤ, pos, int_lt}
use Rattle.std.specs.List.{All, range_with_len}

-- the mark of a class that is not settled
abbrev pub never : ℕ
never = 2 ^ 64 - 1

-- for each class, whether it was unsettled before stage `stage`
abbrev pub unsettled_before : List ℕ → ℕ → List Bool
unsettled_before settled_at stage = map (λ at. nat_le stage at) settled_at

-- for each stage that was entered, which classes were unsettled when it was entered
abbrev pub marks_of : List ℕ → ℕ → List (List Bool)
marks_of settled_at stages = map (unsettled_before settled_at) (range_with_len 0 stages)

-- for each class, whether it is settled
abbrev pub settled_of : List ℕ → List Bool
settled_of settled_at = map (λ at. nat_lt at never) settled_at

-- each mark that isn't `never` is the number of a stage that was entered
abbrev pub AreMarks : List ℕ → ℕ → Type 0
AreMarks settled_at stages = All (λ at. at ≢ never → at < stages) settled_at

-- the marks after stage `stage` closes: unsettled classes of positive entry get the stage's number, and the other marks stay
abbrev pub settled_marks : ℕ → List ℤ → List ℕ → List ℕ
settled_marks stage [] marks = marks
settled_marks stage (x ∷ xs) [] = []
settled_marks stage (x ∷ xs) (at ∷ marks) = (if at == never && int_lt (pos 0) x then stage else at) ∷ settled_marks stage xs marks
