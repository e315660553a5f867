-- Ranges of tickets that follow one another, given by their ends. The contracts of `ranges` cite it.
use Rattle.std.specs.Prelude.{ℕ, ◌-◌, ◌≤◌, List, [], ◌∷◌, ⊤}

-- no range ends before it begins
abbrev pub Rise : ℕ → List ℕ → Type 0
Rise from [] = ⊤
Rise from (end ∷ ends) = (from ≤ end) × Rise end ends

-- the lengths of the ranges, the first of which begins at `from`
abbrev pub gaps : ℕ → List ℕ → List ℕ
gaps from [] = []
gaps from (end ∷ ends) = (end - from) ∷ gaps end ends
