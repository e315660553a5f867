-- Stages of a certificate as rows over classes. Builds on Classes, on Certificate of `define_pools`, and on the rows of `define_rows`. The
-- laws of the run and the checks use them.
use Rattle.std.specs.Prelude.{◌≡◌, ℕ, ◌<◌, Bool, IsTrue, List, map, length}
use Rattle.std.specs.List.{AllByRecursion}
use Rattle.define_pools.specs.Pool.{Pool}
use Rattle.define_pools.specs.Certificate.{Stage, weight_of}
use Rattle.define_rows.specs.Row.{Row}
use Rattle.define_searches.specs.Classes.{leaders}

-- each stage gives the same weight to volunteers who are alike, among the first `count` volunteers
abbrev pub WeighAlike : (ℕ → ℕ → Bool) → ℕ → List Stage → Type 0
WeighAlike alike count stages = AllByRecursion (λ stage. (i j : ℕ) → i < count → j < count → IsTrue (alike i j) → weight_of stage i ≡ weight_of stage j) stages

-- the row of a stage: its cap, and for each class the weight of its first member
abbrev pub row_of : (ℕ → ℕ → Bool) → Pool → Stage → Row
row_of alike pool stage = record { b = stage.cap; a = map (weight_of stage) (leaders alike (length pool.volunteers)) }
