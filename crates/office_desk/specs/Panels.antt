-- The condition that each of some numbers of volunteers is below a count. Used by the module `public_pages`.
use Rattle.std.specs.Prelude.{ℕ, nat_lt, IsTrue, List}
use Rattle.std.specs.List.{list_all}

-- each number is below `count`
abbrev pub AreBelow : ℕ → List ℕ → Type 0
AreBelow count numbers = IsTrue (list_all (λ i. nat_lt i count) numbers)
