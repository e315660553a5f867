-- All numbers of volunteers in a list, or in each of several lists, are below a count. The contracts of `report_quotas` and
-- `report_heads` cite these conditions, and so does Rounds.
use Rattle.std.specs.Prelude.{ℕ, nat_lt, IsTrue, List}
use Rattle.std.specs.List.{list_all}

-- each number is below `count`
abbrev pub AreBelow : ℕ → List ℕ → Type 0
AreBelow count numbers = IsTrue (list_all (λ i. nat_lt i count) numbers)

-- each number of each group is below `count`
abbrev pub GroupsAreBelow : ℕ → List (List ℕ) → Type 0
GroupsAreBelow count groups = IsTrue (list_all (list_all (λ i. nat_lt i count)) groups)
