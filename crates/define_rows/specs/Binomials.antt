-- In how many ways some of `n` things can be chosen, and how many bases a simplex table could have. Builds on nothing of this repository.
use Rattle.std.specs.Prelude.{ℕ, zero, suc, ◌+◌}

-- the binomial coefficient: the number of ways to choose `size` of `n` things. Those ways that choose the first thing, and those that don't
unfoldable pub binomial : ℕ → ℕ → ℕ
binomial n zero = 1
binomial zero (suc size) = 0
binomial (suc n) (suc size) = binomial n size + binomial n (suc size)

-- How many bases a table could have: with `classes` classes, `stages` stage variables and `columns` columns, one variable of them all for
-- each of its `classes + 1` rows
abbrev pub basis_count : ℕ → ℕ → ℕ → ℕ
basis_count classes stages columns = binomial (classes + stages + columns) (classes + 1)
