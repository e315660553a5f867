use Rattle.std.proofs.Common.{ℕ, ◌/◌, ◌%◌, ◌^◌, ◌<◌, arith}
use Rattle.define_made_pools.specs.Generator.{state}
use Rattle.define_made_pools.proofs.numbers_have_31_bits.Goals as goal

upper : (x : ℕ) → x % 2 ^ 64 / 2 ^ 33 < 2 ^ 31
upper x = omega arith

pub returns : goal.returns
unfolding state
returns c seed place = upper _
