-- Narrow numbers, the exact results of operations, and the operations that pass 2^62.
use Rattle.std.specs.Prelude.{◌^◌, ◌≤◌, ◌<◌, ℤ, ◌+ℤ◌, ◌-ℤ◌, ◌*ℤ◌, unsigned_abs, int_div}
use Rattle.prove_limits.specs.declared.passes.Op.{Op}
use Rattle.prove_limits.specs.declared.passes.Op.TheVariants.{Mul, Add, Sub, Div}

-- the absolute value of a number is at most 2^62
abbrev pub IsNarrow : ℤ → Type 0
IsNarrow z = unsigned_abs z ≤ 2 ^ 62

-- the exact result of an operation; Div rounds towards 0
abbrev pub outcome : Op → ℤ → ℤ → ℤ
outcome Mul x y = x *ℤ y
outcome Add x y = x +ℤ y
outcome Sub x y = x -ℤ y
outcome Div x y = int_div x y

-- an operation on two numbers
pub record Operation : Type 0 where
  pub op : Op
  pub x : ℤ
  pub y : ℤ

-- an operation passes 2^62: the absolute value of its exact result is above 2^62
abbrev pub Passes : Operation → Type 0
Passes o = 2 ^ 62 < unsigned_abs (outcome o.op o.x o.y)
