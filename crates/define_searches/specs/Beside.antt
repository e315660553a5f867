-- Two lists whose elements belong together place by place, as rows and their tables or weights. Weights builds on it.
use Rattle.std.specs.Prelude.{◌≡◌, ℕ, List, length, slice_get, Some}

-- the two lists have the same length, and P holds of any two elements in the same place
pub record EachHas {X Y : Type 0} (P : X → Y → Type 0) (xs : List X) (ys : List Y) : Type 0 where
  pub one_each : length ys ≡ length xs
  pub each : (i : ℕ) (x : X) (y : Y) → slice_get xs i ≡ Some x → slice_get ys i ≡ Some y → P x y

-- `ys` has `done` elements, and P holds of any element of `xs` and element of `ys` in the same place
pub record FirstHave {X Y : Type 0} (P : X → Y → Type 0) (xs : List X) (done : ℕ) (ys : List Y) : Type 0 where
  pub long : length ys ≡ done
  pub each : (i : ℕ) (x : X) (y : Y) → slice_get xs i ≡ Some x → slice_get ys i ≡ Some y → P x y
