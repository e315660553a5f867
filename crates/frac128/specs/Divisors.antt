-- Common divisors and common multiples of whole numbers of any size. Uses no other file. Fractions builds on it; the exact table, spreading
-- and the run use it too.
use Rattle.std.specs.Prelude.{ℕ, zero, suc, ◌*◌, ◌/◌, ◌%◌, max, ◌==◌, ◌&&◌, if◌then◌else◌, Bool, List}
use Rattle.std.specs.Int.{IsGcd, ◌∣◌}
use Rattle.std.specs.List.{fold}

-- d divides n: the remainder is 0
abbrev pub divides : ℕ → ℕ → Bool
divides d n = n % d == 0

-- the greatest number from 1 to the first argument that divides both x and y, or 0 if there is none
unfoldable pub common_divisor_up_to : ℕ → ℕ → ℕ → ℕ
common_divisor_up_to zero x y = 0
common_divisor_up_to (suc d) x y =
    if divides (suc d) x && divides (suc d) y then suc d else common_divisor_up_to d x y

-- the greatest common divisor of x and y; that of 0 and 0 is 0
unfoldable pub gcd_of : ℕ → ℕ → ℕ
gcd_of x y = common_divisor_up_to (max x y) x y

-- g is the greatest common divisor of x and y: it divides both, and each number that divides both divides it
unfoldable pub IsGreatestCommonDivisor : ℕ → ℕ → ℕ → Type 0
IsGreatestCommonDivisor x y g = IsGcd x y g

-- the greatest common divisor of all numbers of a list; 0 if each is 0
abbrev pub gcd_of_list : List ℕ → ℕ
gcd_of_list xs = fold gcd_of 0 xs

-- m is the least common multiple of x and y: a multiple of both, and each number that is a multiple of both is a multiple of m
unfoldable pub IsLeastCommonMultiple : ℕ → ℕ → ℕ → Type 0
IsLeastCommonMultiple x y m = (x ∣ m) × (y ∣ m) × ((n : ℕ) → x ∣ n → y ∣ n → m ∣ n)

-- the least common multiple of x and y, if x is above 0
unfoldable pub lcm_of : ℕ → ℕ → ℕ
lcm_of x y = x / gcd_of x y * y
