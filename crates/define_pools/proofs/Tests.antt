-- Laws of Boolean tests: of `not a || b`, and of a comparison if one is added on both sides.
use Rattle.std.proofs.Common.{◌≡◌, ℕ, suc, ◌+◌, Bool, true, false, not, ◌||◌, ltb, refl, arith}
use Rattle.std.proofs.lemmas.Bool.{false≢true}
use Rattle.std.proofs.lemmas.Bool.Decides.{nat_tests}

-- if `not a || b` holds and `a` holds, `b` holds
pub implied : (a b : Bool) → (not a || b) ≡ true → a ≡ true → b ≡ true
implied true b h e = h
implied false b h e = absurd (false≢true e)

-- if `a` implies `b`, `not a || b` holds
pub implies : (a b : Bool) → (a ≡ true → b ≡ true) → (not a || b) ≡ true
implies true b h = h refl
implies false b h = refl

-- adding one on both sides doesn't change a comparison
pub ltb-more : (m n : ℕ) → ltb (1 + m) (suc n) ≡ ltb m n
ltb-more m n = grind (arith, nat_tests)
