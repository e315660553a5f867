-- Why the keeper counted a fault, for another reason that follows.
use Rattle.std.proofs.Common.{◌≡◌, ◌≤◌, ℕ, Bool, true, false}
use Rattle.std.specs.Bool.{MatchBool}
use Rattle.outside.specs.Faults.{Rose}

pub because : (One Other : Type 0) (test : Bool) (before now : ℕ) → (One → Other) → MatchBool test ((before ≤ now) × Rose before now × One) (now ≡ before) →
    MatchBool test ((before ≤ now) × Rose before now × Other) (now ≡ before)
because One Other true before now so (up, rose, one) = (up, rose, so one)
because One Other false before now so same = same
