-- What a write adds to a text if it succeeds.
use Rattle.std.proofs.Common.{◌≡◌, ℕ, List, ◌++◌, Result, Ok, Err}
use Rattle.std.specs.Bool.{if◌then◌else◌}
use Rattle.std.specs.Result.{OnOk, is_ok}

pub added_if_ok : {T E : Type 0} (result : Result T E) (before added after : List ℕ) → after ≡ (if is_ok result then before ++ added else before) →
    OnOk result (after ≡ before ++ added)
added_if_ok (Ok done) before added after e = e
added_if_ok (Err error) before added after e = tt
