-- How many bytes several reads take in all.
use Rattle.std.proofs.Common.{◌≡◌, ℕ, ◌+◌, ◌-◌, ◌≤◌, List, ◌++◌, length, take, ap, arith, length-append}
use Rattle.std.proofs.lemmas.List.{length-take-le}

-- if the bytes read and the `left` bytes still to be read are `count` in all, they still are after `taken` more were read
pub count_after : (bytes room : List ℕ) (taken left count : ℕ) → taken ≤ length room → taken ≤ left → length bytes + left ≡ count
    → length (bytes ++ take taken room) + (left - taken) ≡ count
count_after bytes room taken left count fits few all =
    omega (arith, length-append bytes (take taken room), length-take-le taken room fits)

-- `old` are the bytes that were read before a read into `room`, and `all` those after it. If the length of `room` is at most
-- `most - length old`, `all` are at most `most` bytes
pub within_after : (old room all : List ℕ) (count size most : ℕ) → all ≡ old ++ take count room → count ≤ length room → length room ≤ size → size ≤ most - length old → length old ≤ most
    → length all ≤ most
within_after old room all count size most is fits few left within =
    omega (arith, ap length is, length-append old (take count room), length-take-le count room fits)
