-- What is read from a link.
use Rattle.std.specs.Prelude.{◌≡◌, ℕ, ◌+◌, ◌<◌, ◌≤◌, Bool, List, length, MatchBool, Option, None, IfSome}
use Rattle.std.specs.Io.KnownBytes.{Consumes, IsAtEnd}
use Rattle.define_desk.specs.Requests.{head_size, most_of_body, most_of_head}

-- `bytes`, at most `most_of_head`, were read. `head` is the size of the head with which they begin. If it is None, `most_of_head` bytes
-- were read, or the link is at its end
pub record ReadsFront (old new : Option (List ℕ)) (bytes : List ℕ) (head : Option ℕ) : Type 0 where
  pub read : Consumes old new bytes
  pub head_is : head ≡ head_size bytes
  pub within : length bytes ≤ most_of_head
  pub fits : IfSome head (λ size. size ≤ length bytes)
  pub ended : head ≡ None → length bytes < most_of_head → IsAtEnd new

-- `count` bytes were read, if `are_all`; else fewer, since the link ended
abbrev pub Skips : ℕ → Option (List ℕ) → Option (List ℕ) → Bool → Type 0
Skips count old new are_all =
    (bytes : List ℕ) × Consumes old new bytes × MatchBool are_all (length bytes ≡ count) ((length bytes < count) × IsAtEnd new)

-- at most `most` bytes were read
abbrev pub LosesAtMost : ℕ → Option (List ℕ) → Option (List ℕ) → Type 0
LosesAtMost most old new = (bytes : List ℕ) × Consumes old new bytes × (length bytes ≤ most)

-- the most bytes that are read for one request
abbrev pub most_read : ℕ
most_read = most_of_head + most_of_body
