-- What an exported call gives a page in a browser: the text that the command answers for the same bytes and words, and where the text is
-- put. Builds on the shell's answers, lines and subjects. The contract of every exported call cites it.
use Rattle.std.specs.Prelude.{◌≡◌, ◌≤◌, ◌<◌, ◌&&◌, ℕ, Bool, true, false, nat_le, List, length, drop, ◌++◌, codes}
use Rattle.command_shell.specs.Answers.{IsTheAnswer, RightAnswers, Saying, bytes_of}
use Rattle.command_shell.specs.Lines.{input_limit, too_long_line}
use Rattle.command_shell.specs.Subjects.{About, Format}

-- ---- the text

-- the text is that of a right answer about the bytes. If the bytes are more than an input may have, it is the line that says so. `Means`
-- says which answers are right about a value
pub data TextAbout {Value : Type 0} (format : Format Value) (Means : Value → Saying → Type 0) (bytes text : List ℕ) : Type 0 where
  Answers : (answer : Saying) → length bytes ≤ input_limit → About format Means bytes answer → text ≡ bytes_of answer → TextAbout format Means bytes text
  TooLong : input_limit < length bytes → text ≡ too_long_line → TextAbout format Means bytes text

-- the text that a command of this meaning answers about these bytes: that of its one right answer
abbrev pub TextOf : {Value : Type 0} → Format Value → (Value → RightAnswers) → List ℕ → List ℕ → Type 0
TextOf format meaning bytes text = TextAbout format (λ value. IsTheAnswer (meaning value)) bytes text

-- the line for words that are not UTF-8
abbrev pub words_not_utf8_line : List ℕ
words_not_utf8_line = codes "error: invalid UTF-8 was detected in one or more arguments\n"

-- the words of the call are UTF-8 and the text is right, or the words aren't UTF-8 and the text is the line that says so
pub data WithWords (AreUtf8 : Type 0) (Right : List ℕ → Type 0) (text : List ℕ) : Type 0 where
  Read : AreUtf8 → Right text → WithWords AreUtf8 Right text
  NotUtf8 : (AreUtf8 → ⊥) → text ≡ words_not_utf8_line → WithWords AreUtf8 Right text

-- the line for a number of tickets that isn't from 1 to 10^9
abbrev pub tickets_line : List ℕ
tickets_line = codes "error: the number of tickets is from 1 to 1000000000\n"

abbrev pub is_ticket_count : ℕ → Bool
is_ticket_count tickets = nat_le 1 tickets && nat_le tickets 1000000000

-- the number of tickets is one and the text is right, or it is none and the text is the line that says so
pub data WithTickets (tickets : ℕ) (Right : List ℕ → Type 0) (text : List ℕ) : Type 0 where
  Counted : is_ticket_count tickets ≡ true → Right text → WithTickets tickets Right text
  NotCounted : is_ticket_count tickets ≡ false → text ≡ tickets_line → WithTickets tickets Right text

-- ---- where the text is put

-- `count` is the length of the text, which is never 0. If the text fits into the room, it is at the room's beginning, and the rest of the
-- room is as before; else the whole room is as before
pub record IsPut (text before after : List ℕ) (count : ℕ) : Type 0 where
  pub whole : count ≡ length text
  pub some : 1 ≤ count
  pub fits : count ≤ length before → after ≡ text ++ drop count before
  pub short : length before < count → after ≡ before

-- the text is put, or it is empty: then nothing is
pub data IsPutIfAny (text before after : List ℕ) (count : ℕ) : Type 0 where
  Puts : IsPut text before after count → IsPutIfAny text before after count
  PutsNothing : count ≡ 0 → after ≡ before → IsPutIfAny text before after count

-- how a call ends. `Right` says which texts are right
pub data Told (Right : List ℕ → Type 0) (before after : List ℕ) (count : ℕ) : Type 0 where
  -- a right text was told, or the room was too short for it
  Tells : (text : List ℕ) → Right text → IsPut text before after count → Told Right before after count
  -- the count is 0: memory was wanting, which is allowed at any time
  WantsMemory : count ≡ 0 → after ≡ before → Told Right before after count
