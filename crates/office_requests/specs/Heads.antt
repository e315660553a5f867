-- What a head asks for, by the bytes of its fields, whatever bytes follow it.
use Rattle.std.specs.Prelude.{◌≡◌, ℕ, nat_lt, if◌then◌else◌, List, [], ◌∷◌, length, map, IsUtf8}
use Rattle.httparse.specs.Grammar.{RequestHead}
use Rattle.httparse.specs.Spans.{IsRequestAt, IsRequestWithin, header_bytes, span_bytes}
use Rattle.httparse.specs.declared.spans.HeaderSpan.{HeaderSpan}
use Rattle.httparse.specs.declared.spans.RequestSpans.{RequestSpans}
use Rattle.define_desk.specs.Requests as desk
use Rattle.office_requests.specs.declared.heads.Wanted.{Wanted}
use Rattle.office_requests.specs.declared.heads.Wanted.TheVariants.{TooLarge, NoRequest, Asks}

-- ---- fields, as pairs of a name and a value

-- the fields that these spans of the head cover
abbrev pub pairs_at : List ℕ → List HeaderSpan → List (List ℕ × List ℕ)
pairs_at head spans = map (header_bytes head) spans

-- the values of the fields with a name
abbrev pub values_with : List ℕ → List (List ℕ × List ℕ) → List (List ℕ)
values_with name [] = []
values_with name (pair ∷ pairs) = if desk.is_name name pair.0 then pair.1 ∷ values_with name pairs else values_with name pairs

-- ---- heads

-- the bytes `head` spell the head `h` of at most 64 fields, and the spans cover its parts
pub record IsHeadAt (head : List ℕ) (fields : List HeaderSpan) (spans : RequestSpans) (h : RequestHead) : Type 0 where
  pub is : desk.IsHead head h
  pub at : IsRequestAt head fields spans h

-- the spans cover the parts of the head, and its target is UTF-8
pub record IsHeadBy (head : List ℕ) (fields : List HeaderSpan) (spans : RequestSpans) : Type 0 where
  pub within : IsRequestWithin head fields spans
  pub whole : spans.len ≡ length head
  pub target : IsUtf8 (span_bytes head spans.path)

-- what a head with this `Wanted` asks for if the bytes `rest` follow it
abbrev pub asks_then : Wanted → List ℕ → desk.Asking
asks_then TooLarge rest = desk.TooLarge
asks_then NoRequest rest = desk.NoRequest
asks_then (Asks request body) rest = if nat_lt (length rest) body then desk.NoRequest else desk.Asks request

-- how many bytes must follow the head
abbrev pub body_after : Wanted → ℕ
body_after TooLarge = 0
body_after NoRequest = 0
body_after (Asks request body) = body

-- `head` is a whole head, `rest` follows it, and together they ask for `asking`
pub data AskTogether (head rest : List ℕ) (asking : desk.Asking) : Type 0 where
  Headed : (h : RequestHead) → desk.IsHead head h → asking ≡ desk.asking_by h rest → AskTogether head rest asking
  Misheaded : ((h : RequestHead) → ¬ (desk.IsHead head h)) → asking ≡ desk.NoRequest → AskTogether head rest asking

-- whatever follows the head, it asks for what `asks_then wanted` says
abbrev pub IsWanted : List ℕ → Wanted → Type 0
IsWanted head wanted = (rest : List ℕ) → AskTogether head rest (asks_then wanted rest)
