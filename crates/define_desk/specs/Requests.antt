-- What the bytes that come over a connection ask the desk for. A request is a head, which ends with its first empty line, and a body,
-- whose size the head gives.
use Rattle.std.specs.Prelude.{◌≡◌, ℕ, ◌+◌, ◌≤◌, ◌==◌, nat_lt, nat_le, if◌then◌else◌, Bool, ◌&&◌, ◌||◌, List, [], ◌∷◌, length, map, filter, take, drop, bytes_eq, codes, Option, Some, None, option_map}
use Rattle.std.specs.Char.{is_ascii_digit, to_ascii_lowercase}
use Rattle.std.specs.List.{list_all, list_any}
use Rattle.std.specs.Str.Parse.{digits_value}
use Rattle.httparse.specs.Grammar.{Field, RequestHead, ReadsRequest, field_value}

-- ---- the head of a request

-- the size of the empty line at the beginning of `bytes`: 1 for LF, 2 for CR LF, and 0 if `bytes` don't begin with an empty line
abbrev pub empty_line : List ℕ → ℕ
empty_line [] = 0
empty_line (byte ∷ []) = if byte == 10 then 1 else 0
empty_line (byte ∷ next ∷ bytes) = if byte == 10 then 1 else if (byte == 13) && (next == 10) then 2 else 0

-- how many bytes a head has: it ends with the first empty line that comes after an LF
abbrev pub head_size : List ℕ → Option ℕ
head_size [] = None
head_size (byte ∷ bytes) = if (byte == 10) && nat_lt 0 (empty_line bytes) then Some (1 + empty_line bytes) else option_map (λ size. size + 1) (head_size bytes)

-- the greatest size of a head in bytes; `most_of_body` is that of a body
abbrev pub most_of_head : ℕ
most_of_head = 8192

abbrev pub most_of_body : ℕ
most_of_body = 65536

-- the size of the head, if it ends within the first `most_of_head` bytes
abbrev pub whole_head : List ℕ → Option ℕ
whole_head bytes = head_size (take most_of_head bytes)

-- the bytes are exactly this head, by the grammar of `httparse`, and the head has at most 64 fields
pub record IsHead (bytes : List ℕ) (head : RequestHead) : Type 0 where
  pub reads : ReadsRequest bytes head []
  pub few : length head.fields ≤ 64

-- ---- the fields of a head

-- the name of a field, which may have capitals, is `name`
abbrev pub is_name : List ℕ → List ℕ → Bool
is_name name written = bytes_eq (map to_ascii_lowercase written) name

-- the values of the fields with a name, without the blanks and tabs at their ends
abbrev pub values_of : List ℕ → List Field → List (List ℕ)
values_of name fields = map field_value (filter (λ field. is_name name field.name) fields)

abbrev pub is_encoded : List Field → Bool
is_encoded fields = list_any (λ field. is_name (codes "transfer-encoding") field.name) fields

-- a number: 1 to 18 digits
abbrev pub is_number : List ℕ → Bool
is_number text = nat_lt 0 (length text) && nat_le (length text) 18 && list_all is_ascii_digit text

-- the size of the body by the values of the fields `Content-Length`: 0 if there is no value, and None if there are two or the only one
-- isn't a number
abbrev pub size_by : List (List ℕ) → Option ℕ
size_by [] = Some 0
size_by (value ∷ []) = if is_number value then Some (digits_value 10 value) else None
size_by (value ∷ other ∷ values) = None

abbrev pub body_size : List Field → Option ℕ
body_size fields = size_by (values_of (codes "content-length") fields)

-- ---- requests

-- a request: its method, its path, and the values of its fields `office-key`
pub record Request : Type 0 where
  pub method : List ℕ
  pub path : List ℕ
  pub keys : List (List ℕ)

-- a target up to its first `?`
abbrev pub path_of : List ℕ → List ℕ
path_of [] = []
path_of (byte ∷ target) = if byte == 63 then [] else byte ∷ path_of target

abbrev pub request_of : RequestHead → Request
request_of head = record { method = head.method; path = path_of head.target; keys = values_of (codes "office-key") head.fields }

-- what bytes ask for: a request (`Asks`), or nothing, because they are too large or are no request
pub data Asking : Type 0 where
  TooLarge : Asking
  NoRequest : Asking
  Asks : (request : Request) → Asking

-- what a head asks for, by the size of its body, which may be None, and the bytes `rest` that follow the head. What the body says doesn't
-- matter
abbrev pub asking_with : RequestHead → List ℕ → Option ℕ → Asking
asking_with head rest None = NoRequest
asking_with head rest (Some size) =
    if nat_lt most_of_body size then TooLarge
    else if is_encoded head.fields || nat_lt (length rest) size then NoRequest
    else Asks (request_of head)

abbrev pub asking_by : RequestHead → List ℕ → Asking
asking_by head rest = asking_with head rest (body_size head.fields)

-- what bytes without a whole head ask for
abbrev pub asking_without : List ℕ → Asking
asking_without bytes = if nat_le most_of_head (length bytes) then TooLarge else NoRequest

-- `bytes`, all that come over a connection, ask for `asking`. They ask for one thing only, since they have at most one head
pub data AreAsking (bytes : List ℕ) (asking : Asking) : Type 0 where
  Headless : whole_head bytes ≡ None → asking ≡ asking_without bytes → AreAsking bytes asking
  Headed : (size : ℕ) (head : RequestHead) → whole_head bytes ≡ Some size → IsHead (take size bytes) head → asking ≡ asking_by head (drop size bytes) → AreAsking bytes asking
  Misheaded : (size : ℕ) → whole_head bytes ≡ Some size → ((head : RequestHead) → ¬ (IsHead (take size bytes) head)) → asking ≡ NoRequest → AreAsking bytes asking
