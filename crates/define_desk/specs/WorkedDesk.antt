-- Requests to the desk over the tables of WorkedOffice of `define_offices`, and its replies, byte for byte.
use Rattle.std.specs.Prelude.{ℕ, true, List, [], ◌∷◌, codes, None, Some}
use Rattle.httparse.specs.Grammar.{Field, RequestHead, crlf}
use Rattle.define_offices.specs.Deciding.{entry_of}
use Rattle.define_offices.specs.Tables.{Round, Open, Solved, Sealed, Drawn, Tables}
use Rattle.define_offices.specs.WorkedOffice.{a, b, c, d, drawn, first_bundle, given, in_rounds, second_bundle, with_rows}
use Rattle.define_desk.specs.Requests.{Request}

abbrev pub asked_with : List ℕ → List ℕ → List (List ℕ) → Request
asked_with method path keys = record { method = method; path = path; keys = keys }

abbrev pub get : List ℕ → Request
get path = asked_with (codes "GET") path []

abbrev pub get_own : List ℕ → Request
get_own key = asked_with (codes "GET") (codes "/me") (key ∷ [])

abbrev pub get_seat : List ℕ → Request
get_seat key = asked_with (codes "GET") (codes "/me/seat") (key ∷ [])

abbrev pub post_withdrawal : List ℕ → Request
post_withdrawal key = asked_with (codes "POST") (codes "/me/withdraw") (key ∷ [])

-- ---- the tables of the examples

-- a has the same row, and all other rows differ
abbrev pub others_differ : Tables
others_differ = record with_rows {
  register = entry_of a ∷ entry_of (given (codes "e") (codes "k5") (codes "male")) ∷ record (entry_of (given (codes "f") (codes "k6") (codes "male"))) { withdrawn = true } ∷ [];
}

abbrev pub a_withdrew : Tables
a_withdrew = record with_rows { register = record (entry_of a) { withdrawn = true } ∷ entry_of b ∷ entry_of c ∷ entry_of d ∷ [] }

abbrev pub solved_round : Tables
solved_round = in_rounds (Solved first_bundle ∷ [])

abbrev pub sealed_round : Tables
sealed_round = in_rounds (Sealed first_bundle None ∷ [])

-- the digits `0` drew a and c, and a dropped out
abbrev pub drawn_round : Tables
drawn_round = in_rounds (drawn (codes "a" ∷ []) ∷ [])

-- a second round is open, in which c is seated
abbrev pub second_round : Tables
second_round = in_rounds (drawn (codes "a" ∷ []) ∷ Open ∷ [])

-- the second round drew b and c, and c dropped out
abbrev pub second_drawn : Round
second_drawn = Drawn second_bundle None (codes "0") (codes "c" ∷ [])

abbrev pub drawn_again : Tables
drawn_again = in_rounds (drawn (codes "a" ∷ []) ∷ second_drawn ∷ [])

-- a third round is open, in which b is seated
abbrev pub third_round : Tables
third_round = in_rounds (drawn (codes "a" ∷ []) ∷ second_drawn ∷ Open ∷ [])

-- ---- the bytes of the examples

-- a request for `/me` with the key of a; `own_head` is its head
abbrev pub own_bytes : List ℕ
own_bytes = codes "GET /me HTTP/1.1\r\nOffice-Key: abc\r\n\r\n"

abbrev pub own_head : RequestHead
own_head = record {
  blank = [];
  method = codes "GET";
  target = codes "/me";
  minor = 1;
  line_end = crlf;
  fields = record { name = codes "Office-Key"; raw = codes " abc"; end = crlf } ∷ [];
  last = crlf;
}

abbrev pub field : List ℕ → List ℕ → Field
field name raw = record { name = name; raw = raw; end = crlf }

-- the head of a withdrawal with these fields
abbrev pub post_with : List Field → RequestHead
post_with fields = record own_head { method = codes "POST"; target = codes "/me/withdraw?now"; fields = fields }

-- the whole reply to `own_bytes` while the first round is open
abbrev pub own_told : List ℕ
own_told = codes "HTTP/1.1 200 OK\r\nContent-Type: application/json\r\nContent-Length: 80\r\nConnection: close\r\n\r\n{\"chance\":null,\"drawn\":null,\"id\":\"a\",\"phase\":\"Open\",\"round\":1,\"withdrawn\":false}"

-- the first round, drawn in 10 tickets by the digit 7
abbrev pub drawn_in_ten : Tables
drawn_in_ten = in_rounds (Drawn first_bundle (Some 10) (codes "7") [] ∷ [])
