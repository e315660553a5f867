-- The replies of the desk, byte for byte.
use Rattle.std.specs.Prelude.{ℕ, ◌++◌, Bool, true, false, List, [], ◌∷◌, length, map, codes, unwrap_or, Option, Some, None}
use Rattle.std.specs.Fmt.{decimal}
use Rattle.std.specs.List.{flat_map}
use Rattle.http.specs.StatusCode.{reason_phrase}
use Rattle.json.specs.Print.{quoted}

-- a reply: its status, the type of its body, further fields, and its body
pub record Reply : Type 0 where
  pub status : ℕ
  pub media : List ℕ
  pub more : List (List ℕ × List ℕ)
  pub body : List ℕ

-- the end of a line
abbrev pub line_end : List ℕ
line_end = 13 ∷ 10 ∷ []

abbrev pub field_text : List ℕ × List ℕ → List ℕ
field_text field = field.0 ++ codes ": " ++ field.1 ++ line_end

abbrev pub phrase_of : ℕ → List ℕ
phrase_of status = unwrap_or (reason_phrase status) []

abbrev pub status_line : ℕ → List ℕ
status_line status = codes "HTTP/1.1 " ++ decimal status ++ codes " " ++ phrase_of status ++ line_end

abbrev pub fields_of : Reply → List (List ℕ × List ℕ)
fields_of reply = (codes "Content-Type", reply.media) ∷ reply.more ++ (codes "Content-Length", decimal (length reply.body)) ∷ (codes "Connection", codes "close") ∷ []

-- the bytes of a reply: the status line, the fields, an empty line, and the body
abbrev pub reply_text : Reply → List ℕ
reply_text reply = status_line reply.status ++ flat_map field_text (fields_of reply) ++ line_end ++ reply.body

-- ---- the bodies of replies

abbrev pub json_media : List ℕ
json_media = codes "application/json"

abbrev pub text_media : List ℕ
text_media = codes "text/plain; charset=utf-8"

-- a text in JSON, or `null` if there is none
abbrev pub text_or_null : Option (List ℕ) → List ℕ
text_or_null None = codes "null"
text_or_null (Some text) = quoted text

abbrev pub truth : Bool → List ℕ
truth true = codes "true"
truth false = codes "false"

abbrev pub truth_or_null : Option Bool → List ℕ
truth_or_null None = codes "null"
truth_or_null (Some value) = truth value

-- values in JSON with commas between them
abbrev pub listed : List (List ℕ) → List ℕ
listed [] = []
listed (value ∷ []) = value
listed (value ∷ next ∷ values) = value ++ codes "," ++ listed (next ∷ values)

abbrev pub texts : List (List ℕ) → List ℕ
texts all = codes "[" ++ listed (map quoted all) ++ codes "]"

abbrev pub numbers : List ℕ → List ℕ
numbers all = codes "[" ++ listed (map decimal all) ++ codes "]"

-- ---- the replies

-- a reply with a body of JSON
abbrev pub with_json : ℕ → List (List ℕ × List ℕ) → List ℕ → Reply
with_json status more body = record { status = status; media = json_media; more = more; body = body }

abbrev pub status_body : ℕ → List ℕ
status_body status = codes "{\"status\":" ++ decimal status ++ codes "}"

abbrev pub refused_with : ℕ → List (List ℕ × List ℕ) → Reply
refused_with status more = with_json status more (status_body status)

abbrev pub too_large : Reply
too_large = refused_with 413 []

abbrev pub bad_request : Reply
bad_request = refused_with 400 []

-- the reply if the keeper of the tables failed
abbrev pub unavailable : Reply
unavailable = refused_with 503 []

abbrev pub not_found : Reply
not_found = refused_with 404 []

-- the reply if a page that takes only `method` is asked for by another method
abbrev pub not_allowed : List ℕ → Reply
not_allowed method = refused_with 405 ((codes "Allow", method) ∷ [])

-- the reply if there isn't exactly one key, or no volunteer has the key
abbrev pub unknown_key : Reply
unknown_key = refused_with 401 ((codes "WWW-Authenticate", codes "office-key") ∷ [])

abbrev pub too_late : Reply
too_late = refused_with 409 []

-- the reply if memory ran out
abbrev pub out_of_memory : Reply
out_of_memory = refused_with 507 []

abbrev pub told : List ℕ → Reply
told body = with_json 200 [] body

abbrev pub told_text : List ℕ → Reply
told_text body = record { status = 200; media = text_media; more = []; body = body }
