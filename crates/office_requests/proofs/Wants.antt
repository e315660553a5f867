-- What a head asks for, by its parts.
use Rattle.std.proofs.Common.{◌≡◌, ℕ, ◌<◌, ◌≤◌, nat_lt, ◌||◌, cond, Bool, false, true, List, codes, length, take, Option, Some, None, Result, Ok, Err, IfOk, refl, sym, ap, ◌∙◌, arith}
use Rattle.std.specs.List.{list_any}
use Rattle.std.proofs.lemmas.Bool.Decides.{nat_tests}
use Rattle.httparse.specs.Grammar.{RequestHead}
use Rattle.httparse.specs.Spans.{IsRequestAt, span_bytes}
use Rattle.httparse.specs.declared.spans.HeaderSpan.{HeaderSpan}
use Rattle.httparse.specs.declared.spans.RequestSpans.{RequestSpans}
use Rattle.define_desk.specs.Requests.{Asking, Asks, NoRequest, Request, TooLarge, asking_by, asking_with, is_encoded, is_name, most_of_body, path_of, request_of, size_by}
use Rattle.office_requests.specs.Heads.{Headed, IsHeadAt, IsWanted, asks_then, pairs_at, values_with}
use Rattle.office_requests.specs.declared.heads.Wanted.{Wanted}
use Rattle.office_requests.proofs.FieldLaws.{any_same, values_same}

-- what a head asks for, given its request, the bytes after it, whether its body is encoded, and the size of its body
abbrev asked : Request → List ℕ → Bool → Option ℕ → Asking
asked request rest encoded None = NoRequest
asked request rest encoded (Some size) = cond (nat_lt most_of_body size) TooLarge (cond (encoded || nat_lt (length rest) size) NoRequest (Asks request))

asked_by_head : (h : RequestHead) (rest : List ℕ) (size : Option ℕ) → asking_with h rest size ≡ asked (request_of h) rest (is_encoded h.fields) size
asked_by_head h rest None = refl
asked_by_head h rest (Some size) = refl

sized : (head : List ℕ) (fields : List HeaderSpan) (spans : RequestSpans) (h : RequestHead) (rest : List ℕ) (size : Option ℕ) → IsRequestAt head fields spans h
    → size ≡ size_by (values_with (codes "content-length") (pairs_at head (take spans.headers fields)))
    → asking_by h rest ≡ asked (request_of h) rest (is_encoded h.fields) size
sized head fields spans h rest size at e =
    ap (asking_with h rest) (sym (e ∙ ap size_by (values_same (codes "content-length") head (take spans.headers fields) h.fields at.fields))) ∙ asked_by_head h rest size

pub without_size : (head : List ℕ) (fields : List HeaderSpan) (spans : RequestSpans) (h : RequestHead) (rest : List ℕ) → IsRequestAt head fields spans h
    → None ≡ size_by (values_with (codes "content-length") (pairs_at head (take spans.headers fields))) → NoRequest ≡ asking_by h rest
without_size head fields spans h rest at e = sym (sized head fields spans h rest None at e)

pub with_much : (head : List ℕ) (fields : List HeaderSpan) (spans : RequestSpans) (h : RequestHead) (rest : List ℕ) (size : ℕ) → IsRequestAt head fields spans h
    → Some size ≡ size_by (values_with (codes "content-length") (pairs_at head (take spans.headers fields))) → most_of_body < size → TooLarge ≡ asking_by h rest
with_much head fields spans h rest size at e much =
    let test : nat_lt most_of_body size ≡ true = grind (arith, nat_tests) in
    sym (sized head fields spans h rest (Some size) at e
    ∙ ap (λ t. cond t TooLarge (cond (is_encoded h.fields || nat_lt (length rest) size) NoRequest (Asks (request_of h)))) test)

within : (head : List ℕ) (fields : List HeaderSpan) (spans : RequestSpans) (h : RequestHead) (rest : List ℕ) (size : ℕ) (encoded : Bool) → IsRequestAt head fields spans h
    → Some size ≡ size_by (values_with (codes "content-length") (pairs_at head (take spans.headers fields))) → size ≤ most_of_body
    → encoded ≡ list_any (λ span. is_name (codes "transfer-encoding") (span_bytes head span.name)) (take spans.headers fields)
    → asking_by h rest ≡ cond (encoded || nat_lt (length rest) size) NoRequest (Asks (request_of h))
within head fields spans h rest size encoded at e few is =
    let test : nat_lt most_of_body size ≡ false = grind (arith, nat_tests) in
    let same : is_encoded h.fields ≡ encoded = sym (is ∙ any_same (codes "transfer-encoding") head (take spans.headers fields) h.fields at.fields) in
    sized head fields spans h rest (Some size) at e
    ∙ ap (λ t. cond t TooLarge (cond (is_encoded h.fields || nat_lt (length rest) size) NoRequest (Asks (request_of h)))) test
    ∙ ap (λ t. cond (t || nat_lt (length rest) size) NoRequest (Asks (request_of h))) same

pub with_encoding : (head : List ℕ) (fields : List HeaderSpan) (spans : RequestSpans) (h : RequestHead) (rest : List ℕ) (size : ℕ) (encoded : Bool) → IsRequestAt head fields spans h
    → Some size ≡ size_by (values_with (codes "content-length") (pairs_at head (take spans.headers fields))) → size ≤ most_of_body
    → encoded ≡ list_any (λ span. is_name (codes "transfer-encoding") (span_bytes head span.name)) (take spans.headers fields) → encoded ≡ true
    → NoRequest ≡ asking_by h rest
with_encoding head fields spans h rest size encoded at e few is so =
    sym (within head fields spans h rest size encoded at e few is ∙ ap (λ t. cond (t || nat_lt (length rest) size) NoRequest (Asks (request_of h))) so)

-- the request made of the bytes that the spans cover is that of the head
request_same : (head : List ℕ) (fields : List HeaderSpan) (spans : RequestSpans) (h : RequestHead) (request : Request) → IsRequestAt head fields spans h
    → request ≡ record { method = span_bytes head spans.method; path = path_of (span_bytes head spans.path); keys = values_with (codes "office-key") (pairs_at head (take spans.headers fields)) }
    → request ≡ request_of h
request_same head fields spans h request at is =
    let keys = values_same (codes "office-key") head (take spans.headers fields) h.fields at.fields in
    let made : List ℕ → List ℕ → List (List ℕ) → Request = λ method path keys. record { method = method; path = path; keys = keys } in
    is ∙ ap (λ m. made m (path_of (span_bytes head spans.path)) (values_with (codes "office-key") (pairs_at head (take spans.headers fields)))) at.method
    ∙ ap (λ p. made h.method (path_of p) (values_with (codes "office-key") (pairs_at head (take spans.headers fields)))) at.path
    ∙ ap (λ k. made h.method (path_of h.target) k) keys

pub with_request : (head : List ℕ) (fields : List HeaderSpan) (spans : RequestSpans) (h : RequestHead) (rest : List ℕ) (size : ℕ) (encoded : Bool) (request : Request)
    → IsRequestAt head fields spans h
    → Some size ≡ size_by (values_with (codes "content-length") (pairs_at head (take spans.headers fields))) → size ≤ most_of_body
    → encoded ≡ list_any (λ span. is_name (codes "transfer-encoding") (span_bytes head span.name)) (take spans.headers fields) → encoded ≡ false
    → request ≡ record { method = span_bytes head spans.method; path = path_of (span_bytes head spans.path); keys = values_with (codes "office-key") (pairs_at head (take spans.headers fields)) }
    → cond (nat_lt (length rest) size) NoRequest (Asks request) ≡ asking_by h rest
with_request head fields spans h rest size encoded request at e few is other made =
    ap (λ r. cond (nat_lt (length rest) size) NoRequest (Asks r)) (request_same head fields spans h request at made)
    ∙ sym (within head fields spans h rest size encoded at e few is ∙ ap (λ t. cond (t || nat_lt (length rest) size) NoRequest (Asks (request_of h))) other)

-- if the spans give a head, and `wanted` asks for what that head asks for, whatever follows, then `IsWanted` holds
pub wanted_from : {E : Type 0} (result : Result Wanted E) (head : List ℕ) (fields : List HeaderSpan) (spans : RequestSpans) → ((h : RequestHead) × IsHeadAt head fields spans h)
    → IfOk result (λ wanted. (h : RequestHead) → IsRequestAt head fields spans h → (rest : List ℕ) → asks_then wanted rest ≡ asking_by h rest) → IfOk result (IsWanted head)
wanted_from (Ok wanted) head fields spans it asks = λ rest. Headed it.0 it.1.is (asks it.0 it.1.at rest)
wanted_from (Err e) head fields spans it asks = tt
