-- Where a head ends: the search byte by byte, and the search after more bytes were read.
use Rattle.std.proofs.Common.{◌≡◌, ℕ, ◌+◌, ◌-◌, ◌<◌, ◌≤◌, ◌==◌, nat_lt, ◌&&◌, cond, Bool, false, true, List, [], ◌∷◌, ◌++◌, length, get_or, take, drop, Option, Some, None, option_map, refl, sym, ap, ◌∙◌, zero-add, suc, arith}
use Rattle.std.proofs.lemmas.Bool.Decides.{nat_tests}
use Rattle.std.proofs.lemmas.List.{drop_more, take_all, take-append-le, take_rest}
use Rattle.std.proofs.Math.Seq.{take-append-add}
use Rattle.define_desk.specs.Requests.{empty_line, head_size, most_of_head, whole_head}

-- `count` added to the size of a head, or None if there is no head
abbrev pub further : ℕ → Option ℕ → Option ℕ
further count size = option_map (λ n. count + n) size

pub further-zero : (size : Option ℕ) → size ≡ further 0 size
further-zero None = refl
further-zero (Some n) = ap Some (sym (zero-add n))

further-one : (count : ℕ) (size : Option ℕ) → further count (option_map (λ n. n + 1) size) ≡ further (count + 1) size
further-one count None = refl
further-one count (Some n) = let e : count + (n + 1) ≡ count + 1 + n = omega arith in ap Some e

one-further : (count : ℕ) (size : Option ℕ) → option_map (λ n. n + 1) (further count size) ≡ further (suc count) size
one-further count None = refl
one-further count (Some n) = let e : count + n + 1 ≡ suc count + n = omega arith in ap Some e

-- if `byte` is no LF before an empty line, the head is one byte longer than that of the bytes after `byte`
past : (byte : ℕ) (bytes : List ℕ) → (byte ≡ 10 → empty_line bytes ≡ 0) → head_size (byte ∷ bytes) ≡ option_map (λ n. n + 1) (head_size bytes)
past byte bytes h =
    let test : ((byte == 10) && nat_lt 0 (empty_line bytes)) ≡ false = grind (arith, nat_tests) in
    ap (λ t. cond t (Some (1 + empty_line bytes)) (option_map (λ n. n + 1) (head_size bytes))) test

-- if `byte` is an LF before an empty line, the head ends with this line
found : (byte : ℕ) (bytes : List ℕ) → byte ≡ 10 → 0 < empty_line bytes → head_size (byte ∷ bytes) ≡ Some (1 + empty_line bytes)
found byte bytes e h =
    let test : ((byte == 10) && nat_lt 0 (empty_line bytes)) ≡ true = grind (arith, nat_tests) in
    ap (λ t. cond t (Some (1 + empty_line bytes)) (option_map (λ n. n + 1) (head_size bytes))) test

pub head_size-passed : (bytes : List ℕ) (at : ℕ) → at < length bytes → (get_or bytes at 0 ≡ 10 → empty_line (drop (at + 1) bytes) ≡ 0)
    → head_size bytes ≡ further at (head_size (drop at bytes)) → head_size bytes ≡ further (at + 1) (head_size (drop (at + 1) bytes))
head_size-passed bytes at within h e =
    e ∙ ap (λ xs. further at (head_size xs)) (drop_more bytes at 0 within)
    ∙ ap (further at) (past (get_or bytes at 0) (drop (at + 1) bytes) h)
    ∙ further-one at (head_size (drop (at + 1) bytes))

pub head_size-found : (bytes : List ℕ) (at : ℕ) → at < length bytes → get_or bytes at 0 ≡ 10 → 0 < empty_line (drop (at + 1) bytes)
    → head_size bytes ≡ further at (head_size (drop at bytes)) → Some (at + 1 + empty_line (drop (at + 1) bytes)) ≡ head_size bytes
head_size-found bytes at within is h e =
    let sum : at + 1 + empty_line (drop (at + 1) bytes) ≡ at + (1 + empty_line (drop (at + 1) bytes)) = omega arith in
    ap Some sum ∙ ap (further at) (sym (found (get_or bytes at 0) (drop (at + 1) bytes) is h))
    ∙ ap (λ xs. further at (head_size xs)) (sym (drop_more bytes at 0 within)) ∙ sym e

-- ---- the search with one more byte in front

pub none_further : (test : Bool) (n : ℕ) (size : Option ℕ) → cond test (Some n) (option_map (λ m. m + 1) size) ≡ None → (test ≡ false) × (size ≡ None)
none_further true n size e = absurd (let clash : ⊥ = cc in clash)
none_further false n None e = (refl, refl)
none_further false n (Some m) e = absurd (let clash : ⊥ = cc in clash)

-- a single byte has no head; `test` is whether it is an LF
one_byte_by : (test : Bool) (n : ℕ) (rest : Option ℕ) → rest ≡ None → cond (test && false) (Some n) rest ≡ None
one_byte_by true n rest e = e
one_byte_by false n rest e = e

one_byte : (byte : ℕ) → head_size (byte ∷ []) ≡ None
one_byte byte = let none : Option ℕ = None in one_byte_by (byte == 10) 1 none refl

first_found : (test : Bool) (n size : ℕ) (rest : Option ℕ) → rest ≡ None → cond test (Some n) (option_map (λ m. m + 1) rest) ≡ Some size
    → (test ≡ true) × (Some n ≡ Some size)
first_found true n size rest none e = (refl, e)
first_found false n size rest none e = absurd (let lost : None ≡ Some size = ap (option_map (λ m. m + 1)) (sym none) ∙ e in let clash : ⊥ = cc in clash)

carried : (test : Bool) (n size : ℕ) (rest more : Option ℕ) → cond test (Some n) (option_map (λ m. m + 1) rest) ≡ Some size
    → ((m : ℕ) → rest ≡ Some m → more ≡ Some m) → cond test (Some n) (option_map (λ m. m + 1) more) ≡ Some size
carried true n size rest more e h = e
carried false n size None more e h = absurd (let clash : ⊥ = cc in clash)
carried false n size (Some m) more e h = ap (option_map (λ m. m + 1)) (h m refl) ∙ e

bounded : (test : Bool) (n size len : ℕ) (rest : Option ℕ) → cond test (Some n) (option_map (λ m. m + 1) rest) ≡ Some size → n ≤ suc len
    → ((m : ℕ) → rest ≡ Some m → m ≤ len) → size ≤ suc len
bounded true n size len rest e first h = let same : n ≡ size = cc in omega arith
bounded false n size len None e first h = absurd (let clash : ⊥ = cc in clash)
bounded false n size len (Some m) e first h =
    let same : m + 1 ≡ size = cc in
    let small : m ≤ len = h m refl in
    omega arith

-- ---- the search when more bytes follow

only_by : (test other : Bool) → 0 < cond test 1 0 → ◌≡◌ {A = ℕ} (cond test 1 (cond other 2 0)) (cond test 1 0)
only_by true other h = refl
only_by false other h = absurd (omega arith)

only : (byte next : ℕ) → 0 < cond (byte == 10) 1 0 → ◌≡◌ {A = ℕ} (cond (byte == 10) 1 (cond ((byte == 13) && (next == 10)) 2 0)) (cond (byte == 10) 1 0)
only byte next h = only_by (byte == 10) ((byte == 13) && (next == 10)) h

empty_line-append : (bytes more : List ℕ) → 0 < empty_line bytes → empty_line (bytes ++ more) ≡ empty_line bytes
empty_line-append [] more h = absurd (omega arith)
empty_line-append (byte ∷ []) [] h = refl
empty_line-append (byte ∷ []) (next ∷ more) h = only byte next h
empty_line-append (byte ∷ next ∷ bytes) more h = refl

at_most_two : (test other : Bool) (n : ℕ) → cond test 1 (cond other 2 0) ≤ suc (suc n)
at_most_two true other n = omega arith
at_most_two false true n = omega arith
at_most_two false false n = omega arith

empty_line-le : (bytes : List ℕ) → empty_line bytes ≤ length bytes
empty_line-le [] = omega arith
empty_line-le (byte ∷ []) = elim (byte == 10) as (λ t. cond t 1 0 ≤ length (byte ∷ [])) [ true ↦ omega arith | false ↦ omega arith ]
empty_line-le (byte ∷ next ∷ bytes) = at_most_two (byte == 10) ((byte == 13) && (next == 10)) (length bytes)

-- if bytes have a head, its size stays the same when more bytes follow
pub head_size-append : (bytes more : List ℕ) (size : ℕ) → head_size bytes ≡ Some size → head_size (bytes ++ more) ≡ Some size
head_size-append [] more size e = absurd (let clash : ⊥ = cc in clash)
head_size-append (a ∷ []) more size e = absurd (let lost : None ≡ Some size = sym (one_byte a) ∙ e in let clash : ⊥ = cc in clash)
head_size-append (a ∷ b ∷ []) more size e =
    let first = first_found ((a == 10) && nat_lt 0 (empty_line (b ∷ []))) (1 + empty_line (b ∷ [])) size (head_size (b ∷ [])) (one_byte b) e in
    let is : a ≡ 10 = grind (arith, nat_tests, first.0) in
    let some : 0 < empty_line (b ∷ []) = grind (arith, nat_tests, first.0) in
    let same = empty_line-append (b ∷ []) more some in
    let here : 0 < empty_line ((b ∷ []) ++ more) = omega (arith, same) in
    found a ((b ∷ []) ++ more) is here ∙ ap (λ n. Some (1 + n)) same ∙ first.1
head_size-append (a ∷ b ∷ c ∷ bytes) more size e =
    carried ((a == 10) && nat_lt 0 (empty_line (b ∷ c ∷ bytes))) (1 + empty_line (b ∷ c ∷ bytes)) size (head_size (b ∷ c ∷ bytes)) (head_size ((b ∷ c ∷ bytes) ++ more)) e
    (λ m h. head_size-append (b ∷ c ∷ bytes) more m h)

pub head_size-le : (bytes : List ℕ) (size : ℕ) → head_size bytes ≡ Some size → size ≤ length bytes
head_size-le [] size e = absurd (let clash : ⊥ = cc in clash)
head_size-le (a ∷ bytes) size e =
    let small = empty_line-le bytes in
    let first : 1 + empty_line bytes ≤ suc (length bytes) = omega (arith, small) in
    bounded ((a == 10) && nat_lt 0 (empty_line bytes)) (1 + empty_line bytes) size (length bytes) (head_size bytes) e first (λ m h. head_size-le bytes m h)

-- Suppose that `a` is no LF before an empty line. If the search in `rest ++ more` may start at the last two bytes of `rest`, so may the
-- search in `a ∷ (rest ++ more)`.
resumed_past : (a : ℕ) (rest more : List ℕ) (line : ℕ) → empty_line (rest ++ more) ≡ line → ((a == 10) && nat_lt 0 line) ≡ false
    → head_size (rest ++ more) ≡ further (length rest - 2) (head_size (drop (length rest - 2) (rest ++ more)))
    → 2 ≤ length rest → head_size (a ∷ (rest ++ more)) ≡ further (length (a ∷ rest) - 2) (head_size (drop (length (a ∷ rest) - 2) (a ∷ (rest ++ more))))
resumed_past a rest more line same test later two =
    let other : a ≡ 10 → empty_line (rest ++ more) ≡ 0 = λ is. grind (arith, nat_tests) in
    let count : suc (length rest - 2) ≡ length (a ∷ rest) - 2 = omega arith in
    past a (rest ++ more) other ∙ ap (option_map (λ m. m + 1)) later
    ∙ one-further (length rest - 2) (head_size (drop (length rest - 2) (rest ++ more)))
    ∙ ap (λ n. further n (head_size (drop n (a ∷ (rest ++ more))))) count

-- if `bytes` have no head, the search in `bytes ++ more` may go on at the last two of `bytes`
pub head_size-resumed : (bytes more : List ℕ) → head_size bytes ≡ None
    → head_size (bytes ++ more) ≡ further (length bytes - 2) (head_size (drop (length bytes - 2) (bytes ++ more)))
head_size-resumed [] more none = further-zero (head_size more)
head_size-resumed (a ∷ []) more none = further-zero (head_size (a ∷ more))
head_size-resumed (a ∷ b ∷ []) more none = further-zero (head_size (a ∷ b ∷ more))
head_size-resumed (a ∷ b ∷ c ∷ bytes) more none =
    let split = none_further ((a == 10) && nat_lt 0 (empty_line (b ∷ c ∷ bytes))) (1 + empty_line (b ∷ c ∷ bytes)) (head_size (b ∷ c ∷ bytes)) none in
    resumed_past a (b ∷ c ∷ bytes) more (empty_line (b ∷ c ∷ bytes)) refl split.0 (head_size-resumed (b ∷ c ∷ bytes) more split.1) (omega arith)

-- if the `old` bytes have no head, the head of `all` is found by the search from the last two `old` bytes on
pub search_resumed : (old more all slice : List ℕ) (from : ℕ) (found : Option ℕ) → head_size old ≡ None → all ≡ old ++ more → from ≡ length old - 2 → slice ≡ all
    → found ≡ head_size (take (length slice - from) (drop from slice)) → head_size all ≡ further from found
search_resumed old more all slice from found none all_is from_is slice_is found_is =
    ap head_size all_is ∙ head_size-resumed old more none
    ∙ ap (λ n. further n (head_size (drop n (old ++ more)))) (sym from_is)
    ∙ ap (λ xs. further from (head_size (drop from xs))) (sym (slice_is ∙ all_is))
    ∙ ap (λ xs. further from (head_size xs)) (sym (take_rest slice from))
    ∙ ap (further from) (sym found_is)

-- ---- whole heads

-- if at most `most_of_head` bytes have a head, it is whole, whatever follows
pub whole_head-found : (bytes more : List ℕ) (size left : ℕ) → most_of_head ≡ length bytes + left → head_size bytes ≡ Some size → whole_head (bytes ++ more) ≡ Some size
whole_head-found bytes more size left all e =
    ap (λ n. head_size (take n (bytes ++ more))) all ∙ ap head_size (take-append-add bytes more left) ∙ head_size-append bytes (take left more) size e

-- if `most_of_head` bytes have no head, there is no whole head, whatever follows
pub whole_head-full : (bytes more : List ℕ) → length bytes ≡ most_of_head → head_size bytes ≡ None → whole_head (bytes ++ more) ≡ None
whole_head-full bytes more all none =
    ap head_size (take-append-le most_of_head bytes more (omega arith) ∙ take_all most_of_head bytes (omega arith)) ∙ none

pub whole_head-none : (bytes : List ℕ) → length bytes ≤ most_of_head → head_size bytes ≡ None → whole_head bytes ≡ None
whole_head-none bytes within none = ap head_size (take_all most_of_head bytes within) ∙ none
