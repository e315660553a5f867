-- Bytes that lack a head, or a part of the body, can go on in two ways that ask for different things.
use Rattle.std.proofs.Common.{◌≡◌, ℕ, zero, suc, ◌+◌, ◌-◌, ◌<◌, ◌≤◌, ◌==◌, nat_lt, ◌&&◌, cond, Bool, false, true, List, [], ◌∷◌, ◌++◌, length, take, drop, Option, Some, None, option_map, refl, sym, ap, subst, ◌∙◌, append-nil, length-append, arith}
use Rattle.std.proofs.lemmas.Bool.Decides.{nat_tests}
use Rattle.define_desk.specs.Requests as desk
use Rattle.define_desk.specs.Requests.{empty_line, head_size, most_of_head}
use Rattle.office_requests.specs.Heads.{AskTogether}
use Rattle.office_requests.specs.Needs.{IsUndecided, LacksHead}
use Rattle.office_requests.proofs.AskingLaws.{after_body, full, short, size_after}
use Rattle.office_requests.proofs.HeadSizes.{none_further}

-- ---- letters, none of which ends a line

abbrev letters : ℕ → List ℕ
letters zero = []
letters (suc count) = 97 ∷ letters count

length-letters : (count : ℕ) → length (letters count) ≡ count
length-letters zero = refl
length-letters (suc count) = ap suc (length-letters count)

head_size-letters : (count : ℕ) → head_size (letters count) ≡ None
head_size-letters zero = refl
head_size-letters (suc count) = ap (option_map (λ size. size + 1)) (head_size-letters count)

never : (test other : Bool) → ◌≡◌ {A = ℕ} (cond test 1 (cond (other && false) 2 0)) (cond test 1 0)
never true other = refl
never false true = refl
never false false = refl

empty_line-letters : (bytes : List ℕ) (count : ℕ) → empty_line (bytes ++ letters count) ≡ empty_line bytes
empty_line-letters [] zero = refl
empty_line-letters [] (suc zero) = refl
empty_line-letters [] (suc (suc count)) = refl
empty_line-letters (byte ∷ []) zero = refl
empty_line-letters (byte ∷ []) (suc count) = never (byte == 10) (byte == 13)
empty_line-letters (byte ∷ next ∷ bytes) count = refl

no_head : (test : Bool) (size : ℕ) (rest : Option ℕ) → test ≡ false → rest ≡ None → cond test (Some size) (option_map (λ n. n + 1) rest) ≡ None
no_head true size rest other none = absurd (let clash : ⊥ = cc in clash)
no_head false size rest other none = ap (option_map (λ n. n + 1)) none

-- bytes without a head have none after letters either
head_size-none : (bytes : List ℕ) (count : ℕ) → head_size bytes ≡ None → head_size (bytes ++ letters count) ≡ None
head_size-none [] count none = head_size-letters count
head_size-none (byte ∷ bytes) count none =
    let split = none_further ((byte == 10) && nat_lt 0 (empty_line bytes)) (1 + empty_line bytes) (head_size bytes) none in
    no_head ((byte == 10) && nat_lt 0 (empty_line (bytes ++ letters count))) (1 + empty_line (bytes ++ letters count)) (head_size (bytes ++ letters count))
    (ap (λ n. (byte == 10) && nat_lt 0 n) (empty_line-letters bytes count) ∙ split.0) (head_size-none bytes count split.1)

-- ---- bytes that lack something

as_they_are : (bytes : List ℕ) (asking : desk.Asking) → desk.AreAsking bytes asking → desk.AreAsking (bytes ++ []) asking
as_they_are bytes asking asks = subst (λ (xs : List ℕ). desk.AreAsking xs asking) (sym (append-nil bytes)) asks

-- bytes without a head ask for nothing if they are all, and are too large if letters follow
pub undecided_head : (bytes : List ℕ) → LacksHead bytes → IsUndecided bytes
undecided_head bytes (few, none) =
    let more = letters (most_of_head - length bytes) in
    let all : length (bytes ++ more) ≡ most_of_head = omega (arith, length-append bytes more, length-letters (most_of_head - length bytes), few) in
    let large : desk.AreAsking ((bytes ++ more) ++ []) desk.TooLarge = full (bytes ++ more) [] all (head_size-none bytes (most_of_head - length bytes) none) in
    record {
      one = [];
      other = more;
      first = desk.NoRequest;
      second = desk.TooLarge;
      asks_first = as_they_are bytes desk.NoRequest (short bytes few none);
      asks_second = subst (λ (xs : List ℕ). desk.AreAsking xs desk.TooLarge) (append-nil (bytes ++ more)) large;
      differ = λ same. let clash : ⊥ = cc in clash;
    }

by_size : (head rest : List ℕ) (count : ℕ) (request : desk.Request) (test : Bool) → nat_lt (length rest) count ≡ test
    → AskTogether head rest (cond (nat_lt (length rest) count) desk.NoRequest (desk.Asks request)) → AskTogether head rest (cond test desk.NoRequest (desk.Asks request))
by_size head rest count request test is asks = subst (λ (t : Bool). AskTogether head rest (cond t desk.NoRequest (desk.Asks request))) is asks

-- bytes with a head and a part of the body ask for nothing if they are all, and for a request if the rest of the body follows
pub undecided_body : (bytes body : List ℕ) (size count : ℕ) (request : desk.Request) → length bytes ≤ most_of_head → head_size bytes ≡ Some size
    → ((rest : List ℕ) → AskTogether (take size bytes) rest (cond (nat_lt (length rest) count) desk.NoRequest (desk.Asks request)))
    → length body < count - (length bytes - size) → IsUndecided (bytes ++ body)
undecided_body bytes body size count request few found asks lacking =
    let missing = count - (length bytes - size) - length body in
    let more = letters missing in
    let cut : nat_lt (length (drop size bytes ++ (body ++ []))) count ≡ true = grind (arith, nat_tests, size_after bytes body [] size) in
    let whole : nat_lt (length (drop size bytes ++ (body ++ more))) count ≡ false = grind (arith, nat_tests, size_after bytes body more size, length-letters missing) in
    record {
      one = [];
      other = more;
      first = desk.NoRequest;
      second = desk.Asks request;
      asks_first = after_body bytes body [] size desk.NoRequest few found (by_size (take size bytes) (drop size bytes ++ (body ++ [])) count request true cut (asks (drop size bytes ++ (body ++ []))));
      asks_second = after_body bytes body more size (desk.Asks request) few found
          (by_size (take size bytes) (drop size bytes ++ (body ++ more)) count request false whole (asks (drop size bytes ++ (body ++ more))));
      differ = λ same. let clash : ⊥ = cc in clash;
    }
