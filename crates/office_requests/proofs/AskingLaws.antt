-- What all the bytes of a link ask for, as it follows from those that were read.
use Rattle.std.proofs.Common.{◌≡◌, ℕ, ◌+◌, ◌-◌, ◌<◌, ◌≤◌, nat_le, nat_lt, cond, Bool, false, true, List, [], ◌++◌, length, take, drop, Option, Some, None, Result, Ok, IfOk, refl, sym, ap, subst, ◌∙◌, append-nil, append_assoc, length-append, length-drop, arith}
use Rattle.std.specs.Io.KnownBytes.{Consumes, IsAtEnd}
use Rattle.std.proofs.KnownBytes.{Consumes-trans}
use Rattle.std.proofs.lemmas.Bool.Decides.{nat_tests}
use Rattle.std.proofs.lemmas.List.{drop-append-le, take-append-le}
use Rattle.define_desk.specs.Requests as desk
use Rattle.define_desk.specs.Requests.{head_size, most_of_body, most_of_head, whole_head}
use Rattle.office_requests.specs.Askings.{IsAskedOver}
use Rattle.office_requests.specs.Heads.{AskTogether, Headed, IsWanted, Misheaded, body_after}
use Rattle.office_requests.specs.Reads.{LosesAtMost, ReadsFront, Skips, most_read}
use Rattle.office_requests.specs.declared.heads.Wanted.{Wanted}
use Rattle.office_requests.specs.declared.heads.Wanted.TheVariants.{TooLarge, NoRequest, Asks}
use Rattle.office_requests.proofs.HeadSizes.{head_size-le, whole_head-found, whole_head-full, whole_head-none}

-- ---- from the bytes that were read to all the bytes

-- if the bytes that were read ask for `asking`, whatever follows them, then `asking` is asked over the link
pub decided : (old new : Option (List ℕ)) (front : List ℕ) (asking : desk.Asking) → Consumes old new front → ((more : List ℕ) → desk.AreAsking (front ++ more) asking) → IsAskedOver old asking
decided None new front asking read h = (front ++ [], tt, h [])
decided (Some told) None front asking read h = absurd read
decided (Some told) (Some rest) front asking read h = (front ++ rest, sym read, h rest)

-- if the bytes that were read are all, and ask for `asking`, then `asking` is asked over the link
pub ended : (old new : Option (List ℕ)) (front : List ℕ) (asking : desk.Asking) → Consumes old new front → IsAtEnd new → desk.AreAsking front asking → IsAskedOver old asking
ended None new front asking read none h = (front, tt, h)
ended (Some told) None front asking read none h = absurd read
ended (Some told) (Some rest) front asking read none h = (front, sym (read ∙ ap (λ xs. front ++ xs) none ∙ append-nil front), h)

-- ---- without a head

-- `most_of_head` bytes without a head are too large, whatever follows
pub full : (bytes more : List ℕ) → length bytes ≡ most_of_head → head_size bytes ≡ None → desk.AreAsking (bytes ++ more) desk.TooLarge
full bytes more all none =
    let test : nat_le most_of_head (length (bytes ++ more)) ≡ true = grind (arith, nat_tests, length-append bytes more) in
    desk.Headless (whole_head-full bytes more all none) (ap (λ t. cond t desk.TooLarge desk.NoRequest) (sym test))

pub asked_too_much : (old new : Option (List ℕ)) (bytes : List ℕ) → Consumes old new bytes → length bytes ≡ most_of_head → head_size bytes ≡ None → IsAskedOver old desk.TooLarge
asked_too_much old new bytes read all none = decided old new bytes desk.TooLarge read (λ more. full bytes more all none)

-- fewer bytes without a head ask for nothing, if they are all
pub short : (bytes : List ℕ) → length bytes < most_of_head → head_size bytes ≡ None → desk.AreAsking bytes desk.NoRequest
short bytes few none =
    let test : nat_le most_of_head (length bytes) ≡ false = grind (arith, nat_tests) in
    desk.Headless (whole_head-none bytes (omega arith) none) (ap (λ t. cond t desk.TooLarge desk.NoRequest) (sym test))

pub asked_nothing : (old new : Option (List ℕ)) (bytes : List ℕ) → Consumes old new bytes → IsAtEnd new → length bytes < most_of_head → head_size bytes ≡ None → IsAskedOver old desk.NoRequest
asked_nothing old new bytes read none few headless = ended old new bytes desk.NoRequest read none (short bytes few headless)

-- ---- with a head

together : (bytes rest : List ℕ) (size : ℕ) (asking : desk.Asking) → whole_head bytes ≡ Some size → drop size bytes ≡ rest → AskTogether (take size bytes) rest asking → desk.AreAsking bytes asking
together bytes rest size asking whole cut (Headed h is e) = desk.Headed size h whole is (e ∙ ap (desk.asking_by h) (sym cut))
together bytes rest size asking whole cut (Misheaded none e) = desk.Misheaded size whole none e

-- if `bytes` have a head, `bytes ++ more` ask for what this head asks for, with the bytes after it
pub headed : (bytes more : List ℕ) (size : ℕ) (asking : desk.Asking) → length bytes ≤ most_of_head → head_size bytes ≡ Some size
    → AskTogether (take size bytes) (drop size bytes ++ more) asking → desk.AreAsking (bytes ++ more) asking
headed bytes more size asking few found asks =
    let all : most_of_head ≡ length bytes + (most_of_head - length bytes) = omega arith in
    let within : size ≤ length bytes = head_size-le bytes size found in
    let P : List ℕ → Type 0 = λ head. AskTogether head (drop size bytes ++ more) asking in
    together (bytes ++ more) (drop size bytes ++ more) size asking (whole_head-found bytes more size (most_of_head - length bytes) all found)
    (drop-append-le size bytes more within) (subst P (sym (take-append-le size bytes more within)) asks)

-- if a head asks for `asking`, whatever follows it, then `asking` is asked over the link
pub asked_by_head : (old new : Option (List ℕ)) (bytes : List ℕ) (size : ℕ) (asking : desk.Asking) → Consumes old new bytes → length bytes ≤ most_of_head → head_size bytes ≡ Some size
    → ((rest : List ℕ) → AskTogether (take size bytes) rest asking) → IsAskedOver old asking
asked_by_head old new bytes size asking read few found asks =
    decided old new bytes asking read (λ more. headed bytes more size asking few found (asks (drop size bytes ++ more)))

-- the same as `headed`, if `body` was read after `bytes`, and `more` follow
pub after_body : (bytes body more : List ℕ) (size : ℕ) (asking : desk.Asking) → length bytes ≤ most_of_head → head_size bytes ≡ Some size
    → AskTogether (take size bytes) (drop size bytes ++ (body ++ more)) asking → desk.AreAsking ((bytes ++ body) ++ more) asking
after_body bytes body more size asking few found asks =
    let P : List ℕ → Type 0 = λ all. desk.AreAsking all asking in
    subst P (sym (append_assoc bytes body more)) (headed bytes (body ++ more) size asking few found asks)

-- how many bytes follow the head
pub size_after : (bytes body more : List ℕ) (size : ℕ) → length (drop size bytes ++ (body ++ more)) ≡ length bytes - size + (length body + length more)
size_after bytes body more size =
    length-append (drop size bytes) (body ++ more) ∙ ap (λ n. n + length (body ++ more)) (length-drop size bytes) ∙ ap (λ n. length bytes - size + n) (length-append body more)

enough_asks : (bytes body more : List ℕ) (size count : ℕ) (request : desk.Request)
    → AskTogether (take size bytes) (drop size bytes ++ (body ++ more)) (cond (nat_lt (length (drop size bytes ++ (body ++ more))) count) desk.NoRequest (desk.Asks request))
    → count ≤ length bytes - size + length body → AskTogether (take size bytes) (drop size bytes ++ (body ++ more)) (desk.Asks request)
enough_asks bytes body more size count request asks enough =
    let sizes = size_after bytes body more size in
    let test : nat_lt (length (drop size bytes ++ (body ++ more))) count ≡ false = grind (arith, nat_tests) in
    let P : desk.Asking → Type 0 = λ asking. AskTogether (take size bytes) (drop size bytes ++ (body ++ more)) asking in
    subst P (ap (λ t. cond t desk.NoRequest (desk.Asks request)) test) asks

-- if the whole body was read, the request is asked over the link
pub asked_with_body : (old new : Option (List ℕ)) (bytes body : List ℕ) (size count : ℕ) (request : desk.Request) → Consumes old new (bytes ++ body) → length bytes ≤ most_of_head
    → head_size bytes ≡ Some size → ((rest : List ℕ) → AskTogether (take size bytes) rest (cond (nat_lt (length rest) count) desk.NoRequest (desk.Asks request)))
    → count ≤ length bytes - size + length body → IsAskedOver old (desk.Asks request)
asked_with_body old new bytes body size count request read few found asks enough =
    decided old new (bytes ++ body) (desk.Asks request) read
    (λ more. after_body bytes body more size (desk.Asks request) few found (enough_asks bytes body more size count request (asks (drop size bytes ++ (body ++ more))) enough))

-- if the link ended before the whole body was read, no request is asked over it
pub asked_without_body : (old new : Option (List ℕ)) (bytes body : List ℕ) (size count : ℕ) (request : desk.Request) → Consumes old new (bytes ++ body) → IsAtEnd new → length bytes ≤ most_of_head
    → head_size bytes ≡ Some size → ((rest : List ℕ) → AskTogether (take size bytes) rest (cond (nat_lt (length rest) count) desk.NoRequest (desk.Asks request)))
    → length bytes - size + length body < count → IsAskedOver old desk.NoRequest
asked_without_body old new bytes body size count request read none few found asks lacking =
    let test : nat_lt (length (drop size bytes ++ body)) count ≡ true = grind (arith, nat_tests, length-append (drop size bytes) body, length-drop size bytes) in
    let P : desk.Asking → Type 0 = λ asking. AskTogether (take size bytes) (drop size bytes ++ body) asking in
    ended old new (bytes ++ body) desk.NoRequest read none
    (headed bytes body size desk.NoRequest few found (subst P (ap (λ t. cond t desk.NoRequest (desk.Asks request)) test) (asks (drop size bytes ++ body))))

-- ---- what `read_asking` returns is asked over the link

-- if no head was found, `asking_without bytes` is asked over the link
headless_by : (old new : Option (List ℕ)) (bytes : List ℕ) (head : Option ℕ) (test : Bool) → nat_le most_of_head (length bytes) ≡ test → ReadsFront old new bytes head → head ≡ None
    → IsAskedOver old (desk.asking_without bytes)
headless_by old new bytes head true is front none =
    let P : desk.Asking → Type 0 = λ asking. IsAskedOver old asking in
    let all : length bytes ≡ most_of_head = grind (arith, nat_tests, front.within) in
    subst P (ap (λ t. cond t desk.TooLarge desk.NoRequest) (sym is)) (asked_too_much old new bytes front.read all (sym front.head_is ∙ none))
headless_by old new bytes head false is front none =
    let P : desk.Asking → Type 0 = λ asking. IsAskedOver old asking in
    let few : length bytes < most_of_head = grind (arith, nat_tests) in
    subst P (ap (λ t. cond t desk.TooLarge desk.NoRequest) (sym is)) (asked_nothing old new bytes front.read (front.ended none few) few (sym front.head_is ∙ none))

pub asked_headless : (old new : Option (List ℕ)) (bytes slice : List ℕ) (head : Option ℕ) → ReadsFront old new bytes head → head ≡ None → slice ≡ bytes
    → IsAskedOver old (desk.asking_without slice)
asked_headless old new bytes slice head front none same =
    let P : desk.Asking → Type 0 = λ asking. IsAskedOver old asking in
    subst P (ap desk.asking_without (sym same)) (headless_by old new bytes head (nat_le most_of_head (length bytes)) refl front none)

pub wanted_here : (bytes slice : List ℕ) (size : ℕ) (wanted is : Wanted) → slice ≡ bytes → wanted ≡ is → IsWanted (take size slice) wanted → IsWanted (take size bytes) is
wanted_here bytes slice size wanted is same as_is asks =
    let P : List ℕ → Type 0 = λ xs. IsWanted xs wanted in
    let Q : Wanted → Type 0 = λ w. IsWanted (take size bytes) w in
    subst Q as_is (subst P (ap (take size) same) asks)

pub asked_large : (old new : Option (List ℕ)) (bytes slice : List ℕ) (size : ℕ) (head : Option ℕ) (wanted : Wanted) → ReadsFront old new bytes head → head ≡ Some size → slice ≡ bytes
    → IsWanted (take size slice) wanted → wanted ≡ TooLarge → IsAskedOver old desk.TooLarge
asked_large old new bytes slice size head wanted front some same asks is =
    let here = wanted_here bytes slice size wanted TooLarge same is asks in
    asked_by_head old new bytes size desk.TooLarge front.read front.within (sym front.head_is ∙ some) (λ rest. here rest)

pub asked_no : (old new : Option (List ℕ)) (bytes slice : List ℕ) (size : ℕ) (head : Option ℕ) (wanted : Wanted) → ReadsFront old new bytes head → head ≡ Some size → slice ≡ bytes
    → IsWanted (take size slice) wanted → wanted ≡ NoRequest → IsAskedOver old desk.NoRequest
asked_no old new bytes slice size head wanted front some same asks is =
    let here = wanted_here bytes slice size wanted NoRequest same is asks in
    asked_by_head old new bytes size desk.NoRequest front.read front.within (sym front.head_is ∙ some) (λ rest. here rest)

-- if the head asks for a body of `body` bytes, and the `count` bytes of it that were missing were read, the request is asked over the link
pub asked_whole : (old mid new : Option (List ℕ)) (bytes slice : List ℕ) (size : ℕ) (head : Option ℕ) (wanted : Wanted) (request : desk.Request) (body count : ℕ) (all : Bool)
    → ReadsFront old mid bytes head → head ≡ Some size → slice ≡ bytes → IsWanted (take size slice) wanted → wanted ≡ Asks request body
    → count ≡ body - (length bytes - size) → Skips count mid new all → all ≡ true → IsAskedOver old (desk.Asks request)
asked_whole old mid new bytes slice size head wanted request body count false front some same asks is missing skips so = absurd (let clash : ⊥ = cc in clash)
asked_whole old mid new bytes slice size head wanted request body count true front some same asks is missing skips so =
    let here = wanted_here bytes slice size wanted (Asks request body) same is asks in
    let enough : body ≤ length bytes - size + length skips.0 = omega (arith, skips.2, missing) in
    asked_with_body old new bytes skips.0 size body request (Consumes-trans old mid new bytes skips.0 front.read skips.1) front.within (sym front.head_is ∙ some) (λ rest. here rest) enough

pub asked_cut : (old mid new : Option (List ℕ)) (bytes slice : List ℕ) (size : ℕ) (head : Option ℕ) (wanted : Wanted) (request : desk.Request) (body count : ℕ) (all : Bool)
    → ReadsFront old mid bytes head → head ≡ Some size → slice ≡ bytes → IsWanted (take size slice) wanted → wanted ≡ Asks request body
    → count ≡ body - (length bytes - size) → Skips count mid new all → all ≡ false → IsAskedOver old desk.NoRequest
asked_cut old mid new bytes slice size head wanted request body count true front some same asks is missing skips so = absurd (let clash : ⊥ = cc in clash)
asked_cut old mid new bytes slice size head wanted request body count false front some same asks is missing skips so =
    let here = wanted_here bytes slice size wanted (Asks request body) same is asks in
    let lacking : length bytes - size + length skips.0 < body = omega (arith, skips.2.0, missing) in
    asked_without_body old new bytes skips.0 size body request (Consumes-trans old mid new bytes skips.0 front.read skips.1) skips.2.1 front.within (sym front.head_is ∙ some) (λ rest. here rest) lacking

-- if at most `most_of_head` bytes were read, at most `most_read` bytes were read
pub lost_once : (a b : Option (List ℕ)) → LosesAtMost most_of_head a b → LosesAtMost most_read a b
lost_once a b (bytes, read, few) = (bytes, read, omega arith)

-- if at most `most_of_head` bytes were read, and then at most the missing bytes of a body, at most `most_read` bytes were read in all
pub lost_twice : (a b c : Option (List ℕ)) (count body come : ℕ) → LosesAtMost most_of_head a b → LosesAtMost count b c → count ≡ body - come → body ≤ most_of_body → LosesAtMost most_read a c
lost_twice a b c count body come (first, read, few) (second, then, less) missing small =
    (first ++ second, Consumes-trans a b c first second read then, omega (arith, length-append first second, few, less, missing, small))

pub fits_at : (old new : Option (List ℕ)) (bytes : List ℕ) (head : Option ℕ) (size : ℕ) → ReadsFront old new bytes head → head ≡ Some size → size ≤ length bytes
fits_at old new bytes head size front some = head_size-le bytes size (sym front.head_is ∙ some)

pub none_left : (size : Option ℕ) → ((n : ℕ) → size ≡ Some n → ⊥) → size ≡ None
none_left None h = refl
none_left (Some n) h = absurd (h n refl)

pub wanted_ok : {E : Type 0} (result : Result Wanted E) (head : List ℕ) (wanted : Wanted) → result ≡ Ok wanted → IfOk result (IsWanted head) → IsWanted head wanted
wanted_ok {E} result head wanted is h = let P : Result Wanted E → Type 0 = λ r. IfOk r (IsWanted head) in subst P is h

pub small_body : {E : Type 0} (result : Result Wanted E) (wanted : Wanted) (request : desk.Request) (body : ℕ) → result ≡ Ok wanted → IfOk result (λ w. body_after w ≤ most_of_body) → wanted ≡ Asks request body
    → body ≤ most_of_body
small_body {E} result wanted request body is small asks =
    let P : Result Wanted E → Type 0 = λ r. IfOk r (λ w. body_after w ≤ most_of_body) in
    let own : body_after wanted ≤ most_of_body = subst P is small in
    subst (λ (w : Wanted). body_after w ≤ most_of_body) asks own
