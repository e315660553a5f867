-- Words and numbers are fields: they have no TAB and no LF, and are UTF-8.
use Rattle.std.proofs.Common.{◌≡◌, ℕ, zero, suc, ◌+◌, ◌<◌, ◌^◌, ◌%◌, Bool, true, false, not, ◌&&◌, eqb, ltb, List, [], ◌∷◌, lit<, refl, ◌∙◌, arith}
use Rattle.std.specs.Fmt.{decimal}
use Rattle.std.specs.List.{AllByRecursion, list_all}
use Rattle.std.specs.Str.{IsAscii, is_utf8}
use Rattle.std.proofs.lemmas.Bool.{and_from, and_parts, ltb-true, lt-ltb, ne_eqb, not_from_false, not-true}
use Rattle.std.proofs.lemmas.List.Elements.{All-append, All-cons, All-from_recursion}
use Rattle.std.proofs.lemmas.List.Folds.{list_all-append}
use Rattle.std.proofs.lemmas.Fmt.{decimal_by_steps_wide}
use Rattle.std.proofs.lemmas.Str.{IsUtf8-from_ascii, is_utf8-from_IsUtf8}
use Rattle.define_lines.specs.Lines.{tab, line_feed, line_of}
use Rattle.define_lines.proofs.LineLemmas.{Lacks}

pub record IsField (field : List ℕ) : Type 0 where
  pub no_tab : Lacks tab field
  pub no_feed : Lacks line_feed field
  pub utf8 : is_utf8 field ≡ true

-- the byte is below 128, and neither TAB nor LF
abbrev pub is_plain : ℕ → Bool
is_plain byte = not (eqb byte 9) && not (eqb byte 10) && ltb byte 128

plain_parts : (byte : ℕ) → is_plain byte ≡ true → (eqb byte 9 ≡ false) × (eqb byte 10 ≡ false) × (byte < 128)
plain_parts byte h =
    let all = and_parts (not (eqb byte 9) && not (eqb byte 10)) (ltb byte 128) h in
    let two = and_parts (not (eqb byte 9)) (not (eqb byte 10)) all.0 in
    (not-true (eqb byte 9) two.0, not-true (eqb byte 10) two.1, ltb-true byte 128 all.1)

lacks_tab : (bytes : List ℕ) → list_all is_plain bytes ≡ true → AllByRecursion (λ b. eqb b 9 ≡ false) bytes
lacks_tab [] h = tt
lacks_tab (b ∷ bytes) h = let p = and_parts (is_plain b) (list_all is_plain bytes) h in ((plain_parts b p.0).0, lacks_tab bytes p.1)

lacks_feed : (bytes : List ℕ) → list_all is_plain bytes ≡ true → AllByRecursion (λ b. eqb b 10 ≡ false) bytes
lacks_feed [] h = tt
lacks_feed (b ∷ bytes) h = let p = and_parts (is_plain b) (list_all is_plain bytes) h in ((plain_parts b p.0).1, lacks_feed bytes p.1)

is_ascii : (bytes : List ℕ) → list_all is_plain bytes ≡ true → IsAscii bytes
is_ascii [] h i = lit< tt
is_ascii (b ∷ bytes) h zero = (plain_parts b (and_parts (is_plain b) (list_all is_plain bytes) h).0).2
is_ascii (b ∷ bytes) h (suc i) = is_ascii bytes (and_parts (is_plain b) (list_all is_plain bytes) h).1 i

-- plain bytes make a field
pub plain_field : (bytes : List ℕ) → list_all is_plain bytes ≡ true → IsField bytes
plain_field bytes h = record {
  no_tab = All-from_recursion (λ b. eqb b 9 ≡ false) bytes (lacks_tab bytes h);
  no_feed = All-from_recursion (λ b. eqb b 10 ≡ false) bytes (lacks_feed bytes h);
  utf8 = is_utf8-from_IsUtf8 bytes (IsUtf8-from_ascii bytes (is_ascii bytes h));
}

digit_plain : (n : ℕ) → n < 10 → is_plain (48 + n) ≡ true
digit_plain n h =
    and_from (not (eqb (48 + n) 9) && not (eqb (48 + n) 10)) (ltb (48 + n) 128)
    (and_from (not (eqb (48 + n) 9)) (not (eqb (48 + n) 10)) (not_from_false _ (ne_eqb (48 + n) 9 (λ e. omega arith))) (not_from_false _ (ne_eqb (48 + n) 10 (λ e. omega arith))))
    (lt-ltb (48 + n) 128 (omega arith))

digits_plain : (n : ℕ) → n < 10 ^ 64 → list_all is_plain (decimal n) ≡ true
digits_plain n h = decimal_by_steps_wide (λ m digits. list_all is_plain digits ≡ true)
    (λ m l. and_from (is_plain (48 + m)) true (digit_plain m l) refl)
    (λ m digits l k. list_all-append is_plain digits ((48 + m % 10) ∷ []) ∙
    and_from (list_all is_plain digits) (is_plain (48 + m % 10) && true) k (and_from (is_plain (48 + m % 10)) true (digit_plain (m % 10) (omega arith)) refl))
    n h

-- the digits of a number below 10 ^ 64 are a field
pub decimal_field : (n : ℕ) → n < 10 ^ 64 → IsField (decimal n)
decimal_field n h = plain_field (decimal n) (digits_plain n h)

-- the line of fields has no LF
pub line_lacks_feed : (fields : List (List ℕ)) → AllByRecursion IsField fields → Lacks line_feed (line_of fields)
line_lacks_feed [] h = All-from_recursion (λ b. eqb b 10 ≡ false) [] tt
line_lacks_feed (field ∷ []) h = h.0.no_feed
line_lacks_feed (field ∷ next ∷ later) h =
    All-append (λ b. eqb b 10 ≡ false) field (9 ∷ line_of (next ∷ later)) h.0.no_feed
    (All-cons (λ b. eqb b 10 ≡ false) 9 (line_of (next ∷ later)) refl (line_lacks_feed (next ∷ later) h.1))
