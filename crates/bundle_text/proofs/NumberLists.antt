-- Reading lists of fields as numbers: one more field that spells a number, and one that spells none.
use Rattle.std.proofs.Common.{◌≡◌, ◌≢◌, ℕ, ◌+◌, ◌-◌, ◌<◌, ◌≤◌, ◌^◌, List, [], ◌∷◌, ◌++◌, map, length, get_or, take, drop, refl, sym, ◌∙◌, ap, subst, arith, true, false, Option, Some, None, option_map, ℤ, pos, negsuc, ◌≤ℤ◌, Bor}
use Rattle.std.specs.Prelude.{int_le}
use Rattle.std.proofs.lemmas.Bool.{leb-true, le-leb, false≢true}
use Rattle.std.specs.Fmt.{decimal}
use Rattle.std.proofs.lemmas.Int.{ints}
use Rattle.std.proofs.lemmas.Fmt.{decimal_by_steps_wide}
use Rattle.std.proofs.lemmas.List.{map-append, take_more, drop_more, take-append-drop}
use Rattle.define_lines.specs.Numbers.{number_up_to, signed_up_to}
use Rattle.define_lines.proofs.NumberLemmas.{number_again, no_number, signed_again, signed_spelled}
use Rattle.define_bundles.specs.BundleReading.{with_number, numbers_up_to, signed_of, stage_limit}

with_none : {A : Type 0} (first : Option A) → with_number first None ≡ None
with_none None = refl
with_none (Some number) = refl

-- `all` reads each field by `one`
module _ {A : Type 0} (one : List ℕ → Option A) (all : List (List ℕ) → Option (List A)) (nil : all [] ≡ Some []) (cons : (field : List ℕ) (fields : List (List ℕ)) → all (field ∷ fields) ≡ with_number (one field) (all fields)) where
  -- if the next field spells a number, this number is added at the end
  all_more : (done : List (List ℕ)) (field : List ℕ) (numbers : List A) (number : A) → all done ≡ Some numbers → one field ≡ Some number → all (done ++ field ∷ []) ≡ Some (numbers ++ number ∷ [])
  all_more [] field numbers number h k =
      let none : [] ≡ numbers = cc in
      cons field [] ∙ (ap (λ o. with_number o (all [])) k ∙ (ap (with_number (Some number)) nil ∙ ap (λ ns. Some (ns ++ number ∷ [])) none))
  all_more (first ∷ done) field numbers number h k = step (one first) (all done) refl refl (λ ms f. all_more done field ms number f k) (sym (cons first done) ∙ h)
    where
      step : (head : Option A) (rest : Option (List A)) → one first ≡ head → all done ≡ rest → ((ms : List A) → all done ≡ Some ms → all (done ++ field ∷ []) ≡ Some (ms ++ number ∷ [])) →
          with_number head rest ≡ Some numbers → all (first ∷ (done ++ field ∷ [])) ≡ Some (numbers ++ number ∷ [])
      step None rest e f again l = cc
      step (Some m) None e f again l = cc
      step (Some m) (Some ms) e f again l =
          let same : m ∷ ms ≡ numbers = cc in
          cons first (done ++ field ∷ [])
          ∙ (ap (λ o. with_number o (all (done ++ field ∷ []))) e ∙ (ap (with_number (Some m)) (again ms f) ∙ ap (λ ns. Some (ns ++ number ∷ [])) same))

  -- if a field spells no number, the list of fields spells none
  all_fail : (done : List (List ℕ)) (field : List ℕ) (later : List (List ℕ)) → one field ≡ None → all (done ++ field ∷ later) ≡ None
  all_fail [] field later k = cons field later ∙ ap (λ o. with_number o (all later)) k
  all_fail (first ∷ done) field later k = cons first (done ++ field ∷ later) ∙ (ap (with_number (one first)) (all_fail done field later k) ∙ with_none (one first))

  -- if the first `i` borrowed fields spell `numbers` and field `i` spells `number`, the first `i + 1` spell `numbers` and then `number`
  pub lent_more : (fields : List (Bor (List ℕ))) (i : ℕ) (d : Bor (List ℕ)) (numbers : List A) (number : A) → i < length fields → all (map (λ field. field.now) (take i fields)) ≡ Some numbers →
      one (get_or fields i d).now ≡ Some number → all (map (λ field. field.now) (take (i + 1) fields)) ≡ Some (numbers ++ number ∷ [])
  lent_more fields i d numbers number l h k =
      ap (λ (fs : List (Bor (List ℕ))). all (map (λ field. field.now) fs)) (take_more fields i d l)
      ∙ (ap all (map-append (λ (field : Bor (List ℕ)). field.now) (take i fields) (get_or fields i d ∷ []))
      ∙ all_more (map (λ field. field.now) (take i fields)) (get_or fields i d).now numbers number h k)

  -- if a borrowed field spells no number, the list of fields spells none
  pub lent_fail : (fields : List (Bor (List ℕ))) (i : ℕ) (d : Bor (List ℕ)) → i < length fields → one (get_or fields i d).now ≡ None → all (map (λ field. field.now) fields) ≡ None
  lent_fail fields i d l k =
      let parted : fields ≡ take i fields ++ get_or fields i d ∷ drop (i + 1) fields = sym (take-append-drop i fields) ∙ ap (λ rest. take i fields ++ rest) (drop_more fields i d l) in
      ap (λ (fs : List (Bor (List ℕ))). all (map (λ field. field.now) fs)) parted
      ∙ (ap all (map-append (λ (field : Bor (List ℕ)). field.now) (take i fields) (get_or fields i d ∷ drop (i + 1) fields))
      ∙ all_fail (map (λ field. field.now) (take i fields)) (get_or fields i d).now (map (λ field. field.now) (drop (i + 1) fields)) k)

-- if the first `i` fields spell `numbers` up to `limit` and field `i` spells `number`, the first `i + 1` spell `numbers` and then `number`
pub numbers_more : (limit : ℕ) (fields : List (Bor (List ℕ))) (i : ℕ) (d : Bor (List ℕ)) (numbers : List ℕ) (number : ℕ) → i < length fields →
    numbers_up_to limit (map (λ field. field.now) (take i fields)) ≡ Some numbers → number_up_to limit (get_or fields i d).now ≡ Some number →
    numbers_up_to limit (map (λ field. field.now) (take (i + 1) fields)) ≡ Some (numbers ++ number ∷ [])
numbers_more limit = lent_more (number_up_to limit) (numbers_up_to limit) refl (λ field fields. refl)

pub numbers_fail : (limit : ℕ) (fields : List (Bor (List ℕ))) (i : ℕ) (d : Bor (List ℕ)) → i < length fields → number_up_to limit (get_or fields i d).now ≡ None →
    numbers_up_to limit (map (λ field. field.now) fields) ≡ None
numbers_fail limit = lent_fail (number_up_to limit) (numbers_up_to limit) refl (λ field fields. refl)

-- if the first `i` fields spell `numbers` with a sign and field `i` spells `number`, the first `i + 1` spell `numbers` and then `number`
pub signed_more : (fields : List (Bor (List ℕ))) (i : ℕ) (d : Bor (List ℕ)) (numbers : List ℤ) (number : ℤ) → i < length fields → signed_of (map (λ field. field.now) (take i fields)) ≡ Some numbers →
    signed_up_to stage_limit (get_or fields i d).now ≡ Some number → signed_of (map (λ field. field.now) (take (i + 1) fields)) ≡ Some (numbers ++ number ∷ [])
signed_more = lent_more (signed_up_to stage_limit) signed_of refl (λ field fields. refl)

pub signed_fail : (fields : List (Bor (List ℕ))) (i : ℕ) (d : Bor (List ℕ)) → i < length fields → signed_up_to stage_limit (get_or fields i d).now ≡ None → signed_of (map (λ field. field.now) fields) ≡ None
signed_fail = lent_fail (signed_up_to stage_limit) signed_of refl (λ field fields. refl)

-- if a field is read with a sign as a number from 0 to 10^38, it is read without a sign as the same number
pub small_some : (field : List ℕ) (z kept : ℤ) → kept ≡ z → signed_up_to stage_limit field ≡ Some z → int_le (pos 0) kept ≡ true → int_le kept (pos (10 ^ 38)) ≡ true →
    Some kept ≡ option_map pos (number_up_to (10 ^ 38) field)
small_some field z (negsuc n) same h l m = absurd (false≢true l)
small_some field z (pos n) same h l m =
    let most : n ≤ 10 ^ 38 = leb-true n (10 ^ 38) m in
    let spelled : decimal n ≡ field = (signed_spelled stage_limit (pos n) field (h ∙ ap Some (sym same))).0 in
    sym (ap (option_map pos) (subst (λ f. number_up_to (10 ^ 38) f ≡ Some n) spelled (number_again (10 ^ 38) n (omega arith) most)))

pub not_negative : (z kept : ℤ) → kept ≡ z → int_le (pos 0) kept ≡ true → pos 0 ≤ℤ kept
not_negative z (pos n) same h = omega (arith, ints)
not_negative z (negsuc n) same h = absurd (false≢true h)

-- a number above 10^38 equals no number from 0 to 10^38
pub too_great : (z kept : ℤ) → kept ≡ z → int_le kept (pos (10 ^ 38)) ≡ false → (n : ℕ) → n ≤ 10 ^ 38 → Some z ≡ Some (pos n) → ⊥
too_great z kept same h n most e =
    let is : kept ≡ pos n = cc in
    false≢true (sym h ∙ (ap (λ y. int_le y (pos (10 ^ 38))) is ∙ le-leb n (10 ^ 38) most))

-- a number below 0 equals no number from 0 to 10^38
pub negative : (z kept : ℤ) → kept ≡ z → int_le (pos 0) kept ≡ false → (n : ℕ) → n ≤ 10 ^ 38 → Some z ≡ Some (pos n) → ⊥
negative z kept same h n most e =
    let is : kept ≡ pos n = cc in
    false≢true (sym h ∙ (ap (int_le (pos 0)) is ∙ le-leb 0 n (omega arith)))

pub nothing : (n : ℕ) → n ≤ 10 ^ 38 → None ≡ Some (pos n) → ⊥
nothing n most e = cc

-- if a field isn't read with a sign as a number from 0 to 10^38, it isn't read without a sign as one either
pub small_none : (field : List ℕ) (read : Option ℤ) → signed_up_to stage_limit field ≡ read → ((n : ℕ) → n ≤ 10 ^ 38 → read ≡ Some (pos n) → ⊥) → None ≡ option_map pos (number_up_to (10 ^ 38) field)
small_none field read h other = sym (ap (option_map pos) (no_number (10 ^ 38) field none))
  where
    none : (n : ℕ) → n ≤ 10 ^ 38 → decimal n ≢ field
    none n most same =
        let again : signed_up_to stage_limit (decimal n) ≡ Some (pos n) = signed_again stage_limit (pos n) (omega arith) (omega arith) in
        other n most (sym h ∙ (ap (signed_up_to stage_limit) (sym same) ∙ again))

-- a number `d` below 10 is spelled by one byte, `48 + d`
decimal_digit : (d : ℕ) → d < 10 → decimal d ≡ (48 + d) ∷ []
decimal_digit d l = decimal_by_steps_wide (λ m digits. m < 10 → digits ≡ (48 + m) ∷ []) (λ m small again. refl) (λ m digits great k small. absurd (omega arith)) d (omega arith) l

pub digit_said : (fields : List ℕ) (byte : ℕ) → fields ≡ byte ∷ [] → 48 ≤ byte → byte ≤ 57 → Some (pos (byte - 48)) ≡ signed_up_to stage_limit fields
digit_said fields byte one least most =
    let d = byte - 48 in
    let again : signed_up_to stage_limit (decimal d) ≡ Some (pos d) = signed_again stage_limit (pos d) (omega arith) (omega arith) in
    let same : 48 + d ≡ byte = omega arith in
    let spelled : decimal d ≡ fields = decimal_digit d (omega arith) ∙ (ap (λ b. b ∷ []) same ∙ sym one) in
    sym (subst (λ f. signed_up_to stage_limit f ≡ Some (pos d)) spelled again)

pub one_byte : (fields : List ℕ) (d : ℕ) → length fields ≡ 1 → fields ≡ get_or fields 0 d ∷ []
one_byte [] d h = absurd (omega arith)
one_byte (byte ∷ []) d h = refl
one_byte (byte ∷ other ∷ fields) d h = absurd (omega arith)
