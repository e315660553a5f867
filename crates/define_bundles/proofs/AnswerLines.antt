-- A line after the pool is the spelling of what it says, and the spelling of a total, a row or a stage in its range is read as this value.
use Rattle.std.proofs.Common.{◌≡◌, ℕ, zero, suc, ◌+◌, ◌<◌, ◌≤◌, ◌^◌, true, false, ◌&&◌, cond, eqb, leb, ltb, List, [], ◌∷◌, length, get_or, map, sum_by, refl, sym, ◌∙◌, ap, subst, arith, lit<, Option, Some, None}
use Rattle.std.specs.Prelude.{bytes_eq, codes, ℤ, pos, negsuc, unsigned_abs}
use Rattle.std.specs.Fmt.{decimal, signed_decimal}
use Rattle.std.specs.List.{AllByRecursion, list_all}
use Rattle.std.proofs.lemmas.List.Sums.{sum_by-cons}
use Rattle.std.proofs.lemmas.Bool.{and_parts, cond_both, leb-true, ltb-true}
use Rattle.std.proofs.lemmas.List.Elements.{All-cons}
use Rattle.std.proofs.lemmas.Str.{IsUtf8-append, IsUtf8-from_ascii, IsUtf8-from_is_utf8, is_utf8-from_IsUtf8}
use Rattle.define_pools.specs.Lists.{is_increasing}
use Rattle.define_pools.specs.Lottery.{LotteryRow}
use Rattle.define_pools.specs.Certificate.{Stage}
use Rattle.define_lines.specs.Lines.{tab, line_of, fields_of}
use Rattle.define_lines.specs.Numbers.{number_up_to, signed_up_to}
use Rattle.define_lines.proofs.LineLemmas.{Lacks, fields_of-line_of, line_of-fields_of}
use Rattle.define_lines.proofs.FieldLemmas.{IsField, plain_field, decimal_field}
use Rattle.define_lines.proofs.NumberLemmas.{bytes_are, number_again, number_spelled, signed_again, signed_spelled}
use Rattle.define_pools.proofs.Each.{each_map}
use Rattle.define_bundles.specs.Ranges.{is_weight, is_group, is_row, is_stage, reach}
use Rattle.define_bundles.specs.BundleText.{total_line, panel_line, stage_line, done_line}
use Rattle.define_bundles.specs.BundleReading.{AnswerLine, OfRow, OfStage, FaultyStage, TheDone, Unknown, weight_in_range, weight_of, with_number, numbers_up_to, stage_limit, signed_of, row_of, stage_of, panel_said, stage_said, done_said, answer_line, total_of}

-- ---- a line has the spelling of what it says

-- the line is the spelling of what it says, and the numbers are in range; nothing is claimed of faulty and unknown lines
abbrev pub IsSpelled : ℕ → List ℕ → AnswerLine → Type 0
IsSpelled volunteers line (OfRow row) = (line ≡ panel_line row) × (is_row volunteers row ≡ true)
IsSpelled volunteers line (OfStage stage) = (line ≡ stage_line stage) × (is_stage volunteers stage ≡ true)
IsSpelled volunteers line FaultyStage = Unit {0}
IsSpelled volunteers line TheDone = line ≡ done_line
IsSpelled volunteers line Unknown = Unit {0}

numbers_spelled : (limit : ℕ) (fields : List (List ℕ)) (numbers : List ℕ) → numbers_up_to limit fields ≡ Some numbers → fields ≡ map decimal numbers
numbers_spelled limit [] [] h = refl
numbers_spelled limit [] (number ∷ numbers) h = cc
numbers_spelled limit (field ∷ fields) numbers h = both (number_up_to limit field) (numbers_up_to limit fields) refl refl (numbers_spelled limit fields) h
  where
    both : (first : Option ℕ) (rest : Option (List ℕ)) → number_up_to limit field ≡ first → numbers_up_to limit fields ≡ rest → ((others : List ℕ) → numbers_up_to limit fields ≡ Some others → fields ≡ map decimal others) → with_number first rest ≡ Some numbers → field ∷ fields ≡ map decimal numbers
    both None rest e f again k = cc
    both (Some number) None e f again k = cc
    both (Some number) (Some others) e f again k =
        let here : decimal number ≡ field = (number_spelled limit number field e).0 in
        let later = again others f in
        let same : number ∷ others ≡ numbers = cc in
        subst (λ ns. field ∷ fields ≡ map decimal ns) same (ap (λ first. first ∷ fields) (sym here) ∙ ap (λ rest. decimal number ∷ rest) later)

signed_are_spelled : (fields : List (List ℕ)) (numbers : List ℤ) → signed_of fields ≡ Some numbers → fields ≡ map signed_decimal numbers
signed_are_spelled [] [] h = refl
signed_are_spelled [] (number ∷ numbers) h = cc
signed_are_spelled (field ∷ fields) numbers h = both (signed_up_to stage_limit field) (signed_of fields) refl refl (signed_are_spelled fields) h
  where
    both : (first : Option ℤ) (rest : Option (List ℤ)) → signed_up_to stage_limit field ≡ first → signed_of fields ≡ rest → ((others : List ℤ) → signed_of fields ≡ Some others → fields ≡ map signed_decimal others) → with_number first rest ≡ Some numbers → field ∷ fields ≡ map signed_decimal numbers
    both None rest e f again k = cc
    both (Some number) None e f again k = cc
    both (Some number) (Some others) e f again k =
        let here : signed_decimal number ≡ field = (signed_spelled stage_limit number field e).0 in
        let later = again others f in
        let same : number ∷ others ≡ numbers = cc in
        subst (λ ns. field ∷ fields ≡ map signed_decimal ns) same (ap (λ first. first ∷ fields) (sym here) ∙ ap (λ rest. signed_decimal number ∷ rest) later)

panel_spelled : (volunteers : ℕ) (first : List ℕ) (fields : List (List ℕ)) → first ≡ codes "panel" → IsSpelled volunteers (line_of (first ∷ fields)) (panel_said volunteers fields)
panel_spelled volunteers first [] e = tt
panel_spelled volunteers first (weight ∷ members) e = both (number_up_to (10 ^ 38) weight) (numbers_up_to volunteers members) refl refl
  where
    both : (w : Option ℕ) (p : Option (List ℕ)) → number_up_to (10 ^ 38) weight ≡ w → numbers_up_to volunteers members ≡ p → IsSpelled volunteers (line_of (first ∷ weight ∷ members)) (row_of volunteers w p)
    both None p f g = tt
    both (Some number) None f g = tt
    both (Some number) (Some panel) f g =
        let row : LotteryRow = record { panel = panel; weight = number } in
        let here : decimal number ≡ weight = (number_spelled (10 ^ 38) number weight f).0 in
        let spelled : line_of (first ∷ weight ∷ members) ≡ panel_line row =
        ap (λ word. line_of (word ∷ weight ∷ members)) e
        ∙ (ap (λ field. line_of (codes "panel" ∷ field ∷ members)) (sym here) ∙ ap (λ fields. line_of (codes "panel" ∷ decimal number ∷ fields)) (numbers_spelled volunteers members panel g)) in
        cond_both (is_row volunteers row) (OfRow row) Unknown (IsSpelled volunteers (line_of (first ∷ weight ∷ members))) (λ is. (spelled, is)) (λ _. tt)

stage_spelled : (volunteers : ℕ) (first : List ℕ) (fields : List (List ℕ)) → first ≡ codes "stage" → IsSpelled volunteers (line_of (first ∷ fields)) (stage_said volunteers fields)
stage_spelled volunteers first [] e = tt
stage_spelled volunteers first (cap ∷ weights) e = both (signed_up_to stage_limit cap) (signed_of weights) refl refl
  where
    both : (c : Option ℤ) (w : Option (List ℤ)) → signed_up_to stage_limit cap ≡ c → signed_of weights ≡ w → IsSpelled volunteers (line_of (first ∷ cap ∷ weights)) (stage_of volunteers c w)
    both None w f g = tt
    both (Some number) None f g = tt
    both (Some number) (Some numbers) f g =
        let stage : Stage = record { weights = numbers; cap = number } in
        let here : signed_decimal number ≡ cap = (signed_spelled stage_limit number cap f).0 in
        let spelled : line_of (first ∷ cap ∷ weights) ≡ stage_line stage =
        ap (λ word. line_of (word ∷ cap ∷ weights)) e
        ∙ (ap (λ field. line_of (codes "stage" ∷ field ∷ weights)) (sym here) ∙ ap (λ fields. line_of (codes "stage" ∷ signed_decimal number ∷ fields)) (signed_are_spelled weights numbers g)) in
        cond_both (is_stage volunteers stage) (OfStage stage) FaultyStage (IsSpelled volunteers (line_of (first ∷ cap ∷ weights))) (λ is. (spelled, is)) (λ _. tt)

done_spelled : (volunteers : ℕ) (first : List ℕ) (fields : List (List ℕ)) → first ≡ codes "done" → IsSpelled volunteers (line_of (first ∷ fields)) (done_said fields)
done_spelled volunteers first [] e = e
done_spelled volunteers first (field ∷ fields) e = tt

fields_spelled : (volunteers : ℕ) (fields : List (List ℕ)) → IsSpelled volunteers (line_of fields) (answer_line volunteers fields)
fields_spelled volunteers [] = tt
fields_spelled volunteers (first ∷ fields) =
    let P = IsSpelled volunteers (line_of (first ∷ fields)) in
    let done = cond (bytes_eq first (codes "done")) (done_said fields) Unknown in
    cond_both (bytes_eq first (codes "panel")) (panel_said volunteers fields) (cond (bytes_eq first (codes "stage")) (stage_said volunteers fields) done) P
    (λ e. panel_spelled volunteers first fields (bytes_are first (codes "panel") e))
    (λ _. cond_both (bytes_eq first (codes "stage")) (stage_said volunteers fields) done P
    (λ e. stage_spelled volunteers first fields (bytes_are first (codes "stage") e))
    (λ _. cond_both (bytes_eq first (codes "done")) (done_said fields) Unknown P (λ e. done_spelled volunteers first fields (bytes_are first (codes "done") e)) (λ _. tt)))

-- each line is the spelling of what it says, unless it is faulty or unknown
pub answer_spelled : (volunteers : ℕ) (line : List ℕ) → IsSpelled volunteers line (answer_line volunteers (fields_of line))
answer_spelled volunteers line = subst (λ l. IsSpelled volunteers l (answer_line volunteers (fields_of line))) (line_of-fields_of line) (fields_spelled volunteers (fields_of line))

-- if a field is read as a weight, it is the weight's digits, and the weight is in range
weight_spelled : (field : List ℕ) (weight : ℕ) → weight_of field ≡ Some weight → (field ≡ decimal weight) × (is_weight weight ≡ true)
weight_spelled field weight h = known (number_up_to (10 ^ 38) field) refl h
  where
    known : (number : Option ℕ) → number_up_to (10 ^ 38) field ≡ number → weight_in_range number ≡ Some weight → (field ≡ decimal weight) × (is_weight weight ≡ true)
    known None e k = cc
    known (Some number) e k =
        cond_both (is_weight number) (Some number) None (λ o. o ≡ Some weight → (field ≡ decimal weight) × (is_weight weight ≡ true))
        (λ is l. let same : number ≡ weight = cc in subst (λ w. (field ≡ decimal w) × (is_weight w ≡ true)) same (sym (number_spelled (10 ^ 38) number field e).0, is))
        (λ _ l. cc) k

total_in_fields : (fields : List (List ℕ)) (total : ℕ) → total_of fields ≡ Some total → (line_of fields ≡ total_line total) × (is_weight total ≡ true)
total_in_fields [] total h = cc
total_in_fields (first ∷ []) total h = cc
total_in_fields (first ∷ field ∷ other ∷ fields) total h = cc
total_in_fields (first ∷ field ∷ []) total h =
    cond_both (bytes_eq first (codes "total")) (weight_of field) None (λ o. o ≡ Some total → (line_of (first ∷ field ∷ []) ≡ total_line total) × (is_weight total ≡ true))
    (λ e k. let spelled = weight_spelled field total k in
    (ap (λ word. line_of (word ∷ field ∷ [])) (bytes_are first (codes "total") e) ∙ ap (λ digits. line_of (codes "total" ∷ digits ∷ [])) spelled.0, spelled.1))
    (λ _ k. cc) h

-- if a line is read as a total, it is the total's line, and the total is in range
pub total_spelled : (line : List ℕ) (total : ℕ) → total_of (fields_of line) ≡ Some total → (line ≡ total_line total) × (is_weight total ≡ true)
total_spelled line total h = let known = total_in_fields (fields_of line) total h in (sym (line_of-fields_of line) ∙ known.0, known.1)

-- ---- the spelling of a value is read as this value

weight_at_most : (weight : ℕ) → is_weight weight ≡ true → weight ≤ 10 ^ 38
weight_at_most weight is = leb-true weight (10 ^ 38) (and_parts (leb 1 weight) (leb weight (10 ^ 38)) is).1

minus_is_ascii : (i : ℕ) → get_or (45 ∷ []) i 0 < 128
minus_is_ascii zero = lit< tt
minus_is_ascii (suc i) = lit< tt

-- if the absolute value of `z` is below 10 ^ 64, the spelling of `z` with its sign is a field
signed_field : (z : ℤ) → unsigned_abs z < 10 ^ 64 → IsField (signed_decimal z)
signed_field (pos n) small = decimal_field n small
signed_field (negsuc n) small =
    let digits = decimal_field (suc n) small in
    record {
      no_tab = All-cons (λ b. eqb b 9 ≡ false) 45 (decimal (suc n)) refl digits.no_tab;
      no_feed = All-cons (λ b. eqb b 10 ≡ false) 45 (decimal (suc n)) refl digits.no_feed;
      utf8 = is_utf8-from_IsUtf8 (45 ∷ decimal (suc n)) (IsUtf8-append (45 ∷ []) (decimal (suc n)) (IsUtf8-from_ascii (45 ∷ []) minus_is_ascii) (IsUtf8-from_is_utf8 (decimal (suc n)) digits.utf8));
    }

-- if numbers are below a limit of at most 4,000, their digits are fields, and are read as the same numbers
numbers_are_fields : (limit : ℕ) → limit ≤ 4000 → (numbers : List ℕ) → list_all (λ i. ltb i limit) numbers ≡ true → AllByRecursion IsField (map decimal numbers)
numbers_are_fields limit small [] h = tt
numbers_are_fields limit small (number ∷ numbers) h =
    let parts = and_parts (ltb number limit) (list_all (λ i. ltb i limit) numbers) h in
    let below = ltb-true number limit parts.0 in
    (decimal_field number (omega arith), numbers_are_fields limit small numbers parts.1)

numbers_again : (limit : ℕ) → limit ≤ 4000 → (numbers : List ℕ) → list_all (λ i. ltb i limit) numbers ≡ true → numbers_up_to limit (map decimal numbers) ≡ Some numbers
numbers_again limit small [] h = refl
numbers_again limit small (number ∷ numbers) h =
    let parts = and_parts (ltb number limit) (list_all (λ i. ltb i limit) numbers) h in
    let below = ltb-true number limit parts.0 in
    ap (λ o. with_number o (numbers_up_to limit (map decimal numbers))) (number_again limit number (omega arith) (omega arith))
    ∙ ap (with_number (Some number)) (numbers_again limit small numbers parts.1)

stage_limit_small : stage_limit < 10 ^ 64
stage_limit_small = lit< tt

-- if the absolute values of numbers sum to at most `stage_limit`, the numbers' spellings are fields, and are read as the same numbers
signed_are_fields : (numbers : List ℤ) → sum_by unsigned_abs numbers ≤ stage_limit → AllByRecursion IsField (map signed_decimal numbers)
signed_are_fields [] h = tt
signed_are_fields (number ∷ numbers) h =
    let wide = stage_limit_small in
    let sum = sum_by-cons unsigned_abs number numbers in
    (signed_field number (omega (arith, sum)), signed_are_fields numbers (omega (arith, sum)))

signed_are_again : (numbers : List ℤ) → sum_by unsigned_abs numbers ≤ stage_limit → signed_of (map signed_decimal numbers) ≡ Some numbers
signed_are_again [] h = refl
signed_are_again (number ∷ numbers) h =
    let wide = stage_limit_small in
    let sum = sum_by-cons unsigned_abs number numbers in
    ap (λ o. with_number o (signed_of (map signed_decimal numbers))) (signed_again stage_limit number (omega (arith, sum)) (omega (arith, sum)))
    ∙ ap (with_number (Some number)) (signed_are_again numbers (omega (arith, sum)))

-- the row's weight is in range, and each member's number is below `volunteers`
record RowParts (volunteers : ℕ) (row : LotteryRow) : Type 0 where
  weight : is_weight row.weight ≡ true
  below : list_all (λ i. ltb i volunteers) row.panel ≡ true

row_parts : (volunteers : ℕ) (row : LotteryRow) → is_row volunteers row ≡ true → RowParts volunteers row
row_parts volunteers row is =
    let parts = and_parts (is_weight row.weight) (is_group volunteers row.panel) is in
    record { weight = parts.0; below = (and_parts (ltb 0 (length row.panel) && is_increasing row.panel) (list_all (λ i. ltb i volunteers) row.panel) parts.1).1 }

pub row_fields : (volunteers : ℕ) → volunteers ≤ 4000 → (row : LotteryRow) → is_row volunteers row ≡ true → AllByRecursion IsField (codes "panel" ∷ decimal row.weight ∷ map decimal row.panel)
row_fields volunteers small row is =
    let parts = row_parts volunteers row is in
    let most = weight_at_most row.weight parts.weight in
    (plain_field (codes "panel") refl, (decimal_field row.weight (omega arith), numbers_are_fields volunteers small row.panel parts.below))

-- if `is_row` holds of a row, its line is read as this row
pub row_again : (volunteers : ℕ) → volunteers ≤ 4000 → (row : LotteryRow) → is_row volunteers row ≡ true → answer_line volunteers (fields_of (panel_line row)) ≡ OfRow row
row_again volunteers small row is =
    let parts = row_parts volunteers row is in
    let most = weight_at_most row.weight parts.weight in
    let fields = decimal row.weight ∷ map decimal row.panel in
    ap (answer_line volunteers) (fields_of-line_of (codes "panel") fields (each_map IsField (Lacks tab) (λ f i. i.no_tab) (codes "panel" ∷ fields) (row_fields volunteers small row is)))
    ∙ (ap (λ w. row_of volunteers w (numbers_up_to volunteers (map decimal row.panel))) (number_again (10 ^ 38) row.weight (omega arith) most)
    ∙ (ap (row_of volunteers (Some row.weight)) (numbers_again volunteers small row.panel parts.below)
    ∙ ap (λ test. cond test (OfRow row) Unknown) is))

stage_reach : (volunteers : ℕ) (stage : Stage) → is_stage volunteers stage ≡ true → unsigned_abs stage.cap + sum_by unsigned_abs stage.weights ≤ stage_limit
stage_reach volunteers stage is = leb-true (reach stage) stage_limit (and_parts _ (leb (reach stage) stage_limit) is).1

pub stage_fields : (volunteers : ℕ) (stage : Stage) → is_stage volunteers stage ≡ true → AllByRecursion IsField (codes "stage" ∷ signed_decimal stage.cap ∷ map signed_decimal stage.weights)
stage_fields volunteers stage is =
    let most = stage_reach volunteers stage is in
    let wide = stage_limit_small in
    (plain_field (codes "stage") refl, (signed_field stage.cap (omega arith), signed_are_fields stage.weights (omega arith)))

-- if `is_stage` holds of a stage, its line is read as this stage
pub stage_again : (volunteers : ℕ) (stage : Stage) → is_stage volunteers stage ≡ true → answer_line volunteers (fields_of (stage_line stage)) ≡ OfStage stage
stage_again volunteers stage is =
    let most = stage_reach volunteers stage is in
    let wide = stage_limit_small in
    let fields = signed_decimal stage.cap ∷ map signed_decimal stage.weights in
    ap (answer_line volunteers) (fields_of-line_of (codes "stage") fields (each_map IsField (Lacks tab) (λ f i. i.no_tab) (codes "stage" ∷ fields) (stage_fields volunteers stage is)))
    ∙ (ap (λ c. stage_of volunteers c (signed_of (map signed_decimal stage.weights))) (signed_again stage_limit stage.cap (omega arith) (omega arith))
    ∙ (ap (stage_of volunteers (Some stage.cap)) (signed_are_again stage.weights (omega arith))
    ∙ ap (λ test. cond test (OfStage stage) FaultyStage) is))

-- the line `done` is read as the last line
pub done_again : (volunteers : ℕ) → answer_line volunteers (fields_of done_line) ≡ TheDone
done_again volunteers = ap (answer_line volunteers) (fields_of-line_of (codes "done") [] ((plain_field (codes "done") refl).no_tab, tt))

pub total_fields : (total : ℕ) → is_weight total ≡ true → AllByRecursion IsField (codes "total" ∷ decimal total ∷ [])
total_fields total is = let most = weight_at_most total is in (plain_field (codes "total") refl, (decimal_field total (omega arith), tt))

-- the line of a total is read as this total
pub total_again : (total : ℕ) → is_weight total ≡ true → total_of (fields_of (total_line total)) ≡ Some total
total_again total is =
    let most = weight_at_most total is in
    ap total_of (fields_of-line_of (codes "total") (decimal total ∷ []) (each_map IsField (Lacks tab) (λ f i. i.no_tab) (codes "total" ∷ decimal total ∷ []) (total_fields total is)))
    ∙ (ap weight_in_range (number_again (10 ^ 38) total (omega arith) most) ∙ ap (λ test. cond test (Some total) None) is)
