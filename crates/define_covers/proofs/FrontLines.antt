-- What a line of a cover's tree is read as, and that the spelling of what is read is the line again.
use Rattle.std.proofs.Common.{◌≡◌, ℕ, ◌+◌, ◌-◌, ◌<◌, ◌≤◌, true, ◌&&◌, cond, eqb, leb, ltb, List, [], ◌∷◌, ◌++◌, length, map, refl, sym, ◌∙◌, ap, subst, arith, Option, Some, None}
use Rattle.std.specs.Prelude.{bytes_eq, codes}
use Rattle.std.specs.Fmt.{decimal}
use Rattle.std.specs.List.{AllByRecursion, list_all}
use Rattle.std.specs.Option.{option_map}
use Rattle.std.proofs.lemmas.Bool.{and_from, and_parts, cond_both, eqb-true, eq-eqb, le-leb, leb-true, lt-ltb, ltb-true}
use Rattle.define_pools.proofs.Each.{each_map}
use Rattle.define_pools.specs.Pool.{Pool, limits_for}
use Rattle.define_pools.proofs.BuildingLemmas.{volunteers_are_few}
use Rattle.define_lines.specs.Lines.{line_feed, tab, line_of, fields_of}
use Rattle.define_lines.specs.Numbers.{number_up_to}
use Rattle.define_lines.proofs.LineLemmas.{Lacks, fields_of-line_of, line_of-fields_of}
use Rattle.define_lines.proofs.FieldLemmas.{IsField, decimal_field, line_lacks_feed, plain_field}
use Rattle.define_lines.proofs.NumberLemmas.{bytes_are, bytes_same, number_again, number_spelled}
use Rattle.define_bundles.specs.BundleReading.{numbers_up_to, with_number}
use Rattle.define_proofs.specs.ProofText.{close_line, tree_line}
use Rattle.define_covers.specs.Covers.{ByCap, ByClosed, ByHousehold, BySize, ByValue, Cause, FrontLine}
use Rattle.define_covers.specs.CoverRanges.{is_cause, is_front_line, is_numbered, greatest_count, most_count, value_count}
use Rattle.define_covers.specs.CoverText.{cause_fields, front_line, most_trees}
use Rattle.define_covers.specs.CoverReading.{LineInTree, NextTree, OfFront, TheClose, Unknown, cause_of, fields_said, front_of, front_said, line_in_tree, unnumbered}

-- ---- a line is the spelling of what it is read as

-- inside tree `number` of `last`, the line is the spelling of `said`, and the numbers in `said` are in range
abbrev pub IsSpelled : Pool → ℕ → ℕ → List ℕ → LineInTree → Type 0
IsSpelled pool number last line (OfFront front) = (line ≡ front_line front) × (is_front_line pool number front ≡ true)
IsSpelled pool number last line NextTree = (line ≡ tree_line (number + 1)) × (number < last) × (number < most_trees)
IsSpelled pool number last line TheClose = (line ≡ close_line) × (number ≡ last)
IsSpelled pool number last line Unknown = Unit {0}

-- if fields are read as counts, they are the counts' digits
counts_spelled : (fields : List (List ℕ)) (counts : List ℕ) → numbers_up_to greatest_count fields ≡ Some counts → fields ≡ map decimal counts
counts_spelled [] [] h = refl
counts_spelled [] (count ∷ counts) h = cc
counts_spelled (field ∷ fields) counts h = both (number_up_to greatest_count field) (numbers_up_to greatest_count fields) refl refl (counts_spelled fields) h
  where
    both : (first : Option ℕ) (rest : Option (List ℕ)) → number_up_to greatest_count field ≡ first → numbers_up_to greatest_count fields ≡ rest →
        ((others : List ℕ) → numbers_up_to greatest_count fields ≡ Some others → fields ≡ map decimal others) → with_number first rest ≡ Some counts → field ∷ fields ≡ map decimal counts
    both None rest e f again k = cc
    both (Some count) None e f again k = cc
    both (Some count) (Some others) e f again k =
        let here : decimal count ≡ field = (number_spelled greatest_count count field e).0 in
        let later = again others f in
        let same : count ∷ others ≡ counts = cc in
        subst (λ ns. field ∷ fields ≡ map decimal ns) same (ap (λ first. first ∷ fields) (sym here) ∙ ap (λ rest. decimal count ∷ rest) later)

-- the word and the field after it are the cause's fields
abbrev AreFields : List ℕ → List ℕ → Option Cause → Type 0
AreFields word argument None = Unit {0}
AreFields word argument (Some cause) = word ∷ argument ∷ [] ≡ cause_fields cause

unnumbered_spelled : (word argument name : List ℕ) (cause : Cause) → cause_fields cause ≡ name ∷ codes "0" ∷ [] → word ≡ name → AreFields word argument (unnumbered cause argument)
unnumbered_spelled word argument name cause are e =
    cond_both (bytes_eq argument (codes "0")) (Some cause) None (AreFields word argument)
    (λ zero. ap (λ w. w ∷ argument ∷ []) e ∙ ap (λ a. name ∷ a ∷ []) (bytes_are argument (codes "0") zero) ∙ sym are) (λ _. tt)

numbered_spelled : (word argument name : List ℕ) (cause : ℕ → Cause) (limit : ℕ) → ((n : ℕ) → cause_fields (cause n) ≡ name ∷ decimal n ∷ []) → word ≡ name →
    AreFields word argument (option_map cause (number_up_to limit argument))
numbered_spelled word argument name cause limit are e = by (number_up_to limit argument) refl
  where
    by : (n : Option ℕ) → number_up_to limit argument ≡ n → AreFields word argument (option_map cause n)
    by None d = tt
    by (Some n) d = ap (λ w. w ∷ argument ∷ []) e ∙ ap (λ a. name ∷ a ∷ []) (sym (number_spelled limit n argument d).0) ∙ sym (are n)

cause_spelled : (pool : Pool) (stage : ℕ) (word argument : List ℕ) → AreFields word argument (cause_of pool stage word argument)
cause_spelled pool stage word argument =
    let P = AreFields word argument in
    let cap = cond (bytes_eq word (codes "cap")) (unnumbered ByCap argument) None in
    let closed = cond (bytes_eq word (codes "closed")) (option_map ByClosed (number_up_to (stage - 1) argument)) cap in
    let house = cond (bytes_eq word (codes "house")) (unnumbered ByHousehold argument) closed in
    let value = cond (bytes_eq word (codes "value")) (option_map ByValue (number_up_to (value_count pool) argument)) house in
    cond_both (bytes_eq word (codes "size")) (unnumbered BySize argument) value P
    (λ e. unnumbered_spelled word argument (codes "size") BySize refl (bytes_are word (codes "size") e))
    (λ _. cond_both (bytes_eq word (codes "value")) (option_map ByValue (number_up_to (value_count pool) argument)) house P
    (λ e. numbered_spelled word argument (codes "value") (λ n. ByValue n) (value_count pool) (λ n. refl) (bytes_are word (codes "value") e))
    (λ _. cond_both (bytes_eq word (codes "house")) (unnumbered ByHousehold argument) closed P
    (λ e. unnumbered_spelled word argument (codes "house") ByHousehold refl (bytes_are word (codes "house") e))
    (λ _. cond_both (bytes_eq word (codes "closed")) (option_map ByClosed (number_up_to (stage - 1) argument)) cap P
    (λ e. numbered_spelled word argument (codes "closed") (λ n. ByClosed n) (stage - 1) (λ n. refl) (bytes_are word (codes "closed") e))
    (λ _. cond_both (bytes_eq word (codes "cap")) (unnumbered ByCap argument) None P
    (λ e. unnumbered_spelled word argument (codes "cap") ByCap refl (bytes_are word (codes "cap") e)) (λ _. tt)))))

module _ (pool : Pool) (number last : ℕ) where
  abbrev Spells : List ℕ → LineInTree → Type 0
  Spells line said = IsSpelled pool number last line said

  front_spelled : (first : List ℕ) (fields : List (List ℕ)) → first ≡ codes "front" → Spells (line_of (first ∷ fields)) (front_said pool number fields)
  front_spelled first [] e = tt
  front_spelled first (word ∷ []) e = tt
  front_spelled first (word ∷ argument ∷ counts) e = by (cause_of pool number word argument) (numbers_up_to greatest_count counts) refl refl
    where
      by : (cause : Option Cause) (front : Option (List ℕ)) → cause_of pool number word argument ≡ cause → numbers_up_to greatest_count counts ≡ front →
          Spells (line_of (first ∷ word ∷ argument ∷ counts)) (front_of pool number cause front)
      by None front d f = tt
      by (Some cause) None d f = tt
      by (Some cause) (Some front) d f =
          let made : FrontLine = record { front = front; cause = cause } in
          let fields : word ∷ argument ∷ [] ≡ cause_fields cause = subst (AreFields word argument) d (cause_spelled pool number word argument) in
          let spelled : line_of (first ∷ word ∷ argument ∷ counts) ≡ front_line made =
          ap (λ w. line_of (w ∷ word ∷ argument ∷ counts)) e ∙ ap (λ fs. line_of (codes "front" ∷ (fs ++ counts))) fields
          ∙ ap (λ rest. line_of (codes "front" ∷ (cause_fields cause ++ rest))) (counts_spelled counts front f) in
          cond_both (is_front_line pool number made) (OfFront made) Unknown (Spells (line_of (first ∷ word ∷ argument ∷ counts))) (λ is. (spelled, is)) (λ _. tt)

  fields_spelled : (fields : List (List ℕ)) → Spells (line_of fields) (fields_said pool number fields)
  fields_spelled [] = tt
  fields_spelled (first ∷ fields) =
      cond_both (bytes_eq first (codes "front")) (front_said pool number fields) Unknown (Spells (line_of (first ∷ fields)))
      (λ e. front_spelled first fields (bytes_are first (codes "front") e)) (λ _. tt)

  -- each line is the spelling of what it is read as
  pub line_spelled : (line : List ℕ) → Spells line (line_in_tree pool number last line)
  line_spelled line =
      let front = fields_said pool number (fields_of line) in
      let next = cond (ltb number last && ltb number most_trees) NextTree Unknown in
      cond_both (bytes_eq line close_line) (cond (eqb number last) TheClose Unknown) (cond (bytes_eq line (tree_line (number + 1))) next front) (Spells line)
      (λ e. cond_both (eqb number last) TheClose Unknown (Spells line) (λ f. (bytes_are line close_line e, eqb-true number last f)) (λ _. tt))
      (λ _. cond_both (bytes_eq line (tree_line (number + 1))) next front (Spells line)
      (λ e. cond_both (ltb number last && ltb number most_trees) NextTree Unknown (Spells line)
      (λ f. let parts = and_parts (ltb number last) (ltb number most_trees) f in
      (bytes_are line (tree_line (number + 1)) e, ltb-true number last parts.0, ltb-true number most_trees parts.1)) (λ _. tt))
      (λ _. subst (λ l. Spells l front) (line_of-fields_of line) (fields_spelled (fields_of line))))

-- ---- the spelling of a front is read as this front

-- the properties of a front's line in its ranges
record FrontParts (pool : Pool) (stage : ℕ) (line : FrontLine) : Type 0 where
  cause : is_cause pool stage line.cause ≡ true
  counts : list_all (λ c. leb c greatest_count) line.front ≡ true

front_parts : (pool : Pool) (stage : ℕ) (line : FrontLine) → is_front_line pool stage line ≡ true → FrontParts pool stage line
front_parts pool stage line is =
    let A = is_cause pool stage line.cause in let B = leb (length line.front) (length pool.volunteers) in let C = list_all (λ c. leb c (most_count (length pool.volunteers))) line.front in
    let parts = and_parts (A && B) C is in
    record { cause = (and_parts A B parts.0).0; counts = none_greater line.front parts.1 }
  where
    none_greater : (counts : List ℕ) → list_all (λ c. leb c (most_count (length pool.volunteers))) counts ≡ true → list_all (λ c. leb c greatest_count) counts ≡ true
    none_greater [] h = refl
    none_greater (count ∷ counts) h =
        let parts = and_parts (leb count (most_count (length pool.volunteers))) (list_all (λ c. leb c (most_count (length pool.volunteers))) counts) h in
        let few = leb-true count (most_count (length pool.volunteers)) parts.0 in
        and_from (leb count greatest_count) (list_all (λ c. leb c greatest_count) counts)
        (le-leb count greatest_count (omega (arith, few, volunteers_are_few (limits_for (length pool.volunteers))))) (none_greater counts parts.1)

counts_are_fields : (counts : List ℕ) → list_all (λ c. leb c greatest_count) counts ≡ true → AllByRecursion IsField (map decimal counts)
counts_are_fields [] h = tt
counts_are_fields (count ∷ counts) h =
    let parts = and_parts (leb count greatest_count) (list_all (λ c. leb c greatest_count) counts) h in
    let few = leb-true count greatest_count parts.0 in
    (decimal_field count (omega arith), counts_are_fields counts parts.1)

counts_again : (counts : List ℕ) → list_all (λ c. leb c greatest_count) counts ≡ true → numbers_up_to greatest_count (map decimal counts) ≡ Some counts
counts_again [] h = refl
counts_again (count ∷ counts) h =
    let parts = and_parts (leb count greatest_count) (list_all (λ c. leb c greatest_count) counts) h in
    let few = leb-true count greatest_count parts.0 in
    ap (λ o. with_number o (numbers_up_to greatest_count (map decimal counts))) (number_again greatest_count count (omega arith) few)
    ∙ ap (with_number (Some count)) (counts_again counts parts.1)

numbered_at_most : (limit number : ℕ) → is_numbered limit number ≡ true → number ≤ limit
numbered_at_most limit number is = leb-true number limit (and_parts (ltb 0 number) (leb number limit) is).1

module _ (pool : Pool) (few : value_count pool ≤ 1000) (stage : ℕ) (small : stage ≤ most_trees) where
  -- a front's line has its cause's fields, then its counts
  abbrev fields_in : Cause → List ℕ → List (List ℕ)
  fields_in cause front = cause_fields cause ++ map decimal front

  cause_then : (cause : Cause) (front : List ℕ) → is_cause pool stage cause ≡ true → AllByRecursion IsField (map decimal front) → AllByRecursion IsField (fields_in cause front)
  cause_then BySize front is rest = (plain_field (codes "size") refl, (plain_field (codes "0") refl, rest))
  cause_then (ByValue number) front is rest =
      let most = numbered_at_most (value_count pool) number is in (plain_field (codes "value") refl, (decimal_field number (omega arith), rest))
  cause_then ByHousehold front is rest = (plain_field (codes "house") refl, (plain_field (codes "0") refl, rest))
  cause_then (ByClosed number) front is rest =
      let most = numbered_at_most (stage - 1) number is in (plain_field (codes "closed") refl, (decimal_field number (omega arith), rest))
  cause_then ByCap front is rest = (plain_field (codes "cap") refl, (plain_field (codes "0") refl, rest))

  -- the fields of a cause in its range are read as this cause
  said_by_cause : (cause : Cause) (front : List ℕ) → is_cause pool stage cause ≡ true → front_said pool stage (fields_in cause front) ≡ front_of pool stage (Some cause) (numbers_up_to greatest_count (map decimal front))
  said_by_cause BySize front is = refl
  said_by_cause (ByValue number) front is =
      let most = numbered_at_most (value_count pool) number is in
      ap (λ o. front_of pool stage (option_map (λ n. ByValue n) o) (numbers_up_to greatest_count (map decimal front))) (number_again (value_count pool) number (omega arith) most)
  said_by_cause ByHousehold front is = refl
  said_by_cause (ByClosed number) front is =
      let most = numbered_at_most (stage - 1) number is in
      ap (λ o. front_of pool stage (option_map (λ n. ByClosed n) o) (numbers_up_to greatest_count (map decimal front))) (number_again (stage - 1) number (omega arith) most)
  said_by_cause ByCap front is = refl

  front_fields : (line : FrontLine) → is_front_line pool stage line ≡ true → AllByRecursion IsField (codes "front" ∷ fields_in line.cause line.front)
  front_fields line is =
      let parts = front_parts pool stage line is in
      (plain_field (codes "front") refl, cause_then line.cause line.front parts.cause (counts_are_fields line.front parts.counts))

  -- the line of a front in its ranges has no LF
  pub front_lacks_feed : (line : FrontLine) → is_front_line pool stage line ≡ true → Lacks line_feed (front_line line)
  front_lacks_feed line is = line_lacks_feed (codes "front" ∷ fields_in line.cause line.front) (front_fields line is)

  said_again : (line : FrontLine) → is_front_line pool stage line ≡ true → fields_said pool stage (fields_of (front_line line)) ≡ OfFront line
  said_again line is =
      let parts = front_parts pool stage line is in
      let fields = fields_in line.cause line.front in
      ap (fields_said pool stage) (fields_of-line_of (codes "front") fields (each_map IsField (Lacks tab) (λ f it. it.no_tab) (codes "front" ∷ fields) (front_fields line is)))
      ∙ said_by_cause line.cause line.front parts.cause
      ∙ ap (front_of pool stage (Some line.cause)) (counts_again line.front parts.counts)
      ∙ ap (λ test. cond test (OfFront line) Unknown) is

  -- the line of a front in its ranges is read as this front
  pub front_again : (last : ℕ) (line : FrontLine) → is_front_line pool stage line ≡ true → line_in_tree pool stage last (front_line line) ≡ OfFront line
  front_again last line is = by line.cause line.front is
    where
      made : Cause → List ℕ → FrontLine
      made cause front = record { front = front; cause = cause }

      by : (cause : Cause) (front : List ℕ) → is_front_line pool stage (made cause front) ≡ true → line_in_tree pool stage last (front_line (made cause front)) ≡ OfFront (made cause front)
      by BySize front are = said_again (made BySize front) are
      by (ByValue number) front are = said_again (made (ByValue number) front) are
      by ByHousehold front are = said_again (made ByHousehold front) are
      by (ByClosed number) front are = said_again (made (ByClosed number) front) are
      by ByCap front are = said_again (made ByCap front) are

-- inside tree `number`, if `number` is below `last` and `most_trees`, the line that begins the next tree is read as `NextTree`
pub next_again : (pool : Pool) (number last : ℕ) → number < last → number < most_trees → line_in_tree pool number last (tree_line (number + 1)) ≡ NextTree
next_again pool number last l m =
    let front = fields_said pool number (fields_of (tree_line (number + 1))) in
    let both = and_from (ltb number last) (ltb number most_trees) (lt-ltb number last l) (lt-ltb number most_trees m) in
    ap (λ test. cond test (cond (ltb number last && ltb number most_trees) NextTree Unknown) front) (bytes_same (tree_line (number + 1)) (tree_line (number + 1)) refl)
    ∙ ap (λ test. cond test NextTree Unknown) both

-- inside the last tree, the last line is read as `TheClose`
pub close_again : (pool : Pool) (last : ℕ) → line_in_tree pool last last close_line ≡ TheClose
close_again pool last = ap (λ test. cond test TheClose Unknown) (eq-eqb last last refl)

pub tree_lacks_feed : (number : ℕ) → number ≤ most_trees → Lacks line_feed (tree_line number)
tree_lacks_feed number few = line_lacks_feed (codes "tree" ∷ decimal number ∷ []) (plain_field (codes "tree") refl, (decimal_field number (omega arith), tt))
