-- The lines before the first faulty line begin the text of some pool, or are right lines of version 2 or 3 that still lack others.
-- Together with the faulty line they begin no pool's text, unless the fault is a missing end.
use Rattle.std.proofs.Common.{◌≡◌, ◌≢◌, ℕ, suc, Bool, true, false, eqb, ltb, ◌+◌, ◌-◌, ◌<◌, List, [], ◌∷◌, ◌++◌, length, take, get_or, refl, sym, ◌∙◌, ap, subst, arith, append_assoc, length-append, Some, None, ◌⊎◌, inl, inr}
use Rattle.std.specs.Prelude.{Result, Ok, Err}
use Rattle.std.specs.List.{AllByRecursion}
use Rattle.std.proofs.Math.Seq.{get_or-append_seam, take-append_seam}
use Rattle.std.proofs.lemmas.Grind.{flat_map-append}
use Rattle.std.proofs.lemmas.List.{append-nil}
use Rattle.std.proofs.lemmas.Bool.{and_parts, or_from, eqb-true, false≢true}
use Rattle.std.specs.Prelude.{codes}
use Rattle.std.specs.Str.{is_utf8, chars}
use Rattle.define_pools.proofs.Each.{each_left}
use lib.Utf8.{encode}
use Rattle.define_pools.specs.declared.Limits.TheVariants.{Large}
use Rattle.define_pools.specs.declared.Standing.TheVariants.{Open}
use Rattle.define_pools.specs.Pool.{Pool, IsPool, is_usual}
use Rattle.define_pools.specs.Building.{empty_pool}
use Rattle.define_pools.proofs.BuildingLemmas.{IsPool-empty_pool}
use Rattle.define_lines.specs.Lines.{Fault, line_feed, pieces_of, text_of}
use Rattle.define_lines.specs.Reading.{fault_or, read_lines}
use Rattle.define_lines.proofs.LineLemmas.{Lacks, pieces_lack, some_piece, pieces_of-text_of_then}
use Rattle.define_bundles.specs.PoolText.{version_line, size_line, end_line, lines_in, lines_before_end, spelling}
use Rattle.define_bundles.specs.declared.Passed.{Passed}
use Rattle.define_bundles.specs.declared.Version.{Version}
use Rattle.define_bundles.specs.declared.Version.TheVariants.{First, Second, Third}
use Rattle.define_bundles.specs.PoolReading.{Progress, Begun, Versioned, Inside, Ended, must_house, must_pass, awaits_household, awaits_volunteers, line_kind, line_kinds, after_line, at_last, read, reader}
use Rattle.define_bundles.specs.FirstFault.{IsPoolText, BeginsPoolText, LacksLines, lines_before, lines_up_to, IsLowest, after_lines, kinds_at}
use Rattle.define_bundles.proofs.LowestKinds.{not_the_end, lowest_is, line_kinds_rise}
use Rattle.define_bundles.proofs.PoolReadAgain.{spelled_is_read}
use Rattle.define_bundles.proofs.PoolSpelled.{IsRight, IsRightInside, own_version, lines_so_far, line_adds}

-- no line has a fault at the progress that the lines before it lead to
abbrev Passes : Progress → List (List ℕ) → Type 0
Passes progress [] = Unit {0}
Passes progress (line ∷ lines) = (line_kind progress line ≡ None) × Passes (after_line progress line) lines

-- if `IsRight` holds of a progress and the lines after it have no fault, `IsRight` holds of the progress after them, and its lines are the
-- earlier ones with these appended
passed : (progress : Progress) (lines : List (List ℕ)) → IsRight progress → Passes progress lines →
    IsRight (after_lines progress lines) × (lines_so_far (after_lines progress lines) ≡ lines_so_far progress ++ lines)
passed progress [] right h = (right, sym (append-nil (lines_so_far progress)))
passed progress (line ∷ lines) right h =
    let step = line_adds progress line right h.0 in
    let rest = passed (after_line progress line) lines step.0 h.1 in
    (rest.0, rest.1 ∙ (ap (λ stood. stood ++ lines) step.1 ∙ append_assoc (lines_so_far progress) (line ∷ []) lines))

-- if the lines of a pool, with its end, are `lines` and others after them, `lines` begin a pool's text
begins : (pool : Pool) (lines rest : List (List ℕ)) → IsPool pool → lines_before_end pool ++ end_line ∷ [] ≡ lines ++ rest → BeginsPoolText lines
begins pool lines rest has same = (pool, text_of rest, has, ap text_of same ∙ flat_map-append (λ line. line ++ line_feed ∷ []) lines rest)

-- a pool of one volunteer, who has a household
lodger : Pool
lodger = record { size = 1; categories = []; volunteers = record { id = codes "a"; values = []; standing = Open; household = Some (codes "h") } ∷ [] }

-- in each version, the first line alone begins the text of some pool
version_begins : (version : Version) → BeginsPoolText (version_line version ∷ [])
unfolding lodger is_utf8 chars encode
version_begins First = begins (empty_pool 1) (version_line First ∷ []) (size_line 1 ∷ end_line ∷ []) (IsPool-empty_pool Large 1 refl) refl
version_begins Second =
    begins lodger (version_line Second ∷ []) _ (record { size = refl; few_categories = refl; categories = refl; different_categories = refl; few_volunteers = refl; ids = refl; different_ids = refl; values = refl; households = refl }) refl
version_begins Third = begins (empty_pool 201) (version_line Third ∷ []) (size_line 201 ∷ end_line ∷ []) (IsPool-empty_pool Large 201 refl) refl

-- after the size line, the right lines so far are those of the pool in its own version, or lines are still missing
own_or_lacks : (pool : Pool) (passed : Passed) → IsRightInside pool passed → (lines_in passed.version pool ≡ lines_before_end pool) ⊎ LacksLines (lines_in passed.version pool)
own_or_lacks pool passed right =
    (elim (awaits_household passed) as (λ b. awaits_household passed ≡ b → (lines_in passed.version pool ≡ lines_before_end pool) ⊎ LacksLines (lines_in passed.version pool)) [
      | true ↦ λ e.
          let parts = and_parts (must_house passed.version) (eqb passed.households 0) e in
          inr (inl (pool, right.is_pool, right.housed ∙ ap (ltb 0) (eqb-true passed.households 0 parts.1), ap (λ version. lines_in version pool) (second passed.version parts.0)))
      | false ↦ λ e. (elim (awaits_volunteers pool passed) as (λ b. awaits_volunteers pool passed ≡ b → (lines_in passed.version pool ≡ lines_before_end pool) ⊎ LacksLines (lines_in passed.version pool)) [
        | true ↦ λ f.
            let parts = and_parts (must_pass passed.version) (is_usual pool) f in
            inr (inr (pool, right.is_pool, parts.1, ap (λ version. lines_in version pool) (third passed.version parts.0)))
        | false ↦ λ f. inl (ap (λ version. lines_in version pool) (sym (own_version pool passed right (or_from (awaits_household passed) (awaits_volunteers pool passed) e f))))
      ]) refl
    ]) refl
  where
    second : (version : Version) → must_house version ≡ true → version ≡ Second
    second First h = absurd (false≢true h)
    second Second h = refl
    second Third h = absurd (false≢true h)

    third : (version : Version) → must_pass version ≡ true → version ≡ Third
    third First h = absurd (false≢true h)
    third Second h = absurd (false≢true h)
    third Third h = refl

-- the lines so far begin some pool's text, or lines are still missing
stands : (progress : Progress) → IsRight progress → BeginsPoolText (lines_so_far progress) ⊎ LacksLines (lines_so_far progress)
stands Begun right = inl (begins (empty_pool 1) [] (lines_before_end (empty_pool 1) ++ end_line ∷ []) (IsPool-empty_pool Large 1 refl) refl)
stands (Versioned version) right = inl (version_begins version)
stands (Inside pool passed) right =
    elim (own_or_lacks pool passed right) as (λ _. BeginsPoolText (lines_in passed.version pool) ⊎ LacksLines (lines_in passed.version pool)) [
      | inl own ↦ inl (begins pool (lines_in passed.version pool) (end_line ∷ []) right.is_pool (ap (λ lines. lines ++ end_line ∷ []) (sym own)))
      | inr due ↦ inr due
    ]
stands (Ended pool) right = inl (begins pool (lines_before_end pool ++ end_line ∷ []) [] right (sym (append-nil (lines_before_end pool ++ end_line ∷ []))))

-- if there are at least two lines so far, they are a pool's text, or are one once the end is added, or lines are still missing
closed : (progress : Progress) → IsRight progress → 1 < length (lines_so_far progress) →
    IsPoolText (text_of (lines_so_far progress)) ⊎ IsPoolText (text_of (lines_so_far progress ++ end_line ∷ [])) ⊎ LacksLines (lines_so_far progress)
closed Begun right more = absurd (omega arith)
closed (Versioned version) right more = absurd (omega arith)
closed (Inside pool passed) right more =
    elim (own_or_lacks pool passed right) as (λ _. IsPoolText (text_of (lines_in passed.version pool)) ⊎ IsPoolText (text_of (lines_in passed.version pool ++ end_line ∷ [])) ⊎ LacksLines (lines_in passed.version pool)) [
      | inl own ↦ inr (inl (pool, right.is_pool, ap (λ lines. text_of (lines ++ end_line ∷ [])) own))
      | inr due ↦ inr (inr due)
    ]
closed (Ended pool) right more = inl (pool, right, refl)

-- the reading of pieces stops after right lines: at a line with a fault, or at the last piece since the end is missing
record Stops (number : ℕ) (progress : Progress) (pieces : List (List ℕ)) (fault : Fault) : Type 0 where
  before : List (List ℕ)
  line : List ℕ
  later : List (List ℕ)
  parted : pieces ≡ before ++ line ∷ later
  place : fault.line ≡ number + length before
  passes : Passes progress before
  stop : (line_kind (after_lines progress before) line ≡ Some fault.kind) ⊎ ((fault.kind ≡ 12) × (later ≡ []))

-- the reading stops at the first piece if this has a fault
fails_here : (number : ℕ) (progress : Progress) (line : List ℕ) (later : List (List ℕ)) (kind : ℕ) → line_kind progress line ≡ Some kind →
    Stops number progress (line ∷ later) (record { line = number; kind = kind })
fails_here number progress line later kind h = record { before = []; line = line; later = later; parted = refl; place = omega arith; passes = tt; stop = inl h }

-- the reading stops at the last piece if the end is missing
lacks_end : (number : ℕ) (progress : Progress) (line : List ℕ) → Stops number progress (line ∷ []) (record { line = number; kind = 12 })
lacks_end number progress line = record { before = []; line = line; later = []; parted = refl; place = omega arith; passes = tt; stop = inr (refl, refl) }

same_fault : (r : Result Pool Fault) (first second : Fault) → r ≡ Err first → r ≡ Err second → first ≡ second
same_fault r first second h k = cc

last_stops : (number : ℕ) (progress : Progress) (bytes : List ℕ) (fault : Fault) → at_last number progress bytes ≡ Err fault → Stops number progress (bytes ∷ []) fault
last_stops number Begun bytes fault h = subst (Stops number Begun (bytes ∷ [])) (same_fault _ _ fault refl h) (lacks_end number Begun bytes)
last_stops number (Versioned version) bytes fault h = subst (Stops number (Versioned version) (bytes ∷ [])) (same_fault _ _ fault refl h) (lacks_end number (Versioned version) bytes)
last_stops number (Inside pool stood) bytes fault h = subst (Stops number (Inside pool stood) (bytes ∷ [])) (same_fault _ _ fault refl h) (lacks_end number (Inside pool stood) bytes)
last_stops number (Ended pool) [] fault h = cc
last_stops number (Ended pool) (byte ∷ bytes) fault h = subst (Stops number (Ended pool) ((byte ∷ bytes) ∷ [])) (same_fault _ _ fault refl h) (fails_here number (Ended pool) (byte ∷ bytes) [] 1 refl)

stops : (number : ℕ) (progress : Progress) (line : List ℕ) (later : List (List ℕ)) (fault : Fault) → read_lines reader number progress (line ∷ later) ≡ Err fault → Stops number progress (line ∷ later) fault
stops number progress line [] fault h = last_stops number progress line fault h
stops number progress line (next ∷ later) fault h =
    (elim (line_kind progress line) as (λ k. line_kind progress line ≡ k → fault_or k number (read_lines reader (number + 1) (after_line progress line) (next ∷ later)) ≡ Err fault → Stops number progress (line ∷ next ∷ later) fault) [
      | Some kind ↦ λ e k. subst (Stops number progress (line ∷ next ∷ later)) (same_fault _ _ fault refl k) (fails_here number progress line (next ∷ later) kind e)
      | None ↦ λ e k.
          let rest = stops (number + 1) (after_line progress line) next later fault k in
          record {
            before = line ∷ rest.before;
            line = rest.line;
            later = rest.later;
            parted = ap (λ pieces. line ∷ pieces) rest.parted;
            place = let p = rest.place in omega arith;
            passes = (e, rest.passes);
            stop = rest.stop;
          }
    ]) refl h

-- if bytes have a first fault, the reading of their pieces stops there
stops_at : (bytes : List ℕ) (fault : Fault) → read bytes ≡ Err fault → Stops 1 Begun (pieces_of bytes) fault
stops_at bytes fault h =
    let some = some_piece bytes in
    subst (λ pieces. Stops 1 Begun pieces fault) (sym some.2) (stops 1 Begun some.0 some.1 fault (ap (read_lines reader 1 Begun) (sym some.2) ∙ h))

-- if the reading stops at `fault` after the lines `before`, these are the lines before the faulty one
before_is : (bytes : List ℕ) (fault : Fault) (at : Stops 1 Begun (pieces_of bytes) fault) → lines_before fault bytes ≡ at.before
before_is bytes fault at =
    let n : fault.line - 1 ≡ length at.before = let p = at.place in omega arith in
    ap (λ pieces. take (fault.line - 1) pieces) at.parted ∙ (ap (λ m. take m (at.before ++ at.line ∷ at.later)) n ∙ take-append_seam at.before (at.line ∷ at.later))

up_to_is : (bytes : List ℕ) (fault : Fault) (at : Stops 1 Begun (pieces_of bytes) fault) → lines_up_to fault bytes ≡ at.before ++ at.line ∷ []
up_to_is bytes fault at =
    let size : length (at.before ++ at.line ∷ []) ≡ length at.before + 1 = length-append at.before (at.line ∷ []) in
    let n : fault.line ≡ length (at.before ++ at.line ∷ []) = let p = at.place in omega (arith, size) in
    let parted : pieces_of bytes ≡ (at.before ++ at.line ∷ []) ++ at.later = at.parted ∙ sym (append_assoc at.before (at.line ∷ []) at.later) in
    ap (λ pieces. take fault.line pieces) parted
    ∙ (ap (λ m. take m ((at.before ++ at.line ∷ []) ++ at.later)) n ∙ take-append_seam (at.before ++ at.line ∷ []) at.later)

pub before_begins : (bytes : List ℕ) (fault : Fault) → read bytes ≡ Err fault → BeginsPoolText (lines_before fault bytes) ⊎ LacksLines (lines_before fault bytes)
before_begins bytes fault h =
    let at = stops_at bytes fault h in
    let stood = passed Begun at.before tt at.passes in
    subst (λ lines. BeginsPoolText lines ⊎ LacksLines lines) (stood.1 ∙ sym (before_is bytes fault at)) (stands (after_lines Begun at.before) stood.0)

pub before_is_closed : (bytes : List ℕ) (fault : Fault) → read bytes ≡ Err fault → 2 < fault.line →
    IsPoolText (text_of (lines_before fault bytes)) ⊎ IsPoolText (text_of (lines_before fault bytes ++ end_line ∷ [])) ⊎ LacksLines (lines_before fault bytes)
before_is_closed bytes fault h third =
    let at = stops_at bytes fault h in
    let stood = passed Begun at.before tt at.passes in
    let same = stood.1 ∙ sym (before_is bytes fault at) in
    let size : length (lines_so_far (after_lines Begun at.before)) ≡ length at.before = ap (λ (ls : List (List ℕ)). length ls) stood.1 in
    subst (λ lines. IsPoolText (text_of lines) ⊎ IsPoolText (text_of (lines ++ end_line ∷ [])) ⊎ LacksLines lines) same
    (closed (after_lines Begun at.before) stood.0 (let p = at.place in omega (arith, size)))

-- if the lines `before` are right and `line` has a fault after them, the reading of `before`, `line` and at least one more piece finds a
-- fault
fault_again : (number : ℕ) (progress : Progress) (before : List (List ℕ)) (line next : List ℕ) (later : List (List ℕ)) (kind : ℕ) → Passes progress before → line_kind (after_lines progress before) line ≡ Some kind →
    (fault : Fault) × (read_lines reader number progress (before ++ line ∷ next ∷ later) ≡ Err fault)
fault_again number progress [] line next later kind h k =
    (record { line = number; kind = kind }, ap (λ o. fault_or o number (read_lines reader (number + 1) (after_line progress line) (next ∷ later))) k)
fault_again number progress (first ∷ []) line next later kind h k =
    let rest = fault_again (number + 1) (after_line progress first) [] line next later kind h.1 k in
    (rest.0, ap (λ o. fault_or o number (read_lines reader (number + 1) (after_line progress first) (line ∷ next ∷ later))) h.0 ∙ rest.1)
fault_again number progress (first ∷ second ∷ before) line next later kind h k =
    let rest = fault_again (number + 1) (after_line progress first) (second ∷ before) line next later kind h.1 k in
    (rest.0, ap (λ o. fault_or o number (read_lines reader (number + 1) (after_line progress first) (second ∷ (before ++ line ∷ next ∷ later)))) h.0 ∙ rest.1)

not_both : (r : Result Pool Fault) (pool : Pool) (fault : Fault) → r ≡ Ok pool → r ≡ Err fault → ⊥
not_both r pool fault h k = cc

pub none_begins : (bytes : List ℕ) (fault : Fault) → read bytes ≡ Err fault → fault.kind ≢ 12 → BeginsPoolText (lines_up_to fault bytes) → ⊥
none_begins bytes fault h other text =
    let at = stops_at bytes fault h in
    let lines = at.before ++ at.line ∷ [] in
    let pool = text.0 in let rest = text.1 in
    let same : spelling pool ≡ text_of lines ++ rest = text.3 ∙ ap (λ ls. text_of ls ++ rest) (up_to_is bytes fault at) in
    let regrouped : pieces_of bytes ≡ lines ++ at.later = at.parted ∙ sym (append_assoc at.before (at.line ∷ []) at.later) in
    let lack = each_left (Lacks line_feed) lines at.later (subst (AllByRecursion (Lacks line_feed)) regrouped (pieces_lack bytes)) in
    let some = some_piece rest in
    let pieces : pieces_of (spelling pool) ≡ at.before ++ at.line ∷ some.0 ∷ some.1 =
    ap pieces_of same ∙ (pieces_of-text_of_then lines rest lack ∙ (ap (λ ps. lines ++ ps) some.2 ∙ append_assoc at.before (at.line ∷ []) (some.0 ∷ some.1))) in
    let read_so = spelled_is_read pool text.2 in
    (elim at.stop as (λ _. ⊥) [
      | inl kind ↦
          let again = fault_again 1 Begun at.before at.line some.0 some.1 fault.kind at.passes kind in
          not_both (read (spelling pool)) pool again.0 read_so (ap (read_lines reader 1 Begun) pieces ∙ again.1)
      | inr last ↦ other last.0
    ])

pub end_is_missing : (bytes : List ℕ) (fault : Fault) → read bytes ≡ Err fault → fault.kind ≡ 12 → length (pieces_of bytes) ≡ fault.line
end_is_missing bytes fault h twelve =
    let at = stops_at bytes fault h in
    (elim at.stop as (λ _. length (pieces_of bytes) ≡ fault.line) [
      | inl kind ↦ absurd (not_the_end (after_lines Begun at.before) at.line (kind ∙ ap Some twelve))
      | inr last ↦
          let size : length (at.before ++ at.line ∷ at.later) ≡ length at.before + suc (length at.later) = length-append at.before (at.line ∷ at.later) in
          let none : length at.later ≡ 0 = ap (λ (ls : List (List ℕ)). length ls) last.1 in
          ap (λ (ls : List (List ℕ)). length ls) at.parted ∙ (size ∙ (let p = at.place in omega (arith, none)))
    ])

pub lowest_at : (bytes : List ℕ) (fault : Fault) → read bytes ≡ Err fault → fault.kind ≢ 12 → IsLowest (kinds_at fault bytes) fault.kind
lowest_at bytes fault h other =
    let at = stops_at bytes fault h in
    let n : fault.line - 1 ≡ length at.before = let p = at.place in omega arith in
    let here : get_or (pieces_of bytes) (fault.line - 1) [] ≡ at.line =
    ap (λ pieces. get_or pieces (fault.line - 1) []) at.parted ∙ (ap (λ m. get_or (at.before ++ at.line ∷ at.later) m []) n ∙ get_or-append_seam at.before at.line at.later []) in
    let kinds : kinds_at fault bytes ≡ line_kinds (after_lines Begun at.before) at.line =
    ap (λ lines. line_kinds (after_lines Begun lines) (get_or (pieces_of bytes) (fault.line - 1) [])) (before_is bytes fault at) ∙ ap (line_kinds (after_lines Begun at.before)) here in
    (elim at.stop as (λ _. IsLowest (kinds_at fault bytes) fault.kind) [
      | inl kind ↦ subst (λ ks. IsLowest ks fault.kind) (sym kinds) (lowest_is (line_kinds (after_lines Begun at.before) at.line) fault.kind (line_kinds_rise (after_lines Begun at.before) at.line) kind)
      | inr last ↦ absurd (other last.0)
    ])
