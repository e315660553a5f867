-- What entering and closing a stage does to the marks.
use Rattle.std.proofs.Common.{◌≡◌, ◌≢◌, ℕ, zero, suc, ◌+◌, ◌-◌, ◌<◌, ◌≤◌, Bool, true, false, cond, not, ◌&&◌, ◌||◌, eqb, ltb, leb, List, [], ◌∷◌, ◌++◌, map, length, refl, sym, ap, ap₂, ◌∙◌, subst, arith, ℤ, pos, ◌⊎◌, inl, inr}
use Rattle.std.specs.Prelude.{int_lt}
use Rattle.std.specs.List.{AllByRecursion, range_with_len}
use Rattle.std.proofs.lemmas.Bool.{cases_eq, eq-eqb, ne_eqb, le-leb, lt-leb, lt-ltb, le-ltb}
use Rattle.std.proofs.lemmas.List.Elements.{recursion_from_All, All-from_recursion}
use Rattle.std.proofs.lemmas.List.FromFn.{map-range_with_len_more}
use Rattle.define_rows.specs.Steps.{settled_by}
use Rattle.exact_table.specs.Marks.{never, unsettled_before, marks_of, settled_of, AreMarks, settled_marks}

-- how closing stage `stage` changes a mark: if the mark is `never` and the class's entry is positive, which `b` says, it becomes `stage`;
-- else it stays
mark_is : (stage at : ℕ) (b : Bool) →
    ((cond (eqb at never && b) stage at ≡ stage) × (at ≡ never) × (b ≡ true)) ⊎ ((cond (eqb at never && b) stage at ≡ at) × ((at ≢ never) ⊎ (b ≡ false)))
mark_is stage at true = by (cases_eq at never)
  where
    by : (at ≡ never) ⊎ (at ≢ never) → ((cond (eqb at never && true) stage at ≡ stage) × (at ≡ never) × (true ≡ true)) ⊎ ((cond (eqb at never && true) stage at ≡ at) × ((at ≢ never) ⊎ (true ≡ false)))
    by (inl e) = inl (ap (λ t. cond (t && true) stage at) (eq-eqb at never e), e, refl)
    by (inr n) = inr (ap (λ t. cond (t && true) stage at) (ne_eqb at never n), inl n)
mark_is stage at false = inr ((elim (eqb at never) as (λ t. cond (t && false) stage at ≡ at) [ true ↦ refl | false ↦ refl ]), inr refl)

abbrev IsMark : ℕ → ℕ → Type 0
IsMark stages at = at ≢ never → at < stages

-- a class is unsettled before the next stage exactly if it is unsettled now
one_now : (stages at : ℕ) → stages ≤ 4000 → IsMark stages at → leb stages at ≡ not (ltb at never)
one_now stages at few h = by (cases_eq at never)
  where
    by : (at ≡ never) ⊎ (at ≢ never) → leb stages at ≡ not (ltb at never)
    by (inl e) = le-leb stages at (omega arith) ∙ sym (ap not (le-ltb at never (omega arith)))
    by (inr n) = let l = h n in lt-leb stages at l ∙ sym (ap not (lt-ltb at never (omega arith)))

now : (stages : ℕ) (marks : List ℕ) → stages ≤ 4000 → AllByRecursion (IsMark stages) marks → unsettled_before marks stages ≡ map not (settled_of marks)
now stages [] few h = refl
now stages (at ∷ marks) few h = ap₂ (λ b bs. b ∷ bs) (one_now stages at few h.0) (now stages marks few h.1)

pub marks_of-more : (stages : ℕ) (marks : List ℕ) → stages ≤ 4000 → AreMarks marks stages → marks_of marks (stages + 1) ≡ marks_of marks stages ++ map not (settled_of marks) ∷ []
marks_of-more stages marks few h =
    map-range_with_len_more (unsettled_before marks) 0 stages stages (omega arith)
    ∙ ap (λ bs. marks_of marks stages ++ bs ∷ []) (now stages marks few (recursion_from_All (IsMark stages) marks h))

-- closing a stage doesn't change which classes were unsettled before it and before each earlier stage
one_kept : (r stage at : ℕ) (b : Bool) → r ≤ stage → stage < 4000 → leb r (cond (eqb at never && b) stage at) ≡ leb r at
one_kept r stage at b l few = by (mark_is stage at b)
  where
    by : ((cond (eqb at never && b) stage at ≡ stage) × (at ≡ never) × (b ≡ true)) ⊎ ((cond (eqb at never && b) stage at ≡ at) × ((at ≢ never) ⊎ (b ≡ false))) → leb r (cond (eqb at never && b) stage at) ≡ leb r at
    by (inl (e, f, _)) = ap (leb r) e ∙ le-leb r stage l ∙ sym (le-leb r at (omega arith))
    by (inr (e, _)) = ap (leb r) e

kept : (r stage : ℕ) (xs : List ℤ) (marks : List ℕ) → r ≤ stage → stage < 4000 → unsettled_before (settled_marks stage xs marks) r ≡ unsettled_before marks r
kept r stage [] marks l few = refl
kept r stage (x ∷ xs) [] l few = refl
kept r stage (x ∷ xs) (at ∷ marks) l few = ap₂ (λ b bs. b ∷ bs) (one_kept r stage at (int_lt (pos 0) x) l few) (kept r stage xs marks l few)

kept_from : (a n stage : ℕ) (xs : List ℤ) (marks : List ℕ) → a + n ≤ stage + 1 → stage < 4000 → map (unsettled_before (settled_marks stage xs marks)) (range_with_len a n) ≡ map (unsettled_before marks) (range_with_len a n)
kept_from a zero stage xs marks l few = refl
kept_from a (suc n) stage xs marks l few = ap₂ (λ b bs. b ∷ bs) (kept a stage xs marks (omega arith) few) (kept_from (a + 1) n stage xs marks (omega arith) few)

pub marks_of-settled_marks : (stages : ℕ) (xs : List ℤ) (marks : List ℕ) → 0 < stages → stages ≤ 4000 → marks_of (settled_marks (stages - 1) xs marks) stages ≡ marks_of marks stages
marks_of-settled_marks stages xs marks some few = kept_from 0 stages (stages - 1) xs marks (omega arith) (omega arith)

one_settled : (stages stage at : ℕ) (b : Bool) → stages ≤ 4000 → stage < 4000 → IsMark stages at → ltb (cond (eqb at never && b) stage at) never ≡ (ltb at never || b)
one_settled stages stage at b few l h = by (mark_is stage at b)
  where
    unmarked : (at ≢ never) ⊎ (b ≡ false) → ltb at never ≡ (ltb at never || b)
    unmarked (inl n) = let m = h n in let lt = lt-ltb at never (omega arith) in lt ∙ ap (λ t. t || b) (sym lt)
    unmarked (inr e) = (elim (ltb at never) as (λ t. t ≡ (t || false)) [ true ↦ refl | false ↦ refl ]) ∙ ap (λ t. ltb at never || t) (sym e)

    by : ((cond (eqb at never && b) stage at ≡ stage) × (at ≡ never) × (b ≡ true)) ⊎ ((cond (eqb at never && b) stage at ≡ at) × ((at ≢ never) ⊎ (b ≡ false))) → ltb (cond (eqb at never && b) stage at) never ≡ (ltb at never || b)
    by (inl (e, f, g)) = ap (λ n. ltb n never) e ∙ lt-ltb stage never (omega arith) ∙ (elim (ltb at never) as (λ t. true ≡ (t || true)) [ true ↦ refl | false ↦ refl ]) ∙ ap (λ t. ltb at never || t) (sym g)
    by (inr (e, u)) = ap (λ n. ltb n never) e ∙ unmarked u

settled_more : (stages stage : ℕ) (xs : List ℤ) (marks : List ℕ) → stages ≤ 4000 → stage < 4000 → AllByRecursion (IsMark stages) marks → settled_of (settled_marks stage xs marks) ≡ settled_by xs (settled_of marks)
settled_more stages stage [] [] few l h = refl
settled_more stages stage [] (at ∷ marks) few l h = refl
settled_more stages stage (x ∷ xs) [] few l h = refl
settled_more stages stage (x ∷ xs) (at ∷ marks) few l h = ap₂ (λ b bs. b ∷ bs) (one_settled stages stage at (int_lt (pos 0) x) few l h.0) (settled_more stages stage xs marks few l h.1)

pub settled_of-settled_marks : (stages stage : ℕ) (xs : List ℤ) (marks : List ℕ) → stages ≤ 4000 → stage < stages → AreMarks marks stages → settled_of (settled_marks stage xs marks) ≡ settled_by xs (settled_of marks)
settled_of-settled_marks stages stage xs marks few l h = settled_more stages stage xs marks few (omega arith) (recursion_from_All (IsMark stages) marks h)

one_marked : (stages stage at : ℕ) (b : Bool) → stage < stages → IsMark stages at → IsMark stages (cond (eqb at never && b) stage at)
one_marked stages stage at b l h = by (mark_is stage at b)
  where
    by : ((cond (eqb at never && b) stage at ≡ stage) × (at ≡ never) × (b ≡ true)) ⊎ ((cond (eqb at never && b) stage at ≡ at) × ((at ≢ never) ⊎ (b ≡ false))) → IsMark stages (cond (eqb at never && b) stage at)
    by (inl (e, _, _)) = λ n. subst (λ k. k < stages) (sym e) l
    by (inr (e, _)) = subst (IsMark stages) (sym e) h

marked : (stages stage : ℕ) (xs : List ℤ) (marks : List ℕ) → stage < stages → AllByRecursion (IsMark stages) marks → AllByRecursion (IsMark stages) (settled_marks stage xs marks)
marked stages stage [] marks l h = h
marked stages stage (x ∷ xs) [] l h = tt
marked stages stage (x ∷ xs) (at ∷ marks) l h = (one_marked stages stage at (int_lt (pos 0) x) l h.0, marked stages stage xs marks l h.1)

pub AreMarks-settled_marks : (stages stage : ℕ) (xs : List ℤ) (marks : List ℕ) → stage < stages → AreMarks marks stages → AreMarks (settled_marks stage xs marks) stages
AreMarks-settled_marks stages stage xs marks l h = All-from_recursion (IsMark stages) (settled_marks stage xs marks) (marked stages stage xs marks l (recursion_from_All (IsMark stages) marks h))

pub length-settled_marks : (stage : ℕ) (xs : List ℤ) (marks : List ℕ) → length (settled_marks stage xs marks) ≡ length marks
length-settled_marks stage [] marks = refl
length-settled_marks stage (x ∷ xs) [] = refl
length-settled_marks stage (x ∷ xs) (at ∷ marks) = ap suc (length-settled_marks stage xs marks)

-- if `AreMarks` holds of marks after `stages` stages were entered, it still holds after one more is entered
pub AreMarks-later : (stages : ℕ) (marks : List ℕ) → AreMarks marks stages → AreMarks marks (stages + 1)
AreMarks-later stages marks h = λ k d l n. omega (arith, h k d l n)
