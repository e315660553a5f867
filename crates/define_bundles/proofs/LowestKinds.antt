-- The lowest kind of fault that applies to a line.
use Rattle.std.proofs.Common.{◌≡◌, ℕ, ◌<◌, ◌≤◌, Bool, true, false, not, ◌&&◌, ◌||◌, cond, eqb, ltb, List, [], ◌∷◌, ◌++◌, map, refl, sym, ◌∙◌, arith, Option, Some, None}
use Rattle.std.specs.List.{list_all}
use Rattle.std.specs.Str.{is_utf8}
use Rattle.std.proofs.lemmas.Bool.{and_parts, or_right, ltb-true, eqb-true, eq-eqb, cond_both, false≢true}
use Rattle.define_pools.specs.Lists.{includes, is_increasing}
use Rattle.define_pools.specs.Pool.{Pool}
use Rattle.define_pools.specs.Building.{lowest_kind}
use Rattle.define_lines.specs.Lines.{fields_of}
use Rattle.define_bundles.specs.declared.Passed.{Passed}
use Rattle.define_bundles.specs.PoolReading.{Entry, OfCategory, OfValue, OfVolunteer, OfHousehold, OfStanding, TheEnd, Unknown, Progress, Begun, Versioned, Inside, Ended, entry_of, entry_kinds, entry_kind, line_kind, line_kinds}
use Rattle.define_bundles.specs.FirstFault.{applies_among, IsLowest}

-- the first kind if there is one, else the second
abbrev pub kind_or : Option ℕ → Option ℕ → Option ℕ
kind_or None other = other
kind_or (Some kind) other = Some kind

lowest_kind-append : (first second : List (ℕ × Bool)) → lowest_kind (first ++ second) ≡ kind_or (lowest_kind first) (lowest_kind second)
lowest_kind-append [] second = refl
lowest_kind-append ((kind, true) ∷ first) second = refl
lowest_kind-append ((kind, false) ∷ first) second = lowest_kind-append first second

-- the kind of fault of a line's encoding: 11 if the line isn't UTF-8
abbrev pub encoding_kind : List ℕ → Option ℕ
encoding_kind line = lowest_kind ((11, not (is_utf8 line)) ∷ [])

-- a line's kind of fault is that of its entry; if the entry has no fault, it is that of the line's encoding
pub line_kind_of : (pool : Pool) (passed : Passed) (line : List ℕ) →
    line_kind (Inside pool passed) line ≡ kind_or (entry_kind pool passed (entry_of (fields_of line))) (encoding_kind line)
line_kind_of pool passed line = lowest_kind-append (entry_kinds pool passed (entry_of (fields_of line))) ((11, not (is_utf8 line)) ∷ [])

-- if all kinds of a list are above `least`, so is each kind that applies
above_all : (kinds : List (ℕ × Bool)) (least other : ℕ) → list_all (λ y. ltb least y) (map (λ k. k.0) kinds) ≡ true → applies_among kinds other ≡ true → least < other
above_all [] least other h k = absurd (false≢true k)
above_all ((kind, test) ∷ kinds) least other h k =
    let parts = and_parts (ltb least kind) (list_all (λ y. ltb least y) (map (λ k. k.0) kinds)) h in
    let here = ltb-true least kind parts.0 in
    cond_both (eqb kind other && test) true (applies_among kinds other) (λ b. b ≡ true → least < other)
    (λ e _. let same = eqb-true kind other (and_parts (eqb kind other) test e).0 in omega arith)
    (λ _ rest. above_all kinds least other parts.1 rest) (or_as_cond (eqb kind other && test) (applies_among kinds other) k)
  where
    or_as_cond : (a b : Bool) → (a || b) ≡ true → cond a true b ≡ true
    or_as_cond true b h = refl
    or_as_cond false b h = h

-- if kinds rise, the first that applies is the lowest
pub lowest_is : (kinds : List (ℕ × Bool)) (kind : ℕ) → is_increasing (map (λ k. k.0) kinds) ≡ true → lowest_kind kinds ≡ Some kind → IsLowest kinds kind
lowest_is [] kind rises h = cc
lowest_is ((first, true) ∷ kinds) kind rises h =
    let parts = and_parts (list_all (λ y. ltb first y) (map (λ k. k.0) kinds)) (is_increasing (map (λ k. k.0) kinds)) rises in
    let same : first ≡ kind = cc in (
      rw (eq-eqb first kind same) refl,
      λ other holds. elim (eqb first other) as (λ b. eqb first other ≡ b → ((b && true) || applies_among kinds other) ≡ true → kind ≤ other) [
        | true ↦ λ e _. let is = eqb-true first other e in omega arith
        | false ↦ λ e rest. let above = above_all kinds first other parts.0 rest in omega arith
      ] refl holds,
    )
lowest_is ((first, false) ∷ kinds) kind rises h =
    let parts = and_parts (list_all (λ y. ltb first y) (map (λ k. k.0) kinds)) (is_increasing (map (λ k. k.0) kinds)) rises in
    let rest = lowest_is kinds kind parts.1 h in (
      skip (eqb first kind) (applies_among kinds kind) rest.0,
      λ other holds. rest.1 other (unskip (eqb first other) (applies_among kinds other) holds),
    )
  where
    skip : (a b : Bool) → b ≡ true → ((a && false) || b) ≡ true
    skip true b h = h
    skip false b h = h

    unskip : (a b : Bool) → ((a && false) || b) ≡ true → b ≡ true
    unskip true b h = h
    unskip false b h = h

entry_kinds_rise : (pool : Pool) (passed : Passed) (entry : Entry) (last : Bool) → is_increasing (map (λ k. k.0) (entry_kinds pool passed entry ++ (11, last) ∷ [])) ≡ true
entry_kinds_rise pool passed (OfCategory name) last = refl
entry_kinds_rise pool passed (OfValue value) last = refl
entry_kinds_rise pool passed (OfVolunteer id names) last = refl
entry_kinds_rise pool passed (OfHousehold id name) last = refl
entry_kinds_rise pool passed (OfStanding standing id) last = refl
entry_kinds_rise pool passed TheEnd last = refl
entry_kinds_rise pool passed Unknown last = refl

-- the kinds of fault that a line may have are in rising order
pub line_kinds_rise : (progress : Progress) (line : List ℕ) → is_increasing (map (λ k. k.0) (line_kinds progress line)) ≡ true
line_kinds_rise Begun line = refl
line_kinds_rise (Versioned version) line = refl
line_kinds_rise (Inside pool passed) line = entry_kinds_rise pool passed (entry_of (fields_of line)) (not (is_utf8 line))
line_kinds_rise (Ended pool) line = refl

-- the lowest kind is one of the kinds
lowest_stands : (kinds : List (ℕ × Bool)) (kind : ℕ) → lowest_kind kinds ≡ Some kind → includes (map (λ k. k.0) kinds) kind ≡ true
lowest_stands [] kind h = cc
lowest_stands ((first, true) ∷ kinds) kind h = let same : first ≡ kind = cc in rw (eq-eqb first kind same) refl
lowest_stands ((first, false) ∷ kinds) kind h = or_right (eqb first kind) (includes (map (λ k. k.0) kinds) kind) (lowest_stands kinds kind h)

entry_kinds_end : (pool : Pool) (passed : Passed) (entry : Entry) (last : Bool) → includes (map (λ k. k.0) (entry_kinds pool passed entry ++ (11, last) ∷ [])) 12 ≡ false
entry_kinds_end pool passed (OfCategory name) last = refl
entry_kinds_end pool passed (OfValue value) last = refl
entry_kinds_end pool passed (OfVolunteer id names) last = refl
entry_kinds_end pool passed (OfHousehold id name) last = refl
entry_kinds_end pool passed (OfStanding standing id) last = refl
entry_kinds_end pool passed TheEnd last = refl
entry_kinds_end pool passed Unknown last = refl

line_kinds_end : (progress : Progress) (line : List ℕ) → includes (map (λ k. k.0) (line_kinds progress line)) 12 ≡ false
line_kinds_end Begun line = refl
line_kinds_end (Versioned version) line = refl
line_kinds_end (Inside pool passed) line = entry_kinds_end pool passed (entry_of (fields_of line)) (not (is_utf8 line))
line_kinds_end (Ended pool) line = refl

-- no line has kind 12, which is that of a missing end
pub not_the_end : (progress : Progress) (line : List ℕ) → line_kind progress line ≡ Some 12 → ⊥
not_the_end progress line h = false≢true (sym (line_kinds_end progress line) ∙ lowest_stands (line_kinds progress line) 12 h)
