-- The dial of a composition: its length is a multiple of the size of each class taken in part, and each mark of these classes is a cut.
use Rattle.std.proofs.Common.{◌≡◌, ◌⊎◌, inl, inr, ℕ, zero, suc, ◌+◌, ◌*◌, ◌/◌, ◌≤◌, ◌<◌, Bool, true, false, cond, ◌||◌, eqb, ltb, List, [], ◌∷◌, ◌++◌, map, length, get_or, slice_get, Some, refl, sym, ap, ◌∙◌, ⊎_elim, arith, subst}
use Rattle.std.specs.Int.{◌∣◌}
use Rattle.std.specs.List.{fold, flat_map, range_with_len, AllByRecursion}
use Rattle.std.proofs.lemmas.Bool.{and_parts, cases_eq, eqb-true, eq-eqb, ltb-true}
use Rattle.std.proofs.lemmas.Nat.Gcd.{dvd_refl, dvd_trans}
use Rattle.std.proofs.Math.Nat.{div-mul_cancel, mul-div-mul_right, mul-div_cancel, mul-lt-mul_of_pos_right}
use Rattle.std.proofs.Math.Bool.{or-true}
use Rattle.define_pools.proofs.Each.{each_map, each_append, each_mapped, each_range, each_flat_map}
use Rattle.frac128.specs.Divisors.{lcm_of, IsLeastCommonMultiple}
use Rattle.frac128.proofs.DivisorLaws.{IsLeastCommonMultiple-lcm_of}
use Rattle.define_pools.specs.Lists.{includes}
use Rattle.define_searches.specs.Classes.{Class, Classes}
use Rattle.define_runs.specs.Spreading.{is_partly_taken, partly_taken, dial, marks, cuts}
use Rattle.define_runs.proofs.CommonTotals.{lcm_of-positive, dial-positive}
use Rattle.define_runs.proofs.Cuts.{each_cut, includes-cuts, includes-flat_map}

-- if P holds of each element of a list, it holds of each number that the list includes
pub each_included : (P : ℕ → Type 0) (xs : List ℕ) (x : ℕ) → AllByRecursion P xs → includes xs x ≡ true → P x
each_included P [] x each h = absurd cc
each_included P (y ∷ ys) x each h = by (eqb y x) refl h (λ later. each_included P ys x each.1 later)
  where
    by : (b : Bool) → eqb y x ≡ b → (b || includes ys x) ≡ true → (includes ys x ≡ true → P x) → P x
    by true e h rest = subst P (eqb-true y x e) each.0
    by false e h rest = rest h

-- ---- classes taken in part

-- `size` is the size of a class that is taken in part
pub record IsPartly (classes : List Class) (counts : List ℕ) (size : ℕ) : Type 0 where
  pub place : ℕ
  pub class : Class
  pub at : slice_get classes place ≡ Some class
  pub counted : place < length counts
  pub some : 0 < get_or counts place 0
  pub few : get_or counts place 0 < length class.members
  pub size_is : size ≡ length class.members

pub each_partly : (classes : List Class) (counts : List ℕ) → AllByRecursion (IsPartly classes counts) (partly_taken classes counts)
each_partly [] counts = tt
each_partly (class ∷ classes) [] = tt
each_partly (class ∷ classes) (count ∷ counts) =
    each_append (IsPartly (class ∷ classes) (count ∷ counts)) (cond (is_partly_taken class count) (length class.members ∷ []) []) (partly_taken classes counts)
    (here (is_partly_taken class count) refl)
    (each_map (IsPartly classes counts) (IsPartly (class ∷ classes) (count ∷ counts)) (λ size later. record {
      place = suc later.place;
      class = later.class;
      at = later.at;
      counted = omega (arith, later.counted);
      some = later.some;
      few = later.few;
      size_is = later.size_is;
    }) (partly_taken classes counts) (each_partly classes counts))
  where
    here : (b : Bool) → is_partly_taken class count ≡ b → AllByRecursion (IsPartly (class ∷ classes) (count ∷ counts)) (cond b (length class.members ∷ []) [])
    here true e =
        let parts = and_parts (ltb 0 count) (ltb count (length class.members)) e in (
          record {
            place = 0;
            class = class;
            at = refl;
            counted = omega arith;
            some = ltb-true 0 count parts.0;
            few = ltb-true count (length class.members) parts.1;
            size_is = refl;
          },
          tt,
        )
    here false e = tt

pub includes-partly : (classes : List Class) (counts : List ℕ) (t : ℕ) (class : Class) → slice_get classes t ≡ Some class → t < length counts →
    is_partly_taken class (get_or counts t 0) ≡ true → includes (partly_taken classes counts) (length class.members) ≡ true
includes-partly [] counts t class e l h = cc
includes-partly (x ∷ classes) [] t class e l h = absurd (omega arith)
includes-partly (x ∷ classes) (count ∷ counts) zero class e l h =
    let same : x ≡ class = cc in
    let here : is_partly_taken x count ≡ true = ap (λ c. is_partly_taken c count) same ∙ h in
    let size : eqb (length x.members) (length class.members) ≡ true = eq-eqb (length x.members) (length class.members) (ap (λ (c : Class). length c.members) same) in
    rw (here, size) refl
includes-partly (x ∷ classes) (count ∷ counts) (suc t) class e l h =
    let rest = includes-partly classes counts t class e (omega arith) h in
    elim (is_partly_taken x count) as (λ b. includes (cond b (length x.members ∷ []) [] ++ partly_taken classes counts) (length class.members) ≡ true) [
      | true ↦ rw rest (or-true (eqb (length x.members) (length class.members)))
      | false ↦ rest
    ]

-- ---- the dial's length

fold_multiple : (a : ℕ) (xs : List ℕ) → 0 < a → AllByRecursion (λ x. 0 < x) xs → (a ∣ fold lcm_of a xs) × AllByRecursion (λ x. x ∣ fold lcm_of a xs) xs
unfolding IsLeastCommonMultiple
fold_multiple a [] some each = (dvd_refl a, tt)
fold_multiple a (x ∷ xs) some each =
    let least = IsLeastCommonMultiple-lcm_of a x some in
    let rest = fold_multiple (lcm_of a x) xs (lcm_of-positive a x some each.0) each.1 in
    (dvd_trans _ least.0 rest.0, (dvd_trans _ least.1 rest.0, rest.1))

-- the length `len` is a multiple of `size`: `size` times `step`
pub record Divided (size len : ℕ) : Type 0 where
  pub step : ℕ
  pub some : 0 < step
  pub has : 0 < size
  pub is : step * size ≡ len

pub divided : (size len : ℕ) → 0 < size → 0 < len → size ∣ len → Divided size len
divided size len has some h =
    let e : len / size * size ≡ len = div-mul_cancel size h in
    record { step = len / size; some = positive (len / size) e; has = has; is = e }
  where
    positive : (q : ℕ) → q * size ≡ len → 0 < q
    positive zero e = absurd (omega arith)
    positive (suc q) e = omega arith

-- the dial's length is a multiple of the size of each class taken in part
pub divided_dial : (all : Classes) (counts : List ℕ) → AllByRecursion (λ size. Divided size (dial all counts)) (partly_taken all.classes counts)
divided_dial all counts =
    let sizes = partly_taken all.classes counts in
    let has : AllByRecursion (λ size. 0 < size) sizes = each_map (IsPartly all.classes counts) (λ size. 0 < size) (λ size partly. positive size partly) sizes (each_partly all.classes counts) in
    let multiple = (fold_multiple 1 sizes (omega arith) has).1 in
    both sizes has multiple
  where
    positive : (size : ℕ) → IsPartly all.classes counts size → 0 < size
    positive size partly = let e = partly.size_is in let few = partly.few in omega arith

    both : (sizes : List ℕ) → AllByRecursion (λ size. 0 < size) sizes → AllByRecursion (λ size. size ∣ dial all counts) sizes → AllByRecursion (λ size. Divided size (dial all counts)) sizes
    both [] has multiple = tt
    both (size ∷ sizes) has multiple = (divided size (dial all counts) has.0 (dial-positive all counts) multiple.0, both sizes has.1 multiple.1)

-- mark j of a class of `size` members is at place `j * step`
pub mark_is : (size len j : ℕ) → (d : Divided size len) → j * len / size ≡ j * d.step
mark_is size len j d =
    let e : j * len ≡ j * d.step * size = ap (λ n. j * n) (sym d.is) ∙ omega arith in
    ap (λ n. n / size) e ∙ mul-div_cancel (j * d.step) d.has

-- at place z of the dial, the class's window begins with member `z / step`, the number of the last mark up to z
pub turn_is : (size len z : ℕ) → (d : Divided size len) → z * size / len ≡ z / d.step
turn_is size len z d = ap (λ n. z * size / n) (sym d.is) ∙ mul-div-mul_right z d.step d.has

-- ---- marks

-- place z of the dial is a mark of a class that is taken in part
pub record IsMark (all : Classes) (counts : List ℕ) (z : ℕ) : Type 0 where
  pub size : ℕ
  pub partly : IsPartly all.classes counts size
  pub divided : Divided size (dial all counts)
  pub number : ℕ
  pub below : number < size
  pub is : z ≡ number * divided.step

-- z is a place of the dial, and it is 0 or a mark
abbrev pub Cut : Classes → List ℕ → ℕ → Type 0
Cut all counts z = (z < dial all counts) × ((z ≡ 0) ⊎ IsMark all counts z)

pub cuts_are : (all : Classes) (counts : List ℕ) → AllByRecursion (Cut all counts) (cuts all counts)
cuts_are all counts =
    each_cut (Cut all counts) all counts (
      (dial-positive all counts, inl refl),
      each_flat_map (Cut all counts) (marks (dial all counts)) (partly_taken all.classes counts)
          (of_size (partly_taken all.classes counts) (each_partly all.classes counts) (divided_dial all counts)),
    )
  where
    mark : (size : ℕ) → IsPartly all.classes counts size → Divided size (dial all counts) → (j : ℕ) → j < size → Cut all counts (j * dial all counts / size)
    mark size partly d j below =
        let e = mark_is size (dial all counts) j d in
        let less : j * d.step < size * d.step = mul-lt-mul_of_pos_right below d.some in
        let whole = d.is in
        (rw e (omega (arith, less, whole)), inr (record { size = size; partly = partly; divided = d; number = j; below = below; is = e }))

    of_size : (sizes : List ℕ) → AllByRecursion (IsPartly all.classes counts) sizes → AllByRecursion (λ size. Divided size (dial all counts)) sizes →
        AllByRecursion (λ size. AllByRecursion (Cut all counts) (marks (dial all counts) size)) sizes
    of_size [] partly d = tt
    of_size (size ∷ sizes) partly d = (
      each_mapped (Cut all counts) (λ j. j * dial all counts / size) (range_with_len 0 size)
          (each_range (λ j. Cut all counts (j * dial all counts / size)) 0 size (λ j low below. mark size partly.0 d.0 j (omega arith))),
      of_size sizes partly.1 d.1,
    )

pub includes-mapped : (f : ℕ → ℕ) (first count j : ℕ) → first ≤ j → j < first + count → includes (map f (range_with_len first count)) (f j) ≡ true
includes-mapped f first zero j low below = absurd (omega arith)
includes-mapped f first (suc count) j low below = ⊎_elim
    (λ (s : first ≡ j). let e : eqb (f first) (f j) ≡ true = eq-eqb (f first) (f j) (ap f s) in rw e refl)
    (λ (ne : first ≡ j → ⊥). let rest = includes-mapped f (first + 1) count j (omega arith) (omega arith) in rw rest (or-true (eqb (f first) (f j)))) (cases_eq first j)

-- each mark of a class that is taken in part is a cut
pub marks_cut : (all : Classes) (counts : List ℕ) (size j : ℕ) → includes (partly_taken all.classes counts) size ≡ true → (d : Divided size (dial all counts)) → j < size →
    includes (cuts all counts) (j * d.step) ≡ true
marks_cut all counts size j there d below =
    let sizes = partly_taken all.classes counts in
    let mark : ℕ = j * dial all counts / size in
    let e : mark ≡ j * d.step = mark_is size (dial all counts) j d in
    let here : includes (marks (dial all counts) size) mark ≡ true = includes-mapped (λ j. j * dial all counts / size) 0 size j (omega arith) (omega arith) in
    let among : includes (flat_map (marks (dial all counts)) sizes) mark ≡ true = includes-flat_map (marks (dial all counts)) sizes size mark there here in
    subst (λ z. includes (cuts all counts) z ≡ true) e (includes-cuts all counts mark ∙ (rw among (or-true (eqb 0 mark))))
