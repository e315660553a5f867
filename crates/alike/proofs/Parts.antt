-- The classes that are taken in part, as a loop over classes and counts collects them, and the volunteers whom they give.
use Rattle.std.proofs.Common.{◌≡◌, ◌⊎◌, inl, inr, ℕ, zero, suc, ◌*◌, ◌/◌, ◌≤◌, ◌<◌, Bool, true, false, cond, ◌||◌, List, [], ◌∷◌, ◌++◌, take, length, get_or, refl, sym, ap, ◌∙◌, arith, subst}
use Rattle.std.specs.Int.{◌∣◌}
use Rattle.std.specs.List.{All}
use Rattle.std.proofs.lemmas.List.Elements.{All-from_recursion}
use Rattle.std.proofs.Math.Nat.{dvd-mul_left}
use Rattle.std.proofs.Math.Bool.{or-false, or_assoc}
use Rattle.define_pools.proofs.Each.{each_map}
use Rattle.define_pools.specs.Lists.{includes}
use Rattle.define_searches.specs.Classes.{Class, Classes}
use Rattle.define_runs.specs.Spreading.{dial, is_given, is_partly_taken, partly_taken, turned}
use Rattle.define_runs.proofs.Dials.{Divided, IsPartly, divided_dial, each_partly}

-- `partly_taken` of the first `k + 1` classes is that of the first `k`, and then the size of class `k` if it is taken in part
pub partly-more : (classes : List Class) (counts : List ℕ) (k : ℕ) (class : Class) (count : ℕ) → k < length classes → k < length counts → class ≡ get_or classes k class → count ≡ get_or counts k count →
    partly_taken (take (suc k) classes) (take (suc k) counts) ≡ partly_taken (take k classes) (take k counts) ++ cond (is_partly_taken class count) (length class.members ∷ []) []
partly-more [] counts k class count l m e f = absurd (omega arith)
partly-more (x ∷ classes) [] k class count l m e f = absurd (omega arith)
partly-more (x ∷ classes) (c ∷ counts) zero class count l m e f =
    let s : x ≡ class = sym e in let t : c ≡ count = sym f in
    rw (s, t) (by (is_partly_taken class count))
  where
    by : (b : Bool) → cond b (length class.members ∷ []) [] ++ [] ≡ cond b (length class.members ∷ []) []
    by true = refl
    by false = refl
partly-more (x ∷ classes) (c ∷ counts) (suc k) class count l m e f =
    let rest = partly-more classes counts k class count (omega arith) (omega arith) e f in
    elim (is_partly_taken x c) as (λ b. cond b (length x.members ∷ []) [] ++ partly_taken (take (suc k) classes) (take (suc k) counts)
    ≡ (cond b (length x.members ∷ []) [] ++ partly_taken (take k classes) (take k counts)) ++ cond (is_partly_taken class count) (length class.members ∷ []) []) [
      | true ↦ ap (λ zs. length x.members ∷ zs) rest
      | false ↦ rest
    ]

-- if `k` is past the last class or the last count, the sizes so far are those of all classes
pub partly-whole : (classes : List Class) (counts : List ℕ) (k : ℕ) → (length classes ≤ k) ⊎ (length counts ≤ k) → partly_taken (take k classes) (take k counts) ≡ partly_taken classes counts
partly-whole [] counts zero l = refl
partly-whole [] counts (suc k) l = refl
partly-whole (x ∷ classes) [] zero l = refl
partly-whole (x ∷ classes) [] (suc k) l = refl
partly-whole (x ∷ classes) (c ∷ counts) zero (inl l) = absurd (omega arith)
partly-whole (x ∷ classes) (c ∷ counts) zero (inr l) = absurd (omega arith)
partly-whole (x ∷ classes) (c ∷ counts) (suc k) (inl l) = ap (λ zs. cond (is_partly_taken x c) (length x.members ∷ []) [] ++ zs) (partly-whole classes counts k (inl (omega arith)))
partly-whole (x ∷ classes) (c ∷ counts) (suc k) (inr l) = ap (λ zs. cond (is_partly_taken x c) (length x.members ∷ []) [] ++ zs) (partly-whole classes counts k (inr (omega arith)))

-- the volunteers given by the first `k + 1` classes are those given by the first `k` and those given by class `k`
pub given-more : (len at : ℕ) (classes : List Class) (counts : List ℕ) (k : ℕ) (class : Class) (count i : ℕ) → k < length classes → k < length counts → class ≡ get_or classes k class → count ≡ get_or counts k count →
    is_given len at (take (suc k) classes) (take (suc k) counts) i ≡ (is_given len at (take k classes) (take k counts) i || includes (turned (at * length class.members / len) count class.members) i)
given-more len at [] counts k class count i l m e f = absurd (omega arith)
given-more len at (x ∷ classes) [] k class count i l m e f = absurd (omega arith)
given-more len at (x ∷ classes) (c ∷ counts) zero class count i l m e f =
    let s : x ≡ class = sym e in let t : c ≡ count = sym f in rw (s, t) (or-false (includes (turned (at * length class.members / len) count class.members) i))
given-more len at (x ∷ classes) (c ∷ counts) (suc k) class count i l m e f =
    let rest = given-more len at classes counts k class count i (omega arith) (omega arith) e f in
    let here = includes (turned (at * length x.members / len) c x.members) i in
    ap (λ b. here || b) rest ∙ sym (or_assoc here (is_given len at (take k classes) (take k counts) i) (includes (turned (at * length class.members / len) count class.members) i))

pub given-whole : (len at : ℕ) (classes : List Class) (counts : List ℕ) (k i : ℕ) → (length classes ≤ k) ⊎ (length counts ≤ k) → is_given len at (take k classes) (take k counts) i ≡ is_given len at classes counts i
given-whole len at [] counts zero i l = refl
given-whole len at [] counts (suc k) i l = refl
given-whole len at (x ∷ classes) [] zero i l = refl
given-whole len at (x ∷ classes) [] (suc k) i l = refl
given-whole len at (x ∷ classes) (c ∷ counts) zero i (inl l) = absurd (omega arith)
given-whole len at (x ∷ classes) (c ∷ counts) zero i (inr l) = absurd (omega arith)
given-whole len at (x ∷ classes) (c ∷ counts) (suc k) i (inl l) = ap (λ b. includes (turned (at * length x.members / len) c x.members) i || b) (given-whole len at classes counts k i (inl (omega arith)))
given-whole len at (x ∷ classes) (c ∷ counts) (suc k) i (inr l) = ap (λ b. includes (turned (at * length x.members / len) c x.members) i || b) (given-whole len at classes counts k i (inr (omega arith)))

-- ---- the sizes of classes that are taken in part: each is above 0, and divides the dial

pub sizes_positive : (classes : List Class) (counts : List ℕ) → All (λ size. 0 < size) (partly_taken classes counts)
sizes_positive classes counts =
    All-from_recursion (λ size. 0 < size) (partly_taken classes counts)
    (each_map (IsPartly classes counts) (λ size. 0 < size) (λ size partly. positive size partly) (partly_taken classes counts) (each_partly classes counts))
  where
    positive : (size : ℕ) → IsPartly classes counts size → 0 < size
    positive size partly = let e = partly.size_is in let few = partly.few in omega arith

pub sizes_divide : (all : Classes) (counts : List ℕ) → All (λ size. (0 < size) × (size ∣ dial all counts)) (partly_taken all.classes counts)
sizes_divide all counts =
    All-from_recursion (λ size. (0 < size) × (size ∣ dial all counts)) (partly_taken all.classes counts)
    (each_map (λ size. Divided size (dial all counts)) (λ size. (0 < size) × (size ∣ dial all counts)) (λ size d. (d.has, subst (λ n. size ∣ n) d.is (dvd-mul_left size d.step))) (partly_taken all.classes counts) (divided_dial all counts))
