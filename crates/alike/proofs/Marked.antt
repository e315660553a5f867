-- A window of members is marked in two pieces: up to the end of the members, then on from their beginning.
use Rattle.std.proofs.Common.{◌≡◌, ℕ, ◌+◌, ◌-◌, ◌≤◌, ◌<◌, Bool, false, ◌||◌, List, ◌++◌, take, drop, length, slice_index_or, sym, ap, ◌∙◌, ⊎_elim, arith, min}
use Rattle.std.proofs.lemmas.Bool.{cases_lt}
use Rattle.std.proofs.lemmas.List.{take-append-le, take_all, append-nil}
use Rattle.std.proofs.Math.Seq.{take-append-add}
use Rattle.std.proofs.Math.Bool.{or_assoc}
use Rattle.define_pools.specs.Lists.{includes}
use Rattle.alike.specs.Steps.{AreMarked}
use Rattle.define_runs.specs.Spreading.{turned}
use Rattle.define_runs.proofs.Cuts.{includes-append}

-- ---- windows in two pieces

-- the first `c` elements of `xs ++ ys` are the first ones of `xs`, and then, if these are fewer than `c`, the first ones of `ys`
take-both : (c : ℕ) (xs ys : List ℕ) → take c (xs ++ ys) ≡ take (min c (length xs)) xs ++ take (min (length ys) (c - min c (length xs))) ys
take-both c xs ys = ⊎_elim beyond within (cases_lt (length xs) c)
  where
    cut : (n : ℕ) (ys : List ℕ) → take (min (length ys) n) ys ≡ take n ys
    cut n ys = ⊎_elim
        (λ (l : length ys < n). let e : min (length ys) n ≡ length ys = omega arith in ap (λ k. take k ys) e ∙ take_all (length ys) ys (omega arith) ∙ sym (take_all n ys (omega arith)))
        (λ (l : n ≤ length ys). let e : min (length ys) n ≡ n = omega arith in ap (λ k. take k ys) e) (cases_lt (length ys) n)

    within : c ≤ length xs → take c (xs ++ ys) ≡ take (min c (length xs)) xs ++ take (min (length ys) (c - min c (length xs))) ys
    within l =
        let e : min c (length xs) ≡ c = omega arith in
        let f : min (length ys) (c - c) ≡ 0 = omega arith in
        rw (e, f) (take-append-le c xs ys l ∙ sym (append-nil (take c xs)))

    beyond : length xs < c → take c (xs ++ ys) ≡ take (min c (length xs)) xs ++ take (min (length ys) (c - min c (length xs))) ys
    beyond l =
        let e : min c (length xs) ≡ length xs = omega arith in
        let split : c ≡ length xs + (c - length xs) = omega arith in
        rw e (ap (λ k. take k (xs ++ ys)) split ∙ take-append-add xs ys (c - length xs)
        ∙ ap (λ zs. zs ++ take (c - length xs) ys) (sym (take_all (length xs) xs (omega arith)))
        ∙ ap (λ zs. take (length xs) xs ++ zs) (sym (cut (c - length xs) ys)))

-- the first piece of a window ends at the end of the members, and the second begins at their beginning. If the first is marked, and then
-- the second, the whole window is marked
pub window_marked : (before mid after : List Bool) (start count : ℕ) (members first second : List ℕ) → first ≡ take (min count (length (drop start members))) (drop start members) →
    second ≡ take (min (length (take start members)) (count - min count (length (drop start members)))) (take start members) →
    AreMarked before mid (includes first) → AreMarked mid after (includes second) → AreMarked before after (includes (turned start count members))
window_marked before mid after start count members first second e f one two =
    let window : turned start count members ≡ first ++ second = take-both count (drop start members) (take start members) ∙ ap (λ zs. zs ++ take (min (length (take start members)) (count - min count (length (drop start members)))) (take start members)) (sym e) ∙ ap (λ zs. first ++ zs) (sym f) in
    record {
      long = two.long ∙ one.long;
      marked = λ i within.
          let long = one.long in
          two.marked i (omega arith) ∙ ap (λ b. b || includes second i) (one.marked i within)
          ∙ or_assoc (slice_index_or before i false) (includes first i) (includes second i)
          ∙ ap (λ b. slice_index_or before i false || b) (sym (ap (λ zs. includes zs i) window ∙ includes-append first second i));
    }
