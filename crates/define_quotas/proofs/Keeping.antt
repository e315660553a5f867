-- A search goes through lists of counts, and keeps a list if it costs less than the one kept so far. The list kept at the end is then the
-- first of those with the least cost.
use Rattle.std.proofs.Common.{◌≡◌, ℕ, Bool, true, false, cond, ltb, List, [], ◌∷◌, fold, Option, Some, None, refl, sym, ◌∙◌, arith}
use Rattle.std.specs.List.{AllByRecursion}
use Rattle.std.proofs.lemmas.Bool.{ltb-true, ltb-false, lt-ltb, le-ltb}
use Rattle.define_quotas.specs.Costs.{cheaper, first_cheapest}

-- true if nothing is kept yet, or `counts` cost less than what is kept
abbrev pub costs_less : (List ℕ → ℕ) → Option (List ℕ) → List ℕ → Bool
costs_less cost None counts = true
costs_less cost (Some kept) counts = ltb (cost counts) (cost kept)

-- what is kept after `counts` were compared: `counts` if nothing was kept before or they cost less than what was kept, else what was kept
abbrev pub keep : (List ℕ → ℕ) → Option (List ℕ) → List ℕ → Option (List ℕ)
keep cost kept counts = cond (costs_less cost kept counts) (Some counts) kept

pub keep_none : (cost : List ℕ → ℕ) (kept : Option (List ℕ)) (xs : List (List ℕ)) → AllByRecursion (λ counts. costs_less cost kept counts ≡ false) xs → fold (keep cost) kept xs ≡ kept
keep_none cost kept [] h = refl
keep_none cost kept (x ∷ xs) h = let e = h.0 in rw e (keep_none cost kept xs h.1)

-- the cheaper of what is kept and what is found later; if both cost the same, what is kept
abbrev better : (List ℕ → ℕ) → Option (List ℕ) → Option (List ℕ) → Option (List ℕ)
better cost None found = found
better cost (Some kept) None = Some kept
better cost (Some kept) (Some found) = cond (ltb (cost found) (cost kept)) (Some found) (Some kept)

better_than_none : (cost : List ℕ → ℕ) (kept : Option (List ℕ)) → better cost kept None ≡ kept
better_than_none cost None = refl
better_than_none cost (Some kept) = refl

first_kept : (cost : List ℕ → ℕ) (x : List ℕ) (found : Option (List ℕ)) → better cost (Some x) found ≡ Some (cheaper cost x found)
first_kept cost x None = refl
first_kept cost x (Some later) =
    elim (ltb (cost later) (cost x)) as (λ b. cond b (Some later) (Some x) ≡ Some (cond b later x)) [
      | true ↦ refl
      | false ↦ refl
    ]

less_less : (a b c : ℕ) → ltb a b ≡ true → ltb b c ≡ true → ltb a c ≡ true
less_less a b c e f = let l = ltb-true a b e in let m = ltb-true b c f in lt-ltb a c (omega arith)

not_less : (a b c : ℕ) → ltb a b ≡ false → ltb b c ≡ false → ltb a c ≡ false
not_less a b c e f = let l = ltb-false a b e in let m = ltb-false b c f in le-ltb a c (omega arith)

next_kept : (cost : List ℕ → ℕ) (k x : List ℕ) (found : Option (List ℕ)) →
    better cost (cond (ltb (cost x) (cost k)) (Some x) (Some k)) found ≡ better cost (Some k) (Some (cheaper cost x found))
next_kept cost k x None =
    elim (ltb (cost x) (cost k)) as (λ b. better cost (cond b (Some x) (Some k)) None ≡ cond b (Some x) (Some k)) [
      | true ↦ refl
      | false ↦ refl
    ]
next_kept cost k x (Some later) = by (ltb (cost x) (cost k)) refl (ltb (cost later) (cost x)) refl
  where
    by : (b : Bool) → ltb (cost x) (cost k) ≡ b → (d : Bool) → ltb (cost later) (cost x) ≡ d →
        better cost (cond b (Some x) (Some k)) (Some later) ≡ cond (ltb (cost (cond d later x)) (cost k)) (Some (cond d later x)) (Some k)
    by true e true f = let g = less_less (cost later) (cost x) (cost k) f e in rw (f, g) refl
    by true e false f = rw (f, e) refl
    by false e true f = refl
    by false e false f = let g = not_less (cost later) (cost x) (cost k) f e in rw (g, e) refl

keeps_better : (cost : List ℕ → ℕ) (kept : Option (List ℕ)) (xs : List (List ℕ)) → fold (keep cost) kept xs ≡ better cost kept (first_cheapest cost xs)
keeps_better cost kept [] = sym (better_than_none cost kept)
keeps_better cost None (x ∷ xs) = keeps_better cost (Some x) xs ∙ first_kept cost x (first_cheapest cost xs)
keeps_better cost (Some k) (x ∷ xs) =
    keeps_better cost (cond (ltb (cost x) (cost k)) (Some x) (Some k)) xs ∙ next_kept cost k x (first_cheapest cost xs)

-- if nothing is kept at first, what is kept at the end is the first of least cost
pub keeps_first_cheapest : (cost : List ℕ → ℕ) (xs : List (List ℕ)) → fold (keep cost) None xs ≡ first_cheapest cost xs
keeps_first_cheapest cost xs = keeps_better cost None xs
