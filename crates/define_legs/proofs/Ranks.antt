-- Lists of marks of the same length with the same number of marks set are numbered, from 0 to the number of binomial to choose.
use Rattle.std.proofs.Common.{◌≡◌, ℕ, zero, suc, ◌+◌, ◌<◌, Bool, true, false, List, [], ◌∷◌, length, refl, sym, ap, ap₂, ◌∙◌, arith}
use Rattle.define_rows.specs.Binomials.{binomial}

-- how many marks are set
abbrev pub trues : List Bool → ℕ
trues [] = 0
trues (true ∷ bs) = suc (trues bs)
trues (false ∷ bs) = trues bs

-- how many binomial choose the first thing, if `size` are chosen from it and n more
abbrev skipped : ℕ → ℕ → ℕ
skipped n zero = 0
skipped n (suc size) = binomial n size

-- the number of the list among those of its length and number of marks set
abbrev pub rank : List Bool → ℕ
rank [] = 0
rank (true ∷ bs) = rank bs
rank (false ∷ bs) = skipped (length bs) (trues bs) + rank bs

pub rank-below : (bs : List Bool) → rank bs < binomial (length bs) (trues bs)
unfolding binomial
rank-below [] = omega arith
rank-below (true ∷ bs) = omega (arith, rank-below bs)
rank-below (false ∷ bs) = by (trues bs) refl (rank-below bs)
  where
    by : (c : ℕ) → trues bs ≡ c → rank bs < binomial (length bs) (trues bs) → skipped (length bs) (trues bs) + rank bs < binomial (suc (length bs)) (trues bs)
    by zero e l =
        let a : binomial (length bs) (trues bs) ≡ 1 = ap (binomial (length bs)) e ∙ one (length bs) in
        let b : binomial (suc (length bs)) (trues bs) ≡ 1 = ap (binomial (suc (length bs))) e in
        let c : skipped (length bs) (trues bs) ≡ 0 = ap (skipped (length bs)) e in
        omega arith
      where
        one : (n : ℕ) → binomial n 0 ≡ 1
        one zero = refl
        one (suc n) = refl
    by (suc c) e l =
        let a : binomial (suc (length bs)) (trues bs) ≡ binomial (length bs) c + binomial (length bs) (suc c) = ap (binomial (suc (length bs))) e in
        let b : binomial (length bs) (trues bs) ≡ binomial (length bs) (suc c) = ap (binomial (length bs)) e in
        let s : skipped (length bs) (trues bs) ≡ binomial (length bs) c = ap (skipped (length bs)) e in
        omega arith

-- a list that sets its first mark is numbered before one that doesn't
rank-before : (bs cs : List Bool) → length bs ≡ length cs → trues cs ≡ suc (trues bs) → rank bs < skipped (length cs) (trues cs) + rank cs
rank-before bs cs n f =
    let s : skipped (length cs) (trues cs) ≡ binomial (length bs) (trues bs) = ap₂ skipped (sym n) f in
    omega (arith, rank-below bs)

-- two lists with the same number, length and number of marks set are the same
pub rank-same : (bs cs : List Bool) → length bs ≡ length cs → trues bs ≡ trues cs → rank bs ≡ rank cs → bs ≡ cs
rank-same [] [] e f g = refl
rank-same [] (c ∷ cs) e f g = absurd (omega arith)
rank-same (b ∷ bs) [] e f g = absurd (omega arith)
rank-same (true ∷ bs) (true ∷ cs) e f g = ap (λ xs. true ∷ xs) (rank-same bs cs (omega arith) (omega arith) g)
rank-same (false ∷ bs) (false ∷ cs) e f g =
    let n : length bs ≡ length cs = omega arith in
    let s : skipped (length bs) (trues bs) ≡ skipped (length cs) (trues cs) = ap₂ skipped n f in
    ap (λ xs. false ∷ xs) (rank-same bs cs n f (omega arith))
rank-same (true ∷ bs) (false ∷ cs) e f g = let l = rank-before bs cs (omega arith) (sym f) in absurd (omega arith)
rank-same (false ∷ bs) (true ∷ cs) e f g = let l = rank-before cs bs (omega arith) f in absurd (omega arith)
