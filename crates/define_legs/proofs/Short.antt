-- A chain has at most as many tables as there are sets of variables that could be basic.
use Rattle.std.proofs.Common.{◌≡◌, ℕ, ◌+◌, ◌<◌, ◌≤◌, Bool, true, false, ◌||◌, eqb, List, [], ◌∷◌, length, map, get_or, refl, sym, ap, ap₂, ◌∙◌, subst, arith}
use Rattle.std.specs.List.{AllByRecursion, list_any}
use Rattle.std.proofs.lemmas.Bool.{ne_eqb, eqb-true}
use Rattle.std.proofs.lemmas.List.{get_or-map, length-map}
use Rattle.std.proofs.lemmas.List.Elements.{recursion_from_All, All-from_get_or}
use Rattle.std.proofs.lemmas.Map.Keys.{IsDistinct-from_apart}
use Rattle.std.proofs.lemmas.Map.Steps.{length-le_from_distinct_below}
use Rattle.define_pools.proofs.Each.{each_mapped}
use Rattle.define_rows.specs.declared.Var.{Var}
use Rattle.define_rows.specs.Table.{Table}
use Rattle.define_rows.specs.InOrder.{IsKnown, IsInOrder}
use Rattle.define_rows.specs.Binomials.{binomial}
use Rattle.define_legs.specs.Chains.{IsChain, HasBasisOf, bases_of, ChainsAreShort}
use Rattle.define_legs.proofs.Frames.{SameFrame, frame-sym, frame-trans, known-frame, rows-frame}
use Rattle.define_legs.proofs.Places.{place, place-frame, width}
use Rattle.define_legs.proofs.Ranks.{trues, rank, rank-below, rank-same}
use Rattle.define_legs.proofs.Marks.{marks, length-marks, trues-marks, same_marks}
use Rattle.define_legs.proofs.Chains.{basic-contained, contains-basic, frames-chain, no_basis-twice}

-- a number that is in the list has what each number of the list has
any-each : (P : ℕ → Type 0) (q : ℕ) (xs : List ℕ) → AllByRecursion P xs → list_any (eqb q) xs ≡ true → P q
any-each P q [] h e = absurd cc
any-each P q (x ∷ xs) h e = by (eqb q x) refl e (λ g. any-each P q xs h.1 g)
  where
    by : (b : Bool) → eqb q x ≡ b → (b || list_any (eqb q) xs) ≡ true → (list_any (eqb q) xs ≡ true → P q) → P q
    by true f g rest = subst P (sym (eqb-true q x f)) h.0
    by false f g rest = rest g

module _ (tables : List Table) (d : Table) (chain : IsChain tables) (some : 0 < length tables) where
  abbrev at : ℕ → Table
  at k = get_or tables k d

  number : Table → ℕ
  number table = rank (marks table)

  order : (k : ℕ) → k < length tables → IsInOrder (at k)
  order k l = chain.in_order k d l

  frame : (k : ℕ) → k < length tables → SameFrame (at 0) (at k)
  frame k l =
      let a : 0 + k ≡ k = omega arith in
      subst (λ j. SameFrame (get_or tables 0 d) (get_or tables j d)) a (frames-chain tables chain 0 d k (omega arith) k (omega arith))

  wide : (k : ℕ) → k < length tables → length (marks (at k)) ≡ width (at 0)
  wide k l = let f = frame k l in omega (arith, length-marks (at k), ap length f.sizes, ap length f.stages, ap length f.columns)

  many : (k : ℕ) → k < length tables → trues (marks (at k)) ≡ length (at 0).sizes + 1
  many k l = omega (arith, trues-marks (at k) (order k l), rows-frame (at 0) (at k) (frame k l) (order 0 some) (order k l), (order 0 some).row_count)

  number-below : (k : ℕ) → k < length tables → number (at k) < bases_of (at 0)
  unfolding number
  number-below k l = subst (λ n. rank (marks (at k)) < n) (ap₂ binomial (wide k l) (many k l)) (rank-below (marks (at k)))

  -- two tables with the same number have the same basic variables
  same_number : (i j : ℕ) → i < length tables → j < length tables → number (at i) ≡ number (at j) → HasBasisOf (at i) (at j)
  unfolding number
  same_number i j l m e = λ x. (
    λ c. contains-basic (at j) (order j m) x (same_marks (at i) (at j) (order i l) (order j m) (known_from i j l m) (places i j l m) same x (basic-contained (at i) (order i l) x c)),
    λ c. contains-basic (at i) (order i l) x (same_marks (at j) (at i) (order j m) (order i l) (known_from j i m l) (places j i m l) (sym same) x (basic-contained (at j) (order j m) x c)),
  )
    where
      same : marks (at i) ≡ marks (at j)
      same = rank-same (marks (at i)) (marks (at j)) (wide i l ∙ sym (wide j m)) (many i l ∙ sym (many j m)) e

      between : (a b : ℕ) → a < length tables → b < length tables → SameFrame (at a) (at b)
      between a b l m = frame-trans (at a) (at 0) (at b) (frame-sym (at 0) (at a) (frame a l)) (frame b m)

      known_from : (a b : ℕ) → a < length tables → b < length tables → (x : Var) → IsKnown (at a) x → IsKnown (at b) x
      known_from a b l m x = known-frame (at b) (at a) (between b a m l) x

      places : (a b : ℕ) → a < length tables → b < length tables → (x : Var) → place (at b) x ≡ place (at a) x
      places a b l m x = place-frame (at a) (at b) (between a b l m) x

  different : (i j : ℕ) (e : ℕ) → i < j → j < length (map number tables) → eqb (get_or (map number tables) i e) (get_or (map number tables) j e) ≡ false
  different i j e l m =
      let m' : j < length tables = omega (arith, m, length-map tables number) in
      ne_eqb (get_or (map number tables) i e) (get_or (map number tables) j e)
      (λ s. no_basis-twice tables chain i j d l m' (same_number i j (omega arith) m' (sym (get_or-map number tables i d e (omega arith)) ∙ s ∙ get_or-map number tables j d e m')))

  pub chain-short : length tables ≤ bases_of (at 0)
  chain-short =
      let each : AllByRecursion (λ n. n < bases_of (at 0)) (map number tables) =
      each_mapped (λ n. n < bases_of (at 0)) number tables
      (recursion_from_All (λ table. number table < bases_of (at 0)) tables (All-from_get_or (λ table. number table < bases_of (at 0)) tables d (λ k l. number-below k l))) in
      let l = length-le_from_distinct_below (map number tables) (bases_of (at 0)) (IsDistinct-from_apart eqb (map number tables) different)
      (λ q e. any-each (λ n. n < bases_of (at 0)) q (map number tables) each e) in
      omega (arith, l, length-map tables number)

pub chains-short : ChainsAreShort
chains-short tables d chain some = chain-short tables d chain some
