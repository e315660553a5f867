-- Volunteers who are alike at a stage make classes, and have equal weights in the stages up to it.
use Rattle.std.proofs.Common.{◌≡◌, ℕ, ◌<◌, true, List, [], ◌∷◌, length, refl, sym, ◌∙◌}
use Rattle.std.specs.List.{AllByRecursion}
use Rattle.std.specs.Ordering.{int_eq}
use Rattle.std.proofs.lemmas.Bool.{and_from, and_parts}
use Rattle.std.proofs.lemmas.Bool.Decides.{Decides-int_eq}
use Rattle.define_pools.specs.Certificate.{Stage, weight_of}
use Rattle.define_pools.specs.Pool.{Pool}
use Rattle.define_searches.specs.Classes.{MakesClasses, are_alike}
use Rattle.define_searches.specs.Stages.{WeighAlike}
use Rattle.define_searches.proofs.AlikeClasses.{alike_makes}
use Rattle.define_checks.specs.Caps.{alike_at, weigh_equal}

abbrev Equal : List Stage → ℕ → ℕ → Type 0
Equal stages i j = AllByRecursion (λ stage. weight_of stage i ≡ weight_of stage j) stages

equal_from : (stages : List Stage) (i j : ℕ) → weigh_equal stages i j ≡ true → Equal stages i j
equal_from [] i j h = tt
equal_from (stage ∷ stages) i j h =
    let parts = and_parts (int_eq (weight_of stage i) (weight_of stage j)) (weigh_equal stages i j) h in
    ((Decides-int_eq (weight_of stage i) (weight_of stage j)).0 parts.0, equal_from stages i j parts.1)

to_equal : (stages : List Stage) (i j : ℕ) → Equal stages i j → weigh_equal stages i j ≡ true
to_equal [] i j h = refl
to_equal (stage ∷ stages) i j h =
    and_from (int_eq (weight_of stage i) (weight_of stage j)) (weigh_equal stages i j) ((Decides-int_eq (weight_of stage i) (weight_of stage j)).1 h.0) (to_equal stages i j h.1)

equal_itself : (stages : List Stage) (i : ℕ) → Equal stages i i
equal_itself [] i = tt
equal_itself (stage ∷ stages) i = (refl, equal_itself stages i)

equal_back : (stages : List Stage) (i j : ℕ) → Equal stages i j → Equal stages j i
equal_back [] i j h = tt
equal_back (stage ∷ stages) i j h = (sym h.0, equal_back stages i j h.1)

equal_along : (stages : List Stage) (i j k : ℕ) → Equal stages i j → Equal stages j k → Equal stages i k
equal_along [] i j k h g = tt
equal_along (stage ∷ stages) i j k h g = (h.0 ∙ g.0, equal_along stages i j k h.1 g.1)

-- If `P i j` implies that `i` and `j` have equal weights in all stages, then for each single stage it implies equal weights there.
each_turned : (n : ℕ) (P : ℕ → ℕ → Type 0) (stages : List Stage) → ((i j : ℕ) → P i j → Equal stages i j) →
    AllByRecursion (λ stage. (i j : ℕ) → i < n → j < n → P i j → weight_of stage i ≡ weight_of stage j) stages
each_turned n P [] f = tt
each_turned n P (stage ∷ stages) f = (λ i j a b h. (f i j h).0, each_turned n P stages (λ i j h. (f i j h).1))

module _ (pool : Pool) (stages : List Stage) where
  parts : (i j : ℕ) → alike_at pool stages i j ≡ true → (are_alike pool i j ≡ true) × (weigh_equal stages i j ≡ true)
  parts i j h = and_parts (are_alike pool i j) (weigh_equal stages i j) h

  whole : (i j : ℕ) → are_alike pool i j ≡ true → Equal stages i j → alike_at pool stages i j ≡ true
  whole i j a e = and_from (are_alike pool i j) (weigh_equal stages i j) a (to_equal stages i j e)

  equal_of : (i j : ℕ) → alike_at pool stages i j ≡ true → Equal stages i j
  equal_of i j h = equal_from stages i j (parts i j h).1

  pub alike_at_makes : MakesClasses pool (alike_at pool stages)
  alike_at_makes =
      let plain = alike_makes pool in
      record {
        same = record {
          itself = λ i. whole i i (plain.same.itself i) (equal_itself stages i);
          back = λ i j h. whole j i (plain.same.back i j (parts i j h).0) (equal_back stages i j (equal_of i j h));
          along = λ i j k h g. whole i k (plain.same.along i j k (parts i j h).0 (parts j k g).0) (equal_along stages i j k (equal_of i j h) (equal_of j k g));
        };
        values = λ i j h. plain.values i j (parts i j h).0;
        standing = λ i j h. plain.standing i j (parts i j h).0;
        alone = λ i j h some. plain.alone i j (parts i j h).0 some;
      }

  pub alike_at_weigh : WeighAlike (alike_at pool stages) (length pool.volunteers) stages
  alike_at_weigh = each_turned (length pool.volunteers) (λ i j. alike_at pool stages i j ≡ true) stages equal_of
