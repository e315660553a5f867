-- The test of `are_different` finds a quota that was there before. `checks` uses this.
use Rattle.std.proofs.Common.{◌≡◌, ◌∙◌, ◌<◌, ◌≤◌, ◌+◌, ℕ, Bool, true, false, List, get_or, length, take, ltb, refl, sym, ap, subst, eq-eqb, arith}
use Rattle.std.specs.List.{list_any}
use Rattle.std.proofs.lemmas.Bool.{false≢true, ltb-true, ltb-false}
use Rattle.std.proofs.lemmas.List.{get_or_default, get_or-take, length-take-le}
use Rattle.std.proofs.lemmas.List.Folds.{list_any_at}
use Rattle.define_quotas.specs.contracts.QuotaPartialEq.TheImpl.{ghosts}
use Rattle.define_quotas.specs.declared.Counted.{Counted}
use Rattle.define_quotas.specs.declared.Counted.TheVariants.{Everybody, WithValue, OfHousehold}
use Rattle.define_quotas.specs.declared.Quota.{Quota}
use Rattle.define_quotas.specs.declared.Side.{Side}
use Rattle.define_quotas.specs.declared.Side.TheVariants.{AtLeast, AtMost}

-- a quota passes the test of being equal to itself
pub equal : (quota : Quota) → ghosts.eq quota quota ≡ true
equal quota = by quota.counted quota.side
  where
    by : (counted : Counted) (side : Side) → ghosts.eq (record { counted = counted; side = side }) (record { counted = counted; side = side }) ≡ true
    by Everybody AtLeast = refl
    by Everybody AtMost = refl
    by (WithValue category value) AtLeast = rw (eq-eqb category category refl, eq-eqb value value refl) refl
    by (WithValue category value) AtMost = rw (eq-eqb category category refl, eq-eqb value value refl) refl
    by (OfHousehold member) AtLeast = rw (eq-eqb member member refl) refl
    by (OfHousehold member) AtMost = rw (eq-eqb member member refl) refl

-- if no quota before `place` is there twice, and none of them passes the test with the one at `place`, none is there twice up to it
pub different_on : (quotas : List Quota) (place : ℕ) (e : Quota) → place < length quotas →
    ((i j : ℕ) (d : Quota) → i < j → j < place → get_or quotas i d ≡ get_or quotas j d → ⊥) →
    list_any (λ other. ghosts.eq other (get_or quotas place e)) (take place quotas) ≡ false →
    (i j : ℕ) (d : Quota) → i < j → j < place + 1 → get_or quotas i d ≡ get_or quotas j d → ⊥
different_on quotas place e inside earlier none i j d before below same = by (ltb j place) refl
  where
    by : (b : Bool) → ltb j place ≡ b → ⊥
    by true h = earlier i j d before (ltb-true j place h) same
    by false h =
        let at : j ≡ place = let after = ltb-false j place h in omega (arith, after, below) in
        let first : i < place = omega (arith, before, at) in
        let taken : i < length (take place quotas) = let size = length-take-le place quotas (omega (arith, inside)) in omega (arith, first, size) in
        let is : get_or (take place quotas) i d ≡ get_or quotas place e =
        get_or-take place quotas i d first ∙ (same ∙ (ap (λ k. get_or quotas k d) at ∙ get_or_default quotas place d e inside)) in
        let passes : ghosts.eq (get_or (take place quotas) i d) (get_or quotas place e) ≡ true = rw is (equal (get_or quotas place e)) in
        false≢true (sym none ∙ list_any_at (λ other. ghosts.eq other (get_or quotas place e)) (take place quotas) i d taken passes)
