-- A selection that keeps the standings before a split keeps those of one of its two parts.
use Rattle.std.proofs.Common.{◌≡◌, ℕ, zero, suc, ◌+◌, ◌≤◌, Bool, true, false, ◌&&◌, ltb, List, [], ◌∷◌, set, length, refl, sym, ap, subst, arith}
use Rattle.std.specs.List.{list_all}
use Rattle.std.proofs.lemmas.Bool.{and_from, and_parts}
use Rattle.std.proofs.lemmas.List.{length-set}
use Rattle.define_pools.specs.declared.Standing.{Standing}
use Rattle.define_pools.specs.declared.Standing.TheVariants.{Seated, Gone}
use Rattle.define_pools.specs.Lists.{includes, is_increasing}
use Rattle.define_pools.specs.Pool.{Pool, allows}
use Rattle.define_quotas.specs.declared.Quota.{Quota}
use Rattle.define_quotas.specs.Quotas.{MissAt, is_selection_at, keeps, misses}
use Rattle.define_quotas.proofs.Asking.{selection_parts}

module _ (selection : List ℕ) where
  -- if the selection keeps `all`, and keeps `standing` for volunteer `first + i`, it keeps `all` with this standing in place `i`
  keeps_set : (first i : ℕ) (all : List Standing) (standing : Standing) → keeps selection first all ≡ true → allows standing (includes selection (first + i)) ≡ true → keeps selection first (set all i standing) ≡ true
  keeps_set first i [] standing h k = refl
  keeps_set first zero (one ∷ all) standing h k =
      let parts = and_parts (allows one (includes selection first)) (keeps selection (first + 1) all) h in
      let here : first + 0 ≡ first = omega arith in
      and_from (allows standing (includes selection first)) (keeps selection (first + 1) all) (subst (λ j. allows standing (includes selection j) ≡ true) here k) parts.1
  keeps_set first (suc i) (one ∷ all) standing h k =
      let parts = and_parts (allows one (includes selection first)) (keeps selection (first + 1) all) h in
      let next : first + suc i ≡ (first + 1) + i = omega arith in
      and_from (allows one (includes selection first)) (keeps selection (first + 1) (set all i standing)) parts.0
      (keeps_set (first + 1) i all standing parts.1 (subst (λ j. allows standing (includes selection j) ≡ true) next k))

  pub selection_set : (i : ℕ) (all : List Standing) (standing : Standing) → is_selection_at all selection ≡ true → allows standing (includes selection i) ≡ true → is_selection_at (set all i standing) selection ≡ true
  selection_set i all standing is h =
      let parts = selection_parts all selection is in
      let B : ℕ → Bool = λ n. list_all (λ j. ltb j n) selection in
      let below = subst (λ n. B n ≡ true) (sym (length-set all i standing)) parts.below in
      let here : 0 + i ≡ i = omega arith in
      and_from (is_increasing selection && B (length (set all i standing))) (keeps selection 0 (set all i standing))
      (and_from (is_increasing selection) (B (length (set all i standing))) parts.up below)
      (keeps_set 0 i all standing parts.kept (subst (λ j. allows standing (includes selection j) ≡ true) (sym here) h))

pub both_miss : (pool : Pool) (quotas : List Quota) (all : List Standing) (i least : ℕ) → MissAt pool quotas (set all i Gone) least → MissAt pool quotas (set all i Seated) least → MissAt pool quotas all least
both_miss pool quotas all i least without with selection is = by (includes selection i) refl
  where
    by : (b : Bool) → includes selection i ≡ b → least ≤ misses pool selection quotas
    by false e = without selection (selection_set selection i all Gone is (ap (allows Gone) e))
    by true e = with selection (selection_set selection i all Seated is (ap (allows Seated) e))
