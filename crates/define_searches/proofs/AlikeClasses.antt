-- Volunteers of equal values and standing, who share no household, make classes.
use Rattle.std.proofs.Common.{◌≡◌, ℕ, Bool, true, false, not, ◌&&◌, ◌||◌, eqb, refl, sym, ap, ◌∙◌, ⊎_elim, subst}
use Rattle.std.specs.Prelude.{bytes_eq}
use Rattle.std.proofs.lemmas.Bool.{and_from, and_parts, eqb-true, eq-eqb, false≢true, not-true}
use Rattle.std.proofs.lemmas.Slice.Eq.{bytes_eq-Decides}
use Rattle.std.proofs.Math.Bool.{or-true}
use Rattle.define_pools.specs.declared.Standing.{Standing}
use Rattle.define_pools.specs.declared.Standing.TheVariants.{Open, Seated, Gone}
use Rattle.define_pools.specs.Pool.{Pool, Volunteer, volunteer}
use Rattle.define_searches.specs.Classes.{MakesClasses, are_alike, are_equal, is_same_standing, shares_household}

same_standing : (s t : Standing) → is_same_standing s t ≡ true → s ≡ t
same_standing Open Open h = refl
same_standing Open Seated h = absurd (false≢true h)
same_standing Open Gone h = absurd (false≢true h)
same_standing Seated Open h = absurd (false≢true h)
same_standing Seated Seated h = refl
same_standing Seated Gone h = absurd (false≢true h)
same_standing Gone Open h = absurd (false≢true h)
same_standing Gone Seated h = absurd (false≢true h)
same_standing Gone Gone h = refl

itself : (s : Standing) → is_same_standing s s ≡ true
itself Open = refl
itself Seated = refl
itself Gone = refl

module _ (pool : Pool) where
  abbrev at : ℕ → Volunteer
  at = volunteer pool.volunteers

  abbrev shares : ℕ → Bool
  shares = shares_household pool

  -- volunteers `i` and `j` have equal values and equal standing, and neither shares a household. This holds of any two different volunteers
  -- who are alike
  pub record Alike (i j : ℕ) : Type 0 where
    values : (at i).values ≡ (at j).values
    standing : (at i).standing ≡ (at j).standing
    one : shares i ≡ false
    other : shares j ≡ false

  alike_from : (i j : ℕ) → (are_equal (at i) (at j) && not (shares i) && not (shares j)) ≡ true → Alike i j
  alike_from i j h =
      let c = and_parts (are_equal (at i) (at j) && not (shares i)) (not (shares j)) h in
      let b = and_parts (are_equal (at i) (at j)) (not (shares i)) c.0 in
      let a = and_parts (bytes_eq (at i).values (at j).values) (is_same_standing (at i).standing (at j).standing) b.0 in
      record {
        values = (bytes_eq-Decides (at i).values (at j).values).0 a.0;
        standing = same_standing (at i).standing (at j).standing a.1;
        one = not-true (shares i) b.1;
        other = not-true (shares j) c.1;
      }

  to_alike : (i j : ℕ) → Alike i j → are_alike pool i j ≡ true
  to_alike i j h =
      let values = (bytes_eq-Decides (at i).values (at j).values).1 h.values in
      let standing = subst (λ s. is_same_standing (at i).standing s ≡ true) h.standing (itself (at i).standing) in
      let equal = and_from (bytes_eq (at i).values (at j).values) (is_same_standing (at i).standing (at j).standing) values standing in
      let both = and_from (are_equal (at i) (at j) && not (shares i)) (not (shares j)) (and_from (are_equal (at i) (at j)) (not (shares i)) equal (ap not h.one)) (ap not h.other) in
      ap (λ b. eqb i j || b) both ∙ or-true (eqb i j)

  same_is_alike : (i j : ℕ) → i ≡ j → are_alike pool i j ≡ true
  same_is_alike i j e = ap (λ b. b || (are_equal (at i) (at j) && not (shares i) && not (shares j))) (eq-eqb i j e)

  cases : (P : Type 0) (i j : ℕ) → are_alike pool i j ≡ true → (i ≡ j → P) → (Alike i j → P) → P
  cases P i j h same alike =
      (elim (eqb i j) as (λ b. eqb i j ≡ b → (b || (are_equal (at i) (at j) && not (shares i) && not (shares j))) ≡ true → P) [
        | true ↦ λ e _. same (eqb-true i j e)
        | false ↦ λ _ h. alike (alike_from i j h)
      ]) refl h

  back : (i j : ℕ) → are_alike pool i j ≡ true → are_alike pool j i ≡ true
  back i j h = cases (are_alike pool j i ≡ true) i j h (λ e. same_is_alike j i (sym e))
      (λ a. to_alike j i (record { values = sym a.values; standing = sym a.standing; one = a.other; other = a.one }))

  along : (i j k : ℕ) → are_alike pool i j ≡ true → are_alike pool j k ≡ true → are_alike pool i k ≡ true
  along i j k h g = cases (are_alike pool i k ≡ true) i j h (λ e. subst (λ i. are_alike pool i k ≡ true) (sym e) g)
      (λ a. cases (are_alike pool i k ≡ true) j k g (λ e. subst (λ k. are_alike pool i k ≡ true) e h)
      (λ b. to_alike i k (record { values = a.values ∙ b.values; standing = a.standing ∙ b.standing; one = a.one; other = b.other })))

  pub alike_makes : MakesClasses pool (are_alike pool)
  alike_makes = record {
    same = record { itself = λ i. same_is_alike i i refl; back = back; along = along };
    values = λ i j h. cases ((at i).values ≡ (at j).values) i j h (λ e. ap (λ k. (at k).values) e) (λ a. a.values);
    standing = λ i j h. cases ((at i).standing ≡ (at j).standing) i j h (λ e. ap (λ k. (at k).standing) e) (λ a. a.standing);
    alone = λ i j h some. cases (i ≡ j) i j h (λ e. e) (λ a. absurd (false≢true (sym a.one ∙ some)));
  }
