use Rattle.std.proofs.Common.{◌≡◌, ℕ, true, ltb, arith, List, [], ◌∷◌, length, refl, sym, ◌∙◌, subst}
use Rattle.std.proofs.lemmas.Bool.{lt-ltb}
use Rattle.define_pools.proofs.Each.{each_filter, each_range, list_all_from_each}
use Rattle.define_pools.specs.Pool.{Pool, allows, everybody, volunteer}
use Rattle.define_offices.specs.Report.{not_gone}
use Rattle.office_reports.specs.Groups.{AreBelow, GroupsAreBelow}
use Rattle.office_reports.specs.Rounds.{IsOfPool}
use Rattle.office_reports.proofs.reports.push_quotas.Goals as goal

not_gone_below : (pool : Pool) → AreBelow (length pool.volunteers) (not_gone pool)
not_gone_below pool =
    let n = length pool.volunteers in
    list_all_from_each (λ i. ltb i n) (not_gone pool)
    (each_filter (λ i. ltb i n ≡ true) (λ i. allows (volunteer pool.volunteers i).standing true) (everybody pool)
    (each_range (λ i. allows (volunteer pool.volunteers i).standing true ≡ true → ltb i n ≡ true) 0 n (λ k l h. λ here. lt-ltb k n (omega (arith, h)))))

both_below : (n : ℕ) (a b : List ℕ) → AreBelow n a → AreBelow n b → GroupsAreBelow n (a ∷ b ∷ [])
both_below n a b p q = rw p (rw q refl)

one_below : (n : ℕ) (a : List ℕ) → AreBelow n a → GroupsAreBelow n (a ∷ [])
one_below n a p = rw p refl

pub push_counts-requires : goal.push_counts-requires
push_counts-requires c =
    let n = length c.args.pool.now.volunteers in
    both_below n c.as_slice.result.now c.members.result.now
    (subst (AreBelow n) (sym (c.as_slice.ensures.value ∙ c.in_ok-here.ensures)) (not_gone_below c.args.pool.now))
    (subst (AreBelow n) (sym c.members.ensures.value) (subst (IsOfPool c.args.pool.now) c.in-Some.is c.requires))

pub push_counts-requires-in-None : goal.push_counts-requires-in-None
push_counts-requires-in-None c =
    let n = length c.args.pool.now.volunteers in
    one_below n c.as_slice-in-None.result.now
    (subst (AreBelow n) (sym (c.as_slice-in-None.ensures.value ∙ c.in_ok-here.ensures)) (not_gone_below c.args.pool.now))
