use Rattle.std.proofs.Common.{ℕ, ◌<◌, ltb, List, [], length, map, Bor, arith, subst}
use Rattle.std.proofs.Math.ListN.{get_or-map}
use Rattle.std.proofs.lemmas.List.{length-map}
use Rattle.std.specs.List.{list_all}
use Rattle.define_pools.proofs.Each.{passes_at}
use Rattle.office_reports.specs.Groups.{AreBelow}
use Rattle.office_reports.proofs.report_quotas.numbers_with.Goals as goal

pub number_with-requires : goal.number_with-requires
number_with-requires c =
    let groups = c.args.groups.now in
    let i = c.loop-group.group-index in
    let seen : Bor (List ℕ) → List ℕ = λ group. group.now in
    let inside : i < length (map seen groups) = omega (arith, length-map groups seen, c.loop-group-test.true) in
    subst (AreBelow (length c.args.volunteers.now)) (get_or-map seen groups i (record { ref_ptr = (0, 0); now = [] }))
    (passes_at (list_all (λ k. ltb k (length c.args.volunteers.now))) (map seen groups) i [] c.requires inside)
