use Rattle.std.proofs.Common.{Bool, false, List, get_or, ap, ◌∙◌, arith}
use Rattle.define_pools.specs.Lists.{includes}
use Rattle.define_pools.specs.Pool.{allows}
use Rattle.check_reasons.proofs.Enumerated.{list_all-enumerated_same}
use Rattle.check_reasons.proofs.quotas.keep_standings.Goals as goal

pub returns : goal.returns
returns c =
    c.permit.ensures ∙ list_all-enumerated_same (λ (i, volunteer). allows volunteer.standing (get_or c.deref.result.now i false)) (λ (i, volunteer). allows volunteer.standing (includes c.args.members.now i)) 0 c.args.volunteers.now
    (λ k volunteer l. ap (allows volunteer.standing) (ap (λ (xs : List Bool). get_or xs k false) c.deref.ensures.value ∙ c.in_ok-is_in.ensures k (omega arith)))
