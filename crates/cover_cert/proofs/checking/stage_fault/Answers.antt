use Rattle.std.proofs.Common.{◌≡◌, List, length, Option, sym, ap, ◌∙◌, subst}
use Rattle.std.specs.Prelude.{IfOk, reverse}
use Rattle.std.specs.List.{list_all}
use Rattle.define_bundles.specs.Ranges.{is_stage}
use Rattle.define_pools.specs.Certificate.{Stage}
use Rattle.define_pools.specs.Pool.{Pool}
use Rattle.define_proofs.specs.TreeLines.{TreeFault}
use Rattle.check_search.specs.Terms.{AreOfStage}
use Rattle.cover_cert.proofs.Stages.{fault_of_terms, list_all-reverse}
use Rattle.cover_cert.proofs.checking.stage_fault.Goals as goal

pub terms_of-requires-clause-earlier : goal.terms_of-requires-clause-earlier
terms_of-requires-clause-earlier g c =
    let n = length c.args.course.now.pool.volunteers in
    ap (λ (pool : Pool). list_all (is_stage (length pool.volunteers)) c.earlier.result.now) c.pool.ensures
    ∙ sym (list_all-reverse (is_stage n) c.earlier.result.now) ∙ ap (list_all (is_stage n)) c.earlier.ensures ∙ c.requires.earlier

pub returns-clause-fault : goal.returns-clause-fault
returns-clause-fault g c =
    let course = c.args.course.now in let stage = c.args.stage.now in let terms = c.in_ok-terms.terms in
    let made : AreOfStage course.pool course.earlier stage terms =
    subst (λ (earlier : List Stage). AreOfStage course.pool earlier stage terms) c.earlier.ensures (subst (λ (pool : Pool). AreOfStage pool (reverse c.earlier.result.now) stage terms) c.pool.ensures c.in_ok-terms.ensures.stage) in
    let P : Option TreeFault → Type 0 = λ wanted. IfOk c.tree_fault.result (λ fault. fault ≡ wanted) in
    subst P (fault_of_terms course.pool course.earlier stage terms c.args.number c.args.lines.now made) c.tree_fault.ensures.fault
