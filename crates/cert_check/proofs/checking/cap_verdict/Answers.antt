use Rattle.std.proofs.Common.{length, sym, ap, ◌∙◌}
use Rattle.std.specs.List.{list_all}
use Rattle.define_bundles.specs.Ranges.{is_stage}
use Rattle.define_pools.specs.Pool.{Pool}
use Rattle.cert_check.proofs.Stages.{list_all-reverse}
use Rattle.cert_check.proofs.checking.cap_verdict.Goals as goal

pub panel_above_cap-requires-clause-earlier : goal.panel_above_cap-requires-clause-earlier
panel_above_cap-requires-clause-earlier c =
    let n = length c.args.course.now.pool.volunteers in
    ap (λ (pool : Pool). list_all (is_stage (length pool.volunteers)) c.earlier.result.now) c.pool.ensures
    ∙ sym (list_all-reverse (is_stage n) c.earlier.result.now) ∙ ap (list_all (is_stage n)) c.earlier.ensures ∙ c.requires.earlier
