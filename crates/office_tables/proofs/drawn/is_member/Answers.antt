use Rattle.std.proofs.Common.{◌≡◌, ◌∙◌, ◌+◌, ◌||◌, ap, ap₂, sym, true, take}
use Rattle.std.proofs.Math.Bool.{or-true}
use Rattle.define_pools.specs.Lists.{includes_list}
use Rattle.define_draws.specs.Lines.{member_ids}
use Rattle.office_tables.proofs.KeptParts.{member_among, member_step}
use Rattle.office_tables.proofs.drawn.is_member.Goals as goal

pub returns-then-eq : goal.returns-then-eq
returns-then-eq c =
    let pool = c.args.pool.now in let items = c.members-i-items.result.now in let id = c.args.id.now in
    let step = member_step pool c.args.panel.now items c.volunteers.result.now c.loop-i.i-index id c.as_bytes.result.now c.as_bytes-in-loop-i.result.now c.index-volunteers-i.result c.eq.result
    c.requires c.members-i-items.ensures.value c.volunteers.ensures c.loop-i-test.true c.index-volunteers-i.is c.as_bytes.ensures (c.as_bytes-in-loop-i.ensures ∙ c.id.ensures) c.eq.ensures in
    let among : includes_list (member_ids pool (take (c.loop-i.i-index + 1) items)) id ≡ true =
    step ∙ (ap (λ b. includes_list (member_ids pool (take c.loop-i.i-index items)) id || b) c.if-eq.true ∙ or-true _) in
    sym (ap (λ panel. includes_list (member_ids pool panel) id) (sym c.members-i-items.ensures.value) ∙ member_among pool items (c.loop-i.i-index + 1) id among)

pub loop-i-preserved : goal.loop-i-preserved
loop-i-preserved c =
    let pool = c.args.pool.now in let items = c.members-i-items.result.now in let id = c.args.id.now in
    member_step pool c.args.panel.now items c.volunteers.result.now c.loop-i.i-index id c.as_bytes.result.now c.as_bytes-in-loop-i.result.now c.index-volunteers-i.result c.eq.result
    c.requires c.members-i-items.ensures.value c.volunteers.ensures c.loop-i-test.true c.index-volunteers-i.is c.as_bytes.ensures (c.as_bytes-in-loop-i.ensures ∙ c.id.ensures) c.eq.ensures
    ∙ ap₂ ◌||◌ c.loop-i.invariant c.if-eq.false
