use Rattle.std.proofs.Common.{◌≡◌, true, not, ap, sym, ◌∙◌}
use Rattle.std.proofs.lemmas.Bool.{false≢true}
use Rattle.define_pools.specs.Lists.{includes_list}
use Rattle.define_pools.specs.Pool.{Pool}
use Rattle.define_pools.specs.Building.{ids}
use Rattle.pool_model.specs.IdOrder.{follows_last}
use Rattle.pool_model.proofs.IdsInOrder.{is_new}
use Rattle.pool_model.proofs.pools.Pool.has_volunteer.Goals.{then-self, else-self}
use Rattle.pool_model.proofs.pools.Pool.has_volunteer.Goals as goal

pub returns-else-not-is_past_all : goal.returns-else-not-is_past_all
returns-else-not-is_past_all c =
    let id = c.args.id.now in
    let known = ids c.self.inside.volunteers.items in
    let past : c.if-self.is_past_all ≡ true = c.if-not-is_past_all.false in
    elim c.if-self.branch [
      | then-self w ↦
          let follows = ap (λ volunteers. follows_last (ids volunteers) id) (sym w.deref.ensures.value) ∙ sym w.follows_last-is_past_all.ensures ∙ sym w.is_past_all-is ∙ past in
          ap not past ∙ sym (is_new known id (c.self.invariant.1 w.if-self.true) follows) ∙ ap (λ (p : Pool). includes_list (ids p.volunteers) id) c.self.view_is
      | else-self w ↦ absurd (false≢true (sym w.if-self.false ∙ sym w.is_past_all-is ∙ past))
    ]
