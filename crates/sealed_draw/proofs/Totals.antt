-- A bundle's weights are at least 1, so its total agrees exactly if they sum to it.
use Rattle.std.proofs.Common.{◌≡◌, ◌↔◌, ◌∙◌, Bool, eqb, length, sym, IsTrue}
use Rattle.std.specs.Prelude.{sum_by}
use Rattle.std.proofs.lemmas.Bool.{eq-eqb, eqb-true}
use Rattle.define_pools.specs.Pool.{Pool}
use Rattle.define_pools.specs.Certificate.{Answer}
use Rattle.define_pools.specs.Lottery.{TotalAgrees}
use Rattle.define_bundles.specs.Ranges.{IsInRanges}
use Rattle.define_bundles.proofs.Weights.{positive_weights}

pub agrees_exactly : (pool : Pool) (answer : Answer) (result : Bool) → IsInRanges pool answer → result ≡ eqb answer.lottery.total (sum_by (λ row. row.weight) answer.lottery.rows) → IsTrue result ↔ TotalAgrees answer.lottery
agrees_exactly pool answer result ranges is = (
  λ h. record {
    weights = positive_weights (length pool.volunteers) answer.lottery.rows ranges.rows;
    total = eqb-true answer.lottery.total (sum_by (λ row. row.weight) answer.lottery.rows) (sym is ∙ h);
  },
  λ agrees. is ∙ eq-eqb answer.lottery.total (sum_by (λ row. row.weight) answer.lottery.rows) agrees.total,
)
