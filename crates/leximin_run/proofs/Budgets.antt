-- What holds with each budget of pricing from some number on.
use Rattle.std.proofs.Common.{◌≡◌, ℕ, ◌<◌, Bool, List, sym, subst, arith}
use Rattle.std.specs.Prelude.{max}
use Rattle.std.proofs.Math.Nat.{le-max_left, le-max_right, le_trans, max-le}
use Rattle.define_rows.specs.Row.{Row}
use Rattle.define_rows.specs.Table.{Table}
use Rattle.define_runs.specs.Run.{GoOn, Limits, RunLimits, step}
use Rattle.define_runs.specs.Work.{work_left}
use Rattle.define_runs.proofs.Work.{step_lessens}
use Rattle.define_searches.specs.Classes.{Classes}
use Rattle.define_runs.specs.Sharing.{with_pricing}
use Rattle.leximin_run.specs.Advancing.{HoldsFrom, Stands}

-- `Stands` doesn't depend on the budget of pricing
pub stands_with : (all : Classes) (limits : RunLimits) (pricing : ℕ) (table : Table) (closed : List Row) → Stands all limits table closed → Stands all (with_pricing limits pricing) table closed
stands_with all limits pricing table closed stands = record {
  limited = stands.limited;
  ranges = record { some_bits = stands.ranges.some_bits; few_bits = stands.ranges.few_bits; few_pivots = stands.ranges.few_pivots };
  keeps = record {
    in_order = stands.keeps.in_order;
    sizes = stands.keeps.sizes;
    width = stands.keeps.width;
    pivots = stands.keeps.pivots;
    columns = stands.keeps.columns;
    priced_out = stands.keeps.priced_out;
  };
  closed_are = stands.closed_are;
}

pub stands_without : (all : Classes) (limits : RunLimits) (pricing : ℕ) (table : Table) (closed : List Row) → Stands all (with_pricing limits pricing) table closed → Stands all limits table closed
stands_without all limits pricing table closed stands = record {
  limited = stands.limited;
  ranges = record { some_bits = stands.ranges.some_bits; few_bits = stands.ranges.few_bits; few_pivots = stands.ranges.few_pivots };
  keeps = record {
    in_order = stands.keeps.in_order;
    sizes = stands.keeps.sizes;
    width = stands.keeps.width;
    pivots = stands.keeps.pivots;
    columns = stands.keeps.columns;
    priced_out = stands.keeps.priced_out;
  };
  closed_are = stands.closed_are;
}

-- P holds with each budget of pricing
pub from_none : (share : Bool) (limits : RunLimits) (P : RunLimits → Type 0) → ((pricing : ℕ) → P (with_pricing limits pricing)) → HoldsFrom share limits P
from_none share limits P h = record { least = 0; own = λ apart. omega arith; holds = λ pricing l. h pricing }

-- R follows from P
pub from_one : (share : Bool) (limits : RunLimits) (P R : RunLimits → Type 0) → ((pricing : ℕ) → P (with_pricing limits pricing) → R (with_pricing limits pricing)) → HoldsFrom share limits P → HoldsFrom share limits R
from_one share limits P R follows p = record { least = p.least; own = p.own; holds = λ pricing l. follows pricing (p.holds pricing l) }

-- R follows from P and Q
pub from_both : (share : Bool) (limits : RunLimits) (P Q R : RunLimits → Type 0) → ((pricing : ℕ) → P (with_pricing limits pricing) → Q (with_pricing limits pricing) → R (with_pricing limits pricing)) →
    HoldsFrom share limits P → HoldsFrom share limits Q → HoldsFrom share limits R
from_both share limits P Q R follows p q = record {
  least = max p.least q.least;
  own = λ apart. max-le (p.own apart) (q.own apart);
  holds = λ pricing l. follows pricing (p.holds pricing (le_trans (le-max_left p.least q.least) l)) (q.holds pricing (le_trans (le-max_right p.least q.least) l));
}

-- what holds of some limits and classes holds of those that equal them
pub carried : (P : Bool → Classes → Limits → Type 0) (share other : Bool) (all others : Classes) (limits same : Limits) → other ≡ share → others ≡ all → same ≡ limits → P share all limits → P other others same
carried P share other all others limits same e f g h = subst (λ share. P share others same) (sym e) (subst (λ all. P share all same) (sym f) (subst (λ limits. P share all limits) (sym g) h))

-- a step leaves less to do
pub lessens : (share : Bool) (all : Classes) (limits : RunLimits) (table : Table) (closed : List Row) (made : Table) → Stands all limits table closed → HoldsFrom share limits (λ free. step all free table ≡ GoOn made) → work_left limits made < work_left limits table
unfolding work_left
lessens share all limits table closed made stands h =
    let then = stands_with all limits h.least table closed stands in
    step_lessens all (with_pricing limits h.least) table then.limited then.keeps made (h.holds h.least (omega arith))
