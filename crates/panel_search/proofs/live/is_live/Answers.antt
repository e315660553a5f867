use Rattle.std.proofs.Common.{◌≡◌, ℕ, ◌^◌, ◌<◌, List, length, sym, arith, subst}
use Rattle.define_rows.specs.Row.{Row, reach}
use Rattle.define_searches.specs.Classes.{Classes, KeepsLimits}
use Rattle.define_searches.specs.Fronts.{sizes_of}
use Rattle.define_searches.specs.Below.{IsFront}
use Rattle.define_searches.specs.Front.{AreWithin}
use Rattle.panel_search.proofs.Kept.{front_within, row_has}
use Rattle.panel_search.proofs.live.is_live.Goals as goal

within : (all : Classes) (front counts : List ℕ) → KeepsLimits all → IsFront all front → counts ≡ front → AreWithin all counts
within all front counts limits is e = subst (AreWithin all) (sym e) (front_within all front limits is)

pub is_reachable-requires-clause-counts : goal.is_reachable-requires-clause-counts
is_reachable-requires-clause-counts c = within c.args.classes.now c.args.front.now c.counts-front.result.now c.facts.ensures c.requires.front c.counts-front.ensures

pub taken-requires-clause-counts : goal.taken-requires-clause-counts
taken-requires-clause-counts c = within c.args.classes.now c.args.front.now c.counts-front.result.now c.facts.ensures c.requires.front c.counts-front.ensures

pub attains_each-requires-clause-counts : goal.attains_each-requires-clause-counts
attains_each-requires-clause-counts c = within c.args.classes.now c.args.front.now c.counts-front.result.now c.facts.ensures c.requires.front c.counts-front.ensures

pub optimistic-requires-clause-counts : goal.optimistic-requires-clause-counts
optimistic-requires-clause-counts c = within c.args.classes.now c.args.front.now c.counts-front.result.now c.facts.ensures c.requires.front c.counts-front.ensures

pub attains_each-requires-clause-narrow : goal.attains_each-requires-clause-narrow
attains_each-requires-clause-narrow c =
    let all = c.args.classes.now in let rows = c.args.closed.now in
    λ i row e. record {
      one_each = row_has (λ (row : Row). length row.a ≡ length all.classes) rows i row c.requires.entries.1 e;
      narrow = omega (arith, row_has (λ (row : Row). reach (sizes_of all) row < 2 ^ 127) rows i row c.requires.reaches.1 e);
    }
