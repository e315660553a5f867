use Rattle.std.proofs.Common.{[], take, drop, length, sym, ap, ◌∙◌, refl, arith, subst}
use Rattle.define_searches.specs.Compositions.{weight_in}
use Rattle.define_searches.specs.Fronts.{is_live_above}
use Rattle.define_searches.specs.Below.{child_best}
use Rattle.define_searches.proofs.Fronts.{front_length}
use Rattle.panel_search.specs.Pricing.{pricing_of}
use Rattle.panel_search.specs.Sharing.{Shares}
use Rattle.panel_search.proofs.SharedFronts.{below_front, bounded_on, front_part, is_passed}
use Rattle.panel_search.proofs.SharedSearches.{no_part, passed_over, then}
use Rattle.panel_search.proofs.sharing.SharingSearch.below.Goals as goal

pub returns-in_ok-enter : goal.returns-in_ok-enter
returns-in_ok-enter g c =
    let all = c.args.terms.now.classes.now in let closed = c.args.terms.now.closed.now in let row = c.args.terms.now.row.now in let self = c.args.self.now.search in let depth = c.args.depth in
    let front = take depth self.counts.items in
    let later = drop depth all.classes in
    let long = front_length depth self.counts.items (length all.classes) c.requires.begins.places c.requires.begins.within in
    let same = ap (λ search. take depth search.counts.items) c.look.ensures.search in
    let mid = c.look.new.self in
    let after = c.enter.new.self in
    let steps = c.in_ok-enter.ensures in
    let shares : Shares g.S.Scope.priced (child_best all closed row later front) (pricing_of mid.search) mid.seen (pricing_of after.search) after.seen =
    subst (λ f. Shares g.S.Scope.priced (child_best all closed row later f) (pricing_of mid.search) mid.seen (pricing_of after.search) after.seen) same steps.0 in (
      then (weight_in row.a) (λ now. now) (child_best all closed row later front) [] (below_front all closed row c.requires.searchable c.requires.entries depth front) (no_part (weight_in row.a))
          (front_part all closed row c.requires.searchable c.requires.entries depth front long c.requires.begins.within) g.S.Scope.priced (pricing_of self) (pricing_of mid.search) (pricing_of after.search) c.args.self.now.seen mid.seen after.seen
          c.look.ensures.shares shares,
      omega (arith, steps.3, ap (λ search. search.nodes) c.look.ensures.search),
    )

pub returns-else-is_live : goal.returns-else-is_live
returns-else-is_live g c =
    let all = c.args.terms.now.classes.now in let closed = c.args.terms.now.closed.now in let row = c.args.terms.now.row.now in let self = c.args.self.now.search in let depth = c.args.depth in
    let front = take depth self.counts.items in
    let later = drop depth all.classes in
    let long = front_length depth self.counts.items (length all.classes) c.requires.begins.places c.requires.begins.within in
    let same = ap (λ search. take depth search.counts.items) c.look.ensures.search in
    let mid = c.look.new.self in
    let part = front_part all closed row c.requires.searchable c.requires.entries depth front long c.requires.begins.within in
    let here = bounded_on g.S.Scope.priced (λ now. now) (pricing_of self) (pricing_of mid.search) c.args.self.now.seen mid.seen c.requires.bounded c.look.ensures.shares in
    let dead = is_passed all closed row later front (pricing_of mid.search) (ap (is_live_above all closed row mid.search.floor) (sym same) ∙ sym c.is_live.ensures ∙ c.if-is_live.false) in (
      then (weight_in row.a) (λ now. now) (child_best all closed row later front) [] (below_front all closed row c.requires.searchable c.requires.entries depth front) (no_part (weight_in row.a)) part
          g.S.Scope.priced (pricing_of self) (pricing_of mid.search) (pricing_of mid.search) c.args.self.now.seen mid.seen mid.seen c.look.ensures.shares
          (passed_over (weight_in row.a) g.S.Scope.priced (child_best all closed row later front) (below_front all closed row c.requires.searchable c.requires.entries depth front) (pricing_of mid.search) (pricing_of mid.search) mid.seen part here.stands here.no_less dead refl),
      omega (arith, c.requires.few, ap (λ search. search.visits) c.look.ensures.search),
    )
