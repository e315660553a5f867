use Rattle.std.proofs.Common.{rules, ◌≡◌, ℕ, ◌+◌, ◌-◌, ◌<◌, ◌≤◌, List, [], ◌∷◌, ◌++◌, length, take, drop, set, Some, inr, refl, sym, ap, ◌∙◌, arith, subst}
use Rattle.std.specs.Prelude.{◌<ℤ◌, ◌≤ℤ◌}
use Rattle.std.proofs.lemmas.Int.{ints}
use Rattle.define_searches.specs.Best.{Qualifies}
use Rattle.define_searches.specs.Compositions.{weight_in}
use Rattle.define_searches.specs.Fronts.{is_live_above, is_reachable}
use Rattle.define_searches.specs.Visits.{Pricing}
use Rattle.define_searches.specs.Below.{IsFront, child_best}
use Rattle.panel_search.specs.Front.{Tracks}
use Rattle.panel_search.specs.Pricing.{pricing_of, CanTakeWithin, children_best}
use Rattle.panel_search.specs.Sharing.{Exceeds, FrontsWithin, Goes, IsBeaten, IsBounded, Shares, priced_of}
use Rattle.panel_search.specs.Weights.{Weighs, WeighEach}
use Rattle.panel_search.specs.Steps.{LiveWithin, counts_below}
use Rattle.panel_search.specs.declared.pricing.BestSearch.{BestSearch}
use Rattle.define_searches.specs.Front.{Stands}
use Rattle.define_searches.proofs.Tracking.{stands_there}
use Rattle.define_searches.proofs.Fronts.{front_length, from_front, from_front_more, placed, front_of, at_child, same_class, class_limits, child_tracks}
use Rattle.panel_search.proofs.Ranges.{LiveBetween, below_next, between}
use Rattle.panel_search.proofs.BestStepping.{child_at, children_none, children_within, stands_with, child_stands, parent_stands}
use Rattle.panel_search.proofs.SharedFronts.{below_children, below_front, beats, bounded_on, child_part, children_part, front_part, fronts_next, goes_err, goes_on, is_passed, kept_whole, keeps_whole, live_is, qualifies, spent_here, stands_kept, whole_front, with_children}
use Rattle.panel_search.proofs.SharedSearches.{IsSearch, entered, entered_exceeds, first_exceeds, no_part, passed_over, then, then_exceeds, visited}
use Rattle.panel_search.proofs.sharing.SharingSearch.+sharing.Goals as goal
use Rattle.panel_search.proofs.sharing.SharingSearch.+sharing.Goals.{enter-After-children, enter-After-keep, enter-After-most, try_child-After-deref-2, try_child-After-weights_allow}

-- ---- children

pub children-returns-then-end-low : goal.children-returns-then-end-low
children-returns-then-end-low g t c =
    let all = c.args.terms.now.classes.now in let closed = c.args.terms.now.closed.now in let row = c.args.terms.now.row.now in let self = c.args.self.now.search in let depth = c.args.depth in
    let front = take depth self.counts.items in
    let long = front_length depth self.counts.items (length all.classes) c.requires.stands.places c.requires.stands.within in
    let now = pricing_of self in (
      passed_over (weight_in row.a) g.S.Scope.priced (children_within all closed row depth front c.args.low c.args.end) (below_children all closed row c.requires.searchable c.requires.entries depth front (counts_below c.args.low c.args.end)) now now c.args.self.now.seen
          (children_part all closed row c.requires.searchable c.requires.entries depth front (counts_below c.args.low c.args.end) long c.requires.below) c.requires.bounded.stands c.requires.bounded.no_less
          (children_none all closed row depth front c.args.low c.args.end now (omega (arith, c.if-end-low.true))) refl,
      refl,
      refl,
      c.requires.few,
      c.requires.stands,
    )

pub children-returns-in_err-try_child : goal.children-returns-in_err-try_child
children-returns-in_err-try_child g t c =
    let all = c.args.terms.now.classes.now in let closed = c.args.terms.now.closed.now in let row = c.args.terms.now.row.now in let self = c.args.self.now.search in let depth = c.args.depth in
    let front = take depth self.counts.items in let low = c.args.low in let end = c.args.end in
    let long = front_length depth self.counts.items (length all.classes) c.requires.stands.places c.requires.stands.within in
    let next = counts_below low (end - 1) in
    goes_err all closed row depth _ g.S.Scope.priced _ self c.args.self.now.seen _ c.try_child.new.self.search c.try_child.new.self.seen c.from_residual.ensures.0
    (subst (λ counts. Exceeds (children_best all closed row (drop (depth + 1) all.classes) front counts) (pricing_of self) self.nodes) (sym (below_next low end (omega (arith, c.if-end-low.false))))
    (first_exceeds (weight_in row.a) (child_at all closed row depth front (end - 1)) (children_best all closed row (drop (depth + 1) all.classes) front next)
    (below_front all closed row c.requires.searchable c.requires.entries (depth + 1) (front ++ (end - 1) ∷ [])) (below_children all closed row c.requires.searchable c.requires.entries depth front next)
    (child_part all closed row c.requires.searchable c.requires.entries depth (end - 1) front long c.requires.below) (children_part all closed row c.requires.searchable c.requires.entries depth front next long c.requires.below)
    (pricing_of self) self.nodes c.in_err-try_child.ensures))

pub children-returns : goal.children-returns
children-returns g t c =
    let all = c.args.terms.now.classes.now in let closed = c.args.terms.now.closed.now in let row = c.args.terms.now.row.now in let self = c.args.self.now.search in let depth = c.args.depth in
    let front = take depth self.counts.items in let low = c.args.low in let end = c.args.end in
    let later = drop (depth + 1) all.classes in
    let long = front_length depth self.counts.items (length all.classes) c.requires.stands.places c.requires.stands.within in
    let next = counts_below low (end - 1) in
    let steps = c.in_ok-try_child.ensures in
    let mid = c.try_child.new.self in
    let end_is = c.children.new.self in
    subst (λ counts. Goes all closed row depth later g.S.Scope.priced (children_best all closed row later front counts) self c.args.self.now.seen c.children.result end_is.search end_is.seen)
    (sym (below_next low end (omega (arith, c.if-end-low.false))))
    (goes_on (weight_in row.a) (child_at all closed row depth front (end - 1)) (children_best all closed row later front next)
    (below_front all closed row c.requires.searchable c.requires.entries (depth + 1) (front ++ (end - 1) ∷ [])) (below_children all closed row c.requires.searchable c.requires.entries depth front next)
    (child_part all closed row c.requires.searchable c.requires.entries depth (end - 1) front long c.requires.below) (children_part all closed row c.requires.searchable c.requires.entries depth front next long c.requires.below)
    all closed row depth later g.S.Scope.priced self mid.search end_is.search c.args.self.now.seen mid.seen end_is.seen c.children.result steps.0 steps.1 steps.2
    (subst (λ f. Goes all closed row depth later g.S.Scope.priced (children_best all closed row later f next) mid.search mid.seen c.children.result end_is.search end_is.seen) steps.1 c.children.ensures))

-- ---- enter

pub enter-returns-in_err-spend : goal.enter-returns-in_err-spend
enter-returns-in_err-spend g t c =
    let all = c.args.terms.now.classes.now in let closed = c.args.terms.now.closed.now in let row = c.args.terms.now.row.now in let self = c.args.self.now.search in let depth = c.args.depth in
    goes_err all closed row depth _ g.S.Scope.priced _ self c.args.self.now.seen _ _ _ c.from_residual.ensures.0
    (spent_here all closed row (drop depth all.classes) (take depth self.counts.items) (pricing_of self) self.nodes c.requires.live c.in_err-spend.ensures.err)

-- a front of all classes is kept
module _ (g : _) (t : ℕ) (c : enter-After-keep g t) where
  end : c.args.depth ≡ length c.args.terms.now.classes.now.classes
  end = omega (arith, c.if-depth-classes.true, ap length c.classes.ensures)

  items : c.spend.new.self.counts.items ≡ c.args.self.now.search.counts.items
  items = ap (λ search. search.counts.items) c.in_ok-spend.ensures.visits

  whole : take c.args.depth c.args.self.now.search.counts.items ≡ c.args.self.now.search.counts.items
  whole = whole_front c.args.depth c.args.self.now.search.counts.items (length c.args.terms.now.classes.now.classes) c.requires.stands.places end

  heavy : Qualifies c.args.terms.now.classes.now c.args.terms.now.closed.now c.args.terms.now.row.now c.args.self.now.search.counts.items × (c.args.self.now.search.floor <ℤ weight_in c.args.terms.now.row.now.a c.args.self.now.search.counts.items)
  heavy =
      let all = c.args.terms.now.classes.now in let closed = c.args.terms.now.closed.now in let row = c.args.terms.now.row.now in let self = c.args.self.now.search in
      qualifies all closed row self.floor self.counts.items (subst (IsFront all) whole c.requires.front) c.requires.stands.places (ap (is_live_above all closed row self.floor) (sym whole) ∙ c.requires.live)
      (subst (λ p. p.row.b ≤ℤ self.floor) c.requires.priced c.requires.bounded.above)

  floor : c.keep.new.self.floor ≡ weight_in c.args.terms.now.row.now.a c.args.self.now.search.counts.items
  floor = ap (λ now. now.floor) c.keep.ensures.pricing ∙ ap (weight_in c.args.terms.now.row.now.a) items

pub enter-tell-requires-clause-positive : goal.enter-tell-requires-clause-positive
enter-tell-requires-clause-positive g t c =
    let context = (goal.at.enter-tell-requires-clause-positive g t c).After-keep in
    let heavier = (heavy g t context).1 in let same = floor g t context in let above = c.requires.bounded.no_less in
    omega (arith, ints)

pub enter-tell-requires-clause-beaten : goal.enter-tell-requires-clause-beaten
enter-tell-requires-clause-beaten g t c =
    let context = (goal.at.enter-tell-requires-clause-beaten g t c).After-keep in
    let same = floor g t context in
    λ n lt. inr (subst (λ p. IsBeaten p n) (sym c.requires.priced) (beats (priced_of c.args.terms.now) c.args.self.now.search.counts.items (heavy g t context).0 n (omega (arith, ints))))

pub enter-returns-then-depth-classes : goal.enter-returns-then-depth-classes
enter-returns-then-depth-classes g t c =
    let all = c.args.terms.now.classes.now in let closed = c.args.terms.now.closed.now in let row = c.args.terms.now.row.now in let self = c.args.self.now.search in let depth = c.args.depth in
    let context = (goal.at.enter-returns-then-depth-classes g t c).After-keep in
    let front = take depth self.counts.items in
    let long = front_length depth self.counts.items (length all.classes) c.requires.stands.places c.requires.stands.within in
    let spent = c.in_ok-spend.ensures.visits in
    let kept_there : BestSearch → Pricing = λ search. record { visits = search.visits; floor = weight_in row.a search.counts.items; kept = Some search.counts.items } in
    let counts = c.keep.ensures.counts ∙ ap (λ search. search.counts) spent in
    let made : pricing_of c.keep.new.self ≡ kept_whole all closed row front (visited (pricing_of self)) =
    c.keep.ensures.pricing ∙ ap kept_there spent ∙ ap (λ items. kept_whole all closed row items (visited (pricing_of self))) (sym (whole g t context)) in (
      keeps_whole all closed row g.S.Scope.priced depth front (pricing_of self) (pricing_of c.keep.new.self) c.args.self.now.seen (below_front all closed row c.requires.searchable c.requires.entries depth front)
          (front_part all closed row c.requires.searchable c.requires.entries depth front long c.requires.stands.within) (end g t context) c.requires.bounded c.requires.live made,
      ap (λ counts. take depth counts.items) counts,
      c.keep.ensures.nodes ∙ ap (λ search. search.nodes) spent,
      omega (arith, ap (λ now. now.visits) made, c.in_ok-spend.ensures.ok),
      stands_kept all closed row depth _ self c.keep.new.self c.requires.stands counts c.keep.ensures.kept_places (c.keep.ensures.tally ∙ ap (λ search. search.tally) spent) (c.keep.ensures.priced ∙ ap (λ search. search.priced) spent)
          (c.keep.ensures.closed ∙ ap (λ search. search.closed) spent),
    )

-- the class that the code reads at `depth` is the next class of the front that is entered, and has at most 4,000 members
module _ (g : _) (t : ℕ) (c : enter-After-most g t) where
  below : c.args.depth < length c.args.terms.now.classes.now.classes
  below = omega (arith, c.requires.stands.within, c.if-depth-classes.false, ap length c.classes.ensures)

  stands : Stands c.args.terms.now.classes.now c.args.depth c.index-classes-depth.result
  stands = stands_there c.args.terms.now.classes.now c.args.depth _ c.index-classes-depth.result below c.classes-2.ensures c.index-classes-depth.is

  limits : (c.index-classes-depth.result.least ≤ c.index-classes-depth.result.most) × (c.index-classes-depth.result.most ≤ length c.index-classes-depth.result.members) × (length c.index-classes-depth.result.members ≤ 4000)
  limits = class_limits c.args.terms.now.classes.now c.args.depth c.index-classes-depth.result c.facts.ensures stands

  counts : take c.args.depth c.spend.new.self.counts.items ≡ take c.args.depth c.args.self.now.search.counts.items
  counts = ap (λ search. take c.args.depth search.counts.items) c.in_ok-spend.ensures.visits

  spent : pricing_of c.spend.new.self ≡ visited (pricing_of c.args.self.now.search)
  spent = ap pricing_of c.in_ok-spend.ensures.visits

-- which children the code tries
module _ (g : _) (t : ℕ) (c : enter-After-children g t) (next : Stands c.args.terms.now.classes.now c.args.depth c.index-classes-depth.result) (ordered : c.index-classes-depth.result.least ≤ c.index-classes-depth.result.most)
    (counts : take c.args.depth c.spend.new.self.counts.items ≡ take c.args.depth c.args.self.now.search.counts.items) where
  tried : LiveBetween c.args.terms.now.classes.now (take c.args.depth c.args.self.now.search.counts.items) c.index-classes-depth.result c.range-low.result.0 c.range-low.result.1
  tried =
      let all = c.args.terms.now.classes.now in let depth = c.args.depth in let class = c.index-classes-depth.result in
      between all (take depth c.args.self.now.search.counts.items) (take depth c.deref-2.result.now) class c.least.result c.most.result c.range-low.result.0 c.range-low.result.1 (ap (take depth) c.deref-2.ensures.value ∙ counts) c.least.ensures c.most.ensures
      c.range-low.ensures.inside c.range-low.ensures.outside

  due_is : (now : Pricing) → now.floor ≤ℤ c.args.self.now.search.floor →
      child_best c.args.terms.now.classes.now c.args.terms.now.closed.now c.args.terms.now.row.now (drop c.args.depth c.args.terms.now.classes.now.classes) (take c.args.depth c.args.self.now.search.counts.items) now
      ≡ children_within c.args.terms.now.classes.now c.args.terms.now.closed.now c.args.terms.now.row.now c.args.depth (take c.args.depth c.args.self.now.search.counts.items) c.range-low.result.0 c.range-low.result.1 (visited now)
  due_is = with_children c.args.terms.now.classes.now c.args.terms.now.closed.now c.args.terms.now.row.now c.args.self.now.search.floor c.args.depth c.index-classes-depth.result (take c.args.depth c.args.self.now.search.counts.items)
      c.range-low.result.0 c.range-low.result.1 next ordered tried c.requires.live

pub enter-children-requires : goal.enter-children-requires
enter-children-requires g t c κs within =
    let all = c.args.terms.now.classes.now in let closed = c.args.terms.now.closed.now in let row = c.args.terms.now.row.now in let class = c.index-classes-depth.result in let self = c.args.self.now.search in let depth = c.args.depth in
    let items = c.spend.new.self.counts.items in
    let next = (goal.at.enter-children-requires g t c).After-most in let narrow = limits g t next in
    let front = take depth self.counts.items in
    let long = front_length depth self.counts.items (length all.classes) c.requires.stands.places c.requires.stands.within in
    let spent = c.in_ok-spend.ensures.visits in
    let kept = ap (λ search. search.counts.items) spent in
    let same = ap (take depth) kept in
    let live_between = between all front (take depth c.deref-2.result.now) class c.least.result c.most.result c.range-low.result.0 c.range-low.result.1 (ap (take depth) c.deref-2.ensures.value ∙ same) c.least.ensures c.most.ensures
    c.range-low.ensures.inside c.range-low.ensures.outside in
    let can : CanTakeWithin all depth c.range-low.result.0 c.range-low.result.1 = λ count l m other e.
    let members = ap (λ class. length class.members) (same_class all depth class other (stands g t next) e) in
    omega (arith, (c.range-low.ensures.inside count l m).1, c.most.ensures, narrow.1, members) in
    let live : LiveWithin all (take depth items) c.range-low.result.0 c.range-low.result.1 = λ count l m.
    ap (λ items. is_reachable all (take depth items ++ count ∷ [])) (sym c.deref-2.ensures.value) ∙ (c.range-low.ensures.inside count l m).2 in
    let fronts : FrontsWithin all (take depth items) c.range-low.result.0 c.range-low.result.1 =
    subst (λ f. FrontsWithin all f c.range-low.result.0 c.range-low.result.1) (sym same) (fronts_next all depth class front _ _ c.requires.front long (stands g t next) live_between) in
    let bounded = subst (λ floor. IsBounded g.S.Scope.priced floor c.args.self.now.seen) (sym (ap (λ search. search.floor) spent)) c.requires.bounded in (
      search rules,
      (
        search rules,
        (
          c.requires.terms,
          (
            c.requires.entries,
            (
              c.requires.searchable,
              (
                c.requires.priced,
                (
                  bounded,
                  (
                    omega (arith, c.in_ok-spend.ensures.ok, ap (λ search. search.visits) spent, ap (λ search. search.nodes) spent),
                    (
                      below g t next,
                      (
                        can,
                        (
                          omega (arith, c.range-low.ensures.until, c.most.ensures, narrow.1, narrow.2),
                          (
                            live,
                            (
                              fronts,
                              stands_with all closed row depth _ _ self _ c.requires.stands kept (ap (λ search. search.kept.items) spent) (ap (λ search. search.priced) spent) (ap (λ search. search.closed.items) spent)
                                  (from_front_more all depth _ self.counts.items _ (c.deref.ensures.value ∙ kept) c.requires.stands.places c.requires.stands.within c.begin_class.ensures),
                            ),
                          ),
                        ),
                      ),
                    ),
                  ),
                ),
              ),
            ),
          ),
        ),
      ),
    )

pub enter-returns-in_err-children : goal.enter-returns-in_err-children
enter-returns-in_err-children g t c =
    let all = c.args.terms.now.classes.now in let closed = c.args.terms.now.closed.now in let row = c.args.terms.now.row.now in let self = c.args.self.now.search in let depth = c.args.depth in
    let next = (goal.at.enter-returns-in_err-children g t c).After-most in
    let front = take depth self.counts.items in
    let long = front_length depth self.counts.items (length all.classes) c.requires.stands.places c.requires.stands.within in
    let part = children_part all closed row c.requires.searchable c.requires.entries depth front (counts_below c.range-low.result.0 c.range-low.result.1) long (below g t next) in
    let due = due_is g t (goal.at.enter-returns-in_err-children g t c).After-children (stands g t next) (limits g t next).0 (counts g t next) in
    let inner = children_within all closed row depth front c.range-low.result.0 c.range-low.result.1 in
    let nodes = ap (λ search. search.nodes) c.in_ok-spend.ensures.visits in
    let exceeds : Exceeds inner (visited (pricing_of self)) self.nodes =
    subst (λ n. Exceeds inner (visited (pricing_of self)) n) nodes
    (subst (λ now. Exceeds inner now c.spend.new.self.nodes) (spent g t next)
    (subst (λ f. Exceeds (children_within all closed row depth f c.range-low.result.0 c.range-low.result.1) (pricing_of c.spend.new.self) c.spend.new.self.nodes) (counts g t next) c.in_err-children.ensures)) in
    goes_err all closed row depth _ g.S.Scope.priced _ self c.args.self.now.seen _ c.children.new.self.search c.children.new.self.seen c.from_residual-in_err-children.ensures.0
    (entered_exceeds (child_best all closed row (drop depth all.classes) front) inner (pricing_of self) part.shift due self.nodes exceeds)

pub enter-returns : goal.enter-returns
enter-returns g t c =
    let all = c.args.terms.now.classes.now in let closed = c.args.terms.now.closed.now in let row = c.args.terms.now.row.now in let self = c.args.self.now.search in let depth = c.args.depth in
    let next = (goal.at.enter-returns g t c).After-most in
    let front = take depth self.counts.items in
    let long = front_length depth self.counts.items (length all.classes) c.requires.stands.places c.requires.stands.within in
    let part = children_part all closed row c.requires.searchable c.requires.entries depth front (counts_below c.range-low.result.0 c.range-low.result.1) long (below g t next) in
    let due = due_is g t (goal.at.enter-returns g t c).After-children (stands g t next) (limits g t next).0 (counts g t next) in
    let inner = children_within all closed row depth front c.range-low.result.0 c.range-low.result.1 in
    let nodes = ap (λ search. search.nodes) c.in_ok-spend.ensures.visits in
    let steps = c.in_ok-children.ensures in
    let after = c.children.new.self in
    let shares : Shares g.S.Scope.priced inner (visited (pricing_of self)) c.args.self.now.seen (pricing_of after.search) after.seen =
    subst (λ now. Shares g.S.Scope.priced inner now c.args.self.now.seen (pricing_of after.search) after.seen) (spent g t next)
    (subst (λ f. Shares g.S.Scope.priced (children_within all closed row depth f c.range-low.result.0 c.range-low.result.1) (pricing_of c.spend.new.self) c.args.self.now.seen (pricing_of after.search) after.seen) (counts g t next) steps.0) in (
      entered (child_best all closed row (drop depth all.classes) front) inner (pricing_of self) part.shift due g.S.Scope.priced (pricing_of after.search) c.args.self.now.seen after.seen shares,
      steps.1 ∙ counts g t next,
      steps.2 ∙ nodes,
      omega (arith, steps.3, nodes),
      stands_with all closed row depth _ _ after.search _ steps.4 refl refl refl refl (from_front all depth _ after.search.counts.items _ c.deref-3.ensures.value steps.4.places steps.4.within c.end_class.ensures),
    )

-- ---- try_child

-- the search has loaded the word, and the weights tell whether the child is live
module _ (g : _) (t : ℕ) (c : try_child-After-weights_allow g t) where
  loaded_items : c.look.new.self.search.counts.items ≡ c.args.self.now.search.counts.items
  loaded_items = ap (λ search. search.counts.items) c.look.ensures.search

  bounded : IsBounded g.S.Scope.priced c.look.new.self.search.floor c.look.new.self.seen
  bounded = bounded_on g.S.Scope.priced (λ now. now) (pricing_of c.args.self.now.search) (pricing_of c.look.new.self.search) c.args.self.now.seen c.look.new.self.seen c.requires.bounded c.look.ensures.shares

  long : length (take c.args.depth c.args.self.now.search.counts.items) ≡ c.args.depth
  long = front_length c.args.depth c.args.self.now.search.counts.items (length c.args.terms.now.classes.now.classes) c.requires.stands.places c.requires.stands.within

  abbrev child : List ℕ
  child = take c.args.depth c.args.self.now.search.counts.items ++ c.args.count ∷ []

  abbrev due : Pricing → Pricing
  due = child_best c.args.terms.now.classes.now c.args.terms.now.closed.now c.args.terms.now.row.now (drop (c.args.depth + 1) c.args.terms.now.classes.now.classes) child

  abbrev gone_through : List (List ℕ)
  gone_through = below_front c.args.terms.now.classes.now c.args.terms.now.closed.now c.args.terms.now.row.now c.requires.searchable c.requires.entries (c.args.depth + 1) child

  part : IsSearch (weight_in c.args.terms.now.row.now.a) due gone_through
  part = child_part c.args.terms.now.classes.now c.args.terms.now.closed.now c.args.terms.now.row.now c.requires.searchable c.requires.entries c.args.depth c.args.count (take c.args.depth c.args.self.now.search.counts.items) long c.requires.below

  live : is_live_above c.args.terms.now.classes.now c.args.terms.now.closed.now c.args.terms.now.row.now c.look.new.self.search.floor child ≡ c.weights_allow.result
  live =
      let all = c.args.terms.now.classes.now in
      ap (λ items. is_live_above all c.args.terms.now.closed.now c.args.terms.now.row.now c.look.new.self.search.floor (take c.args.depth items ++ c.args.count ∷ [])) (sym loaded_items)
      ∙ live_is all c.args.terms.now.closed.now c.args.terms.now.row.now c.look.new.self.search.floor (take c.args.depth c.look.new.self.search.counts.items ++ c.args.count ∷ []) c.weights_allow.result
      (ap (λ items. is_reachable all (take c.args.depth items ++ c.args.count ∷ [])) loaded_items ∙ c.requires.live) c.weights_allow.ensures.value

  -- what comes after the load, with the load before it
  loaded_first : (after : Pricing) (last : ℕ) → Shares g.S.Scope.priced due (pricing_of c.look.new.self.search) c.look.new.self.seen after last → Shares g.S.Scope.priced due (pricing_of c.args.self.now.search) c.args.self.now.seen after last
  loaded_first after last shares =
      then (weight_in c.args.terms.now.row.now.a) (λ now. now) due [] gone_through (no_part (weight_in c.args.terms.now.row.now.a)) part g.S.Scope.priced (pricing_of c.args.self.now.search) (pricing_of c.look.new.self.search) after
      c.args.self.now.seen c.look.new.self.seen last c.look.ensures.shares shares

  loaded_exceeds : (nodes : ℕ) → Exceeds due (pricing_of c.look.new.self.search) nodes → Exceeds due (pricing_of c.args.self.now.search) nodes
  loaded_exceeds nodes exceeds =
      then_exceeds (weight_in c.args.terms.now.row.now.a) (λ now. now) due [] gone_through (no_part (weight_in c.args.terms.now.row.now.a)) part g.S.Scope.priced (pricing_of c.args.self.now.search) (pricing_of c.look.new.self.search)
      c.args.self.now.seen c.look.new.self.seen nodes c.look.ensures.shares exceeds

  allowed_counts : c.weights_allow.new.self.counts.items ≡ c.args.self.now.search.counts.items
  allowed_counts = ap (λ counts. counts.items) c.weights_allow.ensures.counts ∙ loaded_items

  nodes : c.weights_allow.new.self.nodes ≡ c.args.self.now.search.nodes
  nodes = c.weights_allow.ensures.nodes ∙ ap (λ search. search.nodes) c.look.ensures.search

  visits : c.weights_allow.new.self.visits ≡ c.args.self.now.search.visits
  visits = ap (λ now. now.visits) c.weights_allow.ensures.pricing ∙ ap (λ search. search.visits) c.look.ensures.search

  placed_child : take (c.args.depth + 1) (set c.weights_allow.new.self.counts.items c.args.depth c.args.count) ≡ child
  placed_child =
      ap (λ xs. take (c.args.depth + 1) (set xs c.args.depth c.args.count)) allowed_counts ∙ placed c.args.depth c.args.count c.args.self.now.search.counts.items (omega (arith, c.requires.below, c.requires.stands.places))

pub try_child-returns-then-not-weights_allow : goal.try_child-returns-then-not-weights_allow
try_child-returns-then-not-weights_allow g t c =
    let all = c.args.terms.now.classes.now in let closed = c.args.terms.now.closed.now in let row = c.args.terms.now.row.now in let self = c.args.self.now.search in let depth = c.args.depth in
    let context = (goal.at.try_child-returns-then-not-weights_allow g t c).After-weights_allow in
    let here = bounded g t context in
    let mid = c.look.new.self in
    let dead = is_passed all closed row (drop (depth + 1) all.classes) (child g t context) (pricing_of mid.search) (live g t context ∙ c.if-not-weights_allow.true) in (
      loaded_first g t context (pricing_of c.weights_allow.new.self) mid.seen
          (passed_over (weight_in row.a) g.S.Scope.priced (due g t context) (gone_through g t context) (pricing_of mid.search) (pricing_of c.weights_allow.new.self) mid.seen (part g t context) here.stands here.no_less dead c.weights_allow.ensures.pricing),
      ap (take depth) (allowed_counts g t context),
      nodes g t context,
      omega (arith, visits g t context, c.requires.few),
      c.weights_allow.ensures.stands,
    )

pub try_child-enter-requires : goal.try_child-enter-requires
try_child-enter-requires g t c κs within =
    let all = c.args.terms.now.classes.now in let closed = c.args.terms.now.closed.now in let row = c.args.terms.now.row.now in let self = c.args.self.now.search in let depth = c.args.depth in let count = c.args.count in
    let context = (goal.at.try_child-enter-requires g t c).After-weights_allow in
    let items = allowed_counts g t context in
    let there = placed_child g t context in
    let floor = ap (λ now. now.floor) c.weights_allow.ensures.pricing in
    let front = take depth self.counts.items in
    let weighs = c.weights_allow.ensures.priced c.if-not-weights_allow.false in
    let weigh_each = c.weights_allow.ensures.closed c.if-not-weights_allow.false in
    let from = ap (take depth) (ap (λ search. search.counts.items) c.look.ensures.search) in (
      search rules,
      (
        search rules,
        (
          c.requires.terms,
          (
            c.requires.entries,
            (
              c.requires.searchable,
              (
                c.requires.priced,
                (
                  subst (λ floor. IsBounded g.S.Scope.priced floor c.look.new.self.seen) (sym floor) (bounded g t context),
                  (
                    omega (arith, c.requires.few, visits g t context, nodes g t context),
                    (
                      ap (λ floor. is_live_above all closed row floor (take (depth + 1) (set c.weights_allow.new.self.counts.items depth count))) floor ∙ ap (is_live_above all closed row c.look.new.self.search.floor) there ∙ live g t context ∙ c.if-not-weights_allow.false,
                      (
                        subst (IsFront all) (sym there) c.requires.front,
                        child_stands all closed row depth count _ self _ c.requires.stands c.requires.below c.requires.can_take c.requires.live (ap (λ xs. set xs depth count) items) c.weights_allow.ensures.stands.kept_places
                            (child_tracks all depth count _ self.counts.items _ (c.deref.ensures.value ∙ items) c.requires.stands.places c.requires.stands.within c.take.ensures)
                            (subst (λ f. Weighs all row (f ++ count ∷ []) c.weights_allow.new.self.priced) from weighs) (subst (λ f. WeighEach all closed (f ++ count ∷ []) c.weights_allow.new.self.closed.items) from weigh_each),
                      ),
                    ),
                  ),
                ),
              ),
            ),
          ),
        ),
      ),
    )

pub try_child-returns-in_err-enter : goal.try_child-returns-in_err-enter
try_child-returns-in_err-enter g t c =
    let all = c.args.terms.now.classes.now in let closed = c.args.terms.now.closed.now in let row = c.args.terms.now.row.now in let self = c.args.self.now.search in let depth = c.args.depth in
    let context = (goal.at.try_child-returns-in_err-enter g t c).After-weights_allow in
    let later = drop (depth + 1) all.classes in
    let mid = c.look.new.self in
    let allowed = c.weights_allow.new.self in
    let exceeds : Exceeds (due g t context) (pricing_of mid.search) self.nodes =
    subst (λ n. Exceeds (due g t context) (pricing_of mid.search) n) (nodes g t context)
    (subst (λ now. Exceeds (due g t context) now allowed.nodes) c.weights_allow.ensures.pricing
    (subst (λ f. Exceeds (child_best all closed row later f) (pricing_of allowed) allowed.nodes) (placed_child g t context) c.in_err-enter.ensures)) in
    goes_err all closed row depth _ g.S.Scope.priced _ self c.args.self.now.seen _ _ _ c.from_residual.ensures.0 (loaded_exceeds g t context self.nodes exceeds)

-- the search went on to the child, and is at the child again
module _ (g : _) (t : ℕ) (c : try_child-After-deref-2 g t) (placed_there : take (c.args.depth + 1) (set c.weights_allow.new.self.counts.items c.args.depth c.args.count) ≡ take c.args.depth c.args.self.now.search.counts.items ++ c.args.count ∷ []) where
  long_front : length (take c.args.depth c.args.self.now.search.counts.items) ≡ c.args.depth
  long_front = front_length c.args.depth c.args.self.now.search.counts.items (length c.args.terms.now.classes.now.classes) c.requires.stands.places c.requires.stands.within

  there : take (c.args.depth + 1) c.enter.new.self.search.counts.items ≡ take c.args.depth c.args.self.now.search.counts.items ++ c.args.count ∷ []
  there = c.in_ok-enter.ensures.1 ∙ placed_there

  same : take c.args.depth c.enter.new.self.search.counts.items ≡ take c.args.depth c.args.self.now.search.counts.items
  same = front_of c.args.depth c.enter.new.self.search.counts.items (take c.args.depth c.args.self.now.search.counts.items) c.args.count long_front there

pub try_child-give_back-requires-clause-stands : goal.try_child-give_back-requires-clause-stands
try_child-give_back-requires-clause-stands g t c =
    let all = c.args.terms.now.classes.now in let depth = c.args.depth in
    let context = (goal.at.try_child-give_back-requires-clause-stands g t c).After-weights_allow in
    let after = (goal.at.try_child-give_back-requires-clause-stands g t c).After-deref-2 in
    let at = placed_child g t context in
    at_child all depth _ (take depth c.args.self.now.search.counts.items) c.args.count _ (long_front g t after at) (ap (take depth) c.deref-2.ensures.value ∙ same g t after at)
    (subst (λ f. Tracks all f (drop (depth + 1) all.classes) c.enter.new.self.search.tally) (there g t after at) c.in_ok-enter.ensures.4.tally)

pub try_child-returns : goal.try_child-returns
try_child-returns g t c =
    let all = c.args.terms.now.classes.now in let closed = c.args.terms.now.closed.now in let row = c.args.terms.now.row.now in let self = c.args.self.now.search in let depth = c.args.depth in let count = c.args.count in
    let later = drop (depth + 1) all.classes in
    let context = (goal.at.try_child-returns g t c).After-weights_allow in
    let after = (goal.at.try_child-returns g t c).After-deref-2 in
    let at = placed_child g t context in
    let mid = c.look.new.self in
    let ended = c.enter.new.self in
    let steps = c.in_ok-enter.ensures in
    let shares : Shares g.S.Scope.priced (due g t context) (pricing_of mid.search) mid.seen (pricing_of ended.search) ended.seen =
    subst (λ now. Shares g.S.Scope.priced (due g t context) now mid.seen (pricing_of ended.search) ended.seen) c.weights_allow.ensures.pricing
    (subst (λ f. Shares g.S.Scope.priced (child_best all closed row later f) (pricing_of c.weights_allow.new.self) mid.seen (pricing_of ended.search) ended.seen) at steps.0) in (
      loaded_first g t context (pricing_of ended.search) ended.seen shares,
      same g t after at,
      steps.2 ∙ nodes g t context,
      omega (arith, steps.3, nodes g t context),
      parent_stands all closed row depth count later self ended.search _ c.requires.stands steps.4 (there g t after at) (same g t after at) refl refl refl refl
          (from_front_more all depth _ ended.search.counts.items _ c.deref-2.ensures.value steps.4.places c.requires.stands.within c.give_back.ensures),
    )
