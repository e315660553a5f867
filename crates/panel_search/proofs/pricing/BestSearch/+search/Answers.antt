use Rattle.std.proofs.Common.{rules, ◌≡◌, ℕ, ◌+◌, ◌-◌, ◌<◌, ◌≤◌, [], ◌∷◌, ◌++◌, length, take, drop, set, refl, sym, ap, ◌∙◌, arith, subst}
use Rattle.define_searches.specs.Fronts.{is_reachable}
use Rattle.define_searches.specs.Visits.{enter_best}
use Rattle.panel_search.specs.Front.{Tracks}
use Rattle.panel_search.specs.Pricing.{pricing_of, CanTakeWithin}
use Rattle.panel_search.specs.Steps.{LiveWithin}
use Rattle.define_searches.specs.Front.{Stands}
use Rattle.define_searches.proofs.Tracking.{stands_there}
use Rattle.define_searches.proofs.Fronts.{front_length, from_front, from_front_more, placed, front_of, at_child, same_class, class_limits, child_tracks}
use Rattle.panel_search.proofs.Ranges.{between}
use Rattle.panel_search.proofs.BestStepping.{moves_err, moves_same, children_within, child_within, children_none, children_next, enter_more, enter_children, stands_with, child_stands, parent_stands, child_due}
use Rattle.panel_search.proofs.pricing.BestSearch.+search.Goals as goal
use Rattle.panel_search.proofs.pricing.BestSearch.+search.Goals.{enter-After-children, enter-After-most, try_child-After-deref-2}

pub children-returns-then-end-low : goal.children-returns-then-end-low
children-returns-then-end-low t c =
    let all = c.args.terms.now.classes.now in let self = c.args.self.now in let depth = c.args.depth in
    let due = children_none all c.args.terms.now.closed.now c.args.terms.now.row.now depth (take depth self.counts.items) c.args.low c.args.end (pricing_of self) (omega (arith, c.if-end-low.true)) in
    (sym due, refl, refl, omega (arith, ap (λ now. now.visits) due, c.requires.few), c.requires.stands)

pub children-returns-in_err-try_child : goal.children-returns-in_err-try_child
children-returns-in_err-try_child t c =
    let all = c.args.terms.now.classes.now in let self = c.args.self.now in let depth = c.args.depth in
    moves_err all c.args.terms.now.closed.now c.args.terms.now.row.now depth _ _ _ self.nodes _ c.try_child.new.self c.from_residual.ensures.0
    (omega (arith, c.in_err-try_child.ensures, child_within all c.args.terms.now.closed.now c.args.terms.now.row.now depth (take depth self.counts.items) c.args.low c.args.end (pricing_of self) (omega (arith, c.if-end-low.false))))

pub children-returns : goal.children-returns
children-returns t c =
    let all = c.args.terms.now.classes.now in let self = c.args.self.now in let depth = c.args.depth in let closed = c.args.terms.now.closed.now in let row = c.args.terms.now.row.now in let low = c.args.low in
    let next = children_next all closed row depth (take depth self.counts.items) low c.args.end (pricing_of self) (omega (arith, c.if-end-low.false)) in
    let steps = c.in_ok-try_child.ensures in
    moves_same all closed row depth _ _ _ _ _ _ _ c.children.result c.children.new.self
    (ap (λ front. children_within all closed row depth front low (c.args.end - 1) (pricing_of c.try_child.new.self)) steps.1 ∙ ap (children_within all closed row depth (take depth self.counts.items) low (c.args.end - 1)) steps.0 ∙ sym next)
    steps.1 steps.2 c.children.ensures

pub enter-returns-in_err-spend : goal.enter-returns-in_err-spend
enter-returns-in_err-spend t c =
    let all = c.args.terms.now.classes.now in let self = c.args.self.now in let depth = c.args.depth in
    moves_err all c.args.terms.now.closed.now c.args.terms.now.row.now depth _ _ _ self.nodes _ c.spend.new.self c.from_residual.ensures.0
    (omega (arith, c.in_err-spend.ensures.err, enter_more all c.args.terms.now.closed.now c.args.terms.now.row.now (drop depth all.classes) (take depth self.counts.items) (pricing_of self)))

-- the class that the code reads at `depth` is the next class of the front that is entered, and has at most 4,000 members
module _ (t : ℕ) (c : enter-After-most t) where
  below : c.args.depth < length c.args.terms.now.classes.now.classes
  below = omega (arith, c.requires.stands.within, c.if-depth-classes.false, ap length c.classes.ensures)

  stands : Stands c.args.terms.now.classes.now c.args.depth c.index-classes-depth.result
  stands = stands_there c.args.terms.now.classes.now c.args.depth _ c.index-classes-depth.result below c.classes-2.ensures c.index-classes-depth.is

  limits : (c.index-classes-depth.result.least ≤ c.index-classes-depth.result.most) × (c.index-classes-depth.result.most ≤ length c.index-classes-depth.result.members) × (length c.index-classes-depth.result.members ≤ 4000)
  limits = class_limits c.args.terms.now.classes.now c.args.depth c.index-classes-depth.result c.facts.ensures stands

-- the search of the entered front's live children does what the definition says
module _ (t : ℕ) (c : enter-After-children t) where
  counts : take c.args.depth c.spend.new.self.counts.items ≡ take c.args.depth c.args.self.now.counts.items
  counts = ap (λ search. take c.args.depth search.counts.items) c.in_ok-spend.ensures.visits

  entered : Stands c.args.terms.now.classes.now c.args.depth c.index-classes-depth.result → c.index-classes-depth.result.least ≤ c.index-classes-depth.result.most →
      children_within c.args.terms.now.classes.now c.args.terms.now.closed.now c.args.terms.now.row.now c.args.depth (take c.args.depth c.spend.new.self.counts.items) c.range-low.result.0 c.range-low.result.1 (pricing_of c.spend.new.self)
      ≡ enter_best c.args.terms.now.classes.now c.args.terms.now.closed.now c.args.terms.now.row.now (drop c.args.depth c.args.terms.now.classes.now.classes) (take c.args.depth c.args.self.now.counts.items) (pricing_of c.args.self.now)
  entered next ordered =
      let all = c.args.terms.now.classes.now in let closed = c.args.terms.now.closed.now in let row = c.args.terms.now.row.now in let depth = c.args.depth in
      let class = c.index-classes-depth.result in let low = c.range-low.result.0 in let end = c.range-low.result.1 in let front = take depth c.args.self.now.counts.items in
      let live = between all front (take depth c.deref-2.result.now) class c.least.result c.most.result low end (ap (take depth) c.deref-2.ensures.value ∙ counts) c.least.ensures c.most.ensures c.range-low.ensures.inside c.range-low.ensures.outside in
      let due = enter_children all closed row depth class front low end (pricing_of c.args.self.now) next ordered live in
      ap (λ front. children_within all closed row depth front low end (pricing_of c.spend.new.self)) counts ∙ ap (λ search. children_within all closed row depth front low end (pricing_of search)) c.in_ok-spend.ensures.visits ∙ sym due

pub enter-children-requires : goal.enter-children-requires
enter-children-requires t c =
    let all = c.args.terms.now.classes.now in let class = c.index-classes-depth.result in let self = c.args.self.now in let depth = c.args.depth in let items = c.spend.new.self.counts.items in
    let next = (goal.at.enter-children-requires t c).After-most in let narrow = limits t next in
    let can : CanTakeWithin all depth c.range-low.result.0 c.range-low.result.1 = λ count l m other e.
    let members = ap (λ class. length class.members) (same_class all depth class other (stands t next) e) in
    omega (arith, (c.range-low.ensures.inside count l m).1, c.most.ensures, narrow.1, members) in
    let live : LiveWithin all (take depth items) c.range-low.result.0 c.range-low.result.1 = λ count l m.
    ap (λ items. is_reachable all (take depth items ++ count ∷ [])) (sym c.deref-2.ensures.value) ∙ (c.range-low.ensures.inside count l m).2 in
    let spent = c.in_ok-spend.ensures.visits in
    let kept = ap (λ search. search.counts.items) spent in (
      search rules,
      (
        c.requires.terms,
        (
          omega (arith, c.in_ok-spend.ensures.ok, ap (λ search. search.visits) spent, ap (λ search. search.nodes) spent),
          (
            below t next,
            (
              can,
              (
                omega (arith, c.range-low.ensures.until, c.most.ensures, narrow.1, narrow.2),
                (
                  live,
                  stands_with all c.args.terms.now.closed.now c.args.terms.now.row.now depth _ _ self _ c.requires.stands kept (ap (λ search. search.kept.items) spent) (ap (λ search. search.priced) spent) (ap (λ search. search.closed.items) spent)
                      (from_front_more all depth _ self.counts.items _ (c.deref.ensures.value ∙ kept) c.requires.stands.places c.requires.stands.within c.begin_class.ensures),
                ),
              ),
            ),
          ),
        ),
      ),
    )

pub enter-returns-in_err-children : goal.enter-returns-in_err-children
enter-returns-in_err-children t c =
    let all = c.args.terms.now.classes.now in let closed = c.args.terms.now.closed.now in let row = c.args.terms.now.row.now in
    let next = (goal.at.enter-returns-in_err-children t c).After-most in
    let here = entered t (goal.at.enter-returns-in_err-children t c).After-children (stands t next) (limits t next).0 in
    moves_err all closed row c.args.depth _ _ _ c.args.self.now.nodes _ c.children.new.self c.from_residual-in_err-children.ensures.0
    (omega (arith, c.in_err-children.ensures, ap (λ now. now.visits) here, ap (λ search. search.nodes) c.in_ok-spend.ensures.visits))

pub enter-returns : goal.enter-returns
enter-returns t c =
    let all = c.args.terms.now.classes.now in let closed = c.args.terms.now.closed.now in let row = c.args.terms.now.row.now in let depth = c.args.depth in
    let next = (goal.at.enter-returns t c).After-most in let context = (goal.at.enter-returns t c).After-children in
    let here = entered t context (stands t next) (limits t next).0 in let nodes = ap (λ search. search.nodes) c.in_ok-spend.ensures.visits in
    let steps = c.in_ok-children.ensures in (
      steps.0 ∙ here,
      steps.1 ∙ counts t context,
      steps.2 ∙ nodes,
      omega (arith, steps.3, ap (λ now. now.visits) here, nodes),
      stands_with all closed row depth _ _ c.children.new.self _ steps.4 refl refl refl refl
          (from_front all depth _ c.children.new.self.counts.items _ c.deref-3.ensures.value steps.4.places steps.4.within c.end_class.ensures),
    )

pub try_child-enter-requires : goal.try_child-enter-requires
try_child-enter-requires t c =
    let all = c.args.terms.now.classes.now in let self = c.args.self.now in let depth = c.args.depth in let count = c.args.count in let mid = c.weights_allow.new.self in
    let items = ap (λ counts. counts.items) c.weights_allow.ensures.counts in (
      search rules,
      (
        c.requires.terms,
        (
          omega (arith, c.requires.few, ap (λ now. now.visits) c.weights_allow.ensures.pricing, c.weights_allow.ensures.nodes),
          child_stands all c.args.terms.now.closed.now c.args.terms.now.row.now depth count _ self _ c.requires.stands c.requires.below c.requires.can_take c.requires.live (ap (λ xs. set xs depth count) items) c.weights_allow.ensures.stands.kept_places
              (child_tracks all depth count _ self.counts.items _ (c.deref.ensures.value ∙ items) c.requires.stands.places c.requires.stands.within c.take.ensures)
              (c.weights_allow.ensures.priced c.if-not-weights_allow.false) (c.weights_allow.ensures.closed c.if-not-weights_allow.false),
        ),
      ),
    )

-- the search went on to the child, and is at the child again
module _ (t : ℕ) (c : try_child-After-deref-2 t) where
  long : length (take c.args.depth c.args.self.now.counts.items) ≡ c.args.depth
  long = front_length c.args.depth c.args.self.now.counts.items (length c.args.terms.now.classes.now.classes) c.requires.stands.places c.requires.stands.within

  child : take (c.args.depth + 1) (set c.weights_allow.new.self.counts.items c.args.depth c.args.count) ≡ take c.args.depth c.args.self.now.counts.items ++ c.args.count ∷ []
  child =
      let items = ap (λ counts. counts.items) c.weights_allow.ensures.counts in
      ap (λ xs. take (c.args.depth + 1) (set xs c.args.depth c.args.count)) items ∙ placed c.args.depth c.args.count c.args.self.now.counts.items (omega (arith, c.requires.below, c.requires.stands.places))

  there : take (c.args.depth + 1) c.enter.new.self.counts.items ≡ take c.args.depth c.args.self.now.counts.items ++ c.args.count ∷ []
  there = c.in_ok-enter.ensures.1 ∙ child

  same : take c.args.depth c.enter.new.self.counts.items ≡ take c.args.depth c.args.self.now.counts.items
  same = front_of c.args.depth c.enter.new.self.counts.items (take c.args.depth c.args.self.now.counts.items) c.args.count long there

pub try_child-give_back-requires-clause-stands : goal.try_child-give_back-requires-clause-stands
try_child-give_back-requires-clause-stands t c =
    let all = c.args.terms.now.classes.now in let depth = c.args.depth in
    at_child all depth _ (take depth c.args.self.now.counts.items) c.args.count _ (long t c) (ap (take depth) c.deref-2.ensures.value ∙ same t c)
    (subst (λ f. Tracks all f (drop (depth + 1) all.classes) c.enter.new.self.tally) (there t c) c.in_ok-enter.ensures.4.tally)

pub try_child-returns : goal.try_child-returns
try_child-returns t c =
    let all = c.args.terms.now.classes.now in let self = c.args.self.now in let depth = c.args.depth in let count = c.args.count in let closed = c.args.terms.now.closed.now in let row = c.args.terms.now.row.now in
    let front = take depth self.counts.items in let later = drop (depth + 1) all.classes in
    let context = (goal.at.try_child-returns t c).After-deref-2 in
    let steps = c.in_ok-enter.ensures in
    let due = child_due all closed row later (front ++ count ∷ []) (pricing_of self) c.requires.live (sym c.weights_allow.ensures.value ∙ c.if-not-weights_allow.false) in
    let here = ap (λ f. enter_best all closed row later f (pricing_of c.weights_allow.new.self)) (child t context) ∙ ap (enter_best all closed row later (front ++ count ∷ [])) c.weights_allow.ensures.pricing ∙ sym due in (
      steps.0 ∙ here,
      same t context,
      steps.2 ∙ c.weights_allow.ensures.nodes,
      omega (arith, steps.3, ap (λ now. now.visits) here, c.weights_allow.ensures.nodes),
      parent_stands all closed row depth count later self c.enter.new.self _ c.requires.stands steps.4 (there t context) (same t context) refl refl refl refl
          (from_front_more all depth _ c.enter.new.self.counts.items _ c.deref-2.ensures.value steps.4.places c.requires.stands.within c.give_back.ensures),
    )
