use Rattle.std.proofs.Common.{rules, ◌≡◌, ℕ, ◌+◌, ◌<◌, ◌≤◌, [], ◌∷◌, ◌++◌, length, take, drop, set, None, sym, ap, ◌∙◌, arith, subst}
use Rattle.define_searches.specs.Fronts.{is_reachable}
use Rattle.define_searches.specs.Visits.{enter_first}
use Rattle.panel_search.specs.Front.{Tracks}
use Rattle.panel_search.specs.Steps.{LiveWithin, StandsAt}
use Rattle.define_searches.specs.Front.{Stands}
use Rattle.define_searches.proofs.Fronts.{class_limits, at_front, from_front, from_front_more, front_length, placed, front_of, at_child}
use Rattle.panel_search.proofs.Ranges.{between}
use Rattle.define_searches.proofs.Tracking.{stands_there}
use Rattle.panel_search.proofs.Stepping.{steps_err, steps_true, steps_false, first_spent, first_found, next_steps, children_within, enter_visits, enter_due, child_due}
use Rattle.panel_search.proofs.searching.Search.+search.Goals as goal
use Rattle.panel_search.proofs.searching.Search.+search.Goals.{enter-After-children, enter-After-most, try_child-After-deref-2}

pub children-returns-in_err-try_child : goal.children-returns-in_err-try_child
children-returns-in_err-try_child t c =
    let all = c.args.classes.now in let self = c.args.self.now in
    steps_err all c.args.depth _ _ self _ c.try_child.new.self c.from_residual.ensures.0
    (first_spent all c.args.depth (take c.args.depth self.counts.items) c.args.low c.args.end self.left (omega (arith, c.if-end-low.false)) c.in_err-try_child.ensures)

pub children-returns-then-branch : goal.children-returns-then-branch
children-returns-then-branch t c =
    let all = c.args.classes.now in let self = c.args.self.now in
    let steps = steps_true all c.args.depth (drop (c.args.depth + 1) all.classes) _ _ _ _ c.try_child.new.self c.in_ok-try_child.ensures c.if-branch.true in
    first_found all c.args.depth (take c.args.depth self.counts.items) c.args.low c.args.end self.left _ _ (omega (arith, c.if-end-low.false)) steps.0 steps.1

pub children-returns : goal.children-returns
children-returns t c =
    let all = c.args.classes.now in let self = c.args.self.now in
    let steps = steps_false all c.args.depth (drop (c.args.depth + 1) all.classes) _ _ _ _ c.try_child.new.self c.in_ok-try_child.ensures c.if-branch.false in
    next_steps all c.args.depth c.args.low c.args.end self c.try_child.new.self c.children.result c.children.new.self (omega (arith, c.if-end-low.false)) steps.0 steps.1 steps.2 c.children.ensures

pub enter-returns-in_err-spend : goal.enter-returns-in_err-spend
enter-returns-in_err-spend t c =
    let self = c.args.self.now in
    steps_err c.args.classes.now c.args.depth _ _ self _ c.spend.new.self c.from_residual.ensures.0 (omega (arith, c.in_err-spend.ensures.err, enter_visits c.args.classes.now (drop c.args.depth c.args.classes.now.classes) (take c.args.depth self.counts.items)))

-- the class that the code reads at `depth` is the next class of the front that is entered, and has at most 4,000 members
module _ (t : ℕ) (c : enter-After-most t) where
  below : c.args.depth < length c.args.classes.now.classes
  below = omega (arith, c.requires.within, c.if-depth-classes.false, ap length c.classes.ensures)

  stands : Stands c.args.classes.now c.args.depth c.index-classes-depth.result
  stands = stands_there c.args.classes.now c.args.depth _ c.index-classes-depth.result below c.classes-2.ensures c.index-classes-depth.is

  limits : (c.index-classes-depth.result.least ≤ c.index-classes-depth.result.most) × (c.index-classes-depth.result.most ≤ length c.index-classes-depth.result.members) × (length c.index-classes-depth.result.members ≤ 4000)
  limits = class_limits c.args.classes.now c.args.depth c.index-classes-depth.result c.facts.ensures stands

-- by the definition, entering the front is one visit and then the search of its live children
module _ (t : ℕ) (c : enter-After-children t) where
  counts : take c.args.depth c.spend.new.self.counts.items ≡ take c.args.depth c.args.self.now.counts.items
  counts = ap (λ counts. take c.args.depth counts.items) c.spend.ensures.counts

  entered : Stands c.args.classes.now c.args.depth c.index-classes-depth.result → c.index-classes-depth.result.least ≤ c.index-classes-depth.result.most →
      enter_first c.args.classes.now (drop c.args.depth c.args.classes.now.classes) (take c.args.depth c.args.self.now.counts.items) ≡ record {
        visits = 1 + (children_within c.args.classes.now c.args.depth (take c.args.depth c.spend.new.self.counts.items) c.range-low.result.0 c.range-low.result.1).visits;
        found = (children_within c.args.classes.now c.args.depth (take c.args.depth c.spend.new.self.counts.items) c.range-low.result.0 c.range-low.result.1).found;
      }
  entered next ordered =
      let all = c.args.classes.now in let class = c.index-classes-depth.result in let depth = c.args.depth in let front = take depth c.spend.new.self.counts.items in
      let live = between all front (take depth c.deref-2.result.now) class c.least.result c.most.result c.range-low.result.0 c.range-low.result.1 (ap (take depth) c.deref-2.ensures.value) c.least.ensures c.most.ensures c.range-low.ensures.inside c.range-low.ensures.outside in
      enter_due all depth class (take depth c.args.self.now.counts.items) front c.range-low.result.0 c.range-low.result.1 next ordered counts live

pub enter-children-requires : goal.enter-children-requires
enter-children-requires t c =
    let all = c.args.classes.now in let depth = c.args.depth in let items = c.spend.new.self.counts.items in let next = (goal.at.enter-children-requires t c).After-most in let narrow = limits t next in
    let kept = ap (λ counts. counts.items) c.spend.ensures.counts in
    let places : length items ≡ length all.classes = ap length kept ∙ c.requires.places in
    let live : LiveWithin all (take depth items) c.range-low.result.0 c.range-low.result.1 = λ count l m.
    ap (λ items. is_reachable all (take depth items ++ count ∷ [])) (sym c.deref-2.ensures.value) ∙ (c.range-low.ensures.inside count l m).2 in (
      search rules,
      (
        below t next,
        (
          omega (arith, c.range-low.ensures.until, c.most.ensures, narrow.1, narrow.2),
          (
            live,
            record {
              places = places;
              within = c.requires.within;
              live = ap (λ items. is_reachable all (take depth items)) kept ∙ c.requires.live;
              tally = from_front_more all depth _ items _ c.deref.ensures.value places c.requires.within c.begin_class.ensures;
            },
          ),
        ),
      ),
    )

pub enter-returns-in_err-children : goal.enter-returns-in_err-children
enter-returns-in_err-children t c =
    let all = c.args.classes.now in let self = c.args.self.now in let depth = c.args.depth in
    let next = (goal.at.enter-returns-in_err-children t c).After-most in let here = (goal.at.enter-returns-in_err-children t c).After-children in
    let due = entered t here (stands t next) (limits t next).0 in
    steps_err all depth _ _ self _ c.children.new.self c.from_residual-in_err-children.ensures.0 (rw due (omega (arith, c.in_ok-spend.ensures.ok, c.in_err-children.ensures)))

pub enter-returns-then-branch : goal.enter-returns-then-branch
enter-returns-then-branch t c =
    let all = c.args.classes.now in let depth = c.args.depth in
    let next = (goal.at.enter-returns-then-branch t c).After-most in let here = (goal.at.enter-returns-then-branch t c).After-children in
    let due = entered t here (stands t next) (limits t next).0 in
    let steps = steps_true all depth (drop (depth + 1) all.classes) _ _ _ _ c.children.new.self c.in_ok-children.ensures c.if-branch.true in
    rw due (omega (arith, c.in_ok-spend.ensures.ok, steps.0), steps.1)

pub enter-end_class-requires-clause-stands : goal.enter-end_class-requires-clause-stands
enter-end_class-requires-clause-stands t c =
    let all = c.args.classes.now in
    let steps = steps_false all c.args.depth (drop (c.args.depth + 1) all.classes) _ _ _ _ c.children.new.self c.in_ok-children.ensures c.if-branch.false in
    at_front c.args.classes.now c.args.depth _ c.children.new.self.counts.items _ c.deref-3.ensures.value steps.3.places steps.3.within steps.3.tally

pub enter-returns : goal.enter-returns
enter-returns t c =
    let all = c.args.classes.now in let depth = c.args.depth in
    let next = (goal.at.enter-returns t c).After-most in let here = (goal.at.enter-returns t c).After-children in
    let due = entered t here (stands t next) (limits t next).0 in
    let steps = steps_false all depth (drop (depth + 1) all.classes) _ _ _ _ c.children.new.self c.in_ok-children.ensures c.if-branch.false in
    let none = steps.1 in
    rw due (
      omega (arith, c.in_ok-spend.ensures.ok, steps.0),
      none,
      steps.2 ∙ counts t here,
      record {
        places = steps.3.places;
        within = steps.3.within;
        live = steps.3.live;
        tally = from_front all depth _ c.children.new.self.counts.items _ c.deref-3.ensures.value steps.3.places steps.3.within c.end_class.ensures;
      },
    )

-- the search went on to the child, found nothing, and is at the child again
module _ (t : ℕ) (c : try_child-After-deref-2 t) where
  long : length (take c.args.depth c.args.self.now.counts.items) ≡ c.args.depth
  long = front_length c.args.depth c.args.self.now.counts.items (length c.args.classes.now.classes) c.requires.stands.places c.requires.stands.within

  child : take (c.args.depth + 1) (set c.args.self.now.counts.items c.args.depth c.args.count) ≡ take c.args.depth c.args.self.now.counts.items ++ c.args.count ∷ []
  child = placed c.args.depth c.args.count c.args.self.now.counts.items (omega (arith, c.requires.below, c.requires.stands.places))

  searched : (c.args.self.now.left ≡ c.enter.new.self.left + (enter_first c.args.classes.now (drop (c.args.depth + 1) c.args.classes.now.classes) (take (c.args.depth + 1) (set c.args.self.now.counts.items c.args.depth c.args.count))).visits)
      × ((enter_first c.args.classes.now (drop (c.args.depth + 1) c.args.classes.now.classes) (take (c.args.depth + 1) (set c.args.self.now.counts.items c.args.depth c.args.count))).found ≡ None)
      × (take (c.args.depth + 1) c.enter.new.self.counts.items ≡ take c.args.depth c.args.self.now.counts.items ++ c.args.count ∷ [])
      × StandsAt c.args.classes.now (c.args.depth + 1) (drop (c.args.depth + 1) c.args.classes.now.classes) c.enter.new.self
  searched =
      let steps = steps_false c.args.classes.now (c.args.depth + 1) (drop (c.args.depth + 1) c.args.classes.now.classes) _ _ _ _ c.enter.new.self c.in_ok-enter.ensures c.if-branch.false in
      (steps.0, steps.1, steps.2 ∙ child, steps.3)

  same : take c.args.depth c.enter.new.self.counts.items ≡ take c.args.depth c.args.self.now.counts.items
  same = front_of c.args.depth c.enter.new.self.counts.items (take c.args.depth c.args.self.now.counts.items) c.args.count long searched.2

pub try_child-give_back-requires-clause-stands : goal.try_child-give_back-requires-clause-stands
try_child-give_back-requires-clause-stands t c =
    let all = c.args.classes.now in let depth = c.args.depth in let steps = searched t c in
    at_child all depth _ (take depth c.args.self.now.counts.items) c.args.count _ (long t c) (ap (take depth) c.deref-2.ensures.value ∙ same t c)
    (subst (λ f. Tracks all f (drop (depth + 1) all.classes) c.enter.new.self.tally) steps.2 steps.3.tally)

pub try_child-returns : goal.try_child-returns
try_child-returns t c =
    let all = c.args.classes.now in let depth = c.args.depth in
    let here = (goal.at.try_child-returns t c).After-deref-2 in let steps = searched t here in
    let due = child_due all (drop (depth + 1) all.classes) (take depth c.args.self.now.counts.items ++ c.args.count ∷ []) _ c.requires.live (child t here) in
    rw due (
      steps.0,
      steps.1,
      same t here,
      record {
        places = steps.3.places;
        within = c.requires.stands.within;
        live = ap (is_reachable all) (same t here) ∙ c.requires.stands.live;
        tally = from_front_more all depth _ c.enter.new.self.counts.items _ c.deref-2.ensures.value steps.3.places c.requires.stands.within c.give_back.ensures;
      },
    )
