use Rattle.std.proofs.Common.{rules, ◌≡◌, ℕ, ◌+◌, ◌-◌, ◌<◌, ◌≤◌, [], ◌∷◌, ◌++◌, true, false, length, take, drop, set, None, refl, sym, ap, ◌∙◌, arith, subst}
use Rattle.define_checks.specs.Visits.{enter_above}
use Rattle.define_searches.specs.Fronts.{is_reachable}
use Rattle.check_search.specs.Front.{Tracks}
use Rattle.define_searches.specs.Front.{CanTake, Stands}
use Rattle.check_search.specs.Steps.{StandsAt, Steps, children_above, counts_at}
use Rattle.define_searches.proofs.Tracking.{stands_there}
use Rattle.define_searches.proofs.Fronts.{same_class, class_limits, child_tracks, from_front, from_front_more, front_length, placed, front_of, at_child}
use Rattle.check_search.proofs.Stands.{stands_with, child_stands, parent_stands, child_live}
use Rattle.check_search.proofs.Stepping.{steps_err, steps_true, steps_false, first_spent, first_found, last_none, next_steps, enter_visits, enter_due, none_left, only_within, child_due}
use Rattle.check_search.proofs.searching.Search.+search.Goals as goal
use Rattle.check_search.proofs.searching.Search.+search.Goals.{enter-Else-depth-classes, go_on-After-least, try_child-After-deref-2, try_child-After-deref-3}

pub children-returns-in_err-try_child : goal.children-returns-in_err-try_child
children-returns-in_err-try_child t c =
    let all = c.args.terms.now.classes in let closed = c.args.terms.now.closed.items in let row = c.args.terms.now.row in
    let self = c.args.self.now in let depth = c.args.depth in
    steps_err all closed row depth _ _ self _ c.try_child.new.self c.from_residual.ensures.0 (first_spent all closed row depth (take depth self.counts.items) c.args.least c.args.above self.left c.in_err-try_child.ensures)

pub children-returns-then-branch : goal.children-returns-then-branch
children-returns-then-branch t c =
    let all = c.args.terms.now.classes in let closed = c.args.terms.now.closed.items in let row = c.args.terms.now.row in
    let self = c.args.self.now in let depth = c.args.depth in
    let steps = steps_true all closed row depth (drop (depth + 1) all.classes) _ _ _ _ c.try_child.new.self c.in_ok-try_child.ensures c.if-branch.true in
    first_found all closed row depth (take depth self.counts.items) c.args.least c.args.above self.left _ _ steps.0 steps.1

pub children-returns-then-above-eq0 : goal.children-returns-then-above-eq0
children-returns-then-above-eq0 t c =
    let all = c.args.terms.now.classes in let closed = c.args.terms.now.closed.items in let row = c.args.terms.now.row in
    let self = c.args.self.now in let depth = c.args.depth in
    let steps = steps_false all closed row depth (drop (depth + 1) all.classes) _ _ _ _ c.try_child.new.self c.in_ok-try_child.ensures c.if-branch.false in
    let last = last_none all closed row depth (take depth self.counts.items) c.args.least c.args.above self.left c.try_child.new.self.left c.if-above-eq0.true steps.0 steps.1 in
    (last.0, last.1, steps.2, steps.3)

pub children-returns : goal.children-returns
children-returns t c =
    let all = c.args.terms.now.classes in let closed = c.args.terms.now.closed.items in let row = c.args.terms.now.row in
    let self = c.args.self.now in let depth = c.args.depth in
    let steps = steps_false all closed row depth (drop (depth + 1) all.classes) _ _ _ _ c.try_child.new.self c.in_ok-try_child.ensures c.if-branch.false in
    next_steps all closed row depth c.args.least c.args.above self c.try_child.new.self c.children.result c.children.new.self c.if-above-eq0.false steps.0 steps.1 steps.2 c.children.ensures

pub enter-returns-in_err-spend : goal.enter-returns-in_err-spend
enter-returns-in_err-spend t c =
    let all = c.args.terms.now.classes in let closed = c.args.terms.now.closed.items in let row = c.args.terms.now.row in let self = c.args.self.now in
    steps_err all closed row c.args.depth _ _ self _ c.spend.new.self c.from_residual.ensures.0
    (omega (arith, c.in_err-spend.ensures.err, enter_visits all closed row (drop c.args.depth all.classes) (take c.args.depth self.counts.items)))

-- If classes come after those of the front, entering the front takes one visit, and then the visits of its children.
module _ (t : ℕ) (c : enter-Else-depth-classes t) where
  below : c.args.depth < length c.args.terms.now.classes.classes
  below = omega (arith, c.requires.stands.within, c.if-depth-classes.false, ap length c.classes.ensures)

  counts : take c.args.depth c.spend.new.self.counts.items ≡ take c.args.depth c.args.self.now.counts.items
  counts = sym (ap (λ search. take c.args.depth search.counts.items) c.in_ok-spend.ensures.ok)

  entered : enter_above c.args.terms.now.classes c.args.terms.now.closed.items c.args.terms.now.row (drop c.args.depth c.args.terms.now.classes.classes) (take c.args.depth c.args.self.now.counts.items) ≡ record {
    visits = 1 + (children_above c.args.terms.now.classes c.args.terms.now.closed.items c.args.terms.now.row (drop (c.args.depth + 1) c.args.terms.now.classes.classes) (take c.args.depth c.spend.new.self.counts.items) (counts_at c.args.terms.now.classes c.args.depth)).visits;
    found = (children_above c.args.terms.now.classes c.args.terms.now.closed.items c.args.terms.now.row (drop (c.args.depth + 1) c.args.terms.now.classes.classes) (take c.args.depth c.spend.new.self.counts.items) (counts_at c.args.terms.now.classes c.args.depth)).found;
  }
  entered = enter_due c.args.terms.now.classes c.args.terms.now.closed.items c.args.terms.now.row c.args.depth (take c.args.depth c.args.self.now.counts.items) (take c.args.depth c.spend.new.self.counts.items) below counts

pub enter-go_on-requires : goal.enter-go_on-requires
enter-go_on-requires t c =
    let all = c.args.terms.now.classes in let self = c.args.self.now in let depth = c.args.depth in
    let spent = c.in_ok-spend.ensures.ok in
    let counts = sym (ap (λ search. search.counts.items) spent) in (
      search rules,
      (
        c.requires.terms,
        (
          below t (goal.at.enter-go_on-requires t c).Else-depth-classes,
          stands_with all c.args.terms.now.closed.items c.args.terms.now.row depth _ _ self _ c.requires.stands counts (sym (ap (λ search. search.weights) spent)) (sym (ap (λ search. search.closed.items) spent))
              (from_front_more all depth _ self.counts.items _ (c.deref.ensures.value ∙ counts) c.requires.stands.places c.requires.stands.within c.begin_class.ensures),
        ),
      ),
    )

pub enter-returns-in_err-go_on : goal.enter-returns-in_err-go_on
enter-returns-in_err-go_on t c =
    let all = c.args.terms.now.classes in let closed = c.args.terms.now.closed.items in let row = c.args.terms.now.row in
    let self = c.args.self.now in let depth = c.args.depth in
    let here = (goal.at.enter-returns-in_err-go_on t c).Else-depth-classes in let due = entered t here in
    steps_err all closed row depth _ _ self _ c.go_on.new.self c.from_residual-in_err-go_on.ensures.0 (rw due (omega (arith, ap (λ search. search.left) c.in_ok-spend.ensures.ok, c.in_err-go_on.ensures)))

pub enter-returns-then-branch : goal.enter-returns-then-branch
enter-returns-then-branch t c =
    let all = c.args.terms.now.classes in let closed = c.args.terms.now.closed.items in let row = c.args.terms.now.row in
    let self = c.args.self.now in let depth = c.args.depth in
    let here = (goal.at.enter-returns-then-branch t c).Else-depth-classes in let due = entered t here in
    let steps = steps_true all closed row depth (drop (depth + 1) all.classes) _ _ _ _ c.go_on.new.self c.in_ok-go_on.ensures c.if-branch.true in
    rw due (omega (arith, ap (λ search. search.left) c.in_ok-spend.ensures.ok, steps.0), steps.1)

pub enter-returns : goal.enter-returns
enter-returns t c =
    let all = c.args.terms.now.classes in let closed = c.args.terms.now.closed.items in let row = c.args.terms.now.row in
    let self = c.args.self.now in let depth = c.args.depth in
    let here = (goal.at.enter-returns t c).Else-depth-classes in let due = entered t here in
    let steps = steps_false all closed row depth (drop (depth + 1) all.classes) _ _ _ _ c.go_on.new.self c.in_ok-go_on.ensures c.if-branch.false in
    let none = steps.1 in
    rw due (
      omega (arith, ap (λ search. search.left) c.in_ok-spend.ensures.ok, steps.0),
      none,
      steps.2 ∙ counts t here,
      stands_with all closed row depth _ _ c.go_on.new.self _ steps.3 refl refl refl
          (from_front all depth _ c.go_on.new.self.counts.items _ c.deref-2.ensures.value steps.3.places steps.3.within c.end_class.ensures),
    )

-- The next class. No child is reachable whose count is above the greatest count or below the least.
module _ (t : ℕ) (c : go_on-After-least t) where
  stands : Stands c.args.terms.now.classes c.args.depth c.index-classes-depth.result
  stands = stands_there c.args.terms.now.classes c.args.depth _ c.index-classes-depth.result c.requires.below c.classes.ensures c.index-classes-depth.is

  limits : (c.index-classes-depth.result.least ≤ c.index-classes-depth.result.most) × (c.index-classes-depth.result.most ≤ length c.index-classes-depth.result.members) × (length c.index-classes-depth.result.members ≤ 4000)
  limits = class_limits c.args.terms.now.classes c.args.depth c.index-classes-depth.result c.facts.ensures stands

  passed : (n : ℕ) → c.greatest_count-most.result < n → n ≤ c.index-classes-depth.result.most → is_reachable c.args.terms.now.classes (take c.args.depth c.args.self.now.counts.items ++ n ∷ []) ≡ false
  passed n l u = subst (λ xs. is_reachable c.args.terms.now.classes (take c.args.depth xs ++ n ∷ []) ≡ false) c.deref.ensures.value (c.greatest_count-most.ensures.passed n l (omega (arith, u, c.most.ensures)))

  lacking : (least : ℕ) → ((n : ℕ) → n < least → c.least.result ≤ n → is_reachable c.args.terms.now.classes (take c.args.depth c.deref.result.now ++ n ∷ []) ≡ false) →
      (n : ℕ) → n < least → c.index-classes-depth.result.least ≤ n → is_reachable c.args.terms.now.classes (take c.args.depth c.args.self.now.counts.items ++ n ∷ []) ≡ false
  lacking least lacks n l u = subst (λ xs. is_reachable c.args.terms.now.classes (take c.args.depth xs ++ n ∷ []) ≡ false) c.deref.ensures.value (lacks n l (omega (arith, u, c.least.ensures)))

pub go_on-returns-then-most-least : goal.go_on-returns-then-most-least
go_on-returns-then-most-least t c =
    let all = c.args.terms.now.classes in let closed = c.args.terms.now.closed.items in let row = c.args.terms.now.row in
    let self = c.args.self.now in let depth = c.args.depth in let here = (goal.at.go_on-returns-then-most-least t c).After-least in
    let due = none_left all closed row depth (take depth self.counts.items) c.index-classes-depth.result c.least_count-least.result c.greatest_count-most.result (stands t here) (limits t here).0 c.if-most-least.true (passed t here)
    (lacking t here c.least_count-least.result c.least_count-least.ensures.lacking) in
    rw due (omega arith, refl, refl, c.requires.stands)

pub go_on-children-requires : goal.go_on-children-requires
go_on-children-requires t c =
    let all = c.args.terms.now.classes in let class = c.index-classes-depth.result in let depth = c.args.depth in
    let here = (goal.at.go_on-children-requires t c).After-least in let narrow = limits t here in
    let least = c.least_count-least.result in let most = c.greatest_count-most.result in
    let can : CanTake all depth (least + (most - least)) = λ other e.
    let members = ap (λ class. length class.members) (same_class all depth class other (stands t here) e) in
    omega (arith, c.if-most-least.false, c.greatest_count-most.ensures.within, c.most.ensures, narrow.1, members) in
    (search rules, (c.requires.terms, (c.requires.below, (can, (omega (arith, c.if-most-least.false, c.greatest_count-most.ensures.within, c.most.ensures, narrow.1, narrow.2), c.requires.stands)))))

pub go_on-returns : goal.go_on-returns
go_on-returns t c =
    let all = c.args.terms.now.classes in let closed = c.args.terms.now.closed.items in let row = c.args.terms.now.row in
    let self = c.args.self.now in let depth = c.args.depth in let here = (goal.at.go_on-returns t c).After-least in
    let due = only_within all closed row depth (take depth self.counts.items) c.index-classes-depth.result c.least_count-least.result c.greatest_count-most.result (stands t here) (limits t here).0
    (omega (arith, c.least_count-least.ensures.within, c.least.ensures)) (omega (arith, c.greatest_count-most.ensures.within, c.most.ensures)) c.if-most-least.false (passed t here)
    (lacking t here c.least_count-least.result c.least_count-least.ensures.lacking) in
    subst (λ d. Steps all closed row depth (drop (depth + 1) all.classes) d self c.children.result c.children.new.self) (sym due) c.children.ensures

-- the child that is entered is reachable
live : (t : ℕ) (c : try_child-After-deref-2 t) → is_reachable c.args.terms.now.classes (take c.args.depth c.args.self.now.counts.items ++ c.args.count ∷ []) ≡ true
live t c = ap (λ items. is_reachable c.args.terms.now.classes (take c.args.depth items ++ c.args.count ∷ [])) (sym c.deref.ensures.value) ∙ (sym c.allows.ensures ∙ c.if-not-allows.false)

-- the search went on to the child, found nothing, and is at the child again
module _ (t : ℕ) (c : try_child-After-deref-3 t) where
  long : length (take c.args.depth c.args.self.now.counts.items) ≡ c.args.depth
  long = front_length c.args.depth c.args.self.now.counts.items (length c.args.terms.now.classes.classes) c.requires.stands.places c.requires.stands.within

  child : take (c.args.depth + 1) (set c.weights_allow.new.self.counts.items c.args.depth c.args.count) ≡ take c.args.depth c.args.self.now.counts.items ++ c.args.count ∷ []
  child =
      let items = ap (λ counts. counts.items) c.weights_allow.ensures.counts in
      ap (λ xs. take (c.args.depth + 1) (set xs c.args.depth c.args.count)) items ∙ placed c.args.depth c.args.count c.args.self.now.counts.items (omega (arith, c.requires.below, c.requires.stands.places))

  searched : (c.weights_allow.new.self.left ≡ c.enter.new.self.left + (enter_above c.args.terms.now.classes c.args.terms.now.closed.items c.args.terms.now.row (drop (c.args.depth + 1) c.args.terms.now.classes.classes) (take (c.args.depth + 1) (set c.weights_allow.new.self.counts.items c.args.depth c.args.count))).visits)
      × ((enter_above c.args.terms.now.classes c.args.terms.now.closed.items c.args.terms.now.row (drop (c.args.depth + 1) c.args.terms.now.classes.classes) (take (c.args.depth + 1) (set c.weights_allow.new.self.counts.items c.args.depth c.args.count))).found ≡ None)
      × (take (c.args.depth + 1) c.enter.new.self.counts.items ≡ take c.args.depth c.args.self.now.counts.items ++ c.args.count ∷ [])
      × StandsAt c.args.terms.now.classes c.args.terms.now.closed.items c.args.terms.now.row (c.args.depth + 1) (drop (c.args.depth + 1) c.args.terms.now.classes.classes) c.enter.new.self
  searched =
      let steps = steps_false c.args.terms.now.classes c.args.terms.now.closed.items c.args.terms.now.row (c.args.depth + 1) (drop (c.args.depth + 1) c.args.terms.now.classes.classes) _ _ _ _ c.enter.new.self c.in_ok-enter.ensures c.if-branch.false in
      (steps.0, steps.1, steps.2 ∙ child, steps.3)

  same : take c.args.depth c.enter.new.self.counts.items ≡ take c.args.depth c.args.self.now.counts.items
  same = front_of c.args.depth c.enter.new.self.counts.items (take c.args.depth c.args.self.now.counts.items) c.args.count long searched.2

pub try_child-enter-requires : goal.try_child-enter-requires
try_child-enter-requires t c =
    let all = c.args.terms.now.classes in let self = c.args.self.now in let depth = c.args.depth in let count = c.args.count in
    let items = ap (λ counts. counts.items) c.weights_allow.ensures.counts in
    let reached = live t (goal.at.try_child-enter-requires t c).After-deref-2 in (
      search rules,
      (
        c.requires.terms,
        child_stands all c.args.terms.now.closed.items c.args.terms.now.row depth count _ self _ c.requires.stands c.requires.below c.requires.can_take reached (ap (λ xs. set xs depth count) items)
            (child_tracks all depth count _ self.counts.items _ (c.deref-2.ensures.value ∙ items) c.requires.stands.places c.requires.stands.within c.take.ensures)
            (c.weights_allow.ensures.weights c.if-not-weights_allow.false) (c.weights_allow.ensures.closed c.if-not-weights_allow.false),
      ),
    )

pub try_child-give_back-requires-clause-stands : goal.try_child-give_back-requires-clause-stands
try_child-give_back-requires-clause-stands t c =
    let all = c.args.terms.now.classes in let depth = c.args.depth in let count = c.args.count in
    let steps = searched t c in
    at_child all depth _ (take depth c.args.self.now.counts.items) count _ (long t c) (ap (take depth) c.deref-3.ensures.value ∙ same t c)
    (subst (λ f. Tracks all f (drop (depth + 1) all.classes) c.enter.new.self.tally) steps.2 steps.3.tally)

pub try_child-returns : goal.try_child-returns
try_child-returns t c =
    let all = c.args.terms.now.classes in let closed = c.args.terms.now.closed.items in let row = c.args.terms.now.row in
    let self = c.args.self.now in let depth = c.args.depth in let count = c.args.count in
    let front = take depth self.counts.items in let later = drop (depth + 1) all.classes in
    let here = (goal.at.try_child-returns t c).After-deref-3 in let steps = searched t here in
    let reached = live t (goal.at.try_child-returns t c).After-deref-2 in
    let due = child_due all closed row later (front ++ count ∷ []) _ (child_live all closed row (front ++ count ∷ []) reached (sym c.weights_allow.ensures.value ∙ c.if-not-weights_allow.false)) (child t here) in
    rw due (
      sym c.weights_allow.ensures.left ∙ steps.0,
      steps.1,
      same t here,
      parent_stands all closed row depth count later self c.enter.new.self _ c.requires.stands steps.3 steps.2 (same t here) refl refl refl
          (from_front_more all depth _ c.enter.new.self.counts.items _ c.deref-3.ensures.value steps.3.places c.requires.stands.within c.give_back.ensures),
    )
