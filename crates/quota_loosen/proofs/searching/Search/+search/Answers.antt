use Rattle.std.proofs.Common.{rules, ◌≡◌, ℕ, ◌+◌, ◌-◌, ◌<◌, ◌≤◌, [], ◌∷◌, ◌++◌, length, take, drop, set, Some, refl, sym, ap, ◌∙◌, arith, subst}
use Rattle.define_quotas.specs.CostSearch.{enter_cheapest}
use Rattle.define_searches.specs.Compositions.{counts_down}
use Rattle.define_searches.specs.Fronts.{taken_by}
use Rattle.define_searches.specs.Front.{Stands}
use Rattle.define_searches.proofs.Fronts.{at_child, child_tracks, class_limits, front_length, front_of, from_front, from_front_more, placed}
use Rattle.define_searches.proofs.WeightLaws.{taken_next}
use Rattle.quota_loosen.specs.Front.{Tracks}
use Rattle.quota_loosen.specs.Steps.{child_cheapest, children_cheapest, search_of}
use Rattle.quota_loosen.proofs.Stepping.{child_stands, child_within, enter_children, enter_more, enter_whole, last_child, moves_err, moves_same, next_child, parent_stands, stands_with, taken_if_live}
use Rattle.quota_loosen.proofs.searching.Search.+search.Goals as goal

pub children-returns-in_err-try_child : goal.children-returns-in_err-try_child
children-returns-in_err-try_child t c =
    let all = c.args.classes.now in let self = c.args.self.now in let depth = c.args.depth in
    moves_err all depth _ _ _ self.nodes _ c.try_child.new.self c.from_residual.ensures.0
    (omega (arith, c.in_err-try_child.ensures, child_within all (drop (depth + 1) all.classes) (take depth self.counts.items) c.args.least c.args.more (search_of self)))

pub children-returns-then-more-eq0 : goal.children-returns-then-more-eq0
children-returns-then-more-eq0 t c =
    let all = c.args.classes.now in let self = c.args.self.now in let depth = c.args.depth in let steps = c.in_ok-try_child.ensures in
    let due = last_child all (drop (depth + 1) all.classes) (take depth self.counts.items) c.args.least c.args.more (search_of self) c.if-more-eq0.true in
    (steps.0 ∙ sym due, steps.1, steps.2, omega (arith, steps.3, ap (λ now. now.visits) due), steps.4)

pub children-returns : goal.children-returns
children-returns t c =
    let all = c.args.classes.now in let self = c.args.self.now in let depth = c.args.depth in let steps = c.in_ok-try_child.ensures in
    let later = drop (depth + 1) all.classes in let least = c.args.least in let more = c.args.more in
    let next = next_child all later (take depth self.counts.items) least more (search_of self) c.if-more-eq0.false in
    moves_same all depth _ _ _ _ _ _ _ c.children.result c.children.new.self
    (ap (λ front. children_cheapest all later front (counts_down least (more - 1)) (search_of c.try_child.new.self)) steps.1 ∙ ap (children_cheapest all later (take depth self.counts.items) (counts_down least (more - 1))) steps.0 ∙ sym next)
    steps.1 steps.2 c.children.ensures

pub enter-returns-in_err-spend : goal.enter-returns-in_err-spend
enter-returns-in_err-spend t c =
    let all = c.args.classes.now in let self = c.args.self.now in let depth = c.args.depth in
    moves_err all depth _ _ _ self.nodes _ c.spend.new.self c.from_residual.ensures.0
    (omega (arith, c.in_err-spend.ensures.err, enter_more all (drop depth all.classes) (take depth self.counts.items) (search_of self)))

pub enter_live-enter-requires : goal.enter_live-enter-requires
enter_live-enter-requires t c =
    let all = c.args.classes.now in let self = c.args.self.now in let depth = c.args.depth in
    let live = taken_if_live all (search_of self).kept (take depth self.counts.items) (sym c.is_live.ensures ∙ c.if-not-is_live.false) in
    (search rules, (c.requires.few, (omega (arith, live, c.facts.ensures.size.1), c.requires.stands)))

pub try_child-enter_live-requires : goal.try_child-enter_live-requires
try_child-enter_live-requires t c =
    let all = c.args.classes.now in let self = c.args.self.now in let depth = c.args.depth in let count = c.args.count in
    let long = front_length depth self.counts.items (length all.classes) c.requires.stands.places c.requires.stands.within in
    let child = placed depth count self.counts.items (omega (arith, c.requires.below, c.requires.stands.places)) in
    let more = taken_next all (take depth self.counts.items) count (omega (arith, long, c.requires.below)) in
    let few : taken_by all (take (depth + 1) (set self.counts.items depth count)) ≤ 5000 =
    omega (arith, ap (taken_by all) child, more, c.requires.small, c.requires.count) in (
      search rules,
      (
        c.requires.few,
        (
          few,
          child_stands all depth count _ self _ c.requires.stands c.requires.below refl refl refl
              (child_tracks all depth count _ self.counts.items _ c.deref.ensures.value c.requires.stands.places c.requires.stands.within c.take.ensures),
        ),
      ),
    )

pub try_child-give_back-requires-clause-stands : goal.try_child-give_back-requires-clause-stands
try_child-give_back-requires-clause-stands t c =
    let all = c.args.classes.now in let self = c.args.self.now in let depth = c.args.depth in let count = c.args.count in
    let long = front_length depth self.counts.items (length all.classes) c.requires.stands.places c.requires.stands.within in
    let there = c.in_ok-enter_live.ensures.1 ∙ placed depth count self.counts.items (omega (arith, c.requires.below, c.requires.stands.places)) in
    let same = front_of depth c.enter_live.new.self.counts.items (take depth self.counts.items) count long there in
    at_child all depth _ (take depth self.counts.items) count _ long (ap (take depth) c.deref-2.ensures.value ∙ same)
    (subst (λ f. Tracks all f (drop (depth + 1) all.classes) c.enter_live.new.self.tally) there c.in_ok-enter_live.ensures.4.tally)

pub try_child-returns : goal.try_child-returns
try_child-returns t c =
    let all = c.args.classes.now in let self = c.args.self.now in let depth = c.args.depth in let count = c.args.count in
    let long = front_length depth self.counts.items (length all.classes) c.requires.stands.places c.requires.stands.within in
    let child = placed depth count self.counts.items (omega (arith, c.requires.below, c.requires.stands.places)) in
    let steps = c.in_ok-enter_live.ensures in
    let same = front_of depth c.enter_live.new.self.counts.items (take depth self.counts.items) count long (steps.1 ∙ child) in
    let due = ap (λ f. child_cheapest all (drop (depth + 1) all.classes) f (search_of self)) child in (
      steps.0 ∙ due,
      same,
      steps.2,
      omega (arith, steps.3, ap (λ now. now.visits) due),
      parent_stands all depth _ _ self c.enter_live.new.self _ c.requires.stands steps.4 same refl refl refl
          (from_front_more all depth _ c.enter_live.new.self.counts.items _ c.deref-2.ensures.value steps.4.places c.requires.stands.within c.give_back.ensures),
    )
