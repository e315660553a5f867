use Rattle.std.proofs.Common.{◌≡◌, ◌⊎◌, inl, inr, ◌<◌, ◌≤◌, ℕ, suc, [], ◌∷◌, ◌++◌, length, min, length-append, sym, subst, ◌∙◌, ⊎_elim, arith, rules}
use Rattle.std.specs.Int.{◌∣◌}
use Rattle.std.specs.List.{AllByRecursion}
use Rattle.std.proofs.lemmas.Bool.{cases_lt}
use Rattle.std.proofs.lemmas.List.Elements.{All-from_recursion}
use Rattle.std.proofs.lemmas.Slice.Zip.{zip_turn, zip_end}
use Rattle.define_pools.proofs.Each.{each_at}
use Rattle.define_pools.specs.Lists.{includes}
use Rattle.define_searches.specs.Classes.{Class, volunteer_count}
use Rattle.define_runs.specs.Spreading.{turned}
use Rattle.alike.specs.Steps.{AreMarked}
use Rattle.alike.proofs.Starts.{given_all, given_more, size_divides}
use Rattle.alike.proofs.arcs.mark_given.Goals as goal

pub window_start-start-requires-clause-places : goal.window_start-start-requires-clause-places
window_start-start-requires-clause-places c taken =
    let classes = c.args.classes.now.classes in let counts = c.args.counts.now in
    let turn = zip_turn classes counts c.loop-class.yielded c.into_iter-class-iterator.result c.loop-class.class-iterator c.next.new.self c.next.result (search (rules, c.classes.ensures)) (search rules) c.loop-class.yielded_by (c.in-Some.class, c.in-Some.count) c.in-Some.is c.next.ensures.steps in
    subst (λ n. length c.in-Some.class.now.members ∣ n) (sym c.requires.places)
    (size_divides c.args.classes.now counts (length c.loop-class.yielded) c.in-Some.class.now c.in-Some.count.now turn.0 turn.1 (turn.2 c.in-Some.class.now) (turn.3 c.in-Some.count.now) taken)

pub mark_window-requires-clause-members : goal.mark_window-requires-clause-members
mark_window-requires-clause-members c =
    let classes = c.args.classes.now.classes in let counts = c.args.counts.now in
    let turn = zip_turn classes counts c.loop-class.yielded c.into_iter-class-iterator.result c.loop-class.class-iterator c.next.new.self c.next.result (search (rules, c.classes.ensures)) (search rules) c.loop-class.yielded_by (c.in-Some.class, c.in-Some.count) c.in-Some.is c.next.ensures.steps in
    let many : length c.loop-class.given ≡ volunteer_count c.args.classes.now = c.loop-class.invariant.long ∙ c.requires.given in
    let known : AllByRecursion (λ i. i < volunteer_count c.args.classes.now) c.in-Some.class.now.members =
    each_at (λ (class : Class). AllByRecursion (λ i. i < volunteer_count c.args.classes.now) class.members) classes (length c.loop-class.yielded) c.in-Some.class.now c.requires.parts.known turn.0 (turn.2 c.in-Some.class.now) in
    let known' : AllByRecursion (λ i. i < length c.loop-class.given) c.members.result.now =
    subst (λ xs. AllByRecursion (λ i. i < length c.loop-class.given) xs) (sym c.members.ensures) (subst (λ n. AllByRecursion (λ i. i < n) c.in-Some.class.now.members) (sym many) known) in
    All-from_recursion (λ i. i < length c.loop-class.given) c.members.result.now known'

pub loop-class-preserved : goal.loop-class-preserved
loop-class-preserved c =
    let classes = c.args.classes.now.classes in let counts = c.args.counts.now in
    let yielded = c.loop-class.yielded in
    let turn = zip_turn classes counts c.loop-class.yielded c.into_iter-class-iterator.result c.loop-class.class-iterator c.next.new.self c.next.result (search (rules, c.classes.ensures)) (search rules) c.loop-class.yielded_by (c.in-Some.class, c.in-Some.count) c.in-Some.is c.next.ensures.steps in
    let size : length (yielded ++ (c.in-Some.class, c.in-Some.count) ∷ []) ≡ suc (length yielded) = omega (arith, length-append yielded ((c.in-Some.class, c.in-Some.count) ∷ [])) in
    let marked = subst (λ xs. AreMarked c.loop-class.given c.mark_window.new.given (includes (turned c.window_start-start.result c.in-Some.count.now xs))) c.members.ensures c.mark_window.ensures in
    given_more c.args.places c.args.at classes counts (length yielded) (length (yielded ++ (c.in-Some.class, c.in-Some.count) ∷ [])) c.in-Some.class.now c.in-Some.count.now c.window_start-start.result c.args.given.now c.loop-class.given c.mark_window.new.given
    turn.0 turn.1 (turn.2 c.in-Some.class.now) (turn.3 c.in-Some.count.now) size c.window_start-start.ensures.same c.loop-class.invariant marked

pub returns : goal.returns
returns c =
    let classes = c.args.classes.now.classes in let counts = c.args.counts.now in
    let yielded = c.loop-class.yielded in
    let count = zip_end classes counts yielded c.into_iter-class-iterator.result c.loop-class.class-iterator c.next.new.self c.next.result (search (rules, c.classes.ensures)) (search rules) c.loop-class.yielded_by c.in-None.is c.next.ensures.steps in
    given_all c.args.places c.args.at classes counts (length yielded) c.args.given.now c.loop-class.given (either (length classes) (length counts) (length yielded) count) c.loop-class.invariant
  where
    either : (m n k : ℕ) → k ≡ min m n → (m ≤ k) ⊎ (n ≤ k)
    either m n k e = ⊎_elim (λ (l : m < n). inl (omega arith)) (λ (l : n ≤ m). inr (omega arith)) (cases_lt m n)
