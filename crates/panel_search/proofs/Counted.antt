-- How many members the first counts of a front take, and how many the classes from a place on can give, place by place. The proofs of
-- `counting` cite it, and so does UnitsBeside.
use Rattle.std.proofs.Common.{◌≡◌, ℕ, zero, suc, ◌+◌, ◌≤◌, ◌<◌, Bool, cond, length, List, [], ◌∷◌, take, drop, get_or, refl, sym, ap, ◌∙◌, arith, subst}
use Rattle.std.proofs.lemmas.List.{take_more, length-take-le}
use Rattle.define_searches.specs.Classes.{Class, Classes, KeepsLimits}
use Rattle.define_searches.specs.Compositions.{taken_of}
use Rattle.define_searches.specs.Fronts.{most_given}
use Rattle.define_searches.specs.Front.{AreWithin, Stands}
use Rattle.define_searches.proofs.Tracking.{comes_next, most_more, most_of_none, taken_more, taken_within_all}
use Rattle.define_searches.proofs.WeightLaws.{within_few, within_first}
use Rattle.panel_search.specs.Groups.{HasCategory}
use Rattle.panel_search.specs.declared.counting.Group.{Group}

pub category_same : (n m : ℕ) (group : Group) → n ≡ m → HasCategory m group → HasCategory n group
category_same n m group e has = subst (λ n. HasCategory n group) (sym e) has

-- The first `place + 1` counts take as many members as the first `place`, and those of the class in this place, if the class passes the test.
pub taken_more_of : (all : Classes) (front : List ℕ) (place : ℕ) (class : Class) (p : Class → Bool) → Stands all place class → place < length front →
    taken_of p all.classes (take (place + 1) front) ≡ taken_of p all.classes (take place front) + cond (p class) (get_or front place 0) 0
taken_more_of all front place class p stands below =
    let long : length (take place front) ≡ place = length-take-le place front (omega arith) in
    ap (taken_of p all.classes) (take_more front place 0 below)
    ∙ taken_more all (take place front) class (get_or front place 0) (subst (λ n. Stands all n class) (sym long) stands) p

-- The first counts of a front take few members.
pub taken_small : (all : Classes) (front : List ℕ) (place : ℕ) (p : Class → Bool) → KeepsLimits all → AreWithin all front → place ≤ length front → taken_of p all.classes (take place front) ≤ 4000
taken_small all front place p limits within few =
    omega (arith, taken_within_all p all.classes (take place front), within_few all (take place front) limits (within_first all front place within few))

-- The classes from `place` on give what the class in this place gives, if it passes the test, and what those after it give.
pub given_more : (all : Classes) (place : ℕ) (class : Class) (p : Class → Bool) → Stands all place class →
    most_given p (drop place all.classes) ≡ cond (p class) class.most 0 + most_given p (drop (place + 1) all.classes)
given_more all place class p stands = ap (most_given p) (comes_next all place class stands) ∙ most_more p class (drop (place + 1) all.classes)

pub drop_all : {X : Type 0} (i : ℕ) (xs : List X) → length xs ≤ i → drop i xs ≡ []
drop_all zero [] l = refl
drop_all (suc i) [] l = refl
drop_all zero (x ∷ xs) l = absurd (omega arith)
drop_all (suc i) (x ∷ xs) l = drop_all i xs (omega arith)

-- Behind the last class, nothing is given.
pub given_end : (all : Classes) (i : ℕ) (p : Class → Bool) → length all.classes ≤ i → most_given p (drop i all.classes) ≡ 0
given_end all i p l = ap (most_given p) (drop_all i all.classes l) ∙ most_of_none p
