use Rattle.std.proofs.Common.{◌≡◌, Bool, true, false, cond, not, ltb, List, length, Some, None, refl, ap, ◌∙◌, arith, rules, tests}
use Rattle.std.specs.Prelude.{unwrap_or}
use Rattle.std.specs.List.{position_or_len}
use Rattle.std.proofs.lemmas.Bool.{ltb-false}
use Rattle.std.proofs.lemmas.Iterator.{YieldsList-from_slice}
use Rattle.std.proofs.lemmas.Iterator.Search.{position_from_yields_List}
use Rattle.std.proofs.lemmas.List.Sums.{prefix_len-le-length}
use Rattle.define_pools.specs.Lists.{includes}
use Rattle.define_searches.specs.Classes.{Class}
use Rattle.alike.proofs.numbers.class_number.Goals as goal

-- `position_or_len` is the place of the first class that passes, or the number of classes if none passes
past_all : (p : Class → Bool) (xs : List Class) → unwrap_or (cond (ltb (position_or_len p xs) (length xs)) (Some (position_or_len p xs)) None) (length xs) ≡ position_or_len p xs
past_all p xs = by (ltb (position_or_len p xs) (length xs)) refl
  where
    by : (b : Bool) → ltb (position_or_len p xs) (length xs) ≡ b → unwrap_or (cond b (Some (position_or_len p xs)) None) (length xs) ≡ position_or_len p xs
    by true t = refl
    by false t = omega (arith, ltb-false (position_or_len p xs) (length xs) t, prefix_len-le-length (λ x. not (p x)) xs)

pub returns : goal.returns
returns c =
    let classes = c.args.groups.now in
    c.unwrap_or.ensures
    ∙ ap (λ o. unwrap_or o (length classes)) (position_from_yields_List (λ class. includes class.members c.args.volunteer) c.position-number.new.self _ c.position-number.result c.position-number.ensures.ran
    (YieldsList-from_slice {s = c.iter.result} classes cc) (λ x b q k. search (rules, tests)))
    ∙ past_all (λ class. includes class.members c.args.volunteer) classes
