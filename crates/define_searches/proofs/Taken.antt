-- Whether a volunteer is taken, as a test over pairs of a class and its count.
use Rattle.std.proofs.Common.{◌≡◌, ℕ, Bool, ◌||◌, List, [], ◌∷◌, take, filter, refl, ap, ◌∙◌}
use Rattle.std.specs.List.{list_any, zip, range_with_len}
use Rattle.define_pools.specs.Lists.{includes}
use Rattle.define_searches.specs.Classes.{Class, Classes, volunteer_count}
use Rattle.define_searches.specs.Compositions.{is_taken, first_panel}

-- `volunteer` is among the members that are taken of a class: of a pair (class, count), the first `count` members of the class
abbrev pub gives : ℕ → Class × ℕ → Bool
gives volunteer pair = includes (take pair.1 pair.0.members) volunteer

pub is_taken-zip : (volunteer : ℕ) (classes : List Class) (counts : List ℕ) → is_taken classes counts volunteer ≡ list_any (gives volunteer) (zip classes counts)
is_taken-zip volunteer [] counts = refl
is_taken-zip volunteer (class ∷ classes) [] = refl
is_taken-zip volunteer (class ∷ classes) (c ∷ counts) = ap (λ b. includes (take c class.members) volunteer || b) (is_taken-zip volunteer classes counts)

-- the volunteers who are taken, in the order of their numbers, are the first panel
pub members_are : (all : Classes) (composition : List ℕ) (classes : List Class) (counts : List ℕ) (volunteers : ℕ) → classes ≡ all.classes → counts ≡ composition →
    volunteers ≡ volunteer_count all → (members : List ℕ) → members ≡ filter (is_taken classes counts) (range_with_len 0 volunteers) → members ≡ first_panel all composition
members_are all composition classes counts volunteers e f g members h =
    h ∙ ap (λ classes. filter (is_taken classes counts) (range_with_len 0 volunteers)) e
    ∙ ap (λ counts. filter (is_taken all.classes counts) (range_with_len 0 volunteers)) f
    ∙ ap (λ n. filter (is_taken all.classes composition) (range_with_len 0 n)) g
