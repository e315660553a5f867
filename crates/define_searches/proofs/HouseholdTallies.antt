-- Laws on the rule that at most one member is taken of each household.
use Rattle.std.proofs.Common.{◌≡◌, ℕ, ◌+◌, ◌≤◌, Bool, true, false, cond, eqb, leb, List, [], ◌∷◌, ◌++◌, length, Option, Some, None, refl, sym, ap, ◌∙◌, arith, subst}
use Rattle.std.specs.Prelude.{slice_index}
use Rattle.std.proofs.lemmas.Bool.{eqb-true, eq-eqb, false≢true, false_from_ne_true}
use Rattle.std.proofs.lemmas.List.Elements.{All-get_or, All-from_recursion}
use Rattle.define_pools.proofs.Each.{each_from_list_all, list_all_implies}
use Rattle.define_searches.specs.Classes.{Class, Classes, IsKnownHousehold, KeepsLimits, volunteer_count}
use Rattle.define_searches.specs.Compositions.{taken_of, is_of_household, takes_one_of, takes_one_a_household}
use Rattle.define_searches.specs.Fronts.{is_reachable, taken_by}
use Rattle.define_searches.specs.Front.{FrontTally, Tracks, Stands}
use Rattle.define_searches.specs.Homes.{AreFew, CanGiveAt, HasMoreAt, has_room}
use Rattle.define_searches.proofs.Tracking.{few_taken, taken_more, taken_within_all}

-- ---- the household of a class

pub household_known : (all : Classes) (i : ℕ) (class : Class) (n : ℕ) → KeepsLimits all → Stands all i class → n ≡ volunteer_count all → (household : Option ℕ) → household ≡ class.household → IsKnownHousehold n household
household_known all i class n limits stands e household same =
    let known = All-get_or (λ (class : Class). IsKnownHousehold (volunteer_count all) class.household) all.classes i class stands.below limits.households in
    subst (λ m. IsKnownHousehold m household) (sym e) (subst (IsKnownHousehold (volunteer_count all)) (sym (same ∙ ap (λ (class : Class). class.household) stands.is)) known)

pub small_homes : (all : Classes) (front : List ℕ) (rest : List Class) (tally : FrontTally) → taken_by all front ≤ 4000 → Tracks all front rest tally → AreFew tally.homes
small_homes all front rest tally small tracks = λ h l.
    omega (arith, tracks.homes h (omega (arith, tracks.homes_cells)), taken_within_all (λ class. is_of_household h class.household) all.classes front)

pub few_homes : (all : Classes) (front : List ℕ) (rest : List Class) (tally : FrontTally) → KeepsLimits all → is_reachable all front ≡ true → Tracks all front rest tally → AreFew tally.homes
few_homes all front rest tally limits live tracks = small_homes all front rest tally (omega (arith, few_taken all front (λ class. true) limits live)) tracks

-- `has_room` for 0 more members is true exactly if the front takes at most one member of the class's household.
pub home_alive : (all : Classes) (front : List ℕ) (i : ℕ) (class : Class) (rest : List Class) (tally : FrontTally) → KeepsLimits all → Stands all i class → Tracks all front rest tally →
    (household : Option ℕ) → household ≡ class.household → has_room tally.homes household 0 ≡ takes_one_of all.classes front household
home_alive all front i class rest tally limits stands tracks None same = refl
home_alive all front i class rest tally limits stands tracks (Some h) same =
    let known = household_known all i class (volunteer_count all) limits stands refl (Some h) same in
    let taken : slice_index tally.homes h + 0 ≡ taken_of (λ class. is_of_household h class.household) all.classes front = omega (arith, tracks.homes h known) in
    ap (λ n. leb n 1) taken

-- if a child takes `count` members of a class, the counter of the class's household is at least `count`
pub home_gives : (all : Classes) (front : List ℕ) (class : Class) (count : ℕ) (rest : List Class) (tally : FrontTally) → KeepsLimits all → Stands all (length front) class → Tracks all (front ++ count ∷ []) rest tally →
    (household : Option ℕ) → household ≡ class.household → CanGiveAt household count tally.homes
home_gives all front class count rest tally limits stands tracks None same = tt
home_gives all front class count rest tally limits stands tracks (Some h) same =
    let known = household_known all (length front) class (volunteer_count all) limits stands refl (Some h) same in
    let here = taken_more all front class count stands (λ class. is_of_household h class.household) in
    let own : is_of_household h class.household ≡ true = ap (is_of_household h) (sym same) ∙ eq-eqb h h refl in
    let more = ap (λ b. taken_of (λ class. is_of_household h class.household) all.classes front + cond b count 0) own in
    omega (arith, tracks.homes h known, here, more)

-- ---- a child of a front that takes at most one member of each household

module _ (all : Classes) (front : List ℕ) (class : Class) (count : ℕ) (rest : List Class) (tally : FrontTally) (limits : KeepsLimits all) (stands : Stands all (length front) class) (tracks : Tracks all front rest tally) where
  abbrev of : ℕ → Class → Bool
  of h class = is_of_household h class.household

  -- the child takes `count` more members of household `h` than the front if the class is of household `h`, else as many as the front
  more_of : (h : ℕ) → taken_of (of h) all.classes (front ++ count ∷ []) ≡ taken_of (of h) all.classes front + cond (is_of_household h class.household) count 0
  more_of h = taken_more all front class count stands (of h)

  own_room : (h : ℕ) → Some h ≡ class.household → leb (taken_of (of h) all.classes (front ++ count ∷ [])) 1 ≡ has_room tally.homes (Some h) count
  own_room h same =
      let known = household_known all (length front) class (volunteer_count all) limits stands refl (Some h) same in
      let own : is_of_household h class.household ≡ true = ap (is_of_household h) (sym same) ∙ eq-eqb h h refl in
      let more = more_of h ∙ ap (λ b. taken_of (of h) all.classes front + cond b count 0) own in
      let sum : taken_of (of h) all.classes (front ++ count ∷ []) ≡ slice_index tally.homes h + count = omega (arith, tracks.homes h known, more) in
      ap (λ n. leb n 1) sum

  other_room : (k : ℕ) → is_of_household k class.household ≡ false → leb (taken_of (of k) all.classes (front ++ count ∷ [])) 1 ≡ leb (taken_of (of k) all.classes front) 1
  other_room k other =
      let more = more_of k ∙ ap (λ b. taken_of (of k) all.classes front + cond b count 0) other in
      let sum : taken_of (of k) all.classes (front ++ count ∷ []) ≡ taken_of (of k) all.classes front = omega (arith, more) in
      ap (λ n. leb n 1) sum

  -- If the class's household has room, the child takes at most one member of each household of which the front takes at most one.
  still_one : (own : Option ℕ) → own ≡ class.household → has_room tally.homes own count ≡ true → (household : Option ℕ) →
      takes_one_of all.classes front household ≡ true → takes_one_of all.classes (front ++ count ∷ []) household ≡ true
  still_one own same room None e = refl
  still_one None same room (Some k) e = other_room k (ap (is_of_household k) (sym same)) ∙ e
  still_one (Some h) same room (Some k) e =
      (elim (eqb h k) as (λ b. eqb h k ≡ b → takes_one_of all.classes (front ++ count ∷ []) (Some k) ≡ true) [
        | true ↦ λ t. let is = eqb-true h k t in subst (λ n. takes_one_of all.classes (front ++ count ∷ []) (Some n) ≡ true) is (own_room h same ∙ room)
        | false ↦ λ f. other_room k (ap (is_of_household k) (sym same) ∙ f) ∙ e
      ]) refl

  two_taken : (own : Option ℕ) → own ≡ class.household → has_room tally.homes own count ≡ false → takes_one_a_household all.classes (front ++ count ∷ []) ≡ false
  two_taken None same room = absurd (false≢true (sym room))
  two_taken (Some h) same room =
      false_from_ne_true (takes_one_a_household all.classes (front ++ count ∷ []))
      (λ yes.
      let each = All-from_recursion (λ (class : Class). takes_one_of all.classes (front ++ count ∷ []) class.household ≡ true) all.classes
      (each_from_list_all (λ (class : Class). takes_one_of all.classes (front ++ count ∷ []) class.household) all.classes yes) in
      let here = All-get_or (λ (class : Class). takes_one_of all.classes (front ++ count ∷ []) class.household ≡ true) all.classes (length front) class stands.below each in
      let at_class : takes_one_of all.classes (front ++ count ∷ []) (Some h) ≡ true =
      subst (λ household. takes_one_of all.classes (front ++ count ∷ []) household ≡ true) (sym (same ∙ ap (λ (class : Class). class.household) stands.is)) here in
      false≢true (sym room ∙ sym (own_room h same) ∙ at_class))

  pub child_households : takes_one_a_household all.classes front ≡ true → (own : Option ℕ) → own ≡ class.household → has_room tally.homes own count ≡ takes_one_a_household all.classes (front ++ count ∷ [])
  child_households ones own same =
      (elim (has_room tally.homes own count) as (λ b. has_room tally.homes own count ≡ b → b ≡ takes_one_a_household all.classes (front ++ count ∷ [])) [
        | true ↦ λ room. sym (list_all_implies (λ (class : Class). takes_one_of all.classes front class.household) (λ (class : Class). takes_one_of all.classes (front ++ count ∷ []) class.household)
            (λ (other : Class) e. still_one own same room other.household e) all.classes ones)
        | false ↦ λ room. sym (two_taken own same room)
      ]) refl

-- ---- what holds of a value holds of an equal one, as the contracts of the code need it

pub few_same : (homes homes' : List ℕ) → homes ≡ homes' → AreFew homes' → AreFew homes
few_same homes homes' e few = subst AreFew (sym e) few

pub gives_same : (household : Option ℕ) (count : ℕ) (homes homes' : List ℕ) → homes ≡ homes' → CanGiveAt household count homes' → CanGiveAt household count homes
gives_same household count homes homes' e gives = subst (CanGiveAt household count) (sym e) gives

pub home_same : (household household' : Option ℕ) (count : ℕ) (a a' b b' : List ℕ) → household ≡ household' → a ≡ a' → b ≡ b' → HasMoreAt household count a b → HasMoreAt household' count a' b'
home_same household household' count a a' b b' e f g more =
    subst (λ x. HasMoreAt x count a' b') e (subst (λ x. HasMoreAt household count x b') f (subst (λ x. HasMoreAt household count a x) g more))
