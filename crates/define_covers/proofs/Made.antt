-- How the lines of a search come about, one after the other: the next front is tried, and entered if it is live; else it is a line.
use Rattle.std.proofs.Common.{◌≡◌, ℕ, zero, suc, ◌+◌, ◌-◌, ◌≤◌, ◌<◌, Bool, true, false, cond, ◌&&◌, eqb, leb, ltb, List, [], ◌∷◌, ◌++◌, map, length, take, drop, get_or, Option, Some, None, refl, sym, ap, ◌∙◌, subst, arith, append_assoc, length-append}
use Rattle.std.specs.Prelude.{bytes_eq, int_lt}
use Rattle.std.specs.List.{AllByRecursion}
use Rattle.std.proofs.lemmas.Bool.{and_from, and_parts, eq-eqb, false≢true, le-leb, leb-true, ltb-false, ltb-true}
use Rattle.std.proofs.lemmas.List.{append-nil, drop_more, map-append, take-append-le}
use Rattle.std.proofs.Math.Seq.{take-append_seam}
use Rattle.std.proofs.lemmas.List.Elements.{recursion_from_All}
use Rattle.define_pools.proofs.Each.{each_append, each_from_filter, each_map, each_of_map, list_all_from_each}
use Rattle.define_pools.proofs.Found.{find-none, find-passes}
use Rattle.define_rows.specs.Row.{Row}
use Rattle.define_searches.specs.Classes.{Class, Classes, KeepsLimits}
use Rattle.define_searches.specs.Compositions.{all_counts, attains, compositions, counts_down, counts_of, is_composition, weight_in}
use Rattle.define_searches.specs.Fronts.{is_live_above, later_than}
use Rattle.define_searches.proofs.BestSearch.{whole_from_live}
use Rattle.define_searches.proofs.FirstSearch.{InOrder, Split}
use Rattle.define_checks.specs.Caps.{first_above}
use Rattle.define_covers.specs.Causes.{applies}
use Rattle.define_covers.specs.Covers.{Cause, FrontLine}
use Rattle.define_covers.specs.CoverVerdict.{first_tree, later_trees}
use Rattle.define_covers.specs.FrontOrder.{are_in_order, continues, filled, turned, turned_at}
use Rattle.define_covers.specs.Counts.{Fits}
use Rattle.define_covers.specs.FirstCause.{causes, first_cause}
use Rattle.define_covers.specs.Made.{CoversWhereSearched, IsSearched, IsTried, TreesCoverWhereSearched}
use Rattle.define_covers.proofs.Alive.{each_of_flat_map, live_where_none_first}
use Rattle.define_covers.proofs.Order.{Within}

-- ---- counts for the first classes, within the ranges of these classes

-- each count belongs to a class, and is one that the class can give
abbrev pub BeginsWithin : List Class → List ℕ → Type 0
BeginsWithin classes [] = Unit {0}
BeginsWithin [] (c ∷ counts) = ⊥
BeginsWithin (class ∷ classes) (c ∷ counts) = ((class.least ≤ c) × (c ≤ class.most)) × BeginsWithin classes counts

within_few : (classes : List Class) (counts : List ℕ) → BeginsWithin classes counts → length counts ≤ length classes
within_few classes [] h = omega arith
within_few [] (c ∷ counts) h = absurd h
within_few (class ∷ classes) (c ∷ counts) h = omega (arith, within_few classes counts h.1)

within_all : (classes : List Class) (counts : List ℕ) → BeginsWithin classes counts → length classes ≤ length counts → Within classes counts
within_all [] [] h l = tt
within_all (class ∷ classes) [] h l = absurd (omega arith)
within_all [] (c ∷ counts) h l = absurd h
within_all (class ∷ classes) (c ∷ counts) h l = (h.0, within_all classes counts h.1 (omega arith))

within_fits : (classes : List Class) (counts : List ℕ) → AllByRecursion (λ class. class.most ≤ length class.members) classes → BeginsWithin classes counts → Fits classes counts
within_fits classes [] most h = tt
within_fits [] (c ∷ counts) most h = absurd h
within_fits (class ∷ classes) (c ∷ counts) most h = let m = most.0 in let l = h.0.1 in (omega arith, within_fits classes counts most.1 h.1)

pub within_limits : (all : Classes) (counts : List ℕ) → KeepsLimits all → BeginsWithin all.classes counts → Fits all.classes counts
within_limits all counts limits h = within_fits all.classes counts (recursion_from_All (λ (class : Class). class.most ≤ length class.members) all.classes limits.most) h

within_more : (classes : List Class) (counts : List ℕ) (class : Class) (c : ℕ) → InOrder classes → BeginsWithin classes counts → length counts < length classes → class ≡ get_or classes (length counts) class → c ≡ class.most →
    BeginsWithin classes (counts ++ c ∷ [])
within_more [] [] class c order h l e f = absurd (omega arith)
within_more [] (d ∷ counts) class c order h l e f = absurd h
within_more (k ∷ classes) [] class c order h l e f =
    let o = order.0 in let same : class ≡ k = e in let most : c ≡ k.most = f ∙ ap (λ (it : Class). it.most) same in ((omega arith, omega arith), tt)
within_more (k ∷ classes) (d ∷ counts) class c order h l e f = (h.0, within_more classes counts class c order.1 h.1 (omega arith) e f)

within_turned : (classes : List Class) (front next : List ℕ) → BeginsWithin classes front → turned classes front ≡ Some next → BeginsWithin classes next
within_turned [] front next h e = absurd cc
within_turned (class ∷ classes) [] next h e = absurd cc
within_turned (class ∷ classes) (c ∷ front) next h e = by (turned classes front) refl e (λ later f. within_turned classes front later h.1 f)
  where
    last : (b : Bool) → ltb class.least c ≡ b → cond b (Some ((c - 1) ∷ [])) None ≡ Some next → BeginsWithin (class ∷ classes) next
    last false t f = absurd cc
    last true t f =
        let same : next ≡ (c - 1) ∷ [] = cc in let above = ltb-true class.least c t in let most = h.0.1 in
        let within : BeginsWithin (class ∷ classes) ((c - 1) ∷ []) = ((omega arith, omega arith), tt) in rw same within

    by : (later : Option (List ℕ)) → turned classes front ≡ later → turned_at class c later ≡ Some next → ((later : List ℕ) → turned classes front ≡ Some later → BeginsWithin classes later) → BeginsWithin (class ∷ classes) next
    by None f g rest = last (ltb class.least c) refl g
    by (Some later) f g rest =
        let same : next ≡ c ∷ later = cc in
        let within : BeginsWithin (class ∷ classes) (c ∷ later) = (h.0, rest later f) in rw same within

-- a shorter beginning of the next front is a shorter beginning of the front before it
record Shared (front next : List ℕ) (k : ℕ) : Type 0 where
  shorter : k < length front
  same : take k next ≡ take k front

shared : (classes : List Class) (front next : List ℕ) → turned classes front ≡ Some next → (k : ℕ) → k < length next → Shared front next k
shared [] front next e k l = absurd cc
shared (class ∷ classes) [] next e k l = absurd cc
shared (class ∷ classes) (c ∷ front) next e k l = by (turned classes front) refl e (λ later f j m. shared classes front later f j m)
  where
    first : (n : ℕ) (xs : List ℕ) → n ≡ 0 → Shared (c ∷ front) xs n
    first n xs e = let z : n ≡ 0 = e in rw z (record { shorter = omega arith; same = refl })

    last : (b : Bool) → cond b (Some ((c - 1) ∷ [])) None ≡ Some next → Shared (c ∷ front) next k
    last false f = absurd cc
    last true f = let same : next ≡ (c - 1) ∷ [] = cc in first k next (omega (arith, ap (λ (xs : List ℕ). length xs) same))

    deeper : (later : List ℕ) (j : ℕ) → j < length (c ∷ later) → ((j : ℕ) → j < length later → Shared front later j) → Shared (c ∷ front) (c ∷ later) j
    deeper later zero m rest = record { shorter = omega arith; same = refl }
    deeper later (suc j) m rest = let it = rest j (omega arith) in let short = it.shorter in record { shorter = omega arith; same = ap (λ (xs : List ℕ). c ∷ xs) it.same }

    by : (later : Option (List ℕ)) → turned classes front ≡ later → turned_at class c later ≡ Some next → ((later : List ℕ) → turned classes front ≡ Some later → (j : ℕ) → j < length later → Shared front later j) → Shared (c ∷ front) next k
    by None f g rest = last (ltb class.least c) g
    by (Some later) f g rest =
        let same : c ∷ later ≡ next = cc in
        subst (λ (xs : List ℕ). Shared (c ∷ front) xs k) same (deeper later k (omega (arith, ap (λ (xs : List ℕ). length xs) same)) (rest later f))

-- ---- counts within the ranges of all classes are among all counts

at_count : (Q : ℕ → Type 0) (least more c : ℕ) → AllByRecursion Q (counts_down least more) → least ≤ c → c ≤ least + more → Q c
at_count Q least zero c h l m = let same : least ≡ c = omega arith in subst Q same h.0
at_count Q least (suc more) c h l m =
    (elim (ltb (least + more) c) as (λ b. ltb (least + more) c ≡ b → Q c) [
      | true ↦ λ e. let above = ltb-true (least + more) c e in let same : least + suc more ≡ c = omega arith in subst Q same h.0
      | false ↦ λ e. at_count Q least more c h.1 l (not_above e)
    ]) refl
  where
    not_above : ltb (least + more) c ≡ false → c ≤ least + more
    not_above e = omega (arith, ltb-false (least + more) c e)

at_counts : (P : List ℕ → Type 0) (classes : List Class) (counts : List ℕ) → AllByRecursion P (all_counts classes) → Within classes counts → P counts
at_counts P [] [] h within = h.0
at_counts P [] (c ∷ counts) h within = absurd within
at_counts P (class ∷ classes) [] h within = absurd within
at_counts P (class ∷ classes) (c ∷ counts) h within =
    let low = within.0.0 in let high = within.0.1 in
    at_counts (λ later. P (c ∷ later)) classes counts
    (each_of_map P (λ later. c ∷ later) (all_counts classes)
    (at_count (λ c. AllByRecursion P (map (λ later. c ∷ later) (all_counts classes))) class.least (class.most - class.least) c
    (each_of_flat_map P (λ c. map (λ later. c ∷ later) (all_counts classes)) (counts_of class) h) low (omega arith)))
    within.1

-- ---- fronts that continue a front

bytes_itself : (front later : List ℕ) → bytes_eq front (take (length front) (front ++ later)) ≡ true
bytes_itself [] later = refl
bytes_itself (c ∷ front) later = and_from (eqb c c) (bytes_eq front (take (length front) (front ++ later))) (eq-eqb c c refl) (bytes_itself front later)

continues_itself : (classes : List Class) (front : List ℕ) → continues classes front front ≡ true
continues_itself classes front =
    and_from (leb (length front) (length front)) (bytes_eq front (take (length front) (filled classes front))) (le-leb (length front) (length front) (omega arith))
    (bytes_itself front (map (λ (class : Class). class.most) (later_than front classes)))

-- with one more count, the most of its class, a front is filled in the same way
filled_more : (classes : List Class) (front : List ℕ) (class : Class) (c : ℕ) → length front < length classes → class ≡ get_or classes (length front) class → c ≡ class.most → filled classes (front ++ c ∷ []) ≡ filled classes front
filled_more classes front class c l e f =
    let most : List Class → List ℕ = λ classes. map (λ class. class.most) classes in
    let many : length (front ++ c ∷ []) ≡ length front + 1 = length-append front (c ∷ []) in
    append_assoc front (c ∷ []) (most (drop (length (front ++ c ∷ [])) classes))
    ∙ ap (λ n. front ++ (c ∷ most (drop n classes))) many
    ∙ ap (λ n. front ++ (n ∷ most (drop (length front + 1) classes))) (f ∙ ap (λ (it : Class). it.most) e)
    ∙ sym (ap (λ (those : List Class). front ++ most those) (drop_more classes (length front) class l))

continues_less : (classes : List Class) (front f : List ℕ) (class : Class) (c : ℕ) → length front < length classes → class ≡ get_or classes (length front) class → c ≡ class.most → continues classes (front ++ c ∷ []) f ≡ true →
    continues classes front f ≡ true
continues_less classes front f class c l e g h =
    let parts = and_parts (leb (length (front ++ c ∷ [])) (length f)) (bytes_eq f (take (length f) (filled classes (front ++ c ∷ [])))) h in
    let long = leb-true (length (front ++ c ∷ [])) (length f) parts.0 in
    and_from (leb (length front) (length f)) (bytes_eq f (take (length f) (filled classes front))) (le-leb (length front) (length f) (omega (arith, length-append front (c ∷ []))))
    (ap (λ whole. bytes_eq f (take (length f) whole)) (sym (filled_more classes front class c l e g)) ∙ parts.1)

-- ---- the lines so far

module _ (all : Classes) (closed : List Row) (row : Row) where
  abbrev fronts : List FrontLine → List (List ℕ)
  fronts lines = map (λ line. line.front) lines

  abbrev live : List ℕ → Bool
  live = is_live_above all closed row row.b

  abbrev HasFirst : FrontLine → Type 0
  HasFirst line = first_cause all closed row line.front ≡ Some line.cause

  -- the lines are the first of a search, which tries `front` next: with a front that continues it and the fronts after that in order, all
  -- are in order
  pub record Tries (lines : List FrontLine) (front : List ℕ) : Type 0 where
    pub within : BeginsWithin all.classes front
    pub tried : IsTried all closed row front
    pub leads : (next : List ℕ) (later : List (List ℕ)) → continues all.classes front next ≡ true → are_in_order all.classes (turned all.classes next) later ≡ true →
        are_in_order all.classes (Some []) (fronts lines ++ next ∷ later) ≡ true
    pub each_tried : AllByRecursion (λ line. IsTried all closed row line.front) lines
    pub causes : AllByRecursion HasFirst lines

  pub begins : Tries [] []
  begins = record {
    within = tt;
    tried = λ k l. absurd (omega arith);
    leads = λ next later c order. and_from (continues all.classes [] next) (are_in_order all.classes (turned all.classes next) later) c order;
    each_tried = tt;
    causes = tt;
  }

  -- a live front has fewer counts than there are classes, since nothing qualifies
  pub live_is_short : (front : List ℕ) → first_above all closed row ≡ None → BeginsWithin all.classes front → first_cause all closed row front ≡ None → length front < length all.classes
  live_is_short front none within e =
      (elim (ltb (length front) (length all.classes)) as (λ b. ltb (length front) (length all.classes) ≡ b → length front < length all.classes) [
        | true ↦ λ t. ltb-true (length front) (length all.classes) t
        | false ↦ λ t. absurd (conflict (ltb-false (length front) (length all.classes) t))
      ]) refl
    where
      conflict : length all.classes ≤ length front → ⊥
      conflict l =
          let few = within_few all.classes front within in
          let split : Split all all.classes [] front = record { whole = sym (append-nil all.classes); fits = omega arith } in
          let whole = whole_from_live all closed row row.b all.classes front split (live_where_none_first all closed row front e) in
          let q : List ℕ → Bool = λ counts. attains closed counts && int_lt row.b (weight_in row.a counts) in
          let fails = at_counts (λ counts. is_composition all counts ≡ true → q counts ≡ false) all.classes front
          (each_from_filter (λ counts. q counts ≡ false) (is_composition all) (all_counts all.classes) (find-none q (compositions all) none))
          (within_all all.classes front within l) whole.composes in
          false≢true (sym fails ∙ and_from (attains closed front) (int_lt row.b (weight_in row.a front)) whole.attained whole.above)

  -- if the front is live, its first child is tried next
  pub goes_down : (lines : List FrontLine) (front : List ℕ) (class : Class) (c : ℕ) → KeepsLimits all → Tries lines front → first_cause all closed row front ≡ None → length front < length all.classes →
      class ≡ get_or all.classes (length front) class → c ≡ class.most → Tries lines (front ++ c ∷ [])
  goes_down lines front class c limits tries e l is most = record {
    within = within_more all.classes front class c limits.searchable.in_order tries.within l is most;
    tried = child;
    leads = λ next later h order. tries.leads next later (continues_less all.classes front next class c l is most h) order;
    each_tried = tries.each_tried;
    causes = tries.causes;
  }
    where
      child : IsTried all closed row (front ++ c ∷ [])
      child k m =
          (elim (ltb k (length front)) as (λ b. ltb k (length front) ≡ b → live (take k (front ++ c ∷ [])) ≡ true) [
            | true ↦ λ t. let below = ltb-true k (length front) t in ap live (take_shorter k below) ∙ tries.tried k below
            | false ↦ λ t. let above = ltb-false k (length front) t in ap live (take_whole k (omega (arith, length-append front (c ∷ [])))) ∙ live_where_none_first all closed row front e
          ]) refl
        where
          take_shorter : (k : ℕ) → k < length front → take k (front ++ c ∷ []) ≡ take k front
          take_shorter k b = let l : k ≤ length front = omega arith in rw take-append-le refl

          take_whole : (k : ℕ) → k ≡ length front → take k (front ++ c ∷ []) ≡ front
          take_whole k s = ap (λ n. take n (front ++ c ∷ [])) s ∙ take-append_seam front (c ∷ [])

  abbrev line_of : List ℕ → Cause → FrontLine
  line_of front cause = record { front = front; cause = cause }

  module _ (lines : List FrontLine) (front : List ℕ) (cause : Cause) (tries : Tries lines front) (first : first_cause all closed row front ≡ Some cause) where
    abbrev more : List FrontLine
    more = lines ++ line_of front cause ∷ []

    tried_more : AllByRecursion (λ line. IsTried all closed row line.front) more
    tried_more = each_append (λ line. IsTried all closed row line.front) lines (line_of front cause ∷ []) tries.each_tried (tries.tried, tt)

    causes_more : AllByRecursion HasFirst more
    causes_more = each_append HasFirst lines (line_of front cause ∷ []) tries.causes (first, tt)

    fronts_more : (later : List (List ℕ)) → fronts more ++ later ≡ fronts lines ++ front ∷ later
    fronts_more later =
        ap (λ (xs : List (List ℕ)). xs ++ later) (map-append (λ (line : FrontLine). line.front) lines (line_of front cause ∷ [])) ∙ append_assoc (fronts lines) (front ∷ []) later

    -- if the front isn't live, it is a line, and the front after it is tried next
    pub goes_on : (next : List ℕ) → turned all.classes front ≡ Some next → Tries more next
    goes_on next e = record {
      within = within_turned all.classes front next tries.within e;
      tried = λ k l. let it = shared all.classes front next e k l in ap live it.same ∙ tries.tried k it.shorter;
      leads = λ then later h order.
          ap (are_in_order all.classes (Some [])) (fronts_more (then ∷ later))
          ∙ tries.leads front (then ∷ later) (continues_itself all.classes front)
          (ap (λ (place : Option (List ℕ)). are_in_order all.classes place (then ∷ later)) e
          ∙ and_from (continues all.classes next then) (are_in_order all.classes (turned all.classes then) later) h order);
      each_tried = tried_more;
      causes = causes_more;
    }

    -- if no front comes after it, the lines are complete
    pub ends : turned all.classes front ≡ None → IsSearched all closed row more
    ends e = record {
      in_order = ap (are_in_order all.classes (Some [])) (sym (append-nil (fronts more)) ∙ fronts_more [])
          ∙ tries.leads front [] (continues_itself all.classes front) (ap (λ (place : Option (List ℕ)). are_in_order all.classes place []) e);
      tried = tried_more;
      causes = causes_more;
    }

-- ---- what the lines of a search cover

pub covers_where_searched : CoversWhereSearched
covers_where_searched all closed row lines searched = record {
  in_order = searched.in_order;
  causes = list_all_from_each (λ line. applies all closed row line.front line.cause) lines
      (each_map (λ line. first_cause all closed row line.front ≡ Some line.cause) (λ line. applies all closed row line.front line.cause ≡ true)
      (λ line e. find-passes (applies all closed row line.front) (causes all closed) line.cause e) lines searched.causes);
}

pub trees_cover_where_searched : TreesCoverWhereSearched
trees_cover_where_searched pool earlier [] trees searched = tt
trees_cover_where_searched pool earlier (stage ∷ later) trees searched =
    (covers_where_searched _ _ _ (first_tree trees) searched.0, trees_cover_where_searched pool (stage ∷ earlier) later (later_trees trees) searched.1)
