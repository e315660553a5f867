-- Counts that fit their classes: those of a beginning, of the front that continues it, and of the beginning after that.
use Rattle.std.proofs.Common.{◌≡◌, ℕ, zero, suc, ◌+◌, ◌-◌, ◌≤◌, ◌<◌, Bool, true, false, cond, eqb, leb, ltb, List, [], ◌∷◌, ◌++◌, map, length, take, drop, get_or, Option, Some, None, refl, sym, ap, ◌∙◌, subst, arith}
use Rattle.std.specs.Prelude.{bytes_eq, slice_index}
use Rattle.std.specs.List.{AllByRecursion}
use Rattle.std.proofs.lemmas.Bool.{and_parts, eqb-true, false≢true, lt-ltb, le-ltb}
use Rattle.std.proofs.lemmas.List.{drop_all}
use Rattle.std.proofs.lemmas.List.Elements.{recursion_from_All}
use Rattle.define_searches.specs.Classes.{Class, Classes, KeepsLimits}
use Rattle.define_searches.specs.Front.{AreWithin}
use Rattle.define_covers.specs.FrontOrder.{continues, filled, turned, turned_at}
use Rattle.define_covers.specs.Counts.{Fits}

pub fits_few : (classes : List Class) (counts : List ℕ) → Fits classes counts → length counts ≤ length classes
fits_few classes [] h = omega arith
fits_few [] (c ∷ counts) h = absurd h
fits_few (class ∷ classes) (c ∷ counts) h = omega (arith, fits_few classes counts h.1)

fits_at : (classes : List Class) (counts : List ℕ) → Fits classes counts → (t : ℕ) → t < length counts → slice_index counts t ≤ slice_index (map (λ class. length class.members) classes) t
fits_at classes [] h t l = absurd (omega arith)
fits_at [] (c ∷ counts) h t l = absurd h
fits_at (class ∷ classes) (c ∷ counts) h zero l = h.0
fits_at (class ∷ classes) (c ∷ counts) h (suc t) l = fits_at classes counts h.1 t (omega arith)

pub fits_within : (all : Classes) (counts : List ℕ) → Fits all.classes counts → AreWithin all counts
fits_within all counts h = fits_at all.classes counts h

fits_bytes : (classes : List Class) (beginning front : List ℕ) → AllByRecursion (λ class. class.most ≤ length class.members) classes → Fits classes beginning →
    bytes_eq front (take (length front) (filled classes beginning)) ≡ true → Fits classes front
fits_bytes classes beginning [] most h e = tt
fits_bytes [] [] (c ∷ front) most h e = absurd (false≢true e)
fits_bytes [] (d ∷ beginning) (c ∷ front) most h e = absurd h
fits_bytes (class ∷ classes) [] (c ∷ front) most h e =
    let parts = and_parts (eqb c class.most) (bytes_eq front (take (length front) (filled classes []))) e in
    let same = eqb-true c class.most parts.0 in let within = most.0 in
    (omega arith, fits_bytes classes [] front most.1 tt parts.1)
fits_bytes (class ∷ classes) (d ∷ beginning) (c ∷ front) most h e =
    let parts = and_parts (eqb c d) (bytes_eq front (take (length front) (filled classes beginning))) e in
    let same = eqb-true c d parts.0 in let within = h.0 in
    (omega arith, fits_bytes classes beginning front most.1 h.1 parts.1)

pub front_fits : (all : Classes) (classes : List Class) (beginning front : List ℕ) → KeepsLimits all → classes ≡ all.classes → Fits all.classes beginning → continues classes beginning front ≡ true → Fits all.classes front
front_fits all classes beginning front limits e h c =
    let here : continues all.classes beginning front ≡ true = ap (λ cs. continues cs beginning front) (sym e) ∙ c in
    let parts = and_parts (leb (length beginning) (length front)) (bytes_eq front (take (length front) (filled all.classes beginning))) here in
    fits_bytes all.classes beginning front (recursion_from_All (λ (class : Class). class.most ≤ length class.members) all.classes limits.most) h parts.1

pub turned_fits : (classes : List Class) (front next : List ℕ) → Fits classes front → turned classes front ≡ Some next → Fits classes next
turned_fits [] front next h e = absurd cc
turned_fits (class ∷ classes) [] next h e = absurd cc
turned_fits (class ∷ classes) (c ∷ front) next h e = by (turned classes front) refl e (λ later f. turned_fits classes front later h.1 f)
  where
    last : (b : Bool) → cond b (Some ((c - 1) ∷ [])) None ≡ Some next → Fits (class ∷ classes) next
    last false f = absurd cc
    last true f =
        let same : next ≡ (c - 1) ∷ [] = cc in let within = h.0 in
        let fits : Fits (class ∷ classes) ((c - 1) ∷ []) = (omega arith, tt) in rw same fits

    by : (later : Option (List ℕ)) → turned classes front ≡ later → turned_at class c later ≡ Some next → ((later : List ℕ) → turned classes front ≡ Some later → Fits classes later) → Fits (class ∷ classes) next
    by None f g rest = last (ltb class.least c) g
    by (Some later) f g rest =
        let same : next ≡ c ∷ later = cc in
        let fits : Fits (class ∷ classes) (c ∷ later) = (h.0, rest later f) in rw same fits

-- ---- the last count above its least

here_turns : (classes : List Class) (front : List ℕ) (place : ℕ) (class : Class) (count : ℕ) → place < length classes → place < length front → class ≡ get_or classes place class → count ≡ get_or front place 0 →
    turned (drop (suc place) classes) (drop (suc place) front) ≡ None → class.least < count → turned classes front ≡ Some (take place front ++ (count - 1) ∷ [])
here_turns [] front place class count l m e f none above = absurd (omega arith)
here_turns (k ∷ classes) [] place class count l m e f none above = absurd (omega arith)
here_turns (k ∷ classes) (c ∷ front) zero class count l m e f none above =
    let same : class ≡ k = e in let is : count ≡ c = f in
    let below : ltb k.least c ≡ true = lt-ltb k.least c (omega (arith, ap (λ (it : Class). it.least) same)) in
    ap (turned_at k c) none ∙ ap (λ b. cond b (Some ((c - 1) ∷ [])) None) below ∙ ap (λ n. Some ((n - 1) ∷ [])) (sym is)
here_turns (k ∷ classes) (c ∷ front) (suc place) class count l m e f none above =
    ap (turned_at k c) (here_turns classes front place class count (omega arith) (omega arith) e f none above)

here_stays : (classes : List Class) (front : List ℕ) (place : ℕ) (class : Class) (count : ℕ) → place < length classes → place < length front → class ≡ get_or classes place class → count ≡ get_or front place 0 →
    turned (drop (suc place) classes) (drop (suc place) front) ≡ None → count ≤ class.least → turned (drop place classes) (drop place front) ≡ None
here_stays [] front place class count l m e f none few = absurd (omega arith)
here_stays (k ∷ classes) [] place class count l m e f none few = absurd (omega arith)
here_stays (k ∷ classes) (c ∷ front) zero class count l m e f none few =
    let same : class ≡ k = e in let is : count ≡ c = f in
    let low : ltb k.least c ≡ false = le-ltb k.least c (omega (arith, ap (λ (it : Class). it.least) same)) in
    ap (turned_at k c) none ∙ ap (λ b. cond b (Some ((c - 1) ∷ [])) None) low
here_stays (k ∷ classes) (c ∷ front) (suc place) class count l m e f none few = here_stays classes front place class count (omega arith) (omega arith) e f none few

module _ (classes : List Class) (front : List ℕ) (place next : ℕ) (class : Class) (count : ℕ) (l : place < length classes) (m : place < length front) (e : class ≡ get_or classes place class) (f : count ≡ get_or front place 0)
    (is : next ≡ place + 1) (none : turned (drop next classes) (drop next front) ≡ None) where
  from_next : turned (drop (suc place) classes) (drop (suc place) front) ≡ None
  from_next = let same : next ≡ suc place = omega arith in subst (λ n. turned (drop n classes) (drop n front) ≡ None) same none

  -- a count above its least, behind which each count is the least
  pub turned_here : class.least < count → turned classes front ≡ Some (take place front ++ (count - 1) ∷ [])
  turned_here above = here_turns classes front place class count l m e f from_next above

  -- a count that isn't above its least doesn't turn
  pub still_none : count ≤ class.least → turned (drop place classes) (drop place front) ≡ None
  still_none few = here_stays classes front place class count l m e f from_next few

nothing_turns : (classes : List Class) → turned classes [] ≡ None
nothing_turns [] = refl
nothing_turns (class ∷ classes) = refl

-- behind the front nothing turns
pub none_left : (classes : List Class) (front : List ℕ) (n : ℕ) → length front ≤ n → turned (drop n classes) (drop n front) ≡ None
none_left classes front n l = ap (turned (drop n classes)) (drop_all n front l) ∙ nothing_turns (drop n classes)
