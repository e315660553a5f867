-- The fronts of a tree in order leave out no counts: counts that come at the beginning of a front or after it begin with the front, or come
-- after it.
use Rattle.std.proofs.Common.{◌≡◌, ℕ, ◌-◌, ◌≤◌, ◌<◌, true, false, cond, eqb, leb, ltb, List, [], ◌∷◌, ◌++◌, map, length, take, drop, Option, Some, None, refl, sym, ap, ◌∙◌, ◌⊎◌, inl, inr, arith}
use Rattle.std.specs.Prelude.{bytes_eq}
use Rattle.std.specs.List.{AllByRecursion}
use Rattle.std.proofs.lemmas.Bool.{and_parts, eqb-true, leb-true, lt-ltb, ltb-true, ltb-false, false≢true}
use Rattle.define_pools.proofs.Each.{each_map, each_mapped}
use Rattle.define_searches.specs.Classes.{Class}
use Rattle.define_searches.specs.Compositions.{all_counts}
use Rattle.define_searches.proofs.FirstSearch.{Gives, InOrder}
use Rattle.define_searches.proofs.Listed.{each_count}
use Rattle.define_covers.specs.FrontOrder.{continues, filled, turned, turned_at}

-- ---- counts within the ranges of their classes

-- a list has a count for each class, from the least to the most that the class can give
abbrev pub Within : List Class → List ℕ → Type 0
Within [] [] = Unit {0}
Within [] (c ∷ counts) = ⊥
Within (class ∷ classes) [] = ⊥
Within (class ∷ classes) (c ∷ counts) = ((class.least ≤ c) × (c ≤ class.most)) × Within classes counts

pub all_counts_within : (classes : List Class) → InOrder classes → AllByRecursion (Within classes) (all_counts classes)
all_counts_within [] h = (tt, tt)
all_counts_within (class ∷ classes) h =
    let rest = all_counts_within classes h.1 in
    each_count (Within (class ∷ classes)) (λ c. map (λ counts. c ∷ counts) (all_counts classes)) class.least (class.most - class.least)
    (λ c lo hi. let o = h.0 in each_mapped (Within (class ∷ classes)) (λ counts. c ∷ counts) (all_counts classes)
    (each_map (Within classes) (λ counts. ((class.least ≤ c) × (c ≤ class.most)) × Within classes counts) (λ counts g. ((lo, omega arith), g)) (all_counts classes) rest))

pub front_fits : (classes : List Class) (front rest : List ℕ) → Within classes (front ++ rest) → length front ≤ length classes
front_fits classes [] rest h = omega arith
front_fits [] (c ∷ front) rest h = absurd h
front_fits (class ∷ classes) (c ∷ front) rest h = omega (arith, front_fits classes front rest h.1)

gives_all : (classes : List Class) (counts : List ℕ) → Within classes counts → Gives classes counts
gives_all [] [] h = tt
gives_all [] (c ∷ counts) h = absurd h
gives_all (class ∷ classes) [] h = absurd h
gives_all (class ∷ classes) (c ∷ counts) h = (h.0.1, gives_all classes counts h.1)

pub rest_gives : (classes : List Class) (front rest : List ℕ) → Within classes (front ++ rest) → Gives (drop (length front) classes) rest
rest_gives classes [] rest h = gives_all classes rest h
rest_gives [] (c ∷ front) rest h = absurd h
rest_gives (class ∷ classes) (c ∷ front) rest h = rest_gives classes front rest h.1

-- ---- a front that continues a beginning

-- the front begins with `beginning`, and has the most of each class after it. If there are too few classes, nothing is said
abbrev pub Follows : List Class → List ℕ → List ℕ → Type 0
Follows classes [] [] = Unit {0}
Follows [] [] (c ∷ front) = ⊥
Follows (class ∷ classes) [] (c ∷ front) = (c ≡ class.most) × Follows classes [] front
Follows classes (d ∷ beginning) [] = ⊥
Follows [] (d ∷ beginning) (c ∷ front) = Unit {0}
Follows (class ∷ classes) (d ∷ beginning) (c ∷ front) = (c ≡ d) × Follows classes beginning front

follows_bytes : (classes : List Class) (beginning front : List ℕ) → length beginning ≤ length front → bytes_eq front (take (length front) (filled classes beginning)) ≡ true → Follows classes beginning front
follows_bytes classes [] [] l e = tt
follows_bytes [] [] (c ∷ front) l e = absurd (false≢true e)
follows_bytes (class ∷ classes) [] (c ∷ front) l e =
    let parts = and_parts (eqb c class.most) (bytes_eq front (take (length front) (filled classes []))) e in
    (eqb-true c class.most parts.0, follows_bytes classes [] front (omega arith) parts.1)
follows_bytes classes (d ∷ beginning) [] l e = absurd (omega arith)
follows_bytes [] (d ∷ beginning) (c ∷ front) l e = tt
follows_bytes (class ∷ classes) (d ∷ beginning) (c ∷ front) l e =
    let parts = and_parts (eqb c d) (bytes_eq front (take (length front) (filled classes beginning))) e in
    (eqb-true c d parts.0, follows_bytes classes beginning front (omega arith) parts.1)

pub follows_where_continues : (classes : List Class) (beginning front : List ℕ) → continues classes beginning front ≡ true → Follows classes beginning front
follows_where_continues classes beginning front e =
    let parts = and_parts (leb (length beginning) (length front)) (bytes_eq front (take (length front) (filled classes beginning))) e in
    follows_bytes classes beginning front (leb-true (length beginning) (length front) parts.0) parts.1

-- ---- the order of counts

-- the counts begin with `beginning`, or have a lower count for the first class in which they differ
abbrev pub AtOrAfter : List ℕ → List ℕ → Type 0
AtOrAfter [] counts = Unit {0}
AtOrAfter (d ∷ beginning) [] = ⊥
AtOrAfter (d ∷ beginning) (x ∷ counts) = (x < d) ⊎ ((x ≡ d) × AtOrAfter beginning counts)

pub record Extends (front counts : List ℕ) : Type 0 where
  pub rest : List ℕ
  pub whole : counts ≡ front ++ rest

-- the front after `front` begins so that the counts come at its beginning or after it
pub record After (classes : List Class) (front counts : List ℕ) : Type 0 where
  pub beginning : List ℕ
  pub next : turned classes front ≡ Some beginning
  pub at_or_after : AtOrAfter beginning counts

-- counts with a lower count in the first place come after the front
lower : (class : Class) (classes : List Class) (c : ℕ) (front : List ℕ) (x : ℕ) (counts : List ℕ) → class.least ≤ x → x < c → After (class ∷ classes) (c ∷ front) (x ∷ counts)
lower class classes c front x counts low less = by (turned classes front) refl
  where
    at_last : turned_at class c None ≡ Some ((c - 1) ∷ [])
    at_last = ap (λ b. cond b (Some ((c - 1) ∷ [])) None) (lt-ltb class.least c (omega arith))

    last_count : (x < c - 1) ⊎ ((x ≡ c - 1) × Unit {0})
    last_count =
        (elim (ltb x (c - 1)) as (λ b. ltb x (c - 1) ≡ b → (x < c - 1) ⊎ ((x ≡ c - 1) × Unit {0})) [
          | true ↦ λ e. inl (ltb-true x (c - 1) e)
          | false ↦ λ e. let l = ltb-false x (c - 1) e in inr (omega arith, tt)
        ]) refl

    by : (next : Option (List ℕ)) → turned classes front ≡ next → After (class ∷ classes) (c ∷ front) (x ∷ counts)
    by (Some beginning) e = record { beginning = c ∷ beginning; next = ap (turned_at class c) e; at_or_after = inl less }
    by None e = record { beginning = (c - 1) ∷ []; next = ap (turned_at class c) e ∙ at_last; at_or_after = last_count }

-- an equal count in the first place
equal : (class : Class) (classes : List Class) (c : ℕ) (front : List ℕ) (x : ℕ) (counts : List ℕ) → x ≡ c → Extends front counts ⊎ After classes front counts →
    Extends (c ∷ front) (x ∷ counts) ⊎ After (class ∷ classes) (c ∷ front) (x ∷ counts)
equal class classes c front x counts e (inl extends) = inl (record { rest = extends.rest; whole = let f = extends.whole in cc })
equal class classes c front x counts e (inr after) = inr (record { beginning = c ∷ after.beginning; next = ap (turned_at class c) after.next; at_or_after = inr (e, after.at_or_after) })

-- counts at the beginning of a front or after it begin with the front, or come after it
pub begins_or_after : (classes : List Class) (beginning front counts : List ℕ) → Follows classes beginning front → Within classes counts → AtOrAfter beginning counts → Extends front counts ⊎ After classes front counts
begins_or_after classes [] [] counts follows within at = inl (record { rest = counts; whole = refl })
begins_or_after classes (d ∷ beginning) [] counts follows within at = absurd follows
begins_or_after [] [] (c ∷ front) counts follows within at = absurd follows
begins_or_after [] (d ∷ beginning) (c ∷ front) [] follows within at = absurd at
begins_or_after [] (d ∷ beginning) (c ∷ front) (x ∷ counts) follows within at = absurd within
begins_or_after (class ∷ classes) [] (c ∷ front) [] follows within at = absurd within
begins_or_after (class ∷ classes) [] (c ∷ front) (x ∷ counts) follows within at =
    let rest = begins_or_after classes [] front counts follows.1 within.1 tt in
    let top = follows.0 in let most = within.0.1 in
    (elim (ltb x c) as (λ b. ltb x c ≡ b → Extends (c ∷ front) (x ∷ counts) ⊎ After (class ∷ classes) (c ∷ front) (x ∷ counts)) [
      | true ↦ λ e. inr (lower class classes c front x counts within.0.0 (ltb-true x c e))
      | false ↦ λ e. let l = ltb-false x c e in equal class classes c front x counts (omega arith) rest
    ]) refl
begins_or_after (class ∷ classes) (d ∷ beginning) (c ∷ front) [] follows within at = absurd at
begins_or_after (class ∷ classes) (d ∷ beginning) (c ∷ front) (x ∷ counts) follows within (inl less) =
    let same = follows.0 in inr (lower class classes c front x counts within.0.0 (omega arith))
begins_or_after (class ∷ classes) (d ∷ beginning) (c ∷ front) (x ∷ counts) follows within (inr at) =
    let same = follows.0 in
    equal class classes c front x counts (at.0 ∙ sym same) (begins_or_after classes beginning front counts follows.1 within.1 at.1)
