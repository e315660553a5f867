-- As ids are different, the search for an id may begin behind the volunteers who were passed.
use Rattle.std.proofs.Common.{◌≡◌, ℕ, zero, suc, ◌+◌, ◌<◌, ◌≤◌, Bool, true, false, cond, ltb, leb, not, ◌||◌, List, [], ◌∷◌, drop, length, Option, Some, None, is_some, option_map, unwrap_or, refl, sym, ap, ◌∙◌, arith, position}
use Rattle.std.specs.List.{position_or_len}
use Rattle.std.specs.Str.{bytes_eq}
use Rattle.std.proofs.lemmas.Bool.{lt-ltb, le-leb, ltb-true, leb-true, and_parts, or_parts, not-true, false_from_ne_true, cond_both, false≢true}
use Rattle.std.proofs.lemmas.Bool.Decides.{nat_tests}
use Rattle.std.proofs.lemmas.Slice.Eq.{bytes_eq-Decides}
use Rattle.define_pools.proofs.Tests.{ltb-more}
use Rattle.define_pools.specs.Lists.{includes_list, all_different}
use Rattle.define_pools.specs.Pool.{Volunteer}
use Rattle.define_pools.specs.Building.{ids}
use Rattle.define_bundles.specs.PoolReading.{number_of, is_ahead}
use Rattle.pool_text.specs.Ahead.{ahead}

-- the number, where one more volunteer comes before
abbrev later : Option ℕ → Option ℕ
later o = option_map (λ n. 1 + n) o

moved : (b : Bool) (n : ℕ) → cond b (Some (1 + n)) None ≡ later (cond b (Some n) None)
moved true n = refl
moved false n = refl

number_of_more : (volunteer : Volunteer) (volunteers : List Volunteer) (id : List ℕ) → number_of (volunteer ∷ volunteers) id ≡ cond (bytes_eq id volunteer.id) (Some 0) (later (number_of volunteers id))
number_of_more volunteer volunteers id =
    let n = position_or_len (λ (v : Volunteer). bytes_eq id v.id) volunteers in
    elim (bytes_eq id volunteer.id) as (λ b. (let m = cond (not b) (1 + n) 0 in cond (ltb m (suc (length volunteers))) (Some m) None) ≡ cond b (Some 0) (later (number_of volunteers id))) [
      | true ↦ rw (lt-ltb 0 (suc (length volunteers)) (omega arith)) refl
      | false ↦ rw (ltb-more n (length volunteers)) (moved (ltb n (length volunteers)) n)
    ]

-- an id that no volunteer has is not found behind the first `passed`
none_behind : (passed : ℕ) (volunteers : List Volunteer) (id : List ℕ) → includes_list (ids volunteers) id ≡ false → number_of (drop passed volunteers) id ≡ None
none_behind zero [] id h = refl
none_behind (suc passed) [] id h = refl
none_behind zero (volunteer ∷ volunteers) id h =
    let parts = or_parts (bytes_eq id volunteer.id) (includes_list (ids volunteers) id) h in
    number_of_more volunteer volunteers id ∙ ap (λ b. cond b (Some 0) (later (number_of volunteers id))) parts.0 ∙ ap later (none_behind zero volunteers id parts.1)
none_behind (suc passed) (volunteer ∷ volunteers) id h =
    none_behind passed volunteers id (or_parts (bytes_eq id volunteer.id) (includes_list (ids volunteers) id) h).1

from_first : (o : Option ℕ) → ahead 0 o ≡ option_map (λ n. 0 + n) o
from_first None = refl
from_first (Some n) =
    let e : n ≡ 0 + n = omega arith in ap (λ b. cond b (Some n) None) (le-leb 0 n (omega arith)) ∙ ap Some e

ahead_later : (passed : ℕ) (o : Option ℕ) → ahead (suc passed) (later o) ≡ later (ahead passed o)
ahead_later passed None = refl
ahead_later passed (Some n) =
    let same : leb (suc passed) (1 + n) ≡ leb passed n = grind (arith, nat_tests) in
    ap (λ b. cond b (Some (1 + n)) None) same ∙ moved (leb passed n) n

added : (passed : ℕ) (o : Option ℕ) → later (option_map (λ n. passed + n) o) ≡ option_map (λ n. suc passed + n) o
added passed None = refl
added passed (Some n) = let e : 1 + (passed + n) ≡ suc passed + n = omega arith in ap Some e

pub number_behind : (passed : ℕ) (volunteers : List Volunteer) (id : List ℕ) → all_different (ids volunteers) ≡ true → passed ≤ length volunteers →
    ahead passed (number_of volunteers id) ≡ option_map (λ n. passed + n) (number_of (drop passed volunteers) id)
number_behind zero volunteers id h k = from_first (number_of volunteers id)
number_behind (suc passed) [] id h k = absurd (omega arith)
number_behind (suc passed) (volunteer ∷ volunteers) id h k =
    let parts = and_parts (not (includes_list (ids volunteers) volunteer.id)) (all_different (ids volunteers)) h in
    let rest = number_of volunteers id in let behind = number_of (drop passed volunteers) id in
    ap (ahead (suc passed)) (number_of_more volunteer volunteers id)
    ∙ (elim (bytes_eq id volunteer.id) as (λ b. bytes_eq id volunteer.id ≡ b → ahead (suc passed) (cond b (Some 0) (later rest)) ≡ option_map (λ n. suc passed + n) behind) [
      | true ↦ λ e.
          let same : id ≡ volunteer.id = (bytes_eq-Decides id volunteer.id).0 e in
          let none : behind ≡ None = none_behind passed volunteers id (ap (includes_list (ids volunteers)) same ∙ not-true (includes_list (ids volunteers) volunteer.id) parts.0) in
          let before : leb (suc passed) 0 ≡ false = false_from_ne_true (leb (suc passed) 0) (λ k. absurd (omega (arith, leb-true (suc passed) 0 k))) in
          ap (λ b. cond b (Some 0) None) before ∙ sym (ap (option_map (λ n. suc passed + n)) none)
      | false ↦ λ e. ahead_later passed rest ∙ ap later (number_behind passed volunteers id parts.1 (omega arith)) ∙ added passed behind
    ]) refl

pub none_past : (passed : ℕ) (volunteers : List Volunteer) (id : List ℕ) → length volunteers < passed → None ≡ ahead passed (number_of volunteers id)
none_past passed volunteers id h =
    let n = position_or_len (λ (v : Volunteer). bytes_eq id v.id) volunteers in
    cond_both (ltb n (length volunteers)) (Some n) None (λ o. None ≡ ahead passed o)
    (λ e. let not_ahead : leb passed n ≡ false = false_from_ne_true (leb passed n) (λ k. absurd (omega (arith, ltb-true n (length volunteers) e, leb-true passed n k))) in sym (ap (λ b. cond b (Some n) None) not_ahead))
    (λ e. refl)

-- the number found behind those who were passed
pub some_behind : (passed : ℕ) (volunteers : List Volunteer) (id : List ℕ) (number : ℕ) → all_different (ids volunteers) ≡ true → passed ≤ length volunteers → Some number ≡ number_of (drop passed volunteers) id →
    Some (passed + number) ≡ ahead passed (number_of volunteers id)
some_behind passed volunteers id number h k found = sym (number_behind passed volunteers id h k ∙ ap (option_map (λ n. passed + n)) (sym found))

pub none_found : (passed : ℕ) (volunteers : List Volunteer) (id : List ℕ) → all_different (ids volunteers) ≡ true → passed ≤ length volunteers → None ≡ number_of (drop passed volunteers) id →
    None ≡ ahead passed (number_of volunteers id)
none_found passed volunteers id h k found = sym (number_behind passed volunteers id h k ∙ ap (option_map (λ n. passed + n)) (sym found))

pub found_ahead : (passed : ℕ) (o : Option ℕ) → is_some (ahead passed o) ≡ is_ahead passed o
found_ahead passed None = refl
found_ahead passed (Some n) =
    elim (leb passed n) as (λ b. is_some (cond b (Some n) None) ≡ b) [ true ↦ refl | false ↦ refl ]

-- a number ahead is found
pub not_none : (passed : ℕ) (o : Option ℕ) → is_ahead passed o ≡ true → None ≡ ahead passed o → ⊥
not_none passed o h none = false≢true (ap is_some none ∙ found_ahead passed o ∙ h)

pub same_number : (passed : ℕ) (o : Option ℕ) (number : ℕ) → Some number ≡ ahead passed o → number ≡ unwrap_or o 0
same_number passed None number h = cc
same_number passed (Some n) number h =
    (elim (leb passed n) as (λ b. Some number ≡ cond b (Some n) None → number ≡ n) [ true ↦ λ e. cc | false ↦ λ e. cc ]) h
