-- The numbers of the volunteers whose ids are in a list, found volunteer by volunteer.
use Rattle.std.proofs.Common.{◌≡◌, ℕ, suc, ◌+◌, ◌<◌, Bool, true, false, cond, List, [], ◌∷◌, ◌++◌, length, get_or, filter, None, sym, ap, ◌∙◌, arith}
use Rattle.std.specs.List.{range_with_len}
use Rattle.std.proofs.lemmas.List.{append-nil, get_or_read}
use Rattle.std.proofs.lemmas.List.Elements.{filter-append}
use Rattle.define_pools.proofs.Lists.{range-more}
use Rattle.define_pools.specs.declared.Standing.TheVariants.{Gone}
use Rattle.define_pools.specs.Lists.{includes_list}
use Rattle.define_pools.specs.Pool.{Volunteer, volunteer}

-- the numbers below `count` that satisfy `test`
abbrev pub passing : (ℕ → Bool) → ℕ → List ℕ
passing test count = filter test (range_with_len 0 count)

passing-more : (test : ℕ → Bool) (count : ℕ) → passing test (count + 1) ≡ passing test count ++ cond (test count) (count ∷ []) []
passing-more test count =
    let one : count + 1 ≡ suc count = omega arith in
    let on : 0 + count ≡ count = omega arith in
    rw one (ap (filter test) (rw on at (range-more 0 count)) ∙ filter-append test (range_with_len 0 count) (count ∷ []))

module _ (volunteers : List Volunteer) (ids : List (List ℕ)) where
  abbrev pub has_one : ℕ → Bool
  has_one i = includes_list ids (volunteer volunteers i).id

  -- if `v` is volunteer `i`, with this `id`, and `has` says whether `id` is in `ids`, then `has_one i` is `has`
  told : (i : ℕ) (v : Volunteer) (id : List ℕ) (has : Bool) → i < length volunteers → v ≡ get_or volunteers i v → id ≡ v.id → has ≡ includes_list ids id → has_one i ≡ has
  told i v id has h k e t =
      let read : v ≡ volunteer volunteers i = get_or_read volunteers i v h k (record { id = []; values = []; standing = Gone; household = None }) in
      sym (t ∙ ap (includes_list ids) (e ∙ ap (λ (one : Volunteer). one.id) read))

  pub numbers-more : (i : ℕ) (v : Volunteer) (id : List ℕ) (has : Bool) (before after : List ℕ) → i < length volunteers → v ≡ get_or volunteers i v → id ≡ v.id → has ≡ includes_list ids id →
      before ≡ passing has_one i → after ≡ before ++ cond has (i ∷ []) [] → after ≡ passing has_one (i + 1)
  numbers-more i v id has before after h k e t b a =
      a ∙ (ap (λ (numbers : List ℕ). numbers ++ cond has (i ∷ []) []) b
      ∙ (ap (λ (is : Bool). passing has_one i ++ cond is (i ∷ []) []) (sym (told i v id has h k e t)) ∙ sym (passing-more has_one i)))

pub with_it : (has : Bool) (i : ℕ) (before after : List ℕ) → has ≡ true → after ≡ before ++ i ∷ [] → after ≡ before ++ cond has (i ∷ []) []
with_it has i before after h e = rw h e

pub without_it : (has : Bool) (i : ℕ) (before after : List ℕ) → has ≡ false → after ≡ before → after ≡ before ++ cond has (i ∷ []) []
without_it has i before after h e = rw h (e ∙ sym (append-nil before))
