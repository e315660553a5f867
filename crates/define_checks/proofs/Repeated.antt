-- The lists are all different exactly if `first_repeated` finds none.
use Rattle.std.proofs.Common.{◌≡◌, ℕ, Bool, true, false, cond, not, ◌||◌, List, [], ◌∷◌, Some, None, refl, sym, ap, ◌∙◌}
use Rattle.std.specs.Prelude.{bytes_eq}
use Rattle.std.specs.List.{AllByRecursion}
use Rattle.std.proofs.lemmas.Bool.{and_from, and_parts, false≢true, false_from_ne_true, not-true, not_from_false, or_from, or_parts}
use Rattle.std.proofs.lemmas.Slice.Eq.{bytes_eq-Decides}
use Rattle.define_pools.proofs.Each.{each_both, each_everywhere, each_map}
use Rattle.define_pools.specs.Lists.{all_different, includes_list}
use Rattle.define_checks.specs.Reasons.{first_repeated}

-- none of the lists `xss` is among the lists `earlier`
abbrev New : List (List ℕ) → List (List ℕ) → Type 0
New earlier xss = AllByRecursion (λ xs. includes_list earlier xs ≡ false) xss

turned : (xs ys : List ℕ) → bytes_eq xs ys ≡ false → bytes_eq ys xs ≡ false
turned xs ys e = false_from_ne_true (bytes_eq ys xs) (λ t. false≢true (sym e ∙ (bytes_eq-Decides xs ys).1 (sym ((bytes_eq-Decides ys xs).0 t))))

-- If no list in `later` equals `xs`, `xs` isn't among them.
not_among : (xs : List ℕ) (later : List (List ℕ)) → AllByRecursion (λ ys. bytes_eq ys xs ≡ false) later → includes_list later xs ≡ false
not_among xs [] h = refl
not_among xs (ys ∷ later) h = or_from (bytes_eq xs ys) (includes_list later xs) (turned ys xs h.0) (not_among xs later h.1)

each_other : (xs : List ℕ) (later : List (List ℕ)) → includes_list later xs ≡ false → AllByRecursion (λ ys. bytes_eq ys xs ≡ false) later
each_other xs [] h = tt
each_other xs (ys ∷ later) h =
    let parts = or_parts (bytes_eq xs ys) (includes_list later xs) h in (turned xs ys parts.0, each_other xs later parts.1)

different_where_none : (earlier xss : List (List ℕ)) → first_repeated earlier xss ≡ None → New earlier xss × (all_different xss ≡ true)
different_where_none earlier [] e = (tt, refl)
different_where_none earlier (xs ∷ later) e = by (includes_list earlier xs) refl e (λ f. different_where_none (xs ∷ earlier) later f)
  where
    by : (b : Bool) → includes_list earlier xs ≡ b → cond b (Some xs) (first_repeated (xs ∷ earlier) later) ≡ None →
        (first_repeated (xs ∷ earlier) later ≡ None → New (xs ∷ earlier) later × (all_different later ≡ true)) → New earlier (xs ∷ later) × (all_different (xs ∷ later) ≡ true)
    by true t f rest = absurd cc
    by false t f rest =
        let known = rest f in
        let others = each_map (λ ys. (bytes_eq ys xs || includes_list earlier ys) ≡ false) (λ ys. bytes_eq ys xs ≡ false) (λ ys h. (or_parts (bytes_eq ys xs) (includes_list earlier ys) h).0) later known.0 in
        let new = each_map (λ ys. (bytes_eq ys xs || includes_list earlier ys) ≡ false) (λ ys. includes_list earlier ys ≡ false) (λ ys h. (or_parts (bytes_eq ys xs) (includes_list earlier ys) h).1) later known.0 in
        ((t, new), and_from (not (includes_list later xs)) (all_different later) (not_from_false (includes_list later xs) (not_among xs later others)) known.1)

none_where_different : (earlier xss : List (List ℕ)) → New earlier xss → all_different xss ≡ true → first_repeated earlier xss ≡ None
none_where_different earlier [] new h = refl
none_where_different earlier (xs ∷ later) new h =
    let parts = and_parts (not (includes_list later xs)) (all_different later) h in
    let others = each_other xs later (not-true (includes_list later xs) parts.0) in
    let both = each_both (λ ys. bytes_eq ys xs ≡ false) (λ ys. includes_list earlier ys ≡ false) later others new.1 in
    let rest = none_where_different (xs ∷ earlier) later
    (each_map (λ ys. (bytes_eq ys xs ≡ false) × (includes_list earlier ys ≡ false)) (λ ys. includes_list (xs ∷ earlier) ys ≡ false) (λ ys p. or_from (bytes_eq ys xs) (includes_list earlier ys) p.0 p.1) later both) parts.1 in
    ap (λ b. cond b (Some xs) (first_repeated (xs ∷ earlier) later)) new.0 ∙ rest

pub all_different_where_none : (xss : List (List ℕ)) → first_repeated [] xss ≡ None → all_different xss ≡ true
all_different_where_none xss e = (different_where_none [] xss e).1

pub none_where_all_different : (xss : List (List ℕ)) → all_different xss ≡ true → first_repeated [] xss ≡ None
none_where_all_different xss h = none_where_different [] xss (each_everywhere (λ xs. includes_list [] xs ≡ false) (λ xs. refl) xss) h
