use Rattle.std.proofs.Common.{◌≡◌, ℕ, List, [], ◌∷◌, length, get_or, map, arith, refl}
use Rattle.std.proofs.Common.{Bor}
use Rattle.std.proofs.lemmas.List.{length-map}
use Rattle.define_bundles.specs.PoolReading.{OfValue, Unknown, ValueWord, bound_of, entry_of_word}
use Rattle.pool_text.proofs.entries.value_entry.Goals as goal

-- if a value line doesn't have three fields after its word, the entry is unknown
not_three : (fields : List (List ℕ)) → (length fields ≡ 3 → ⊥) → Unknown ≡ entry_of_word ValueWord fields
not_three [] h = refl
not_three (name ∷ []) h = refl
not_three (name ∷ lower ∷ []) h = refl
not_three (name ∷ lower ∷ upper ∷ []) h = absurd (h refl)
not_three (name ∷ lower ∷ upper ∷ other ∷ fields) h = refl

pub returns-then-rest-ne3 : goal.returns-then-rest-ne3
returns-then-rest-ne3 c =
    let same = length-map c.args.rest.now (λ field. field.now) in
    not_three (map (λ field. field.now) c.args.rest.now) (λ e. omega (arith, same))

-- if a value line has three fields after its word, the entry is the value made of these fields
three : (fields : List (Bor (List ℕ))) (none : Bor (List ℕ)) (lower upper : ℕ) → length fields ≡ 3 →
    lower ≡ bound_of (get_or fields 1 none).now → upper ≡ bound_of (get_or fields 2 none).now →
    OfValue (record { name = (get_or fields 0 none).now; lower = lower; upper = upper }) ≡ entry_of_word ValueWord (map (λ field. field.now) fields)
three [] none lower upper h e f = absurd (omega arith)
three (a ∷ []) none lower upper h e f = absurd (omega arith)
three (a ∷ b ∷ []) none lower upper h e f = absurd (omega arith)
three (a ∷ b ∷ d ∷ []) none lower upper h e f = cc
three (a ∷ b ∷ d ∷ g ∷ fields) none lower upper h e f = absurd (omega arith)

pub returns : goal.returns
returns c = three c.args.rest.now _ c.bound_of.result c.bound_of-2.result c.if-rest-ne3.false c.bound_of.ensures c.bound_of-2.ensures
