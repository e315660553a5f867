-- A list with one element changed is made of the part before it, the changed element, and the part after it.
use Rattle.std.proofs.Common.{◌≡◌, ◌≤◌, ◌<◌, ◌+◌, ◌-◌, ℕ, zero, suc, List, [], ◌∷◌, ◌++◌, drop, get_or, length, take, true, refl, sym, ap, ◌∙◌, ◌⊎◌, inl, inr, arith}
use Rattle.std.proofs.lemmas.List.{length-drop, take_all}
use Rattle.define_offices.specs.Tables.{Entry, Round, changed_at, changed_named}
use Rattle.define_offices.specs.Steps.{withdrawn_at}

pub changed-parts : (change : Round → Round) (rounds : List Round) (place : ℕ) (d : Round) → place < length rounds →
    (take place rounds ++ change (get_or rounds place d) ∷ []) ++ drop (suc place) rounds ≡ changed_at change rounds place
changed-parts change [] place d h = absurd (omega arith)
changed-parts change (round ∷ rounds) zero d h = refl
changed-parts change (round ∷ rounds) (suc place) d h = ap (λ later. round ∷ later) (changed-parts change rounds place d (omega arith))

pub changed-beyond : (change : Round → Round) (rounds : List Round) (place : ℕ) → length rounds ≤ place → changed_at change rounds place ≡ rounds
changed-beyond change [] place h = refl
changed-beyond change (round ∷ rounds) zero h = absurd (omega arith)
changed-beyond change (round ∷ rounds) (suc place) h = ap (λ later. round ∷ later) (changed-beyond change rounds place (omega arith))

pub withdrawn-parts : (register : List Entry) (place : ℕ) (d : Entry) → place < length register →
    (take place register ++ (record (get_or register place d) { withdrawn = true }) ∷ []) ++ drop (suc place) register ≡ withdrawn_at register place
withdrawn-parts [] place d h = absurd (omega arith)
withdrawn-parts (entry ∷ register) zero d h = refl
withdrawn-parts (entry ∷ register) (suc place) d h = ap (λ later. entry ∷ later) (withdrawn-parts register place d (omega arith))

pub withdrawn-beyond : (register : List Entry) (place : ℕ) → length register ≤ place → withdrawn_at register place ≡ register
withdrawn-beyond [] place h = refl
withdrawn-beyond (entry ∷ register) zero h = absurd (omega arith)
withdrawn-beyond (entry ∷ register) (suc place) h = ap (λ later. entry ∷ later) (withdrawn-beyond register place (omega arith))

rest : {X : Type 0} (n : ℕ) (xs : List X) → take (length xs - n) (drop n xs) ≡ drop n xs
rest n xs = take_all (length xs - n) (drop n xs) (let e = length-drop n xs in omega arith)

-- the rows before `place`, the changed row and the rows after it, joined, are the register with row `place` withdrawn
pub withdrawn-whole : (register all pushed after : List Entry) (place : ℕ) (old entry : Entry) → all ≡ pushed ++ take (length register - (place + 1)) (drop (place + 1) register) → pushed ≡ after ++ entry ∷ [] →
    after ≡ take place register → entry ≡ record old { withdrawn = true } → old ≡ get_or register place old → place < length register → all ≡ withdrawn_at register place
withdrawn-whole register all pushed after place old entry is put front new at h =
    let entry_is : entry ≡ record (get_or register place old) { withdrawn = true } = new ∙ ap (λ (e : Entry). record e { withdrawn = true }) at in
    let more : drop (place + 1) register ≡ drop (suc place) register = let one : place + 1 ≡ suc place = omega arith in ap (λ n. drop n register) one in
    is ∙ (ap (λ xs. pushed ++ xs) (rest (place + 1) register ∙ more) ∙
    (ap (λ xs. xs ++ drop (suc place) register) (put ∙ (ap (λ xs. xs ++ entry ∷ []) front ∙ ap (λ e. take place register ++ e ∷ []) entry_is)) ∙ withdrawn-parts register place old h))

pub changed-whole : (change : Round → Round) (rounds all pushed after : List Round) (number place : ℕ) (old round : Round) → number ≡ suc place →
    all ≡ pushed ++ take (length rounds - (place + 1)) (drop (place + 1) rounds) → pushed ≡ after ++ round ∷ [] → after ≡ take place rounds → round ≡ change old → old ≡ get_or rounds place old → number ≤ length rounds →
    all ≡ changed_named change rounds number
changed-whole change rounds all pushed after number place old round number_is is put front new at h =
    let round_is : round ≡ change (get_or rounds place old) = new ∙ ap change at in
    let more : drop (place + 1) rounds ≡ drop (suc place) rounds = let one : place + 1 ≡ suc place = omega arith in ap (λ n. drop n rounds) one in
    let inside : place < length rounds = omega arith in
    let named : changed_at change rounds place ≡ changed_named change rounds number = ap (λ n. changed_named change rounds n) (sym number_is) in
    is ∙ (ap (λ xs. pushed ++ xs) (rest (place + 1) rounds ∙ more) ∙
    (ap (λ xs. xs ++ drop (suc place) rounds) (put ∙ (ap (λ xs. xs ++ round ∷ []) front ∙ ap (λ r. take place rounds ++ r ∷ []) round_is)) ∙ (changed-parts change rounds place old inside ∙ named)))

-- if no round has number `number`, no round changes
pub changed-none : (change : Round → Round) (rounds : List Round) (number : ℕ) → (number ≡ 0) ⊎ ((number ≡ 0 → ⊥) × (length rounds < number)) → changed_named change rounds number ≡ rounds
changed-none change rounds zero h = refl
changed-none change rounds (suc place) (inl h) = absurd (cc)
changed-none change rounds (suc place) (inr h) = changed-beyond change rounds place (let l = h.1 in omega arith)
