use Rattle.std.proofs.Common.{◌≡◌, ◌⊎◌, inl, inr, ◌≤◌, ◌<◌, ℕ, suc, true, false, cond, [], ◌∷◌, ◌++◌, take, length, length-append, sym, ap, ◌∙◌, ⊎_elim, arith, rules, min}
use Rattle.std.proofs.lemmas.Bool.{cases_lt}
use Rattle.std.proofs.lemmas.Slice.Zip.{zip_turn, zip_end}
use Rattle.std.proofs.lemmas.List.{append-nil}
use Rattle.define_runs.specs.Spreading.{is_partly_taken, partly_taken}
use Rattle.alike.proofs.Parts.{partly-more, partly-whole}
use Rattle.alike.proofs.dials.partly_taken.Goals as goal

pub loop-class-preserved-in-Continue-1 : goal.loop-class-preserved-in-Continue-1
loop-class-preserved-in-Continue-1 c =
    let classes = c.args.groups.now in let counts = c.args.counts.now in
    let yielded = c.loop-class.yielded in
    let turn = zip_turn classes counts yielded c.into_iter-class-iterator.result c.loop-class.class-iterator c.next.new.self c.next.result (search rules) (search rules) c.loop-class.yielded_by (c.in-Some.class, c.in-Some.count) c.in-Some.is c.next.ensures.steps in
    let size : length (yielded ++ (c.in-Some.class, c.in-Some.count) ∷ []) ≡ suc (length yielded) = omega (arith, length-append yielded ((c.in-Some.class, c.in-Some.count) ∷ [])) in
    let more = partly-more classes counts (length yielded) c.in-Some.class.now c.in-Some.count.now turn.0 turn.1 (turn.2 c.in-Some.class.now) (turn.3 c.in-Some.count.now) in
    let taken : is_partly_taken c.in-Some.class.now c.in-Some.count.now ≡ true = sym c.is_partly_taken.ensures ∙ c.if-is_partly_taken.true in
    let here : cond (is_partly_taken c.in-Some.class.now c.in-Some.count.now) (length c.in-Some.class.now.members ∷ []) [] ≡ length c.in-Some.class.now.members ∷ [] = ap (λ b. cond b (length c.in-Some.class.now.members ∷ []) []) taken in
    c.in_ok-push.ensures.items
    ∙ (ap (λ xs. xs ++ c.size.result ∷ []) c.loop-class.invariant
    ∙ (ap (λ n. partly_taken (take (length yielded) classes) (take (length yielded) counts) ++ n ∷ []) c.size.ensures
    ∙ (ap (λ xs. partly_taken (take (length yielded) classes) (take (length yielded) counts) ++ xs) (sym here)
    ∙ (sym more ∙ ap (λ n. partly_taken (take n classes) (take n counts)) (sym size)))))

pub loop-class-preserved : goal.loop-class-preserved
loop-class-preserved c =
    let classes = c.args.groups.now in let counts = c.args.counts.now in
    let yielded = c.loop-class.yielded in
    let turn = zip_turn classes counts yielded c.into_iter-class-iterator.result c.loop-class.class-iterator c.next.new.self c.next.result (search rules) (search rules) c.loop-class.yielded_by (c.in-Some.class, c.in-Some.count) c.in-Some.is c.next.ensures.steps in
    let size : length (yielded ++ (c.in-Some.class, c.in-Some.count) ∷ []) ≡ suc (length yielded) = omega (arith, length-append yielded ((c.in-Some.class, c.in-Some.count) ∷ [])) in
    let more = partly-more classes counts (length yielded) c.in-Some.class.now c.in-Some.count.now turn.0 turn.1 (turn.2 c.in-Some.class.now) (turn.3 c.in-Some.count.now) in
    let taken : is_partly_taken c.in-Some.class.now c.in-Some.count.now ≡ false = sym c.is_partly_taken.ensures ∙ c.if-is_partly_taken.false in
    let here : cond (is_partly_taken c.in-Some.class.now c.in-Some.count.now) (length c.in-Some.class.now.members ∷ []) [] ≡ [] = ap (λ b. cond b (length c.in-Some.class.now.members ∷ []) []) taken in
    c.loop-class.invariant
    ∙ (sym (append-nil (partly_taken (take (length yielded) classes) (take (length yielded) counts)))
    ∙ (ap (λ xs. partly_taken (take (length yielded) classes) (take (length yielded) counts) ++ xs) (sym here)
    ∙ (sym more ∙ ap (λ n. partly_taken (take n classes) (take n counts)) (sym size))))

pub returns : goal.returns
returns c =
    let classes = c.args.groups.now in let counts = c.args.counts.now in
    let yielded = c.loop-class.yielded in
    let count = zip_end classes counts yielded c.into_iter-class-iterator.result c.loop-class.class-iterator c.next.new.self c.next.result (search rules) (search rules) c.loop-class.yielded_by c.in-None.is c.next.ensures.steps in
    c.loop-class.invariant ∙ partly-whole classes counts (length yielded) (either (length classes) (length counts) (length yielded) count)
  where
    either : (m n k : ℕ) → k ≡ min m n → (m ≤ k) ⊎ (n ≤ k)
    either m n k e = ⊎_elim (λ (l : m < n). inl (omega arith)) (λ (l : n ≤ m). inr (omega arith)) (cases_lt m n)
