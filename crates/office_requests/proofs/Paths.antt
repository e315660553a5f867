-- The path of a target, byte by byte.
use Rattle.std.proofs.Common.{◌≡◌, ◌≢◌, ℕ, ◌+◌, ◌<◌, ◌≤◌, ◌==◌, cond, false, true, List, [], ◌∷◌, ◌++◌, length, get_or, take, drop, Result, Ok, Err, IfOk, IsUtf8, String, string_bytes, sym, ap, ◌∙◌, append-nil, append_assoc, arith}
use Rattle.std.proofs.lemmas.Str.{IsUtf8-take}
use Rattle.std.specs.Str.{IsCharBoundary}
use Rattle.std.proofs.lemmas.Bool.Decides.{nat_tests}
use Rattle.std.proofs.lemmas.List.{drop_all, drop_more, take_more}
use Rattle.define_desk.specs.Requests.{path_of}

-- no `?` is before `at`
abbrev pub IsPathAt : List ℕ → ℕ → Type 0
IsPathAt target at = take at target ++ path_of (drop at target) ≡ path_of target

pub path_at-passed : (target : List ℕ) (at : ℕ) → at < length target → get_or target at 0 ≢ 63 → IsPathAt target at → IsPathAt target (at + 1)
path_at-passed target at within other before =
    let byte = get_or target at 0 in
    let rest = drop (at + 1) target in
    let test : (get_or target at 0 == 63) ≡ false = grind (arith, nat_tests) in
    let here : path_of (byte ∷ rest) ≡ byte ∷ path_of rest = ap (λ t. cond t [] (byte ∷ path_of rest)) test in
    ap (λ xs. xs ++ path_of rest) (take_more target at 0 within)
    ∙ append_assoc (take at target) (byte ∷ []) (path_of rest)
    ∙ ap (λ xs. take at target ++ xs) (sym here)
    ∙ ap (λ xs. take at target ++ path_of xs) (sym (drop_more target at 0 within))
    ∙ before

pub path_at-found : (target : List ℕ) (at : ℕ) → at < length target → get_or target at 0 ≡ 63 → IsPathAt target at → take at target ≡ path_of target
path_at-found target at within is before =
    let byte = get_or target at 0 in
    let rest = drop (at + 1) target in
    let test : (get_or target at 0 == 63) ≡ true = grind (arith, nat_tests) in
    let here : path_of (byte ∷ rest) ≡ [] = ap (λ t. cond t [] (byte ∷ path_of rest)) test in
    sym (append-nil (take at target))
    ∙ ap (λ xs. take at target ++ xs) (sym here)
    ∙ ap (λ xs. take at target ++ path_of xs) (sym (drop_more target at 0 within))
    ∙ before

pub path_at-end : (target : List ℕ) (at : ℕ) → length target ≤ at → IsPathAt target at → take at target ≡ path_of target
path_at-end target at all before =
    sym (append-nil (take at target)) ∙ ap (λ xs. take at target ++ path_of xs) (sym (drop_all at target all)) ∙ before

-- if the target's first `size` bytes are the path, a text made of them has the bytes of the path
pub path_text : {Z E : Type 0} (result : Result (String Z) E) (target : List ℕ) (size : ℕ) → IsUtf8 target → take size target ≡ path_of target → IsCharBoundary target size
    → IfOk result (λ text. IsUtf8 (take size target) → string_bytes text ≡ take size target) → IfOk result (λ text. string_bytes text ≡ path_of target)
path_text (Ok text) target size utf8 is cut read = read (IsUtf8-take target size utf8 cut) ∙ is
path_text (Err e) target size utf8 is cut read = tt
