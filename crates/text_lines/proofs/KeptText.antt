-- If a text only grew, it still begins with the bytes it had before.
use Rattle.std.proofs.Common.{◌≡◌, ℕ, List, ◌++◌, length, take, drop, ap, sym, ◌∙◌, append_assoc}
use Rattle.std.proofs.Math.Seq.{take-append_seam}
use Rattle.std.proofs.lemmas.List.{take-append-drop}
use Rattle.std.specs.Io.{StartsWith}
use Rattle.std.specs.Prelude.{Result, Ok, Err, OnErr}

-- If `after` begins with `text ++ more`, it begins with `text`.
pub kept_before : (text more middle after : List ℕ) → middle ≡ text ++ more → StartsWith after middle → StartsWith after text
kept_before text more middle after is kept =
    let rest = drop (length middle) after in
    let whole : after ≡ text ++ (more ++ rest) =
    sym (take-append-drop (length middle) after) ∙ (ap (λ front. front ++ rest) (kept ∙ is) ∙ append_assoc text more rest) in
    ap (take (length text)) whole ∙ take-append_seam text (more ++ rest)

-- If `after` begins with `text ++ more`, and the result of a call is an error, `after` begins with `text`.
pub kept_at_err : {A E : Type 0} (text more middle after : List ℕ) (result : Result A E) → middle ≡ text ++ more → StartsWith after middle →
    OnErr result (StartsWith after text)
kept_at_err text more middle after (Ok value) is kept = tt
kept_at_err text more middle after (Err error) is kept = kept_before text more middle after is kept
