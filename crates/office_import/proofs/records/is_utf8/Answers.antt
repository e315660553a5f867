use Rattle.std.proofs.Common.{◌≡◌, ℕ, List, sym, ◌∙◌}
use Rattle.std.specs.Prelude.{Result, Ok, Err, MatchResult}
use Rattle.std.specs.Result.{is_ok}
use Rattle.std.specs.Str.{IsUtf8, is_utf8}
use Rattle.std.proofs.lemmas.Bool.{false_from_ne_true}
use Rattle.std.proofs.lemmas.Str.{IsUtf8-from_is_utf8, is_utf8-from_IsUtf8}
use Rattle.office_import.proofs.records.is_utf8.Goals as goal

-- std reads a line as text exactly if it is UTF-8
at_text : {T E : Type 0} (A : T → Type 0) (B : E → Type 0) (r : Result T E) (line : List ℕ) →
    MatchResult r (λ s. A s × IsUtf8 line) (λ e. (IsUtf8 line → ⊥) × B e) → is_ok r ≡ is_utf8 line
at_text A B (Ok s) line h = sym (is_utf8-from_IsUtf8 line h.1)
at_text A B (Err e) line h = sym (false_from_ne_true (is_utf8 line) (λ text. h.0 (IsUtf8-from_is_utf8 line text)))

pub returns : goal.returns
returns c = c.is_ok.ensures.value ∙ at_text _ _ c.from_utf8.result c.args.field.now c.from_utf8.ensures.cases
