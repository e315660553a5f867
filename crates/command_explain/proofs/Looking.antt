-- A reading that returns a value if the bytes are a text, and else a fault, decides whether they are a text.
use Rattle.std.specs.Prelude.{Bool, true, false, if◌then◌else◌, Result, Ok, Err, MatchResult}
use Rattle.std.specs.Bool.{MatchBool}
use Rattle.define_lines.specs.Lines.{Fault}
use Rattle.command_explain.specs.AnyTexts.{Decides, looked_as}
use Rattle.command_explain.specs.declared.any_text.AnyText.{AnyText}

pub decided : {Value : Type 0} (said : Result Value Fault) (Is Spelled : Value → Type 0) →
    MatchResult said (λ value. Is value × Spelled value) (λ fault. (value : Value) → Is value → Spelled value → ⊥) →
    Decides (looked_as said) ((value : Value) × (Is value × Spelled value))
decided (Ok value) Is Spelled told = (value, told)
decided (Err fault) Is Spelled told = λ text. told text.0 text.1.0 text.1.1

pub decided_by_word : (word : Bool) (as_this as_other : AnyText) (This Other : Type 0) → Decides as_this This → Decides as_other Other →
    Decides (if word then as_this else as_other) (MatchBool word This Other)
decided_by_word true as_this as_other This Other one two = one
decided_by_word false as_this as_other This Other one two = two
