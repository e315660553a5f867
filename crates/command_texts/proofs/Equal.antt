-- An answer that is right for a command is right for an equal command.
use Rattle.std.proofs.Common.{◌≡◌, ℕ, List, Option, Result, IfOk, subst, sym}
use Rattle.std.specs.declared.alloc.AllocError.{AllocError}
use Rattle.command_meanings.specs.ShortDraw.{ShortDrawMeans}
use Rattle.command_meanings.specs.Draw.{DrawMeans}
use Rattle.command_shell.specs.BundlesOrProofs.{bundle_or_proof_format}
use Rattle.command_meanings.specs.Page.{DrawnPageMeans}
use Rattle.command_shell.specs.Answers.{Saying, saying}
use Rattle.command_shell.specs.Formats.{bundle_format}
use Rattle.command_shell.specs.declared.answer.Answer.{Answer}
use Rattle.command_texts.specs.TextMeans.{OneAnswer, TextMeans}
use Rattle.command_texts.specs.declared.commands.TextCommand.{TextCommand}

-- what the code returned is a right answer, or no memory was left
abbrev pub Says : (List ℕ → Saying → Type 0) → List ℕ → Result Answer AllocError → Type 0
Says Right bytes result = IfOk result (λ answer. Right bytes (saying answer))

pub as_command : (command it : TextCommand) (bytes : List ℕ) (result : Result Answer AllocError) → command ≡ it → Says (TextMeans it) bytes result → Says (TextMeans command) bytes result
as_command command it bytes result is right = subst (λ one. Says (TextMeans one) bytes result) (sym is) right

pub draws_so : (seal digits given_seal given_digits bytes : List ℕ) (result : Result Answer AllocError) → seal ≡ given_seal → digits ≡ given_digits →
    Says (OneAnswer bundle_format (DrawMeans seal digits)) bytes result → Says (OneAnswer bundle_format (DrawMeans given_seal given_digits)) bytes result
draws_so seal digits given_seal given_digits bytes result same_seal same_digits right =
    subst (λ one. Says (OneAnswer bundle_format (DrawMeans given_seal one)) bytes result) same_digits
    (subst (λ one. Says (OneAnswer bundle_format (DrawMeans one digits)) bytes result) same_seal right)

pub short_draws_so : (tickets : ℕ) (seal digits given_seal given_digits bytes : List ℕ) (result : Result Answer AllocError) → seal ≡ given_seal → digits ≡ given_digits →
    Says (OneAnswer bundle_format (ShortDrawMeans tickets seal digits)) bytes result → Says (OneAnswer bundle_format (ShortDrawMeans tickets given_seal given_digits)) bytes result
short_draws_so tickets seal digits given_seal given_digits bytes result same_seal same_digits right =
    subst (λ one. Says (OneAnswer bundle_format (ShortDrawMeans tickets given_seal one)) bytes result) same_digits
    (subst (λ one. Says (OneAnswer bundle_format (ShortDrawMeans tickets one digits)) bytes result) same_seal right)

pub pages_so : (tickets : Option ℕ) (digits given bytes : List ℕ) (result : Result Answer AllocError) → digits ≡ given →
    Says (OneAnswer bundle_or_proof_format (DrawnPageMeans tickets digits)) bytes result → Says (OneAnswer bundle_or_proof_format (DrawnPageMeans tickets given)) bytes result
pages_so tickets digits given bytes result same right = subst (λ one. Says (OneAnswer bundle_or_proof_format (DrawnPageMeans tickets one)) bytes result) same right
