-- If a right text was put into the room, or no text was made for want of memory, the call ends as `Told` says.
use Rattle.std.proofs.Common.{◌≡◌, ℕ, Bool, true, false, List, Option, Some, None, Result, Ok, Err, refl, sym, subst, ◌∙◌}
use Rattle.std.specs.Prelude.{IfErr, IfOk, if◌then◌else◌}
use Rattle.command_shell.specs.Formats.{bundle_format}
use Rattle.command_meanings.specs.Draw.{DrawMeans}
use Rattle.command_meanings.specs.ShortDraw.{ShortDrawMeans}
use Rattle.command_shell.specs.BundlesOrProofs.{bundle_or_proof_format}
use Rattle.command_meanings.specs.Page.{DrawnPageMeans}
use Rattle.command_browser.specs.Told.{Counted, IsPut, IsPutIfAny, Puts, PutsNothing, Tells, TextOf, Told, WantsMemory, WithTickets, is_ticket_count}

pub told_so : {Text Error : Type 0} (items : Text → List ℕ) (Right : List ℕ → Type 0) (text : Result Text Error) (before after : List ℕ) (count : ℕ) →
    IfOk text (λ it. Right (items it)) → IfOk text (λ it. IsPut (items it) before after count) →
    IfErr text (λ error. count ≡ 0) → IfErr text (λ error. after ≡ before) → Told Right before after count
told_so items Right (Ok it) before after count right put none alone = Tells (items it) right put
told_so items Right (Err error) before after count right put none alone = WantsMemory none alone

-- the same for a text that may be empty: of an empty one nothing is put
put_if_any : (text : List ℕ) (Right : List ℕ → Type 0) (before after : List ℕ) (count : ℕ) → Right text → IsPutIfAny text before after count → Told Right before after count
put_if_any text Right before after count right (Puts put) = Tells text right put
put_if_any text Right before after count right (PutsNothing none alone) = WantsMemory none alone

pub told_if_any : {Text Error : Type 0} (items : Text → List ℕ) (Right : List ℕ → Type 0) (text : Result Text Error) (before after : List ℕ) (count : ℕ) →
    IfOk text (λ it. Right (items it)) → IfOk text (λ it. IsPutIfAny (items it) before after count) →
    IfErr text (λ error. count ≡ 0) → IfErr text (λ error. after ≡ before) → Told Right before after count
told_if_any items Right (Ok it) before after count right put none alone = put_if_any (items it) Right before after count right put
told_if_any items Right (Err error) before after count right put none alone = WantsMemory none alone

-- a text that is right for a draw is right for a draw with an equal seal and equal digits
pub draws_so : (seal digits given_seal given_digits bytes text : List ℕ) → seal ≡ given_seal → digits ≡ given_digits →
    TextOf bundle_format (DrawMeans seal digits) bytes text → TextOf bundle_format (DrawMeans given_seal given_digits) bytes text
draws_so seal digits given_seal given_digits bytes text same_seal same_digits right =
    subst (λ one. TextOf bundle_format (DrawMeans given_seal one) bytes text) same_digits
    (subst (λ one. TextOf bundle_format (DrawMeans one digits) bytes text) same_seal right)

-- the same for a draw in a round number of tickets
pub short_draws_so : (tickets : ℕ) (seal digits given_seal given_digits bytes text : List ℕ) → seal ≡ given_seal → digits ≡ given_digits →
    TextOf bundle_format (ShortDrawMeans tickets seal digits) bytes text → TextOf bundle_format (ShortDrawMeans tickets given_seal given_digits) bytes text
short_draws_so tickets seal digits given_seal given_digits bytes text same_seal same_digits right =
    subst (λ one. TextOf bundle_format (ShortDrawMeans tickets given_seal one) bytes text) same_digits
    (subst (λ one. TextOf bundle_format (ShortDrawMeans tickets one digits) bytes text) same_seal right)

-- a text that is right for a page with the digits of dice is right for a page with equal digits
pub pages_so : (tickets : Option ℕ) (digits given bytes text : List ℕ) → digits ≡ given → TextOf bundle_or_proof_format (DrawnPageMeans tickets digits) bytes text →
    TextOf bundle_or_proof_format (DrawnPageMeans tickets given) bytes text
pages_so tickets digits given bytes text same right = subst (λ one. TextOf bundle_or_proof_format (DrawnPageMeans tickets one) bytes text) same right

-- a number that is found only if a test holds is the given one, and the test holds
found_if : (holds : Bool) (given found : ℕ) → (if holds then Some given else None) ≡ Some found → (holds ≡ true) × (found ≡ given)
found_if true given found is = (refl, cc (is))
found_if false given found is = absurd (cc (is))

-- a text that is right for the number of tickets that is found is right for the given one
pub counted_so : (tickets found : ℕ) (result : Option ℕ) (Right : ℕ → List ℕ → Type 0) (text : List ℕ) → result ≡ (if is_ticket_count tickets then Some tickets else None) →
    result ≡ Some found → Right found text → WithTickets tickets (Right tickets) text
counted_so tickets found result Right text new is right =
    let both = found_if (is_ticket_count tickets) tickets found (sym new ∙ is) in
    Counted both.0 (subst (λ one. Right one text) both.1 right)
