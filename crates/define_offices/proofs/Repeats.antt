-- If a command other than a charter or rules made a change, it changes nothing when it is given again after any other commands.
use Rattle.std.proofs.Common.{◌≡◌, ℕ, zero, suc, ◌+◌, ◌<◌, ◌≤◌, Bool, true, false, cond, eqb, not, List, [], ◌∷◌, ◌++◌, length, Option, Some, None, Result, Ok, Err, refl, sym, ap, ◌∙◌, arith, subst}
use Rattle.std.specs.Str.{bytes_eq}
use Rattle.std.proofs.lemmas.Bool.{eqb-true}
use Rattle.std.proofs.lemmas.Bool.Decides.{Decides-eqb}
use Rattle.std.proofs.lemmas.List.{length_push}
use Rattle.std.proofs.lemmas.List.Folds.{list_any-append}
use Rattle.std.proofs.lemmas.Slice.Eq.{bytes_eq-Decides}
use Rattle.std.proofs.Math.Bool.{or-true}
use Rattle.define_lines.specs.Lines.{text_of}
use Rattle.define_pools.specs.Lists.{includes_list}
use Rattle.define_pools.specs.Pool.{Pool}
use Rattle.define_bundles.specs.BundleText.{Bundle}
use Rattle.define_proofs.specs.ProofVerdict.{Proof}
use Rattle.define_draws.specs.Dice.{name_ticket}
use Rattle.define_draws.specs.Draw as draws
use Rattle.define_draws.specs.Draw.{draw, drawn_with}
use Rattle.define_draws.specs.Seal.{is_seal}
use Rattle.define_offices.specs.Tables.{Round, Open, Solved, Sealed, Drawn, Tables, changed_at, changed_named, named_round, round_at}
use Rattle.define_offices.specs.Commands.{Change, SolvedWith, SealTold, DrawnWith, DroppedOut, Begun, Replies, Refuses, Refusal, Reply, Lines}
use Rattle.define_offices.specs.Deciding.{Answered, Finds, FindsNone, IsDecided, answered, changes, draw_in, drawn_ids, drop_in, keep_in, new_draw, next_after, next_in, same_draw, same_seal, seal_in, solve_in, tells, tickets_or_none}
use Rattle.define_offices.specs.Lines.{dropped_line, one_line, round_line, solved_line}
use Rattle.define_draws.specs.Lines.{bundle_seal, drawn_lines, seal_line}
use Rattle.define_offices.specs.Pools.{drawn_lottery, drawn_of, drawn_or_nothing}
use Rattle.define_offices.specs.Steps.{apply, drawn_by, dropped_out, seal_told, solved_with}
use Rattle.define_offices.proofs.Steps.{Answers, Leaves, Settles}
use Rattle.define_offices.proofs.Later.{Grows, IsPastOpen, StaysSolved, IsSealed, IsDrawn, StaysSealed, DrawnFrom, OtherDrops, RoundsGrow}

same_bytes : (xs : List ℕ) → bytes_eq xs xs ≡ true
same_bytes xs = (bytes_eq-Decides xs xs).1 refl

same_number : (n : ℕ) → eqb n n ≡ true
same_number n = (Decides-eqb n n).1 refl

-- ---- the round with a number, in later tables

-- the round with `number` has grown from `round`
record GoesOn (rounds : List Round) (number : ℕ) (round : Round) : Type 0 where
  next : Round
  there : named_round rounds number ≡ Some next
  grows : Grows round next

named_goes_on : (old new : List Round) → RoundsGrow old new → (number : ℕ) (round : Round) → named_round old number ≡ Some round → IsPastOpen round → GoesOn new number round
named_goes_on old new grow zero round at past = absurd (cc)
named_goes_on old new grow (suc place) round at past = let grown = grow place round at past in record { next = grown.next; there = grown.there; grows = grown.grows }

changed_there : (change : Round → Round) (rounds : List Round) (place : ℕ) (round : Round) → round_at rounds place ≡ Some round → round_at (changed_at change rounds place) place ≡ Some (change round)
changed_there change [] place round at = absurd (cc)
changed_there change (first ∷ rounds) zero round at = let same : first ≡ round = cc in ap (λ r. Some (change r)) same
changed_there change (first ∷ rounds) (suc place) round at = changed_there change rounds place round at

pub named_there : (change : Round → Round) (rounds : List Round) (number : ℕ) (round : Round) → named_round rounds number ≡ Some round → named_round (changed_named change rounds number) number ≡ Some (change round)
named_there change rounds zero round at = absurd (cc)
named_there change rounds (suc place) round at = changed_there change rounds place round at

-- if `change` was made of the round with `number`, the round with this number in later tables has grown from the changed round
goes_on : (change : Round → Round) (rounds new : List Round) (number : ℕ) (round : Round) → named_round rounds number ≡ Some round → IsPastOpen (change round) → RoundsGrow (changed_named change rounds number) new →
    GoesOn new number (change round)
goes_on change rounds new number round at past grow = named_goes_on (changed_named change rounds number) new grow number (change round) (named_there change rounds number round at) past

-- ---- a dropout that is entered, in later tables

-- the round with `number` is drawn, and its member `id` dropped out
pub record HasDropped (rounds : List Round) (number : ℕ) (id : List ℕ) : Type 0 where
  pub bundle : Bundle
  pub tickets : Option ℕ
  pub digits : List ℕ
  pub dropped : List (List ℕ)
  pub there : named_round rounds number ≡ Some (Drawn bundle tickets digits dropped)
  pub member : includes_list (drawn_ids bundle tickets digits) id ≡ true
  pub dropped_out : includes_list dropped id ≡ true

includes_pushed : (dropped : List (List ℕ)) (id : List ℕ) → includes_list (dropped ++ id ∷ []) id ≡ true
includes_pushed dropped id = list_any-append (bytes_eq id) dropped (id ∷ []) ∙ (rw (same_bytes id) (or-true (includes_list dropped id)))

-- there is no round at a place if there are no more rounds than that
beyond : (rounds : List Round) (place : ℕ) → round_at rounds place ≡ None → length rounds ≤ place
beyond [] place h = omega arith
beyond (round ∷ rounds) zero h = absurd (cc)
beyond (round ∷ rounds) (suc place) h = let l = beyond rounds place h in omega arith

module _ (before later : Tables) where
  -- ---- a seal that is given again

  same_seal_tells : (bundle : Bundle) (given : Option ℕ) → same_seal bundle given given ≡ tells (seal_line bundle)
  same_seal_tells bundle None = refl
  same_seal_tells bundle (Some tickets) = rw (same_number tickets) refl

  pub same_seal_changes_nothing : (bundle : Bundle) (kept given : Option ℕ) (change : Change) (reply : Reply) → same_seal bundle kept given ≡ Replies (Some change) reply → ⊥
  same_seal_changes_nothing bundle kept None change reply h = cc
  same_seal_changes_nothing bundle kept (Some tickets) change reply h = by (eqb (tickets_or_none kept) tickets) _ _ h
    where
      by : (same : Bool) (one : Reply) (two : Refusal) → cond same (Replies None one) (Refuses two) ≡ Replies (Some change) reply → ⊥
      by true one two k = cc
      by false one two k = cc

  sealed_tells : {bundle : Bundle} {given : Option ℕ} {next : Round} → Grows (Sealed bundle given) next → (number : ℕ) → seal_in later number given (Some next) ≡ tells (seal_line bundle)
  sealed_tells (StaysSealed bundle tickets) number = same_seal_tells bundle tickets
  sealed_tells (DrawnFrom bundle tickets digits dropped) number = same_seal_tells bundle tickets

  pub seal_again : (number : ℕ) (given : Option ℕ) (change : Change) (reply : Reply) (found : Option Round) → named_round before.rounds number ≡ found → seal_in before number given found ≡ Replies (Some change) reply →
      RoundsGrow (apply before change).rounds later.rounds → seal_in later number given (named_round later.rounds number) ≡ Replies None reply
  seal_again number given change reply None at h grow = absurd (cc)
  seal_again number given change reply (Some Open) at h grow = absurd (cc)
  seal_again number given change reply (Some (Solved bundle)) at h grow =
      let same : SealTold number given ≡ change = cc in
      let told : one_line (seal_line bundle) ≡ reply = cc in
      let on = goes_on (seal_told given) before.rounds later.rounds number (Solved bundle) at tt (subst (λ c. RoundsGrow (apply before c).rounds later.rounds) (sym same) grow) in
      rw on.there (sealed_tells on.grows number ∙ ap (λ r. Replies None r) told)
  seal_again number given change reply (Some (Sealed bundle tickets)) at h grow = absurd (same_seal_changes_nothing bundle tickets given change reply h)
  seal_again number given change reply (Some (Drawn bundle tickets digits dropped)) at h grow = absurd (same_seal_changes_nothing bundle tickets given change reply h)

  -- ---- a solve or a proof that is given again

  solved_tells : {bundle : Bundle} {next : Round} → Grows (Solved bundle) next → (number : ℕ) → solve_in later number (Some next) ≡ IsDecided (tells (solved_line number bundle))
  solved_tells (StaysSolved bundle) number = refl
  solved_tells (IsSealed bundle tickets) number = refl
  solved_tells (IsDrawn bundle tickets digits dropped) number = refl

  kept_tells : {bundle : Bundle} {next : Round} → Grows (Solved bundle) next → (number : ℕ) (proof : Proof) → keep_in later number proof (Some next) ≡ tells (solved_line number bundle)
  kept_tells (StaysSolved bundle) number proof = refl
  kept_tells (IsSealed bundle tickets) number proof = refl
  kept_tells (IsDrawn bundle tickets digits dropped) number proof = refl

  -- a solve or a proof that is given again for an answered round has the reply `reply`, and changes nothing
  pub record IsAnsweredAgain (number : ℕ) (reply : Reply) : Type 0 where
    pub by_solve : solve_in later number (named_round later.rounds number) ≡ IsDecided (Replies None reply)
    pub by_proof : (proof : Proof) → keep_in later number proof (named_round later.rounds number) ≡ Replies None reply

  answered_again : (number : ℕ) (pool : Pool) (found : Answered) (change : Change) (reply : Reply) → named_round before.rounds number ≡ Some Open →
      Replies (Some change) reply ≡ answered number pool found → RoundsGrow (apply before change).rounds later.rounds → IsAnsweredAgain number reply
  answered_again number pool FindsNone change reply at h grow = absurd (cc)
  answered_again number pool (Finds answer) change reply at h grow =
      let bundle : Bundle = record { pool = pool; answer = answer } in
      let same : SolvedWith number bundle ≡ change = cc in
      let told : one_line (solved_line number bundle) ≡ reply = cc in
      let on = goes_on (solved_with bundle) before.rounds later.rounds number Open at tt (subst (λ c. RoundsGrow (apply before c).rounds later.rounds) (sym same) grow) in
      record {
        by_solve = rw on.there (solved_tells on.grows number ∙ ap (λ r. IsDecided (Replies None r)) told);
        by_proof = λ proof. rw on.there (kept_tells on.grows number proof ∙ ap (λ r. Replies None r) told);
      }

  pub settled_again : (number : ℕ) (change : Change) (reply : Reply) → Settles before number (Replies (Some change) reply) →
      RoundsGrow (apply before change).rounds later.rounds → IsAnsweredAgain number reply
  settled_again number change reply (Leaves stays) grow = absurd stays
  settled_again number change reply (Answers pool found open_round right same) grow = answered_again number pool found change reply open_round.open_now same grow

  -- ---- a draw that is given again

  record IsDrawnSo (bundle : Bundle) (tickets : Option ℕ) (given digits : List ℕ) (drawn : draws.Drawn) : Type 0 where
    sealed : is_seal (bundle_seal bundle) given ≡ true
    is : drawn_of bundle tickets digits ≡ drawn

  drawn_so : (bundle : Bundle) (tickets : Option ℕ) (given digits : List ℕ) (drawn : draws.Drawn) (sealed : Bool) → is_seal (bundle_seal bundle) given ≡ sealed →
      cond sealed (drawn_with (drawn_lottery bundle tickets) (name_ticket (drawn_lottery bundle tickets).total digits)) (Err draws.SealDiffers) ≡ Ok drawn → IsDrawnSo bundle tickets given digits drawn
  drawn_so bundle tickets given digits drawn true e h = record { sealed = e; is = ap drawn_or_nothing h }
  drawn_so bundle tickets given digits drawn false e h = absurd (cc)

  same_draw_tells : (bundle : Bundle) (tickets : Option ℕ) (given digits : List ℕ) → is_seal (bundle_seal bundle) given ≡ true → same_draw bundle tickets digits given digits ≡ Replies None (Lines (text_of (drawn_lines bundle (drawn_of bundle tickets digits))))
  same_draw_tells bundle tickets given digits sealed = rw (sealed, same_bytes digits) refl

  drawn_tells : {bundle : Bundle} {tickets : Option ℕ} {digits : List ℕ} {dropped : List (List ℕ)} {next : Round} → Grows (Drawn bundle tickets digits dropped) next → (number : ℕ) (given : List ℕ) → is_seal (bundle_seal bundle) given ≡ true →
      draw_in later number given digits (Some next) ≡ Replies None (Lines (text_of (drawn_lines bundle (drawn_of bundle tickets digits))))
  drawn_tells (OtherDrops bundle tickets digits dropped other) number given sealed = same_draw_tells bundle tickets given digits sealed

  new_draw_again : (number : ℕ) (given digits : List ℕ) (change : Change) (reply : Reply) (bundle : Bundle) (tickets : Option ℕ) → named_round before.rounds number ≡ Some (Sealed bundle tickets) → (result : Result draws.Drawn draws.Refused) →
      draw (drawn_lottery bundle tickets) (bundle_seal bundle) given digits ≡ result → new_draw number bundle given digits result ≡ Replies (Some change) reply →
      RoundsGrow (apply before change).rounds later.rounds → draw_in later number given digits (named_round later.rounds number) ≡ Replies None reply
  new_draw_again number given digits change reply bundle tickets at (Err refused) e h grow = absurd (cc)
  new_draw_again number given digits change reply bundle tickets at (Ok drawn) e h grow =
      let same : DrawnWith number digits ≡ change = cc in
      let told : Lines (text_of (drawn_lines bundle drawn)) ≡ reply = cc in
      let so = drawn_so bundle tickets given digits drawn (is_seal (bundle_seal bundle) given) refl e in
      let on = goes_on (drawn_by digits) before.rounds later.rounds number (Sealed bundle tickets) at tt (subst (λ c. RoundsGrow (apply before c).rounds later.rounds) (sym same) grow) in
      rw on.there (drawn_tells on.grows number given so.sealed ∙ (ap (λ d. Replies None (Lines (text_of (drawn_lines bundle d)))) so.is ∙ ap (λ r. Replies None r) told))

  pub same_draw_changes_nothing : (bundle : Bundle) (kept given digits : List ℕ) (change : Change) (reply : Reply) (differs same : Bool) (one three : Refusal) (two : Reply) →
      cond differs (Refuses one) (cond same (Replies None two) (Refuses three)) ≡ Replies (Some change) reply → ⊥
  same_draw_changes_nothing bundle kept given digits change reply true same one three two h = cc
  same_draw_changes_nothing bundle kept given digits change reply false true one three two h = cc
  same_draw_changes_nothing bundle kept given digits change reply false false one three two h = cc

  pub draw_again : (number : ℕ) (given digits : List ℕ) (change : Change) (reply : Reply) (found : Option Round) → named_round before.rounds number ≡ found →
      draw_in before number given digits found ≡ Replies (Some change) reply →
      RoundsGrow (apply before change).rounds later.rounds → draw_in later number given digits (named_round later.rounds number) ≡ Replies None reply
  draw_again number given digits change reply None at h grow = absurd (cc)
  draw_again number given digits change reply (Some Open) at h grow = absurd (cc)
  draw_again number given digits change reply (Some (Solved bundle)) at h grow = absurd (cc)
  draw_again number given digits change reply (Some (Sealed bundle tickets)) at h grow =
      new_draw_again number given digits change reply bundle tickets at (draw (drawn_lottery bundle tickets) (bundle_seal bundle) given digits) refl h grow
  draw_again number given digits change reply (Some (Drawn bundle tickets kept dropped)) at h grow =
      absurd (same_draw_changes_nothing bundle kept given digits change reply (not (is_seal (bundle_seal bundle) given)) (bytes_eq kept digits) _ _ _ h)

  -- ---- a drop that is given again

  pub record IsDroppedSo (number : ℕ) (id : List ℕ) (bundle : Bundle) (tickets : Option ℕ) (digits : List ℕ) (change : Change) (reply : Reply) : Type 0 where
    pub member : includes_list (drawn_ids bundle tickets digits) id ≡ true
    pub same : DroppedOut number id ≡ change
    pub told : one_line (dropped_line number id) ≡ reply

  pub dropped_so : (number : ℕ) (id : List ℕ) (bundle : Bundle) (tickets : Option ℕ) (digits : List ℕ) (change : Change) (reply : Reply) (member already last : Bool) (one three : Refusal) → includes_list (drawn_ids bundle tickets digits) id ≡ member →
      cond (not member) (Refuses one) (cond already (tells (dropped_line number id)) (cond last (changes (DroppedOut number id) (dropped_line number id)) (Refuses three))) ≡ Replies (Some change) reply →
      IsDroppedSo number id bundle tickets digits change reply
  dropped_so number id bundle tickets digits change reply false already last one three e h = absurd (cc)
  dropped_so number id bundle tickets digits change reply true true last one three e h = absurd (cc)
  dropped_so number id bundle tickets digits change reply true false true one three e h = record { member = e; same = cc; told = cc }
  dropped_so number id bundle tickets digits change reply true false false one three e h = absurd (cc)

  dropped_tells : (number : ℕ) (id : List ℕ) → HasDropped later.rounds number id → drop_in later number id (named_round later.rounds number) ≡ tells (dropped_line number id)
  dropped_tells number id has = rw (has.there, has.member, has.dropped_out) refl

  pub drop_again : (number : ℕ) (id : List ℕ) (change : Change) (reply : Reply) (found : Option Round) → named_round before.rounds number ≡ found → drop_in before number id found ≡ Replies (Some change) reply →
      (HasDropped (apply before change).rounds number id → HasDropped later.rounds number id) → drop_in later number id (named_round later.rounds number) ≡ Replies None reply
  drop_again number id change reply None at h on = absurd (cc)
  drop_again number id change reply (Some Open) at h on = absurd (cc)
  drop_again number id change reply (Some (Solved bundle)) at h on = absurd (cc)
  drop_again number id change reply (Some (Sealed bundle tickets)) at h on = absurd (cc)
  drop_again number id change reply (Some (Drawn bundle tickets digits dropped)) at h on =
      let so = dropped_so number id bundle tickets digits change reply (includes_list (drawn_ids bundle tickets digits) id) (includes_list dropped id) (eqb number (length before.rounds)) _ _ refl h in
      let first : HasDropped (changed_named (dropped_out id) before.rounds number) number id = record {
        bundle = bundle;
        tickets = tickets;
        digits = digits;
        dropped = dropped ++ id ∷ [];
        there = named_there (dropped_out id) before.rounds number (Drawn bundle tickets digits dropped) at;
        member = so.member;
        dropped_out = includes_pushed dropped id;
      } in
      dropped_tells number id (on (subst (λ c. HasDropped (apply before c).rounds number id) so.same first)) ∙ ap (λ r. Replies None r) so.told

  -- ---- `NextRound` given again

  pub record IsBegun (number : ℕ) (change : Change) (reply : Reply) : Type 0 where
    pub last : number ≡ length before.rounds
    pub same : Begun ≡ change
    pub told : one_line (round_line (number + 1)) ≡ reply

  begun_after : (number : ℕ) (round : Round) (change : Change) (reply : Reply) → number ≡ length before.rounds → next_after number round ≡ Replies (Some change) reply → IsBegun number change reply
  begun_after number Open change reply last h = absurd (cc)
  begun_after number (Solved bundle) change reply last h = absurd (cc)
  begun_after number (Sealed bundle tickets) change reply last h = absurd (cc)
  begun_after number (Drawn bundle tickets digits []) change reply last h = absurd (cc)
  begun_after number (Drawn bundle tickets digits (id ∷ dropped)) change reply last h = record { last = last; same = cc; told = cc }

  pub begun : (number : ℕ) (round : Round) (change : Change) (reply : Reply) (last : Bool) → eqb number (length before.rounds) ≡ last → cond last (next_after number round) (tells (round_line (number + 1))) ≡ Replies (Some change) reply →
      IsBegun number change reply
  begun number round change reply true e h = begun_after number round change reply (eqb-true number (length before.rounds) e) h
  begun number round change reply false e h = absurd (cc)

  not_last : (m n : ℕ) → m < n → eqb m n ≡ false
  not_last m n h = by (eqb m n) refl
    where
      by : (b : Bool) → eqb m n ≡ b → b ≡ false
      by true e = absurd (let same = eqb-true m n e in omega arith)
      by false e = refl

  at_most : (place n : ℕ) → suc place + 1 ≤ n → suc place < n
  at_most place n h = omega arith

  next_tells : (place : ℕ) → suc place + 1 ≤ length later.rounds → (found : Option Round) → round_at later.rounds place ≡ found → next_in later (suc place) found ≡ tells (round_line (suc place + 1))
  next_tells place far None at = absurd (let few = beyond later.rounds place at in omega arith)
  next_tells place far (Some round) at = rw (not_last (suc place) (length later.rounds) (at_most place (length later.rounds) far)) refl

  pub next_again : (number : ℕ) (change : Change) (reply : Reply) (found : Option Round) → named_round before.rounds number ≡ found → next_in before number found ≡ Replies (Some change) reply →
      (number + 1 ≤ length (apply before change).rounds → number + 1 ≤ length later.rounds) → next_in later number (named_round later.rounds number) ≡ Replies None reply
  next_again number change reply None at h on = absurd (cc)
  next_again zero change reply (Some round) at h on = absurd (cc)
  next_again (suc place) change reply (Some round) at h on =
      let is = begun (suc place) round change reply (eqb (suc place) (length before.rounds)) refl h in
      let pushed = length_push before.rounds Open in
      let last = is.last in
      let first : suc place + 1 ≤ length (before.rounds ++ Open ∷ []) = omega arith in
      let far = on (subst (λ c. suc place + 1 ≤ length (apply before c).rounds) is.same first) in
      next_tells place far (round_at later.rounds place) refl ∙ ap (λ r. Replies None r) is.told
