-- A dropout that is taken back, and a round that is taken away, leave the tables as they were.
use Rattle.std.proofs.Common.{◌≡◌, ℕ, zero, suc, ◌+◌, Bool, true, false, cond, eqb, not, ◌||◌, List, [], ◌∷◌, ◌++◌, length, Option, Some, None, refl, sym, ap, ◌∙◌, arith, subst}
use Rattle.std.specs.Str.{bytes_eq}
use Rattle.std.proofs.lemmas.Bool.{false≢true}
use Rattle.std.proofs.lemmas.Bool.Decides.{Decides-eqb}
use Rattle.std.proofs.lemmas.List.{length_push}
use Rattle.std.proofs.lemmas.List.Folds.{list_any-append}
use Rattle.std.proofs.lemmas.Slice.Eq.{bytes_eq-Decides}
use Rattle.std.proofs.Math.Bool.{or-true}
use Rattle.define_pools.specs.Lists.{includes_list}
use Rattle.define_bundles.specs.BundleText.{Bundle}
use Rattle.define_offices.specs.Tables.{Round, Open, Solved, Sealed, Drawn, Tables, changed_at, changed_named, named_round, round_at, taken_at, taken_named}
use Rattle.define_offices.specs.Commands.{Drop, NextRound, Undrop, Reopen, Change, DroppedOut, Begun, TakenBack, Reopened, Replies, Refuses, Refusal, Reply}
use Rattle.define_offices.specs.Deciding.{IsDecided, asked, changes, drawn_ids, drop_in, is_withdrawn, next_in, tells, undrop_in, with_id}
use Rattle.define_offices.specs.Lines.{dropped_line, reopened_line, undropped_line}
use Rattle.define_offices.specs.Steps.{AtOnce, ByRun, Comes, Leads, apply, dropped_out, taken_back, without_id}
use Rattle.define_offices.proofs.Again.{says}
use Rattle.define_offices.proofs.Repeats.{begun, named_there}
use Rattle.laws_of_offices.specs.TakenBack.{dropped_of}

same_bytes : (xs : List ℕ) → bytes_eq xs xs ≡ true
same_bytes xs = (bytes_eq-Decides xs xs).1 refl

same_number : (n : ℕ) → eqb n n ≡ true
same_number n = (Decides-eqb n n).1 refl

-- ---- a dropout

-- if `id` is not among the ids, it is what is taken out again
without_pushed : (id : List ℕ) (ids : List (List ℕ)) → includes_list ids id ≡ false → without_id id (ids ++ id ∷ []) ≡ ids
without_pushed id [] h = rw (same_bytes id) refl
without_pushed id (other ∷ ids) h = by (bytes_eq id other) refl h (λ k. without_pushed id ids k)
  where
    by : (same : Bool) → bytes_eq id other ≡ same → (same || includes_list ids id) ≡ false → (includes_list ids id ≡ false → without_id id (ids ++ id ∷ []) ≡ ids) →
        cond (not same) (other ∷ without_id id (ids ++ id ∷ [])) (without_id id (ids ++ id ∷ [])) ≡ other ∷ ids
    by true e k again = absurd (false≢true (sym k))
    by false e k again = ap (λ rest. other ∷ rest) (again k)

round_back : (id : List ℕ) (round : Round) → includes_list (dropped_of round) id ≡ false → taken_back id (dropped_out id round) ≡ round
round_back id Open h = refl
round_back id (Solved bundle) h = refl
round_back id (Sealed bundle tickets) h = refl
round_back id (Drawn bundle tickets digits dropped) h = ap (λ ids. Drawn bundle tickets digits ids) (without_pushed id dropped h)

at_back : (id : List ℕ) (rounds : List Round) (place : ℕ) → ((round : Round) → round_at rounds place ≡ Some round → includes_list (dropped_of round) id ≡ false) →
    changed_at (taken_back id) (changed_at (dropped_out id) rounds place) place ≡ rounds
at_back id [] place fresh = refl
at_back id (round ∷ rounds) zero fresh = ap (λ first. first ∷ rounds) (round_back id round (fresh round refl))
at_back id (round ∷ rounds) (suc place) fresh = ap (λ rest. round ∷ rest) (at_back id rounds place fresh)

named_back : (id : List ℕ) (rounds : List Round) (number : ℕ) → ((round : Round) → named_round rounds number ≡ Some round → includes_list (dropped_of round) id ≡ false) →
    changed_named (taken_back id) (changed_named (dropped_out id) rounds number) number ≡ rounds
named_back id rounds zero fresh = refl
named_back id rounds (suc place) fresh = at_back id rounds place fresh

pub drops_go_back : (tables : Tables) (number : ℕ) (id : List ℕ) → ((round : Round) → named_round tables.rounds number ≡ Some round → includes_list (dropped_of round) id ≡ false) →
    apply (apply tables (DroppedOut number id)) (TakenBack number id) ≡ tables
drops_go_back tables number id fresh = ap (λ rounds. record tables { rounds = rounds }) (named_back id tables.rounds number fresh)

-- what is known where a dropout changes the tables
record DropsNew (tables : Tables) (number : ℕ) (id : List ℕ) (change : Change) : Type 0 where
  bundle : Bundle
  tickets : Option ℕ
  digits : List ℕ
  dropped : List (List ℕ)
  there : named_round tables.rounds number ≡ Some (Drawn bundle tickets digits dropped)
  fresh : includes_list dropped id ≡ false
  last : eqb number (length tables.rounds) ≡ true
  is : DroppedOut number id ≡ change

drops_by : (tables : Tables) (number : ℕ) (id : List ℕ) (change : Change) (reply : Reply) (bundle : Bundle) (tickets : Option ℕ) (digits : List ℕ) (dropped : List (List ℕ)) →
    named_round tables.rounds number ≡ Some (Drawn bundle tickets digits dropped) → (member already last : Bool) (one three : Refusal) → includes_list dropped id ≡ already → eqb number (length tables.rounds) ≡ last →
    cond (not member) (Refuses one) (cond already (tells (dropped_line number id)) (cond last (changes (DroppedOut number id) (dropped_line number id)) (Refuses three))) ≡ Replies (Some change) reply →
    DropsNew tables number id change
drops_by tables number id change reply bundle tickets digits dropped at false already last one three e f h = absurd (cc)
drops_by tables number id change reply bundle tickets digits dropped at true true last one three e f h = absurd (cc)
drops_by tables number id change reply bundle tickets digits dropped at true false true one three e f h =
    record { bundle = bundle; tickets = tickets; digits = digits; dropped = dropped; there = at; fresh = e; last = f; is = cc }
drops_by tables number id change reply bundle tickets digits dropped at true false false one three e f h = absurd (cc)

drops_new : (tables : Tables) (number : ℕ) (id : List ℕ) (change : Change) (reply : Reply) (found : Option Round) → named_round tables.rounds number ≡ found → drop_in tables number id found ≡ Replies (Some change) reply →
    DropsNew tables number id change
drops_new tables number id change reply None at h = absurd (cc)
drops_new tables number id change reply (Some Open) at h = absurd (cc)
drops_new tables number id change reply (Some (Solved bundle)) at h = absurd (cc)
drops_new tables number id change reply (Some (Sealed bundle tickets)) at h = absurd (cc)
drops_new tables number id change reply (Some (Drawn bundle tickets digits dropped)) at h =
    drops_by tables number id change reply bundle tickets digits dropped at (includes_list (drawn_ids bundle tickets digits) id) (includes_list dropped id) (eqb number (length tables.rounds)) _ _ refl refl h

includes_pushed : (dropped : List (List ℕ)) (id : List ℕ) → includes_list (dropped ++ id ∷ []) id ≡ true
includes_pushed dropped id = list_any-append (bytes_eq id) dropped (id ∷ []) ∙ (rw (same_bytes id) (or-true (includes_list dropped id)))

length_at : (change : Round → Round) (rounds : List Round) (place : ℕ) → length (changed_at change rounds place) ≡ length rounds
length_at change [] place = refl
length_at change (first ∷ rounds) zero = refl
length_at change (first ∷ rounds) (suc place) = ap suc (length_at change rounds place)

length_named : (change : Round → Round) (rounds : List Round) (number : ℕ) → length (changed_named change rounds number) ≡ length rounds
length_named change rounds zero = refl
length_named change rounds (suc place) = length_at change rounds place

module _ (tables : Tables) (number : ℕ) (id : List ℕ) where
  undrop_by : (dropped : List (List ℕ)) (bundle : Bundle) (tickets : Option ℕ) (digits : List ℕ) → includes_list dropped id ≡ true → is_withdrawn (with_id tables.register id) ≡ false →
      eqb number (length (changed_named (dropped_out id) tables.rounds number)) ≡ true → undrop_in (apply tables (DroppedOut number id)) number id (Some (Drawn bundle tickets digits dropped)) ≡ changes (TakenBack number id) (undropped_line number id)
  undrop_by dropped bundle tickets digits member stays last = rw (member, stays, last) refl

  undrop_leads : (change : Change) → is_withdrawn (with_id tables.register id) ≡ false → DropsNew tables number id change → Leads (apply tables change) (Undrop number id) tables
  undrop_leads change stays drops =
      let after = named_there (dropped_out id) tables.rounds number (Drawn drops.bundle drops.tickets drops.digits drops.dropped) drops.there in
      let last : eqb number (length (changed_named (dropped_out id) tables.rounds number)) ≡ true = ap (eqb number) (length_named (dropped_out id) tables.rounds number) ∙ drops.last in
      let told = undrop_by (drops.dropped ++ id ∷ []) drops.bundle drops.tickets drops.digits (includes_pushed drops.dropped id) stays last in
      let decided : asked (apply tables (DroppedOut number id)) (Undrop number id) ≡ IsDecided (changes (TakenBack number id) (undropped_line number id)) =
      ap IsDecided (ap (undrop_in (apply tables (DroppedOut number id)) number id) after ∙ told) in
      let fresh : (round : Round) → named_round tables.rounds number ≡ Some round → includes_list (dropped_of round) id ≡ false =
      λ round at. let there = drops.there in let same : Drawn drops.bundle drops.tickets drops.digits drops.dropped ≡ round = cc in subst (λ r. includes_list (dropped_of r) id ≡ false) same drops.fresh in
      let leads : Leads (apply tables (DroppedOut number id)) (Undrop number id) tables = record {
        outcome = changes (TakenBack number id) (undropped_line number id);
        comes = AtOnce decided;
        leaves = sym (drops_go_back tables number id fresh);
      } in
      subst (λ c. Leads (apply tables c) (Undrop number id) tables) drops.is leads

pub drop_then_undrop : (tables : Tables) (number : ℕ) (id : List ℕ) (change : Change) (reply : Reply) → is_withdrawn (with_id tables.register id) ≡ false →
    Comes tables (Drop number id) (Replies (Some change) reply) → Leads (apply tables change) (Undrop number id) tables
drop_then_undrop tables number id change reply stays (AtOnce h) = undrop_leads tables number id change stays (drops_new tables number id change reply (named_round tables.rounds number) refl (says _ _ h))
drop_then_undrop tables number id change reply stays (ByRun other limits pool ending same needs ends is) = absurd (cc)

-- ---- a round that was begun

pushed_taken : (rounds : List Round) → taken_at (rounds ++ Open ∷ []) (length rounds) ≡ rounds
pushed_taken [] = refl
pushed_taken (round ∷ rounds) = ap (λ rest. round ∷ rest) (pushed_taken rounds)

pub pushed_there : (rounds : List Round) (last : Round) → round_at (rounds ++ last ∷ []) (length rounds) ≡ Some last
pushed_there [] last = refl
pushed_there (round ∷ rounds) last = pushed_there rounds last

plus_one : (n : ℕ) → suc n ≡ n + 1
plus_one n = omega arith

-- the rounds without the one that was begun
named_taken : (rounds : List Round) (number : ℕ) → number ≡ suc (length rounds) → taken_named (rounds ++ Open ∷ []) number ≡ rounds
named_taken rounds number is = subst (λ n. taken_named (rounds ++ Open ∷ []) n ≡ rounds) (sym is) (pushed_taken rounds)

pub rounds_go_back : (tables : Tables) → apply (apply tables Begun) (Reopened (length tables.rounds + 1)) ≡ record tables { bounds = None }
rounds_go_back tables = ap (λ rounds. record tables { rounds = rounds; bounds = None }) (named_taken tables.rounds (length tables.rounds + 1) (sym (plus_one (length tables.rounds))))

-- the round that was begun is open and the last
reopens : (tables : Tables) (number : ℕ) → number ≡ suc (length tables.rounds) → asked (apply tables Begun) (Reopen number) ≡ IsDecided (changes (Reopened number) (reopened_line number))
reopens tables number is =
    let last : eqb number (length (tables.rounds ++ Open ∷ [])) ≡ true = let pushed = length_push tables.rounds Open in (Decides-eqb number (length (tables.rounds ++ Open ∷ []))).1 (omega arith) in
    let there : named_round (tables.rounds ++ Open ∷ []) number ≡ Some Open = subst (λ n. named_round (tables.rounds ++ Open ∷ []) n ≡ Some Open) (sym is) (pushed_there tables.rounds Open) in
    rw (there, last) refl

reopen_leads : (tables : Tables) (number : ℕ) → number ≡ length tables.rounds → Leads (apply tables Begun) (Reopen (number + 1)) (record tables { bounds = None })
reopen_leads tables number last =
    let next : number + 1 ≡ suc (length tables.rounds) = omega arith in
    record {
      outcome = changes (Reopened (number + 1)) (reopened_line (number + 1));
      comes = AtOnce (reopens tables (number + 1) next);
      leaves = sym (ap (λ rounds. record tables { rounds = rounds; bounds = None }) (named_taken tables.rounds (number + 1) next));
    }

next_leads : (tables : Tables) (number : ℕ) (change : Change) (reply : Reply) (found : Option Round) → next_in tables number found ≡ Replies (Some change) reply →
    Leads (apply tables change) (Reopen (number + 1)) (record tables { bounds = None })
next_leads tables number change reply None h = absurd (cc)
next_leads tables number change reply (Some round) h =
    let is = begun tables tables number round change reply (eqb number (length tables.rounds)) refl h in
    subst (λ c. Leads (apply tables c) (Reopen (number + 1)) (record tables { bounds = None })) is.same (reopen_leads tables number is.last)

pub next_then_reopen : (tables : Tables) (number : ℕ) (change : Change) (reply : Reply) → Comes tables (NextRound number) (Replies (Some change) reply) →
    Leads (apply tables change) (Reopen (number + 1)) (record tables { bounds = None })
next_then_reopen tables number change reply (AtOnce h) = next_leads tables number change reply (named_round tables.rounds number) (says _ _ h)
next_then_reopen tables number change reply (ByRun other limits pool ending same needs ends is) = absurd (cc)
