-- The rounds of which a volunteer dropped out.
use Rattle.std.proofs.Common.{◌≡◌, ℕ, zero, suc, ◌+◌, ◌<◌, ◌≤◌, ◌++◌, Bool, true, false, cond, eqb, List, [], ◌∷◌, drop, length, get_or, map, Option, Some, None, refl, sym, ap, ◌∙◌, arith, add-one, append_assoc}
use Rattle.std.proofs.Math.ListN.{drop_of_length-le}
use Rattle.std.proofs.Math.Seq.{drop-cons}
use Rattle.std.proofs.lemmas.List.{append-nil}
use Rattle.std.proofs.lemmas.Bool.{eq-eqb, ne_eqb, or_left}
use Rattle.define_pools.specs.Lists.{includes, includes_list}
use Rattle.define_offices.specs.Tables.{Round, Open, Solved, Sealed, Drawn, named_round, round_at}
use Rattle.define_desk.specs.Views.{dropped_from, dropped_of}
use Rattle.office_desk.specs.Bodies.{number_data}
use Rattle.serde_json.specs.Data.{Data}
use Rattle.office_tables.specs.Parts as parts

-- the dropouts of a round are those that its tables keep
pub dropped_as_kept : (round : Round) → parts.dropped_of round ≡ dropped_of round
dropped_as_kept Open = refl
dropped_as_kept (Solved bundle) = refl
dropped_as_kept (Sealed bundle tickets) = refl
dropped_as_kept (Drawn bundle tickets digits dropped) = refl

abbrev pub dropped_in : List ℕ → Option Round → Bool
dropped_in id None = false
dropped_in id (Some round) = includes_list (dropped_of round) id

skipped : (start n : ℕ) (rest : List ℕ) (b dropped : Bool) → eqb start n ≡ false → includes rest n ≡ dropped → includes (cond b (start ∷ rest) rest) n ≡ dropped
skipped start n rest true dropped apart later = rw apart later
skipped start n rest false dropped apart later = later

none_before : (id : List ℕ) (rounds : List Round) (start n : ℕ) → n < start → includes (dropped_from id rounds start) n ≡ false
none_before id [] start n h = refl
none_before id (round ∷ rounds) start n h =
    let apart : eqb start n ≡ false = ne_eqb start n (λ e. omega arith) in
    skipped start n (dropped_from id rounds (start + 1)) (includes_list (dropped_of round) id) false apart (none_before id rounds (start + 1) n (omega arith))

at_first : (start : ℕ) (rest : List ℕ) (b : Bool) → includes rest (start + 0) ≡ false → includes (cond b (start ∷ rest) rest) (start + 0) ≡ b
at_first start rest true none = or_left (eqb start (start + 0)) (includes rest (start + 0)) (eq-eqb start (start + 0) (omega arith))
at_first start rest false none = none

-- round `start + k` is among the rounds from which the volunteer dropped out exactly if the round at place `k` has this volunteer among its
-- dropouts
pub dropped_at : (id : List ℕ) (rounds : List Round) (start k : ℕ) → includes (dropped_from id rounds start) (start + k) ≡ dropped_in id (round_at rounds k)
dropped_at id [] start k = refl
dropped_at id (round ∷ rounds) start zero =
    at_first start (dropped_from id rounds (start + 1)) (includes_list (dropped_of round) id) (none_before id rounds (start + 1) (start + 0) (omega arith))
dropped_at id (round ∷ rounds) start (suc k) =
    let apart : eqb start (start + suc k) ≡ false = ne_eqb start (start + suc k) (λ e. omega arith) in
    let moved : start + suc k ≡ start + 1 + k = omega arith in
    skipped start (start + suc k) (dropped_from id rounds (start + 1)) (includes_list (dropped_of round) id) (dropped_in id (round_at rounds k)) apart
    (ap (includes (dropped_from id rounds (start + 1))) moved ∙ dropped_at id rounds (start + 1) k)

-- the same for the number of a round, counted from 1
pub dropped_named : (id : List ℕ) (rounds : List Round) (number : ℕ) → includes (dropped_from id rounds 1) number ≡ dropped_in id (named_round rounds number)
dropped_named id rounds zero = none_before id rounds 1 0 (omega arith)
dropped_named id rounds (suc k) =
    let moved : suc k ≡ 1 + k = omega arith in
    ap (includes (dropped_from id rounds 1)) moved ∙ dropped_at id rounds 1 k

-- the rounds from place `i` on are this round and those from the next place on
pub dropped_step : (id : List ℕ) (rounds : List Round) (i : ℕ) (round : Round) (b : Bool) → i < length rounds → round ≡ get_or rounds i round → includes_list (dropped_of round) id ≡ b →
    dropped_from id (drop i rounds) (i + 1) ≡ cond b ((i + 1) ∷ dropped_from id (drop (i + 1) rounds) (i + 1 + 1)) (dropped_from id (drop (i + 1) rounds) (i + 1 + 1))
dropped_step id rounds i round b inside is e =
    let rest : drop i rounds ≡ round ∷ drop (i + 1) rounds = drop-cons rounds i round inside ∙ (ap (λ (r : Round). r ∷ drop (suc i) rounds) (sym is) ∙ ap (λ (k : ℕ). round ∷ drop k rounds) (sym (add-one i))) in
    let later = dropped_from id (drop (i + 1) rounds) (i + 1 + 1) in
    ap (λ all. dropped_from id all (i + 1)) rest ∙ ap (λ (found : Bool). cond found ((i + 1) ∷ later) later) e

-- values that tell the rounds before place `i` tell those before the next place too, with this round's number if the volunteer dropped out
-- of it
pub told_more : (id : List ℕ) (rounds : List Round) (i : ℕ) (round : Round) (has : Bool) (before after all : List Data) → i < length rounds → round ≡ get_or rounds i round → has ≡ includes_list (dropped_of round) id →
    after ≡ before ++ cond has (number_data (i + 1) ∷ []) [] → before ++ map number_data (dropped_from id (drop i rounds) (i + 1)) ≡ all →
    after ++ map number_data (dropped_from id (drop (i + 1) rounds) (i + 1 + 1)) ≡ all
told_more id rounds i round has before after all inside is e pushed told =
    ap (λ (xs : List Data). xs ++ map number_data (dropped_from id (drop (i + 1) rounds) (i + 1 + 1))) pushed
    ∙ (append_assoc before (cond has (number_data (i + 1) ∷ []) []) (map number_data (dropped_from id (drop (i + 1) rounds) (i + 1 + 1)))
    ∙ (ap (λ (xs : List Data). before ++ xs) (joined has (dropped_from id (drop (i + 1) rounds) (i + 1 + 1)))
    ∙ (ap (λ (xs : List ℕ). before ++ map number_data xs) (sym (dropped_step id rounds i round has inside is (sym e))) ∙ told)))
  where
    joined : (b : Bool) (rest : List ℕ) → cond b (number_data (i + 1) ∷ []) [] ++ map number_data rest ≡ map number_data (cond b ((i + 1) ∷ rest) rest)
    joined true rest = refl
    joined false rest = refl

pub told_all : (id : List ℕ) (rounds : List Round) (i : ℕ) (values : List Data) → length rounds ≤ i → values ++ map number_data (dropped_from id (drop i rounds) (i + 1)) ≡ map number_data (dropped_from id rounds 1) →
    values ≡ map number_data (dropped_from id rounds 1)
told_all id rounds i values past told =
    sym (append-nil values) ∙ (ap (λ (rest : List Round). values ++ map number_data (dropped_from id rest (i + 1))) (sym (drop_of_length-le rounds past)) ∙ told)

pub with_value : (has : Bool) (value : Data) (before after : List Data) → has ≡ true → after ≡ before ++ value ∷ [] → after ≡ before ++ cond has (value ∷ []) []
with_value has value before after h e = rw h e

pub without_value : (has : Bool) (value : Data) (before after : List Data) → has ≡ false → after ≡ before → after ≡ before ++ cond has (value ∷ []) []
without_value has value before after h e = rw h (e ∙ sym (append-nil before))
