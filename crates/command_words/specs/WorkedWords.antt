-- What some lists of words give. The table of commands is code, so these laws fix what the program's users rely on: each command's name,
-- its defaults, and the ends of its ranges. Proved by computing, in src/worked.rt.
use Rattle.std.specs.Prelude.{◌≡◌, ℕ, Bool, true, false, List, [], ◌∷◌, None, Some, codes}
use Rattle.command_words.specs.Words.{given_in}
use Rattle.command_words.specs.declared.given.Value.{Value}
use Rattle.command_words.specs.declared.given.Value.TheVariants.{Flag, Number, Text}
use Rattle.command_words.specs.declared.words.CommandName.{CommandName}
use Rattle.command_words.specs.declared.words.CommandName.TheVariants as name

-- the words give this command with these values
abbrev pub Give : List (List ℕ) → CommandName → List (List ℕ × Value) → Type 0
Give words command values = given_in words ≡ Some (record { command = command; values = values })

-- the words give no command: `clap` finds a fault in them, or a value doesn't have its form
abbrev pub GiveNothing : List (List ℕ) → Type 0
GiveNothing words = given_in words ≡ None

abbrev pub number : List ℕ → ℕ → List ℕ × Value
number name value = (name, Number value)

abbrev pub text : List ℕ → List ℕ → List ℕ × Value
text name value = (name, Text value)

abbrev pub flag : List ℕ → Bool → List ℕ × Value
flag name given = (name, Flag given)

-- `prove` has a budget of up to 10 ^ 9 pivots and 10 ^ 12 nodes. `store` may be absent, and rounds are from 0 to 1000, round 1 if none is
-- given
pub record ProveGives : Type 0 where
  pub defaults : Give (codes "prove" ∷ []) name.Prove (number (codes "round") 1 ∷ number (codes "pivots") 1000000 ∷ number (codes "nodes") 200000 ∷ [])
  pub least : Give (codes "prove" ∷ codes "--pivots" ∷ codes "0" ∷ codes "--nodes" ∷ codes "0" ∷ []) name.Prove
      (number (codes "round") 1 ∷ number (codes "pivots") 0 ∷ number (codes "nodes") 0 ∷ [])
  pub most : Give (codes "prove" ∷ codes "--pivots" ∷ codes "1000000000" ∷ codes "--nodes" ∷ codes "1000000000000" ∷ []) name.Prove
      (number (codes "round") 1 ∷ number (codes "pivots") 1000000000 ∷ number (codes "nodes") 1000000000000 ∷ [])
  pub pivots : GiveNothing (codes "prove" ∷ codes "--pivots" ∷ codes "1000000001" ∷ [])
  pub nodes : GiveNothing (codes "prove" ∷ codes "--nodes" ∷ codes "1000000000001" ∷ [])
  pub store : Give (codes "prove" ∷ codes "--store" ∷ codes "s" ∷ codes "--round" ∷ codes "1000" ∷ []) name.Prove
      (text (codes "store") (codes "s") ∷ number (codes "round") 1000 ∷ number (codes "pivots") 1000000 ∷ number (codes "nodes") 200000 ∷ [])
  pub more : GiveNothing (codes "prove" ∷ codes "--store" ∷ codes "s" ∷ codes "--round" ∷ codes "1001" ∷ [])

pub record PlainGive : Type 0 where
  pub verify : Give (codes "verify" ∷ []) name.Verify []
  pub check_cover : Give (codes "check-cover" ∷ []) name.CheckCover []
  pub bundle : Give (codes "bundle" ∷ []) name.Bundle []
  pub dice : Give (codes "dice" ∷ []) name.Dice []
  pub tickets : Give (codes "tickets" ∷ []) name.Tickets []
  pub chances : Give (codes "chances" ∷ []) name.Chances []
  pub explain : Give (codes "explain" ∷ []) name.Explain []

-- for `seal`, `store` may be absent, and rounds are from 0 to 1000, round 1 if none is given. Numbers of tickets are from 1 to 10 ^ 9, and there
-- is none if none is given. An option must have a value, and may be given only once
pub record SealGives : Type 0 where
  pub absent : Give (codes "seal" ∷ []) name.Seal (number (codes "round") 1 ∷ [])
  pub store : Give (codes "seal" ∷ codes "--store" ∷ codes "s" ∷ []) name.Seal (text (codes "store") (codes "s") ∷ number (codes "round") 1 ∷ [])
  pub least : Give (codes "seal" ∷ codes "--round" ∷ codes "0" ∷ []) name.Seal (number (codes "round") 0 ∷ [])
  pub most : Give (codes "seal" ∷ codes "--round" ∷ codes "1000" ∷ []) name.Seal (number (codes "round") 1000 ∷ [])
  pub more : GiveNothing (codes "seal" ∷ codes "--round" ∷ codes "1001" ∷ [])
  pub twice : GiveNothing (codes "seal" ∷ codes "--store" ∷ codes "s" ∷ codes "--store" ∷ codes "t" ∷ [])
  pub no_value : GiveNothing (codes "seal" ∷ codes "--store" ∷ [])
  pub tickets : Give (codes "seal" ∷ codes "--store" ∷ codes "s" ∷ codes "--tickets" ∷ codes "1" ∷ []) name.Seal
      (text (codes "store") (codes "s") ∷ number (codes "round") 1 ∷ number (codes "tickets") 1 ∷ [])
  pub most_tickets : Give (codes "seal" ∷ codes "--tickets" ∷ codes "1000000000" ∷ []) name.Seal (number (codes "round") 1 ∷ number (codes "tickets") 1000000000 ∷ [])
  pub no_tickets : GiveNothing (codes "seal" ∷ codes "--store" ∷ codes "s" ∷ codes "--tickets" ∷ codes "0" ∷ [])
  pub more_tickets : GiveNothing (codes "seal" ∷ codes "--store" ∷ codes "s" ∷ codes "--tickets" ∷ codes "1000000001" ∷ [])

-- `draw` requires both texts, the seal and the digits; `store` may be absent, and rounds are as in `seal`. Its flag `try` is given or not
pub record DrawGives : Type 0 where
  pub texts : Give (codes "draw" ∷ codes "--seal" ∷ codes "s" ∷ codes "--digits" ∷ codes "97" ∷ []) name.Draw
      (number (codes "round") 1 ∷ text (codes "seal") (codes "s") ∷ text (codes "digits") (codes "97") ∷ flag (codes "try") false ∷ [])
  pub least : Give (codes "draw" ∷ codes "--round" ∷ codes "0" ∷ codes "--seal" ∷ codes "s" ∷ codes "--digits" ∷ codes "97" ∷ []) name.Draw
      (number (codes "round") 0 ∷ text (codes "seal") (codes "s") ∷ text (codes "digits") (codes "97") ∷ flag (codes "try") false ∷ [])
  pub most : Give (codes "draw" ∷ codes "--store" ∷ codes "t" ∷ codes "--round" ∷ codes "1000" ∷ codes "--seal" ∷ codes "s" ∷ codes "--digits" ∷ codes "97" ∷ []) name.Draw
      (text (codes "store") (codes "t") ∷ number (codes "round") 1000 ∷ text (codes "seal") (codes "s") ∷ text (codes "digits") (codes "97") ∷ flag (codes "try") false ∷ [])
  pub more : GiveNothing (codes "draw" ∷ codes "--round" ∷ codes "1001" ∷ codes "--seal" ∷ codes "s" ∷ codes "--digits" ∷ codes "97" ∷ [])
  pub no_seal : GiveNothing (codes "draw" ∷ codes "--digits" ∷ codes "97" ∷ [])
  pub no_digits : GiveNothing (codes "draw" ∷ codes "--seal" ∷ codes "s" ∷ [])
  pub tried : Give (codes "draw" ∷ codes "--try" ∷ codes "--store" ∷ codes "t" ∷ codes "--seal" ∷ codes "s" ∷ codes "--digits" ∷ codes "97" ∷ []) name.Draw
      (text (codes "store") (codes "t") ∷ number (codes "round") 1 ∷ text (codes "seal") (codes "s") ∷ text (codes "digits") (codes "97") ∷ flag (codes "try") true ∷ [])
  pub tried_value : GiveNothing (codes "draw" ∷ codes "--seal" ∷ codes "s" ∷ codes "--digits" ∷ codes "97" ∷ codes "--try" ∷ codes "true" ∷ [])

-- numbers of tickets are from 1 to 10 ^ 9. If none is given, `short` and `short-draw` have 1000, and `dice` and `tickets` have none
pub record ShortGives : Type 0 where
  pub short : Give (codes "short" ∷ []) name.Short (number (codes "tickets") 1000 ∷ [])
  pub least : Give (codes "short" ∷ codes "--tickets" ∷ codes "1" ∷ []) name.Short (number (codes "tickets") 1 ∷ [])
  pub most : Give (codes "short" ∷ codes "--tickets" ∷ codes "1000000000" ∷ []) name.Short (number (codes "tickets") 1000000000 ∷ [])
  pub none : GiveNothing (codes "short" ∷ codes "--tickets" ∷ codes "0" ∷ [])
  pub more : GiveNothing (codes "short" ∷ codes "--tickets" ∷ codes "1000000001" ∷ [])
  pub dice : Give (codes "dice" ∷ codes "--tickets" ∷ codes "1000" ∷ []) name.Dice (number (codes "tickets") 1000 ∷ [])
  pub tickets : Give (codes "tickets" ∷ codes "--tickets" ∷ codes "1" ∷ []) name.Tickets (number (codes "tickets") 1 ∷ [])
  pub no_dice : GiveNothing (codes "dice" ∷ codes "--tickets" ∷ codes "0" ∷ [])
  pub draw : Give (codes "short-draw" ∷ codes "--tickets" ∷ codes "10" ∷ codes "--seal" ∷ codes "s" ∷ codes "--digits" ∷ codes "97" ∷ []) name.ShortDraw
      (number (codes "tickets") 10 ∷ text (codes "seal") (codes "s") ∷ text (codes "digits") (codes "97") ∷ [])
  pub default : Give (codes "short-draw" ∷ codes "--seal" ∷ codes "s" ∷ codes "--digits" ∷ codes "97" ∷ []) name.ShortDraw
      (number (codes "tickets") 1000 ∷ text (codes "seal") (codes "s") ∷ text (codes "digits") (codes "97") ∷ [])
  pub no_seal : GiveNothing (codes "short-draw" ∷ codes "--digits" ∷ codes "97" ∷ [])
  pub no_digits : GiveNothing (codes "short-draw" ∷ codes "--seal" ∷ codes "s" ∷ [])

-- the searches of `panel`, `loosen` and `check` have a budget from 0 to 10 ^ 12 visits; those of `why` and `loosen-by-proof` have the
-- budget of `prove`
pub record SearchesGive : Type 0 where
  pub panel : Give (codes "panel" ∷ []) name.Panel (number (codes "nodes") 50000000 ∷ [])
  pub panel_least : Give (codes "panel" ∷ codes "--nodes" ∷ codes "0" ∷ []) name.Panel (number (codes "nodes") 0 ∷ [])
  pub panel_most : Give (codes "panel" ∷ codes "--nodes" ∷ codes "1000000000000" ∷ []) name.Panel (number (codes "nodes") 1000000000000 ∷ [])
  pub panel_more : GiveNothing (codes "panel" ∷ codes "--nodes" ∷ codes "1000000000001" ∷ [])
  pub loosen : Give (codes "loosen" ∷ []) name.Loosen (number (codes "nodes") 50000000 ∷ [])
  pub loosen_least : Give (codes "loosen" ∷ codes "--nodes" ∷ codes "0" ∷ []) name.Loosen (number (codes "nodes") 0 ∷ [])
  pub loosen_most : Give (codes "loosen" ∷ codes "--nodes" ∷ codes "1000000000000" ∷ []) name.Loosen (number (codes "nodes") 1000000000000 ∷ [])
  pub loosen_more : GiveNothing (codes "loosen" ∷ codes "--nodes" ∷ codes "1000000000001" ∷ [])
  pub why : Give (codes "why" ∷ []) name.Why (number (codes "pivots") 1000000 ∷ number (codes "nodes") 200000 ∷ [])
  pub why_least : Give (codes "why" ∷ codes "--pivots" ∷ codes "0" ∷ codes "--nodes" ∷ codes "0" ∷ []) name.Why (number (codes "pivots") 0 ∷ number (codes "nodes") 0 ∷ [])
  pub why_most : Give (codes "why" ∷ codes "--pivots" ∷ codes "1000000000" ∷ codes "--nodes" ∷ codes "1000000000000" ∷ []) name.Why
      (number (codes "pivots") 1000000000 ∷ number (codes "nodes") 1000000000000 ∷ [])
  pub by_proof : Give (codes "loosen-by-proof" ∷ []) name.LoosenByProof (number (codes "pivots") 1000000 ∷ number (codes "nodes") 200000 ∷ [])
  pub by_proof_more : GiveNothing (codes "loosen-by-proof" ∷ codes "--pivots" ∷ codes "1000000001" ∷ [])
  pub why_more : GiveNothing (codes "why" ∷ codes "--nodes" ∷ codes "1000000000001" ∷ [])
  pub cover : Give (codes "cover" ∷ []) name.Cover (number (codes "nodes") 50000000 ∷ [])
  pub cover_least : Give (codes "cover" ∷ codes "--nodes" ∷ codes "0" ∷ []) name.Cover (number (codes "nodes") 0 ∷ [])
  pub cover_most : Give (codes "cover" ∷ codes "--nodes" ∷ codes "1000000000000" ∷ []) name.Cover (number (codes "nodes") 1000000000000 ∷ [])
  pub cover_more : GiveNothing (codes "cover" ∷ codes "--nodes" ∷ codes "1000000000001" ∷ [])
  pub check : Give (codes "check" ∷ []) name.Check (number (codes "nodes") 50000000 ∷ [])
  pub check_least : Give (codes "check" ∷ codes "--nodes" ∷ codes "0" ∷ []) name.Check (number (codes "nodes") 0 ∷ [])
  pub check_most : Give (codes "check" ∷ codes "--nodes" ∷ codes "1000000000000" ∷ []) name.Check (number (codes "nodes") 1000000000000 ∷ [])
  pub check_more : GiveNothing (codes "check" ∷ codes "--nodes" ∷ codes "1000000000001" ∷ [])

-- `lottery` has a width of 1 to 127 bits, a budget of up to 10 ^ 9 pivots and 10 ^ 12 visits, and from 1 to 64 workers. Its flag `share` is
-- given or not
pub record LotteryGives : Type 0 where
  pub defaults : Give (codes "lottery" ∷ []) name.Lottery
      (number (codes "bits") 127 ∷ number (codes "pivots") 100000 ∷ number (codes "nodes") 50000000 ∷ number (codes "workers") 1 ∷ flag (codes "share") false ∷ [])
  pub least : Give (codes "lottery" ∷ codes "--bits" ∷ codes "1" ∷ codes "--pivots" ∷ codes "0" ∷ codes "--nodes" ∷ codes "0" ∷ []) name.Lottery
      (number (codes "bits") 1 ∷ number (codes "pivots") 0 ∷ number (codes "nodes") 0 ∷ number (codes "workers") 1 ∷ flag (codes "share") false ∷ [])
  pub most : Give (codes "lottery" ∷ codes "--pivots" ∷ codes "1000000000" ∷ codes "--nodes" ∷ codes "1000000000000" ∷ codes "--workers" ∷ codes "64" ∷ []) name.Lottery
      (number (codes "bits") 127 ∷ number (codes "pivots") 1000000000 ∷ number (codes "nodes") 1000000000000 ∷ number (codes "workers") 64 ∷ flag (codes "share") false ∷ [])
  pub share : Give (codes "lottery" ∷ codes "--share" ∷ codes "--workers" ∷ codes "7" ∷ []) name.Lottery
      (number (codes "bits") 127 ∷ number (codes "pivots") 100000 ∷ number (codes "nodes") 50000000 ∷ number (codes "workers") 7 ∷ flag (codes "share") true ∷ [])
  pub share_twice : GiveNothing (codes "lottery" ∷ codes "--share" ∷ codes "--share" ∷ [])
  pub share_value : GiveNothing (codes "lottery" ∷ codes "--share" ∷ codes "true" ∷ [])
  pub no_bits : GiveNothing (codes "lottery" ∷ codes "--bits" ∷ codes "0" ∷ [])
  pub more_bits : GiveNothing (codes "lottery" ∷ codes "--bits" ∷ codes "128" ∷ [])
  pub more_pivots : GiveNothing (codes "lottery" ∷ codes "--pivots" ∷ codes "1000000001" ∷ [])
  pub more_nodes : GiveNothing (codes "lottery" ∷ codes "--nodes" ∷ codes "1000000000001" ∷ [])
  pub no_workers : GiveNothing (codes "lottery" ∷ codes "--workers" ∷ codes "0" ∷ [])
  pub more_workers : GiveNothing (codes "lottery" ∷ codes "--workers" ∷ codes "65" ∷ [])

-- the limits of `legs` are those of `lottery`
pub record LegsGives : Type 0 where
  pub defaults : Give (codes "legs" ∷ []) name.Legs
      (number (codes "bits") 127 ∷ number (codes "pivots") 100000 ∷ number (codes "nodes") 50000000 ∷ number (codes "workers") 1 ∷ [])
  pub least : Give (codes "legs" ∷ codes "--bits" ∷ codes "1" ∷ codes "--pivots" ∷ codes "0" ∷ codes "--nodes" ∷ codes "0" ∷ []) name.Legs
      (number (codes "bits") 1 ∷ number (codes "pivots") 0 ∷ number (codes "nodes") 0 ∷ number (codes "workers") 1 ∷ [])
  pub most : Give (codes "legs" ∷ codes "--pivots" ∷ codes "1000000000" ∷ codes "--nodes" ∷ codes "1000000000000" ∷ codes "--workers" ∷ codes "64" ∷ []) name.Legs
      (number (codes "bits") 127 ∷ number (codes "pivots") 1000000000 ∷ number (codes "nodes") 1000000000000 ∷ number (codes "workers") 64 ∷ [])
  pub no_bits : GiveNothing (codes "legs" ∷ codes "--bits" ∷ codes "0" ∷ [])
  pub more_bits : GiveNothing (codes "legs" ∷ codes "--bits" ∷ codes "128" ∷ [])
  pub more_pivots : GiveNothing (codes "legs" ∷ codes "--pivots" ∷ codes "1000000001" ∷ [])
  pub more_nodes : GiveNothing (codes "legs" ∷ codes "--nodes" ∷ codes "1000000000001" ∷ [])
  pub no_workers : GiveNothing (codes "legs" ∷ codes "--workers" ∷ codes "0" ∷ [])
  pub more_workers : GiveNothing (codes "legs" ∷ codes "--workers" ∷ codes "65" ∷ [])
  pub share : GiveNothing (codes "legs" ∷ codes "--share" ∷ [])

-- `make` requires a seed of at most 2 ^ 63 - 1 and a number of volunteers from 1 to 400, and has the limits of `lottery`
pub record MakeGives : Type 0 where
  pub defaults : Give (codes "make" ∷ codes "--seed" ∷ codes "0" ∷ codes "--volunteers" ∷ codes "1" ∷ []) name.Make
      (number (codes "seed") 0 ∷ number (codes "volunteers") 1 ∷ number (codes "bits") 127 ∷ number (codes "pivots") 100000 ∷ number (codes "nodes") 50000000 ∷
      number (codes "workers") 1 ∷ [])
  pub most : Give (codes "make" ∷ codes "--seed" ∷ codes "9223372036854775807" ∷ codes "--volunteers" ∷ codes "400" ∷ []) name.Make
      (number (codes "seed") 9223372036854775807 ∷ number (codes "volunteers") 400 ∷ number (codes "bits") 127 ∷ number (codes "pivots") 100000 ∷
      number (codes "nodes") 50000000 ∷ number (codes "workers") 1 ∷ [])
  pub no_seed : GiveNothing (codes "make" ∷ codes "--volunteers" ∷ codes "1" ∷ [])
  pub no_volunteers : GiveNothing (codes "make" ∷ codes "--seed" ∷ codes "0" ∷ [])
  pub greater_seed : GiveNothing (codes "make" ∷ codes "--seed" ∷ codes "9223372036854775808" ∷ codes "--volunteers" ∷ codes "1" ∷ [])
  pub nobody : GiveNothing (codes "make" ∷ codes "--seed" ∷ codes "0" ∷ codes "--volunteers" ∷ codes "0" ∷ [])
  pub too_many : GiveNothing (codes "make" ∷ codes "--seed" ∷ codes "0" ∷ codes "--volunteers" ∷ codes "401" ∷ [])
  pub more_bits : GiveNothing (codes "make" ∷ codes "--seed" ∷ codes "0" ∷ codes "--volunteers" ∷ codes "1" ∷ codes "--bits" ∷ codes "128" ∷ [])
  pub share : GiveNothing (codes "make" ∷ codes "--seed" ∷ codes "0" ∷ codes "--volunteers" ∷ codes "1" ∷ codes "--share" ∷ [])

-- a command over a round of a store, with further words and their values: the store is required, and rounds are from 0 to 1000, round 1 if
-- none is given
pub record RoundGives (command : CommandName) (word : List ℕ) (words : List (List ℕ)) (values : List (List ℕ × Value)) : Type 0 where
  pub defaults : Give (word ∷ codes "--store" ∷ codes "s" ∷ words) command (text (codes "store") (codes "s") ∷ number (codes "round") 1 ∷ values)
  pub least : Give (word ∷ codes "--store" ∷ codes "s" ∷ codes "--round" ∷ codes "0" ∷ words) command
      (text (codes "store") (codes "s") ∷ number (codes "round") 0 ∷ values)
  pub most : Give (word ∷ codes "--store" ∷ codes "s" ∷ codes "--round" ∷ codes "1000" ∷ words) command
      (text (codes "store") (codes "s") ∷ number (codes "round") 1000 ∷ values)
  pub more : GiveNothing (word ∷ codes "--store" ∷ codes "s" ∷ codes "--round" ∷ codes "1001" ∷ words)
  pub no_store : GiveNothing (word ∷ words)

pub record KeepGives : Type 0 where
  pub rounds : RoundGives name.Keep (codes "keep") [] []
  pub another : GiveNothing (codes "keep" ∷ codes "--store" ∷ codes "s" ∷ codes "--nodes" ∷ codes "1" ∷ [])

-- the limits of `solve` are those of `lottery`
pub record SolveGives : Type 0 where
  pub rounds : RoundGives name.Solve (codes "solve") []
      (number (codes "bits") 127 ∷ number (codes "pivots") 100000 ∷ number (codes "nodes") 50000000 ∷ number (codes "workers") 1 ∷ [])
  pub more_bits : GiveNothing (codes "solve" ∷ codes "--store" ∷ codes "s" ∷ codes "--bits" ∷ codes "128" ∷ [])

-- `drop` requires the id of the member who drops out
pub record DropGives : Type 0 where
  pub rounds : RoundGives name.Drop (codes "drop") (codes "--id" ∷ codes "b" ∷ []) (text (codes "id") (codes "b") ∷ [])
  pub no_id : GiveNothing (codes "drop" ∷ codes "--store" ∷ codes "s" ∷ [])

-- `next-round` requires the store; its option `after` is from 0 to 1000, and 1 if it is not given
pub record NextRoundGives : Type 0 where
  pub defaults : Give (codes "next-round" ∷ codes "--store" ∷ codes "s" ∷ []) name.NextRound (text (codes "store") (codes "s") ∷ number (codes "after") 1 ∷ [])
  pub least : Give (codes "next-round" ∷ codes "--store" ∷ codes "s" ∷ codes "--after" ∷ codes "0" ∷ []) name.NextRound
      (text (codes "store") (codes "s") ∷ number (codes "after") 0 ∷ [])
  pub most : Give (codes "next-round" ∷ codes "--store" ∷ codes "s" ∷ codes "--after" ∷ codes "1000" ∷ []) name.NextRound
      (text (codes "store") (codes "s") ∷ number (codes "after") 1000 ∷ [])
  pub more : GiveNothing (codes "next-round" ∷ codes "--store" ∷ codes "s" ∷ codes "--after" ∷ codes "1001" ∷ [])
  pub no_store : GiveNothing (codes "next-round" ∷ [])

-- `undrop` requires the id of the member whose dropout is taken back
pub record UndropGives : Type 0 where
  pub rounds : RoundGives name.Undrop (codes "undrop") (codes "--id" ∷ codes "b" ∷ []) (text (codes "id") (codes "b") ∷ [])
  pub no_id : GiveNothing (codes "undrop" ∷ codes "--store" ∷ codes "s" ∷ [])

-- `reopen` requires the store and the round, which is from 2 to 1000
pub record ReopenGives : Type 0 where
  pub least : Give (codes "reopen" ∷ codes "--store" ∷ codes "s" ∷ codes "--round" ∷ codes "2" ∷ []) name.Reopen
      (text (codes "store") (codes "s") ∷ number (codes "round") 2 ∷ [])
  pub most : Give (codes "reopen" ∷ codes "--store" ∷ codes "s" ∷ codes "--round" ∷ codes "1000" ∷ []) name.Reopen
      (text (codes "store") (codes "s") ∷ number (codes "round") 1000 ∷ [])
  pub first : GiveNothing (codes "reopen" ∷ codes "--store" ∷ codes "s" ∷ codes "--round" ∷ codes "1" ∷ [])
  pub more : GiveNothing (codes "reopen" ∷ codes "--store" ∷ codes "s" ∷ codes "--round" ∷ codes "1001" ∷ [])
  pub no_round : GiveNothing (codes "reopen" ∷ codes "--store" ∷ codes "s" ∷ [])
  pub no_store : GiveNothing (codes "reopen" ∷ codes "--round" ∷ codes "2" ∷ [])

-- `withdraw` requires the store and the id of the volunteer, and has no other option
pub record WithdrawGives : Type 0 where
  pub id : Give (codes "withdraw" ∷ codes "--store" ∷ codes "s" ∷ codes "--id" ∷ codes "b" ∷ []) name.Withdraw
      (text (codes "store") (codes "s") ∷ text (codes "id") (codes "b") ∷ [])
  pub no_id : GiveNothing (codes "withdraw" ∷ codes "--store" ∷ codes "s" ∷ [])
  pub no_store : GiveNothing (codes "withdraw" ∷ codes "--id" ∷ codes "b" ∷ [])
  pub round : GiveNothing (codes "withdraw" ∷ codes "--store" ∷ codes "s" ∷ codes "--id" ∷ codes "b" ∷ codes "--round" ∷ codes "1" ∷ [])

pub record ShownRoundsGive : Type 0 where
  pub show : RoundGives name.Show (codes "show") [] []
  pub report : RoundGives name.Report (codes "report") [] []
  pub pool : RoundGives name.Pool (codes "pool") [] []

-- an import requires the store, and has no other option
pub record ImportGives (command : CommandName) (word : List ℕ) : Type 0 where
  pub store : Give (word ∷ codes "--store" ∷ codes "s" ∷ []) command (text (codes "store") (codes "s") ∷ [])
  pub no_store : GiveNothing (word ∷ [])
  pub another : GiveNothing (word ∷ codes "--store" ∷ codes "s" ∷ codes "--round" ∷ codes "1" ∷ [])

-- `import-rules` may also be given a round, from 2 to 1000
pub record ImportRulesGives : Type 0 where
  pub store : Give (codes "import-rules" ∷ codes "--store" ∷ codes "s" ∷ []) name.ImportRules (text (codes "store") (codes "s") ∷ [])
  pub least : Give (codes "import-rules" ∷ codes "--store" ∷ codes "s" ∷ codes "--round" ∷ codes "2" ∷ []) name.ImportRules
      (text (codes "store") (codes "s") ∷ number (codes "round") 2 ∷ [])
  pub most : Give (codes "import-rules" ∷ codes "--store" ∷ codes "s" ∷ codes "--round" ∷ codes "1000" ∷ []) name.ImportRules
      (text (codes "store") (codes "s") ∷ number (codes "round") 1000 ∷ [])
  pub first : GiveNothing (codes "import-rules" ∷ codes "--store" ∷ codes "s" ∷ codes "--round" ∷ codes "1" ∷ [])
  pub more : GiveNothing (codes "import-rules" ∷ codes "--store" ∷ codes "s" ∷ codes "--round" ∷ codes "1001" ∷ [])
  pub no_store : GiveNothing (codes "import-rules" ∷ [])
  pub another : GiveNothing (codes "import-rules" ∷ codes "--store" ∷ codes "s" ∷ codes "--id" ∷ codes "b" ∷ [])

pub record ImportsGive : Type 0 where
  pub charter : ImportGives name.ImportCharter (codes "import-charter")
  pub rules : ImportRulesGives
  pub register : ImportGives name.ImportRegister (codes "import-register")

-- what gives nothing: no words at all, a word that is no command, the word `help`, the option for the version, which no command has, and an option
-- that the command doesn't have
pub record OthersGive : Type 0 where
  pub none : GiveNothing []
  pub another : GiveNothing (codes "sort" ∷ [])
  pub help : GiveNothing (codes "help" ∷ [])
  pub version : GiveNothing (codes "--version" ∷ [])
  pub short_version : GiveNothing (codes "-V" ∷ [])
  pub command_version : GiveNothing (codes "verify" ∷ codes "--version" ∷ [])
  pub option : GiveNothing (codes "verify" ∷ codes "--round" ∷ codes "1" ∷ [])

-- `serve` requires the store and a port. Ports are from 1 to 65535; connections are from 1 to 10 ^ 6, and 10 ^ 6 if they are
-- not given. The flag `log` has no value
pub record ServeGives : Type 0 where
  pub defaults : Give (codes "serve" ∷ codes "--store" ∷ codes "s" ∷ codes "--port" ∷ codes "1" ∷ []) name.Serve
      (text (codes "store") (codes "s") ∷ number (codes "port") 1 ∷ number (codes "connections") 1000000 ∷ flag (codes "log") false ∷ [])
  pub least : Give (codes "serve" ∷ codes "--store" ∷ codes "s" ∷ codes "--port" ∷ codes "65535" ∷ codes "--connections" ∷ codes "1" ∷ []) name.Serve
      (text (codes "store") (codes "s") ∷ number (codes "port") 65535 ∷ number (codes "connections") 1 ∷ flag (codes "log") false ∷ [])
  pub most : Give (codes "serve" ∷ codes "--store" ∷ codes "s" ∷ codes "--port" ∷ codes "1" ∷ codes "--connections" ∷ codes "1000000" ∷ []) name.Serve
      (text (codes "store") (codes "s") ∷ number (codes "port") 1 ∷ number (codes "connections") 1000000 ∷ flag (codes "log") false ∷ [])
  pub log : Give (codes "serve" ∷ codes "--log" ∷ codes "--store" ∷ codes "s" ∷ codes "--port" ∷ codes "1" ∷ []) name.Serve
      (text (codes "store") (codes "s") ∷ number (codes "port") 1 ∷ number (codes "connections") 1000000 ∷ flag (codes "log") true ∷ [])
  pub log_value : GiveNothing (codes "serve" ∷ codes "--store" ∷ codes "s" ∷ codes "--port" ∷ codes "1" ∷ codes "--log" ∷ codes "true" ∷ [])
  pub no_store : GiveNothing (codes "serve" ∷ codes "--port" ∷ codes "1" ∷ [])
  pub no_port : GiveNothing (codes "serve" ∷ codes "--store" ∷ codes "s" ∷ [])
  pub zero : GiveNothing (codes "serve" ∷ codes "--store" ∷ codes "s" ∷ codes "--port" ∷ codes "0" ∷ [])
  pub greater_port : GiveNothing (codes "serve" ∷ codes "--store" ∷ codes "s" ∷ codes "--port" ∷ codes "65536" ∷ [])
  pub nobody : GiveNothing (codes "serve" ∷ codes "--store" ∷ codes "s" ∷ codes "--port" ∷ codes "1" ∷ codes "--connections" ∷ codes "0" ∷ [])
  pub more : GiveNothing (codes "serve" ∷ codes "--store" ∷ codes "s" ∷ codes "--port" ∷ codes "1" ∷ codes "--connections" ∷ codes "1000001" ∷ [])

-- `page` may be given the digits of dice, alone or with a number of tickets, or a store with a round
pub record PageGives : Type 0 where
  pub absent : Give (codes "page" ∷ []) name.Page (number (codes "round") 1 ∷ [])
  pub digits : Give (codes "page" ∷ codes "--drawn" ∷ codes "97" ∷ []) name.Page (text (codes "drawn") (codes "97") ∷ number (codes "round") 1 ∷ [])
  pub tickets : Give (codes "page" ∷ codes "--tickets" ∷ codes "1000" ∷ codes "--drawn" ∷ codes "97" ∷ []) name.Page
      (text (codes "drawn") (codes "97") ∷ number (codes "tickets") 1000 ∷ number (codes "round") 1 ∷ [])
  pub store : Give (codes "page" ∷ codes "--store" ∷ codes "s" ∷ codes "--round" ∷ codes "2" ∷ []) name.Page
      (text (codes "store") (codes "s") ∷ number (codes "round") 2 ∷ [])
  pub no_value : GiveNothing (codes "page" ∷ codes "--drawn" ∷ [])
