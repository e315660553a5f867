-- What the words of a call ask for: a command with its arguments. `given_in` (command_words) matches the words to the program's table of
-- commands and options; this file tests the ranges of the numbers and makes the command. The contract of `office` cites it.
use Rattle.std.specs.Prelude.{◌&&◌, ℕ, Bool, true, false, List, Option, Some, None, codes, if◌then◌else◌, nat_le, option_and_then, option_map}
use Rattle.command_desk.specs.declared.calling.Serve.{Serve}
use Rattle.command_meanings.specs.declared.office.Import.{Import}
use Rattle.command_meanings.specs.declared.office.Import.TheVariants as imports
use Rattle.command_meanings.specs.declared.office.RoundText.{RoundText}
use Rattle.command_meanings.specs.declared.office.RoundText.TheVariants as stored
use Rattle.command_texts.specs.TextAsked.{prove_in, text_asked}
use Rattle.command_words.specs.Given.{Given, flag_of, number_of, text_of}
use Rattle.command_words.specs.Words.{given_in}
use Rattle.command_words.specs.declared.words.CommandName.{CommandName}
use Rattle.command_words.specs.declared.words.CommandName.TheVariants as name
use Rattle.define_runs.specs.Run.{Limits}
use Rattle.command_office.specs.declared.asked.Asked.{Asked}
use Rattle.command_office.specs.declared.asked.Asked.TheVariants as asks
use Rattle.command_office.specs.declared.steps.Step.{Step}
use Rattle.command_office.specs.declared.steps.Step.TheVariants as steps

abbrev pub limits_from : ℕ → ℕ → ℕ → Option Limits
limits_from bits pivots nodes =
    if nat_le 1 bits && nat_le bits 127 && nat_le pivots 1000000000 && nat_le nodes 1000000000000
    then Some (record { bits = bits; pivots = pivots; nodes = nodes }) else None

-- the limits of a run, from the options `bits`, `pivots` and `nodes`; None if one is missing or out of its range
abbrev pub limits_in : Given → Option Limits
limits_in given =
    option_and_then (λ bits.
    option_and_then (λ pivots. option_and_then (limits_from bits pivots) (number_of (codes "nodes") given))
    (number_of (codes "pivots") given))
    (number_of (codes "bits") given)

abbrev pub workers_from : ℕ → Option ℕ
workers_from number = if nat_le 1 number && nat_le number 64 then Some number else None

-- how many workers price, from the option `workers`; None if it is missing or not from 1 to 64
abbrev pub workers_in : Given → Option ℕ
workers_in given = option_and_then workers_from (number_of (codes "workers") given)

abbrev pub volunteers_from : ℕ → Option ℕ
volunteers_from number = if nat_le 1 number && nat_le number 400 then Some number else None

-- how many volunteers a made pool has, from the option `volunteers`; None if it is missing or not from 1 to 400
abbrev pub volunteers_in : Given → Option ℕ
volunteers_in given = option_and_then volunteers_from (number_of (codes "volunteers") given)

abbrev pub make_asked : Given → Option Asked
make_asked given =
    option_and_then (λ seed.
    option_and_then (λ volunteers.
    option_and_then (λ limits.
    option_map (λ workers. asks.Make (record { seed = seed; volunteers = volunteers; limits = limits; workers = workers }))
    (workers_in given)) (limits_in given)) (volunteers_in given)) (number_of (codes "seed") given)

-- `lottery`; if the flag `share` is given, its workers share a bound
abbrev pub lottery_from : Bool → Limits → ℕ → Asked
lottery_from true limits workers = asks.SharedLottery (record { limits = limits; workers = workers })
lottery_from false limits workers = asks.Lottery (record { limits = limits; workers = workers })

abbrev pub lottery_asked : Given → Option Asked
lottery_asked given =
    option_and_then (λ limits. option_map (lottery_from (flag_of (codes "share") given) limits) (workers_in given)) (limits_in given)

abbrev pub legs_asked : Given → Option Asked
legs_asked given =
    option_and_then (λ limits. option_map (λ workers. asks.Legs (record { limits = limits; workers = workers })) (workers_in given)) (limits_in given)

-- the number of the round, from the option `round`; None if it is missing
abbrev pub round_in : Given → Option ℕ
round_in given = number_of (codes "round") given

-- a command of the office over the store that the words name; None if they name none
abbrev pub step_asked : Step → Given → Option Asked
step_asked step given = option_map (λ store. asks.Step store step) (text_of (codes "store") given)

-- an import into the store that the words name; None if they name none
abbrev pub import_asked : Import → Given → Option Asked
import_asked import given = option_map (λ store. asks.Import store import) (text_of (codes "store") given)

-- a text about a round of the store that the words name; None if they name none
abbrev pub round_text_asked : RoundText → Given → Option Asked
round_text_asked it given =
    option_and_then (λ round. option_map (λ store. asks.StoreText store (record { text = it; round = round })) (text_of (codes "store") given)) (round_in given)

-- a command that reads one text; None if the words ask for none
abbrev pub text_command_asked : Given → Option Asked
text_command_asked given = option_map asks.Text (text_asked given)

abbrev pub round_proof_asked : Given → List ℕ → Option Asked
round_proof_asked given store =
    option_and_then (λ prove. option_map (λ round. asks.ProveRound store (record { round = round; prove = prove })) (round_in given)) (prove_in given)

-- `prove`: for a round of the store if the words name one, else for the pool or bundle that is read
abbrev pub prove_from : Given → Option (List ℕ) → Option Asked
prove_from given (Some store) = round_proof_asked given store
prove_from given None = option_map asks.Prove (prove_in given)

abbrev pub tickets_from : ℕ → Option ℕ
tickets_from number = if nat_le 1 number && nat_le number 1000000000 then Some number else None

-- the seal of a round, with which this number of tickets is kept, if there is one
abbrev pub seal_step_asked : Given → Option ℕ → Option Asked
seal_step_asked given tickets = option_and_then (λ round. step_asked (steps.Seal round tickets) given) (round_in given)

-- the same for the number that the words give, if they give one; None if it is not from 1 to 1000000000
abbrev pub round_seal_from : Given → Option ℕ → Option Asked
round_seal_from given None = seal_step_asked given None
round_seal_from given (Some number) = option_and_then (λ tickets. seal_step_asked given (Some tickets)) (tickets_from number)

-- the seal of the bundle that is read; None if a number of tickets is given
abbrev pub text_seal_from : Given → Option ℕ → Option Asked
text_seal_from given None = text_command_asked given
text_seal_from given (Some number) = None

-- `seal`: of a round of the store if the words name one, else of the bundle that is read
abbrev pub seal_from : Given → Option (List ℕ) → Option Asked
seal_from given (Some store) = round_seal_from given (number_of (codes "tickets") given)
seal_from given None = text_seal_from given (number_of (codes "tickets") given)

-- the draw from a round; if the flag `try` is given, nothing is kept
abbrev pub draw_step : Bool → ℕ → List ℕ → List ℕ → Step
draw_step true round seal digits = steps.Try round seal digits
draw_step false round seal digits = steps.Draw round seal digits

abbrev pub round_draw_asked : Given → Option Asked
round_draw_asked given =
    option_and_then (λ seal.
    option_and_then (λ digits. option_and_then (λ round. step_asked (draw_step (flag_of (codes "try") given) round seal digits) given) (round_in given))
    (text_of (codes "digits") given))
    (text_of (codes "seal") given)

-- the draw from the bundle that is read, which keeps nothing; None if the flag `try` is given
abbrev pub text_draw_from : Given → Bool → Option Asked
text_draw_from given true = None
text_draw_from given false = text_command_asked given

-- `draw`: from a round of the store if the words name one, else from the bundle that is read
abbrev pub draw_from : Given → Option (List ℕ) → Option Asked
draw_from given (Some store) = round_draw_asked given
draw_from given None = text_draw_from given (flag_of (codes "try") given)

-- the page of a round; None if digits or a number of tickets are given
abbrev pub round_page_from : Given → Option (List ℕ) → Option ℕ → Option Asked
round_page_from given (Some digits) tickets = None
round_page_from given None (Some number) = None
round_page_from given None None = round_text_asked stored.Page given

-- `page`: about a round of the store if the words name one, else about the bundle or proof that is read
abbrev pub page_from : Given → Option (List ℕ) → Option Asked
page_from given (Some store) = round_page_from given (text_of (codes "drawn") given) (number_of (codes "tickets") given)
page_from given None = text_command_asked given

abbrev pub solve_asked : Given → Option Asked
solve_asked given =
    option_and_then (λ round.
    option_and_then (λ limits. option_and_then (λ workers. step_asked (steps.Solve round limits workers) given) (workers_in given)) (limits_in given))
    (round_in given)

abbrev pub drop_asked : Given → Option Asked
drop_asked given =
    option_and_then (λ round. option_and_then (λ id. step_asked (steps.Drop round id) given) (text_of (codes "id") given)) (round_in given)

abbrev pub undrop_asked : Given → Option Asked
undrop_asked given =
    option_and_then (λ round. option_and_then (λ id. step_asked (steps.Undrop round id) given) (text_of (codes "id") given)) (round_in given)

abbrev pub later_round_from : ℕ → Option ℕ
later_round_from number = if nat_le 2 number then Some number else None

-- None if the round is missing or below 2
abbrev pub reopen_asked : Given → Option Asked
reopen_asked given = option_and_then (λ round. step_asked (steps.Reopen round) given) (option_and_then later_round_from (round_in given))

abbrev pub withdraw_asked : Given → Option Asked
withdraw_asked given = option_and_then (λ id. step_asked (steps.Withdraw id) given) (text_of (codes "id") given)

-- the number of a round, 1 if none is given
abbrev pub round_or_first : Option ℕ → ℕ
round_or_first None = 1
round_or_first (Some round) = round

abbrev pub serve_from : ℕ → ℕ → Option Serve
serve_from port connections =
    if nat_le 1 port && nat_le port 65535 && nat_le 1 connections && nat_le connections 1000000
    then Some (record { port = port; connections = connections }) else None

-- the desk over the store that the words name; None if the store or a number is missing, or a number is out of its range
abbrev pub serve_asked : Given → Option Asked
serve_asked given =
    option_and_then (λ port.
    option_and_then (λ connections.
    option_and_then (λ serve. option_map (λ store. asks.Serve store serve) (text_of (codes "store") given)) (serve_from port connections))
    (number_of (codes "connections") given))
    (number_of (codes "port") given)

abbrev pub command_asked : CommandName → Given → Option Asked
command_asked name.Prove given = prove_from given (text_of (codes "store") given)
command_asked name.Seal given = seal_from given (text_of (codes "store") given)
command_asked name.Draw given = draw_from given (text_of (codes "store") given)
command_asked name.Page given = page_from given (text_of (codes "store") given)
command_asked name.Lottery given = lottery_asked given
command_asked name.Legs given = legs_asked given
command_asked name.Make given = make_asked given
command_asked name.Solve given = solve_asked given
command_asked name.Drop given = drop_asked given
command_asked name.NextRound given = option_and_then (λ after. step_asked (steps.NextRound after) given) (number_of (codes "after") given)
command_asked name.Undrop given = undrop_asked given
command_asked name.Reopen given = reopen_asked given
command_asked name.Withdraw given = withdraw_asked given
command_asked name.Show given = option_and_then (λ round. step_asked (steps.Show round) given) (round_in given)
command_asked name.Report given = round_text_asked stored.Report given
command_asked name.Pool given = round_text_asked stored.Pool given
command_asked name.Keep given = option_and_then (λ round. import_asked (imports.Proof round) given) (round_in given)
command_asked name.ImportCharter given = import_asked imports.Charter given
command_asked name.ImportRules given = import_asked (imports.Rules (round_or_first (round_in given))) given
command_asked name.ImportRegister given = import_asked imports.Register given
command_asked name.Serve given = serve_asked given
command_asked other given = text_command_asked given

-- the command with its arguments; None if a value is missing or out of its range, or options don't go together
abbrev pub asked_by : Given → Option Asked
asked_by given = command_asked given.command given

-- the command that the words ask for; None if the words have none of the program's forms, have a value out of its range or options that
-- don't go together, or ask for help
abbrev pub asked : List (List ℕ) → Option Asked
asked words = option_and_then asked_by (given_in words)
