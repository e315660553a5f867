use Rattle.std.proofs.Common.{refl}
use Rattle.clap.proofs.OnLiterals.{clap_on_literals}
use Rattle.command_words.specs.Words.{given_in}
use Rattle.command_words.specs.Table.{command_table, correcting_commands, draw_commands, office_commands, proof_commands, run_commands}
use Rattle.command_words.proofs.worked.words_are_worked.Goals as goal

pub returns-clause-prove : goal.returns-clause-prove
unfolding given_in command_table proof_commands draw_commands office_commands correcting_commands run_commands clap_on_literals
returns-clause-prove c = record { defaults = refl; least = refl; most = refl; pivots = refl; nodes = refl; store = refl; more = refl }

pub returns-clause-keep : goal.returns-clause-keep
unfolding given_in command_table proof_commands draw_commands office_commands correcting_commands run_commands clap_on_literals
returns-clause-keep c = record { rounds = record { defaults = refl; least = refl; most = refl; more = refl; no_store = refl }; another = refl }

pub returns-clause-plain : goal.returns-clause-plain
unfolding given_in command_table proof_commands draw_commands office_commands correcting_commands run_commands clap_on_literals
returns-clause-plain c = record { verify = refl; check_cover = refl; bundle = refl; dice = refl; tickets = refl; chances = refl; explain = refl }

pub returns-clause-seal : goal.returns-clause-seal
unfolding given_in command_table proof_commands draw_commands office_commands correcting_commands run_commands clap_on_literals
returns-clause-seal c = record { absent = refl; store = refl; least = refl; most = refl; more = refl; twice = refl; no_value = refl; tickets = refl; most_tickets = refl; no_tickets = refl; more_tickets = refl }

pub returns-clause-draw : goal.returns-clause-draw
unfolding given_in command_table proof_commands draw_commands office_commands correcting_commands run_commands clap_on_literals
returns-clause-draw c = record { texts = refl; least = refl; most = refl; more = refl; no_seal = refl; no_digits = refl; tried = refl; tried_value = refl }

pub returns-clause-solve : goal.returns-clause-solve
unfolding given_in command_table proof_commands draw_commands office_commands correcting_commands run_commands clap_on_literals
returns-clause-solve c = record { rounds = record { defaults = refl; least = refl; most = refl; more = refl; no_store = refl }; more_bits = refl }

pub returns-clause-drop : goal.returns-clause-drop
unfolding given_in command_table proof_commands draw_commands office_commands correcting_commands run_commands clap_on_literals
returns-clause-drop c = record { rounds = record { defaults = refl; least = refl; most = refl; more = refl; no_store = refl }; no_id = refl }

pub returns-clause-next_round : goal.returns-clause-next_round
unfolding given_in command_table proof_commands draw_commands office_commands correcting_commands run_commands clap_on_literals
returns-clause-next_round c = record { defaults = refl; least = refl; most = refl; more = refl; no_store = refl }

pub returns-clause-undrop : goal.returns-clause-undrop
unfolding given_in command_table proof_commands draw_commands office_commands correcting_commands run_commands clap_on_literals
returns-clause-undrop c = record { rounds = record { defaults = refl; least = refl; most = refl; more = refl; no_store = refl }; no_id = refl }

pub returns-clause-reopen : goal.returns-clause-reopen
unfolding given_in command_table proof_commands draw_commands office_commands correcting_commands run_commands clap_on_literals
returns-clause-reopen c = record { least = refl; most = refl; first = refl; more = refl; no_round = refl; no_store = refl }

pub returns-clause-withdraw : goal.returns-clause-withdraw
unfolding given_in command_table proof_commands draw_commands office_commands correcting_commands run_commands clap_on_literals
returns-clause-withdraw c = record { id = refl; no_id = refl; no_store = refl; round = refl }

pub returns-clause-shown : goal.returns-clause-shown
unfolding given_in command_table proof_commands draw_commands office_commands correcting_commands run_commands clap_on_literals
returns-clause-shown c = record {
  show = record { defaults = refl; least = refl; most = refl; more = refl; no_store = refl };
  report = record { defaults = refl; least = refl; most = refl; more = refl; no_store = refl };
  pool = record { defaults = refl; least = refl; most = refl; more = refl; no_store = refl };
}

pub returns-clause-imports : goal.returns-clause-imports
unfolding given_in command_table proof_commands draw_commands office_commands correcting_commands run_commands clap_on_literals
returns-clause-imports c = record {
  charter = record { store = refl; no_store = refl; another = refl };
  rules = record { store = refl; least = refl; most = refl; first = refl; more = refl; no_store = refl; another = refl };
  register = record { store = refl; no_store = refl; another = refl };
}

pub returns-clause-searches : goal.returns-clause-searches
unfolding given_in command_table proof_commands draw_commands office_commands correcting_commands run_commands clap_on_literals
returns-clause-searches c = record { panel = refl; panel_least = refl; panel_most = refl; panel_more = refl; loosen = refl; loosen_least = refl; loosen_most = refl; loosen_more = refl; why = refl; why_least = refl; why_most = refl; by_proof = refl; by_proof_more = refl; why_more = refl; cover = refl; cover_least = refl; cover_most = refl; cover_more = refl; check = refl; check_least = refl; check_most = refl; check_more = refl }

pub returns-clause-lottery : goal.returns-clause-lottery
unfolding given_in command_table proof_commands draw_commands office_commands correcting_commands run_commands clap_on_literals
returns-clause-lottery c = record { defaults = refl; least = refl; most = refl; share = refl; share_twice = refl; share_value = refl; no_bits = refl; more_bits = refl; more_pivots = refl; more_nodes = refl; no_workers = refl; more_workers = refl }

pub returns-clause-legs : goal.returns-clause-legs
unfolding given_in command_table proof_commands draw_commands office_commands correcting_commands run_commands clap_on_literals
returns-clause-legs c = record { defaults = refl; least = refl; most = refl; no_bits = refl; more_bits = refl; more_pivots = refl; more_nodes = refl; no_workers = refl; more_workers = refl; share = refl }

pub returns-clause-make : goal.returns-clause-make
unfolding given_in command_table proof_commands draw_commands office_commands correcting_commands run_commands clap_on_literals
returns-clause-make c = record { defaults = refl; most = refl; no_seed = refl; no_volunteers = refl; greater_seed = refl; nobody = refl; too_many = refl; more_bits = refl; share = refl }

pub returns-clause-others : goal.returns-clause-others
unfolding given_in command_table proof_commands draw_commands office_commands correcting_commands run_commands clap_on_literals
returns-clause-others c = record { none = refl; another = refl; help = refl; version = refl; short_version = refl; command_version = refl; option = refl }

pub returns-clause-page : goal.returns-clause-page
unfolding given_in command_table proof_commands draw_commands office_commands correcting_commands run_commands clap_on_literals
returns-clause-page c = record { absent = refl; digits = refl; tickets = refl; store = refl; no_value = refl }

pub returns-clause-serve : goal.returns-clause-serve
unfolding given_in command_table proof_commands draw_commands office_commands correcting_commands run_commands clap_on_literals
returns-clause-serve c = record { defaults = refl; least = refl; most = refl; log = refl; log_value = refl; no_store = refl; no_port = refl; zero = refl; greater_port = refl; nobody = refl; more = refl }

pub returns-clause-short : goal.returns-clause-short
unfolding given_in command_table proof_commands draw_commands office_commands correcting_commands run_commands clap_on_literals
returns-clause-short c = record { short = refl; least = refl; most = refl; none = refl; more = refl; dice = refl; tickets = refl; no_dice = refl; draw = refl; default = refl; no_seal = refl; no_digits = refl }
