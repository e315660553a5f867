use Rattle.std.proofs.Common.{ap, map}
use Rattle.command_words.specs.Table.{command_entry, command_table}
use Rattle.command_words.proofs.ProgramLemmas.{one_more_group}
use Rattle.command_words.proofs.table.command_table.Goals as goal

pub returns : goal.returns
unfolding command_table
returns c =
    one_more_group _ _ _ _ _ c.in_ok-extend_from_slice-5.ensures.items
    (one_more_group _ _ _ _ _ c.in_ok-extend_from_slice-4.ensures.items
    (one_more_group _ _ _ _ _ c.in_ok-extend_from_slice-3.ensures.items
    (one_more_group _ _ _ _ _ c.in_ok-extend_from_slice-2.ensures.items
    (one_more_group _ _ _ _ _ c.in_ok-extend_from_slice.ensures.items (ap (map command_entry) c.new-table.ensures.items) c.proof_commands.ensures)
    c.draw_commands.ensures)
    c.office_commands.ensures)
    c.correcting_commands.ensures)
    c.run_commands.ensures
