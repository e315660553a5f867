use Rattle.command_bundles.proofs.check_cover.checked.Given as goal

-- the ledger is that of the blank
abbrev pub ghosts-judged : goal.ghosts-judged
ghosts-judged a = record { name = a.blank.name; parts = a.blank.parts }
