use Rattle.command_pools.proofs.panel.panel.Goals as goal

pub returns-in_ok-panel_line-in-Ok-Some : goal.returns-in_ok-panel_line-in-Ok-Some
returns-in_ok-panel_line-in-Ok-Some c =
    let says = rw c.in-Ok-Some.field-0-is at c.in-Ok-Some.ensures in
    record { within = says.0; panel = c.in-Ok-Some.panel; first = says.1; line = c.in_ok-panel_line-in-Ok-Some.ensures }
