use Rattle.command_office.proofs.promises.several_calls.Goals as goal

pub returns : goal.returns
returns c = record {
  workers = c.workers_change_nothing.ensures;
  isolation = c.volunteers_are_isolated.ensures;
  repeats = c.repeats_change_nothing.ensures;
  records = c.calls_are_recorded.ensures;
}
