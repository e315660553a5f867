use Rattle.command_quotas.proofs.loosen_by_proof.told.Goals as goal

pub returns : goal.returns
returns c = record { loosening = c.args.loosened.now; least = c.requires.least; team = c.requires.team; lines = c.in_ok-loosening_text.ensures }
