use Rattle.std.proofs.Common.{refl}
use Rattle.command_desk.proofs.LinksRead.{none_read}
use Rattle.command_office.proofs.Calls.{as_asked, imports_so, leaves, proofs_so, serves_so, shut, steps_so, texts_so}
use Rattle.command_office.proofs.top_call.run.Goals as goal

pub returns-in-Prove-clause-right : goal.returns-in-Prove-clause-right
returns-in-Prove-clause-right g c = as_asked _ _ _ c.in-Prove.is (shut _ _ _ _ _ _ (leaves _ _ _ _ _ c.call_prove.ensures))

pub returns-in-Lottery-clause-right : goal.returns-in-Lottery-clause-right
returns-in-Lottery-clause-right g c = as_asked _ _ _ c.in-Lottery.is (shut _ _ _ _ _ _ (leaves _ _ _ _ _ c.call_lottery.ensures))

pub returns-in-SharedLottery-clause-right : goal.returns-in-SharedLottery-clause-right
returns-in-SharedLottery-clause-right g c = as_asked _ _ _ c.in-SharedLottery.is (shut _ _ _ _ _ _ (leaves _ _ _ _ _ c.call_shared_lottery.ensures))

pub returns-in-Legs-clause-right : goal.returns-in-Legs-clause-right
returns-in-Legs-clause-right g c = as_asked _ _ _ c.in-Legs.is (shut _ _ _ _ _ _ (leaves _ _ _ _ _ c.call_legs.ensures))

pub returns-in-Make-clause-right : goal.returns-in-Make-clause-right
returns-in-Make-clause-right g c = as_asked _ _ _ c.in-Make.is (shut _ _ _ _ _ _ (leaves _ _ _ _ _ (c.call_make.ensures _ (record { same = refl; no_fault = refl }))))

pub returns-in-Ok-clause-right : goal.returns-in-Ok-clause-right
returns-in-Ok-clause-right g c = as_asked _ _ _ c.in-Step.is (shut _ _ _ _ _ _ (steps_so _ _ _ _ _ c.as_str.ensures c.in-Ok.ensures.command (c.call_step.ensures _ (record { same = refl; no_fault = refl }))))

pub returns-in-Ok-clause-needed : goal.returns-in-Ok-clause-needed
returns-in-Ok-clause-needed g c = none_read g.D.Link.Link.left g.D.Link.Link.reads _ _ refl

pub returns-in-Import-clause-right : goal.returns-in-Import-clause-right
returns-in-Import-clause-right g c = as_asked _ _ _ c.in-Import.is (shut _ _ _ _ _ _ (imports_so _ _ _ _ c.as_str-path.ensures c.call_import.ensures))

pub returns-in-ProveRound-clause-right : goal.returns-in-ProveRound-clause-right
returns-in-ProveRound-clause-right g c = as_asked _ _ _ c.in-ProveRound.is (shut _ _ _ _ _ _ (proofs_so _ _ _ _ c.as_str-in-ProveRound.ensures (c.call_prove_round.ensures _ (record { same = refl; no_fault = refl }))))

pub returns-in-StoreText-clause-right : goal.returns-in-StoreText-clause-right
returns-in-StoreText-clause-right g c = as_asked _ _ _ c.in-StoreText.is (shut _ _ _ _ _ _ (texts_so _ _ _ _ c.as_str-in-StoreText.ensures (c.call_text.ensures _ (record { same = refl; no_fault = refl }))))

pub returns-in-Text-clause-right : goal.returns-in-Text-clause-right
returns-in-Text-clause-right g c = as_asked _ _ _ c.in-Text.is (shut _ _ _ _ _ _ (leaves _ _ _ _ _ c.call.ensures))

pub returns-in-Serve-clause-right : goal.returns-in-Serve-clause-right
returns-in-Serve-clause-right g c = as_asked _ _ _ c.in-Serve.is (serves_so _ _ _ _ _ c.as_str-in-Serve.ensures (c.call_serve.ensures.ends _ (record { same = refl; no_fault = refl })))
