use Rattle.office_desk.proofs.serving.answer.Goals as goal

pub returns-in-Asks-clause-desk : goal.returns-in-Asks-clause-desk
returns-in-Asks-clause-desk g c = rw c.in-Asks.is c.reply_to.ensures.desk

pub returns-in-Asks-clause-fault : goal.returns-in-Asks-clause-fault
returns-in-Asks-clause-fault g c = rw c.in-Asks.is c.reply_to.ensures.fault
