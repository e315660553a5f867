use Rattle.std.proofs.Common.{ℕ, Vec, Global}
use Rattle.command_browser.proofs.Telling.{told_if_any}
use Rattle.command_browser.proofs.selection.tell_first_pool.Goals as goal

pub returns : goal.returns
returns c = told_if_any (λ (text : Vec ℕ Global). text.items) _ _ _ _ _ c.text_of_first_pool.ensures c.tell_if_any.ensures.told c.tell_if_any.ensures.none c.tell_if_any.ensures.alone
