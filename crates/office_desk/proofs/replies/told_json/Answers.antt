use Rattle.office_desk.proofs.replies.told_json.Goals as goal

pub returns : goal.returns
returns c = rw c.as_bytes.ensures.value at c.told_with.ensures
