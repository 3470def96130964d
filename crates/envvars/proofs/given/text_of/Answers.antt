use Rattle.std.proofs.Common.{ap, sym, ◌∙◌, Some}
use Rattle.envvars.proofs.EntryLemmas.{readable_text, unreadable}
use Rattle.envvars.proofs.given.text_of.Goals as goal

pub returns-in-Ok : goal.returns-in-Ok
returns-in-Ok c = ap Some c.in-Ok.ensures.cases.0 ∙ sym (readable_text c.args.bytes.now c.in-Ok.ensures.cases.1)

pub returns-in-Err : goal.returns-in-Err
returns-in-Err c = sym (unreadable c.args.bytes.now c.in-Err.ensures.cases.0)
