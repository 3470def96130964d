use Rattle.std.proofs.Common.{string_bytes}
use Rattle.module_explain.proofs.advice.has_text.Goals as goal

pub returns-in-Ok-clause-said : goal.returns-in-Ok-clause-said
returns-in-Ok-clause-said c = λ is. (string_bytes c.in-Ok.field-0, c.in-Ok.ensures.text)

pub returns-in-Err-NotSayable-clause-unsaid : goal.returns-in-Err-NotSayable-clause-unsaid
returns-in-Err-NotSayable-clause-unsaid c = λ is.
    (string_bytes c.in-Err-NotSayable.field-0-0, rw c.in-Err-NotSayable.field-0-is at c.in-Err-NotSayable.ensures.fault)
