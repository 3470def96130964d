use Rattle.std.specs.Prelude.{string_bytes}
use Rattle.std.proofs.lemmas.Result.{IfOk-weaker}
use Rattle.modulefile.specs.Answers.{question_answer}
use Rattle.audit_laws.proofs.determinism.asking.asks_context.Goals as goal

pub returns-in-Command : goal.returns-in-Command
returns-in-Command c =
    rw c.in-Command.is (IfOk-weaker c.words_ask_context.result _ _ (λ asks h. rw c.as_slice.ensures.value at (h (question_answer (string_bytes c.in-Command.field-1)))) c.words_ask_context.ensures)
