use Rattle.std.proofs.Common.{◌≡◌, map, string_bytes, Option, Some, None, IfSome, ap, sym, subst, ◌∙◌}
use Rattle.std.specs.Option.{option_map}
use Rattle.envvars.specs.Reasons.{EnvReason, bad_variable, reason_of}
use Rattle.modulefile.specs.Judgments.{bad_edit}
use Rattle.modulefile.specs.Calls.{bad_record}
use Rattle.modulefile.specs.RecordViews.{mode_view}
use Rattle.modulefile.specs.Answers.{question_answer, not_done, variable_answer, value_shown}
use Rattle.modulefile_run.specs.Journals.{environment_so_far}
use Rattle.modulefile_run.specs.Hosting.{trace_with, Replies}
use Rattle.modulefile_run.proofs.ReplyLemmas.{by_answer, read_named, read_unnamed}
use Rattle.modulefile_run.proofs.runner.Runner.getenv.Goals as goal

-- the reason of an error of an edit, as one of a record
edit_fault : (o : Option EnvReason) (r : EnvReason) → IfSome o (λ x. x ≡ r) → IfSome (option_map bad_edit o) (λ x. x ≡ bad_edit r)
edit_fault None r h = tt
edit_fault (Some x) r h = ap bad_edit h

pub returns-then-is_variable_name-clause-replies : goal.returns-then-is_variable_name-clause-replies
returns-then-is_variable_name-clause-replies g c =
    let value = value_shown (mode_view c.args.self.now.journal.mode) (environment_so_far c.args.self.now.journal) c.args.var.now c.args.default.now in
    let new = trace_with c.answer_question.new.self.journal c.answer_question.new.self.messages c.answer_question.new.self.asked c.answer_question.new.self.refusal in
    subst (λ old. Replies (map string_bytes c.args.words.now) (variable_answer c.args.var.now value) c.answer_question.result old new) c.value_shown-value.ensures.trace
    (by_answer (map string_bytes c.args.words.now) _ (question_answer value) c.answer_question.result
    (trace_with c.value_shown-value.new.self.journal c.value_shown-value.new.self.messages
    c.value_shown-value.new.self.asked c.value_shown-value.new.self.refusal) new
    (read_named c.args.var.now value (sym c.is_variable_name.ensures ∙ c.if-is_variable_name.true))
    (c.answer_question.ensures.replies value c.value_shown-value.ensures.value))

pub returns-else-is_variable_name-clause-replies : goal.returns-else-is_variable_name-clause-replies
returns-else-is_variable_name-clause-replies g c =
    by_answer (map string_bytes c.args.words.now) _ (not_done (bad_record (bad_edit (bad_variable c.args.var.now)))) c.refuse.result
    (trace_with c.args.self.now.journal c.args.self.now.messages c.args.self.now.asked c.args.self.now.refusal)
    (trace_with c.refuse.new.self.journal c.refuse.new.self.messages c.refuse.new.self.asked
    c.refuse.new.self.refusal)
    (read_unnamed c.args.var.now _ (sym c.is_variable_name.ensures ∙ c.if-is_variable_name.false))
    (c.refuse.ensures.replies (map string_bytes c.args.words.now) (bad_edit (bad_variable c.args.var.now)) (edit_fault (reason_of c.bad_variable.result) (bad_variable c.args.var.now) c.bad_variable.ensures))
