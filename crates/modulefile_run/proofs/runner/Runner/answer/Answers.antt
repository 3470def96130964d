use Rattle.std.proofs.Common.{[], map, string_bytes, false, Ok, refl, ap, sym, ◌∙◌}
use Rattle.modulefile.specs.Calls as calls
use Rattle.modulefile.specs.CallViews.{call_view, field_view}
use Rattle.tclrules.specs.Oracle.{Message, Done}
use Rattle.modulefile.specs.Answers.{command_answer, question_answer, truth}
use Rattle.modulefile_run.specs.Journals.{environment_so_far}
use Rattle.modulefile_run.specs.Hosting.{context_with, message_of, trace_with}
use Rattle.modulefile_run.proofs.ReplyLemmas.{asked_reply, by_answer}
use Rattle.modulefile_run.proofs.runner.Runner.answer.Goals as goal

pub returns-in-Puts-clause-replies : goal.returns-in-Puts-clause-replies
returns-in-Puts-clause-replies g c =
    by_answer (map string_bytes c.args.words.now) _
    (Done [] (Message (message_of c.in-Puts.text.now c.in-Puts.newline)) false) c.add_message.result
    (trace_with c.args.self.now.journal c.args.self.now.messages c.args.self.now.asked c.args.self.now.refusal)
    (trace_with c.add_message.new.self.journal c.add_message.new.self.messages c.add_message.new.self.asked
    c.add_message.new.self.refusal)
    (ap (command_answer (context_with c.args.self.now.journal c.args.self.now.context)
    (environment_so_far c.args.self.now.journal) (map string_bytes c.args.words.now))
    (c.requires ∙ ap (λ x. Ok (call_view x)) c.in-Puts.is))
    (c.add_message.ensures.replies (map string_bytes c.args.words.now))

pub returns-in-TypedName-clause-replies : goal.returns-in-TypedName-clause-replies
returns-in-TypedName-clause-replies g c =
    asked_reply (context_with c.args.self.now.journal c.args.self.now.context)
    (environment_so_far c.args.self.now.journal) (map string_bytes c.args.words.now) c.args.call calls.typed_name
    c.args.self.now.context.typed.now c.answer_question.result
    (trace_with c.args.self.now.journal c.args.self.now.messages c.args.self.now.asked c.args.self.now.refusal)
    (trace_with c.answer_question.new.self.journal c.answer_question.new.self.messages
    c.answer_question.new.self.asked c.answer_question.new.self.refusal)
    c.requires (ap call_view c.in-TypedName.is) refl
    (c.answer_question.ensures.replies c.args.self.now.context.typed.now c.from_str.ensures.ok)

pub returns-in-Info-clause-replies : goal.returns-in-Info-clause-replies
returns-in-Info-clause-replies g c =
    asked_reply (context_with c.args.self.now.journal c.args.self.now.context)
    (environment_so_far c.args.self.now.journal) (map string_bytes c.args.words.now) c.args.call
    (calls.info (field_view c.in-Info.field)) c.field_text-text.result.now c.answer_question-in-Info.result
    (trace_with c.args.self.now.journal c.args.self.now.messages c.args.self.now.asked c.args.self.now.refusal)
    (trace_with c.answer_question-in-Info.new.self.journal c.answer_question-in-Info.new.self.messages
    c.answer_question-in-Info.new.self.asked c.answer_question-in-Info.new.self.refusal)
    c.requires (ap call_view c.in-Info.is) (ap question_answer (sym c.field_text-text.ensures))
    (c.answer_question-in-Info.ensures.replies c.field_text-text.result.now c.from_str-in-Info.ensures.ok)

pub returns-in-InfoTest-clause-replies : goal.returns-in-InfoTest-clause-replies
returns-in-InfoTest-clause-replies g c =
    asked_reply (context_with c.args.self.now.journal c.args.self.now.context)
    (environment_so_far c.args.self.now.journal) (map string_bytes c.args.words.now) c.args.call
    (calls.info_test (field_view c.in-InfoTest.field) c.in-InfoTest.word.now) c.truth.result.now
    c.answer_question-in-InfoTest.result
    (trace_with c.args.self.now.journal c.args.self.now.messages c.args.self.now.asked c.args.self.now.refusal)
    (trace_with c.answer_question-in-InfoTest.new.self.journal c.answer_question-in-InfoTest.new.self.messages
    c.answer_question-in-InfoTest.new.self.asked c.answer_question-in-InfoTest.new.self.refusal)
    c.requires (ap call_view c.in-InfoTest.is) (ap question_answer (sym (c.truth.ensures ∙ ap truth c.field_test-is_true.ensures)))
    (c.answer_question-in-InfoTest.ensures.replies c.truth.result.now c.from_str-in-InfoTest.ensures.ok)
