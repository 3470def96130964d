use Rattle.std.proofs.Common.{map, string_bytes}
use Rattle.modulefile.specs.Answers.{oracle_of}
use Rattle.modulefile_run.specs.Journals.{environment_so_far}
use Rattle.modulefile_run.specs.Hosting.{context_with, trace_with}
use Rattle.modulefile_run.proofs.ReplyLemmas.{answers_by, fault_reply}
use Rattle.modulefile_run.proofs.runner.RunnerHost.command.Goals as goal

pub returns-in-Err-clause-answer : goal.returns-in-Err-clause-answer
returns-in-Err-clause-answer g c =
    answers_by (oracle_of (context_with c.args.self.now.journal c.args.self.now.context)) (map string_bytes c.args.words.now) c.not_done.result
    (trace_with c.args.self.now.journal c.args.self.now.messages c.args.self.now.asked c.args.self.now.refusal)
    (trace_with c.not_done.new.self.journal c.not_done.new.self.messages c.not_done.new.self.asked
    c.not_done.new.self.refusal)
    (fault_reply (context_with c.args.self.now.journal c.args.self.now.context) (environment_so_far c.args.self.now.journal) (map string_bytes c.args.words.now) c.in-Err.fault c.not_done.result
    (trace_with c.args.self.now.journal c.args.self.now.messages c.args.self.now.asked c.args.self.now.refusal)
    (trace_with c.not_done.new.self.journal c.not_done.new.self.messages c.not_done.new.self.asked
    c.not_done.new.self.refusal)
    c.in-Err.ensures c.not_done.ensures.replies)
