use Rattle.std.proofs.Common.{map, string_bytes}
use Rattle.modulefile.specs.RecordViews.{record_view}
use Rattle.modulefile_run.specs.Hosting.{trace_with}
use Rattle.modulefile_run.proofs.ReplyLemmas.{noted_reply, refused_reply}
use Rattle.modulefile_run.proofs.runner.Runner.add_record.Goals as goal

pub returns-in-Ok-clause-replies : goal.returns-in-Ok-clause-replies
returns-in-Ok-clause-replies g c =
    noted_reply c.args.self.now.journal c.add_command.new.self c.args.self.now.context c.args.self.now.messages
    c.args.self.now.asked c.args.self.now.refusal (map string_bytes c.args.words.now) (record_view c.args.recorded)
    c.new.result
    c.in-Ok.ensures.1.0 c.requires c.new.ensures.bytes c.in-Ok.ensures.0 c.in-Ok.ensures.1.1

pub returns-in-Err-clause-replies : goal.returns-in-Err-clause-replies
returns-in-Err-clause-replies g c =
    refused_reply c.args.self.now.journal c.add_command.new.self c.args.self.now.context c.args.self.now.messages
    c.args.self.now.asked c.args.self.now.refusal (map string_bytes c.args.words.now) (record_view c.args.recorded)
    c.in-Err.fault c.refuse.result
    (trace_with c.refuse.new.self.journal c.refuse.new.self.messages c.refuse.new.self.asked c.refuse.new.self.refusal)
    c.requires c.in-Err.ensures.0 c.in-Err.ensures.1 c.refuse.ensures.replies
