use Rattle.std.proofs.Common.{sym, ◌∙◌}
use Rattle.modulefile_run.proofs.ReplyLemmas.{refusal_traced}
use Rattle.modulefile_run.proofs.runner.Runner.refuse.Goals as goal

pub returns-clause-replies : goal.returns-clause-replies
returns-clause-replies g c = λ words.
    refusal_traced words c.args.self.now.journal c.args.self.now.messages c.args.self.now.asked c.args.self.now.refusal c.args.fault c.number-number.result
    (sym c.is_out_of_memory.ensures ∙ c.if-is_out_of_memory.false) c.number-number.ensures.by_reason
