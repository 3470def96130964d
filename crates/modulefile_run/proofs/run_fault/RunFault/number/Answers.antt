use Rattle.modulefile_run.specs.Running.{stop_of}
use Rattle.modulefile_run.proofs.ReasonLemmas.{same_number}
use Rattle.modulefile_run.proofs.run_fault.RunFault.number.Goals as goal

pub returns-clause-by_reason : goal.returns-clause-by_reason
returns-clause-by_reason c = same_number (stop_of c.args.self.now.stop) c.args.self.now.file c.number.result c.number.ensures.by_stop
