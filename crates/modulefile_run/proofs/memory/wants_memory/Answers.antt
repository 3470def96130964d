use Rattle.std.proofs.Common.{◌∙◌}
use Rattle.modulefile_run.specs.Running.{reason_of_file, stop_of}
use Rattle.modulefile_run.proofs.ReasonLemmas.{none_alike}
use Rattle.modulefile_run.proofs.memory.wants_memory.Goals as goal

pub returns : goal.returns
returns c = c.is_out_of_memory.ensures ∙ none_alike (stop_of c.args.refused.now.stop) (reason_of_file c.args.refused.now.file)
