use Rattle.modulefile_run.proofs.ListLemmas.{some_text}
use Rattle.modulefile_run.proofs.questions.is_any.Goals as goal

pub returns-in-len1-up : goal.returns-in-len1-up
returns-in-len1-up c = some_text c.args.loaded.now c.in-len1-up.len_at_least
