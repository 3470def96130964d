use Rattle.module_explain.proofs.CommandLemmas.{end_without, end_with}
use Rattle.module_explain.proofs.location.first_end.Goals as goal

pub returns-in-None : goal.returns-in-None
returns-in-None c = λ shown. end_without shown c.args.len c.args.script.now c.deref.result.now c.deref.ensures.value c.in-None.ensures.lookup

pub returns-in-Some : goal.returns-in-Some
returns-in-Some c = λ shown. end_with shown c.args.len c.args.script.now c.deref.result.now c.in-Some.second c.deref.ensures.value c.in-Some.ensures.lookup
