use Rattle.tcleval.specs.OpenScripts.{script_view}
use Rattle.tcleval.proofs.PlaceLemmas.{outermost_there, outermost_none}
use Rattle.tcleval.proofs.open_scripts.OpenScripts.outermost_offset.Goals as goal

pub returns-in-Some : goal.returns-in-Some
returns-in-Some c = outermost_there c.args.self.now (script_view c.in-Some.script) c.in-Some.ensures

pub returns-in-None : goal.returns-in-None
returns-in-None c = outermost_none c.args.self.now c.in-None.ensures
