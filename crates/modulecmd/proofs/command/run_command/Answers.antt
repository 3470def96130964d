use Rattle.std.proofs.Common.{◌<◌, map, string_bytes, String, inr}
use Rattle.std.specs.declared.alloc.Global.{Global}
use Rattle.modulecmd.specs.Command.{CommandHasResult}
use Rattle.modulecmd.proofs.CommandLemmas.{numbered}
use Rattle.modulecmd.proofs.OutputLemmas.{answered}
use Rattle.modulecmd.proofs.WriterLemmas.{keeps_same}
use Rattle.modulecmd.proofs.command.run_command.Goals as goal

pub returns-in-Ok-clause-ended : goal.returns-in-Ok-clause-ended
returns-in-Ok-clause-ended g c =
    answered c.finish.result (g.T.Tree.agrees c.answer_of.new.tree) (g.T.Tree.failures c.args.tree.now < g.T.Tree.failures c.answer_of.new.tree)
    c.args.env (CommandHasResult (map (λ (s : String Global). string_bytes s) c.args.args.now) c.args.env) c.in-Ok.answer _ _ _ _ c.in-Ok.ensures.answered
    (rw (c.as_slice.ensures.value, c.as_str.ensures.value, c.as_str-in-Ok.ensures.value) at c.finish.ensures)

pub returns-clause-ended : goal.returns-clause-ended
returns-clause-ended g c = inr (c.in-Err.fault, (c.in-Err.ensures.refused, numbered c.in-Err.fault _ _ _ c.in-Err.ensures.refused), (keeps_same _, c.report_fault.ensures))
