use Rattle.std.proofs.Common.{map, string_bytes, String, inr}
use Rattle.std.specs.declared.alloc.Global.{Global}
use Rattle.modaudit.proofs.command.AuditLemmas.{answered}
use Rattle.modulecmd.proofs.WriterLemmas.{keeps_same}
use Rattle.modaudit.proofs.command.running.run_judged.Goals as goal

pub returns-in-Ok-clause-ended : goal.returns-in-Ok-clause-ended
returns-in-Ok-clause-ended g c =
    let tree = c.answer_of-answer.new.tree in
    answered c.write_report.result c.args.layout (g.T.Tree.agrees tree.tree) (g.T.Tree.failed tree.tree) (g.T.Tree.failures c.args.tree.now.tree) (g.T.Tree.failures tree.tree)
    c.args.env (map (λ (s : String Global). string_bytes s) c.args.not_utf8.now) (map (λ (s : String Global). string_bytes s) c.args.args.now) c.in-Ok.answer _ _ _ _ c.in-Ok.ensures.answered c.write_report.ensures

pub returns-in-Err-clause-ended : goal.returns-in-Err-clause-ended
returns-in-Err-clause-ended g c = inr (c.in-Err.fault, c.in-Err.ensures.refused, keeps_same (g.W.Write.contents c.args.out.now), c.report_fault.ensures)
