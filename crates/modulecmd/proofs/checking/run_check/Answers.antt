use Rattle.std.proofs.Common.{map, string_bytes, String}
use Rattle.std.specs.declared.alloc.Global.{Global}
use Rattle.modulecmd.proofs.CheckingLemmas.{checked, refused}
use Rattle.modulecmd.proofs.checking.run_check.Goals as goal

pub returns-in-Ok-clause-ended : goal.returns-in-Ok-clause-ended
returns-in-Ok-clause-ended g c =
    rw c.exit_of.ensures (checked c.finish-exit.result (g.T.Tree.agrees c.answer_of.new.tree) (g.T.Tree.failures c.args.tree.now) (g.T.Tree.failures c.answer_of.new.tree) c.args.env
    (map (λ (s : String Global). string_bytes s) c.args.not_utf8.now) (map (λ (s : String Global). string_bytes s) c.args.args.now) _ _ _ _ _ _ c.in-Ok.answer c.in-Ok.ensures.answered
    (rw (c.as_str.ensures.value, c.as_str-in-Ok.ensures.value) at c.finish-exit.ensures))

pub returns-clause-ended : goal.returns-clause-ended
returns-clause-ended g c =
    rw c.exit_of-in-Err.ensures (refused c.report_fault.result (g.T.Tree.agrees c.answer_of.new.tree) (g.T.Tree.failures c.args.tree.now) (g.T.Tree.failures c.answer_of.new.tree) c.args.env
    (map (λ (s : String Global). string_bytes s) c.args.not_utf8.now) (map (λ (s : String Global). string_bytes s) c.args.args.now) _ _ _ _ _ c.in-Err.fault c.in-Err.ensures.refused c.report_fault.ensures)
