use Rattle.std.proofs.Common.{IfOk, sym, subst}
use Rattle.modules.specs.declared.refusal.Refusal.{Refusal}
use Rattle.module_explain.specs.Views.{IsFileOf}
use Rattle.module_explain.proofs.LocationLemmas.{file_of_fault}
use Rattle.module_explain.proofs.explanation.file_of.Goals as goal

pub returns-in-Run-clause-file : goal.returns-in-Run-clause-file
returns-in-Run-clause-file g c =
    let now = g.T.Tree.agrees c.explain_file.new.tree in
    subst (λ (r : Refusal). IfOk c.explain_file.result (IsFileOf now r)) (sym c.in-Run.is)
    (file_of_fault now c.in-Run.fault c.explain_file.result c.explain_file.ensures.caused c.explain_file.ensures.located c.explain_file.ensures.none)
