use Rattle.std.proofs.Common.{sym, ◌∙◌, inl, inr}
use Rattle.modulecmd.proofs.OutputLemmas.{finishes}
use Rattle.modulecmd.proofs.WriterLemmas.{failed, reports_after}
use Rattle.modulecmd.proofs.finishing.finish.Goals as goal

pub returns : goal.returns
returns g c =
    finishes c.report_fault.result _ _ _ _ _ _ (elim (failed c.write_answer.result _ (sym c.is_ok.ensures.value ∙ c.if-is_ok.false) c.write_answer.ensures.cut) [
      | inl b ↦ inl (b.0, (b.1.0, b.1.1, reports_after c.report_fault.result _ _ _ _ _ b.1.2 c.report_fault.ensures))
      | inr b ↦ inr (b.0, reports_after c.report_fault.result _ _ _ _ _ b.1 c.report_fault.ensures)
    ])
