use Rattle.std.proofs.Common.{◌≡◌, List, map, string_bytes, String, IfOk, ap, ◌∙◌, subst}
use Rattle.std.specs.declared.alloc.Global.{Global}
use Rattle.envvars.specs.Texts.{Text}
use Rattle.requests.specs.Reports.{loaded_text}
use Rattle.modules.proofs.step.report_loaded.Goals as goal

pub returns : goal.returns
returns c =
    subst (λ (names : List Text). IfOk c.list_report.result (λ (t : String Global). string_bytes t ≡ loaded_text names))
    (ap (λ (ns : List (String Global)). map (λ (s : String Global). string_bytes s) ns) c.as_slice.ensures.value ∙ c.in_ok-names.ensures) c.list_report.ensures
