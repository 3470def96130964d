-- What the reasons of the code stand for in the definitions (own).
use Rattle.std.specs.Prelude.{string_bytes}
use Rattle.audit_certificate.specs.Disagreements as reasons
use Rattle.audit_certificate.specs.declared.disagreement.Disagreement.{Disagreement}
use Rattle.audit_certificate.specs.declared.disagreement.Disagreement.TheVariants as code

-- a reason
abbrev pub disagreement_view : Disagreement → reasons.Disagreement
disagreement_view code.LoadedTexts = reasons.loaded_texts
disagreement_view (code.IsSet variable) = reasons.is_set (string_bytes variable)
disagreement_view (code.HasNotValue variable value) = reasons.has_not_value (string_bytes variable) (string_bytes value)
disagreement_view (code.IsNotAbsent variable) = reasons.is_not_absent (string_bytes variable)
disagreement_view (code.PathNotInOrder variable delim) =
    reasons.path_not_in_order (string_bytes variable) delim.character
disagreement_view (code.StackNotInOrder variable) = reasons.stack_not_in_order (string_bytes variable)
