-- What is lost where modules clash, by the examples of reversal.
use Rattle.std.proofs.Common.{◌≡◌, true, [], ◌∷◌, refl, sym, ap, ◌∙◌, subst, Option, Some, None, inl, inr}
use Rattle.std.specs.Option.{option_eq}
use Rattle.std.specs.Prelude.{bytes_eq, is_none}
use Rattle.envvars.specs.Texts.{Text}
use Rattle.envvars.specs.Environment.{Environment}
use Rattle.envvars.proofs.TextLemmas.{bytes_eq-same}
use Rattle.reversal.specs.VariableUses.{VariableUse, Untouched, Fixed, Absent, Pathed, Stacked}
use Rattle.reversal.specs.VariableUses.{UsedVariable}
use Rattle.reversal.specs.Starts.{IsStart}
use Rattle.reversal.specs.Examples as reversal
use Rattle.reversal.specs.Examples.{only_use, variable}
use Rattle.audit_certificate.specs.RecordUses.{IsAmong}
use Rattle.audit_certificate.specs.Certificates.{AgreesWithUse, AgreesWith}
use Rattle.audit_certificate.specs.Examples.{LoseByDelimiters, LoseByPathAndStack, LoseBySetAndPush, LoseByUnsetAndPush}
use Rattle.audit_certificate.specs.Examples.{LoseByBothSet, LoseBySetAndAbsent, StartsAgree}

agrees_one : (x : VariableUse) (start : Environment) → IsStart (only_use variable x) start → AgreesWithUse start variable x
agrees_one Untouched start s = tt
agrees_one (Fixed value) start s = s.fixed variable value refl refl
agrees_one Absent start s = s.absent variable refl refl
agrees_one (Pathed d) start s = s.order.paths variable d refl refl
agrees_one Stacked start s = λ xs l. s.order.stacks variable xs refl refl l

each : (x y : VariableUse) (start : Environment) → IsStart (only_use variable x) start → IsStart (only_use variable y) start
    → (p : UsedVariable) → IsAmong p ((variable, x) ∷ (variable, y) ∷ []) → AgreesWithUse start p.0 p.1
each x y start s t p (inl e) = subst (λ (q : UsedVariable). AgreesWithUse start q.0 q.1) (sym e) (agrees_one x start s)
each x y start s t p (inr (inl e)) = subst (λ (q : UsedVariable). AgreesWithUse start q.0 q.1) (sym e) (agrees_one y start t)
each x y start s t p (inr (inr h)) = absurd h

agrees : (x y : VariableUse) (start : Environment) → IsStart (only_use variable x) start → IsStart (only_use variable y) start → AgreesWith ((variable, x) ∷ (variable, y) ∷ []) start
agrees x y start s t = record { loaded = s.order.loaded; uses = λ v z a. each x y start s t (v, z) a }

pub by_delimiters : reversal.TwoDelimiters → LoseByDelimiters
by_delimiters h = record { agrees = agrees _ _ _ h.in_one.begins h.in_other; lose = h.in_one.lose }

pub by_path_and_stack : reversal.AddedAndPushed → LoseByPathAndStack
by_path_and_stack h = record { agrees = agrees _ _ _ h.in_one.begins h.in_other; lose = h.in_one.lose }

pub by_set_and_push : reversal.SetAndPushed → LoseBySetAndPush
by_set_and_push h = record { agrees = agrees _ _ _ h.in_one.begins h.in_other; lose = h.in_one.lose }

pub by_unset_and_push : reversal.UnsetAndPushed → LoseByUnsetAndPush
by_unset_and_push h = record { agrees = agrees _ _ _ h.in_one.begins h.in_other; lose = h.in_one.lose }

pub by_both_set : reversal.SetByTwo → LoseByBothSet
by_both_set h = record { agrees = agrees _ _ _ h.begins h.begins; end = h.end; reach = h.reach; differs = h.differs }

-- a start that agrees with a set agrees with an absent use
set_agrees : (start : Environment) → IsStart (only_use variable (Fixed None)) start → AgreesWith ((variable, Fixed None) ∷ (variable, Absent) ∷ []) start
set_agrees start s = record { loaded = s.order.loaded; uses = λ v z a. go (v, z) a }
  where
    go : (p : UsedVariable) → IsAmong p ((variable, Fixed None) ∷ (variable, Absent) ∷ []) → AgreesWithUse start p.0 p.1
    go p (inl e) = subst (λ (q : UsedVariable). AgreesWithUse start q.0 q.1) (sym e) (agrees_one (Fixed None) start s)
    go p (inr (inl e)) = subst (λ (q : UsedVariable). AgreesWithUse start q.0 q.1) (sym e) (agrees_one (Fixed None) start s)
    go p (inr (inr h)) = absurd h

pub by_set_and_absent : reversal.SetAndAbsent → LoseBySetAndAbsent
by_set_and_absent h = record { agrees = set_agrees _ h.begins; end = h.end; reach = h.reach; differs = h.differs }

same_option : (x y : Option Text) → x ≡ y → option_eq bytes_eq x y ≡ true
same_option None y e = ap (option_eq bytes_eq None) (sym e)
same_option (Some x) y e = ap (option_eq bytes_eq (Some x)) (sym e) ∙ bytes_eq-same x

pub starts_agree : StartsAgree
starts_agree start v Untouched y a b = refl
starts_agree start v (Fixed x) Untouched a b = refl
starts_agree start v (Fixed x) (Fixed y) a b = same_option x y (sym a ∙ b)
starts_agree start v (Fixed x) Absent a b = ap is_none (sym a ∙ b)
starts_agree start v (Fixed x) (Pathed d) a b = refl
starts_agree start v (Fixed x) Stacked a b = refl
starts_agree start v Absent Untouched a b = refl
starts_agree start v Absent (Fixed y) a b = ap is_none (sym b ∙ a)
starts_agree start v Absent Absent a b = refl
starts_agree start v Absent (Pathed d) a b = refl
starts_agree start v Absent Stacked a b = refl
starts_agree start v (Pathed d) y a b = refl
starts_agree start v Stacked y a b = refl
