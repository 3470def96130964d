-- What a start has against the uses of modules, by each of them.
use Rattle.std.proofs.Common.{◌⊎◌, inl, inr, List, Some, None}
use Rattle.std.specs.Prelude.{◌↔◌}
use Rattle.envvars.specs.Texts.{Text}
use Rattle.modulefile.specs.Moves.{Module}
use Rattle.reversal.specs.VariableUses.{VariableUse, Fixed, Absent, Pathed, Stacked}
use Rattle.audit_certificate.specs.RecordUses.{used_by_modules, IsAmong, Uses}
use Rattle.audit_certificate.specs.Disagreements.{loaded_texts, is_set, has_not_value, is_not_absent}
use Rattle.audit_certificate.specs.Disagreements.{path_not_in_order, stack_not_in_order}
use Rattle.audit_certificate.specs.Laws.{AgreementIsOfEach, DisagreementIsOfOne, DisagreementsRefute}
use Rattle.audit_certificate.proofs.UsedLemmas.{by_cases, used_among, user_of}

pub agreement_is_of_each : AgreementIsOfEach
agreement_is_of_each ms start = (
  λ a. (a.loaded, (λ m k. record { loaded = a.loaded; uses = λ v x h. a.uses v x (used_among v x m ms k h) })),
  λ p. record {
    loaded = p.0;
    uses = λ v x h. let u = user_of v x ms h in (p.1 u.user u.there).uses v x u.uses;
  },
)

-- a fact of a use of some modules is one of a use of one of them
of_user : (ms : List Module) (v : Text) (x : VariableUse) (Fact : Type 0)
    → (IsAmong (v, x) (used_by_modules ms) × Fact) ↔ ((⊥ × Fact) ⊎ ((m : Module) × IsAmong m ms × (Uses m.records v x × Fact)))
of_user ms v x Fact = (
  λ p. let u = user_of v x ms p.0 in inr (u.user, u.there, (u.uses, p.1)),
  λ c. by_cases c (λ n. absurd n.0) (λ k. (used_among v x k.0 ms k.1 k.2.0, k.2.1)),
)

pub disagreement_is_of_one : DisagreementIsOfOne
disagreement_is_of_one ms e loaded_texts = (λ n. inl n, λ c. by_cases c (λ n. n) (λ k. k.2))
disagreement_is_of_one ms e (is_set v) = of_user ms v (Fixed None) _
disagreement_is_of_one ms e (has_not_value v value) = of_user ms v (Fixed (Some value)) _
disagreement_is_of_one ms e (is_not_absent v) = of_user ms v Absent _
disagreement_is_of_one ms e (path_not_in_order v d) = of_user ms v (Pathed d) _
disagreement_is_of_one ms e (stack_not_in_order v) = of_user ms v Stacked _

pub disagreements_refute : DisagreementsRefute
disagreements_refute ps e loaded_texts n a = n a.loaded
disagreements_refute ps e (is_set v) n a = n.1 (a.uses v (Fixed None) n.0)
disagreements_refute ps e (has_not_value v value) n a = n.1 (a.uses v (Fixed (Some value)) n.0)
disagreements_refute ps e (is_not_absent v) n a = n.1 (a.uses v Absent n.0)
disagreements_refute ps e (path_not_in_order v d) n a = n.1 (a.uses v (Pathed d) n.0)
disagreements_refute ps e (stack_not_in_order v) n a = n.1 (a.uses v Stacked n.0)
