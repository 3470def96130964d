-- Where an environment doesn't agree with what modules use, as with a certificate, and why (own).
use Rattle.std.specs.Prelude.{◌≡◌, ◌⊎◌, ℕ, List, [], ◌∷◌, ◌++◌, Option, Some, None}
use Rattle.envvars.specs.Texts.{Text}
use Rattle.envvars.specs.Environment.{Environment, lookup}
use Rattle.envstate.specs.paths.PathOrder.{IsPathInOrder}
use Rattle.envstate.specs.loaded_list.Loaded.{AreLoadedInOrder}
use Rattle.modulefile.specs.Moves.{Module}
use Rattle.reversal.specs.VariableUses.{Fixed, Absent, Pathed, Stacked, UsedVariable}
use Rattle.audit_certificate.specs.RecordUses.{used_by, IsAmong}
use Rattle.audit_certificate.specs.Certificates.{AgreesWithUse, IsNotLoaded}

-- Why: the texts of the loaded modules aren't in order; a variable is set that a module sets, or has not the value that
-- a module unsets, or is set where a module keeps it absent; a variable isn't in order as a path with this delimiter,
-- or as a stack.
pub data Disagreement : Type 0 where
  loaded_texts : Disagreement
  is_set : (variable : Text) → Disagreement
  has_not_value : (variable value : Text) → Disagreement
  is_not_absent : (variable : Text) → Disagreement
  path_not_in_order : (variable : Text) (delim : ℕ) → Disagreement
  stack_not_in_order : (variable : Text) → Disagreement

-- The reason holds: it is of one of the uses, and the environment is so.
abbrev pub IsDisagreement : List UsedVariable → Environment → Disagreement → Type 0
IsDisagreement ps e loaded_texts = AreLoadedInOrder e → ⊥
IsDisagreement ps e (is_set v) = IsAmong (v, Fixed None) ps × (lookup e v ≡ None → ⊥)
IsDisagreement ps e (has_not_value v value) = IsAmong (v, Fixed (Some value)) ps × (lookup e v ≡ Some value → ⊥)
IsDisagreement ps e (is_not_absent v) = IsAmong (v, Absent) ps × (lookup e v ≡ None → ⊥)
IsDisagreement ps e (path_not_in_order v d) = IsAmong (v, Pathed d) ps × (IsPathInOrder e v d → ⊥)
IsDisagreement ps e (stack_not_in_order v) = IsAmong (v, Stacked) ps × (AgreesWithUse e v Stacked → ⊥)

-- The environment has this against the load of a module: a reason why it doesn't agree with what the module uses. Of a
-- module that is loaded in it nothing is said, since it can't be loaded again.
pub record IsAgainst (e : Environment) (m : Module) (d : Disagreement) : Type 0 where
  pub not_loaded : IsNotLoaded m e
  pub reason : IsDisagreement (used_by m.records) e d

-- the use that the reason is of; none where it is of the loaded modules
abbrev pub use_named : Disagreement → Option UsedVariable
use_named loaded_texts = None
use_named (is_set v) = Some (v, Fixed None)
use_named (has_not_value v value) = Some (v, Fixed (Some value))
use_named (is_not_absent v) = Some (v, Absent)
use_named (path_not_in_order v d) = Some (v, Pathed d)
use_named (stack_not_in_order v) = Some (v, Stacked)

-- The reasons of these uses in turn: of each use that the environment doesn't agree with its reason, and no others.
abbrev pub AreReasons : Environment → List UsedVariable → List Disagreement → Type 0
AreReasons e [] ds = ds ≡ []
AreReasons e (p ∷ ps) ds =
    (AgreesWithUse e p.0 p.1 × AreReasons e ps ds)
    ⊎ ((AgreesWithUse e p.0 p.1 → ⊥) × (d : Disagreement) × (rest : List Disagreement) × (use_named d ≡ Some p)
    × AreReasons e ps rest × (ds ≡ d ∷ rest))

-- the texts of the loaded modules add their reason where they aren't in order, and else nothing
abbrev pub IsListJudged : Environment → List Disagreement → Type 0
IsListJudged e ds =
    (AreLoadedInOrder e × (ds ≡ [])) ⊎ ((AreLoadedInOrder e → ⊥) × (ds ≡ loaded_texts ∷ []))

-- The reasons for which the environment doesn't agree with a certificate, in their order: that of the loaded modules'
-- texts, and then those of the uses in turn.
abbrev pub AreDisagreements : List UsedVariable → Environment → List Disagreement → Type 0
AreDisagreements ps e ds =
    (first : List Disagreement) × (rest : List Disagreement) × IsListJudged e first × AreReasons e ps rest
    × (ds ≡ first ++ rest)

-- For the contracts of private functions. One reason more, which is of this use.
pub record AddsReason (p : UsedVariable) (old new : List Disagreement) : Type 0 where
  pub reason : Disagreement
  pub named : use_named reason ≡ Some p
  pub added : new ≡ old ++ reason ∷ []

-- the use adds its reason where the environment doesn't agree with it, and else nothing
abbrev pub IsJudged : Environment → UsedVariable → List Disagreement → List Disagreement → Type 0
IsJudged e p old new =
    (AgreesWithUse e p.0 p.1 × (new ≡ old)) ⊎ ((AgreesWithUse e p.0 p.1 → ⊥) × AddsReason p old new)
