-- Certified modules that are live together use a variable in one way.
use Rattle.std.proofs.Common.{◌≡◌, List, subst}
use Rattle.envvars.specs.Texts.{Text}
use Rattle.envvars.specs.Environment.{Environment}
use Rattle.modulefile.specs.Moves.{Module}
use Rattle.reversal.specs.VariableUses.{VariableUse, Stacked}
use Rattle.reversal.specs.Undone.{undo_of}
use Rattle.reversal.specs.Starts.{HasVariable}
use Rattle.audit_certificate.specs.RecordUses.{IsAmong, Uses, uses_by}
use Rattle.audit_certificate.specs.Candidates.{Candidate}
use Rattle.audit_certificate.specs.Laws.{AreLayered, AreCertifiedTogether}
use Rattle.audit_certificate.proofs.UsedLemmas.{used_among}
use Rattle.audit_certificate.proofs.OneUse.{one_use, each_use}
use Rattle.audit_laws.proofs.returns.UnloadEffects.{CanRead, CanReadStacks, used_of_seen}

-- the use of a variable by one live module is its use by all of them
use_of_live : (ms : List Candidate) (live : List Module) (l : Module) (v : Text) (x : VariableUse) → AreCertifiedTogether ms live → IsAmong l live → Uses l.records v x → uses_by live v ≡ x
use_of_live ms live l v x t a u = each_use live (one_use ms live t) v x (used_among v x l live a u)

-- so each stack that a live module pushes on can be read
pub stack_read : (start e : Environment) (v : Text) (live : List Module) (x : VariableUse) → x ≡ Stacked → HasVariable x start v live e → CanRead e v
stack_read start e v live x same h = read (subst (λ (y : VariableUse). HasVariable y start v live e) same h)
  where
    read : HasVariable Stacked start v live e → CanRead e v
    read k = (_, k.state)

pub live_stacks : (ms : List Candidate) (live : List Module) (start e : Environment) (l : Module) → AreLayered ms start live e → IsAmong l live → CanReadStacks e (undo_of l.records)
live_stacks ms live start e l layered a w f u =
    stack_read start e w live (uses_by live w) (use_of_live ms live l w Stacked layered.together a (used_of_seen (w, Stacked) l.records u)) (layered.start_with_live.variables w f)
