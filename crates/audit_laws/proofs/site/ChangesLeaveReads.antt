-- A change by hand of another variable keeps the values of what a deterministic module reads.
use Rattle.std.proofs.Common.{◌≡◌, inl, inr, Bool, true, false, cond, List, sym, ap, ◌∙◌, subst, Some}
use Rattle.std.specs.Prelude.{bytes_eq}
use Rattle.envvars.specs.Texts.{Text}
use Rattle.envvars.specs.Environment.{Environment, lookup}
use Rattle.envvars.proofs.EnvLemmas.{lookup-with_value}
use Rattle.envvars.proofs.TextLemmas.{same_text}
use Rattle.envstate.specs.Roles.{VariableRole, role_of, is_editable, IsNameOf}
use Rattle.envstate.specs.Roles.VariableRole.{Variable, Counters, Stack, LoadedNames, LoadedFiles, LoadedConflicts}
use Rattle.envstate.specs.Roles.VariableRole.{LoadedPrereqs, Other}
use Rattle.envstate.specs.Frames.{EditsVariable}
use Rattle.envstate.proofs.RoleLemmas.{name_of_role}
use Rattle.envstate.proofs.FrameLemmas.{keeps_other, rest_stays, path_edits_variable}
use Rattle.modulefile.specs.Laws as files
use Rattle.modulefile.specs.Moves.{Module}
use Rattle.requests.specs.hand_changes.HandChanges.{HandChange, use_of_role, MayChange, start_by_use}
use Rattle.requests.proofs.hand_changes.OneChange.{start_edits}
use Rattle.audit_laws.proofs.determinism.Rests.{IsOfUser}
use Rattle.audit_certificate.specs.RecordUses.{uses_by}
use Rattle.audit_certificate.proofs.UsedLemmas.{by_test}
use Rattle.audit_laws.specs.site.Sites.{file_of, Reads}
use Rattle.audit_laws.specs.site.Laws.{ChangesLeaveReads}
use Rattle.audit_laws.proofs.site.DeterministicRecords.{of_user}

-- an edit of a variable leaves each other variable of the user's
other_left : (old new : Environment) (name v : Text) → EditsVariable old new name → bytes_eq v name ≡ false → IsOfUser v → lookup new v ≡ lookup old v
other_left old new name v edits t (inl editable) = (keeps_other old new name v edits editable t).value
other_left old new name v edits t (inr other) = rest_stays old new name v edits other

-- so does the change of the start
start_left : (live : List Module) (start e : Environment) (c : HandChange) (v : Text) (p : VariableRole) → IsNameOf c.variable p → MayChange (use_of_role (uses_by live) p) live e c
    → bytes_eq v c.variable ≡ false → IsOfUser v → lookup (start_by_use (use_of_role (uses_by live) p) live start e c) v ≡ lookup start v
start_left live start e c v (Variable n) name may t user =
    let editable : is_editable c.variable ≡ true = subst (λ (w : Text). is_editable w ≡ true) (sym name.1) name.0 in
    let new : Environment = start_by_use (Some (uses_by live n)) live start e c in
    other_left start new c.variable v (path_edits_variable start new c.variable (start_edits start e live c (uses_by live n) editable)).0 t user
start_left live start e c v (Counters n) name may t user = absurd may
start_left live start e c v (Stack n) name may t user = absurd may
start_left live start e c v LoadedNames name may t user = absurd may
start_left live start e c v LoadedFiles name may t user = absurd may
start_left live start e c v LoadedConflicts name may t user = absurd may
start_left live start e c v LoadedPrereqs name may t user = absurd may
start_left live start e c v Other name may t user =
    lookup-with_value start c.variable c.value v ∙ ap (λ (b : Bool). cond b c.value (lookup start v)) t

pub changes_leave_reads : files.OneOutcome → ChangesLeaveReads
changes_leave_reads one site ms live start e m c deterministic alike layered may other v r =
    by_test (bytes_eq v c.variable) _
    (λ t. absurd (other (subst (Reads site (file_of m)) (same_text v c.variable t) r)))
    (λ t. start_left live start e c v (role_of c.variable) (name_of_role c.variable) may t (of_user one site (file_of m) m.records v deterministic r)
    ∙ alike v r)
