-- A change by hand keeps the agreement of the start with what a module uses, each use of a variable by itself.
use Rattle.std.proofs.Common.{◌≡◌, ℕ, true, List, refl, sym, ap, ◌∙◌, subst, Some, inl}
use Rattle.std.specs.Prelude.{bytes_eq}
use Rattle.envvars.specs.Texts.{Text}
use Rattle.envvars.specs.Names.{share_name, stack_name}
use Rattle.envvars.specs.Environment.{Environment, lookup}
use Rattle.envvars.proofs.TextLemmas.{same_text}
use Rattle.envstate.specs.paths.PathOrder.{IsPathInOrder}
use Rattle.envstate.specs.loaded_list.Loaded.{names_of, loaded_in}
use Rattle.envstate.specs.Roles.{VariableRole, role_of, is_editable, IsNameOf}
use Rattle.envstate.specs.Roles.VariableRole.{Variable, Counters, Stack, LoadedNames, LoadedFiles, LoadedConflicts}
use Rattle.envstate.specs.Roles.VariableRole.{LoadedPrereqs, Other}
use Rattle.envstate.specs.Frames.{IsVariableUnchanged}
use Rattle.envstate.proofs.RoleLemmas.{name_of_role}
use Rattle.envstate.proofs.FrameLemmas.{keeps, keeps_other, path_edits_variable}
use Rattle.modulefile.specs.Moves.{Module}
use Rattle.reversal.specs.VariableUses.{VariableUse, Untouched, Fixed, Absent, Pathed, Stacked}
use Rattle.reversal.specs.Live.{live_adds, live_pushes}
use Rattle.reversal.specs.Starts.{IsStart, HasValue, HasPath, HasStack, HasVariable, IsStartWith}
use Rattle.requests.specs.hand_changes.HandChanges.{HandChange, changed, use_of_role, MayChange, start_by_use}
use Rattle.requests.specs.hand_changes.Laws.{HoldsAfterChange, OneChangeHolds}
use Rattle.requests.proofs.hand_changes.OneChange.{set_beside, other_kept, start_edits, none_pushed}
use Rattle.modulefile.specs.Laws.{RecordsAreAllowed}
use Rattle.audit_certificate.specs.RecordUses.{Uses, uses_by}
use Rattle.audit_certificate.specs.Certificates.{AgreesWithUse}
use Rattle.audit_certificate.proofs.UsedLemmas.{by_test}
use Rattle.audit_laws.specs.site.Laws.{ChangesAgree}
use Rattle.audit_laws.proofs.site.Editable.{deterministic_editable}

-- a variable that is left
kept_agrees : (b d : Environment) (v : Text) (x : VariableUse) → IsVariableUnchanged b d v → loaded_in d ≡ loaded_in b → AgreesWithUse b v x → AgreesWithUse d v x
kept_agrees b d v Untouched k l a = tt
kept_agrees b d v (Fixed value) k l a = k.value ∙ a
kept_agrees b d v Absent k l a = k.value ∙ a
kept_agrees b d v (Pathed delim) k l a = k.path_order delim a
kept_agrees b d v Stacked k l a = λ xs h. k.stack_order (names_of xs) (a xs (sym l ∙ h))

-- the variable that is changed, where the start is given the same value
given_agrees : (b e : Environment) (live : List Module) (c : HandChange) (x : VariableUse) → is_editable c.variable ≡ true
    → lookup e (share_name c.variable) ≡ lookup b (share_name c.variable) → lookup e (stack_name c.variable) ≡ lookup b (stack_name c.variable)
    → MayChange (Some x) live e c → AgreesWithUse (changed c b) c.variable x
given_agrees b e live c Untouched f n k m = tt
given_agrees b e live c (Fixed value) f n k m = absurd m
given_agrees b e live c Absent f n k m = absurd m
given_agrees b e live c (Pathed d) f n k m =
    let t = set_beside b e c f in
    (keeps (changed c e) (changed c b) c.variable
    (t.start_value ∙ sym t.value)
    (t.start_counters ∙ sym n ∙ sym t.counters)
    (t.start_stack ∙ sym k ∙ sym t.stack)).path_order d m.order
given_agrees b e live c Stacked f n k m = λ xs l. inl ((set_beside b e c f).start_stack ∙ sym k ∙ m)

-- and where it is a path of live modules, in order after the change, with its stack as before
path_agrees : (b d e : Environment) (live : List Module) (c : HandChange) (delim : ℕ) (x : VariableUse) → lookup d (stack_name c.variable) ≡ lookup b (stack_name c.variable)
    → lookup e (stack_name c.variable) ≡ lookup b (stack_name c.variable) → IsPathInOrder d c.variable delim → ((g : ℕ) → x ≡ Pathed g → g ≡ delim)
    → MayChange (Some x) live e c → AgreesWithUse d c.variable x
path_agrees b d e live c delim Untouched s k o same m = tt
path_agrees b d e live c delim (Fixed value) s k o same m = absurd m
path_agrees b d e live c delim Absent s k o same m = absurd m
path_agrees b d e live c delim (Pathed g) s k o same m = subst (IsPathInOrder d c.variable) (sym (same g refl)) o
path_agrees b d e live c delim Stacked s k o same m = λ xs l. inl (s ∙ sym k ∙ m)

pub changes_agree : OneChangeHolds → RecordsAreAllowed → ChangesAgree
changes_agree holds allowed site ms live start e m c deterministic agrees layered may each one_delim =
    record {
      loaded = after.begins.order.loaded;
      uses = by_role (role_of c.variable) refl (name_of_role c.variable) may after.begins after.loaded;
    }
  where
    over : IsStartWith (uses_by live) start live e
    over = layered.start_with_live

    after : HoldsAfterChange (uses_by live) start live e c
    after = holds (uses_by live) start e live c layered.begins layered.order over may

    editable : (v : Text) (x : VariableUse) → Uses m.records v x → is_editable v ≡ true
    editable v x u = deterministic_editable allowed site m deterministic v x u

    here : (y x : VariableUse) → is_editable c.variable ≡ true → uses_by live c.variable ≡ y → MayChange (Some y) live e c → IsStart (uses_by live) (start_by_use (Some y) live start e c)
        → Uses m.records c.variable x → AgreesWithUse (start_by_use (Some y) live start e c) c.variable x
    here Untouched x f u h s a =
        let k : HasValue start e c.variable (lookup start c.variable) = subst (λ (y : VariableUse). HasVariable y start c.variable live e) u (over.variables c.variable f) in
        given_agrees start e live c x f k.counters k.stack (each x a)
    here (Fixed value) x f u h s a = absurd h
    here Absent x f u h s a = absurd h
    here (Pathed d) x f u h s a =
        let k : HasPath start e c.variable d (live_adds c.variable live) = subst (λ (y : VariableUse). HasVariable y start c.variable live e) u (over.variables c.variable f) in
        path_agrees start (start_by_use (Some (Pathed d)) live start e c) e live c d x
        (path_edits_variable start (start_by_use (Some (Pathed d)) live start e c) c.variable (start_edits start e live c (Pathed d) f)).1
        k.stack (s.order.paths c.variable d f u)
        (λ g q. one_delim d g u (subst (λ (y : VariableUse). Uses m.records c.variable y) q a)) (each x a)
    here Stacked x f u h s a =
        let k : HasStack start e c.variable (live_pushes c.variable live) = subst (λ (y : VariableUse). HasVariable y start c.variable live e) u (over.variables c.variable f) in
        given_agrees start e live c x f k.counters (h ∙ sym (none_pushed (uses_by live) start e live c layered.begins layered.order over f u h).start) (each x a)

    by_use : (y : VariableUse) → is_editable c.variable ≡ true → uses_by live c.variable ≡ y → MayChange (Some y) live e c → IsStart (uses_by live) (start_by_use (Some y) live start e c)
        → loaded_in (start_by_use (Some y) live start e c) ≡ loaded_in start
        → (v : Text) (x : VariableUse) → Uses m.records v x → AgreesWithUse (start_by_use (Some y) live start e c) v x
    by_use y f u h s l v x a = by_test (bytes_eq v c.variable) _
        (λ t. subst (λ (w : Text). AgreesWithUse (start_by_use (Some y) live start e c) w x) (sym (same_text v c.variable t))
        (here y x f u h s (subst (λ (w : Text). Uses m.records w x) (same_text v c.variable t) a)))
        (λ t. kept_agrees start (start_by_use (Some y) live start e c) v x
        (keeps_other start (start_by_use (Some y) live start e c) c.variable v
        (path_edits_variable start (start_by_use (Some y) live start e c) c.variable (start_edits start e live c y f)).0 (editable v x a) t)
        l (agrees.uses v x a))

    by_role : (p : VariableRole) → role_of c.variable ≡ p → IsNameOf c.variable p → MayChange (use_of_role (uses_by live) p) live e c
        → IsStart (uses_by live) (start_by_use (use_of_role (uses_by live) p) live start e c)
        → loaded_in (start_by_use (use_of_role (uses_by live) p) live start e c) ≡ loaded_in start
        → (v : Text) (x : VariableUse) → Uses m.records v x → AgreesWithUse (start_by_use (use_of_role (uses_by live) p) live start e c) v x
    by_role (Variable n) r q h s l =
        by_use (uses_by live n) (subst (λ (w : Text). is_editable w ≡ true) (sym q.1) q.0) (ap (uses_by live) q.1) h s l
    by_role (Counters n) r q h s l = absurd h
    by_role (Stack n) r q h s l = absurd h
    by_role LoadedNames r q h s l = absurd h
    by_role LoadedFiles r q h s l = absurd h
    by_role LoadedConflicts r q h s l = absurd h
    by_role LoadedPrereqs r q h s l = absurd h
    by_role Other r q h s l = λ v x a.
        kept_agrees start (changed c start) v x (other_kept start c.variable c.value v r (editable v x a)) l (agrees.uses v x a)
