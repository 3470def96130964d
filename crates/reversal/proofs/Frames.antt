-- What one record leaves as it was.
use Rattle.std.proofs.Common.{◌≡◌, Bool, true, false, List, [], ◌∷◌, refl, sym, ap, ◌∙◌, subst, Option, Some, None}
use Rattle.std.proofs.Common.{Result, Ok, Err}
use Rattle.std.specs.Prelude.{bytes_eq}
use Rattle.envvars.specs.Texts.{Text}
use Rattle.envvars.specs.Names.{name_reason}
use Rattle.envvars.specs.Environment.{Environment, lookup}
use Rattle.envvars.specs.Reasons.{EnvReason}
use Rattle.envstate.specs.loaded_list.Loaded.{loaded_in}
use Rattle.envstate.specs.Roles.{role_of, is_editable}
use Rattle.envstate.specs.Roles.VariableRole.{Other}
use Rattle.envstate.specs.Frames.{EditsVariable, IsVariableUnchanged, AreLoadedUnchanged}
use Rattle.envstate.proofs.RoleLemmas.{no_reason_against}
use Rattle.envstate.proofs.FrameLemmas.{drop_edits, pop_edits, path_edits_variable, stack_edits_variable, keeps_other}
use Rattle.envstate.proofs.FrameLemmas.{keeps_loaded, rest_stays}
use Rattle.modulefile.specs.Records.{Record, variable_of}
use Rattle.modulefile.specs.Judgments.{RecordReason, record_reason}
use Rattle.modulefile.specs.Effects.{Mode, load, unload, display, whatis, unloaded_by, edited, edit_outcome, permitted}
use Rattle.modulefile.specs.Effects.{effect, effects}
use Rattle.modulefile.proofs.Effected.{parts}
use Rattle.reversal.specs.VariableUses.{Untouched, Fixed, Absent, Pathed, Stacked, can_return, UsedVariable}
use Rattle.reversal.specs.VariableUses.{use_by}
use Rattle.reversal.proofs.RecordKinds.{accepted, same_accepted, DoesBy, does, named_used, Touched, set_touched}
use Rattle.reversal.proofs.RecordKinds.{touched_loaded}

permitted_ok : (o : Option RecordReason) (r : Result Environment EnvReason) (new : Environment) → permitted o (edit_outcome r) ≡ Ok new → (o ≡ None) × (r ≡ Ok new)
permitted_ok None (Ok e) new h = let s : e ≡ new = cc in (refl, ap (λ (t : Environment). accepted t) s)
permitted_ok None (Err x) new h = absurd (cc)
permitted_ok (Some x) r new h = absurd (cc)

-- an effect that was had is an edit that was accepted
pub effect_edits : (mode : Mode) (owner : Text) (r : Record) (old new : Environment) → effect mode owner r old ≡ Ok new → (record_reason r ≡ None) × (edited mode owner r old ≡ Ok new)
effect_edits mode owner r old new h = permitted_ok (record_reason r) (edited mode owner r old) new h

-- where nothing changes, nothing but the variable does
edits_none : (v : Text) (old new : Environment) → name_reason v ≡ None → accepted old ≡ Ok new → EditsVariable old new v
edits_none v old new n h = record { editable = (no_reason_against v).1 n; only = λ q i. ap (λ (e : Environment). lookup e q) (same_accepted old new h) }

-- an unload touches nothing but the variable that the record uses
edits_used : (owner : Text) (r : Record) (p : UsedVariable) → DoesBy r (Some p) → (old new : Environment) → record_reason r ≡ None → unloaded_by owner r old ≡ Ok new → EditsVariable old new p.0
edits_used owner r (v, Untouched) d old new n h = absurd d
edits_used owner r (v, Fixed k) d old new n h = set_touched v k old new (d.reason n) (sym (d.unloads owner old) ∙ h)
edits_used owner r (v, Absent) d old new n h = edits_none v old new (d.reason n) (sym (d.unloads owner old) ∙ h)
edits_used owner r (v, Pathed a) d old new n h = (path_edits_variable old new v (drop_edits old new v a d.elements (sym (d.unloads owner old) ∙ h))).0
edits_used owner r (v, Stacked) d old new n h = (stack_edits_variable old new v (pop_edits old new v owner (sym (d.unloads owner old) ∙ h))).0

touched_unloaded : (owner : Text) (r : Record) (o : Option UsedVariable) → DoesBy r o → (old new : Environment) → can_return r ≡ true → record_reason r ≡ None
    → unloaded_by owner r old ≡ Ok new → Touched (variable_of r) old new
touched_unloaded owner r None d old new s n h =
    subst (λ (v : Option Text). Touched v old new) (sym (d.nothing s).named) (same_accepted old new (sym (d.unloads owner old) ∙ h))
touched_unloaded owner r (Some p) d old new s n h =
    subst (λ (v : Option Text). Touched v old new) (sym (named_used r p d)) (edits_used owner r p d old new n h)

-- loading or unloading
pub data Side : Mode → Type 0 where
  loads : Side load
  unloads : Side unload

pub touched : (mode : Mode) (side : Side mode) (owner : Text) (r : Record) (old new : Environment) → can_return r ≡ true → effect mode owner r old ≡ Ok new → Touched (variable_of r) old new
touched mode loads owner r old new s h = let p = effect_edits load owner r old new h in touched_loaded owner r old new p.0 p.1
touched mode unloads owner r old new s h = let p = effect_edits unload owner r old new h in touched_unloaded owner r (use_by r) (does r) old new s p.0 p.1

-- whether it is that variable
abbrev pub is_named : Text → Option Text → Bool
is_named w None = false
is_named w (Some v) = bytes_eq w v

keeps_self : (e : Environment) (w : Text) → IsVariableUnchanged e e w
keeps_self e w = record { value = refl; counters = refl; stack_text = refl; path = λ d. refl; path_order = λ d o. o; stack = refl; stack_order = λ l o. o }

pub kept_variable : (o : Option Text) (old new : Environment) (w : Text) → Touched o old new → is_editable w ≡ true → is_named w o ≡ false → IsVariableUnchanged old new w
kept_variable None old new w t h k = subst (λ (e : Environment). IsVariableUnchanged old e w) (sym t) (keeps_self old w)
kept_variable (Some v) old new w t h k = keeps_other old new v w t h k

pub kept_loaded : (o : Option Text) (old new : Environment) → Touched o old new → AreLoadedUnchanged old new
kept_loaded None old new t = subst (λ (e : Environment). AreLoadedUnchanged old e) (sym t) (record { list = refl; order = λ o. o })
kept_loaded (Some v) old new t = keeps_loaded old new v t

pub kept_rest : (o : Option Text) (old new : Environment) (q : Text) → Touched o old new → role_of q ≡ Other → lookup new q ≡ lookup old q
kept_rest None old new q t h = ap (λ (e : Environment). lookup e q) t
kept_rest (Some v) old new q t h = rest_stays old new v q t h

-- a record leaves the loaded list, in every mode
list_unloaded : (owner : Text) (r : Record) (o : Option UsedVariable) → DoesBy r o → (old new : Environment) → record_reason r ≡ None → unloaded_by owner r old ≡ Ok new → loaded_in new ≡ loaded_in old
list_unloaded owner r None d old new n h = ap loaded_in (same_accepted old new (sym (d.unloads owner old) ∙ h))
list_unloaded owner r (Some p) d old new n h = (kept_loaded (Some p.0) old new (edits_used owner r p d old new n h)).list

list_kept : (mode : Mode) (owner : Text) (r : Record) (old new : Environment) → record_reason r ≡ None → edited mode owner r old ≡ Ok new → loaded_in new ≡ loaded_in old
list_kept load owner r old new n h = (kept_loaded (variable_of r) old new (touched_loaded owner r old new n h)).list
list_kept unload owner r old new n h = list_unloaded owner r (use_by r) (does r) old new n h
list_kept display owner r old new n h = ap loaded_in (same_accepted old new h)
list_kept whatis owner r old new n h = ap loaded_in (same_accepted old new h)

-- so do all records of a file
pub effects_leave_list : (mode : Mode) (owner : Text) (rs : List Record) (old new : Environment) → effects mode owner rs old ≡ Ok new → loaded_in new ≡ loaded_in old
effects_leave_list mode owner [] old new h = let q : old ≡ new = cc in ap loaded_in (sym q)
effects_leave_list mode owner (r ∷ rs) old new h =
    let p = parts (effect mode owner r old) (effects mode owner rs) new h in
    let first = effect_edits mode owner r old p.0 p.1 in
    effects_leave_list mode owner rs p.0 new p.2 ∙ list_kept mode owner r old p.0 first.0 first.1
