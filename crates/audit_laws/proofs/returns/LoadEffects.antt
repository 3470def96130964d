-- The effect of a record in a load is had, or a counter is full, where each stack that is pushed on can be read.
use Rattle.std.proofs.Common.{◌≡◌, inl, inr, ◌⊎◌, ℕ, Bool, true, false, cond, List, [], ◌∷◌, Option, Some, None, Result, Ok, Err, refl, ap, sym, ◌∙◌, subst}
use Rattle.std.specs.Prelude.{bytes_eq}
use Rattle.std.specs.List.{list_all}
use Rattle.std.specs.Option.{option_map, option_or}
use Rattle.std.proofs.lemmas.Bool.{and_parts}
use Rattle.modulename.specs.ModuleName.{is_module_name}
use Rattle.envvars.specs.Texts.{Text}
use Rattle.envvars.specs.Names.{name_reason, is_nul_free}
use Rattle.envvars.specs.Environment.{Environment, with_value}
use Rattle.envvars.specs.Reasons.{EnvReason, bad_value, counter_full, unless}
use Rattle.envvars.proofs.TextLemmas.{same_text}
use Rattle.envstate.specs.paths.Paths.{PathState, add_all}
use Rattle.envstate.specs.paths.PathVariables.{path_in, path_reason, added_path, counters_fit, with_path}
use Rattle.envstate.specs.declared.paths.adding.End.{End}
use Rattle.envstate.specs.declared.paths.adding.End.TheVariants as ends
use Rattle.envstate.specs.stacks.Stacks.{push}
use Rattle.envstate.specs.stacks.StackVariables.{stack_in, with_stack, pushed_value}
use Rattle.envstate.specs.Roles.{is_editable}
use Rattle.envstate.proofs.FrameLemmas.{add_edits, drop_edits, push_edits, stack_edits_variable, keeps_other}
use Rattle.envstate.proofs.stacks.StackAfter.{stack_after_push}
use Rattle.modulefile.specs.Records.{Record, Set, Unset, Push, Path, Conflict, Prereq, Whatis}
use Rattle.modulefile.specs.declared.records.PathEdit.TheVariants.{Front, Back, Remove}
use Rattle.modulefile.specs.Judgments.{RecordReason, bad_edit, value_reason, values_of, record_reason}
use Rattle.modulefile.specs.Effects.{load, loaded_by, edit_outcome, permitted, effect, effects}
use Rattle.modulefile.proofs.Effected.{parts}
use Rattle.reversal.specs.VariableUses.{Stacked, use_by}
use Rattle.reversal.proofs.RecordKinds.{accepted}
use Rattle.reversal.proofs.Frames.{effect_edits}
use Rattle.audit_certificate.proofs.UsedLemmas.{by_test}
use Rattle.audit_laws.proofs.returns.UnloadEffects.{CanRead, mapped_none, named_value, same_read, read_after_path, read_after_set}

-- ---- a load keeps a stack readable

read_after_push : (old new : Environment) (v owner x w : Text) → is_editable w ≡ true → pushed_value old v owner x ≡ Ok new → CanRead old w → CanRead new w
read_after_push old new v owner x w f h r =
    let p = stack_edits_variable old new v (push_edits old new v owner x h) in by_test (bytes_eq w v) _
    (λ t. let same = same_text w v t in
    let s : stack_in old v ≡ Some r.0 = subst (λ (y : Text). stack_in old y ≡ Some r.0) same r.1 in
    subst (CanRead new) (sym same) (push r.0 owner x, stack_after_push old new v owner x r.0 s h))
    (λ t. (r.0, (keeps_other old new v w p.0 f t).stack ∙ r.1))

read_after_load : (owner : Text) (r : Record) (old new : Environment) (w : Text) → record_reason r ≡ None → loaded_by owner r old ≡ Ok new → is_editable w ≡ true → CanRead old w → CanRead new w
read_after_load owner (Set v x) old new w n h f r = read_after_set old new v (Some x) w (named_value v (x ∷ []) n) f h r
read_after_load owner (Unset v x) old new w n h f r = read_after_set old new v None w (named_value v (values_of x) n) f h r
read_after_load owner (Push v x) old new w n h f r = read_after_push old new v owner x w f h r
read_after_load owner (Path Front d v xs) old new w n h f r = read_after_path old new v w f (add_edits old new v d xs ends.Front h) r
read_after_load owner (Path Back d v xs) old new w n h f r = read_after_path old new v w f (add_edits old new v d xs ends.Back h) r
read_after_load owner (Path Remove d v xs) old new w n h f r = read_after_path old new v w f (drop_edits old new v d xs h) r
read_after_load owner (Conflict names) old new w n h f r = same_read old new w h r
read_after_load owner (Prereq names) old new w n h f r = same_read old new w h r
read_after_load owner (Whatis text) old new w n h f r = same_read old new w h r

pub read_after_loads : (owner : Text) (rs : List Record) (old new : Environment) (w : Text) → effects load owner rs old ≡ Ok new → is_editable w ≡ true → CanRead old w → CanRead new w
read_after_loads owner [] old new w h f r = let e : old ≡ new = cc in subst (λ (d : Environment). CanRead d w) e r
read_after_loads owner (x ∷ rs) old new w h f r =
    let p = parts (effect load owner x old) (effects load owner rs) new h in
    let e = effect_edits load owner x old p.0 p.1 in
    read_after_loads owner rs p.0 new w p.2 f (read_after_load owner x old p.0 w e.0 e.1 f r)

-- ---- a load is had, or a counter is full

abbrev IsHadOrFull : Result Environment EnvReason → Type 0
IsHadOrFull o = ((new : Environment) × (o ≡ Ok new)) ⊎ ((v : Text) × (o ≡ Err (counter_full v)))

had : (o : Result Environment EnvReason) (new : Environment) → o ≡ Ok new → IsHadOrFull o
had o new h = inl (new, h)

fits_or_full : (v : Text) (new : Environment) (b : Bool) → IsHadOrFull (cond b (Ok new) (Err (counter_full v)))
fits_or_full v new true = inl (new, refl)
fits_or_full v new false = inr (v, refl)

add_had : (e : Environment) (v : Text) (d : ℕ) (xs : List Text) (end : End) → path_reason v d xs ≡ None → IsHadOrFull (added_path e v d xs end)
add_had e v d xs end n =
    let s : PathState = add_all (path_in e v d) xs end in
    subst (λ (o : Option EnvReason). IsHadOrFull (unless o (cond (counters_fit s) (Ok (with_path e v d s)) (Err (counter_full v))))) (sym n)
    (fits_or_full v (with_path e v d s) (counters_fit s))

drop_had : (e new : Environment) (o : Option EnvReason) → o ≡ None → IsHadOrFull (unless o (accepted new))
drop_had e new None h = inl (new, refl)
drop_had e new (Some x) h = absurd (cc)

second_none : (o p : Option EnvReason) → option_or o p ≡ None → p ≡ None
second_none None p h = h
second_none (Some x) p h = absurd (cc)

free_at : (v x : Text) (b : Bool) → cond b None (Some (bad_value v)) ≡ None → b ≡ true
free_at v x true h = refl
free_at v x false h = absurd (cc)

value_free : (v x : Text) → option_map bad_edit (value_reason v (x ∷ [])) ≡ None → is_nul_free x ≡ true
value_free v x h =
    let all = free_at v x (list_all is_nul_free (x ∷ [])) (second_none (name_reason v) _ (mapped_none (value_reason v (x ∷ [])) h)) in
    (and_parts (is_nul_free x) true all).0

push_had : (e : Environment) (v owner x : Text) → name_reason v ≡ None → is_module_name owner ≡ true → is_nul_free x ≡ true → CanRead e v → IsHadOrFull (pushed_value e v owner x)
push_had e v owner x n m z (s, h) = inl (with_stack e v (push s owner x), rw (n, m, z, h) refl)

load_had : (owner : Text) (r : Record) (e : Environment) → record_reason r ≡ None → is_module_name owner ≡ true → ((w : Text) → use_by r ≡ Some (w, Stacked) → CanRead e w) → IsHadOrFull (loaded_by owner r e)
load_had owner (Set v x) e n m s = inl (with_value e v (Some x), refl)
load_had owner (Unset v x) e n m s = inl (with_value e v None, refl)
load_had owner (Push v x) e n m s = push_had e v owner x (named_value v (x ∷ []) n) m (value_free v x n) (s v refl)
load_had owner (Path Front d v xs) e n m s = add_had e v d xs ends.Front (mapped_none (path_reason v d xs) n)
load_had owner (Path Back d v xs) e n m s = add_had e v d xs ends.Back (mapped_none (path_reason v d xs) n)
load_had owner (Path Remove d v xs) e n m s = drop_had e _ (path_reason v d xs) (mapped_none (path_reason v d xs) n)
load_had owner (Conflict names) e n m s = inl (e, refl)
load_had owner (Prereq names) e n m s = inl (e, refl)
load_had owner (Whatis text) e n m s = inl (e, refl)

-- the same of the effect
abbrev pub EffectIsHadOrFull : Result Environment RecordReason → Type 0
EffectIsHadOrFull o = ((new : Environment) × (o ≡ Ok new)) ⊎ ((v : Text) × (o ≡ Err (bad_edit (counter_full v))))

as_effect : (o : Option RecordReason) (r : Result Environment EnvReason) → o ≡ None → IsHadOrFull r → EffectIsHadOrFull (permitted o (edit_outcome r))
as_effect None r n (inl (new, h)) = inl (new, ap edit_outcome h)
as_effect None r n (inr (v, h)) = inr (v, ap edit_outcome h)
as_effect (Some x) r n h = absurd (cc)

pub effect_had : (owner : Text) (r : Record) (e : Environment) → record_reason r ≡ None → is_module_name owner ≡ true → ((w : Text) → use_by r ≡ Some (w, Stacked) → CanRead e w)
    → EffectIsHadOrFull (effect load owner r e)
effect_had owner r e n m s = as_effect (record_reason r) (loaded_by owner r e) n (load_had owner r e n m s)
