-- The effects of records in an unload are had where each stack that they push on can be read.
use Rattle.std.proofs.Common.{◌≡◌, inl, inr, ◌⊎◌, Bool, true, false, cond, List, [], ◌∷◌, Option, Some, None, Result, Ok, refl, ap, sym, ◌∙◌, subst}
use Rattle.std.specs.Prelude.{bytes_eq, is_none}
use Rattle.std.specs.List.{list_all, cons_option}
use Rattle.std.specs.Option.{option_map, option_or}
use Rattle.std.proofs.lemmas.Bool.{and_parts}
use Rattle.std.proofs.lemmas.Option.{same_Some, none-some}
use Rattle.modulename.specs.ModuleName.{is_module_name}
use Rattle.envvars.specs.Texts.{Text}
use Rattle.envvars.specs.Names.{stack_name, name_reason}
use Rattle.envvars.specs.Environment.{Environment, lookup, with_value}
use Rattle.envvars.specs.Reasons.{EnvReason, unless}
use Rattle.envvars.proofs.TextLemmas.{same_text}
use Rattle.envstate.specs.paths.PathVariables.{path_reason, dropped_path}
use Rattle.envstate.specs.stacks.Stacks.{OwnedValue, StackState, pop, holds}
use Rattle.envstate.specs.stacks.StackTexts.{items_in}
use Rattle.envstate.specs.stacks.StackVariables.{stack_in, stack_from, with_stack, popped_value}
use Rattle.envstate.specs.Frames.{EditsPath}
use Rattle.envstate.specs.Roles.{is_editable}
use Rattle.envstate.proofs.RoleLemmas.{no_reason_against}
use Rattle.envstate.proofs.FrameLemmas.{drop_edits, pop_edits, set_edits, path_edits_variable, stack_edits_variable, keeps_other}
use Rattle.envstate.proofs.stacks.StackAfter.{stack_after_pop}
use Rattle.modulefile.specs.Records.{Record, Set, Unset, Push, Path, Conflict, Prereq, Whatis}
use Rattle.modulefile.specs.declared.records.PathEdit.TheVariants.{Front, Back, Remove}
use Rattle.modulefile.specs.Judgments.{RecordReason, bad_edit, value_reason, record_reason, is_allowed}
use Rattle.modulefile.specs.Effects.{unload, unloaded_by, edit_outcome, permitted, effect, effects}
use Rattle.modulefile.proofs.Effected.{whole}
use Rattle.reversal.specs.VariableUses.{Absent, Stacked, UsedVariable, use_by}
use Rattle.reversal.specs.Undone.{undone_as, undo_of}
use Rattle.reversal.proofs.RecordKinds.{accepted, same_accepted, kept_absent, LeavesOf, leaves, used_name}
use Rattle.audit_certificate.specs.RecordUses.{used_by, IsAmong, Uses}
use Rattle.audit_certificate.proofs.UsedLemmas.{by_test, by_cases, cons_either, used_first, used_later}

-- ---- a stack that can be read

abbrev pub CanRead : Environment → Text → Type 0
CanRead e w = (s : StackState) × (stack_in e w ≡ Some s)

items_of : (o : Option (List OwnedValue)) (x : Option Text) (s : StackState) → stack_from o x ≡ Some s → (items : List OwnedValue) × (o ≡ Some items)
items_of None x s h = absurd (none-some s h)
items_of (Some items) x s h = (items, refl)

-- it can be read again where its text is the same
pub read_again : (old new : Environment) (w : Text) → lookup new (stack_name w) ≡ lookup old (stack_name w) → CanRead old w → CanRead new w
read_again old new w same (s, h) =
    let i = items_of (items_in (lookup old (stack_name w))) (lookup old w) s h in
    (record { items = i.0; value = lookup new w }, ap (λ (o : Option (List OwnedValue)). stack_from o (lookup new w)) (ap items_in same ∙ i.1))

-- ---- one unload keeps it so

pub read_after_path : (old new : Environment) (v w : Text) → is_editable w ≡ true → EditsPath old new v → CanRead old w → CanRead new w
read_after_path old new v w f edits r =
    let p = path_edits_variable old new v edits in by_test (bytes_eq w v) _
    (λ t. read_again old new w (subst (λ (x : Text). lookup new (stack_name x) ≡ lookup old (stack_name x)) (sym (same_text w v t)) p.1) r)
    (λ t. read_again old new w (keeps_other old new v w p.0 f t).stack_text r)

pub read_after_set : (e new : Environment) (v : Text) (x : Option Text) (w : Text) → name_reason v ≡ None → is_editable w ≡ true → accepted (with_value e v x) ≡ Ok new → CanRead e w → CanRead new w
read_after_set e new v x w n f h r = subst (λ (d : Environment). CanRead d w) (sym (same_accepted (with_value e v x) new h))
    (read_after_path e (with_value e v x) v w f (set_edits e v x ((no_reason_against v).1 n)).0 r)

read_after_pop : (old new : Environment) (v owner w : Text) → is_editable w ≡ true → popped_value old v owner ≡ Ok new → CanRead old w → CanRead new w
read_after_pop old new v owner w f h r =
    let p = stack_edits_variable old new v (pop_edits old new v owner h) in by_test (bytes_eq w v) _
    (λ t. let same = same_text w v t in
    let s : stack_in old v ≡ Some r.0 = subst (λ (x : Text). stack_in old x ≡ Some r.0) same r.1 in
    subst (CanRead new) (sym same) (pop r.0 owner, stack_after_pop old new v owner r.0 s h))
    (λ t. read_again old new w (keeps_other old new v w p.0 f t).stack_text r)

pub mapped_none : (o : Option EnvReason) → option_map bad_edit o ≡ None → o ≡ None
mapped_none None h = refl
mapped_none (Some x) h = absurd (cc)

pub first_none : (o p : Option EnvReason) → option_or o p ≡ None → o ≡ None
first_none None p h = refl
first_none (Some x) p h = absurd (cc)

pub named_value : (v : Text) (xs : List Text) → option_map bad_edit (value_reason v xs) ≡ None → name_reason v ≡ None
named_value v xs h = first_none (name_reason v) _ (mapped_none (value_reason v xs) h)

pub same_read : (e new : Environment) (w : Text) → accepted e ≡ Ok new → CanRead e w → CanRead new w
same_read e new w h r = subst (λ (d : Environment). CanRead d w) (sym (same_accepted e new h)) r

read_after : (owner : Text) (r : Record) (old new : Environment) (w : Text) → record_reason r ≡ None → unloaded_by owner r old ≡ Ok new → is_editable w ≡ true → CanRead old w → CanRead new w
read_after owner (Set v x) old new w n h f r = read_after_set old new v None w (named_value v (x ∷ []) n) f h r
read_after owner (Unset v None) old new w n h f r = same_read old new w h r
read_after owner (Unset v (Some x)) old new w n h f r = read_after_set old new v (Some x) w (named_value v (x ∷ []) n) f h r
read_after owner (Push v x) old new w n h f r = read_after_pop old new v owner w f h r
read_after owner (Path Front d v xs) old new w n h f r = read_after_path old new v w f (drop_edits old new v d xs h) r
read_after owner (Path Back d v xs) old new w n h f r = read_after_path old new v w f (drop_edits old new v d xs h) r
read_after owner (Path Remove d v xs) old new w n h f r = same_read old new w h r
read_after owner (Conflict names) old new w n h f r = same_read old new w h r
read_after owner (Prereq names) old new w n h f r = same_read old new w h r
read_after owner (Whatis text) old new w n h f r = same_read old new w h r

-- ---- one unload is had

abbrev IsHad : Text → Record → Environment → Type 0
IsHad owner r e = (new : Environment) × (unloaded_by owner r e ≡ Ok new)

abbrev IsMade : Result Environment EnvReason → Type 0
IsMade o = (new : Environment) × (o ≡ Ok new)

pop_at : (e : Environment) (v owner : Text) (s : StackState) (b : Bool) → holds owner s.items ≡ b → IsMade (cond b (accepted (with_stack e v (pop s owner))) (accepted e))
pop_at e v owner s true h = (with_stack e v (pop s owner), refl)
pop_at e v owner s false h = (e, refl)

pop_had : (e : Environment) (v owner : Text) → name_reason v ≡ None → is_module_name owner ≡ true → CanRead e v → IsMade (popped_value e v owner)
pop_had e v owner n m (s, h) = rw (n, m, h) (pop_at e v owner s (holds owner s.items) refl)

drop_had : (e : Environment) (v : Text) (d : _) (xs : List Text) → path_reason v d xs ≡ None → IsMade (dropped_path e v d xs)
drop_had e v d xs n = by_reason (path_reason v d xs) n _
  where
    by_reason : (o : Option EnvReason) → o ≡ None → (new : Environment) → IsMade (unless o (accepted new))
    by_reason None h new = (new, refl)
    by_reason (Some x) h new = absurd (cc)

one_had : (owner : Text) (r : Record) (e : Environment) → record_reason r ≡ None → is_module_name owner ≡ true → ((w : Text) → use_by r ≡ Some (w, Stacked) → CanRead e w) → IsHad owner r e
one_had owner (Set v x) e n m s = (with_value e v None, refl)
one_had owner (Unset v None) e n m s = (e, refl)
one_had owner (Unset v (Some x)) e n m s = (with_value e v (Some x), refl)
one_had owner (Push v x) e n m s = pop_had e v owner (named_value v (x ∷ []) n) m (s v refl)
one_had owner (Path Front d v xs) e n m s = drop_had e v d xs (mapped_none (path_reason v d xs) n)
one_had owner (Path Back d v xs) e n m s = drop_had e v d xs (mapped_none (path_reason v d xs) n)
one_had owner (Path Remove d v xs) e n m s = (e, refl)
one_had owner (Conflict names) e n m s = (e, refl)
one_had owner (Prereq names) e n m s = (e, refl)
one_had owner (Whatis text) e n m s = (e, refl)

-- ---- all of them

-- each stack that is pushed on by what an unload sees of records can be read
abbrev pub CanReadStacks : Environment → List Record → Type 0
CanReadStacks e us = (w : Text) → is_editable w ≡ true → Uses us w Stacked → CanRead e w

not_stacked : (w : Text) (o : Option Text) → option_map kept_absent o ≡ Some (w, Stacked) → ⊥
not_stacked w None h = absurd (cc)
not_stacked w (Some v) h =
    let p : kept_absent v ≡ (w, Stacked) = same_Some (kept_absent v) (w, Stacked) h in
    let k : Absent ≡ Stacked = ap (λ (q : UsedVariable). q.1) p in absurd (cc)

-- a record that pushes is seen by an unload
first_seen : (w : Text) (r : Record) (o : Option Record) (us : List Record) → LeavesOf r o → use_by r ≡ Some (w, Stacked) → Uses (cons_option o us) w Stacked
first_seen w r None us l h = absurd (not_stacked w _ (sym l.uses ∙ h))
first_seen w r (Some u) us l h = used_first (w, Stacked) u us (l.uses ∙ h)

later_seen : (w : Text) (o : Option Record) (us : List Record) → Uses us w Stacked → Uses (cons_option o us) w Stacked
later_seen w None us h = h
later_seen w (Some u) us h = used_later (w, Stacked) u us h

none_of : (o : Option RecordReason) → is_none o ≡ true → o ≡ None
none_of None h = refl
none_of (Some x) h = absurd (cc)

had_effect : (owner : Text) (r : Record) (old new : Environment) → record_reason r ≡ None → unloaded_by owner r old ≡ Ok new → effect unload owner r old ≡ Ok new
had_effect owner r old new n h = ap (λ (o : Option RecordReason). permitted o (edit_outcome (unloaded_by owner r old))) n ∙ ap edit_outcome h

pub unloads_had : (owner : Text) (rs : List Record) (e : Environment) → is_module_name owner ≡ true → list_all is_allowed rs ≡ true → CanReadStacks e (undo_of rs)
    → (new : Environment) × (effects unload owner rs e ≡ Ok new)
unloads_had owner [] e m a s = (e, refl)
unloads_had owner (r ∷ rs) e m a s =
    let p = and_parts (is_allowed r) (list_all is_allowed rs) a in
    let n = none_of (record_reason r) p.0 in
    let first = one_had owner r e n m (λ w u. s w ((no_reason_against w).1 (used_name r (w, Stacked) n u)) (first_seen w r (undone_as r) (undo_of rs) (leaves r) u)) in
    let rest = unloads_had owner rs first.0 m p.1 (λ w f u. read_after owner r e first.0 w n first.1 f (s w f (later_seen w (undone_as r) (undo_of rs) u))) in
    (rest.0, whole (effect unload owner r e) (effects unload owner rs) first.0 rest.0 (had_effect owner r e first.0 n first.1) rest.1)

-- ---- what an unload sees of records uses variables as they do

seen_used : (p : UsedVariable) (r : Record) (o : Option Record) (us : List Record) → LeavesOf r o → IsAmong p (used_by (cons_option o us)) → (use_by r ≡ Some p) ⊎ IsAmong p (used_by us)
seen_used p r None us l h = inr h
seen_used p r (Some u) us l h = by_cases (cons_either p (use_by u) (used_by us) h) (λ e. inl (sym l.uses ∙ e)) (λ k. inr k)

pub used_of_seen : (p : UsedVariable) (rs : List Record) → IsAmong p (used_by (undo_of rs)) → IsAmong p (used_by rs)
used_of_seen p [] h = h
used_of_seen p (r ∷ rs) h = by_cases (seen_used p r (undone_as r) (undo_of rs) (leaves r) h)
    (λ e. used_first p r rs e)
    (λ k. used_later p r rs (used_of_seen p rs k))
