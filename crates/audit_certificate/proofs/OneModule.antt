-- A module that sets a variable and then pushes a value on its stack.
use Rattle.std.proofs.Common.{◌≡◌, true, List, [], ◌∷◌, refl, sym, ap, ◌∙◌, Option, Some, None, Result, Ok, Err, inl}
use Rattle.std.proofs.Common.{inr}
use Rattle.std.specs.Option.{option_map, option_or}
use Rattle.std.specs.List.{list_any}
use Rattle.std.proofs.lemmas.Bool.{false≢true}
use Rattle.std.proofs.lemmas.Option.{same_Some, none-some}
use Rattle.envvars.specs.Texts.{Text}
use Rattle.envvars.specs.Names.{stack_name, name_reason}
use Rattle.envvars.specs.Environment.{Environment, lookup, with_value}
use Rattle.envvars.specs.Reasons.{EnvReason}
use Rattle.envvars.proofs.TextLemmas.{bytes_eq-same}
use Rattle.envvars.proofs.EnvLemmas.{lookup-set}
use Rattle.envstate.specs.stacks.Stacks.{OwnedValue, StackState, has_owner, visible, push, pop}
use Rattle.envstate.specs.stacks.StackTexts.{items_in}
use Rattle.envstate.specs.stacks.StackVariables.{stack_in, stack_from, IsStackInOrder}
use Rattle.envstate.proofs.stacks.StackAfter.{stack_after_push, stack_after_pop}
use Rattle.envstate.specs.loaded_list.Loaded.{names_of}
use Rattle.envstate.specs.Roles.{is_editable}
use Rattle.envstate.proofs.RoleLemmas.{no_reason_against}
use Rattle.envstate.proofs.FrameLemmas.{set_edits, path_edits_variable}
use Rattle.envstate.proofs.StateLemmas.{list_in_order}
use Rattle.modulefile.specs.Records.{Record, Set, Push}
use Rattle.modulefile.specs.Judgments.{RecordReason, bad_edit, value_reason, record_reason}
use Rattle.modulefile.specs.Effects.{Mode, load, unload, edited, edit_outcome, permitted, effect, effects, and_then}
use Rattle.audit_certificate.specs.Examples.{SetAndPushLeaveValue}

abbrev accepted : Environment → Result Environment EnvReason
accepted e = Ok e

-- accepted effects are accepted edits

parts : (o : Result Environment RecordReason) (then : Environment → Result Environment RecordReason) (e : Environment) → and_then o then ≡ Ok e → (d : Environment) × (o ≡ Ok d) × (then d ≡ Ok e)
parts (Ok d) then e h = (d, refl, h)
parts (Err r) then e h = absurd cc

edit_ok : (o : Option RecordReason) (r : Result Environment EnvReason) (new : Environment) → permitted o (edit_outcome r) ≡ Ok new → (o ≡ None) × (r ≡ Ok new)
edit_ok None (Ok e) new h = let s : e ≡ new = cc in (refl, ap accepted s)
edit_ok None (Err x) new h = absurd cc
edit_ok (Some x) r new h = absurd cc

record TwoEdits (mode : Mode) (owner : Text) (r s : Record) (old new : Environment) : Type 0 where
  mid : Environment
  allowed : record_reason r ≡ None
  first : edited mode owner r old ≡ Ok mid
  second : edited mode owner s mid ≡ Ok new

two_edits : (mode : Mode) (owner : Text) (r s : Record) (old new : Environment) → effects mode owner (r ∷ s ∷ []) old ≡ Ok new → TwoEdits mode owner r s old new
two_edits mode owner r s old new h =
    let p = parts (effect mode owner r old) (effects mode owner (s ∷ [])) new h in
    let q = parts (effect mode owner s p.0) (effects mode owner []) new p.2 in
    let a = edit_ok (record_reason r) (edited mode owner r old) p.0 p.1 in
    let b = edit_ok (record_reason s) (edited mode owner s p.0) q.0 q.1 in
    let last : q.0 ≡ new = cc in
    record { mid = p.0; allowed = a.0; first = a.1; second = b.1 ∙ ap accepted last }

mapped_none : (o : Option EnvReason) → option_map bad_edit o ≡ None → o ≡ None
mapped_none None h = refl
mapped_none (Some x) h = absurd cc

first_none : (o p : Option EnvReason) → option_or o p ≡ None → o ≡ None
first_none None p h = refl
first_none (Some x) p h = absurd cc

editable : (v value : Text) → record_reason (Set v value) ≡ None → is_editable v ≡ true
editable v value h = (no_reason_against v).1 (first_none (name_reason v) _ (mapped_none (value_reason v (value ∷ [])) h))

same_ok : (d e : Environment) → accepted d ≡ Ok e → e ≡ d
same_ok d e h = cc

-- the stack of a variable that is set

set_stack : (e : Environment) (v : Text) (x : Option Text) → is_editable v ≡ true → lookup (with_value e v x) (stack_name v) ≡ lookup e (stack_name v)
set_stack e v x f = (path_edits_variable e (with_value e v x) v (set_edits e v x f).0).1

stack_of : (e : Environment) (v : Text) (x : Option Text) → is_editable v ≡ true → stack_in (with_value e v x) v ≡ stack_from (items_in (lookup e (stack_name v))) x
stack_of e v x f =
    ap (λ (t : Option Text). stack_from (items_in t) (lookup (with_value e v x) v)) (set_stack e v x f)
    ∙ ap (stack_from (items_in (lookup e (stack_name v)))) (lookup-set e v x)

found_at : (o : Option (List OwnedValue)) (x : Option Text) (s : StackState) → stack_from o x ≡ Some s → (o ≡ Some s.items) × (x ≡ s.value)
found_at None x s h = absurd (none-some s h)
found_at (Some items) x s h =
    let e : record { items = items; value = x } ≡ s = same_Some _ s h in
    (ap (λ (t : StackState). Some t.items) e, ap (λ (t : StackState). t.value) e)

-- an unset variable in order has no stack

no_stack : (names : List Text) (e : Environment) (v : Text) → lookup e v ≡ None → IsStackInOrder names e v → lookup e (stack_name v) ≡ None
no_stack names e v u (inl h) = h
no_stack names e v u (inr w) = absurd (shown w.items w.owned (sym w.value ∙ u))
  where
    shown : (items : List OwnedValue) → list_any (λ item. has_owner item.0) items ≡ true → visible items ≡ None → ⊥
    shown [] a b = false≢true a
    shown (item ∷ items) a b = none-some item.1 (sym b)

-- what the pop leaves of the one push over the value

popped : (owner value pushed : Text) → (pop (record { items = (Some owner, pushed) ∷ (None, value) ∷ []; value = None }) owner).value ≡ Some value
popped owner value pushed = rw (bytes_eq-same owner) refl

pub leave_value : SetAndPushLeaveValue
leave_value owner v value pushed start end a (mid, there, back) =
    let xs = list_in_order start a.loaded in
    let unset = a.uses v _ (inl refl) in
    let stack = a.uses v _ (inr (inl refl)) in
    let empty : lookup start (stack_name v) ≡ None = no_stack (names_of xs.0) start v unset (stack xs.0 xs.1) in
    let l = two_edits load owner (Set v value) (Push v pushed) start mid there in
    let u = two_edits unload owner (Set v value) (Push v pushed) mid end back in
    let f = editable v value l.allowed in
    let d = with_value start v (Some value) in
    let first : l.mid ≡ d = same_ok d l.mid l.first in
    let second : u.mid ≡ with_value mid v None = same_ok (with_value mid v None) u.mid u.first in
    let bottom : stack_in d v ≡ Some (record { items = []; value = Some value }) = stack_of start v (Some value) f ∙ ap (λ (t : Option Text). stack_from (items_in t) (Some value)) empty in
    let over : stack_in mid v ≡ Some (push (record { items = []; value = Some value }) owner pushed) = stack_after_push
    l.mid mid v owner pushed _ (ap (λ (e : Environment). stack_in e v) first ∙ bottom) l.second in
    let seen = found_at (items_in (lookup mid (stack_name v))) (lookup mid v) _ over in
    let hidden : stack_in u.mid v ≡ Some (record { items = (Some owner, pushed) ∷ (None, value) ∷ []; value = None }) =
    ap (λ (e : Environment). stack_in e v) second ∙ stack_of mid v None f ∙ ap (λ (o : Option (List OwnedValue)). stack_from o None) seen.0 in
    let after = stack_after_pop u.mid end v owner _ hidden u.second in
    (unset, (found_at (items_in (lookup end (stack_name v))) (lookup end v) _ after).1 ∙ popped owner value pushed)
