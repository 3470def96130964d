-- A stack through the records of one load or unload.
use Rattle.std.proofs.Common.{◌≡◌, true, false, not, List, [], ◌∷◌, refl, sym, ap, ◌∙◌, subst, Option, Some, None, Ok}
use Rattle.std.proofs.Common.{inl, inr}
use Rattle.std.specs.Prelude.{bytes_eq}
use Rattle.std.specs.List.{list_all}
use Rattle.std.specs.Option.{option_or}
use Rattle.modulename.specs.ModuleName.{is_module_name}
use Rattle.envvars.specs.Texts.{Text, has}
use Rattle.envvars.specs.Names.{share_name}
use Rattle.envvars.specs.Fields.{without}
use Rattle.envvars.specs.Environment.{Environment, lookup}
use Rattle.envvars.proofs.TextLemmas.{bytes_eq-same, has-without}
use Rattle.envvars.proofs.EditLemmas.{both_true, and_both}
use Rattle.envstate.specs.stacks.Stacks.{OwnedValue, StackState, holds}
use Rattle.envstate.specs.stacks.StackRuns.{IsOwnedStart, other_pushes, start_with_pushes}
use Rattle.envstate.specs.stacks.StackVariables.{stack_in, is_loaded_owner, IsStackInOrder, pushed_value, popped_value}
use Rattle.envstate.proofs.stacks.StackLemmas.{push-start_with_pushes, pop-start_with_pushes}
use Rattle.envstate.proofs.stacks.StackAfter.{stack_after_push, stack_after_pop}
use Rattle.envstate.proofs.stacks.StackInOrder.{push_in_order, pop_in_order}
use Rattle.envstate.specs.Roles.{is_editable}
use Rattle.envstate.specs.Frames.{IsVariableUnchanged}
use Rattle.envstate.proofs.FrameLemmas.{push_edits, pop_edits, stack_edits_variable}
use Rattle.modulefile.specs.Records.{Record, variable_of}
use Rattle.modulefile.specs.Effects.{load, unload, effect, effects}
use Rattle.reversal.specs.VariableUses.{VariableUse, Stacked, Suits, AllSuit}
use Rattle.reversal.specs.Live.{push_by, last_push, with_push}
use Rattle.reversal.proofs.Frames.{effect_edits, loads, unloads, is_named}
use Rattle.reversal.proofs.Loads.{parts}
use Rattle.reversal.proofs.Uses.{uses_stack, push_by_none, other_used}
use Rattle.reversal.proofs.OneVariable.{by_test, pick, one_keeps}

-- a stack in order where more modules are loaded

more_owners : (few many : List Text) (items : List OwnedValue) → ((o : Text) → has o few ≡ true → has o many ≡ true)
    → list_all (λ item. is_loaded_owner few item.0) items ≡ true
    → list_all (λ item. is_loaded_owner many item.0) items ≡ true
more_owners few many [] h k = refl
more_owners few many (item ∷ items) h k =
    let p = both_true (is_loaded_owner few item.0) (list_all (λ i. is_loaded_owner few i.0) items) k in
    and_both (is_loaded_owner many item.0) (list_all (λ i. is_loaded_owner many i.0) items) (one item.0 p.0) (more_owners few many items h p.1)
  where
    one : (o : Option Text) → is_loaded_owner few o ≡ true → is_loaded_owner many o ≡ true
    one None q = refl
    one (Some o) q = h o q

pub more_loaded : (few many : List Text) (e : Environment) (w : Text) → ((o : Text) → has o few ≡ true → has o many ≡ true) → IsStackInOrder few e w → IsStackInOrder many e w
more_loaded few many e w h (inl k) = inl k
more_loaded few many e w h (inr k) = inr (record { items = k.items; valid = k.valid; owned = k.owned; owners = more_owners few many k.items h k.owners; text = k.text; value = k.value })

less_has : (o m : Text) (xs : List Text) → has o (without m xs) ≡ true → has o xs ≡ true
less_has o m xs h = (both_true (not (bytes_eq o m)) (has o xs) (sym (has-without xs m o) ∙ h)).1

-- a stack with these pushes on what was under them

pub record StackAt (b e : Environment) (w : Text) (loaded : List Text) (base : StackState) (ps : List (Text × Text)) : Type 0 where
  pub order : IsStackInOrder loaded e w
  pub state : stack_in e w ≡ Some (start_with_pushes base ps)
  pub counters : lookup e (share_name w) ≡ lookup b (share_name w)

pub stack_kept : (b old new : Environment) (w : Text) (loaded : List Text) (base : StackState) (ps : List (Text × Text))
    → IsVariableUnchanged old new w → StackAt b old w loaded base ps → StackAt b new w loaded base ps
stack_kept b old new w loaded base ps k p = record { order = k.stack_order loaded p.order; state = k.stack ∙ p.state; counters = k.counters ∙ p.counters }

-- what is known of the module and of the start
pub record Pusher (owner : Text) (loaded : List Text) (base : StackState) : Type 0 where
  pub names : list_all is_module_name loaded ≡ true
  pub there : has owner loaded ≡ true
  pub start : IsOwnedStart base
  pub foreign : holds owner base.items ≡ false

push_at : (b old new : Environment) (w owner x : Text) (loaded : List Text) (base : StackState) (ps : List (Text × Text)) → Pusher owner loaded base → pushed_value old w owner x ≡ Ok new
    → StackAt b old w loaded base ps → StackAt b new w loaded base ((owner, x) ∷ other_pushes owner ps)
push_at b old new w owner x loaded base ps m h p = record {
  order = push_in_order loaded old new w owner x m.names m.there p.order h;
  state = stack_after_push old new w owner x (start_with_pushes base ps) p.state h ∙ ap (λ (s : StackState). Some s) (push-start_with_pushes base ps owner x m.foreign);
  counters = (stack_edits_variable old new w (push_edits old new w owner x h)).1 ∙ p.counters;
}

pop_at : (b old new : Environment) (w owner : Text) (loaded : List Text) (base : StackState) (ps : List (Text × Text)) → Pusher owner loaded base → popped_value old w owner ≡ Ok new
    → StackAt b old w loaded base ps → StackAt b new w loaded base (other_pushes owner ps)
pop_at b old new w owner loaded base ps m h p = record {
  order = more_loaded (without owner loaded) loaded new w (λ o. less_has o owner loaded) (pop_in_order loaded old new w owner m.names p.order h);
  state = stack_after_pop old new w owner (start_with_pushes base ps) p.state h ∙ ap (λ (s : StackState). Some s) (pop-start_with_pushes base ps owner m.start m.foreign);
  counters = (stack_edits_variable old new w (pop_edits old new w owner h)).1 ∙ p.counters;
}

-- a load

pub other_with : (owner : Text) (o : Option Text) (ps : List (Text × Text)) → other_pushes owner ps ≡ ps → other_pushes owner (with_push owner o ps) ≡ ps
other_with owner None ps h = h
other_with owner (Some v) ps h = rw (bytes_eq-same owner) h

load_push : (uses : Text → VariableUse) (owner w : Text) (r : Record) (b old new : Environment) (loaded : List Text)
    (base : StackState) (o : Option Text) (ps : List (Text × Text)) → uses w ≡ Stacked → Suits uses r
    → is_editable w ≡ true
    → Pusher owner loaded base → other_pushes owner ps ≡ ps → effect load owner r old ≡ Ok new
    → StackAt b old w loaded base (with_push owner o ps) → StackAt b new w loaded base (with_push owner (option_or (push_by w r) o) ps)
load_push uses owner w r b old new loaded base o ps h s f m q e p = by_test (is_named w (variable_of r)) _
    (λ t. let u = uses_stack uses w r h s t in
    subst (λ (z : Option Text). StackAt b new w loaded base (with_push owner (option_or z o) ps)) (sym u.by)
    (subst (λ (z : List (Text × Text)). StackAt b new w loaded base ((owner, u.value) ∷ z)) (other_with owner o ps q)
    (push_at b old new w owner u.value loaded base (with_push owner o ps) m (sym (u.loads owner old) ∙ (effect_edits load owner r old new e).1) p)))
    (λ t. subst (λ (z : Option Text). StackAt b new w loaded base (with_push owner (option_or z o) ps)) (sym (push_by_none w r (other_used w r t)))
    (stack_kept b old new w loaded base (with_push owner o ps) (one_keeps load loads uses owner w r old new s f e t) p))

or_assoc : (x y z : Option Text) → option_or x (option_or y z) ≡ option_or (option_or x y) z
or_assoc None y z = refl
or_assoc (Some v) y z = refl

pub loads_push : (uses : Text → VariableUse) (owner w : Text) (rs : List Record) (b old new : Environment)
    (loaded : List Text) (base : StackState) (o : Option Text) (ps : List (Text × Text)) → uses w ≡ Stacked
    → AllSuit uses rs → is_editable w ≡ true
    → Pusher owner loaded base → other_pushes owner ps ≡ ps → effects load owner rs old ≡ Ok new
    → StackAt b old w loaded base (with_push owner o ps) → StackAt b new w loaded base (with_push owner (option_or (last_push w rs) o) ps)
loads_push uses owner w [] b old new loaded base o ps h s f m q e p = let i : old ≡ new = cc in subst (λ (c : Environment). StackAt b c w loaded base (with_push owner o ps)) i p
loads_push uses owner w (r ∷ rs) b old new loaded base o ps h s f m q e p =
    let i = parts (effect load owner r old) (effects load owner rs) new e in
    subst (λ (z : Option Text). StackAt b new w loaded base (with_push owner z ps)) (or_assoc (last_push w rs) (push_by w r) o)
    (loads_push uses owner w rs b i.0 new loaded base (option_or (push_by w r) o) ps h s.1 f m q i.2 (load_push uses owner w r b old i.0 loaded base o ps h s.0 f m q i.1 p))

-- an unload

other_other : (owner : Text) (ps : List (Text × Text)) → other_pushes owner (other_pushes owner ps) ≡ other_pushes owner ps
other_other owner [] = refl
other_other owner (p ∷ ps) = by_test (bytes_eq owner p.0) _
    (λ t. rw t (other_other owner ps))
    (λ t. rw (t, t) (ap (λ (l : List (Text × Text)). p ∷ l) (other_other owner ps)))

abbrev pub popped : Text → Option Text → List (Text × Text) → List (Text × Text)
popped owner o ps = pick o ps (other_pushes owner ps)

unload_push : (uses : Text → VariableUse) (owner w : Text) (r : Record) (b old new : Environment) (loaded : List Text)
    (base : StackState) (ps : List (Text × Text)) → uses w ≡ Stacked → Suits uses r → is_editable w ≡ true
    → Pusher owner loaded base → effect unload owner r old ≡ Ok new
    → StackAt b old w loaded base ps → StackAt b new w loaded base (popped owner (push_by w r) ps)
unload_push uses owner w r b old new loaded base ps h s f m e p = by_test (is_named w (variable_of r)) _
    (λ t. let u = uses_stack uses w r h s t in
    subst (λ (z : Option Text). StackAt b new w loaded base (popped owner z ps)) (sym u.by)
    (pop_at b old new w owner loaded base ps m (sym (u.unloads owner old) ∙ (effect_edits unload owner r old new e).1) p))
    (λ t. subst (λ (z : Option Text). StackAt b new w loaded base (popped owner z ps)) (sym (push_by_none w r (other_used w r t)))
    (stack_kept b old new w loaded base ps (one_keeps unload unloads uses owner w r old new s f e t) p))

popped_both : (owner : Text) (x y : Option Text) (ps : List (Text × Text)) → popped owner x (popped owner y ps) ≡ popped owner (option_or x y) ps
popped_both owner None y ps = refl
popped_both owner (Some v) None ps = refl
popped_both owner (Some v) (Some u) ps = other_other owner ps

pub unloads_push : (uses : Text → VariableUse) (owner w : Text) (rs : List Record) (b old new : Environment)
    (loaded : List Text) (base : StackState) (ps : List (Text × Text)) → uses w ≡ Stacked → AllSuit uses rs
    → is_editable w ≡ true
    → Pusher owner loaded base → effects unload owner rs old ≡ Ok new
    → StackAt b old w loaded base ps → StackAt b new w loaded base (popped owner (last_push w rs) ps)
unloads_push uses owner w [] b old new loaded base ps h s f m e p = let i : old ≡ new = cc in subst (λ (c : Environment). StackAt b c w loaded base ps) i p
unloads_push uses owner w (r ∷ rs) b old new loaded base ps h s f m e p =
    let i = parts (effect unload owner r old) (effects unload owner rs) new e in
    subst (λ (z : List (Text × Text)). StackAt b new w loaded base z) (popped_both owner (last_push w rs) (push_by w r) ps)
    (unloads_push uses owner w rs b i.0 new loaded base (popped owner (push_by w r) ps) h s.1 f m i.2 (unload_push uses owner w r b old i.0 loaded base ps h s.0 f m i.1 p))
