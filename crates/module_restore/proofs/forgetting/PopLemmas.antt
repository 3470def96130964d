-- Values that are popped from stacks.
use Rattle.std.proofs.Common.{◌≡◌, ◌⊎◌, inl, inr, Bool, true, false, cond, not, ◌||◌, List, [], ◌∷◌, ◌++◌, refl, sym, ap, ◌∙◌, subst}
use Rattle.std.proofs.Common.{Option, Some, None, Result, Ok, Err}
use Rattle.std.specs.Prelude.{bytes_eq, if◌then◌else◌, OnOk}
use Rattle.std.specs.List.{list_any}
use Rattle.std.proofs.lemmas.Bool.{false≢true}
use Rattle.envvars.specs.Texts.{Text, has}
use Rattle.envvars.specs.Names.{share_name, stack_name}
use Rattle.envvars.specs.Environment.{Environment, lookup}
use Rattle.envvars.specs.Reasons.{EnvReason, bad_stack, unless}
use Rattle.envvars.proofs.TextLemmas.{has-push, or_left, or_right, same_text}
use Rattle.envstate.specs.EnvLaws.{SameStack}
use Rattle.envstate.specs.Frames.{EditsStack}
use Rattle.envstate.specs.Roles.{VariableRole, is_editable, role_of}
use Rattle.envstate.specs.Roles.VariableRole.{Counters, LoadedConflicts, LoadedFiles, LoadedNames, LoadedPrereqs, Other, Stack, Variable}
use Rattle.envstate.specs.loaded_list.LoadedTexts.{names_variable, files_variable, conflicts_variable, prereqs_variable}
use Rattle.envstate.specs.stacks.Stacks.{OwnedValue, StackState, has_owner, holds, is_owner, on_top, pop, visible, without_lone_bottom, without_owner}
use Rattle.envstate.specs.stacks.StackTexts.{items_in, stack_text}
use Rattle.envstate.specs.stacks.StackVariables.{pop_reason, popped_from, popped_value, stack_from, stack_in, with_stack}
use Rattle.envstate.proofs.FrameLemmas.{accepted, keeps_other, pop_edits, stack_edits_variable}
use Rattle.envstate.proofs.RoleLemmas.{counters_place, different, stack_place, variable_place}
use Rattle.envstate.proofs.stacks.StackAfter.{stack_after_pop}
use Rattle.envstate.proofs.stacks.StackAgain.{found_at, value_at}
use Rattle.module_restore.specs.forgetting.Forgets.{edited_or_same, without_value}
use Rattle.module_restore.specs.forgetting.Views.{ArePopped, ArePoppedFrom, IsRestSame}

-- ---- one stack

pub same_then : (a b c : Environment) (v : Text) → SameStack a b v → SameStack b c v → SameStack a c v
same_then a b c v h k = record { value = h.value ∙ k.value; stack = h.stack ∙ k.stack }

same_state : (a b : Environment) (v : Text) → SameStack a b v → stack_in a v ≡ stack_in b v
same_state a b v h = ap (λ (t : Option Text). stack_from (items_in t) (lookup a v)) h.stack ∙ ap (stack_from (items_in (lookup b (stack_name v)))) h.value

-- what a pop makes of a variable follows from the variable and its stack
pub pops_alike : (a b : Environment) (v o : Text) → SameStack a b v → SameStack (without_value a v o) (without_value b v o) v
pops_alike a b v o h =
    subst (λ (s : Option StackState). SameStack (without_value a v o) (edited_or_same b (unless (pop_reason v o) (popped_from b v o s))) v)
    (same_state a b v h) (at (pop_reason v o) (stack_in a v))
  where
    holding : (t : Bool) (s : StackState) → SameStack (edited_or_same a (if t then accepted (with_stack a v s) else Ok a)) (edited_or_same b (if t then accepted (with_stack b v s) else Ok b)) v
    holding true s = record {
      value = value_at a v s.value (stack_text s.items) ∙ sym (value_at b v s.value (stack_text s.items));
      stack = found_at a v s.value (stack_text s.items) ∙ sym (found_at b v s.value (stack_text s.items));
    }
    holding false s = h

    at : (r : Option EnvReason) (s : Option StackState) → SameStack (edited_or_same a (unless r (popped_from a v o s))) (edited_or_same b (unless r (popped_from b v o s))) v
    at (Some x) s = h
    at None None = h
    at None (Some s) = holding (holds o s.items) (pop s o)

-- a module that has no value there
pub nothing_popped : (e : Environment) (v o : Text) (s : StackState) → stack_in e v ≡ Some s → holds o s.items ≡ false → without_value e v o ≡ e
nothing_popped e v o s found none =
    ap (λ (st : Option StackState). edited_or_same e (unless (pop_reason v o) (popped_from e v o st))) found ∙ at (pop_reason v o)
  where
    at : (r : Option EnvReason) → edited_or_same e (unless r (popped_from e v o (Some s))) ≡ e
    at (Some x) = refl
    at None = ap (λ (b : Bool). edited_or_same e (if b then accepted (with_stack e v (pop s o)) else Ok e)) none

pub unset_stack : (e : Environment) (v o : Text) → lookup e (stack_name v) ≡ None → without_value e v o ≡ e
unset_stack e v o h = nothing_popped e v o (record { items = []; value = lookup e v }) (ap (λ (t : Option Text). stack_from (items_in t) (lookup e v)) h) refl

none_left : (o : Text) (items : List OwnedValue) → holds o (without_owner o items) ≡ false
none_left o [] = refl
none_left o (i ∷ is) = at (is_owner o i.0) refl (none_left o is)
  where
    at : (b : Bool) → is_owner o i.0 ≡ b → holds o (without_owner o is) ≡ false → holds o (cond (not b) (i ∷ without_owner o is) (without_owner o is)) ≡ false
    at true h k = k
    at false h k = ap (λ (t : Bool). t || holds o (without_owner o is)) h ∙ k

settled_none : (o : Text) (b : Bool) (items : List OwnedValue) → holds o items ≡ false → holds o (if b then items else []) ≡ false
settled_none o true items h = h
settled_none o false items h = refl

popped_none : (s : StackState) (o : Text) → holds o (pop s o).items ≡ false
popped_none s o = at (holds o s.items) refl
  where
    out : StackState
    out = record { items = without_lone_bottom (without_owner o s.items); value = if on_top o s.items then visible (without_owner o s.items) else s.value }

    at : (b : Bool) → holds o s.items ≡ b → holds o (cond b out s).items ≡ false
    at true h = settled_none o (list_any (λ (i : OwnedValue). has_owner i.0) (without_owner o s.items)) (without_owner o s.items) (none_left o s.items)
    at false h = h

refused_pop : (r : Option EnvReason) (x : EnvReason) (p : Environment) → unless r (Err x) ≡ accepted p → ⊥
refused_pop None x p h = cc
refused_pop (Some y) x p h = cc

-- a second pop changes nothing
pops_once : (e : Environment) (v o : Text) → without_value (without_value e v o) v o ≡ without_value e v o
pops_once e v o = at (popped_value e v o) refl
  where
    again : (p : Environment) → popped_value e v o ≡ Ok p → (st : Option StackState) → stack_in e v ≡ st → without_value p v o ≡ p
    again p h None k = absurd (refused_pop (pop_reason v o) (bad_stack v) p (ap (λ (st : Option StackState). unless (pop_reason v o) (popped_from e v o st)) (sym k) ∙ h))
    again p h (Some s) k = nothing_popped p v o (pop s o) (stack_after_pop e p v o s k h) (popped_none s o)

    at : (r : Result Environment EnvReason) → popped_value e v o ≡ r → without_value (edited_or_same e r) v o ≡ edited_or_same e r
    at (Ok p) h = again p h (stack_in e v) refl
    at (Err x) h = ap (edited_or_same e) h

-- ---- the others

pop_is : (e : Environment) (v o : Text) → (without_value e v o ≡ e) ⊎ EditsStack e (without_value e v o) v
pop_is e v o = at (popped_value e v o) refl
  where
    at : (r : Result Environment EnvReason) → popped_value e v o ≡ r → (edited_or_same e r ≡ e) ⊎ EditsStack e (edited_or_same e r) v
    at (Ok p) h = inr (pop_edits e p v o h)
    at (Err x) h = inl refl

none_two : (a b : Bool) → a ≡ false → b ≡ false → (a || (b || false)) ≡ false
none_two a b h k = rw (h, k) refl

-- a name of another role than those of a stack
apart : (a b : Environment) (w q : Text) (p : VariableRole) → EditsStack a b w → role_of q ≡ p → (p ≡ Variable w → ⊥) → (p ≡ Stack w → ⊥) → lookup b q ≡ lookup a q
apart a b w q p h e x y =
    h.only q (none_two (bytes_eq q w) (bytes_eq q (stack_name w)) (different q w p _ e (variable_place w h.editable) x) (different q (stack_name w) p _ e (stack_place w h.editable) y))

other_stack : (a : Environment) (w v o : Text) → is_editable v ≡ true → bytes_eq v w ≡ false → SameStack (without_value a w o) a v
other_stack a w v o editable unlike = at (pop_is a w o)
  where
    at : (without_value a w o ≡ a) ⊎ EditsStack a (without_value a w o) w → SameStack (without_value a w o) a v
    at (inl same) = record { value = ap (λ (e : Environment). lookup e v) same; stack = ap (λ (e : Environment). lookup e (stack_name v)) same }
    at (inr edits) =
        let kept = keeps_other a (without_value a w o) w v (stack_edits_variable a (without_value a w o) w edits).0 editable unlike in
        record { value = kept.value; stack = kept.stack_text }

rest_by : (e a b : Environment) (w : Text) → EditsStack a b w → IsRestSame e a → IsRestSame e b
rest_by e a b w edits rest = record {
  counters = λ v h. apart a b w (share_name v) (Counters v) edits (counters_place v h) (λ k. cc) (λ k. cc) ∙ rest.counters v h;
  lists = record {
    names = apart a b w names_variable LoadedNames edits refl (λ k. cc) (λ k. cc) ∙ rest.lists.names;
    files = apart a b w files_variable LoadedFiles edits refl (λ k. cc) (λ k. cc) ∙ rest.lists.files;
    conflicts = apart a b w conflicts_variable LoadedConflicts edits refl (λ k. cc) (λ k. cc) ∙ rest.lists.conflicts;
    prereqs = apart a b w prereqs_variable LoadedPrereqs edits refl (λ k. cc) (λ k. cc) ∙ rest.lists.prereqs;
  };
  others = λ q h. apart a b w q Other edits h (λ k. cc) (λ k. cc) ∙ rest.others q h;
}

rest_next : (e a : Environment) (w o : Text) → IsRestSame e a → IsRestSame e (without_value a w o)
rest_next e a w o rest = at (pop_is a w o)
  where
    at : (without_value a w o ≡ a) ⊎ EditsStack a (without_value a w o) w → IsRestSame e (without_value a w o)
    at (inl same) = subst (IsRestSame e) (sym same) rest
    at (inr edits) = rest_by e a (without_value a w o) w edits rest

-- ---- one variable after another

same_all : (e : Environment) → IsRestSame e e
same_all e = record { counters = λ v h. refl; lists = record { names = refl; files = refl; conflicts = refl; prereqs = refl }; others = λ q h. refl }

pub pops_none : (o : Text) (e : Environment) → ArePoppedFrom o [] e e
pops_none o e = record { popped = λ v h k. absurd (false≢true k); unpopped = λ v h k. record { value = refl; stack = refl }; rest = same_all e }

pub pops_next : (o w : Text) (done : List Text) (e now : Environment) → ArePoppedFrom o done e now → ArePoppedFrom o (done ++ w ∷ []) e (without_value now w o)
pops_next o w done e now p = record {
  popped = λ v h k. goes v h (bytes_eq v w) refl (has v done) refl (sym (has-push done w v) ∙ k);
  unpopped = λ v h k.
      let none : (bytes_eq v w || has v done) ≡ false = sym (has-push done w v) ∙ k in
      same_then _ now e v (other_stack now w v o h (or_left (bytes_eq v w) (has v done) none)) (p.unpopped v h (or_right (bytes_eq v w) (has v done) none));
  rest = rest_next e now w o p.rest;
}
  where
    here : (v : Text) → is_editable v ≡ true → (c : Bool) → has v done ≡ c → SameStack (without_value now v o) (without_value e v o) v
    here v h true k = subst (λ (x : Environment). SameStack (without_value now v o) x v) (pops_once e v o) (pops_alike now (without_value e v o) v o (p.popped v h k))
    here v h false k = pops_alike now e v o (p.unpopped v h k)

    goes : (v : Text) → is_editable v ≡ true → (b : Bool) → bytes_eq v w ≡ b → (c : Bool) → has v done ≡ c → (b || c) ≡ true → SameStack (without_value now w o) (without_value e v o) v
    goes v h true q c k t = subst (λ (x : Text). SameStack (without_value now x o) (without_value e v o) v) (same_text v w q) (here v h c k)
    goes v h false q true k t = same_then _ now (without_value e v o) v (other_stack now w v o h q) (p.popped v h k)
    goes v h false q false k t = absurd (false≢true t)

-- all variables whose stacks are set
pub pops_all : (o : Text) (variables : List Text) (e now : Environment) → ((v : Text) → has v variables ≡ false → lookup e (stack_name v) ≡ None)
    → ArePoppedFrom o variables e now → ArePopped o e now
pops_all o variables e now all p = record {
  stacks = λ v h. at v h (has v variables) refl;
  rest = p.rest;
}
  where
    at : (v : Text) → is_editable v ≡ true → (b : Bool) → has v variables ≡ b → SameStack now (without_value e v o) v
    at v h true k = p.popped v h k
    at v h false k = subst (λ (x : Environment). SameStack now x v) (sym (unset_stack e v o (all v k))) (p.unpopped v h k)

-- by what a call answers
pub on_popped : {E : Type 0} (r : Result (Unit {0}) E) (o : Text) (variables : List Text) (e now : Environment)
    → ((v : Text) → has v variables ≡ false → lookup e (stack_name v) ≡ None) → OnOk r (ArePoppedFrom o variables e now) → OnOk r (ArePopped o e now)
on_popped (Ok u) o variables e now all h = pops_all o variables e now all h
on_popped (Err x) o variables e now all h = tt
