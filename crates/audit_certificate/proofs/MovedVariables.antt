-- A variable that no live module uses is as in the start, and may be used in any way that the start agrees with.
use Rattle.std.proofs.Common.{◌≡◌, inl, inr, ℕ, true, false, ◌||◌, List, [], ◌∷◌, ◌++◌, refl, sym, ap, ◌∙◌, subst}
use Rattle.std.proofs.Common.{Option, Some}
use Rattle.std.specs.Prelude.{bytes_eq, unwrap_or}
use Rattle.std.specs.List.{list_all}
use Rattle.std.proofs.lemmas.List.{map_push}
use Rattle.modulename.specs.ModuleName.{is_module_name}
use Rattle.envvars.specs.Texts.{Text, has}
use Rattle.envvars.specs.Names.{share_name, stack_name}
use Rattle.envvars.specs.Environment.{Environment, lookup}
use Rattle.envvars.proofs.TextLemmas.{has-push, or_left, or_right}
use Rattle.envstate.specs.paths.Paths.{PathState}
use Rattle.envstate.specs.paths.PathTexts.{state_of, elements_text, counters_as_text}
use Rattle.envstate.specs.paths.PathVariables.{path_in}
use Rattle.envstate.specs.paths.PathOrder.{IsPathInOrder}
use Rattle.envstate.specs.paths.PathRuns.{IsPathStartWith}
use Rattle.envstate.proofs.paths.PathLemmas.{IsPathStartWith-restored}
use Rattle.envstate.specs.stacks.StackTexts.{items_in}
use Rattle.envstate.specs.stacks.StackRuns.{start_with_pushes}
use Rattle.envstate.specs.stacks.StackVariables.{stack_in, stack_from, IsStackInOrder}
use Rattle.envstate.proofs.stacks.StackInOrder.{order_of_more}
use Rattle.envstate.specs.loaded_list.Loaded.{Entry, names_of}
use Rattle.envstate.proofs.StateLemmas.{one_path, one_stack}
use Rattle.modulefile.specs.Moves.{Module, entry_of}
use Rattle.reversal.specs.VariableUses.{VariableUse, Untouched, Fixed, Absent, Pathed, Stacked}
use Rattle.reversal.specs.Live.{live_adds, live_pushes, entries_over}
use Rattle.reversal.specs.Starts.{HasValue, IsPermutation, none, next, swap, transitive, HasVariable}
use Rattle.audit_certificate.specs.RecordUses.{used_by_modules, IsAmong}
use Rattle.audit_certificate.proofs.UsedLemmas.{by_cases, Unused}
use Rattle.audit_certificate.proofs.RecordLemmas.{AreOfKind, none_sets, none_adds, none_pushes}

-- the names of the entries

names_over : (xs : List Entry) (m : Module) (live : List Module) → names_of (entries_over xs (m ∷ live)) ≡ names_of (entries_over xs live) ++ m.name ∷ []
names_over xs m live = map_push (λ (x : Entry). x.name) (entries_over xs live) (entry_of m)

pub not_named : (name : Text) (xs : List Entry) (live : List Module) → has name (names_of (entries_over xs live)) ≡ false → (n : Module) → IsAmong n live → bytes_eq name n.name ≡ false
not_named name xs [] h n a = absurd a
not_named name xs (m ∷ live) h n a =
    let k : (bytes_eq name m.name || has name (names_of (entries_over xs live))) ≡ false = sym
    (has-push (names_of (entries_over xs live)) m.name name) ∙ ap (has name) (sym (names_over xs m live)) ∙ h in
    by_cases a
    (λ e. ap (λ (z : Module). bytes_eq name z.name) e ∙ or_left (bytes_eq name m.name) (has name (names_of (entries_over xs live))) k)
    (λ b. not_named name xs live (or_right (bytes_eq name m.name) (has name (names_of (entries_over xs live))) k) n b)

pub not_at_start : (name : Text) (xs : List Entry) (live : List Module) → has name (names_of (entries_over xs live)) ≡ false → has name (names_of xs) ≡ false
not_at_start name xs [] h = h
not_at_start name xs (m ∷ live) h =
    let k : (bytes_eq name m.name || has name (names_of (entries_over xs live))) ≡ false = sym
    (has-push (names_of (entries_over xs live)) m.name name) ∙ ap (has name) (sym (names_over xs m live)) ∙ h in
    not_at_start name xs live (or_right (bytes_eq name m.name) (has name (names_of (entries_over xs live))) k)

-- a variable as in the start

abbrev pub IsAsIn : Environment → Text → Environment → Type 0
IsAsIn start v e = HasValue start e v (lookup start v)

path_same : (start e : Environment) (v : Text) (d : ℕ) → IsAsIn start v e → path_in e v d ≡ path_in start v d
path_same start e v d h = ap (λ (t : Option Text). state_of d t (lookup e (share_name v))) h.value ∙ ap (state_of d (lookup start v)) h.counters

pub path_moved : (start e : Environment) (v : Text) (d : ℕ) → IsAsIn start v e → IsPathInOrder start v d → IsPathInOrder e v d
path_moved start e v d h o = record {
  elements = h.value ∙ o.elements ∙ ap (λ (s : PathState). elements_text d s.elements) (sym (path_same start e v d h));
  counters = h.counters ∙ o.counters ∙ ap counters_as_text (sym (path_same start e v d h));
}

stack_same : (start e : Environment) (v : Text) → IsAsIn start v e → stack_in e v ≡ stack_in start v
stack_same start e v h = ap (λ (t : Option Text). stack_from (items_in t) (lookup e v)) h.stack ∙ ap (stack_from (items_in (lookup start (stack_name v)))) h.value

pub stack_moved : (start e : Environment) (v : Text) (names : List Text) → IsAsIn start v e → IsStackInOrder names start v → IsStackInOrder names e v
stack_moved start e v names h (inl k) = inl (h.stack ∙ k)
stack_moved start e v names h (inr k) = inr (record { items = k.items; valid = k.valid; owned = k.owned; owners = k.owners; text = h.stack ∙ k.text; value = h.value ∙ k.value })

pub stack_over : (e : Environment) (v : Text) (xs : List Entry) (live : List Module) → IsStackInOrder (names_of xs) e v → IsStackInOrder (names_of (entries_over xs live)) e v
stack_over e v xs [] h = h
stack_over e v xs (m ∷ live) h =
    subst (λ (ns : List Text). IsStackInOrder ns e v) (sym (names_over xs m live)) (order_of_more (names_of (entries_over xs live)) e v m.name (stack_over e v xs live h))

-- A variable as in the start has no use of the live modules over it, whichever way it may be used.
pub by_any_use : (y : VariableUse) (start e : Environment) (v : Text) (live : List Module) → AreOfKind live
    → Unused v (used_by_modules live) → HasVariable y start v [] start → IsAsIn start v e → HasVariable y start v live e
by_any_use Untouched start e v live k n s h = h
by_any_use (Fixed value) start e v live k n s h = subst (λ (o : Option (Option Text)). HasValue start e v (unwrap_or o (lookup start v))) (sym (none_sets v live k n.none)) h
by_any_use Absent start e v live k n s h = h
by_any_use (Pathed d) start e v live k n s h =
    let adds_none : live_adds v [] ≡ live_adds v live = λ i y. sym (none_adds v live n.none y) i in
    record {
      state = subst (λ (z : PathState). IsPathStartWith (path_in start v d) (live_adds v live) z) (sym (path_same start e v d h))
          (subst (λ (f : Text → ℕ). IsPathStartWith (path_in start v d) f (path_in start v d)) adds_none s.state);
      stack = h.stack;
    }
by_any_use Stacked start e v live k n s h = record {
  base = s.base;
  found = s.found;
  pushes = s.pushes;
  order = subst (IsPermutation s.pushes) (sym (none_pushes v live n.none)) s.order;
  state = stack_same start e v h ∙ s.state;
  counters = h.counters;
}

-- And one that no live module uses any more is as in the start again.

empty_order : (ps qs : List (Text × Text)) → IsPermutation ps qs → qs ≡ [] → ps ≡ []
empty_order ps qs none e = refl
empty_order ps qs (next h) e = absurd cc
empty_order ps qs swap e = absurd cc
empty_order ps qs (transitive {ps = a} {qs = b} {rs = c} h k) e = empty_order a b h (empty_order b c k e)

-- the variable is in order, by this use
abbrev pub IsUseInOrder : VariableUse → List Text → Environment → Text → Type 0
IsUseInOrder Untouched names e v = Unit {0}
IsUseInOrder (Fixed value) names e v = Unit {0}
IsUseInOrder Absent names e v = Unit {0}
IsUseInOrder (Pathed d) names e v = IsPathInOrder e v d
IsUseInOrder Stacked names e v = IsStackInOrder names e v

pub as_before : (y : VariableUse) (start e : Environment) (v : Text) (live : List Module) (names others : List Text) → AreOfKind live → Unused v (used_by_modules live)
    → list_all is_module_name names ≡ true → list_all is_module_name others ≡ true
    → IsUseInOrder y names e v → IsUseInOrder y others start v → HasVariable y start v live e → IsAsIn start v e
as_before Untouched start e v live names others k n a b o s h = h
as_before (Fixed value) start e v live names others k n a b o s h = subst (λ (p : Option (Option Text)). HasValue start e v (unwrap_or p (lookup start v))) (none_sets v live k n.none) h
as_before Absent start e v live names others k n a b o s h = h
as_before (Pathed d) start e v live names others k n a b o s h =
    let p = one_path e start v d o s (IsPathStartWith-restored (path_in start v d) (path_in e v d) (live_adds v live) h.state (none_adds v live n.none)) in
    record { value = p.elements; counters = p.counters; stack = h.stack }
as_before Stacked start e v live names others k n a b o s h =
    let z : h.pushes ≡ [] = empty_order h.pushes (live_pushes v live) h.order (none_pushes v live n.none) in
    let q : stack_in e v ≡ stack_in start v = h.state ∙ ap (λ (ps : List (Text × Text)). Some (start_with_pushes h.base ps)) z ∙ sym h.found in
    let p = one_stack names others e start v a b o s q in
    record { value = p.value; counters = h.counters; stack = p.stack }
