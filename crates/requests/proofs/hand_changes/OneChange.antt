-- One change by hand: each variable, by its use, and then the whole environment.
use Rattle.std.proofs.Common.{◌≡◌, ℕ, Bool, true, false, cond, List, [], ◌∷◌, refl, sym, ap, ◌∙◌, subst, Option, Some, None}
use Rattle.std.proofs.Common.{inl}
use Rattle.std.specs.Prelude.{bytes_eq, unwrap_or}
use Rattle.std.proofs.lemmas.Bool.{false≢true}
use Rattle.std.specs.List.{list_all}
use Rattle.modulename.specs.ModuleName.{is_module_name}
use Rattle.envvars.specs.Texts.{Text, has}
use Rattle.envvars.specs.Names.{share_name, stack_name}
use Rattle.envvars.specs.Environment.{Environment, lookup, with_value}
use Rattle.envvars.proofs.TextLemmas.{same_text, or_left, or_right}
use Rattle.envvars.proofs.EnvLemmas.{lookup-with_value, lookup-set}
use Rattle.envstate.specs.paths.Paths.{PathState}
use Rattle.envstate.specs.paths.PathRuns as path_runs
use Rattle.envstate.specs.paths.PathTexts.{state_of}
use Rattle.envstate.specs.paths.PathVariables.{path_in, with_path}
use Rattle.envstate.specs.paths.PathOrder.{IsPathInOrder}
use Rattle.envstate.proofs.paths.PathOrderLemmas.{path_in-written, in_order-written, lookup-others}
use Rattle.envstate.proofs.paths.Readable.{IsWritable-state_of}
use Rattle.envstate.specs.stacks.Stacks.{OwnedValue, StackState}
use Rattle.envstate.specs.stacks.StackTexts.{items_in}
use Rattle.envstate.specs.stacks.StackRuns.{start_with_pushes}
use Rattle.envstate.specs.stacks.StackVariables.{stack_in, stack_from, IsStackInOrder}
use Rattle.envstate.specs.loaded_list.LoadedTexts.{names_variable, files_variable, conflicts_variable, prereqs_variable}
use Rattle.envstate.specs.loaded_list.Loaded.{Entry, names_of, loaded_in}
use Rattle.envstate.specs.Roles.{VariableRole, role_of, is_editable, IsNameOf}
use Rattle.envstate.specs.Roles.VariableRole.{Variable, Counters, Stack, LoadedNames, LoadedFiles, LoadedConflicts}
use Rattle.envstate.specs.Roles.VariableRole.{LoadedPrereqs, Other}
use Rattle.envstate.specs.Frames.{EditsPath, EditsVariable, IsVariableUnchanged, AreLoadedUnchanged}
use Rattle.envstate.proofs.RoleLemmas.{name_of_role, variable_place, counters_place, stack_place, different}
use Rattle.envstate.proofs.FrameLemmas.{set_edits, path_edits_variable, stack_edits_variable, keeps, keeps_list}
use Rattle.envstate.proofs.FrameLemmas.{keeps_other, keeps_loaded, rest_stays}
use Rattle.envstate.proofs.StateLemmas.{one_stack, list_in_order}
use Rattle.modulefile.specs.Moves.{Module}
use Rattle.reversal.specs.VariableUses.{VariableUse, Untouched, Fixed, Absent, Pathed, Stacked}
use Rattle.reversal.specs.Live.{live_set, live_adds, live_pushes}
use Rattle.reversal.specs.Starts.{IsInOrder, IsStart, HasValue, HasPath, HasStack, IsPermutation, HasVariable, IsStartWith}
use Rattle.reversal.specs.Laws.{Holds, MovesPreserve}
use Rattle.requests.specs.hand_changes.HandChanges.{HandChange, changed, use_of_role, MayChange, KeepsLiveElements}
use Rattle.requests.specs.hand_changes.HandChanges.{without_live_adds, start_by_use}
use Rattle.requests.specs.hand_changes.Laws.{OneChangeHolds}
use Rattle.requests.proofs.hand_changes.PathChanges.{by_test, Leaves, start_with_after, writable_after, counted_alike}

-- ---- one variable, with what is in order of it

record Stands (uses : Text → VariableUse) (b e : Environment) (live : List Module) (v : Text) : Type 0 where
  start_path : (d : ℕ) → uses v ≡ Pathed d → IsPathInOrder b v d
  path : (d : ℕ) → uses v ≡ Pathed d → IsPathInOrder e v d
  start_stack : (xs : List Entry) → uses v ≡ Stacked → loaded_in b ≡ Some xs → IsStackInOrder (names_of xs) b v
  stack : (xs : List Entry) → uses v ≡ Stacked → loaded_in e ≡ Some xs → IsStackInOrder (names_of xs) e v
  fixed : (value : Option Text) → uses v ≡ Fixed value → lookup b v ≡ value
  absent : uses v ≡ Absent → lookup b v ≡ None
  here : HasVariable (uses v) b v live e

stands_before : (uses : Text → VariableUse) (b e : Environment) (live : List Module) → IsStart uses b → IsInOrder uses e → IsStartWith uses b live e
    → (v : Text) → is_editable v ≡ true → Stands uses b e live v
stands_before uses b e live s o w v f = record {
  start_path = λ d q. s.order.paths v d f q;
  path = λ d q. o.paths v d f q;
  start_stack = λ xs q l. s.order.stacks v xs f q l;
  stack = λ xs q l. o.stacks v xs f q l;
  fixed = λ value q. s.fixed v value f q;
  absent = λ q. s.absent v f q;
  here = w.variables v f;
}

-- where the variable is unchanged in both
stands_kept : (uses : Text → VariableUse) (b e c d : Environment) (live : List Module) (v : Text) → IsVariableUnchanged b c v → IsVariableUnchanged e d v
    → loaded_in c ≡ loaded_in b → loaded_in d ≡ loaded_in e → Stands uses b e live v → Stands uses c d live v
stands_kept uses b e c d live v k m l n s = record {
  start_path = λ delim q. k.path_order delim (s.start_path delim q);
  path = λ delim q. m.path_order delim (s.path delim q);
  start_stack = λ xs q h. k.stack_order (names_of xs) (s.start_stack xs q (sym l ∙ h));
  stack = λ xs q h. m.stack_order (names_of xs) (s.stack xs q (sym n ∙ h));
  fixed = λ value q. k.value ∙ s.fixed value q;
  absent = λ q. k.value ∙ s.absent q;
  here = go (uses v) s.here;
}
  where
    go : (y : VariableUse) → HasVariable y b v live e → HasVariable y c v live d
    go Untouched h = record {
      value = m.value ∙ h.value ∙ sym k.value;
      counters = m.counters ∙ h.counters ∙ sym k.counters;
      stack = m.stack_text ∙ h.stack ∙ sym k.stack_text;
    }
    go (Fixed value) h = record {
      value = m.value ∙ h.value ∙ ap (λ (t : Option Text). unwrap_or (live_set v live) t) (sym k.value);
      counters = m.counters ∙ h.counters ∙ sym k.counters;
      stack = m.stack_text ∙ h.stack ∙ sym k.stack_text;
    }
    go Absent h = record {
      value = m.value ∙ h.value ∙ sym k.value;
      counters = m.counters ∙ h.counters ∙ sym k.counters;
      stack = m.stack_text ∙ h.stack ∙ sym k.stack_text;
    }
    go (Pathed delim) h = record {
      state = subst (λ (t : PathState). path_runs.IsPathStartWith t (live_adds v live) (path_in d v delim)) (sym (k.path delim))
          (subst (λ (t : PathState). path_runs.IsPathStartWith (path_in b v delim) (live_adds v live) t) (sym (m.path delim)) h.state);
      stack = m.stack_text ∙ h.stack ∙ sym k.stack_text;
    }
    go Stacked h = record {
      base = h.base;
      found = k.stack ∙ h.found;
      pushes = h.pushes;
      order = h.order;
      state = m.stack ∙ h.state;
      counters = m.counters ∙ h.counters ∙ sym k.counters;
    }

-- ---- the variable that is changed, where modulefiles may edit it

pub record SetBeside (b e : Environment) (c : HandChange) : Type 0 where
  pub start_value : lookup (changed c b) c.variable ≡ c.value
  pub value : lookup (changed c e) c.variable ≡ c.value
  pub start_counters : lookup (changed c b) (share_name c.variable) ≡ lookup b (share_name c.variable)
  pub counters : lookup (changed c e) (share_name c.variable) ≡ lookup e (share_name c.variable)
  pub start_stack : lookup (changed c b) (stack_name c.variable) ≡ lookup b (stack_name c.variable)
  pub stack : lookup (changed c e) (stack_name c.variable) ≡ lookup e (stack_name c.variable)

pub set_beside : (b e : Environment) (c : HandChange) → is_editable c.variable ≡ true → SetBeside b e c
set_beside b e c f =
    let start = set_edits b c.variable c.value f in
    let now = set_edits e c.variable c.value f in
    record {
      start_value = lookup-set b c.variable c.value;
      value = lookup-set e c.variable c.value;
      start_counters = (stack_edits_variable b (changed c b) c.variable start.1).1;
      counters = (stack_edits_variable e (changed c e) c.variable now.1).1;
      start_stack = (path_edits_variable b (changed c b) c.variable start.0).1;
      stack = (path_edits_variable e (changed c e) c.variable now.0).1;
    }

untouched_stands : (uses : Text → VariableUse) (b e : Environment) (live : List Module) (c : HandChange) → is_editable c.variable ≡ true → uses c.variable ≡ Untouched
    → HasValue b e c.variable (lookup b c.variable) → Stands uses (changed c b) (changed c e) live c.variable
untouched_stands uses b e live c f u h =
    let t = set_beside b e c f in
    record {
      start_path = λ d q. let z : Untouched ≡ Pathed d = sym u ∙ q in absurd cc;
      path = λ d q. let z : Untouched ≡ Pathed d = sym u ∙ q in absurd cc;
      start_stack = λ xs q l. let z : Untouched ≡ Stacked = sym u ∙ q in absurd cc;
      stack = λ xs q l. let z : Untouched ≡ Stacked = sym u ∙ q in absurd cc;
      fixed = λ value q. let z : Untouched ≡ Fixed value = sym u ∙ q in absurd cc;
      absent = λ q. let z : Untouched ≡ Absent = sym u ∙ q in absurd cc;
      here = subst (λ (y : VariableUse). HasVariable y (changed c b) c.variable live (changed c e)) (sym u) (record {
        value = t.value ∙ sym t.start_value;
        counters = t.counters ∙ h.counters ∙ sym t.start_counters;
        stack = t.stack ∙ h.stack ∙ sym t.start_stack;
      });
    }

-- a stack

no_items : (e : Environment) (v : Text) → lookup e (stack_name v) ≡ None → stack_in e v ≡ Some (record { items = []; value = lookup e v })
no_items e v h = ap (λ t. stack_from (items_in t) (lookup e v)) h

abbrev is_none : List OwnedValue → Bool
is_none [] = true
is_none (item ∷ items) = false

abbrev has_no_items : Option StackState → Bool
has_no_items None = true
has_no_items (Some s) = is_none s.items

no_pushes : (base : StackState) (pushes : List (Text × Text)) (value : Option Text)
    → Some (start_with_pushes base pushes) ≡ Some (record { items = []; value = value }) → pushes ≡ []
no_pushes base [] value h = refl
no_pushes base (p ∷ ps) value h = absurd (false≢true (ap has_no_items h))

-- where the environment has no stack, the start has none, and nothing is pushed
pub record HasNoStack (b : Environment) (v : Text) (live : List Module) : Type 0 where
  pub pushed : IsPermutation [] (live_pushes v live)
  pub start : lookup b (stack_name v) ≡ None

no_stack : (loaded others : List Text) (b e : Environment) (v : Text) (live : List Module) → list_all is_module_name loaded ≡ true → list_all is_module_name others ≡ true
    → IsStackInOrder loaded e v → IsStackInOrder others b v → HasStack b e v (live_pushes v live) → lookup e (stack_name v) ≡ None → HasNoStack b v live
no_stack loaded others b e v live n m o s h k =
    let z : h.pushes ≡ [] = no_pushes h.base h.pushes (lookup e v) (sym h.state ∙ no_items e v k) in
    let same : stack_in e v ≡ stack_in b v = h.state ∙ ap (λ (ps : List (Text × Text)). Some (start_with_pushes h.base ps)) z ∙ sym h.found in
    record {
      pushed = subst (λ (ps : List (Text × Text)). IsPermutation ps (live_pushes v live)) z h.order;
      start = sym (one_stack loaded others e b v n m o s same).stack ∙ k;
    }

stacked_stands : (uses : Text → VariableUse) (b e : Environment) (live : List Module) (c : HandChange) → is_editable c.variable ≡ true → uses c.variable ≡ Stacked
    → HasNoStack b c.variable live → lookup e (stack_name c.variable) ≡ None → lookup e (share_name c.variable) ≡ lookup b (share_name c.variable)
    → Stands uses (changed c b) (changed c e) live c.variable
stacked_stands uses b e live c f u n k h =
    let t = set_beside b e c f in
    let start : lookup (changed c b) (stack_name c.variable) ≡ None = t.start_stack ∙ n.start in
    let now : lookup (changed c e) (stack_name c.variable) ≡ None = t.stack ∙ k in
    record {
      start_path = λ d q. let z : Stacked ≡ Pathed d = sym u ∙ q in absurd cc;
      path = λ d q. let z : Stacked ≡ Pathed d = sym u ∙ q in absurd cc;
      start_stack = λ xs q l. inl start;
      stack = λ xs q l. inl now;
      fixed = λ value q. let z : Stacked ≡ Fixed value = sym u ∙ q in absurd cc;
      absent = λ q. let z : Stacked ≡ Absent = sym u ∙ q in absurd cc;
      here = subst (λ (y : VariableUse). HasVariable y (changed c b) c.variable live (changed c e)) (sym u) (record {
        base = record { items = []; value = lookup (changed c b) c.variable };
        found = no_items (changed c b) c.variable start;
        pushes = [];
        order = n.pushed;
        state = no_items (changed c e) c.variable now
            ∙ ap (λ (x : Option Text). Some (record { items = []; value = x })) (t.value ∙ sym t.start_value);
        counters = t.counters ∙ h ∙ sym t.start_counters;
      });
    }

-- a path

abbrev path_after : Environment → Environment → List Module → HandChange → ℕ → PathState
path_after b e live c d = without_live_adds (path_in b c.variable d) (live_adds c.variable live) (path_in (changed c e) c.variable d)

abbrev HasElement : Text → PathState → Type 0
HasElement x s = has x s.elements ≡ true

path_leaves : (b e : Environment) (live : List Module) (c : HandChange) (d : ℕ) → is_editable c.variable ≡ true
    → HasPath b e c.variable d (live_adds c.variable live) → KeepsLiveElements live (changed c e) c.variable d
    → Leaves (path_in b c.variable d) (live_adds c.variable live) (path_in e c.variable d) (path_in (changed c e) c.variable d)
path_leaves b e live c d f h k = record {
  valid = (IsWritable-state_of d (lookup b c.variable) (lookup b (share_name c.variable))).valid;
  before = h.state;
  counted = subst (λ (u : Option Text). (x : Text) → HasElement x (state_of d (lookup e c.variable) (lookup e (share_name c.variable)))
      → HasElement x (state_of d (lookup (changed c e) c.variable) u)
      → (state_of d (lookup (changed c e) c.variable) u).counter x ≡ (state_of d (lookup e c.variable) (lookup e (share_name c.variable))).counter x)
      (sym (set_beside b e c f).counters)
      (λ x. counted_alike d (lookup e c.variable) (lookup (changed c e) c.variable) (lookup e (share_name c.variable)) x);
  there = k.there;
}

path_stands : (uses : Text → VariableUse) (b e : Environment) (live : List Module) (c : HandChange) (d : ℕ) → is_editable c.variable ≡ true → uses c.variable ≡ Pathed d
    → HasPath b e c.variable d (live_adds c.variable live) → KeepsLiveElements live (changed c e) c.variable d
    → EditsPath b (with_path b c.variable d (path_after b e live c d)) c.variable
    → Stands uses (with_path b c.variable d (path_after b e live c d)) (changed c e) live c.variable
path_stands uses b e live c d f u h k edits =
    let t = set_beside b e c f in
    let l = path_leaves b e live c d f h k in
    let s = path_after b e live c d in
    let w = writable_after d (path_in b c.variable d) (live_adds c.variable live) (path_in e c.variable d) (path_in (changed c e) c.variable d) l
    (IsWritable-state_of d (lookup (changed c e) c.variable) (lookup (changed c e) (share_name c.variable))) in
    record {
      start_path = λ g q. let z : g ≡ d = same_delim d g (sym u ∙ q) in subst (IsPathInOrder (with_path b c.variable d s) c.variable) (sym z) (in_order-written b c.variable d s w);
      path = λ g q. let z : g ≡ d = same_delim d g (sym u ∙ q) in subst (IsPathInOrder (changed c e) c.variable) (sym z) k.order;
      start_stack = λ xs q i. let z : Pathed d ≡ Stacked = sym u ∙ q in absurd cc;
      stack = λ xs q i. let z : Pathed d ≡ Stacked = sym u ∙ q in absurd cc;
      fixed = λ value q. let z : Pathed d ≡ Fixed value = sym u ∙ q in absurd cc;
      absent = λ q. let z : Pathed d ≡ Absent = sym u ∙ q in absurd cc;
      here = subst (λ (y : VariableUse). HasVariable y (with_path b c.variable d s) c.variable live (changed c e)) (sym u) (record {
        state = subst (λ (p : PathState). path_runs.IsPathStartWith p (live_adds c.variable live) (path_in (changed c e) c.variable d)) (sym (path_in-written b c.variable d s w))
            (start_with_after (path_in b c.variable d) (live_adds c.variable live) (path_in e c.variable d) (path_in (changed c e) c.variable d) l);
        stack = t.stack ∙ h.stack ∙ sym (path_edits_variable b (with_path b c.variable d s) c.variable edits).1;
      });
    }
  where
    same_delim : (d g : ℕ) → Pathed d ≡ Pathed g → g ≡ d
    same_delim d g z = cc

-- ---- the whole environment

-- what a change leaves: every other variable, the loaded modules, and every name that is none of the tool's
record Around (b e c d : Environment) (n : Text) : Type 0 where
  start_kept : (v : Text) → is_editable v ≡ true → bytes_eq v n ≡ false → IsVariableUnchanged b c v
  kept : (v : Text) → is_editable v ≡ true → bytes_eq v n ≡ false → IsVariableUnchanged e d v
  start_loaded : AreLoadedUnchanged b c
  loaded : AreLoadedUnchanged e d
  others : (q : Text) → role_of q ≡ Other → lookup d q ≡ lookup c q

returned : MovesPreserve → (uses : Text → VariableUse) (c d : Environment) (live : List Module) → IsStart uses c → IsInOrder uses d → IsStartWith uses c live d → live ≡ [] → d ≡ c
returned preserve uses c d [] s o w h = (preserve uses c d d [] [] s o w tt tt refl).0.returned refl
returned preserve uses c d (m ∷ live) s o w h = absurd cc

-- the start in order and the environment in order, from each variable
assembled : MovesPreserve → (uses : Text → VariableUse) (b e c d : Environment) (live : List Module) (n : Text) → IsStart uses b → IsInOrder uses e → IsStartWith uses b live e
    → Around b e c d n → (is_editable n ≡ true → Stands uses c d live n) → IsStart uses c × (loaded_in c ≡ loaded_in b) × Holds uses c live d
assembled preserve uses b e c d live n s o w a here =
    (start, a.start_loaded.list, record { order = order; start_with_live = over; returned = returned preserve uses c d live start order over })
  where
    each : (v : Text) → is_editable v ≡ true → Stands uses c d live v
    each v f = by_test (bytes_eq v n) _
        (λ t. subst (Stands uses c d live) (sym (same_text v n t)) (here (subst (λ (q : Text). is_editable q ≡ true) (same_text v n t) f)))
        (λ t. stands_kept uses b e c d live v (a.start_kept v f t) (a.kept v f t) a.start_loaded.list a.loaded.list (stands_before uses b e live s o w v f))

    start : IsStart uses c
    start = record {
      order = record {
        loaded = a.start_loaded.order s.order.loaded;
        paths = λ v delim f q. (each v f).start_path delim q;
        stacks = λ v xs f q l. (each v f).start_stack xs q l;
      };
      fixed = λ v value f q. (each v f).fixed value q;
      absent = λ v f q. (each v f).absent q;
    }

    order : IsInOrder uses d
    order = record {
      loaded = a.loaded.order o.loaded;
      paths = λ v delim f q. (each v f).path delim q;
      stacks = λ v xs f q l. (each v f).stack xs q l;
    }

    over : IsStartWith uses c live d
    over = record {
      entries = λ xs l. a.loaded.list ∙ w.entries xs (sym a.start_loaded.list ∙ l);
      variables = λ v f. (each v f).here;
      others = a.others;
    }

-- ---- a name that no modulefile may edit, and that is none of the tool's

set_apart : (e : Environment) (n : Text) (value : Option Text) (q : Text) (p : VariableRole) → role_of n ≡ Other → role_of q ≡ p → (p ≡ Other → ⊥)
    → lookup (with_value e n value) q ≡ lookup e q
set_apart e n value q p o r d = lookup-with_value e n value q ∙ ap (λ (b : Bool). cond b value (lookup e q)) (different q n p Other r o d)

pub other_kept : (e : Environment) (n : Text) (value : Option Text) (v : Text) → role_of n ≡ Other → is_editable v ≡ true → IsVariableUnchanged e (with_value e n value) v
other_kept e n value v o f =
    keeps e (with_value e n value) v
    (set_apart e n value v _ o (variable_place v f) (λ z. cc))
    (set_apart e n value (share_name v) _ o (counters_place v f) (λ z. cc))
    (set_apart e n value (stack_name v) _ o (stack_place v f) (λ z. cc))

other_loaded : (e : Environment) (n : Text) (value : Option Text) → role_of n ≡ Other → AreLoadedUnchanged e (with_value e n value)
other_loaded e n value o =
    keeps_list e (with_value e n value)
    (set_apart e n value names_variable LoadedNames o refl (λ z. cc))
    (set_apart e n value files_variable LoadedFiles o refl (λ z. cc))
    (set_apart e n value conflicts_variable LoadedConflicts o refl (λ z. cc))
    (set_apart e n value prereqs_variable LoadedPrereqs o refl (λ z. cc))

set_alike : (b e : Environment) (n : Text) (value : Option Text) (q : Text) → lookup e q ≡ lookup b q → lookup (with_value e n value) q ≡ lookup (with_value b n value) q
set_alike b e n value q h = lookup-with_value e n value q ∙ ap (λ (t : Option Text). cond (bytes_eq q n) value t) h ∙ sym (lookup-with_value b n value q)

around_other : (uses : Text → VariableUse) (b e : Environment) (live : List Module) (c : HandChange) → IsStartWith uses b live e → role_of c.variable ≡ Other
    → Around b e (changed c b) (changed c e) c.variable
around_other uses b e live c w o = record {
  start_kept = λ v f t. other_kept b c.variable c.value v o f;
  kept = λ v f t. other_kept e c.variable c.value v o f;
  start_loaded = other_loaded b c.variable c.value o;
  loaded = other_loaded e c.variable c.value o;
  others = λ q r. set_alike b e c.variable c.value q (w.others q r);
}

-- ---- a variable that modulefiles may edit

around_edit : (uses : Text → VariableUse) (b e d : Environment) (live : List Module) (c : HandChange) → IsStartWith uses b live e → is_editable c.variable ≡ true
    → EditsVariable b d c.variable → Around b e d (changed c e) c.variable
around_edit uses b e d live c w f edits =
    let now : EditsVariable e (changed c e) c.variable = (path_edits_variable e (changed c e) c.variable (set_edits e c.variable c.value f).0).0 in
    record {
      start_kept = λ v g t. keeps_other b d c.variable v edits g t;
      kept = λ v g t. keeps_other e (changed c e) c.variable v now g t;
      start_loaded = keeps_loaded b d c.variable edits;
      loaded = keeps_loaded e (changed c e) c.variable now;
      others = λ q r. rest_stays e (changed c e) c.variable q now r ∙ w.others q r ∙ sym (rest_stays b d c.variable q edits r);
    }

path_edits : (b : Environment) (v : Text) (d : ℕ) (s : PathState) → is_editable v ≡ true → EditsPath b (with_path b v d s) v
path_edits b v d s f = record {
  editable = f;
  only = λ q h. lookup-others b v d s q (or_left (bytes_eq q v) _ h) (or_left (bytes_eq q (share_name v)) false (or_right (bytes_eq q v) _ h));
}

-- what the change makes of the start is an edit of the variable as a path
pub start_edits : (b e : Environment) (live : List Module) (c : HandChange) (y : VariableUse) → is_editable c.variable ≡ true → EditsPath b (start_by_use (Some y) live b e c) c.variable
start_edits b e live c Untouched f = (set_edits b c.variable c.value f).0
start_edits b e live c (Fixed value) f = (set_edits b c.variable c.value f).0
start_edits b e live c Absent f = (set_edits b c.variable c.value f).0
start_edits b e live c (Pathed d) f = path_edits b c.variable d (path_after b e live c d) f
start_edits b e live c Stacked f = (set_edits b c.variable c.value f).0

-- what holds after it, of the start that it comes to
abbrev After : (Text → VariableUse) → Environment → List Module → Environment → HandChange → Environment → Type 0
After uses b live e c d = IsStart uses d × (loaded_in d ≡ loaded_in b) × Holds uses d live (changed c e)

-- ---- each use

set_holds : MovesPreserve → (uses : Text → VariableUse) (b e : Environment) (live : List Module) (c : HandChange) → IsStart uses b → IsInOrder uses e → IsStartWith uses b live e
    → is_editable c.variable ≡ true → Stands uses (changed c b) (changed c e) live c.variable → After uses b live e c (changed c b)
set_holds preserve uses b e live c s o w f here =
    assembled preserve uses b e (changed c b) (changed c e) live c.variable s o w
    (around_edit uses b e (changed c b) live c w f (path_edits_variable b (changed c b) c.variable (set_edits b c.variable c.value f).0).0)
    (λ g. here)

pub none_pushed : (uses : Text → VariableUse) (b e : Environment) (live : List Module) (c : HandChange) → IsStart uses b → IsInOrder uses e → IsStartWith uses b live e
    → is_editable c.variable ≡ true → uses c.variable ≡ Stacked → lookup e (stack_name c.variable) ≡ None → HasNoStack b c.variable live
none_pushed uses b e live c s o w f u k =
    let p = list_in_order b s.order.loaded in
    let q = list_in_order e o.loaded in
    let h : HasStack b e c.variable (live_pushes c.variable live) = subst (λ (y : VariableUse). HasVariable y b c.variable live e) u (w.variables c.variable f) in
    no_stack (names_of q.0) (names_of p.0) b e c.variable live q.2.names p.2.names (o.stacks c.variable q.0 f u q.1) (s.order.stacks c.variable p.0 f u p.1) h k

stack_holds : MovesPreserve → (uses : Text → VariableUse) (b e : Environment) (live : List Module) (c : HandChange) → IsStart uses b → IsInOrder uses e → IsStartWith uses b live e
    → is_editable c.variable ≡ true → uses c.variable ≡ Stacked → lookup e (stack_name c.variable) ≡ None → After uses b live e c (changed c b)
stack_holds preserve uses b e live c s o w f u k =
    let h : HasStack b e c.variable (live_pushes c.variable live) = subst (λ (y : VariableUse). HasVariable y b c.variable live e) u (w.variables c.variable f) in
    set_holds preserve uses b e live c s o w f (stacked_stands uses b e live c f u (none_pushed uses b e live c s o w f u k) k h.counters)

path_holds : MovesPreserve → (uses : Text → VariableUse) (b e : Environment) (live : List Module) (c : HandChange) (d : ℕ) → IsStart uses b → IsInOrder uses e → IsStartWith uses b live e
    → is_editable c.variable ≡ true → uses c.variable ≡ Pathed d → KeepsLiveElements live (changed c e) c.variable d
    → After uses b live e c (with_path b c.variable d (path_after b e live c d))
path_holds preserve uses b e live c d s o w f u k =
    let h : HasPath b e c.variable d (live_adds c.variable live) = subst (λ (y : VariableUse). HasVariable y b c.variable live e) u (w.variables c.variable f) in
    let edits = path_edits b c.variable d (path_after b e live c d) f in
    assembled preserve uses b e (with_path b c.variable d (path_after b e live c d)) (changed c e) live c.variable s o w
    (around_edit uses b e (with_path b c.variable d (path_after b e live c d)) live c w f (path_edits_variable b (with_path b c.variable d (path_after b e live c d)) c.variable edits).0)
    (λ g. path_stands uses b e live c d f u h k edits)

by_use : MovesPreserve → (uses : Text → VariableUse) (b e : Environment) (live : List Module) (c : HandChange) (y : VariableUse) → IsStart uses b → IsInOrder uses e → IsStartWith uses b live e
    → is_editable c.variable ≡ true → uses c.variable ≡ y → MayChange (Some y) live e c → After uses b live e c (start_by_use (Some y) live b e c)
by_use preserve uses b e live c Untouched s o w f u h =
    set_holds preserve uses b e live c s o w f
    (untouched_stands uses b e live c f u (subst (λ (y : VariableUse). HasVariable y b c.variable live e) u (w.variables c.variable f)))
by_use preserve uses b e live c (Fixed value) s o w f u h = absurd h
by_use preserve uses b e live c Absent s o w f u h = absurd h
by_use preserve uses b e live c (Pathed d) s o w f u h = path_holds preserve uses b e live c d s o w f u h
by_use preserve uses b e live c Stacked s o w f u h = stack_holds preserve uses b e live c s o w f u h

by_role : MovesPreserve → (uses : Text → VariableUse) (b e : Environment) (live : List Module) (c : HandChange) (p : VariableRole) → IsStart uses b → IsInOrder uses e → IsStartWith uses b live e
    → role_of c.variable ≡ p → IsNameOf c.variable p → MayChange (use_of_role uses p) live e c → After uses b live e c (start_by_use (use_of_role uses p) live b e c)
by_role preserve uses b e live c (Variable v) s o w r n h =
    let f : is_editable c.variable ≡ true = subst (λ (q : Text). is_editable q ≡ true) (sym n.1) n.0 in
    by_use preserve uses b e live c (uses v) s o w f (ap uses n.1) h
by_role preserve uses b e live c (Counters v) s o w r n h = absurd h
by_role preserve uses b e live c (Stack v) s o w r n h = absurd h
by_role preserve uses b e live c LoadedNames s o w r n h = absurd h
by_role preserve uses b e live c LoadedFiles s o w r n h = absurd h
by_role preserve uses b e live c LoadedConflicts s o w r n h = absurd h
by_role preserve uses b e live c LoadedPrereqs s o w r n h = absurd h
by_role preserve uses b e live c Other s o w r n h =
    assembled preserve uses b e (changed c b) (changed c e) live c.variable s o w (around_other uses b e live c w r)
    (λ f. let z : Variable c.variable ≡ Other = sym (variable_place c.variable f) ∙ r in absurd cc)

pub one_change : MovesPreserve → OneChangeHolds
one_change preserve uses b e live c s o w h =
    let a = by_role preserve uses b e live c (role_of c.variable) s o w refl (name_of_role c.variable) h in
    record { begins = a.0; loaded = a.1; holds = a.2 }
