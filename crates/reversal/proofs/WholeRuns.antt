-- Whole runs, and what follows from what each step preserves.
use Rattle.std.proofs.Common.{◌≡◌, ℕ, true, List, [], ◌∷◌, ◌++◌, refl, sym, ap, ◌∙◌, subst, Some, Ok}
use Rattle.std.specs.Prelude.{bytes_eq}
use Rattle.std.proofs.lemmas.Option.{same_Some, none-some}
use Rattle.envvars.specs.Texts.{Text}
use Rattle.envvars.specs.Names.{share_name, stack_name}
use Rattle.envvars.specs.Environment.{Environment, lookup}
use Rattle.envvars.proofs.TextLemmas.{same_text}
use Rattle.envvars.proofs.EnvLemmas.{same_environment}
use Rattle.envstate.specs.paths.PathVariables.{path_in}
use Rattle.envstate.specs.paths.PathOrder.{IsPathInOrder}
use Rattle.envstate.proofs.paths.PathLemmas.{IsPathStartWith-start, IsPathStartWith-restored}
use Rattle.envstate.specs.stacks.StackRuns.{start_with_pushes}
use Rattle.envstate.specs.stacks.StackVariables.{stack_in, IsStackInOrder}
use Rattle.envstate.specs.loaded_list.LoadedTexts.{names_variable, files_variable, conflicts_variable, prereqs_variable}
use Rattle.envstate.specs.loaded_list.Loaded.{Entry, names_of, loaded_in}
use Rattle.envstate.specs.Roles.{VariableRole, role_of, is_editable, IsNameOf}
use Rattle.envstate.specs.Roles.VariableRole.{Variable, Counters, Stack, LoadedNames, LoadedFiles, LoadedConflicts}
use Rattle.envstate.specs.Roles.VariableRole.{LoadedPrereqs, Other}
use Rattle.envstate.proofs.RoleLemmas.{name_of_role}
use Rattle.envstate.proofs.StateLemmas.{start_of, one_path, one_stack, one_list, list_in_order}
use Rattle.modulefile.specs.Moves.{Module, Move, Loads, Unloads, moved, MovesReach}
use Rattle.reversal.specs.VariableUses.{VariableUse, Untouched, Fixed, Absent, Pathed, Stacked}
use Rattle.reversal.specs.Live.{live_adds, entries_over}
use Rattle.reversal.specs.Starts.{IsInOrder, IsStart, HasValue, HasVariable, IsStartWith}
use Rattle.reversal.specs.Runs.{live_named, live_after, without_live, Undoes, AreReversibleTogether, AreReversible}
use Rattle.reversal.specs.Laws.{Holds, RunsReturn, EachMoveHolds, MovesPreserve}
use Rattle.reversal.proofs.OneVariable.{by_test, path_state}
use Rattle.reversal.proofs.LiveModules.{order_refl, order_none}
use Rattle.reversal.proofs.Steps.{Kept, Held, Begun, same_unload, kept_load, kept_unload}

begun : (uses : Text → VariableUse) (b : Environment) → IsStart uses b → (xs : List Entry) × Begun uses b xs
begun uses b s = let p = list_in_order b s.order.loaded in (p.0, record { start = s; list = p.1; sound = p.2 })

-- what steps preserve, from its parts and into them

kept_from : (uses : Text → VariableUse) (b e : Environment) (xs : List Entry) (live : List Module)
    → loaded_in b ≡ Some xs → IsInOrder uses e → IsStartWith uses b live e → AreReversibleTogether uses live
    → Kept uses b xs live e
kept_from uses b e xs live l o s a = record {
  loaded = o.loaded;
  list = s.entries xs l;
  held = λ w f. go w f (uses w) refl (s.variables w f);
  others = s.others;
  fit = a;
}
  where
    go : (w : Text) → is_editable w ≡ true → (y : VariableUse) → uses w ≡ y → HasVariable y b w live e → Held y b w (names_of (entries_over xs live)) live e
    go w f Untouched q h = h
    go w f (Fixed k) q h = h
    go w f Absent q h = h
    go w f (Pathed d) q h = record { order = o.paths w d f q; state = h.state; stack = h.stack }
    go w f Stacked q h = record {
      base = h.base;
      found = h.found;
      pushes = h.pushes;
      order = h.order;
      at_ = record { order = o.stacks w (entries_over xs live) f q (s.entries xs l); state = h.state; counters = h.counters };
    }

in_order : (uses : Text → VariableUse) (b e : Environment) (xs : List Entry) (live : List Module) → Kept uses b xs live e → IsInOrder uses e
in_order uses b e xs live k = record {
  loaded = k.loaded;
  paths = λ v d f q. path_of v d (subst (λ (y : VariableUse). Held y b v (names_of (entries_over xs live)) live e) q (k.held v f));
  stacks = λ v ys f q l. subst (λ (z : List Entry). IsStackInOrder (names_of z) e v) (same_Some (entries_over xs live) ys (sym k.list ∙ l))
      (stack_of v (subst (λ (y : VariableUse). Held y b v (names_of (entries_over xs live)) live e) q (k.held v f)));
}
  where
    path_of : (v : Text) (d : ℕ) → Held (Pathed d) b v (names_of (entries_over xs live)) live e → IsPathInOrder e v d
    path_of v d h = h.order

    stack_of : (v : Text) → Held Stacked b v (names_of (entries_over xs live)) live e → IsStackInOrder (names_of (entries_over xs live)) e v
    stack_of v h = h.at_.order

start_with_live : (uses : Text → VariableUse) (b e : Environment) (xs : List Entry) (live : List Module) → loaded_in b ≡ Some xs → Kept uses b xs live e → IsStartWith uses b live e
start_with_live uses b e xs live l k = record {
  entries = λ ys q. subst (λ (z : List Entry). loaded_in e ≡ Some (entries_over z live)) (same_Some xs ys (sym l ∙ q)) k.list;
  variables = λ v f. go v (uses v) (k.held v f);
  others = k.others;
}
  where
    go : (v : Text) (y : VariableUse) → Held y b v (names_of (entries_over xs live)) live e → HasVariable y b v live e
    go v Untouched h = h
    go v (Fixed k) h = h
    go v Absent h = h
    go v (Pathed d) h = record { state = h.state; stack = h.stack }
    go v Stacked h = record { base = h.base; found = h.found; pushes = h.pushes; order = h.order; state = h.at_.state; counters = h.at_.counters }

-- the start is the start with no live module

kept_start : (uses : Text → VariableUse) (b : Environment) (xs : List Entry) → Begun uses b xs → Kept uses b xs [] b
kept_start uses b xs g = record {
  loaded = g.start.order.loaded;
  list = g.list;
  held = λ w f. go w f (uses w) refl;
  others = λ q h. refl;
  fit = tt;
}
  where
    go : (w : Text) → is_editable w ≡ true → (y : VariableUse) → uses w ≡ y → Held y b w (names_of xs) [] b
    go w f Untouched q = record { value = refl; counters = refl; stack = refl }
    go w f (Fixed k) q = record { value = refl; counters = refl; stack = refl }
    go w f Absent q = record { value = refl; counters = refl; stack = refl }
    go w f (Pathed d) q = record { order = g.start.order.paths w d f q; state = IsPathStartWith-start (path_in b w d) (path_state b w d); stack = refl }
    go w f Stacked q =
        let order = g.start.order.stacks w xs f q g.list in
        let s = start_of (names_of xs) b w g.sound.names order in
        record { base = s.0; found = s.1.found; pushes = []; order = order_refl []; at_ = record { order = order; state = s.1.found; counters = refl } }

-- with no live module it is the start

back : (uses : Text → VariableUse) (b e : Environment) (xs : List Entry) → Begun uses b xs → Kept uses b xs [] e → e ≡ b
back uses b e xs g k = same_environment e b (λ n. go n (role_of n) refl (name_of_role n))
  where
    cell : (v : Text) → is_editable v ≡ true → (y : VariableUse) → uses v ≡ y → Held y b v (names_of xs) [] e → HasValue b e v (lookup b v)
    cell v f Untouched q h = h
    cell v f (Fixed y) q h = h
    cell v f Absent q h = h
    cell v f (Pathed d) q h =
        let p = one_path e b v d h.order (g.start.order.paths v d f q) (IsPathStartWith-restored (path_in b v d) (path_in e v d) (live_adds v []) h.state (λ x. refl)) in
        record { value = p.elements; counters = p.counters; stack = h.stack }
    cell v f Stacked q h =
        let z : h.pushes ≡ [] = order_none h.pushes [] h.order refl in
        let s : stack_in e v ≡ stack_in b v = h.at_.state ∙ ap (λ (ps : List (Text × Text)). Some (start_with_pushes h.base ps)) z ∙ sym h.found in
        let p = one_stack (names_of xs) (names_of xs) e b v g.sound.names g.sound.names h.at_.order (g.start.order.stacks v xs f q g.list) s in
        record { value = p.value; counters = h.at_.counters; stack = p.stack }

    texts : (v : Text) → is_editable v ≡ true → HasValue b e v (lookup b v)
    texts v f = cell v f (uses v) refl (k.held v f)

    list : (lookup e names_variable ≡ lookup b names_variable) × (lookup e files_variable ≡ lookup b files_variable)
        × (lookup e conflicts_variable ≡ lookup b conflicts_variable)
        × (lookup e prereqs_variable ≡ lookup b prereqs_variable)
    list = let p = one_list e b k.loaded g.start.order.loaded (k.list ∙ sym g.list) in (p.names, p.files, p.conflicts, p.prereqs)

    at : (n m : Text) → n ≡ m → lookup e m ≡ lookup b m → lookup e n ≡ lookup b n
    at n m q h = subst (λ (t : Text). lookup e t ≡ lookup b t) (sym q) h

    go : (n : Text) (p : VariableRole) → role_of n ≡ p → IsNameOf n (role_of n) → lookup e n ≡ lookup b n
    go n (Variable v) q i = let j : IsNameOf n (Variable v) = subst (IsNameOf n) q i in at n v j.1 (texts v j.0).value
    go n (Counters v) q i = let j : IsNameOf n (Counters v) = subst (IsNameOf n) q i in at n (share_name v) j.1 (texts v j.0).counters
    go n (Stack v) q i = let j : IsNameOf n (Stack v) = subst (IsNameOf n) q i in at n (stack_name v) j.1 (texts v j.0).stack
    go n LoadedNames q i = let j : IsNameOf n LoadedNames = subst (IsNameOf n) q i in at n names_variable j list.0
    go n LoadedFiles q i = let j : IsNameOf n LoadedFiles = subst (IsNameOf n) q i in at n files_variable j list.1
    go n LoadedConflicts q i = let j : IsNameOf n LoadedConflicts = subst (IsNameOf n) q i in at n conflicts_variable j list.2
    go n LoadedPrereqs q i = let j : IsNameOf n LoadedPrereqs = subst (IsNameOf n) q i in at n prereqs_variable j list.3
    go n Other q i = k.others n q

holds_of : (uses : Text → VariableUse) (b e : Environment) (xs : List Entry) (live : List Module) → Begun uses b xs → Kept uses b xs live e → Holds uses b live e
holds_of uses b e xs live g k = record {
  order = in_order uses b e xs live k;
  start_with_live = start_with_live uses b e xs live g.list k;
  returned = λ h. back uses b e xs g (subst (λ (l : List Module). Kept uses b xs l e) h k);
}

-- An unload is by the name and the records alone: so it is one of the live module.

same_named : (n : Text) (live : List Module) (m : Module) → live_named n live ≡ Some m → m.name ≡ n
same_named n [] m h = absurd (none-some m h)
same_named n (k ∷ live) m h = by_test (bytes_eq n k.name) _
    (λ t. let q : k ≡ m = same_Some k m (rw t at h) in ap (λ (y : Module). y.name) (sym q) ∙ sym (same_text n k.name t))
    (λ t. same_named n live m (rw t at h))

kept_undone : (uses : Text → VariableUse) (b : Environment) (xs : List Entry) (live : List Module) (m : Module) (old new : Environment) → Begun uses b xs → Kept uses b xs live old → Undoes live m
    → moved (Unloads m) old ≡ Ok new → Kept uses b xs (without_live m.name live) new
kept_undone uses b xs live m old new g k u h =
    let n : u.loaded.name ≡ m.name = same_named m.name live u.loaded u.found in
    subst (λ (t : Text). Kept uses b xs (without_live t live) new) n
    (kept_unload uses b xs live u.loaded m.records old new g k (ap (λ (t : Text). live_named t live) n ∙ u.found) u.alike (same_unload m u.loaded.name old n ∙ h))

-- runs

kept_run : (uses : Text → VariableUse) (b : Environment) (xs : List Entry) (live : List Module) (ms : List Move)
    (old new : Environment) → Begun uses b xs → Kept uses b xs live old → AreReversible uses live ms
    → MovesReach ms old new
    → Kept uses b xs (live_after live ms) new
kept_run uses b xs live [] old new g k r l = subst (Kept uses b xs live) (sym l) k
kept_run uses b xs live (Loads m ∷ ms) old new g k r l = kept_run uses b xs (m ∷ live) ms l.1.0 new g (kept_load uses b xs live m old l.1.0 g k r.0 l.0 l.1.1) r.1 l.1.2
kept_run uses b xs live (Unloads m ∷ ms) old new g k r l = kept_run uses b xs (without_live m.name live) ms l.1.0 new g (kept_undone uses b xs live m old l.1.0 g k r.0 l.1.1) r.1 l.1.2

pub runs_return : RunsReturn
runs_return uses b e ms s r l =
    let g = begun uses b s in
    holds_of uses b e g.0 (live_after [] ms) g.1 (kept_run uses b g.0 [] ms b e g.1 (kept_start uses b g.0 g.1) r l)

reach_parts : (done rest : List Move) (old new : Environment) → MovesReach (done ++ rest) old new → (mid : Environment) × MovesReach done old mid × MovesReach rest mid new
reach_parts [] rest old new l = (old, refl, l)
reach_parts (m ∷ done) rest old new l = let p = reach_parts done rest l.1.0 new l.1.2 in (p.0, (l.0, (l.1.0, l.1.1, p.1)), p.2)

pub front_reversible : (uses : Text → VariableUse) (live : List Module) (done rest : List Move) → AreReversible uses live (done ++ rest) → AreReversible uses live done
front_reversible uses live [] rest r = tt
front_reversible uses live (Loads m ∷ done) rest r = (r.0, front_reversible uses (m ∷ live) done rest r.1)
front_reversible uses live (Unloads m ∷ done) rest r = (r.0, front_reversible uses (without_live m.name live) done rest r.1)

pub each_on_the_way : EachMoveHolds
each_on_the_way uses b e done rest s r l =
    let p = reach_parts done rest b e l in
    (p.0, p.1, p.2, runs_return uses b p.0 done s (front_reversible uses [] done rest r) p.1)

pub steps_keep : MovesPreserve
steps_keep uses b old new live ms s o st a r l =
    let g = begun uses b s in
    let k = kept_run uses b g.0 live ms old new g.1 (kept_from uses b old g.0 live g.1.list o st a) r l in
    (holds_of uses b new g.0 (live_after live ms) g.1 k, k.fit)
