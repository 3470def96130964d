-- Environments by what was written into them, and moves over them by computation.
use Rattle.std.proofs.Common.{◌≡◌, ℕ, Bool, true, false, cond, List, [], ◌∷◌, ◌++◌, refl, sym, ap, ◌∙◌, subst, Option}
use Rattle.std.proofs.Common.{Some, None, Result, Ok}
use Rattle.std.specs.Prelude.{◌&&◌, not, bytes_eq}
use Rattle.std.specs.List.{list_any}
use Rattle.std.specs.FinMap as finite
use Rattle.std.proofs.lemmas.Bool.{false≢true}
use Rattle.std.proofs.lemmas.Option.{same_Some, none-some}
use Rattle.envvars.specs.Texts.{Text, has}
use Rattle.envvars.specs.Names.{share_name, stack_name}
use Rattle.envvars.specs.Environment.{Environment, lookup, with_value}
use Rattle.envvars.specs.Changes.{NewValue}
use Rattle.envvars.specs.Reasons.{EnvReason, unless}
use Rattle.envvars.proofs.EnvLemmas.{lookup-with_value}
use Rattle.envvars.proofs.EditLemmas.{not_is}
use Rattle.envvars.proofs.TableLemmas.{nothing_set}
use Rattle.envstate.specs.paths.Paths.{PathState, add_all, drop_all}
use Rattle.envstate.specs.paths.PathTexts.{state_of, elements_text, counters_as_text}
use Rattle.envstate.specs.paths.PathVariables.{path_in, path_reason, counters_fit, with_path, written_path, added_path}
use Rattle.envstate.specs.paths.PathVariables.{dropped_path}
use Rattle.envstate.specs.declared.paths.adding.End.{End}
use Rattle.envstate.specs.declared.paths.adding.End.TheVariants as ends
use Rattle.envstate.specs.stacks.Stacks.{StackState, holds, push, pop}
use Rattle.envstate.specs.stacks.StackTexts.{items_in, stack_text}
use Rattle.envstate.specs.stacks.StackVariables.{stack_from, stack_in, with_stack, push_reason, pop_reason, pushed_on}
use Rattle.envstate.specs.stacks.StackVariables.{pushed_value, popped_from, popped_value}
use Rattle.envstate.specs.loaded_list.LoadedTexts.{names_variable, files_variable, conflicts_variable, prereqs_variable}
use Rattle.envstate.specs.loaded_list.Loaded.{Entry, names_of, names_text, files_text, conflicts_text, prereqs_text, entries_in}
use Rattle.envstate.specs.loaded_list.Loaded.{loaded_in, with_loaded, can_be_added, with_conflicts_once, without_entry, added_to}
use Rattle.envstate.specs.loaded_list.Loaded.{added_loaded, dropped_from, dropped_loaded}
use Rattle.modulefile.specs.Records.{Record, Set, Unset, Push, Path, adds_elements}
use Rattle.modulefile.specs.declared.records.PathEdit.{PathEdit}
use Rattle.modulefile.specs.declared.records.PathEdit.TheVariants.{Front, Back, Remove}
use Rattle.modulefile.specs.Judgments.{RecordReason, record_reason}
use Rattle.modulefile.specs.Effects.{Mode, load, unload, path_edited, edited, edit_outcome, permitted, effect, effects}
use Rattle.modulefile.specs.Effects.{and_then}
use Rattle.modulefile.specs.Moves.{Move, Loads, Unloads, entry_of, module_of_move, mode_of, entry_moved, moved, Fits}
use Rattle.modulefile.specs.Moves.{MovesReach}

abbrev as_ok : Environment → Result Environment EnvReason
as_ok e = Ok e

-- what was written, the newest first
abbrev pub History : Type 0
History = List NewValue

abbrev pub env : History → Environment
env [] = finite.empty
env (c ∷ h) = with_value (env h) c.0 c.1

abbrev pub seen : History → Text → Option Text
seen [] q = None
seen (c ∷ h) q = cond (bytes_eq q c.0) c.1 (seen h q)

pub lookup_seen : (h : History) (q : Text) → lookup (env h) q ≡ seen h q
lookup_seen [] q = nothing_set q
lookup_seen (c ∷ h) q = lookup-with_value (env h) c.0 c.1 q ∙ ap (cond (bytes_eq q c.0) c.1) (lookup_seen h q)

-- the outcome of the edit is the environment of this history, where there is one
abbrev pub Corresponds : Option History → Result Environment EnvReason → Type 0
Corresponds None r = Unit {0}
Corresponds (Some h) r = r ≡ Ok (env h)

abbrev pub unless_at : Option EnvReason → Option History → Option History
unless_at None o = o
unless_at (Some r) o = None

unless_corresponds : (r : Option EnvReason) (o : Option History) (out : Result Environment EnvReason) → Corresponds o out → Corresponds (unless_at r o) (unless r out)
unless_corresponds None o out c = c
unless_corresponds (Some r) o out c = tt

abbrev pub when : Bool → History → Option History
when b h = cond b (Some h) None

-- paths

abbrev pub path_at : History → Text → ℕ → PathState
path_at h name delim = state_of delim (seen h name) (seen h (share_name name))

pub path_seen : (h : History) (name : Text) (delim : ℕ) → path_in (env h) name delim ≡ path_at h name delim
path_seen h name delim =
    ap (λ (t : Option Text). state_of delim t (lookup (env h) (share_name name))) (lookup_seen h name)
    ∙ ap (state_of delim (seen h name)) (lookup_seen h (share_name name))

abbrev pub path_written : History → Text → ℕ → PathState → History
path_written h name delim s = (share_name name, counters_as_text s) ∷ (name, elements_text delim s.elements) ∷ h

abbrev pub added_at : History → Text → ℕ → List Text → End → Option History
added_at h name delim xs end =
    unless_at (path_reason name delim xs) (when (counters_fit (add_all (path_at h name delim) xs end)) (path_written h name delim (add_all (path_at h name delim) xs end)))

fitting : (h : History) (name : Text) (delim : ℕ) (s : PathState) (b : Bool) → counters_fit s ≡ b → Corresponds (when b (path_written h name delim s)) (written_path (env h) name delim s)
fitting h name delim s true q = rw q refl
fitting h name delim s false q = tt

added_corresponds : (h : History) (name : Text) (delim : ℕ) (xs : List Text) (end : End) → Corresponds (added_at h name delim xs end) (added_path (env h) name delim xs end)
added_corresponds h name delim xs end =
    subst (λ (s : PathState). Corresponds (added_at h name delim xs end) (unless (path_reason name delim xs) (written_path (env h) name delim (add_all s xs end)))) (sym (path_seen h name delim))
    (unless_corresponds (path_reason name delim xs) (when (counters_fit (add_all (path_at h name delim) xs end)) (path_written h name delim (add_all (path_at h name delim) xs end)))
    (written_path (env h) name delim (add_all (path_at h name delim) xs end))
    (fitting h name delim (add_all (path_at h name delim) xs end) (counters_fit (add_all (path_at h name delim) xs end)) refl))

abbrev pub dropped_at : History → Text → ℕ → List Text → Option History
dropped_at h name delim xs = unless_at (path_reason name delim xs) (Some (path_written h name delim (drop_all (path_at h name delim) xs)))

dropped_corresponds : (h : History) (name : Text) (delim : ℕ) (xs : List Text) → Corresponds (dropped_at h name delim xs) (dropped_path (env h) name delim xs)
dropped_corresponds h name delim xs =
    subst (λ (s : PathState). Corresponds (dropped_at h name delim xs) (unless (path_reason name delim xs) (Ok (with_path (env h) name delim (drop_all s xs))))) (sym (path_seen h name delim))
    (unless_corresponds (path_reason name delim xs) (Some
    (path_written h name delim (drop_all (path_at h name delim) xs)))
    (Ok (with_path (env h) name delim (drop_all (path_at h name delim) xs))) refl)

-- stacks

abbrev pub stack_at : History → Text → Option StackState
stack_at h name = stack_from (items_in (seen h (stack_name name))) (seen h name)

stack_seen : (h : History) (name : Text) → stack_in (env h) name ≡ stack_at h name
stack_seen h name =
    ap (λ (t : Option Text). stack_from (items_in t) (lookup (env h) name)) (lookup_seen h (stack_name name))
    ∙ ap (stack_from (items_in (seen h (stack_name name)))) (lookup_seen h name)

abbrev pub stack_written : History → Text → StackState → History
stack_written h name s = (stack_name name, stack_text s.items) ∷ (name, s.value) ∷ h

abbrev pub push_on : History → Text → Text → Text → Option StackState → Option History
push_on h name owner value None = None
push_on h name owner value (Some s) = Some (stack_written h name (push s owner value))

push_corresponds : (h : History) (name owner value : Text) (s : Option StackState) → Corresponds (push_on h name owner value s) (pushed_on (env h) name owner value s)
push_corresponds h name owner value None = tt
push_corresponds h name owner value (Some s) = refl

abbrev pub pushed_at : History → Text → Text → Text → Option History
pushed_at h name owner value = unless_at (push_reason name owner value) (push_on h name owner value (stack_at h name))

pushed_corresponds : (h : History) (name owner value : Text) → Corresponds (pushed_at h name owner value) (pushed_value (env h) name owner value)
pushed_corresponds h name owner value =
    subst (λ (s : Option StackState). Corresponds (pushed_at h name owner value) (unless (push_reason name owner value) (pushed_on (env h) name owner value s))) (sym (stack_seen h name))
    (unless_corresponds (push_reason name owner value) (push_on h name owner value (stack_at h name))
    (pushed_on (env h) name owner value (stack_at h name)) (push_corresponds h name owner value (stack_at h name)))

abbrev pub pop_from : History → Text → Text → Option StackState → Option History
pop_from h name owner None = None
pop_from h name owner (Some s) = Some (cond (holds owner s.items) (stack_written h name (pop s owner)) h)

pop_corresponds : (h : History) (name owner : Text) (s : Option StackState) → Corresponds (pop_from h name owner s) (popped_from (env h) name owner s)
pop_corresponds h name owner None = tt
pop_corresponds h name owner (Some s) = go (holds owner s.items) refl
  where
    go : (b : Bool) → holds owner s.items ≡ b → cond (holds owner s.items) (Ok (with_stack (env h) name (pop s owner)))
        (Ok (env h)) ≡ as_ok (env (cond (holds owner s.items) (stack_written h name (pop s owner)) h))
    go true q = rw q refl
    go false q = rw q refl

abbrev pub popped_at : History → Text → Text → Option History
popped_at h name owner = unless_at (pop_reason name owner) (pop_from h name owner (stack_at h name))

popped_corresponds : (h : History) (name owner : Text) → Corresponds (popped_at h name owner) (popped_value (env h) name owner)
popped_corresponds h name owner =
    subst (λ (s : Option StackState). Corresponds (popped_at h name owner) (unless (pop_reason name owner) (popped_from (env h) name owner s))) (sym (stack_seen h name))
    (unless_corresponds (pop_reason name owner) (pop_from h name owner (stack_at h name)) (popped_from (env h) name owner (stack_at h name)) (pop_corresponds h name owner (stack_at h name)))

-- the loaded list

abbrev pub list_at : History → Option (List Entry)
list_at h = entries_in (seen h names_variable) (seen h files_variable) (seen h conflicts_variable) (seen h prereqs_variable)

pub list_seen : (h : History) → loaded_in (env h) ≡ list_at h
list_seen h =
    ap (λ (t : Option Text). entries_in t (lookup (env h) files_variable) (lookup (env h) conflicts_variable) (lookup (env h) prereqs_variable)) (lookup_seen h names_variable)
    ∙ ap (λ (t : Option Text). entries_in (seen h names_variable) t (lookup (env h) conflicts_variable) (lookup (env h) prereqs_variable)) (lookup_seen h files_variable)
    ∙ ap (λ (t : Option Text). entries_in (seen h names_variable) (seen h files_variable) t (lookup (env h) prereqs_variable)) (lookup_seen h conflicts_variable)
    ∙ ap (entries_in (seen h names_variable) (seen h files_variable) (seen h conflicts_variable)) (lookup_seen h prereqs_variable)

abbrev pub list_written : History → List Entry → History
list_written h xs = (prereqs_variable, prereqs_text xs) ∷ (conflicts_variable, conflicts_text xs) ∷ (files_variable, files_text xs) ∷ (names_variable, names_text xs) ∷ h

abbrev pub join_at : History → Entry → Option (List Entry) → Option History
join_at h x None = None
join_at h x (Some xs) = when (can_be_added xs x) (list_written h (xs ++ with_conflicts_once x ∷ []))

join_corresponds : (h : History) (x : Entry) (o : Option (List Entry)) → Corresponds (join_at h x o) (added_to (env h) x o)
join_corresponds h x None = tt
join_corresponds h x (Some xs) = go (can_be_added xs x) refl
  where
    go : (b : Bool) → can_be_added xs x ≡ b → Corresponds (when b (list_written h (xs ++ with_conflicts_once x ∷ []))) (added_to (env h) x (Some xs))
    go true q = rw q refl
    go false q = tt

joined_corresponds : (h : History) (x : Entry) → Corresponds (join_at h x (list_at h)) (added_loaded (env h) x)
joined_corresponds h x = subst (λ (o : Option (List Entry)). Corresponds (join_at h x (list_at h)) (added_to (env h) x o)) (sym (list_seen h)) (join_corresponds h x (list_at h))

abbrev pub leave_at : History → Text → Option (List Entry) → Option History
leave_at h name None = None
leave_at h name (Some xs) = Some (cond (has name (names_of xs)) (list_written h (without_entry name xs)) h)

leave_corresponds : (h : History) (name : Text) (o : Option (List Entry)) → Corresponds (leave_at h name o) (dropped_from (env h) name o)
leave_corresponds h name None = tt
leave_corresponds h name (Some xs) = go (has name (names_of xs)) refl
  where
    go : (b : Bool) → has name (names_of xs) ≡ b → cond (has name (names_of xs))
        (Ok (with_loaded (env h) (without_entry name xs))) (Ok (env h)) ≡ as_ok
        (env (cond (has name (names_of xs)) (list_written h (without_entry name xs)) h))
    go true q = rw q refl
    go false q = rw q refl

left_corresponds : (h : History) (name : Text) → Corresponds (leave_at h name (list_at h)) (dropped_loaded (env h) name)
left_corresponds h name = subst (λ (o : Option (List Entry)). Corresponds (leave_at h name (list_at h)) (dropped_from (env h) name o)) (sym (list_seen h)) (leave_corresponds h name (list_at h))

-- records

abbrev pub path_edited_at : PathEdit → ℕ → Text → List Text → History → Option History
path_edited_at Front delim var xs h = added_at h var delim xs ends.Front
path_edited_at Back delim var xs h = added_at h var delim xs ends.Back
path_edited_at Remove delim var xs h = dropped_at h var delim xs

path_corresponds : (edit : PathEdit) (delim : ℕ) (var : Text) (xs : List Text) (h : History) → Corresponds (path_edited_at edit delim var xs h) (path_edited edit delim var xs (env h))
path_corresponds Front delim var xs h = added_corresponds h var delim xs ends.Front
path_corresponds Back delim var xs h = added_corresponds h var delim xs ends.Back
path_corresponds Remove delim var xs h = dropped_corresponds h var delim xs

undone_corresponds : (b : Bool) (delim : ℕ) (var : Text) (xs : List Text) (h : History)
    → Corresponds (cond b (dropped_at h var delim xs) (Some h)) (cond b (dropped_path (env h) var delim xs) (Ok (env h)))
undone_corresponds true delim var xs h = dropped_corresponds h var delim xs
undone_corresponds false delim var xs h = refl

-- Of other kinds no example has a record: what these come to isn't computed.
abbrev pub edited_at : Mode → Text → Record → History → Option History
edited_at load owner (Set var value) h = Some ((var, Some value) ∷ h)
edited_at load owner (Unset var value) h = Some ((var, None) ∷ h)
edited_at load owner (Push var value) h = pushed_at h var owner value
edited_at load owner (Path edit delim var xs) h = path_edited_at edit delim var xs h
edited_at unload owner (Set var value) h = Some ((var, None) ∷ h)
edited_at unload owner (Unset var None) h = Some h
edited_at unload owner (Unset var (Some value)) h = Some ((var, Some value) ∷ h)
edited_at unload owner (Push var value) h = popped_at h var owner
edited_at unload owner (Path edit delim var xs) h = cond (adds_elements edit) (dropped_at h var delim xs) (Some h)
edited_at mode owner r h = None

edited_corresponds : (mode : Mode) (owner : Text) (r : Record) (h : History) → Corresponds (edited_at mode owner r h) (edited mode owner r (env h))
edited_corresponds load owner (Set var value) h = refl
edited_corresponds load owner (Unset var value) h = refl
edited_corresponds load owner (Push var value) h = pushed_corresponds h var owner value
edited_corresponds load owner (Path edit delim var xs) h = path_corresponds edit delim var xs h
edited_corresponds unload owner (Set var value) h = refl
edited_corresponds unload owner (Unset var None) h = refl
edited_corresponds unload owner (Unset var (Some value)) h = refl
edited_corresponds unload owner (Push var value) h = popped_corresponds h var owner
edited_corresponds unload owner (Path edit delim var xs) h = undone_corresponds (adds_elements edit) delim var xs h
edited_corresponds mode owner r h = tt

-- the same of effects and moves
abbrev pub Corresponds2 : Option History → Result Environment RecordReason → Type 0
Corresponds2 None r = Unit {0}
Corresponds2 (Some h) r = r ≡ Ok (env h)

edit_outcome_corresponds : (o : Option History) (r : Result Environment EnvReason) → Corresponds o r → Corresponds2 o (edit_outcome r)
edit_outcome_corresponds None r c = tt
edit_outcome_corresponds (Some h) r c = ap edit_outcome c

abbrev pub permitted_at : Option RecordReason → Option History → Option History
permitted_at None o = o
permitted_at (Some r) o = None

permitted_corresponds : (r : Option RecordReason) (o : Option History) (out : Result Environment RecordReason) → Corresponds2 o out → Corresponds2 (permitted_at r o) (permitted r out)
permitted_corresponds None o out c = c
permitted_corresponds (Some r) o out c = tt

abbrev pub effect_at : Mode → Text → Record → History → Option History
effect_at mode owner r h = permitted_at (record_reason r) (edited_at mode owner r h)

effect_corresponds : (mode : Mode) (owner : Text) (r : Record) (h : History) → Corresponds2 (effect_at mode owner r h) (effect mode owner r (env h))
effect_corresponds mode owner r h =
    permitted_corresponds (record_reason r) (edited_at mode owner r h) (edit_outcome (edited mode owner r (env h)))
    (edit_outcome_corresponds (edited_at mode owner r h) (edited mode owner r (env h)) (edited_corresponds mode owner r h))

abbrev pub then_at : Option History → (History → Option History) → Option History
then_at None next = None
then_at (Some h) next = next h

then_corresponds : (o : Option History) (next : History → Option History) (out : Result Environment RecordReason) (next_out : Environment → Result Environment RecordReason)
    → Corresponds2 o out → ((h : History) → Corresponds2 (next h) (next_out (env h))) → Corresponds2 (then_at o next) (and_then out next_out)
then_corresponds None next out next_out c d = tt
then_corresponds (Some h) next out next_out c d = subst (λ (z : Result Environment RecordReason). Corresponds2 (next h) (and_then z next_out)) (sym c) (d h)

abbrev pub effects_at : Mode → Text → List Record → History → Option History
effects_at mode owner [] h = Some h
effects_at mode owner (r ∷ rs) h = then_at (effect_at mode owner r h) (effects_at mode owner rs)

effects_come : (mode : Mode) (owner : Text) (rs : List Record) (h : History) → Corresponds2 (effects_at mode owner rs h) (effects mode owner rs (env h))
effects_come mode owner [] h = refl
effects_come mode owner (r ∷ rs) h =
    then_corresponds (effect_at mode owner r h) (effects_at mode owner rs) (effect mode owner r (env h)) (effects mode owner rs)
    (effect_corresponds mode owner r h) (effects_come mode owner rs)

abbrev pub listed_at : Move → History → Option History
listed_at (Loads m) h = join_at h (entry_of m) (list_at h)
listed_at (Unloads m) h = leave_at h m.name (list_at h)

listed_corresponds : (m : Move) (h : History) → Corresponds2 (listed_at m h) (entry_moved m (env h))
listed_corresponds (Loads m) h = edit_outcome_corresponds (listed_at (Loads m) h) (added_loaded (env h) (entry_of m)) (joined_corresponds h (entry_of m))
listed_corresponds (Unloads m) h = edit_outcome_corresponds (listed_at (Unloads m) h) (dropped_loaded (env h) m.name) (left_corresponds h m.name)

abbrev pub moved_at : Move → History → Option History
moved_at m h = then_at (effects_at (mode_of m) (module_of_move m).name (module_of_move m).records h) (listed_at m)

moved_corresponds : (m : Move) (h : History) → Corresponds2 (moved_at m h) (moved m (env h))
moved_corresponds m h =
    then_corresponds (effects_at (mode_of m) (module_of_move m).name (module_of_move m).records h) (listed_at m)
    (effects (mode_of m) (module_of_move m).name (module_of_move m).records (env h)) (entry_moved m)
    (effects_come (mode_of m) (module_of_move m).name (module_of_move m).records h) (listed_corresponds m)

abbrev pub fits_in : Move → Option (List Entry) → Bool
fits_in m None = false
fits_in (Loads m) (Some xs) = not (has m.name (names_of xs))
fits_in (Unloads m) (Some xs) = list_any (λ x. bytes_eq m.name x.name && bytes_eq m.path x.path) xs

fits_by : (m : Move) (h : History) (o : Option (List Entry)) → list_at h ≡ o → fits_in m o ≡ true → Fits m (env h)
fits_by m h None q f = absurd (false≢true f)
fits_by (Loads m) h (Some xs) q f = (xs, list_seen h ∙ q, not_is (has m.name (names_of xs)) f)
fits_by (Unloads m) h (Some xs) q f = (xs, list_seen h ∙ q, f)

-- what the moves come to
abbrev pub played : List Move → History → Option History
played [] h = Some h
played (m ∷ ms) h = cond (fits_in m (list_at h)) (then_at (moved_at m h) (played ms)) None

pub played_leads : (ms : List Move) (h last : History) → played ms h ≡ Some last → MovesReach ms (env h) (env last)
played_leads [] h last p = ap env (sym (same_Some h last p))
played_leads (m ∷ ms) h last p = go (λ k q. played_leads ms k last q) (fits_in m (list_at h)) refl p
  where
    step : ((k : History) → played ms k ≡ Some last → MovesReach ms (env k) (env last)) → (o : Option History)
        → Corresponds2 o (moved m (env h)) → then_at o (played ms) ≡ Some last → (mid : Environment)
        × (moved m (env h) ≡ Ok mid) × MovesReach ms mid (env last)
    step later None c q = absurd (none-some last q)
    step later (Some k) c q = (env k, c, later k q)

    go : ((k : History) → played ms k ≡ Some last → MovesReach ms (env k) (env last)) → (b : Bool)
        → fits_in m (list_at h) ≡ b → cond b (then_at (moved_at m h) (played ms)) None ≡ Some last
        → MovesReach (m ∷ ms) (env h) (env last)
    go later true f q = (fits_by m h (list_at h) refl f, step later (moved_at m h) (moved_corresponds m h) q)
    go later false f q = absurd (none-some last q)
