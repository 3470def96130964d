-- A resting variable has, after any of the records, the value that it had before them.
use Rattle.std.proofs.Common.{◌≡◌, ◌⊎◌, inl, inr, Bool, true, false, not, ◌&&◌, ◌||◌, List, [], ◌∷◌, ◌++◌, Option, Some, None}
use Rattle.std.proofs.Common.{Result, Ok, Err, refl, ap, sym, subst, ◌∙◌}
use Rattle.std.specs.List.{list_any}
use Rattle.std.proofs.lemmas.Bool.{false≢true, and_parts}
use Rattle.envvars.specs.Texts.{Text, has}
use Rattle.envvars.specs.Names.{is_protected, share_name, stack_name}
use Rattle.envvars.specs.Environment.{Environment, lookup}
use Rattle.envstate.specs.loaded_list.LoadedTexts.{names_variable, files_variable, conflicts_variable, prereqs_variable}
use Rattle.envstate.specs.Roles.{VariableRole, role_of, is_editable, IsNameOf}
use Rattle.envstate.proofs.RoleLemmas.{name_of_role}
use Rattle.envstate.specs.Roles.VariableRole.{Variable, Counters, Stack, LoadedNames, LoadedFiles, LoadedConflicts}
use Rattle.envstate.specs.Roles.VariableRole.{LoadedPrereqs, Other}
use Rattle.tclrules.specs.Oracle.{CommandWords}
use Rattle.modulefile.specs.Records.{Record, Set, Unset, Push, Path, Conflict, Prereq, Whatis, variable_of}
use Rattle.modulefile.specs.declared.records.PathEdit.TheVariants.{Front, Back, Remove}
use Rattle.modulefile.specs.Judgments.{RecordReason}
use Rattle.modulefile.specs.Effects.{Mode, load, unload, display, whatis, unloaded_by, effect, effects}
use Rattle.modulefile.specs.Results.{◌>>=◌}
use Rattle.modulefile.specs.Calls.{CallReason, call_of}
use Rattle.modulefile.specs.Answers.{FileContext, record_of, records_in, record_outcome, or_before, environment_after}
use Rattle.modulefile.proofs.Bound.{bound, bind_ok}
use Rattle.modulefile.proofs.Effected.{parts}
use Rattle.reversal.specs.VariableUses.{can_return}
use Rattle.reversal.proofs.RecordKinds.{Touched, touched_loaded, same_accepted}
use Rattle.reversal.proofs.Frames.{unloads, touched, effect_edits, is_named, kept_variable, kept_rest}
use Rattle.audit_laws.specs.determinism.StableInput.{is_variable, is_stable_variable, shell_variables}

-- a variable that is none of the tool's is one that modulefiles may edit, or none that the tool knows
abbrev pub IsOfUser : Text → Type 0
IsOfUser v = (is_editable v ≡ true) ⊎ (role_of v ≡ Other)

not_of_tool : (v n : Text) → v ≡ n → is_protected n ≡ true → is_protected v ≡ false → ⊥
not_of_tool v n same p h = false≢true (sym h ∙ (ap is_protected same ∙ p))

of_user : (v : Text) (r : VariableRole) → role_of v ≡ r → is_protected v ≡ false → IsOfUser v
of_user v (Variable n) e h = let i : IsNameOf v (Variable n) = subst (IsNameOf v) e (name_of_role v) in inl (subst (λ (x : Text). is_editable x ≡ true) (sym i.1) i.0)
of_user v (Counters n) e h = let i : IsNameOf v (Counters n) = subst (IsNameOf v) e (name_of_role v) in absurd (not_of_tool v (share_name n) i.1 refl h)
of_user v (Stack n) e h = let i : IsNameOf v (Stack n) = subst (IsNameOf v) e (name_of_role v) in absurd (not_of_tool v (stack_name n) i.1 refl h)
of_user v LoadedNames e h = absurd (not_of_tool v names_variable (subst (IsNameOf v) e (name_of_role v)) refl h)
of_user v LoadedFiles e h = absurd (not_of_tool v files_variable (subst (IsNameOf v) e (name_of_role v)) refl h)
of_user v LoadedConflicts e h = absurd (not_of_tool v conflicts_variable (subst (IsNameOf v) e (name_of_role v)) refl h)
of_user v LoadedPrereqs e h = absurd (not_of_tool v prereqs_variable (subst (IsNameOf v) e (name_of_role v)) refl h)
of_user v Other e h = inr e

-- a variable that a record doesn't name stays
stays : (o : Option Text) (old new : Environment) (v : Text) → Touched o old new → IsOfUser v → is_named v o ≡ false → lookup new v ≡ lookup old v
stays o old new v t (inl e) n = (kept_variable o old new v t e n).value
stays o old new v t (inr e) n = kept_rest o old new v t e

-- an unload does nothing for a record that removes elements
left_alone : (owner : Text) (r : Record) (old new : Environment) → can_return r ≡ false → unloaded_by owner r old ≡ Ok new → new ≡ old
left_alone owner (Set v x) old new f h = absurd (cc)
left_alone owner (Unset v x) old new f h = absurd (cc)
left_alone owner (Push v x) old new f h = absurd (cc)
left_alone owner (Path Front d v xs) old new f h = absurd (cc)
left_alone owner (Path Back d v xs) old new f h = absurd (cc)
left_alone owner (Path Remove d v xs) old new f h = same_accepted old new h
left_alone owner (Conflict names) old new f h = absurd (cc)
left_alone owner (Prereq names) old new f h = absurd (cc)
left_alone owner (Whatis text) old new f h = absurd (cc)

one_unload : (owner : Text) (r : Record) (old new : Environment) (v : Text) (b : Bool) → can_return r ≡ b → effect unload owner r old ≡ Ok new
    → IsOfUser v → is_named v (variable_of r) ≡ false → lookup new v ≡ lookup old v
one_unload owner r old new v true s h u n = stays (variable_of r) old new v (touched unload unloads owner r old new s h) u n
one_unload owner r old new v false s h u n = ap (λ (e : Environment). lookup e v) (left_alone owner r old new s (effect_edits unload owner r old new h).1)

one_stays : (mode : Mode) (owner : Text) (r : Record) (old new : Environment) (v : Text) → effect mode owner r old ≡ Ok new
    → IsOfUser v → is_named v (variable_of r) ≡ false → lookup new v ≡ lookup old v
one_stays load owner r old new v h u n =
    let p = effect_edits load owner r old new h in stays (variable_of r) old new v (touched_loaded owner r old new p.0 p.1) u n
one_stays unload owner r old new v h u n = one_unload owner r old new v (can_return r) refl h u n
one_stays display owner r old new v h u n = ap (λ (e : Environment). lookup e v) (same_accepted old new (effect_edits display owner r old new h).1)
one_stays whatis owner r old new v h u n = ap (λ (e : Environment). lookup e v) (same_accepted old new (effect_edits whatis owner r old new h).1)

-- so do variables that none of the records names
abbrev pub is_free : Text → List Record → Bool
is_free v rs = list_any (λ r. is_variable v (variable_of r)) rs

same_name : (v : Text) (o : Option Text) → is_variable v o ≡ is_named v o
same_name v None = refl
same_name v (Some n) = refl

first_free : (a b : Bool) → (a || b) ≡ false → (a ≡ false) × (b ≡ false)
first_free true b h = absurd (cc)
first_free false b h = (refl, h)

all_stay : (mode : Mode) (owner : Text) (rs : List Record) (old new : Environment) (v : Text) → effects mode owner rs old ≡ Ok new
    → IsOfUser v → is_free v rs ≡ false → lookup new v ≡ lookup old v
all_stay mode owner [] old new v h u n = let q : old ≡ new = cc in ap (λ (e : Environment). lookup e v) (sym q)
all_stay mode owner (r ∷ rs) old new v h u n =
    let p = parts (effect mode owner r old) (effects mode owner rs) new h in
    let f = first_free (is_variable v (variable_of r)) (is_free v rs) n in
    all_stay mode owner rs p.0 new v p.2 u f.1 ∙ one_stays mode owner r old p.0 v p.1 u (sym (same_name v (variable_of r)) ∙ f.0)

free_before : (v : Text) (rs rest : List Record) → is_free v (rs ++ rest) ≡ false → is_free v rs ≡ false
free_before v [] rest h = refl
free_before v (r ∷ rs) rest h =
    let f = first_free (is_variable v (variable_of r)) (is_free v (rs ++ rest)) h in rw (f.0, free_before v rs rest f.1) refl

-- ---- the environment that a file finds

after_records : (c : FileContext) (rs : List Record) (v : Text) (o : Result Environment RecordReason) → effects c.mode c.name rs c.before ≡ o
    → IsOfUser v → is_free v rs ≡ false → lookup (or_before c.before (record_outcome o >>= (λ e. Ok e))) v ≡ lookup c.before v
after_records c rs v (Ok e) h u n = all_stay c.mode c.name rs c.before e v h u n
after_records c rs v (Err reason) h u n = refl

kept_outcome : (o : Result Environment CallReason) → (o >>= (λ e. Ok e)) ≡ o
kept_outcome (Ok e) = refl
kept_outcome (Err reason) = refl

pub resting_parts : (records : List Record) (v : Text) → is_stable_variable records v ≡ true → IsOfUser v × (is_free v records ≡ false)
resting_parts records v h =
    let p = and_parts (not (is_protected v)) (not (has v shell_variables) && not (is_free v records)) h in
    let q = and_parts (not (has v shell_variables)) (not (is_free v records)) p.1 in
    (of_user v (role_of v) refl (not_true (is_protected v) p.0), not_true (is_free v records) q.1)
  where
    not_true : (b : Bool) → not b ≡ true → b ≡ false
    not_true true e = absurd (cc)
    not_true false e = refl

-- the value of a resting variable after some of the commands is the one before the file
pub finds_before : (c : FileContext) (commands : List CommandWords) (rs rest all : List Record) (v : Text) → records_in commands ≡ Ok rs → all ≡ rs ++ rest
    → is_stable_variable all v ≡ true → lookup (environment_after c commands) v ≡ lookup c.before v
finds_before c commands rs rest all v read split h =
    let p = resting_parts all v h in
    let free : is_free v rs ≡ false = free_before v rs rest (subst (λ (l : List Record). is_free v l ≡ false) split p.1) in
    ap (λ (r : Result (List Record) CallReason). lookup (or_before c.before (r >>= (λ xs. record_outcome (effects c.mode c.name xs c.before)))) v) read
    ∙ (ap (λ (r : Result Environment CallReason). lookup (or_before c.before r) v) (sym (kept_outcome (record_outcome (effects c.mode c.name rs c.before))))
    ∙ after_records c rs v (effects c.mode c.name rs c.before) refl p.0 free)

-- ---- the records of a beginning of the commands are a beginning of the records

abbrev pub Beginning : List CommandWords → List Record → Type 0
Beginning commands all = (rs rest : List Record) × (records_in commands ≡ Ok rs) × (all ≡ rs ++ rest)

pub beginning : (commands more : List CommandWords) (all : List Record) → records_in (commands ++ more) ≡ Ok all → Beginning commands all
beginning [] more all h = ([], all, refl, refl)
beginning (words ∷ commands) more all h =
    let b = bound (call_of words >>= record_of) (λ x. records_in (commands ++ more) >>= (λ xs. Ok (x ∷ xs))) all h in
    let d = bound (records_in (commands ++ more)) (λ xs. Ok (b.0 ∷ xs)) all b.2 in
    let (rs, rest, read, split) = beginning commands more d.0 d.1 in
    let same : b.0 ∷ d.0 ≡ all = cc in (
      b.0 ∷ rs,
      rest,
      bind_ok (call_of words >>= record_of) (λ x. records_in commands >>= (λ xs. Ok (x ∷ xs))) b.0 (b.0 ∷ rs) b.1
          (bind_ok (records_in commands) (λ xs. Ok (b.0 ∷ xs)) rs (b.0 ∷ rs) read refl),
      sym same ∙ ap (λ (l : List Record). b.0 ∷ l) split,
    )
