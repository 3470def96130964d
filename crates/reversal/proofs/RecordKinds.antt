-- What each kind of record does: of all that is proved of records, this alone goes kind by kind.
use Rattle.std.proofs.Common.{◌≡◌, ℕ, Bool, true, false, cond, List, [], ◌∷◌, refl, sym, ap, subst, Option, Some}
use Rattle.std.proofs.Common.{None, Result, Ok}
use Rattle.std.specs.Prelude.{bytes_eq, count_by, is_some}
use Rattle.std.specs.Option.{option_map, option_or}
use Rattle.std.proofs.lemmas.Bool.{false≢true}
use Rattle.envvars.specs.Texts.{Text}
use Rattle.envvars.specs.Names.{name_reason}
use Rattle.envvars.specs.Environment.{Environment, with_value}
use Rattle.envvars.specs.Reasons.{EnvReason}
use Rattle.envstate.specs.paths.PathVariables.{path_reason, added_path, dropped_path}
use Rattle.envstate.specs.declared.paths.adding.End.{End}
use Rattle.envstate.specs.declared.paths.adding.End.TheVariants as ends
use Rattle.envstate.specs.stacks.StackVariables.{pushed_value, popped_value}
use Rattle.envstate.specs.Frames.{EditsVariable}
use Rattle.envstate.proofs.RoleLemmas.{no_reason_against}
use Rattle.envstate.proofs.FrameLemmas.{add_edits, drop_edits, push_edits, set_edits, path_edits_variable}
use Rattle.envstate.proofs.FrameLemmas.{stack_edits_variable}
use Rattle.modulefile.specs.Records.{Record, Set, Unset, Push, Path, variable_of}
use Rattle.modulefile.specs.declared.records.PathEdit.{PathEdit}
use Rattle.modulefile.specs.declared.records.PathEdit.TheVariants.{Front, Back, Remove}
use Rattle.modulefile.specs.Judgments.{bad_edit, value_reason, values_of, record_reason}
use Rattle.modulefile.specs.Effects.{path_edited, loaded_by, unloaded_by}
use Rattle.reversal.specs.VariableUses.{Untouched, Fixed, Absent, Pathed, Stacked, can_return, UsedVariable}
use Rattle.reversal.specs.VariableUses.{use_by, absent_by}
use Rattle.reversal.specs.Live.{set_by, adds_by, push_by}
use Rattle.reversal.specs.Undone.{undone_as}

abbrev pub accepted : Environment → Result Environment EnvReason
accepted e = Ok e

pub same_accepted : (d e : Environment) → accepted d ≡ Ok e → e ≡ d
same_accepted d e h = cc

-- ---- names that nothing forbids

mapped_none : (o : Option EnvReason) → option_map bad_edit o ≡ None → o ≡ None
mapped_none None h = refl
mapped_none (Some x) h = absurd (cc)

first_none : (o p : Option EnvReason) → option_or o p ≡ None → o ≡ None
first_none None p h = refl
first_none (Some x) p h = absurd (cc)

named_value : (v : Text) (xs : List Text) → option_map bad_edit (value_reason v xs) ≡ None → name_reason v ≡ None
named_value v xs h = first_none (name_reason v) _ (mapped_none (value_reason v xs) h)

named_path : (v : Text) (d : ℕ) (xs : List Text) → option_map bad_edit (path_reason v d xs) ≡ None → name_reason v ≡ None
named_path v d xs h = first_none (name_reason v) _ (mapped_none (path_reason v d xs) h)

-- a value that is forbidden by nothing leaves a name that nothing forbids
by_name : (v : Text) (xs : List Text) → option_map bad_edit (value_reason v xs) ≡ None → option_map bad_edit (value_reason v ([] ∷ [])) ≡ None
by_name v xs h = ap (λ (n : Option EnvReason). option_map bad_edit (option_or n None)) (named_value v xs h)

-- ---- what a record does by the use that it makes of its variable

-- it sets or unsets the variable, which has this value or none when it is unloaded
pub record FixesVariable (v : Text) (k : Option Text) (r : Record) : Type 0 where
  pub named : variable_of r ≡ Some v
  pub reason : record_reason r ≡ None → name_reason v ≡ None
  pub value : Option Text
  pub loads : (owner : Text) (e : Environment) → loaded_by owner r e ≡ accepted (with_value e v value)
  pub unloads : (owner : Text) (e : Environment) → unloaded_by owner r e ≡ accepted (with_value e v k)
  pub sets : (w : Text) → set_by w r ≡ cond (bytes_eq w v) (Some value) None
  pub adds : (w x : Text) → adds_by w x r ≡ 0
  pub pushes : (w : Text) → push_by w r ≡ None

-- it unsets the variable, and its unload does nothing
pub record KeepsAbsent (v : Text) (r : Record) : Type 0 where
  pub named : variable_of r ≡ Some v
  pub reason : record_reason r ≡ None → name_reason v ≡ None
  pub loads : (owner : Text) (e : Environment) → loaded_by owner r e ≡ accepted (with_value e v None)
  pub unloads : (owner : Text) (e : Environment) → unloaded_by owner r e ≡ accepted e
  pub sets : (w : Text) → set_by w r ≡ None
  pub adds : (w x : Text) → adds_by w x r ≡ 0
  pub pushes : (w : Text) → push_by w r ≡ None

-- it adds elements to the path
pub record AddsToPath (v : Text) (d : ℕ) (r : Record) : Type 0 where
  pub named : variable_of r ≡ Some v
  pub reason : record_reason r ≡ None → name_reason v ≡ None
  pub elements : List Text
  pub end : End
  pub loads : (owner : Text) (e : Environment) → loaded_by owner r e ≡ added_path e v d elements end
  pub unloads : (owner : Text) (e : Environment) → unloaded_by owner r e ≡ dropped_path e v d elements
  pub sets : (w : Text) → set_by w r ≡ None
  pub adds : (w x : Text) → adds_by w x r ≡ cond (bytes_eq w v) (count_by (bytes_eq x) elements) 0
  pub pushes : (w : Text) → push_by w r ≡ None

-- it pushes a value
pub record PushesValue (v : Text) (r : Record) : Type 0 where
  pub named : variable_of r ≡ Some v
  pub reason : record_reason r ≡ None → name_reason v ≡ None
  pub value : Text
  pub loads : (owner : Text) (e : Environment) → loaded_by owner r e ≡ pushed_value e v owner value
  pub unloads : (owner : Text) (e : Environment) → unloaded_by owner r e ≡ popped_value e v owner
  pub sets : (w : Text) → set_by w r ≡ None
  pub adds : (w x : Text) → adds_by w x r ≡ 0
  pub pushes : (w : Text) → push_by w r ≡ cond (bytes_eq w v) (Some value) None

-- it does nothing to variables
pub record DoesNothing (r : Record) : Type 0 where
  pub named : variable_of r ≡ None
  pub loads : (owner : Text) (e : Environment) → loaded_by owner r e ≡ accepted e
  pub sets : (w : Text) → set_by w r ≡ None

-- it uses none: its unload does nothing, and unless it removes elements, its load neither
pub record UsesNone (r : Record) : Type 0 where
  pub unloads : (owner : Text) (e : Environment) → unloaded_by owner r e ≡ accepted e
  pub adds : (w x : Text) → adds_by w x r ≡ 0
  pub pushes : (w : Text) → push_by w r ≡ None
  pub nothing : can_return r ≡ true → DoesNothing r

abbrev pub DoesBy : Record → Option UsedVariable → Type 0
DoesBy r None = UsesNone r
DoesBy r (Some (v, Untouched)) = ⊥
DoesBy r (Some (v, Fixed k)) = FixesVariable v k r
DoesBy r (Some (v, Absent)) = KeepsAbsent v r
DoesBy r (Some (v, Pathed d)) = AddsToPath v d r
DoesBy r (Some (v, Stacked)) = PushesValue v r

does_path : (edit : PathEdit) (d : ℕ) (v : Text) (xs : List Text) → DoesBy (Path edit d v xs) (use_by (Path edit d v xs))
does_path Front d v xs = record {
  named = refl;
  reason = named_path v d xs;
  elements = xs;
  end = ends.Front;
  loads = λ owner e. refl;
  unloads = λ owner e. refl;
  sets = λ w. refl;
  adds = λ w x. refl;
  pushes = λ w. refl;
}
does_path Back d v xs = record {
  named = refl;
  reason = named_path v d xs;
  elements = xs;
  end = ends.Back;
  loads = λ owner e. refl;
  unloads = λ owner e. refl;
  sets = λ w. refl;
  adds = λ w x. refl;
  pushes = λ w. refl;
}
does_path Remove d v xs = record { unloads = λ owner e. refl; adds = λ w x. refl; pushes = λ w. refl; nothing = λ k. absurd (false≢true k) }

pub does : (r : Record) → DoesBy r (use_by r)
does (Set v x) = record {
  named = refl;
  reason = named_value v (x ∷ []);
  value = Some x;
  loads = λ owner e. refl;
  unloads = λ owner e. refl;
  sets = λ w. refl;
  adds = λ w y. refl;
  pushes = λ w. refl;
}
does (Unset v None) = record {
  named = refl;
  reason = named_value v [];
  loads = λ owner e. refl;
  unloads = λ owner e. refl;
  sets = λ w. refl;
  adds = λ w x. refl;
  pushes = λ w. refl;
}
does (Unset v (Some x)) = record {
  named = refl;
  reason = named_value v (x ∷ []);
  value = None;
  loads = λ owner e. refl;
  unloads = λ owner e. refl;
  sets = λ w. refl;
  adds = λ w y. refl;
  pushes = λ w. refl;
}
does (Push v x) = record {
  named = refl;
  reason = named_value v (x ∷ []);
  value = x;
  loads = λ owner e. refl;
  unloads = λ owner e. refl;
  sets = λ w. refl;
  adds = λ w y. refl;
  pushes = λ w. refl;
}
does (Path edit d v xs) = does_path edit d v xs
does r = record {
  unloads = λ owner e. refl;
  adds = λ w x. refl;
  pushes = λ w. refl;
  nothing = λ k. record { named = refl; loads = λ owner e. refl; sets = λ w. refl };
}

pub uses_none : (r : Record) → use_by r ≡ None → UsesNone r
uses_none r h = subst (DoesBy r) h (does r)

-- the variable that a record uses is the one that it names, and nothing forbids the name of an allowed record's
pub named_used : (r : Record) (p : UsedVariable) → DoesBy r (Some p) → variable_of r ≡ Some p.0
named_used r (v, Untouched) d = absurd d
named_used r (v, Fixed k) d = d.named
named_used r (v, Absent) d = d.named
named_used r (v, Pathed a) d = d.named
named_used r (v, Stacked) d = d.named

name_allowed : (r : Record) (p : UsedVariable) → DoesBy r (Some p) → record_reason r ≡ None → name_reason p.0 ≡ None
name_allowed r (v, Untouched) d n = absurd d
name_allowed r (v, Fixed k) d n = d.reason n
name_allowed r (v, Absent) d n = d.reason n
name_allowed r (v, Pathed a) d n = d.reason n
name_allowed r (v, Stacked) d n = d.reason n

pub used_name : (r : Record) (p : UsedVariable) → record_reason r ≡ None → use_by r ≡ Some p → name_reason p.0 ≡ None
used_name r p n h = name_allowed r p (subst (DoesBy r) h (does r)) n

-- ---- what loads touch, of whatever kind

-- nothing but the variable, its counters and its stack
abbrev pub Touched : Option Text → Environment → Environment → Type 0
Touched None old new = new ≡ old
Touched (Some v) old new = EditsVariable old new v

pub set_touched : (v : Text) (x : Option Text) (old new : Environment) → name_reason v ≡ None → accepted (with_value old v x) ≡ Ok new → EditsVariable old new v
set_touched v x old new n k = subst (λ (t : Environment). EditsVariable old t v)
    (sym (same_accepted (with_value old v x) new k)) (path_edits_variable old (with_value old v x) v
    (set_edits old v x ((no_reason_against v).1 n)).0).0

path_touched : (edit : PathEdit) (d : ℕ) (v : Text) (xs : List Text) (old new : Environment) → path_edited edit d v xs old ≡ Ok new → EditsVariable old new v
path_touched Front d v xs old new h = (path_edits_variable old new v (add_edits old new v d xs ends.Front h)).0
path_touched Back d v xs old new h = (path_edits_variable old new v (add_edits old new v d xs ends.Back h)).0
path_touched Remove d v xs old new h = (path_edits_variable old new v (drop_edits old new v d xs h)).0

pub touched_loaded : (owner : Text) (r : Record) (old new : Environment) → record_reason r ≡ None → loaded_by owner r old ≡ Ok new → Touched (variable_of r) old new
touched_loaded owner (Set v x) old new n h = set_touched v (Some x) old new (named_value v (x ∷ []) n) h
touched_loaded owner (Unset v x) old new n h = set_touched v None old new (named_value v (values_of x) n) h
touched_loaded owner (Push v x) old new n h = (stack_edits_variable old new v (push_edits old new v owner x h)).0
touched_loaded owner (Path edit d v xs) old new n h = path_touched edit d v xs old new h
touched_loaded owner r old new n h = same_accepted old new h

-- ---- what is left of a record for its unload

pub record IsLeftOf (r u : Record) : Type 0 where
  pub reason : record_reason r ≡ None → record_reason u ≡ None
  pub unloads : (owner : Text) (e : Environment) → unloaded_by owner r e ≡ unloaded_by owner u e
  pub returns : can_return u ≡ true
  pub uses : use_by u ≡ use_by r
  pub absent : absent_by r ≡ None
  pub sets : (w : Text) → is_some (set_by w u) ≡ is_some (set_by w r)
  pub adds : (w x : Text) → adds_by w x u ≡ adds_by w x r
  pub pushes : (w : Text) → is_some (push_by w u) ≡ is_some (push_by w r)

abbrev pub kept_absent : Text → UsedVariable
kept_absent v = (v, Absent)

-- nothing where an unload does nothing
pub record LeavesNone (r : Record) : Type 0 where
  pub unloads : (owner : Text) (e : Environment) → unloaded_by owner r e ≡ accepted e
  pub uses : use_by r ≡ option_map kept_absent (absent_by r)
  pub sets : can_return r ≡ true → (w : Text) → set_by w r ≡ None
  pub adds : (w x : Text) → adds_by w x r ≡ 0
  pub pushes : (w : Text) → push_by w r ≡ None

abbrev pub LeavesOf : Record → Option Record → Type 0
LeavesOf r None = LeavesNone r
LeavesOf r (Some u) = IsLeftOf r u

given : {T : Type 0} (b : Bool) (x y : T) → is_some (cond b (Some x) None) ≡ is_some (cond b (Some y) None)
given true x y = refl
given false x y = refl

-- the record itself
all_left : (r : Record) → can_return r ≡ true → absent_by r ≡ None → IsLeftOf r r
all_left r k a = record {
  reason = λ n. n;
  unloads = λ owner e. refl;
  returns = k;
  uses = refl;
  absent = a;
  sets = λ w. refl;
  adds = λ w x. refl;
  pushes = λ w. refl;
}

path_leaves : (edit : PathEdit) (d : ℕ) (v : Text) (xs : List Text) → LeavesOf (Path edit d v xs) (undone_as (Path edit d v xs))
path_leaves Front d v xs = all_left (Path Front d v xs) refl refl
path_leaves Back d v xs = record {
  reason = λ n. n;
  unloads = λ owner e. refl;
  returns = refl;
  uses = refl;
  absent = refl;
  sets = λ w. refl;
  adds = λ w x. refl;
  pushes = λ w. refl;
}
path_leaves Remove d v xs = record { unloads = λ owner e. refl; uses = refl; sets = λ k. absurd (false≢true k); adds = λ w x. refl; pushes = λ w. refl }

pub leaves : (r : Record) → LeavesOf r (undone_as r)
leaves (Set v x) = record {
  reason = by_name v (x ∷ []);
  unloads = λ owner e. refl;
  returns = refl;
  uses = refl;
  absent = refl;
  sets = λ w. given (bytes_eq w v) (Some []) (Some x);
  adds = λ w y. refl;
  pushes = λ w. refl;
}
leaves (Unset v None) = record { unloads = λ owner e. refl; uses = refl; sets = λ k w. refl; adds = λ w x. refl; pushes = λ w. refl }
leaves (Unset v (Some x)) = all_left (Unset v (Some x)) refl refl
leaves (Push v x) = record {
  reason = by_name v (x ∷ []);
  unloads = λ owner e. refl;
  returns = refl;
  uses = refl;
  absent = refl;
  sets = λ w. refl;
  adds = λ w y. refl;
  pushes = λ w. given (bytes_eq w v) [] x;
}
leaves (Path edit d v xs) = path_leaves edit d v xs
leaves r = record { unloads = λ owner e. refl; uses = refl; sets = λ k w. refl; adds = λ w x. refl; pushes = λ w. refl }
