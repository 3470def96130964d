-- One variable through the records of one load or unload.
use Rattle.std.proofs.Common.{◌≡◌, ℕ, ◌+◌, ◌-◌, Bool, true, false, List, [], ◌∷◌, refl, sym, ◌∙◌, subst, arith, Option}
use Rattle.std.proofs.Common.{Some, None, Ok}
use Rattle.std.specs.Prelude.{bytes_eq, count_by, is_some, unwrap_or}
use Rattle.std.specs.Option.{option_or}
use Rattle.envvars.specs.Texts.{Text}
use Rattle.envvars.specs.Names.{share_name, stack_name}
use Rattle.envvars.specs.Environment.{Environment, lookup, with_value}
use Rattle.envvars.proofs.EnvLemmas.{lookup-set}
use Rattle.envstate.specs.paths.Paths.{PathState, IsPathState}
use Rattle.envstate.specs.paths.PathVariables.{path_in}
use Rattle.envstate.specs.paths.PathOrder.{IsPathInOrder}
use Rattle.envstate.specs.paths.PathRuns as path_runs
use Rattle.envstate.proofs.paths.PathLemmas.{IsPathStartWith-add_all, IsPathStartWith-drop_all}
use Rattle.envstate.proofs.paths.PathOrderLemmas.{LeavesPath-added, LeavesPath-dropped}
use Rattle.envstate.proofs.paths.Readable.{IsWritable-state_of}
use Rattle.envstate.specs.Roles.{is_editable}
use Rattle.envstate.specs.Frames.{IsVariableUnchanged}
use Rattle.envstate.proofs.FrameLemmas.{set_edits, add_edits, drop_edits, path_edits_variable, stack_edits_variable}
use Rattle.modulefile.specs.Records.{Record, variable_of}
use Rattle.modulefile.specs.Effects.{Mode, load, unload, effect, effects}
use Rattle.reversal.specs.VariableUses.{VariableUse, Untouched, Fixed, Absent, Pathed, Suits, AllSuit}
use Rattle.reversal.specs.Live.{set_by, last_set, adds_by, adds}
use Rattle.reversal.specs.Starts.{HasValue}
use Rattle.reversal.proofs.RecordKinds.{accepted, same_accepted}
use Rattle.reversal.proofs.Frames.{effect_edits, Side, loads, unloads, touched, is_named, kept_variable}
use Rattle.reversal.proofs.Loads.{parts}
use Rattle.reversal.proofs.Uses.{unnamed, uses_fixed, uses_absent, uses_path, set_by_none, adds_by_none, other_used}

-- by both results of a test
pub by_test : (t : Bool) (P : Type 0) → (t ≡ true → P) → (t ≡ false → P) → P
by_test true P f g = f refl
by_test false P f g = g refl

pub one_keeps : (mode : Mode) (side : Side mode) (uses : Text → VariableUse) (owner w : Text) (r : Record)
    (old new : Environment) → Suits uses r → is_editable w ≡ true → effect mode owner r old ≡ Ok new
    → is_named w (variable_of r) ≡ false → IsVariableUnchanged old new w
one_keeps mode side uses owner w r old new s f h e = kept_variable (variable_of r) old new w (touched mode side owner r old new s.0 h) f e

-- a variable that no record names

pub record Same (b e : Environment) (w : Text) : Type 0 where
  pub value : lookup e w ≡ lookup b w
  pub counters : lookup e (share_name w) ≡ lookup b (share_name w)
  pub stack : lookup e (stack_name w) ≡ lookup b (stack_name w)

pub value_kept : (b old new : Environment) (w : Text) (x : Option Text) → IsVariableUnchanged old new w → HasValue b old w x → HasValue b new w x
value_kept b old new w x k h = record { value = k.value ∙ h.value; counters = k.counters ∙ h.counters; stack = k.stack_text ∙ h.stack }

pub all_untouched : (mode : Mode) (side : Side mode) (uses : Text → VariableUse) (owner w : Text) (rs : List Record)
    (b old new : Environment) (x : Option Text) → uses w ≡ Untouched → AllSuit uses rs → is_editable w ≡ true
    → effects mode owner rs old ≡ Ok new → HasValue b old w x → HasValue b new w x
all_untouched mode side uses owner w [] b old new x h s f e v = let q : old ≡ new = cc in subst (λ (d : Environment). HasValue b d w x) q v
all_untouched mode side uses owner w (r ∷ rs) b old new x h s f e v =
    let p = parts (effect mode owner r old) (effects mode owner rs) new e in
    all_untouched mode side uses owner w rs b p.0 new x h s.1 f p.2 (value_kept b old p.0 w x (by_test (is_named w (variable_of r)) _
    (λ t. absurd (unnamed uses w r h s.0 t))
    (λ t. one_keeps mode side uses owner w r old p.0 s.0 f p.1 t)) v)

-- a variable that records set and unset

value_set : (b old new : Environment) (w : Text) (x y : Option Text) → is_editable w ≡ true → accepted (with_value old w y) ≡ Ok new → HasValue b old w x → HasValue b new w y
value_set b old new w x y f h v =
    subst (λ (d : Environment). HasValue b d w y) (sym (same_accepted (with_value old w y) new h)) (record {
      value = lookup-set old w y;
      counters = (stack_edits_variable old (with_value old w y) w (set_edits old w y f).1).1 ∙ v.counters;
      stack = (path_edits_variable old (with_value old w y) w (set_edits old w y f).0).1 ∙ v.stack;
    })

load_fixed : (uses : Text → VariableUse) (owner w : Text) (k : Option Text) (r : Record) (b old new : Environment) (x : Option Text) → uses w ≡ Fixed k → Suits uses r → is_editable w ≡ true
    → effect load owner r old ≡ Ok new → HasValue b old w x → HasValue b new w (unwrap_or (set_by w r) x)
load_fixed uses owner w k r b old new x h s f e v = by_test (is_named w (variable_of r)) _
    (λ t. let u = uses_fixed uses w k r h s t in
    subst (λ (o : Option (Option Text)). HasValue b new w (unwrap_or o x)) (sym u.by)
    (value_set b old new w x u.value f (sym (u.loads owner old) ∙ (effect_edits load owner r old new e).1) v))
    (λ t. subst (λ (o : Option (Option Text)). HasValue b new w (unwrap_or o x)) (sym (set_by_none w r s.0 (other_used w r t)))
    (value_kept b old new w x (one_keeps load loads uses owner w r old new s f e t) v))

pub or_unwrap : (p q : Option (Option Text)) (x : Option Text) → unwrap_or (option_or p q) x ≡ unwrap_or p (unwrap_or q x)
or_unwrap None q x = refl
or_unwrap (Some y) q x = refl

pub loads_fixed : (uses : Text → VariableUse) (owner w : Text) (k : Option Text) (rs : List Record)
    (b old new : Environment) (x : Option Text) → uses w ≡ Fixed k → AllSuit uses rs → is_editable w ≡ true
    → effects load owner rs old ≡ Ok new → HasValue b old w x → HasValue b new w (unwrap_or (last_set w rs) x)
loads_fixed uses owner w k [] b old new x h s f e v = let q : old ≡ new = cc in subst (λ (d : Environment). HasValue b d w x) q v
loads_fixed uses owner w k (r ∷ rs) b old new x h s f e v =
    let p = parts (effect load owner r old) (effects load owner rs) new e in
    subst (λ (y : Option Text). HasValue b new w y) (sym (or_unwrap (last_set w rs) (set_by w r) x))
    (loads_fixed uses owner w k rs b p.0 new (unwrap_or (set_by w r) x) h s.1 f p.2 (load_fixed uses owner w k r b old p.0 x h s.0 f p.1 v))

-- the first where there is none, and else the second
abbrev pub pick : {A B : Type 0} → Option A → B → B → B
pick None x y = x
pick (Some a) x y = y

unload_fixed : (uses : Text → VariableUse) (owner w : Text) (k : Option Text) (r : Record) (b old new : Environment) (x : Option Text) → uses w ≡ Fixed k → Suits uses r → is_editable w ≡ true
    → effect unload owner r old ≡ Ok new → HasValue b old w x → HasValue b new w (pick (set_by w r) x k)
unload_fixed uses owner w k r b old new x h s f e v = by_test (is_named w (variable_of r)) _
    (λ t. let u = uses_fixed uses w k r h s t in
    subst (λ (o : Option (Option Text)). HasValue b new w (pick o x k)) (sym u.by)
    (value_set b old new w x k f (sym (u.unloads owner old) ∙ (effect_edits unload owner r old new e).1) v))
    (λ t. subst (λ (o : Option (Option Text)). HasValue b new w (pick o x k)) (sym (set_by_none w r s.0 (other_used w r t)))
    (value_kept b old new w x (one_keeps unload unloads uses owner w r old new s f e t) v))

pub same_pick : {A B : Type 0} (p q : Option A) (x y : B) → is_some p ≡ is_some q → pick p x y ≡ pick q x y
same_pick None None x y h = refl
same_pick (Some a) (Some b) x y h = refl
same_pick None (Some b) x y h = absurd cc
same_pick (Some a) None x y h = absurd cc

or_pick : (p q : Option (Option Text)) (x k : Option Text) → pick (option_or p q) x k ≡ pick p (pick q x k) k
or_pick None q x k = refl
or_pick (Some y) q x k = refl

pub unloads_fixed : (uses : Text → VariableUse) (owner w : Text) (k : Option Text) (rs : List Record)
    (b old new : Environment) (x : Option Text) → uses w ≡ Fixed k → AllSuit uses rs → is_editable w ≡ true
    → effects unload owner rs old ≡ Ok new → HasValue b old w x → HasValue b new w (pick (last_set w rs) x k)
unloads_fixed uses owner w k [] b old new x h s f e v = let q : old ≡ new = cc in subst (λ (d : Environment). HasValue b d w x) q v
unloads_fixed uses owner w k (r ∷ rs) b old new x h s f e v =
    let p = parts (effect unload owner r old) (effects unload owner rs) new e in
    subst (λ (y : Option Text). HasValue b new w y) (sym (or_pick (last_set w rs) (set_by w r) x k))
    (unloads_fixed uses owner w k rs b p.0 new (pick (set_by w r) x k) h s.1 f p.2 (unload_fixed uses owner w k r b old p.0 x h s.0 f p.1 v))

-- a variable that is absent

load_absent : (uses : Text → VariableUse) (owner w : Text) (r : Record) (b old new : Environment) → uses w ≡ Absent → Suits uses r → is_editable w ≡ true
    → effect load owner r old ≡ Ok new → HasValue b old w None → HasValue b new w None
load_absent uses owner w r b old new h s f e v = by_test (is_named w (variable_of r)) _
    (λ t. value_set b old new w None None f (sym ((uses_absent uses w r h s t).loads owner old) ∙ (effect_edits load owner r old new e).1) v)
    (λ t. value_kept b old new w None (one_keeps load loads uses owner w r old new s f e t) v)

pub loads_absent : (uses : Text → VariableUse) (owner w : Text) (rs : List Record) (b old new : Environment) → uses w ≡ Absent → AllSuit uses rs → is_editable w ≡ true
    → effects load owner rs old ≡ Ok new → HasValue b old w None → HasValue b new w None
loads_absent uses owner w [] b old new h s f e v = let q : old ≡ new = cc in subst (λ (d : Environment). HasValue b d w None) q v
loads_absent uses owner w (r ∷ rs) b old new h s f e v =
    let p = parts (effect load owner r old) (effects load owner rs) new e in
    loads_absent uses owner w rs b p.0 new h s.1 f p.2 (load_absent uses owner w r b old p.0 h s.0 f p.1 v)

unload_absent : (uses : Text → VariableUse) (owner w : Text) (r : Record) (b old new : Environment) (x : Option Text) → uses w ≡ Absent → Suits uses r → is_editable w ≡ true
    → effect unload owner r old ≡ Ok new → HasValue b old w x → HasValue b new w x
unload_absent uses owner w r b old new x h s f e v = by_test (is_named w (variable_of r)) _
    (λ t. subst (λ (d : Environment). HasValue b d w x)
    (sym (same_accepted old new (sym ((uses_absent uses w r h s t).unloads owner old) ∙ (effect_edits unload owner r old new e).1))) v)
    (λ t. value_kept b old new w x (one_keeps unload unloads uses owner w r old new s f e t) v)

pub unloads_absent : (uses : Text → VariableUse) (owner w : Text) (rs : List Record) (b old new : Environment) (x : Option Text) → uses w ≡ Absent → AllSuit uses rs → is_editable w ≡ true
    → effects unload owner rs old ≡ Ok new → HasValue b old w x → HasValue b new w x
unloads_absent uses owner w [] b old new x h s f e v = let q : old ≡ new = cc in subst (λ (d : Environment). HasValue b d w x) q v
unloads_absent uses owner w (r ∷ rs) b old new x h s f e v =
    let p = parts (effect unload owner r old) (effects unload owner rs) new e in
    unloads_absent uses owner w rs b p.0 new x h s.1 f p.2 (unload_absent uses owner w r b old p.0 x h s.0 f p.1 v)

-- a path

pub record PathAt (b e : Environment) (w : Text) (d : ℕ) (n : Text → ℕ) : Type 0 where
  pub order : IsPathInOrder e w d
  pub state : path_runs.IsPathStartWith (path_in b w d) n (path_in e w d)
  pub stack : lookup e (stack_name w) ≡ lookup b (stack_name w)

pub path_state : (b : Environment) (w : Text) (d : ℕ) → IsPathState (path_in b w d)
path_state b w d = (IsWritable-state_of d (lookup b w) (lookup b (share_name w))).valid

pub path_same : (b e : Environment) (w : Text) (d : ℕ) (m n : Text → ℕ) → ((x : Text) → m x ≡ n x) → PathAt b e w d m → PathAt b e w d n
path_same b e w d m n h p = subst (λ (f : Text → ℕ). PathAt b e w d f) (λ i x. h x i) p

pub path_kept : (b old new : Environment) (w : Text) (d : ℕ) (n : Text → ℕ) → IsVariableUnchanged old new w → PathAt b old w d n → PathAt b new w d n
path_kept b old new w d n k p = record {
  order = k.path_order d p.order;
  state = subst (λ (s : PathState). path_runs.IsPathStartWith (path_in b w d) n s) (sym (k.path d)) p.state;
  stack = k.stack_text ∙ p.stack;
}

load_path : (uses : Text → VariableUse) (owner w : Text) (d : ℕ) (r : Record) (b old new : Environment) (n : Text → ℕ) → uses w ≡ Pathed d → Suits uses r → is_editable w ≡ true
    → effect load owner r old ≡ Ok new → PathAt b old w d n → PathAt b new w d (λ x. adds_by w x r + n x)
load_path uses owner w d r b old new n h s f e p = by_test (is_named w (variable_of r)) _
    (λ t. let u = uses_path uses w d r h s t in
    let a = sym (u.loads owner old) ∙ (effect_edits load owner r old new e).1 in
    let l = LeavesPath-added old new w d u.elements u.end a in
    path_same b new w d (λ x. n x + count_by (bytes_eq x) u.elements) (λ x. adds_by w x r + n x) (λ x. rw (u.by x) (omega arith)) (record {
      order = l.order;
      state = subst (λ (z : PathState). path_runs.IsPathStartWith (path_in b w d)
          (λ x. n x + count_by (bytes_eq x) u.elements) z) (sym l.state)
          (IsPathStartWith-add_all (path_in b w d) (path_in old w d) n u.elements u.end (path_state b w d) p.state);
      stack = (path_edits_variable old new w (add_edits old new w d u.elements u.end a)).1 ∙ p.stack;
    }))
    (λ t. path_same b new w d n (λ x. adds_by w x r + n x) (λ x. rw (adds_by_none w x r (other_used w r t)) (omega arith))
    (path_kept b old new w d n (one_keeps load loads uses owner w r old new s f e t) p))

pub loads_path : (uses : Text → VariableUse) (owner w : Text) (d : ℕ) (rs : List Record) (b old new : Environment) (n : Text → ℕ) → uses w ≡ Pathed d → AllSuit uses rs → is_editable w ≡ true
    → effects load owner rs old ≡ Ok new → PathAt b old w d n → PathAt b new w d (λ x. adds w x rs + n x)
loads_path uses owner w d [] b old new n h s f e p = let q : old ≡ new = cc in path_same b new w d n (λ x. adds w x [] + n x) (λ x. omega arith) (subst (λ (c : Environment). PathAt b c w d n) q p)
loads_path uses owner w d (r ∷ rs) b old new n h s f e p =
    let q = parts (effect load owner r old) (effects load owner rs) new e in
    path_same b new w d (λ x. adds w x rs + (adds_by w x r + n x)) (λ x. adds w x (r ∷ rs) + n x) (λ x. omega arith)
    (loads_path uses owner w d rs b q.0 new (λ x. adds_by w x r + n x) h s.1 f q.2 (load_path uses owner w d r b old q.0 n h s.0 f q.1 p))

unload_path : (uses : Text → VariableUse) (owner w : Text) (d : ℕ) (r : Record) (b old new : Environment) (n : Text → ℕ) → uses w ≡ Pathed d → Suits uses r → is_editable w ≡ true
    → effect unload owner r old ≡ Ok new → PathAt b old w d (λ x. adds_by w x r + n x) → PathAt b new w d n
unload_path uses owner w d r b old new n h s f e p = by_test (is_named w (variable_of r)) _
    (λ t. let u = uses_path uses w d r h s t in
    let a = sym (u.unloads owner old) ∙ (effect_edits unload owner r old new e).1 in
    let l = LeavesPath-dropped old new w d u.elements a in
    let p2 : PathAt b old w d (λ x. count_by (bytes_eq x) u.elements + n x) = path_same b old w d (λ x. adds_by w x r + n x) _ (λ x. rw (u.by x) refl) p in
    path_same b new w d (λ x. (count_by (bytes_eq x) u.elements + n x) - count_by (bytes_eq x) u.elements) n (λ x. omega arith) (record {
      order = l.order;
      state = subst (λ (z : PathState). path_runs.IsPathStartWith (path_in b w d) (λ x. (count_by (bytes_eq x) u.elements + n x) - count_by (bytes_eq x) u.elements) z) (sym l.state)
          (IsPathStartWith-drop_all (path_in b w d) (path_in old w d) (λ x. count_by (bytes_eq x) u.elements + n x) u.elements (path_state b w d) p2.state (λ x. omega arith));
      stack = (path_edits_variable old new w (drop_edits old new w d u.elements a)).1 ∙ p.stack;
    }))
    (λ t. path_same b new w d (λ x. adds_by w x r + n x) n (λ x. rw (adds_by_none w x r (other_used w r t)) (omega arith))
    (path_kept b old new w d (λ x. adds_by w x r + n x) (one_keeps unload unloads uses owner w r old new s f e t)
    p))

pub unloads_path : (uses : Text → VariableUse) (owner w : Text) (d : ℕ) (rs : List Record) (b old new : Environment) (n : Text → ℕ) → uses w ≡ Pathed d → AllSuit uses rs → is_editable w ≡ true
    → effects unload owner rs old ≡ Ok new → PathAt b old w d (λ x. adds w x rs + n x) → PathAt b new w d n
unloads_path uses owner w d [] b old new n h s f e p = let q : old ≡ new = cc in subst (λ (c : Environment). PathAt b c w d n) q (path_same b old w d (λ x. adds w x [] + n x) n (λ x. omega arith) p)
unloads_path uses owner w d (r ∷ rs) b old new n h s f e p =
    let q = parts (effect unload owner r old) (effects unload owner rs) new e in
    unloads_path uses owner w d rs b q.0 new n h s.1 f q.2
    (unload_path uses owner w d r b old q.0 (λ x. adds w x rs + n x) h s.0 f q.1 (path_same b old w d (λ x. adds w x (r ∷ rs) + n x) (λ x. adds_by w x r + (adds w x rs + n x)) (λ x. omega arith) p))
