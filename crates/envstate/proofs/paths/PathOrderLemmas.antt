-- What edits of path variables leave in an environment.
use Rattle.std.proofs.Common.{◌≡◌, ℕ, ◌-◌, ◌≤◌, Bool, true, false, cond, not, ◌||◌, ◌&&◌, List, [], ◌∷◌, ◌++◌, refl}
use Rattle.std.proofs.Common.{sym, ap, ◌∙◌, subst, arith, ltb, leb, eqb, Ok, Err, IsTrue, string_bytes}
use Rattle.std.specs.Prelude.{bytes_eq, if◌then◌else◌}
use Rattle.std.specs.List.{list_all, list_any, AllByRecursion}
use Rattle.std.proofs.Math.ListN.{length}
use Rattle.std.proofs.lemmas.Bool.{false≢true}
use Rattle.std.proofs.lemmas.Bool.Decides.{nat_tests}
use Rattle.envvars.specs.Texts.{Text, has}
use Rattle.std.specs.Option.{option_map}
use Rattle.envvars.specs.Names.{share_name, name_reason}
use Rattle.envvars.specs.Environment.{Environment, lookup, with_value}
use Rattle.envvars.specs.Fields.{without}
use Rattle.envstate.specs.paths.Paths.{PathState, IsPathState, CountersFit, largest_counter, put_at, add, drop, add_front}
use Rattle.envstate.specs.paths.Paths.{add_back, add_all, drop_all}
use Rattle.envstate.specs.paths.PathTexts.{is_delimiter, HasNoDelimiter, IsWritable, state_of, elements_text, counters_as_text}
use Rattle.envstate.specs.paths.PathVariables.{path_in, with_path, is_element, counters_fit, path_reason, added_path}
use Rattle.envstate.specs.paths.PathVariables.{dropped_path, written_path}
use Rattle.envstate.specs.paths.PathEdits.{AreTexts}
use Rattle.envstate.specs.paths.PathOrder.{IsPathInOrder, LeavesPath}
use Rattle.envstate.specs.declared.paths.path.PathTexts.{PathTexts}
use Rattle.envvars.specs.Reasons.{EnvReason, counter_full}
use Rattle.envstate.specs.declared.paths.adding.End.{End}
use Rattle.envstate.specs.declared.paths.adding.End.TheVariants.{Front, Back}
use Rattle.envvars.proofs.TextLemmas.{same_text, bytes_eq-same}
use Rattle.envvars.proofs.EditLemmas.{both_true, passes_each, looked, no_reason, no_value_reason, same_ok}
use Rattle.envvars.proofs.EnvLemmas.{lookup-with_value}
use Rattle.envstate.proofs.paths.PathLemmas.{IsPathState-add, IsPathState-drop}
use Rattle.envstate.proofs.paths.RoundTrip.{state_of-written, unparted_filter}
use Rattle.envstate.proofs.paths.Readable.{IsWritable-state_of}

-- elements without the delimiter

neither : (a b : Bool) → not (a || b) ≡ true → a ≡ false
neither true b h = absurd (false≢true h)
neither false b h = refl

pub element_unparted : (d : ℕ) (x : Text) → is_element d x ≡ true → HasNoDelimiter d x
element_unparted d [] h = refl
element_unparted d (b ∷ bs) h =
    let g = both_true (not (eqb b d || eqb b 0)) (is_element d bs) h in
    ap (λ (t : Bool). t || list_any (λ c. eqb c d) bs) (neither (eqb b d) (eqb b 0) g.0) ∙ element_unparted d bs g.1

unparted_end : (d : ℕ) (xs : List Text) (x : Text) → AllByRecursion (HasNoDelimiter d) xs → HasNoDelimiter d x → AllByRecursion (HasNoDelimiter d) (xs ++ x ∷ [])
unparted_end d [] x h k = (k, tt)
unparted_end d (y ∷ ys) x h k = (h.0, unparted_end d ys x h.1 k)

unparted_placed : (d : ℕ) (xs : List Text) (x : Text) (end : End) → AllByRecursion (HasNoDelimiter d) xs → HasNoDelimiter d x → AllByRecursion (HasNoDelimiter d) (put_at xs x end)
unparted_placed d xs x Front h k = (k, h)
unparted_placed d xs x Back h k = unparted_end d xs x h k

unparted_if : (d : ℕ) (t : Bool) (xs ys : List Text) → AllByRecursion (HasNoDelimiter d) xs → AllByRecursion (HasNoDelimiter d) ys → AllByRecursion (HasNoDelimiter d) (cond t xs ys)
unparted_if d true xs ys h k = h
unparted_if d false xs ys h k = k

-- what edits keep, whatever the counters

record Sound (d : ℕ) (s : PathState) : Type 0 where
  valid : IsPathState s
  no_delimiter : AllByRecursion (HasNoDelimiter d) s.elements

sound_add : (d : ℕ) (s : PathState) (x : Text) (end : End) → is_element d x ≡ true → Sound d s → Sound d (add s x end)
sound_add d s x end e h = record {
  valid = IsPathState-add s x end h.valid;
  no_delimiter = unparted_if d (has x s.elements) s.elements (put_at s.elements x end) h.no_delimiter (unparted_placed d s.elements x end h.no_delimiter (element_unparted d x e));
}

sound_front : (d : ℕ) (s : PathState) (xs : List Text) → list_all (is_element d) xs ≡ true → Sound d s → Sound d (add_front s xs)
sound_front d s [] e h = h
sound_front d s (x ∷ xs) e h = let g = both_true (is_element d x) (list_all (is_element d) xs) e in sound_add d (add_front s xs) x Front g.0 (sound_front d s xs g.1 h)

sound_back : (d : ℕ) (s : PathState) (xs : List Text) → list_all (is_element d) xs ≡ true → Sound d s → Sound d (add_back s xs)
sound_back d s [] e h = h
sound_back d s (x ∷ xs) e h = let g = both_true (is_element d x) (list_all (is_element d) xs) e in sound_back d (add s x Back) xs g.1 (sound_add d s x Back g.0 h)

sound_all : (d : ℕ) (s : PathState) (xs : List Text) (end : End) → list_all (is_element d) xs ≡ true → Sound d s → Sound d (add_all s xs end)
sound_all d s xs Front e h = sound_front d s xs e h
sound_all d s xs Back e h = sound_back d s xs e h

fits_at : (n : ℕ) (h : Bool) → h ≡ ltb 0 n → (h ≡ true → leb n largest_counter ≡ true) → n ≤ largest_counter
fits_at n true e k = let l : leb n largest_counter ≡ true = k refl in grind (arith, nat_tests)
fits_at n false e k = let l : ltb 0 n ≡ false = sym e in grind (arith, nat_tests)

fits_each : (s : PathState) → IsPathState s → counters_fit s ≡ true → CountersFit s
fits_each s is f x = fits_at (s.counter x) (has x s.elements) (is x) (λ h. passes_each (λ y. leb (s.counter y) largest_counter) x s.elements f h)

pub IsWritable-add_all : (d : ℕ) (s : PathState) (xs : List Text) (end : End) → IsWritable d s
    → list_all (is_element d) xs ≡ true → counters_fit (add_all s xs end) ≡ true → IsWritable d (add_all s xs end)
IsWritable-add_all d s xs end w e f =
    let sound = sound_all d s xs end e (record { valid = w.valid; no_delimiter = w.no_delimiter }) in
    record { valid = sound.valid; fit = fits_each (add_all s xs end) sound.valid f; no_delimiter = sound.no_delimiter }

fewer : (n k : ℕ) (b : Bool) → n ≤ k → n - cond b 1 0 ≤ k
fewer n k true l = omega arith
fewer n k false l = omega arith

writable_drop : (d : ℕ) (s : PathState) (x : Text) → IsWritable d s → IsWritable d (drop s x)
writable_drop d s x w = record {
  valid = IsPathState-drop s x w.valid;
  fit = λ y. fewer (s.counter y) largest_counter (bytes_eq y x) (w.fit y);
  no_delimiter = unparted_if d (leb (s.counter x) 1) (without x s.elements) s.elements (unparted_filter d (λ y. not (bytes_eq y x)) s.elements w.no_delimiter) w.no_delimiter;
}

pub IsWritable-drop_all : (d : ℕ) (s : PathState) (xs : List Text) → IsWritable d s → IsWritable d (drop_all s xs)
IsWritable-drop_all d s [] w = w
IsWritable-drop_all d s (x ∷ xs) w = IsWritable-drop_all d (drop s x) xs (writable_drop d s x w)

-- a state in an environment

pub share_apart : (name : Text) → bytes_eq name (share_name name) ≡ false
share_apart name = apart (bytes_eq name (share_name name)) refl
  where
    apart : (b : Bool) → bytes_eq name (share_name name) ≡ b → b ≡ false
    apart true e = let l : length name ≡ length (share_name name) = ap length (same_text name (share_name name) e) in absurd (omega arith)
    apart false e = refl

lookup-elements : (e : Environment) (name : Text) (d : ℕ) (s : PathState) → lookup (with_path e name d s) name ≡ elements_text d s.elements
lookup-elements e name d s =
    lookup-with_value (with_value e name (elements_text d s.elements)) (share_name name) (counters_as_text s) name ∙ looked (bytes_eq name (share_name name)) _ _ (share_apart name)
    ∙ lookup-with_value e name (elements_text d s.elements) name ∙ ap (λ (t : Bool). cond t (elements_text d s.elements) (lookup e name)) (bytes_eq-same name)

lookup-counters : (e : Environment) (name : Text) (d : ℕ) (s : PathState) → lookup (with_path e name d s) (share_name name) ≡ counters_as_text s
lookup-counters e name d s =
    lookup-with_value (with_value e name (elements_text d s.elements)) (share_name name) (counters_as_text s) (share_name name)
    ∙ ap (λ (t : Bool). cond t (counters_as_text s) (lookup (with_value e name (elements_text d s.elements)) (share_name name))) (bytes_eq-same (share_name name))

pub path_in-written : (e : Environment) (name : Text) (d : ℕ) (s : PathState) → IsWritable d s → path_in (with_path e name d s) name d ≡ s
path_in-written e name d s w =
    ap (λ t. state_of d t (lookup (with_path e name d s) (share_name name))) (lookup-elements e name d s) ∙ ap (state_of d (elements_text d s.elements)) (lookup-counters e name d s)
    ∙ state_of-written d s w

pub in_order-written : (e : Environment) (name : Text) (d : ℕ) (s : PathState) → IsWritable d s → IsPathInOrder (with_path e name d s) name d
in_order-written e name d s w = record {
  elements = lookup-elements e name d s ∙ ap (λ (t : PathState). elements_text d t.elements) (sym (path_in-written e name d s w));
  counters = lookup-counters e name d s ∙ ap counters_as_text (sym (path_in-written e name d s w));
}

pub lookup-others : (e : Environment) (name : Text) (d : ℕ) (s : PathState) (q : Text) → bytes_eq q name ≡ false → bytes_eq q (share_name name) ≡ false → lookup (with_path e name d s) q ≡ lookup e q
lookup-others e name d s q a b =
    lookup-with_value (with_value e name (elements_text d s.elements)) (share_name name) (counters_as_text s) q ∙ looked (bytes_eq q (share_name name)) _ _ b
    ∙ lookup-with_value e name (elements_text d s.elements) q ∙ looked (bytes_eq q name) _ _ a

-- accepted edits

pub record Accepts (old new : Environment) (name : Text) (d : ℕ) (s : PathState) : Type 0 where
  pub written : new ≡ with_path old name d s
  pub writable : IsWritable d s

fits_from : (t : Bool) (e new : Environment) (r : EnvReason) → (if t then Ok e else Err r) ≡ Ok new → (t ≡ true) × (new ≡ e)
fits_from true e new r h = (refl, cc)
fits_from false e new r h = cc

pub add_accepts : (old new : Environment) (name : Text) (d : ℕ) (xs : List Text) (end : End) → added_path old name d xs end ≡ Ok new → Accepts old new name d (add_all (path_in old name d) xs end)
add_accepts old new name d xs end h =
    let g = no_reason (path_reason name d xs) (written_path old name d (add_all (path_in old name d) xs end)) new h in
    let f = fits_from (counters_fit (add_all (path_in old name d) xs end)) (with_path old name d (add_all (path_in old name d) xs end)) new (counter_full name) g.1 in
    let e = both_true (is_delimiter d) (list_all (is_element d) xs) (no_value_reason (name_reason name) name (is_delimiter d && list_all (is_element d) xs) g.0) in
    record { written = f.1; writable = IsWritable-add_all d (path_in old name d) xs end (IsWritable-state_of d (lookup old name) (lookup old (share_name name))) e.1 f.0 }

pub drop_accepts : (old new : Environment) (name : Text) (d : ℕ) (xs : List Text) → dropped_path old name d xs ≡ Ok new → Accepts old new name d (drop_all (path_in old name d) xs)
drop_accepts old new name d xs h =
    let g = no_reason (path_reason name d xs) (Ok (with_path old name d (drop_all (path_in old name d) xs))) new h in
    record {
      written = same_ok (with_path old name d (drop_all (path_in old name d) xs)) new _ refl g.1;
      writable = IsWritable-drop_all d (path_in old name d) xs (IsWritable-state_of d (lookup old name) (lookup old (share_name name)));
    }

leaves : (old new : Environment) (name : Text) (d : ℕ) (s : PathState) → Accepts old new name d s → LeavesPath old new name d s
leaves old new name d s a = record {
  state = ap (λ (e : Environment). path_in e name d) a.written ∙ path_in-written old name d s a.writable;
  order = subst (λ (e : Environment). IsPathInOrder e name d) (sym a.written) (in_order-written old name d s a.writable);
  others = λ q h k. ap (λ (e : Environment). lookup e q) a.written ∙ lookup-others old name d s q h k;
}

pub LeavesPath-added : (old new : Environment) (name : Text) (d : ℕ) (xs : List Text) (end : End)
    → added_path old name d xs end ≡ Ok new → LeavesPath old new name d (add_all (path_in old name d) xs end)
LeavesPath-added old new name d xs end h = leaves old new name d _ (add_accepts old new name d xs end h)

pub LeavesPath-dropped : (old new : Environment) (name : Text) (d : ℕ) (xs : List Text) → dropped_path old name d xs ≡ Ok new → LeavesPath old new name d (drop_all (path_in old name d) xs)
LeavesPath-dropped old new name d xs h = leaves old new name d _ (drop_accepts old new name d xs h)

-- a path is in order exactly where its texts are those that its state is written as
pub order_decided : (e : Environment) (name share : Text) (d : ℕ) (s : PathState) (texts : PathTexts) (b : Bool) → share ≡ share_name name → s ≡ path_in e name d → AreTexts texts d s
    → (IsTrue b → (lookup e name ≡ option_map string_bytes texts.elements) × (lookup e share ≡ option_map string_bytes texts.counters))
    × ((lookup e name ≡ option_map string_bytes texts.elements) × (lookup e share ≡ option_map string_bytes texts.counters) → IsTrue b)
    → (IsTrue b → IsPathInOrder e name d) × (IsPathInOrder e name d → IsTrue b)
order_decided e name share d s texts b named read written held =
    let t : option_map string_bytes texts.elements ≡ elements_text d (path_in e name d).elements = written.elements ∙ ap (λ (k : PathState). elements_text d k.elements) read in
    let u : option_map string_bytes texts.counters ≡ counters_as_text (path_in e name d) = written.counters ∙ ap counters_as_text read in
    let same : lookup e share ≡ lookup e (share_name name) = ap (lookup e) named in (
      λ k. let h = held.0 k in record { elements = h.0 ∙ t; counters = sym same ∙ (h.1 ∙ u) },
      λ o. held.1 (o.elements ∙ sym t, same ∙ (o.counters ∙ sym u)),
    )
