-- Edits of one path variable, one after another, as one edit.
use Rattle.std.proofs.Common.{◌≡◌, ℕ, ◌+◌, ◌≤◌, Bool, true, false, cond, ◌&&◌, List, [], ◌∷◌, ◌++◌, refl, sym, ap}
use Rattle.std.proofs.Common.{◌∙◌, arith, Option, Some, None, Result, Ok, Err}
use Rattle.std.specs.Prelude.{bytes_eq, if◌then◌else◌}
use Rattle.std.specs.List.{list_all}
use Rattle.std.specs.Option.{option_or}
use Rattle.std.proofs.Math.ListN.{length}
use Rattle.std.proofs.lemmas.List.Folds.{list_all-append}
use Rattle.envvars.specs.Texts.{Text}
use Rattle.envvars.specs.Names.{share_name, name_reason}
use Rattle.envvars.specs.Environment.{Environment, lookup, with_value}
use Rattle.envvars.specs.Reasons.{EnvReason, unless, bad_value, counter_full}
use Rattle.envvars.proofs.EditLemmas.{both_true, and_both, no_reason, no_value_reason}
use Rattle.envvars.proofs.EnvLemmas.{same_environment, lookup-with_value}
use Rattle.envstate.specs.paths.Paths.{PathState, HasRoom, largest_counter, add, drop, add_front, add_back, add_all}
use Rattle.envstate.specs.paths.Paths.{drop_all}
use Rattle.envstate.specs.paths.PathTexts.{is_delimiter, elements_text, counters_as_text}
use Rattle.envstate.specs.paths.PathVariables.{path_in, with_path, is_element, path_reason, counters_fit}
use Rattle.envstate.specs.paths.PathVariables.{written_path, added_path, dropped_path}
use Rattle.envstate.specs.declared.paths.adding.End.{End}
use Rattle.envstate.specs.declared.paths.adding.End.TheVariants.{Front, Back}
use Rattle.envstate.proofs.paths.PathSteps.{small_fits}
use Rattle.envstate.proofs.paths.PathOrderLemmas.{Accepts, add_accepts, drop_accepts, path_in-written}

-- the elements of two additions at an end, as those of one
abbrev pub both_added : List Text → List Text → End → List Text
both_added xs ys Front = ys ++ xs
both_added xs ys Back = xs ++ ys

-- states

front_more : (s : PathState) (xs ys : List Text) → add_front (add_front s xs) ys ≡ add_front s (ys ++ xs)
front_more s xs [] = refl
front_more s xs (y ∷ ys) = ap (λ (t : PathState). add t y Front) (front_more s xs ys)

back_more : (s : PathState) (xs ys : List Text) → add_back (add_back s xs) ys ≡ add_back s (xs ++ ys)
back_more s [] ys = refl
back_more s (x ∷ xs) ys = back_more (add s x Back) xs ys

pub add_more : (s : PathState) (xs ys : List Text) (end : End) → add_all (add_all s xs end) ys end ≡ add_all s (both_added xs ys end) end
add_more s xs ys Front = front_more s xs ys
add_more s xs ys Back = back_more s xs ys

pub drop_more : (s : PathState) (xs ys : List Text) → drop_all (drop_all s xs) ys ≡ drop_all s (xs ++ ys)
drop_more s [] ys = refl
drop_more s (x ∷ xs) ys = drop_more (drop s x) xs ys

-- counters

one_more : (n : ℕ) (b : Bool) → n + cond b 1 0 ≤ n + 1
one_more n true = omega arith
one_more n false = omega arith

raised_front : (s : PathState) (xs : List Text) (x : Text) → (add_front s xs).counter x ≤ s.counter x + length xs
raised_front s [] x = omega arith
raised_front s (y ∷ ys) x =
    let one : (add_front s (y ∷ ys)).counter x ≤ (add_front s ys).counter x + 1 = one_more ((add_front s ys).counter x) (bytes_eq x y) in
    let rest : (add_front s ys).counter x ≤ s.counter x + length ys = raised_front s ys x in
    omega arith

raised_back : (s : PathState) (xs : List Text) (x : Text) → (add_back s xs).counter x ≤ s.counter x + length xs
raised_back s [] x = omega arith
raised_back s (y ∷ ys) x =
    let one : (add s y Back).counter x ≤ s.counter x + 1 = one_more (s.counter x) (bytes_eq x y) in
    let rest : (add_back s (y ∷ ys)).counter x ≤ (add s y Back).counter x + length ys = raised_back (add s y Back) ys x in
    omega arith

raised_all : (s : PathState) (xs : List Text) (end : End) (x : Text) → (add_all s xs end).counter x ≤ s.counter x + length xs
raised_all s xs Front x = raised_front s xs x
raised_all s xs Back x = raised_back s xs x

within : (c k n more : ℕ) → c ≤ k + n → n ≤ more → k + more ≤ largest_counter → c ≤ largest_counter
within c k n more a b h = omega arith

pub room_fits : (s : PathState) (xs : List Text) (end : End) (more : ℕ) → HasRoom s more → length xs ≤ more → counters_fit (add_all s xs end) ≡ true
room_fits s xs end more room l =
    small_fits (add_all s xs end) (λ x. within ((add_all s xs end).counter x) (s.counter x) (length xs) more (raised_all s xs end x) l (room x))

-- environments

twice_at : (a b : Bool) (v w t u o : Option Text) → cond b w (cond a v (cond b u (cond a t o))) ≡ cond b w (cond a v o)
twice_at true true v w t u o = refl
twice_at true false v w t u o = refl
twice_at false true v w t u o = refl
twice_at false false v w t u o = refl

with_path_at : (e : Environment) (name : Text) (d : ℕ) (s : PathState) (q : Text) → lookup (with_path e name d s) q
    ≡ cond (bytes_eq q (share_name name)) (counters_as_text s) (cond (bytes_eq q name) (elements_text d s.elements) (lookup e q))
with_path_at e name d s q =
    lookup-with_value (with_value e name (elements_text d s.elements)) (share_name name) (counters_as_text s) q
    ∙ ap (cond (bytes_eq q (share_name name)) (counters_as_text s)) (lookup-with_value e name (elements_text d s.elements) q)

-- what was written first is written over
pub with_path-twice : (e : Environment) (name : Text) (d : ℕ) (s t : PathState) → with_path (with_path e name d s) name d t ≡ with_path e name d t
with_path-twice e name d s t = same_environment _ _ (λ q.
    with_path_at (with_path e name d s) name d t q
    ∙ ap (λ o. cond (bytes_eq q (share_name name)) (counters_as_text t) (cond (bytes_eq q name) (elements_text d t.elements) o)) (with_path_at e name d s q)
    ∙ twice_at (bytes_eq q name) (bytes_eq q (share_name name)) (elements_text d t.elements) (counters_as_text t) (elements_text d s.elements) (counters_as_text s) (lookup e q)
    ∙ sym (with_path_at e name d t q))

-- what allows an edit

named : (o : Option EnvReason) (name : Text) (t : Bool) → option_or o (if t then None else Some (bad_value name)) ≡ None → o ≡ None
named None name t h = refl
named (Some r) name t h = cc

allowed : (o : Option EnvReason) (name : Text) (t : Bool) → o ≡ None → t ≡ true → option_or o (if t then None else Some (bad_value name)) ≡ None
allowed o name t h k = rw (h, k) refl

-- the elements of two edits are allowed together
pub both_allowed : (name : Text) (d : ℕ) (xs ys : List Text) → path_reason name d xs ≡ None → path_reason name d ys ≡ None → path_reason name d (xs ++ ys) ≡ None
both_allowed name d xs ys h k =
    let a = both_true (is_delimiter d) (list_all (is_element d) xs) (no_value_reason (name_reason name) name (is_delimiter d && list_all (is_element d) xs) h) in
    let b = both_true (is_delimiter d) (list_all (is_element d) ys) (no_value_reason (name_reason name) name (is_delimiter d && list_all (is_element d) ys) k) in
    allowed (name_reason name) name (is_delimiter d && list_all (is_element d) (xs ++ ys))
    (named (name_reason name) name (is_delimiter d && list_all (is_element d) xs) h)
    (and_both (is_delimiter d) (list_all (is_element d) (xs ++ ys)) a.0
    (list_all-append (is_element d) xs ys ∙ and_both (list_all (is_element d) xs) (list_all (is_element d) ys) a.1 b.1))

pub both_added_allowed : (name : Text) (d : ℕ) (xs ys : List Text) (end : End) → path_reason name d xs ≡ None → path_reason name d ys ≡ None → path_reason name d (both_added xs ys end) ≡ None
both_added_allowed name d xs ys Front h k = both_allowed name d ys xs k h
both_added_allowed name d xs ys Back h k = both_allowed name d xs ys h k

-- edits

abbrev if_fits : Environment → Text → ℕ → PathState → Bool → Result Environment EnvReason
if_fits e name d s b = if b then Ok (with_path e name d s) else Err (counter_full name)

-- an addition that is allowed, where the counters fit
pub added_as : (e : Environment) (name : Text) (d : ℕ) (xs : List Text) (end : End) → path_reason name d xs ≡ None → counters_fit (add_all (path_in e name d) xs end) ≡ true
    → added_path e name d xs end ≡ Ok (with_path e name d (add_all (path_in e name d) xs end))
added_as e name d xs end h f =
    ap (λ o. unless o (written_path e name d (add_all (path_in e name d) xs end))) h ∙ ap (if_fits e name d (add_all (path_in e name d) xs end)) f

pub dropped_as : (e : Environment) (name : Text) (d : ℕ) (xs : List Text) → path_reason name d xs ≡ None
    → dropped_path e name d xs ≡ Ok (with_path e name d (drop_all (path_in e name d) xs))
dropped_as e name d xs h = ap (λ o. unless o (Ok (with_path e name d (drop_all (path_in e name d) xs)))) h

-- An addition for which there is room gives this environment.
pub added_once : (e : Environment) (name : Text) (d : ℕ) (xs : List Text) (end : End) (more : ℕ) → path_reason name d xs ≡ None → HasRoom (path_in e name d) more → length xs ≤ more
    → added_path e name d xs end ≡ Ok (with_path e name d (add_all (path_in e name d) xs end))
added_once e name d xs end more h room l = added_as e name d xs end h (room_fits (path_in e name d) xs end more room l)

after_first : (old mid : Environment) (name : Text) (d : ℕ) (s t : PathState) → Accepts old mid name d s → (path_in mid name d ≡ s) × (with_path mid name d t ≡ with_path old name d t)
after_first old mid name d s t a = (
  ap (λ (e : Environment). path_in e name d) a.written ∙ path_in-written old name d s a.writable,
  ap (λ (e : Environment). with_path e name d t) a.written ∙ with_path-twice old name d s t,
)

-- After an accepted addition another one, for which there is room, gives what both together give.
pub added_twice : (old mid : Environment) (name : Text) (d : ℕ) (xs ys : List Text) (end : End) (more : ℕ)
    → added_path old name d xs end ≡ Ok mid → path_reason name d ys ≡ None → HasRoom (path_in old name d) more → length (both_added xs ys end) ≤ more
    → added_path mid name d ys end ≡ added_path old name d (both_added xs ys end) end
added_twice old mid name d xs ys end more h k room l =
    let s = path_in old name d in
    let g = no_reason (path_reason name d xs) (written_path old name d (add_all s xs end)) mid h in
    let f : counters_fit (add_all s (both_added xs ys end) end) ≡ true = room_fits s (both_added xs ys end) end more room l in
    let p = after_first old mid name d (add_all s xs end) (add_all s (both_added xs ys end) end) (add_accepts old mid name d xs end h) in
    let e : add_all (path_in mid name d) ys end ≡ add_all s (both_added xs ys end) end = ap (λ (t : PathState). add_all t ys end) p.0 ∙ add_more s xs ys end in
    added_as mid name d ys end k (ap counters_fit e ∙ f)
    ∙ ap (λ (t : PathState). Ok (with_path mid name d t)) e
    ∙ ap (λ (x : Environment). Ok x) p.1
    ∙ sym (added_as old name d (both_added xs ys end) end (both_added_allowed name d xs ys end g.0 k) f)

-- After an accepted drop, another one makes what both together make.
pub dropped_twice : (old mid : Environment) (name : Text) (d : ℕ) (xs ys : List Text) → dropped_path old name d xs ≡ Ok mid → path_reason name d ys ≡ None
    → dropped_path mid name d ys ≡ dropped_path old name d (xs ++ ys)
dropped_twice old mid name d xs ys h k =
    let s = path_in old name d in
    let g = no_reason (path_reason name d xs) (Ok (with_path old name d (drop_all s xs))) mid h in
    let p = after_first old mid name d (drop_all s xs) (drop_all s (xs ++ ys)) (drop_accepts old mid name d xs h) in
    let e : drop_all (path_in mid name d) ys ≡ drop_all s (xs ++ ys) = ap (λ (t : PathState). drop_all t ys) p.0 ∙ drop_more s xs ys in
    dropped_as mid name d ys k
    ∙ ap (λ (t : PathState). Ok (with_path mid name d t)) e
    ∙ ap (λ (x : Environment). Ok x) p.1
    ∙ sym (dropped_as old name d (xs ++ ys) (both_allowed name d xs ys g.0 k))
