-- Changes that an environment doesn't need can be left out.
use Rattle.std.proofs.Common.{◌≡◌, Bool, true, false, not, ◌&&◌, ◌||◌, List, [], ◌∷◌, ◌++◌, refl, sym, ap, ◌∙◌, Option}
use Rattle.std.proofs.Common.{Some, None, map, Result, Ok, Err, OnOk}
use Rattle.std.specs.Prelude.{bytes_eq, filter, is_some}
use Rattle.std.specs.List.{list_all}
use Rattle.std.proofs.lemmas.Bool.{false≢true}
use Rattle.std.proofs.lemmas.List.Elements.{filter-append}
use Rattle.envvars.specs.Texts.{Text, has}
use Rattle.envvars.specs.Fields.{are_distinct}
use Rattle.envvars.specs.Environment.{Environment, lookup, with_value}
use Rattle.envvars.specs.Changes.{NewValue, same_value, applied}
use Rattle.envvars.proofs.EnvLemmas.{with_value-same}
use Rattle.envvars.proofs.ChangeLemmas.{applied-with_value}
use Rattle.envvars.proofs.EditLemmas.{both_true}
use Rattle.envstate.specs.loaded_list.LoadedTexts.{names_variable, files_variable, conflicts_variable, prereqs_variable}
use Rattle.envstate.specs.loaded_list.Loaded.{Entry, names_text, files_text, conflicts_text, prereqs_text, loaded_changes, with_loaded}
use Rattle.envstate.specs.loaded_list.NeededChanges.{is_needed, needed_changes}

abbrev names : List NewValue → List Text
names cs = map (λ c. c.0) cs

or_no : (a b : Bool) → (a || b) ≡ false → (a ≡ false) × (b ≡ false)
or_no true b h = absurd (false≢true (sym h))
or_no false b h = (refl, h)

none_of : (v : Option Text) → is_some v ≡ false → v ≡ None
none_of None h = refl
none_of (Some t) h = absurd (false≢true (sym h))

not_true : (a : Bool) → not a ≡ true → a ≡ false
not_true true h = absurd (false≢true h)
not_true false h = refl

-- a change that isn't needed gives the variable what it has
has_it : (e : Environment) (c : NewValue) → is_needed e c ≡ false → (c.1 ≡ None) × (lookup e c.0 ≡ None)
has_it e c h = let k = or_no (is_some c.1) (is_some (lookup e c.0)) h in (none_of c.1 k.0, none_of (lookup e c.0) k.1)

-- a name that no change names is named by none of those that are needed
unnamed : (e : Environment) (name : Text) (cs : List NewValue) → has name (names cs) ≡ false → has name (names (filter (is_needed e) cs)) ≡ false
unnamed e name [] h = refl
unnamed e name (c ∷ cs) h =
    let k = or_no (bytes_eq name c.0) (has name (names cs)) h in at (is_needed e c) refl k.0 (unnamed e name cs k.1)
  where
    at : (b : Bool) → is_needed e c ≡ b → bytes_eq name c.0 ≡ false → has name (names (filter (is_needed e) cs)) ≡ false
        → has name (names (filter (is_needed e) (c ∷ cs))) ≡ false
    at true w k rest = rw (w, k) rest
    at false w k rest = rw w rest

needed_alone : (e : Environment) (cs : List NewValue) → are_distinct (names cs) ≡ true → applied (filter (is_needed e) cs) e ≡ applied cs e
needed_alone e [] d = refl
needed_alone e (c ∷ cs) d =
    let both = both_true (not (has c.0 (names cs))) (are_distinct (names cs)) d in
    at (is_needed e c) refl (not_true (has c.0 (names cs)) both.0) (needed_alone e cs both.1)
  where
    at : (b : Bool) → is_needed e c ≡ b → has c.0 (names cs) ≡ false → applied (filter (is_needed e) cs) e ≡ applied cs e
        → applied (filter (is_needed e) (c ∷ cs)) e ≡ applied (c ∷ cs) e
    at true w apart rest =
        rw w (applied-with_value (filter (is_needed e) cs) e c.0 c.1 (unnamed e c.0 cs apart)
        ∙ ap (λ (x : Environment). with_value x c.0 c.1) rest ∙ sym (applied-with_value cs e c.0 c.1 apart))
    at false w apart rest =
        let k = has_it e c w in
        let same : with_value e c.0 c.1 ≡ e = ap (with_value e c.0) (k.0 ∙ sym k.1) ∙ with_value-same e c.0 in
        rw w (rest ∙ ap (applied cs) (sym same))

-- so it is after two others
needed_later : (e : Environment) (a b : Text) (v w : Option Text) (cs : List NewValue) → has a (names cs) ≡ false → has b (names cs) ≡ false → are_distinct (names cs) ≡ true
    → applied (filter (is_needed e) cs) (with_value (with_value e a v) b w) ≡ applied cs (with_value (with_value e a v) b w)
needed_later e a b v w cs ha hb d =
    applied-with_value (filter (is_needed e) cs) (with_value e a v) b w (unnamed e b cs hb)
    ∙ ap (λ (x : Environment). with_value x b w)
    (applied-with_value (filter (is_needed e) cs) e a v (unnamed e a cs ha) ∙ ap (λ (x : Environment). with_value x a v) (needed_alone e cs d)
    ∙ sym (applied-with_value cs e a v ha))
    ∙ sym (applied-with_value cs (with_value e a v) b w hb)

needed_written : (e : Environment) (xs : List Entry) → applied (needed_changes e xs) e ≡ with_loaded e xs
needed_written e xs =
    needed_later e names_variable files_variable (names_text xs) (files_text xs)
    ((conflicts_variable, conflicts_text xs) ∷ (prereqs_variable, prereqs_text xs) ∷ []) refl refl refl

each_made : (e : Environment) (cs : List NewValue)
    → list_all (λ (c : NewValue). same_value (lookup e c.0) c.1) (filter (is_needed e) cs) ≡ list_all (λ (c : NewValue). same_value (lookup e c.0) c.1) cs
each_made e [] = refl
each_made e (c ∷ cs) = at (is_needed e c) refl (each_made e cs)
  where
    at : (b : Bool) → is_needed e c ≡ b
        → list_all (λ (d : NewValue). same_value (lookup e d.0) d.1) (filter (is_needed e) cs) ≡ list_all (λ (d : NewValue). same_value (lookup e d.0) d.1) cs
        → list_all (λ (d : NewValue). same_value (lookup e d.0) d.1) (filter (is_needed e) (c ∷ cs)) ≡ list_all (λ (d : NewValue). same_value (lookup e d.0) d.1) (c ∷ cs)
    at true w rest = rw w (ap (λ (b : Bool). same_value (lookup e c.0) c.1 && b) rest)
    at false w rest = let k = has_it e c w in rw (w, k.0, k.1) rest

pub needed_made : (e : Environment) (xs : List Entry)
    → list_all (λ (c : NewValue). same_value (lookup e c.0) c.1) (needed_changes e xs) ≡ list_all (λ (c : NewValue). same_value (lookup e c.0) c.1) (loaded_changes xs)
needed_made e xs =
    ap (λ (b : Bool). same_value (lookup e names_variable) (names_text xs) && (same_value (lookup e files_variable) (files_text xs) && b))
    (each_made e ((conflicts_variable, conflicts_text xs) ∷ (prereqs_variable, prereqs_text xs) ∷ []))

-- four changes that are pushed one after another, with the values that they have
pub pushed_four : (e : Environment) (a b c d : Text) (s t u v p q r o : Option Text) (xs ys zs us vs : List NewValue)
    → xs ≡ [] → ys ≡ xs ++ (a, s) ∷ [] → zs ≡ ys ++ (b, t) ∷ [] → us ≡ zs ++ filter (is_needed e) ((c, u) ∷ []) → vs ≡ us ++ filter (is_needed e) ((d, v) ∷ [])
    → s ≡ p → t ≡ q → u ≡ r → v ≡ o
    → vs ≡ (a, p) ∷ (b, q) ∷ filter (is_needed e) ((c, r) ∷ (d, o) ∷ [])
pushed_four e a b c d s t u v p q r o xs ys zs us vs hx hy hz hu hv hs ht hw ho =
    hv ∙ ap (λ l. l ++ filter (is_needed e) ((d, v) ∷ [])) (hu ∙ ap (λ l. l ++ filter (is_needed e) ((c, u) ∷ [])) (hz ∙ ap (λ l. l ++ (b, t) ∷ [])
    (hy ∙ ap (λ l. l ++ (a, s) ∷ []) hx)))
    ∙ ap (λ l. (a, s) ∷ (b, t) ∷ l) (sym (filter-append (is_needed e) ((c, u) ∷ []) ((d, v) ∷ [])))
    ∙ ap (λ m. (a, m) ∷ (b, t) ∷ filter (is_needed e) ((c, u) ∷ (d, v) ∷ [])) hs
    ∙ ap (λ m. (a, p) ∷ (b, m) ∷ filter (is_needed e) ((c, u) ∷ (d, v) ∷ [])) ht
    ∙ ap (λ m. (a, p) ∷ (b, q) ∷ filter (is_needed e) ((c, m) ∷ (d, v) ∷ [])) hw
    ∙ ap (λ m. (a, p) ∷ (b, q) ∷ filter (is_needed e) ((c, r) ∷ (d, m) ∷ [])) ho

-- what is left to do makes the list written
pub needed_ok : {E : Type 0} (r : Result (Unit {0}) E) (e new : Environment) (xs : List Entry) (cs : List NewValue)
    → cs ≡ needed_changes e xs → OnOk r (new ≡ applied cs e) → OnOk r (new ≡ with_loaded e xs)
needed_ok (Ok u) e new xs cs h k = k ∙ ap (λ ys. applied ys e) h ∙ needed_written e xs
needed_ok (Err fault) e new xs cs h k = k
