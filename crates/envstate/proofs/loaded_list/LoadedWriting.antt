-- Edits of the loaded list, and the texts that it is written as.
use Rattle.std.proofs.Common.{◌≡◌, ℕ, Bool, true, false, cond, not, ◌+◌, ◌||◌, ◌&&◌, ◌<◌, List, [], ◌∷◌, ◌++◌}
use Rattle.std.proofs.Common.{refl, sym, ap, ◌∙◌, arith, length, take, get_or, Option, Some, None, Result, Ok, Err}
use Rattle.std.proofs.Common.{string_bytes, map, Global}
use Rattle.std.specs.Prelude.{filter, find, flat_map, bytes_eq}
use Rattle.std.specs.Borrow.{Bor}
use Rattle.std.specs.Option.{option_map}
use Rattle.std.specs.List.{list_all, list_any}
use Rattle.std.specs.declared.string.String.{String}
use Rattle.std.specs.declared.vec.Vec.{Vec}
use Rattle.std.proofs.lemmas.List.{take_more}
use Rattle.std.proofs.lemmas.List.Folds.{list_all-map}
use Rattle.modulename.specs.ModuleName.{is_module_name}
use Rattle.envvars.specs.Texts.{Text, has, texts_in}
use Rattle.envvars.specs.Environment.{Environment}
use Rattle.envvars.specs.Fields.{ampersand, text_of_elements}
use Rattle.envvars.proofs.FieldLemmas.{after_separators}
use Rattle.envstate.specs.loaded_list.LoadedTexts.{has_names, element_of, group_text}
use Rattle.envstate.specs.loaded_list.ElementTexts.{before_element, with_elements}
use Rattle.envstate.specs.loaded_list.Loaded.{Entry, names_of, names_text, files_text, conflict_elements, conflicts_text}
use Rattle.envstate.specs.loaded_list.Loaded.{prereq_elements, prereqs_text, has_groups}
use Rattle.envstate.specs.loaded_list.Loaded.{with_loaded, is_group, can_be_added, without_entry, dropped_from, added_to}
use Rattle.envstate.specs.loaded_list.Loaded.{with_conflicts_once, entry_named}
use Rattle.envstate.specs.loaded_list.LoadedEntries.{entry_view}
use Rattle.envstate.proofs.loaded_list.ElementLemmas.{elements_more, element_written}
use Rattle.envstate.specs.declared.loaded_list.entry.Loaded.{Loaded}
use Rattle.envvars.proofs.TextLemmas.{bytes_eq-symmetric, or_left, or_right}
use Rattle.envvars.specs.declared.fault.EnvFault.{EnvFault}
use Rattle.std.specs.Result.{OnOk}

-- Edits of the loaded list, and the texts that it is written as.

pub and_then : (a b x y : Bool) → a ≡ x → a ≡ true → b ≡ y → b ≡ (x && y)
and_then a b x y e t f = f ∙ (rw (sym e ∙ t) refl)

pub and_else : (a x y : Bool) → a ≡ x → a ≡ false → false ≡ (x && y)
and_else a x y e t = rw (sym e ∙ t) refl

-- the module is in the list
pub loaded_is : (list : List Loaded) (name : Text) → list_any (λ entry. bytes_eq (string_bytes entry.name) name) list ≡ has name (names_of (map entry_view list))
loaded_is [] name = refl
loaded_is (x ∷ xs) name =
    ap (λ (b : Bool). b || list_any (λ entry. bytes_eq (string_bytes entry.name) name) xs) (bytes_eq-symmetric (string_bytes x.name) name)
    ∙ ap (λ (b : Bool). bytes_eq name (string_bytes x.name) || b) (loaded_is xs name)

kept_at : (b : Bool) (x : Loaded) (ys : List Loaded) (zs : List Entry) → map entry_view ys ≡ zs → map entry_view (cond (not b) (x ∷ ys) ys) ≡ cond (not b) (entry_view x ∷ zs) zs
kept_at true x ys zs e = e
kept_at false x ys zs e = ap (λ (l : List Entry). entry_view x ∷ l) e

pub without_is : (list : List Loaded) (name : Text) → map entry_view (filter (λ entry. not (bytes_eq (string_bytes entry.name) name)) list) ≡ without_entry name (map entry_view list)
without_is [] name = refl
without_is (x ∷ xs) name =
    kept_at (bytes_eq (string_bytes x.name) name) x _ _ (without_is xs name)
    ∙ ap (λ (b : Bool). cond (not b) (entry_view x ∷ without_entry name (map entry_view xs)) (without_entry name (map entry_view xs))) (bytes_eq-symmetric (string_bytes x.name) name)

-- the entry of a module
pub found_is : (name : Text) (xs : List Loaded) (r : Option (Bor Loaded)) → option_map (λ x. x.now) r ≡ find (λ x. bytes_eq name (string_bytes x.name)) xs
    → option_map (λ x. entry_view x.now) r ≡ entry_named name (map entry_view xs)
found_is name xs r h = lent r ∙ ap (option_map entry_view) h ∙ found xs
  where
    lent : (r : Option (Bor Loaded)) → option_map (λ x. entry_view x.now) r ≡ option_map entry_view (option_map (λ x. x.now) r)
    lent None = refl
    lent (Some x) = refl

    at : (b : Bool) (x : Loaded) (o : Option Loaded) (p : Option Entry) → option_map entry_view o ≡ p → option_map entry_view (cond b (Some x) o) ≡ cond b (Some (entry_view x)) p
    at true x o p e = refl
    at false x o p e = e

    found : (xs : List Loaded) → option_map entry_view (find (λ x. bytes_eq name (string_bytes x.name)) xs) ≡ entry_named name (map entry_view xs)
    found [] = refl
    found (x ∷ xs) = at (bytes_eq name (string_bytes x.name)) x _ _ (found xs)

-- the elements of one more entry
pub conflicts-append : (xs ys : List Entry) → conflict_elements (xs ++ ys) ≡ conflict_elements xs ++ conflict_elements ys
conflicts-append [] ys = refl
conflicts-append (x ∷ xs) ys = at (has_names x.conflicts) (conflicts-append xs ys)
  where
    at : (b : Bool) → conflict_elements (xs ++ ys) ≡ conflict_elements xs ++ conflict_elements ys
        → cond b (element_of x.name x.conflicts ∷ conflict_elements (xs ++ ys)) (conflict_elements (xs ++ ys)) ≡ cond b
        (element_of x.name x.conflicts ∷ conflict_elements xs) (conflict_elements xs) ++ conflict_elements ys
    at true e = ap (λ (l : List Text). element_of x.name x.conflicts ∷ l) e
    at false e = e

pub prereqs-append : (xs ys : List Entry) → prereq_elements (xs ++ ys) ≡ prereq_elements xs ++ prereq_elements ys
prereqs-append [] ys = refl
prereqs-append (x ∷ xs) ys = at (has_groups x.prereqs) (prereqs-append xs ys)
  where
    at : (b : Bool) → prereq_elements (xs ++ ys) ≡ prereq_elements xs ++ prereq_elements ys
        → cond b (element_of x.name (map group_text x.prereqs) ∷ prereq_elements (xs ++ ys))
        (prereq_elements (xs ++ ys)) ≡ cond b (element_of x.name (map group_text x.prereqs) ∷ prereq_elements xs)
        (prereq_elements xs) ++ prereq_elements ys
    at true e = ap (λ (l : List Text). element_of x.name (map group_text x.prereqs) ∷ l) e
    at false e = e

pub map-push : (xs : List Loaded) (x : Loaded) → map entry_view (xs ++ x ∷ []) ≡ map entry_view xs ++ entry_view x ∷ []
map-push [] x = refl
map-push (y ∷ ys) x = ap (λ (l : List Entry). entry_view y ∷ l) (map-push ys x)

one_more : (xs : List Loaded) (i : ℕ) (x : Loaded) → i < length xs → x ≡ get_or xs i x → map entry_view (take (i + 1) xs) ≡ map entry_view (take i xs) ++ entry_view x ∷ []
one_more xs i x l e = ap (map entry_view) (take_more xs i x l ∙ ap (λ (y : Loaded). take i xs ++ y ∷ []) (sym e)) ∙ map-push (take i xs) x

pub conflicts-turn : (t u : Option Text) (xs : List Loaded) (i : ℕ) (x : Loaded) → i < length xs → x ≡ get_or xs i x → t ≡ conflicts_text (map entry_view (take i xs))
    → u ≡ with_elements t (conflict_elements (entry_view x ∷ [])) → u ≡ conflicts_text (map entry_view (take (i + 1) xs))
conflicts-turn t u xs i x l e h k =
    k ∙ ap (λ (o : Option Text). with_elements o (conflict_elements (entry_view x ∷ []))) h
    ∙ elements_more (conflict_elements (map entry_view (take i xs))) (conflict_elements (entry_view x ∷ []))
    ∙ ap text_of_elements (sym (conflicts-append (map entry_view (take i xs)) (entry_view x ∷ [])) ∙ ap conflict_elements (sym (one_more xs i x l e)))

pub prereqs-turn : (t u : Option Text) (xs : List Loaded) (i : ℕ) (x : Loaded) → i < length xs → x ≡ get_or xs i x → t ≡ prereqs_text (map entry_view (take i xs))
    → u ≡ with_elements t (prereq_elements (entry_view x ∷ [])) → u ≡ prereqs_text (map entry_view (take (i + 1) xs))
prereqs-turn t u xs i x l e h k =
    k ∙ ap (λ (o : Option Text). with_elements o (prereq_elements (entry_view x ∷ []))) h
    ∙ elements_more (prereq_elements (map entry_view (take i xs))) (prereq_elements (entry_view x ∷ []))
    ∙ ap text_of_elements (sym (prereqs-append (map entry_view (take i xs)) (entry_view x ∷ [])) ∙ ap prereq_elements (sym (one_more xs i x l e)))

-- a group with names
pub names_there : (names : List (String Global)) → 0 < length names → has_names (map string_bytes names) ≡ true
names_there [] h = absurd (omega arith)
names_there (n ∷ ns) h = refl

pub group_is : (names : List (String Global)) (a : Bool) → 0 < length names → a ≡ list_all (λ name. is_module_name (string_bytes name)) names → a ≡ is_group (map string_bytes names)
group_is names a h e = e ∙ sym (list_all-map is_module_name string_bytes names) ∙ (rw (names_there names h) refl)

pub words_are : (x : Loaded) → (list_all (λ name. is_module_name (string_bytes name)) x.conflicts.items && list_all (λ group. is_group (texts_in group)) x.prereqs.items)
    ≡ (list_all is_module_name (entry_view x).conflicts && list_all is_group (entry_view x).prereqs)
words_are x =
    ap (λ (b : Bool). b && list_all (λ group. is_group (texts_in group)) x.prereqs.items) (sym (list_all-map is_module_name string_bytes x.conflicts.items))
    ∙ ap (λ (b : Bool). list_all is_module_name (texts_in x.conflicts) && b) (sym (list_all-map is_group texts_in x.prereqs.items))

pub added_is : (e : Environment) (x : Entry) (entries : List Entry) (b : Bool) → b ≡ can_be_added entries x → b ≡ true
    → added_to e x (Some entries) ≡ Ok (with_loaded e (entries ++ with_conflicts_once x ∷ []))
added_is e x entries b k t = rw (sym k ∙ t) refl

pub dropped_is : (e : Environment) (name : Text) (entries : List Entry) (b : Bool) → b ≡ has name (names_of entries)
    → b ≡ true → dropped_from e name (Some entries) ≡ Ok (with_loaded e (without_entry name entries))
dropped_is e name entries b k t = rw (sym k ∙ t) refl

pub not_dropped_is : (e : Environment) (name : Text) (entries : List Entry) (b : Bool) → b ≡ has name (names_of entries) → b ≡ false → dropped_from e name (Some entries) ≡ Ok e
not_dropped_is e name entries b k t = rw (sym k ∙ t) refl

-- without a module that isn't there the list is the same
pub same_without : (name : Text) (entries : List Entry) (b : Bool) → b ≡ has name (names_of entries) → b ≡ false → entries ≡ without_entry name entries
same_without name entries b k t = sym (without_absent name entries (sym k ∙ t))
  where
    without_absent : (name : Text) (xs : List Entry) → has name (names_of xs) ≡ false → without_entry name xs ≡ xs
    without_absent name [] h = refl
    without_absent name (x ∷ xs) h = rw (or_left (bytes_eq name x.name) (has name (names_of xs)) h)
        (ap (λ (l : List Entry). x ∷ l) (without_absent name xs
        (or_right (bytes_eq name x.name) (has name (names_of xs)) h)))

-- what holds in any case
pub on_any : {P : Type 0} (r : Result (Unit {0}) EnvFault) → P → OnOk r P
on_any (Ok u) p = p
on_any (Err e) p = tt

-- the list with the entry at its end
pub pushed_is : (xs ys : List Loaded) (x : Loaded) (y : Entry) → ys ≡ xs ++ x ∷ [] → entry_view x ≡ y → map entry_view ys ≡ map entry_view xs ++ y ∷ []
pushed_is xs ys x y e h = ap (map entry_view) e ∙ map-push xs x ∙ ap (λ (z : Entry). map entry_view xs ++ z ∷ []) h

-- ---- the conflicts of an entry

map-flattened : {X Y Z : Type 0} (f : Y → List Z) (g : X → Y) (xs : List X) → flat_map f (map g xs) ≡ flat_map (λ x. f (g x)) xs
map-flattened f g [] = refl
map-flattened f g (x ∷ xs) = ap (λ l. f (g x) ++ l) (map-flattened f g xs)

with_one : (b : Bool) (t : Option Text) (x : Text) → b ≡ true → with_elements t (cond b (x ∷ []) []) ≡ Some (before_element t ++ x)
with_one true t x h = refl
with_one false t x h = cc

-- the text with the element of an entry that has conflicts, where it is written part by part
pub conflicts_written : (t : Option Text) (x : Entry) (names : List (String Global)) (begun named written : Text) → 0 < length names → map string_bytes names ≡ x.conflicts
    → begun ≡ before_element t → named ≡ begun ++ x.name → written ≡ named ++ flat_map (λ word. ampersand ∷ string_bytes word) names → Some written ≡ with_elements t (conflict_elements (x ∷ []))
conflicts_written t x names begun named written some are h k m =
    let words : flat_map (λ word. ampersand ∷ string_bytes word) names ≡ after_separators ampersand x.conflicts = sym
    (map-flattened (λ (w : Text). ampersand ∷ w) string_bytes names) ∙ ap (after_separators ampersand) are in
    let there : has_names x.conflicts ≡ true = ap has_names (sym are) ∙ names_there names some in
    ap Some (m ∙ ap (λ (w : Text). named ++ w) words ∙ ap (λ (n : Text). n ++ after_separators ampersand x.conflicts) (k ∙ ap (λ (b : Text). b ++ x.name) h)
    ∙ element_written (before_element t) x.name x.conflicts)
    ∙ sym (with_one (has_names x.conflicts) t (element_of x.name x.conflicts) there)

-- ---- the prereqs of an entry

groups_there : (groups : List (Vec (String Global) Global)) → 0 < length groups → has_groups (map texts_in groups) ≡ true
groups_there [] h = absurd (omega arith)
groups_there (g ∷ gs) h = refl

-- the text with the element of an entry that has prereqs, where it is written part by part
pub prereqs_written : (t : Option Text) (x : Loaded) (texts : List (String Global)) (begun named written : Text) → 0 < length x.prereqs.items
    → map string_bytes texts ≡ map group_text (map texts_in x.prereqs.items) → begun ≡ before_element t → named ≡ begun ++ string_bytes x.name
    → written ≡ named ++ flat_map (λ word. ampersand ∷ string_bytes word) texts → Some written ≡ with_elements t (prereq_elements (entry_view x ∷ []))
prereqs_written t x texts begun named written some are h k m =
    let name = string_bytes x.name in
    let groups = map group_text (map texts_in x.prereqs.items) in
    let words : flat_map (λ word. ampersand ∷ string_bytes word) texts ≡ after_separators ampersand groups = sym
    (map-flattened (λ (w : Text). ampersand ∷ w) string_bytes texts) ∙ ap (after_separators ampersand) are in
    ap Some (m ∙ ap (λ (w : Text). named ++ w) words ∙ ap (λ (n : Text). n ++ after_separators ampersand groups) (k ∙ ap (λ (b : Text). b ++ name) h)
    ∙ element_written (before_element t) name groups)
    ∙ sym (with_one (has_groups (entry_view x).prereqs) t (element_of name groups) (groups_there x.prereqs.items some))

-- ---- a list that grows by one module at its end

texts-push : (ns : List (String Global)) (n : String Global) → map string_bytes (ns ++ n ∷ []) ≡ map string_bytes ns ++ string_bytes n ∷ []
texts-push [] n = refl
texts-push (m ∷ ms) n = ap (λ (l : List Text). string_bytes m ∷ l) (texts-push ms n)

pub names-push : (xs : List Loaded) (x : Loaded) → names_of (map entry_view (xs ++ x ∷ [])) ≡ names_of (map entry_view xs) ++ string_bytes x.name ∷ []
names-push [] x = refl
names-push (y ∷ ys) x = ap (λ (l : List Text). string_bytes y.name ∷ l) (names-push ys x)

pub paths-push : (xs : List Loaded) (x : Loaded) → map (λ x. x.path) (map entry_view (xs ++ x ∷ [])) ≡ map (λ x. x.path) (map entry_view xs) ++ string_bytes x.path ∷ []
paths-push [] x = refl
paths-push (y ∷ ys) x = ap (λ (l : List Text). string_bytes y.path ∷ l) (paths-push ys x)

-- the names
pub named_grown : (ns ms : List (String Global)) (n : String Global) (xs ys : List Loaded) (x : Loaded) → ms ≡ ns ++ n ∷ [] → string_bytes n ≡ string_bytes x.name
    → map string_bytes ns ≡ names_of (map entry_view xs) → ys ≡ xs ++ x ∷ [] → map string_bytes ms ≡ names_of (map entry_view ys)
named_grown ns ms n xs ys x hm hn h e =
    ap (map string_bytes) hm ∙ texts-push ns n ∙ ap (λ (l : List Text). l ++ string_bytes n ∷ []) h
    ∙ ap (λ (t : Text). names_of (map entry_view xs) ++ t ∷ []) hn ∙ sym (names-push xs x)
    ∙ ap (λ (zs : List Loaded). names_of (map entry_view zs)) (sym e)

-- the four texts
pub names_grown : (t u : Option Text) (xs ys : List Loaded) (x : Loaded) → ys ≡ xs ++ x ∷ [] → t ≡ names_text (map entry_view xs)
    → u ≡ with_elements t (string_bytes x.name ∷ []) → u ≡ names_text (map entry_view ys)
names_grown t u xs ys x e h k =
    k ∙ ap (λ (o : Option Text). with_elements o (string_bytes x.name ∷ [])) h ∙ elements_more (names_of (map entry_view xs)) (string_bytes x.name ∷ [])
    ∙ ap text_of_elements (sym (names-push xs x) ∙ ap (λ (zs : List Loaded). names_of (map entry_view zs)) (sym e))

pub files_grown : (t u : Option Text) (xs ys : List Loaded) (x : Loaded) → ys ≡ xs ++ x ∷ [] → t ≡ files_text (map entry_view xs)
    → u ≡ with_elements t (string_bytes x.path ∷ []) → u ≡ files_text (map entry_view ys)
files_grown t u xs ys x e h k =
    k ∙ ap (λ (o : Option Text). with_elements o (string_bytes x.path ∷ [])) h ∙ elements_more (map (λ x. x.path) (map entry_view xs)) (string_bytes x.path ∷ [])
    ∙ ap text_of_elements (sym (paths-push xs x) ∙ ap (λ (zs : List Loaded). map (λ x. x.path) (map entry_view zs)) (sym e))

pub conflicts_grown : (t u : Option Text) (xs ys : List Loaded) (x : Loaded) → ys ≡ xs ++ x ∷ [] → t ≡ conflicts_text (map entry_view xs)
    → u ≡ with_elements t (conflict_elements (entry_view x ∷ [])) → u ≡ conflicts_text (map entry_view ys)
conflicts_grown t u xs ys x e h k =
    k ∙ ap (λ (o : Option Text). with_elements o (conflict_elements (entry_view x ∷ []))) h
    ∙ elements_more (conflict_elements (map entry_view xs)) (conflict_elements (entry_view x ∷ []))
    ∙ ap text_of_elements (sym (conflicts-append (map entry_view xs) (entry_view x ∷ [])) ∙ ap conflict_elements (sym (map-push xs x) ∙ ap (map entry_view) (sym e)))

pub prereqs_grown : (t u : Option Text) (xs ys : List Loaded) (x : Loaded) → ys ≡ xs ++ x ∷ [] → t ≡ prereqs_text (map entry_view xs)
    → u ≡ with_elements t (prereq_elements (entry_view x ∷ [])) → u ≡ prereqs_text (map entry_view ys)
prereqs_grown t u xs ys x e h k =
    k ∙ ap (λ (o : Option Text). with_elements o (prereq_elements (entry_view x ∷ []))) h
    ∙ elements_more (prereq_elements (map entry_view xs)) (prereq_elements (entry_view x ∷ []))
    ∙ ap text_of_elements (sym (prereqs-append (map entry_view xs) (entry_view x ∷ [])) ∙ ap prereq_elements (sym (map-push xs x) ∙ ap (map entry_view) (sym e)))

-- ---- a list without a module

filtered_map : {A B : Type 0} (f : A → B) (p : B → Bool) (xs : List A) → map f (filter (λ x. p (f x)) xs) ≡ filter p (map f xs)
filtered_map f p [] = refl
filtered_map f p (x ∷ xs) = at (p (f x)) (filtered_map f p xs)
  where
    at : (b : Bool) → map f (filter (λ x. p (f x)) xs) ≡ filter p (map f xs)
        → map f (cond b (x ∷ filter (λ x. p (f x)) xs) (filter (λ x. p (f x)) xs)) ≡ cond b (f x ∷ filter p (map f xs)) (filter p (map f xs))
    at true e = ap (λ l. f x ∷ l) e
    at false e = e

names_are : (xs : List Loaded) → names_of (map entry_view xs) ≡ map (λ x. string_bytes x.name) xs
names_are [] = refl
names_are (x ∷ xs) = ap (λ (l : List Text). string_bytes x.name ∷ l) (names_are xs)

-- its names are those of the modules that stay
pub named_without : (ns : List (String Global)) (xs : List Loaded) (name : Text) → map string_bytes ns ≡ names_of (map entry_view xs)
    → map string_bytes (filter (λ n. not (bytes_eq (string_bytes n) name)) ns)
    ≡ names_of (map entry_view (filter (λ x. not (bytes_eq (string_bytes x.name) name)) xs))
named_without ns xs name h =
    let other : Text → Bool = λ (t : Text). not (bytes_eq t name) in
    filtered_map string_bytes other ns ∙ ap (filter other) (h ∙ names_are xs)
    ∙ sym (filtered_map (λ (x : Loaded). string_bytes x.name) other xs)
    ∙ sym (names_are (filter (λ x. other (string_bytes x.name)) xs))
