-- Reading the loaded texts.
use Rattle.std.proofs.Common.{◌≡◌, ℕ, suc, Bool, true, false, cond, not, ◌+◌, ◌&&◌, ◌<◌, ◌≤◌, List, [], ◌∷◌, ◌++◌, refl}
use Rattle.std.proofs.Common.{sym, ap, ◌∙◌, arith, length, append_assoc, append-nil, get_or, Bor, nat_eq, Option, Some}
use Rattle.std.proofs.Common.{◌⊎◌, inl, inr, None, Result, Ok, Err, map, Vec, Global, drop as cut}
use Rattle.std.specs.Prelude.{filter, bytes_eq, if◌then◌else◌}
use Rattle.std.specs.List.{onto_first, slice_split, list_all, position_or_len}
use Rattle.std.specs.Option.{option_or, option_map, option_copied, is_some}
use Rattle.std.specs.Result.{IfOk}
use Rattle.std.specs.declared.string.String.{String}
use Rattle.std.specs.HashMap.{UpdatesBy}
use Rattle.std.proofs.lemmas.Bool.Decides.{nat_tests}
use Rattle.std.proofs.lemmas.List.{drop_more, at_drop_all}
use Rattle.std.proofs.lemmas.List.Splits.{slice_split_first}
use Rattle.std.proofs.lemmas.List.Folds.{list_all-map}
use Rattle.std.proofs.lemmas.Str.Pattern.{IsSplitOnceResult, split_once_first}
use Rattle.std.proofs.lemmas.Map.Text.{hash_map_updates_str}
use Rattle.indexmap.specs.IndexMap.{IndexMap, get_by}
use Rattle.modulename.specs.ModuleName.{is_module_name}
use Rattle.envvars.specs.Texts.{Text, slice_texts, texts_in}
use Rattle.envvars.specs.Fields.{are_distinct, without_repeats, elements_in}
use Rattle.envstate.specs.loaded_list.LoadedTexts.{names_variable, files_variable, conflicts_variable, prereqs_variable, is_empty}
use Rattle.envstate.specs.loaded_list.LoadedTexts.{are_consistent, parts_of, is_element_of, later_parts, first_element, words_in}
use Rattle.envstate.specs.loaded_list.LoadedTexts.{has_names, names_of_group, conflicts_among, prereqs_among}
use Rattle.envstate.specs.loaded_list.LoadedEntries.{element_in}
use Rattle.envstate.specs.loaded_list.Loaded.{Entry, entries_from, first_in, loaded_in}
use Rattle.envvars.specs.Environment.{Environment, lookup}
use Rattle.envvars.proofs.TextLemmas.{same_text, bytes_eq-symmetric}

-- A text that is cut at its first separator, and one without it.
no_place : (p : ℕ → Bool) (xs : Text) → position_or_len p xs ≡ length xs → slice_split p xs ≡ xs ∷ []
no_place p [] e = refl
no_place p (x ∷ xs) e = at (p x) refl (no_place p xs)
  where
    at : (b : Bool) → p x ≡ b → (position_or_len p xs ≡ length xs → slice_split p xs ≡ xs ∷ []) → slice_split p (x ∷ xs) ≡ (x ∷ xs) ∷ []
    at true h k = let z : 0 ≡ suc (length xs) = rw h at e in absurd (omega arith)
    at false h k = let z : 1 + position_or_len p xs ≡ suc (length xs) = rw h at e in let q : position_or_len p xs ≡ length xs = omega arith in rw (h, k q) refl

pub found_parts : (bs : Text) (x y : Bor Text) → IsSplitOnceResult 38 bs (Some (x, y)) → parts_of bs ≡ x.now ∷ parts_of y.now
found_parts bs x y h =
    let q = split_once_first 38 bs (Some (x, y)) h (omega arith) in
    rw (q.1, q.2) (slice_split_first (λ b. nat_eq b 38) bs 0 q.0)

pub no_parts : (bs : Text) → IsSplitOnceResult 38 bs None → parts_of bs ≡ bs ∷ []
no_parts bs h = no_place (λ b. nat_eq b 38) bs (split_once_first 38 bs None h (omega arith))

-- an element for a module without one
noted_at : (y : Option Text) (b : Bool) (e : Text) → (b ≡ true → y ≡ None) → cond b (Some e) y ≡ option_or y (if b then Some e else None)
noted_at y true e h = rw (h refl) refl
noted_at (Some x) false e h = refl
noted_at None false e h = refl

mapped_at : (b : Bool) (e : Bor Text) (o : Option (Bor Text)) → option_map (λ x. x.now) (cond b (Some e) o) ≡ cond b (Some e.now) (option_map (λ x. x.now) o)
mapped_at true e o = refl
mapped_at false e o = refl

pub first_noted : {S : Type 0} (m n : IndexMap (Bor Text) (Bor Text) S) (name : Text) (element : Bor Text) → element_in m name ≡ None
    → UpdatesBy (λ x y. bytes_eq x.now y.now) (λ z. bytes_eq name z.now) m n (Some element)
    → (x : Text) → element_in n x ≡ option_or (element_in m x) (if bytes_eq x name then Some element.now else None)
first_noted m n name element none u x =
    ap (option_map (λ y. y.now)) (hash_map_updates_str name m n (Some element) u x)
    ∙ mapped_at (bytes_eq name x) element (get_by (λ k. bytes_eq x k.now) m)
    ∙ ap (λ (b : Bool). cond b (Some element.now) (element_in m x)) (bytes_eq-symmetric name x)
    ∙ noted_at (element_in m x) (bytes_eq x name) element.now (λ b. ap (element_in m) (same_text x name b) ∙ none)

pub or_none : {A : Type 0} (o : Option A) → option_or o None ≡ o
or_none (Some x) = refl
or_none None = refl

pub or_assoc : {A : Type 0} (a b c : Option A) → option_or (option_or a b) c ≡ option_or a (option_or b c)
or_assoc (Some x) b c = refl
or_assoc None b c = refl

pub first-cons : (name e : Text) (es : List Text) → first_element name (e ∷ es) ≡ option_or (if is_element_of name (parts_of e) then Some e else None) (first_element name es)
first-cons name e es = at (is_element_of name (parts_of e))
  where
    at : (b : Bool) → cond b (Some e) (first_element name es) ≡ option_or (cond b (Some e) None) (first_element name es)
    at true = refl
    at false = refl

pub first-turn : (o o' all : Option Text) (name : Text) (xs : List (Bor Text)) (i : ℕ) (d : Bor Text) → i < length xs
    → o' ≡ option_or o (if is_element_of name (parts_of (get_or xs i d).now) then Some (get_or xs i d).now else None)
    → option_or o (first_element name (slice_texts (cut i xs))) ≡ all → option_or o' (first_element name (slice_texts (cut (i + 1) xs))) ≡ all
first-turn o o' all name xs i d l e h =
    rw e (or_assoc o _ (first_element name (slice_texts (cut (i + 1) xs))) ∙ ap (option_or o) (sym (first-cons name (get_or xs i d).now (slice_texts (cut (i + 1) xs))))
    ∙ ap (λ (ys : List (Bor Text)). option_or o (first_element name (slice_texts ys))) (sym (drop_more xs i d l)) ∙ h)

-- the names among some words
filtered_at : (b : Bool) (x : Bor Text) (ys : List (Bor Text)) (zs : List Text) → slice_texts ys ≡ zs → slice_texts (cond b (x ∷ ys) ys) ≡ cond b (x.now ∷ zs) zs
filtered_at true x ys zs e = ap (λ (l : List Text). x.now ∷ l) e
filtered_at false x ys zs e = e

pub slice_texts-filter : (p : Text → Bool) (xs : List (Bor Text)) → slice_texts (filter (λ x. p x.now) xs) ≡ filter p (slice_texts xs)
slice_texts-filter p [] = refl
slice_texts-filter p (x ∷ xs) = filtered_at (p x.now) x _ _ (slice_texts-filter p xs)

pub no_names : (ns : List (Bor Text)) (names : List Text) → slice_texts ns ≡ names → length ns ≡ 0 → has_names names ≡ false
no_names [] names e h = rw (← e) refl
no_names (n ∷ ns) names e h = absurd (omega arith)

pub some_names : (ns : List (Bor Text)) (names : List Text) → slice_texts ns ≡ names → 0 < length ns → has_names names ≡ true
some_names [] names e h = absurd (omega arith)
some_names (n ∷ ns) names e h = rw (← e) refl

-- the words of an element
pub words-is : (o : Option (Bor Text)) (x : Bor Text) (ws : List Text) → o ≡ Some x → ws ≡ later_parts (parts_of x.now) → ws ≡ words_in (option_map (λ t. t.now) o)
words-is o x ws e h = rw e h

pub conflicts-from : (ns words names : List (Bor Text)) (ws : List Text) → slice_texts words ≡ ws
    → names ≡ filter (λ x. is_module_name x.now) words → slice_texts ns ≡ without_repeats (slice_texts names)
    → slice_texts ns ≡ conflicts_among ws
conflicts-from ns words names ws e h k = k ∙ ap without_repeats (ap slice_texts h ∙ slice_texts-filter is_module_name words ∙ ap (filter is_module_name) e)

pub group-from : (alternatives names : List (Bor Text)) (word : Text)
    → slice_texts alternatives ≡ slice_split (λ b. nat_eq b 124) word
    → names ≡ filter (λ x. is_module_name x.now) alternatives → slice_texts names ≡ names_of_group word
group-from alternatives names word e h = ap slice_texts h ∙ slice_texts-filter is_module_name alternatives ∙ ap (filter is_module_name) e

-- the groups of the words
pub groups-cons : (word : Text) (words : List Text) → prereqs_among (word ∷ words) ≡ filter has_names (names_of_group word ∷ []) ++ prereqs_among words
groups-cons word words = at (has_names (names_of_group word))
  where
    at : (b : Bool) → cond b (names_of_group word ∷ prereqs_among words) (prereqs_among words) ≡ cond b (names_of_group word ∷ []) [] ++ prereqs_among words
    at true = refl
    at false = refl

-- the same elements make the same entries
pub same_entries : (f g k l : Text → Option Text) (names files : List Text) → ((x : Text) → f x ≡ g x) → ((x : Text) → k x ≡ l x) → entries_from f k names files ≡ entries_from g l names files
same_entries f g k l [] files h i = refl
same_entries f g k l (n ∷ names) [] h i = refl
same_entries f g k l (n ∷ names) (p ∷ files) h i = rw (h n, i n, same_entries f g k l names files h i) refl

-- where no names or no files are left, no entries are
pub entries_done : (f g : Text → Option Text) (made all : List Entry) (names files : List (Bor Text)) → (names ≡ []) ⊎ (files ≡ []) → made ++ entries_from f g (slice_texts names) (slice_texts files) ≡ all → made ≡ all
entries_done f g made all [] files e h = sym (append-nil made) ∙ h
entries_done f g made all (n ∷ names) [] e h = sym (append-nil made) ∙ h
entries_done f g made all (n ∷ names) (p ∷ files) (inl e) h = absurd (cc)
entries_done f g made all (n ∷ names) (p ∷ files) (inr e) h = absurd (cc)

-- the tests of the names and the files
empty_is : (file : Text) → not (nat_eq (length file) 0) ≡ not (is_empty file)
empty_is [] = refl
empty_is (b ∷ bs) = ap not (at (length bs))
  where
    at : (n : ℕ) → nat_eq (suc n) 0 ≡ false
    at n = grind (arith, nat_tests)

pub all_paths : (files : List (Bor Text)) → list_all (λ file. not (nat_eq (length file.now) 0)) files ≡ list_all (λ file. not (is_empty file)) (slice_texts files)
all_paths [] = refl
all_paths (f ∷ fs) = ap (λ (b : Bool). b && list_all (λ file. not (nat_eq (length file.now) 0)) fs) (empty_is f.now) ∙ ap (λ (b : Bool). not (is_empty f.now) && b) (all_paths fs)

pub all_names : (names : List (Bor Text)) → list_all (λ name. is_module_name name.now) names ≡ list_all is_module_name (slice_texts names)
all_names names = sym (list_all-map is_module_name (λ x. x.now) names)

pub groups-turn : (gs gs' all : List (List Text)) (xs : List (Bor Text)) (i : ℕ) (d : Bor Text) → i < length xs → gs' ≡ gs ++ filter has_names (names_of_group (get_or xs i d).now ∷ [])
    → gs ++ prereqs_among (slice_texts (cut i xs)) ≡ all → gs' ++ prereqs_among (slice_texts (cut (i + 1) xs)) ≡ all
groups-turn gs gs' all xs i d l e h =
    rw e (append_assoc gs _ (prereqs_among (slice_texts (cut (i + 1) xs))) ∙ ap (λ (l : List (List Text)). gs ++ l) (sym (groups-cons (get_or xs i d).now (slice_texts (cut (i + 1) xs))))
    ∙ ap (λ (ys : List (Bor Text)). gs ++ prereqs_among (slice_texts ys)) (sym (drop_more xs i d l)) ∙ h)

pub ok_words : {E : Type 0} (r : Result (Vec (Bor Text) Global) E) (ws vs : List Text) → ws ≡ vs → IfOk r (λ v. slice_texts v.items ≡ ws) → IfOk r (λ v. slice_texts v.items ≡ vs)
ok_words (Ok v) ws vs e h = h ∙ e
ok_words (Err x) ws vs e h = h

pub ok_texts : {E : Type 0} (r : Result (Vec (String Global) Global) E) (ws vs : List Text) → ws ≡ vs → IfOk r (λ v. texts_in v ≡ ws) → IfOk r (λ v. texts_in v ≡ vs)
ok_texts (Ok v) ws vs e h = h ∙ e
ok_texts (Err x) ws vs e h = h

-- the parts behind the first `&`
of_cut : (name x : Text) (t : Bool) (b : ℕ) (ps : List Text) → is_element_of name (x ∷ cond t ([] ∷ ps) (onto_first b ps)) ≡ bytes_eq name x
of_cut name x true b ps = refl
of_cut name x false b [] = refl
of_cut name x false b (p ∷ ps) = refl

of_parts : (name x words : Text) → is_element_of name (x ∷ parts_of words) ≡ bytes_eq name x
of_parts name x [] = refl
of_parts name x (b ∷ bs) = of_cut name x (nat_eq b 38) b (parts_of bs)

pub first_at : {S : Type 0} (m n : IndexMap (Bor Text) (Bor Text) S) (element x y : Bor Text) → IsSplitOnceResult 38 element.now (Some (x, y))
    → ((name : Text) → element_in n name ≡ option_or (element_in m name) (if bytes_eq name x.now then Some element.now else None))
    → (name : Text) → element_in n name ≡ option_or (element_in m name) (if is_element_of name (parts_of element.now) then Some element.now else None)
first_at m n element x y s h name =
    h name ∙ ap (λ (t : Bool). option_or (element_in m name) (if t then Some element.now else None)) (sym (ap (is_element_of name) (found_parts element.now x y s) ∙ of_parts name x.now y.now))

pub none_at : {S : Type 0} (m : IndexMap (Bor Text) (Bor Text) S) (element : Bor Text) → IsSplitOnceResult 38 element.now None
    → (name : Text) → element_in m name ≡ option_or (element_in m name) (if is_element_of name (parts_of element.now) then Some element.now else None)
none_at m element s name = sym (or_none (element_in m name))
    ∙ ap (λ (t : Bool). option_or (element_in m name) (if t then Some element.now else None))
    (sym (ap (is_element_of name) (no_parts element.now s)))

pub absent : {A : Type 0} (o : Option (Bor A)) (b : Bool) → is_some o ≡ not b → b ≡ true → option_copied o ≡ None
absent None b e h = refl
absent (Some x) b e h = cc

pub nothing_first : {S : Type 0} (m : IndexMap (Bor Text) (Bor Text) S) (name : Text) (fs : List (Bor Text))
    → m.entries ≡ [] → option_or (element_in m name) (first_element name (slice_texts fs)) ≡ first_element name
    (slice_texts fs)
nothing_first m name fs e = rw e refl

pub all_first : (o : Option Text) (name : Text) (xs : List (Bor Text)) (i : ℕ) (all : Option Text) → length xs ≤ i → option_or o (first_element name (slice_texts (cut i xs))) ≡ all → o ≡ all
all_first o name xs i all l h = sym (or_none o) ∙ sym (at_drop_all (λ (ys : List (Bor Text)). option_or o (first_element name (slice_texts ys))) xs i l) ∙ h

pub no_group : (gs : List (List Text)) (word : Text) → has_names (names_of_group word) ≡ false → gs ≡ gs ++ filter has_names (names_of_group word ∷ [])
no_group gs word h = rw (h, append-nil) refl

pub one_group : (gs : List (List Text)) (word : Text) (group : List Text) → group ≡ names_of_group word
    → has_names (names_of_group word) ≡ true → gs ++ group ∷ [] ≡ gs ++ filter has_names (names_of_group word ∷ [])
one_group gs word group e h = rw (h, e) refl

pub zero_is : (b : Bool) (n : ℕ) → b ≡ nat_eq n 0 → b ≡ true → n ≡ 0
zero_is b n e h = let z : nat_eq n 0 ≡ true = sym e ∙ h in grind (arith, nat_tests)

pub more_is : (b : Bool) (n : ℕ) → b ≡ nat_eq n 0 → b ≡ false → 0 < n
more_is b n e h = let z : nat_eq n 0 ≡ false = sym e ∙ h in grind (arith, nat_tests)

pub groups-push : (gs gs' : List (Vec (String Global) Global)) (group : Vec (String Global) Global) → gs' ≡ gs ++ group ∷ [] → map texts_in gs' ≡ map texts_in gs ++ texts_in group ∷ []
groups-push gs gs' group e = ap (map texts_in) e ∙ at gs
  where
    at : (xs : List (Vec (String Global) Global)) → map texts_in (xs ++ group ∷ []) ≡ map texts_in xs ++ texts_in group ∷ []
    at [] = refl
    at (x ∷ xs) = ap (λ (l : List (List Text)). texts_in x ∷ l) (at xs)

length-slice_texts : (zs : List (Bor Text)) → length (slice_texts zs) ≡ length zs
length-slice_texts [] = refl
length-slice_texts (z ∷ zs) = ap suc (length-slice_texts zs)

-- the tests of both
pub fit_is : (names files : List (Bor Text)) (b : Bool)
    → b ≡ (nat_eq (length names) (length files) && list_all (λ name. is_module_name name.now) names && list_all (λ file. not (nat_eq (length file.now) 0)) files)
    → (b && are_distinct (slice_texts names)) ≡ are_consistent (slice_texts names) (slice_texts files)
fit_is names files b e = rw (length-slice_texts names, length-slice_texts files, ← all_names names, ← all_paths files) (ap (λ (t : Bool). t && are_distinct (slice_texts names)) e)

pub no_fit : (b : Bool) (x y : Bool) → (b && x) ≡ y → b ≡ false → false ≡ y
no_fit b x y e h = rw h at e

pub yes_fit : (b x y : Bool) → (b && x) ≡ y → b ≡ true → x ≡ true → true ≡ y
yes_fit b x y e h k = rw (h, k) at e

pub ok_fit : {E : Type 0} (r : Result Bool E) (b x y : Bool) → (b && x) ≡ y → b ≡ true → IfOk r (λ t. t ≡ x) → IfOk r (λ t. t ≡ y)
ok_fit (Ok t) b x y e h k = k ∙ (rw h at e)
ok_fit (Err t) b x y e h k = k

-- the list that the four texts say
pub read_is : (e : Environment) (names files cs ps : List (Bor Text)) (b : Bool) (entries : List Entry)
    → slice_texts names ≡ elements_in (lookup e names_variable) → slice_texts files ≡ elements_in (lookup e files_variable)
    → slice_texts cs ≡ elements_in (lookup e conflicts_variable) → slice_texts ps ≡ elements_in (lookup e prereqs_variable)
    → b ≡ are_consistent (slice_texts names) (slice_texts files) → b ≡ true
    → entries ≡ entries_from (λ x. first_element x (slice_texts cs)) (λ x. first_element x (slice_texts ps)) (slice_texts names) (slice_texts files)
    → loaded_in e ≡ Some entries
read_is e names files cs ps b entries n f c p t y l =
    let fit : are_consistent (elements_in (lookup e names_variable)) (elements_in (lookup e files_variable)) ≡ true = rw (← n, ← f) (sym t ∙ y) in
    let same : entries_from (first_in (lookup e conflicts_variable)) (first_in (lookup e prereqs_variable)) (elements_in (lookup e names_variable)) (elements_in (lookup e files_variable)) ≡ entries =
    rw (← n, ← f) (sym (l ∙ same_entries _ _ _ _ (slice_texts names) (slice_texts files) (λ x. ap (first_element x) c) (λ x. ap (first_element x) p))) in
    ap (λ (t : Bool). if t then Some (entries_from (first_in (lookup e conflicts_variable))
    (first_in (lookup e prereqs_variable)) (elements_in (lookup e names_variable))
    (elements_in (lookup e files_variable))) else None) fit
    ∙ ap Some same
