-- A loaded list that is written is read as it was.
use Rattle.std.proofs.Common.{◌≡◌, ℕ, suc, Bool, true, false, cond, not, ◌&&◌, List, [], ◌∷◌, ◌++◌, refl, sym, ap, ◌∙◌}
use Rattle.std.proofs.Common.{arith, length, nat_eq, Option, Some, None, map}
use Rattle.std.specs.Prelude.{bytes_eq, if◌then◌else◌}
use Rattle.std.specs.List.{slice_split, join_with_byte, list_all, list_any, AllByRecursion}
use Rattle.std.proofs.lemmas.Bool.{false≢true}
use Rattle.std.proofs.lemmas.Bool.Decides.{nat_tests}
use Rattle.modulename.specs.ModuleName.{is_module_name}
use Rattle.envvars.specs.Texts.{Text, has}
use Rattle.envvars.specs.Fields.{without, are_distinct, fields, joined, text_of_elements, without_repeats, elements_in}
use Rattle.envvars.specs.Environment.{Environment, lookup}
use Rattle.envstate.specs.loaded_list.LoadedTexts.{names_variable, files_variable, conflicts_variable, prereqs_variable, is_empty}
use Rattle.envstate.specs.loaded_list.LoadedTexts.{are_consistent, parts_of, is_element_of, later_parts, first_element, words_in}
use Rattle.envstate.specs.loaded_list.LoadedTexts.{names_among, conflicts_among, names_of_group, has_names, prereqs_among}
use Rattle.envstate.specs.loaded_list.LoadedTexts.{element_of, group_text}
use Rattle.envstate.specs.loaded_list.Loaded.{Entry, names_of, entries_from, entries_in, loaded_in, names_text, files_text}
use Rattle.envstate.specs.loaded_list.Loaded.{conflict_elements, conflicts_text, has_groups, prereq_elements, prereqs_text}
use Rattle.envstate.specs.loaded_list.Loaded.{with_loaded, is_path, is_group, is_entry, IsLoadedList}
use Rattle.envvars.proofs.TextLemmas.{bytes_eq-same, bytes_eq-symmetric, or_left, or_right}
use Rattle.envvars.proofs.EnvLemmas.{lookup-with_value}
use Rattle.envvars.proofs.FieldLemmas.{without-absent}
use Rattle.envvars.proofs.EditLemmas.{both_true, and_both, not_is}
use Rattle.modulename.proofs.NameLemmas.{lacks, is_name_byte, name_lacks}

abbrev pub all_lack : ℕ → List Text → Bool
all_lack c xs = list_all (lacks c) xs

part_front : (c : ℕ) (x rest : Text) → lacks c x ≡ true → slice_split (λ b. nat_eq b c) (x ++ c ∷ rest) ≡ x ∷ slice_split (λ b. nat_eq b c) rest
part_front c [] rest h = rw (same_number c) refl
  where
    same_number : (n : ℕ) → nat_eq n n ≡ true
    same_number n = grind (arith, nat_tests)
part_front c (b ∷ bs) rest h =
    let k = both_true (not (nat_eq b c)) (lacks c bs) h in
    rw (not_is (nat_eq b c) k.0, part_front c bs rest k.1) refl

part_alone : (c : ℕ) (x : Text) → lacks c x ≡ true → slice_split (λ b. nat_eq b c) x ≡ x ∷ []
part_alone c [] h = refl
part_alone c (b ∷ bs) h =
    let k = both_true (not (nat_eq b c)) (lacks c bs) h in
    rw (not_is (nat_eq b c) k.0, part_alone c bs k.1) refl

-- what is joined is parted again
pub parted : (c : ℕ) (x : Text) (xs : List Text) → all_lack c (x ∷ xs) ≡ true → slice_split (λ b. nat_eq b c) (join_with_byte c (x ∷ xs)) ≡ x ∷ xs
parted c x [] h = part_alone c x (both_true (lacks c x) true h).0
parted c x (y ∷ ys) h =
    let k = both_true (lacks c x) (all_lack c (y ∷ ys)) h in
    part_front c x (join_with_byte c (y ∷ ys)) k.0 ∙ ap (λ (l : List Text). x ∷ l) (parted c y ys k.1)

lacks-append : (c : ℕ) (x y : Text) → lacks c x ≡ true → lacks c y ≡ true → lacks c (x ++ y) ≡ true
lacks-append c [] y h k = k
lacks-append c (b ∷ bs) y h k = let g = both_true (not (nat_eq b c)) (lacks c bs) h in and_both (not (nat_eq b c)) (lacks c (bs ++ y)) g.0 (lacks-append c bs y g.1 k)

-- texts without a byte, joined by another
pub lacks-join : (c d : ℕ) (xs : List Text) → nat_eq d c ≡ false → all_lack c xs ≡ true → lacks c (join_with_byte d xs) ≡ true
lacks-join c d [] n h = refl
lacks-join c d (x ∷ []) n h = (both_true (lacks c x) true h).0
lacks-join c d (x ∷ y ∷ ys) n h =
    let k = both_true (lacks c x) (all_lack c (y ∷ ys)) h in
    lacks-append c x (d ∷ join_with_byte d (y ∷ ys)) k.0 (and_both (not (nat_eq d c)) (lacks c (join_with_byte d (y ∷ ys))) (rw n refl) (lacks-join c d (y ∷ ys) n k.1))

names_lack : (c : ℕ) (names : List Text) → is_name_byte c ≡ false → list_all is_module_name names ≡ true → all_lack c names ≡ true
names_lack c [] f h = refl
names_lack c (n ∷ ns) f h = let k = both_true (is_module_name n) (list_all is_module_name ns) h in and_both (lacks c n) (all_lack c ns) (name_lacks c n f k.0) (names_lack c ns f k.1)

pub name_there : (name : Text) → is_module_name name ≡ true → is_empty name ≡ false
name_there [] h = absurd (false≢true h)
name_there (b ∷ bs) h = refl

-- A list of elements that are there and hold no colon.
abbrev are_elements : List Text → Bool
are_elements xs = list_all (λ x. not (is_empty x) && lacks 58 x) xs

elements_lack : (xs : List Text) → are_elements xs ≡ true → all_lack 58 xs ≡ true
elements_lack [] h = refl
elements_lack (x ∷ xs) h =
    let k = both_true (not (is_empty x) && lacks 58 x) (are_elements xs) h in
    and_both (lacks 58 x) (all_lack 58 xs) (both_true (not (is_empty x)) (lacks 58 x) k.0).1 (elements_lack xs k.1)

joined_there : (x : Text) (xs : List Text) → is_empty x ≡ false → is_empty (joined (x ∷ xs)) ≡ false
joined_there [] xs h = absurd (false≢true (sym h))
joined_there (b ∷ bs) [] h = refl
joined_there (b ∷ bs) (y ∷ ys) h = refl

elements_some : (t : Text) → is_empty t ≡ false → elements_in (Some t) ≡ fields t
elements_some [] h = absurd (false≢true (sym h))
elements_some (b ∷ bs) h = refl

pub elements_again : (xs : List Text) → are_elements xs ≡ true → elements_in (text_of_elements xs) ≡ xs
elements_again [] h = refl
elements_again (x ∷ xs) h =
    let k = both_true (not (is_empty x) && lacks 58 x) (are_elements xs) h in
    elements_some (joined (x ∷ xs)) (joined_there x xs (not_is (is_empty x) (both_true (not (is_empty x)) (lacks 58 x) k.0).0)) ∙ parted 58 x xs (elements_lack (x ∷ xs) h)

-- names and paths are such lists
names_elements : (names : List Text) → list_all is_module_name names ≡ true → are_elements names ≡ true
names_elements [] h = refl
names_elements (n ∷ ns) h =
    let k = both_true (is_module_name n) (list_all is_module_name ns) h in
    and_both (not (is_empty n) && lacks 58 n) (are_elements ns) (and_both (not (is_empty n)) (lacks 58 n) (rw (name_there n k.0) refl) (name_lacks 58 n refl k.0)) (names_elements ns k.1)

any_lacks : (x : Text) → list_any (λ b. nat_eq b 58) x ≡ false → lacks 58 x ≡ true
any_lacks [] h = refl
any_lacks (b ∷ bs) h = rw (or_left (nat_eq b 58) (list_any (λ c. nat_eq c 58) bs) h) (any_lacks bs (or_right (nat_eq b 58) (list_any (λ c. nat_eq c 58) bs) h))

pub lacks_any : (x : Text) → lacks 58 x ≡ true → list_any (λ b. nat_eq b 58) x ≡ false
lacks_any [] h = refl
lacks_any (b ∷ bs) h = let k = both_true (not (nat_eq b 58)) (lacks 58 bs) h in rw (not_is (nat_eq b 58) k.0) (lacks_any bs k.1)

path_element : (path : Text) → is_path path ≡ true → (not (is_empty path) && lacks 58 path) ≡ true
path_element path h =
    let k = both_true (not (is_empty path)) (not (list_any (λ b. nat_eq b 58) path)) h in
    and_both (not (is_empty path)) (lacks 58 path) k.0 (any_lacks path (not_is _ k.1))

-- The parts of an entry.
pub record IsGood (x : Entry) : Type 0 where
  pub name : is_module_name x.name ≡ true
  pub path : is_path x.path ≡ true
  pub conflicts : list_all is_module_name x.conflicts ≡ true
  pub prereqs : list_all is_group x.prereqs ≡ true

pub good : (x : Entry) → is_entry x ≡ true → IsGood x
good x h =
    let k = both_true (is_module_name x.name && is_path x.path) (list_all is_module_name x.conflicts && list_all is_group x.prereqs) h in
    let n = both_true (is_module_name x.name) (is_path x.path) k.0 in
    let w = both_true (list_all is_module_name x.conflicts) (list_all is_group x.prereqs) k.1 in
    record { name = n.0; path = n.1; conflicts = w.0; prereqs = w.1 }

-- an element of a module and words that lack `&` and `:`
abbrev are_words : List Text → Bool
are_words words = list_all (λ w. lacks 38 w && lacks 58 w) words

words_lack : (words : List Text) → are_words words ≡ true → (all_lack 38 words ≡ true) × (all_lack 58 words ≡ true)
words_lack [] h = (refl, refl)
words_lack (w ∷ ws) h =
    let k = both_true (lacks 38 w && lacks 58 w) (are_words ws) h in
    let g = both_true (lacks 38 w) (lacks 58 w) k.0 in
    let r = words_lack ws k.1 in
    (and_both (lacks 38 w) (all_lack 38 ws) g.0 r.0, and_both (lacks 58 w) (all_lack 58 ws) g.1 r.1)

element_parts : (name : Text) (words : List Text) → is_module_name name ≡ true → are_words words ≡ true → parts_of (element_of name words) ≡ name ∷ words
element_parts name words h k = parted 38 name words (and_both (lacks 38 name) (all_lack 38 words) (name_lacks 38 name refl h) (words_lack words k).0)

there_join : (c : ℕ) (x : Text) (xs : List Text) → is_empty x ≡ false → is_empty (join_with_byte c (x ∷ xs)) ≡ false
there_join c [] xs h = absurd (false≢true (sym h))
there_join c (b ∷ bs) [] h = refl
there_join c (b ∷ bs) (y ∷ ys) h = refl

element_good : (name : Text) (words : List Text) → is_module_name name ≡ true → are_words words ≡ true → (not (is_empty (element_of name words)) && lacks 58 (element_of name words)) ≡ true
element_good name words h k =
    and_both (not (is_empty (element_of name words))) (lacks 58 (element_of name words)) (rw (there_join 38 name words (name_there name h)) refl)
    (lacks-join 58 38 (name ∷ words) refl (and_both (lacks 58 name) (all_lack 58 words) (name_lacks 58 name refl h) (words_lack words k).1))

names_words : (names : List Text) → list_all is_module_name names ≡ true → are_words names ≡ true
names_words [] h = refl
names_words (n ∷ ns) h =
    let k = both_true (is_module_name n) (list_all is_module_name ns) h in
    and_both (lacks 38 n && lacks 58 n) (are_words ns) (and_both (lacks 38 n) (lacks 58 n) (name_lacks 38 n refl k.0) (name_lacks 58 n refl k.0)) (names_words ns k.1)

groups_words : (groups : List (List Text)) → list_all is_group groups ≡ true → are_words (map group_text groups) ≡ true
groups_words [] h = refl
groups_words (g ∷ gs) h =
    let k = both_true (is_group g) (list_all is_group gs) h in
    let n = both_true (has_names g) (list_all is_module_name g) k.0 in
    and_both (lacks 38 (group_text g) && lacks 58 (group_text g)) (are_words (map group_text gs))
    (and_both (lacks 38 (group_text g)) (lacks 58 (group_text g)) (lacks-join 38 124 g refl (names_lack 38 g refl n.1)) (lacks-join 58 124 g refl (names_lack 58 g refl n.1))) (groups_words gs k.1)

-- what is kept of well-spelled names, and of groups
kept_names : (names : List Text) → list_all is_module_name names ≡ true → names_among names ≡ names
kept_names [] h = refl
kept_names (n ∷ ns) h = let k = both_true (is_module_name n) (list_all is_module_name ns) h in rw (k.0, kept_names ns k.1) refl

firsts_distinct : (xs : List Text) → are_distinct xs ≡ true → without_repeats xs ≡ xs
firsts_distinct [] h = refl
firsts_distinct (x ∷ xs) h =
    let k = both_true (not (has x xs)) (are_distinct xs) h in
    ap (λ (l : List Text). x ∷ without x l) (firsts_distinct xs k.1) ∙ ap (λ (l : List Text). x ∷ l) (without-absent x xs (not_is (has x xs) k.0))

conflicts_again : (names : List Text) → list_all is_module_name names ≡ true → are_distinct names ≡ true → conflicts_among names ≡ names
conflicts_again names h k = ap without_repeats (kept_names names h) ∙ firsts_distinct names k

group_parts : (g : List Text) → has_names g ≡ true → list_all is_module_name g ≡ true → names_of_group (group_text g) ≡ g
group_parts [] h k = absurd (false≢true h)
group_parts (n ∷ ns) h k = ap names_among (parted 124 n ns (names_lack 124 (n ∷ ns) refl k)) ∙ kept_names (n ∷ ns) k

groups_again : (groups : List (List Text)) → list_all is_group groups ≡ true → prereqs_among (map group_text groups) ≡ groups
groups_again [] h = refl
groups_again (g ∷ gs) h =
    let k = both_true (is_group g) (list_all is_group gs) h in
    let n = both_true (has_names g) (list_all is_module_name g) k.0 in
    rw (group_parts g n.0 n.1, n.0, groups_again gs k.1) refl

-- The elements of the entries.
conflict_good : (xs : List Entry) → list_all is_entry xs ≡ true → are_elements (conflict_elements xs) ≡ true
conflict_good [] h = refl
conflict_good (x ∷ xs) h =
    let k = both_true (is_entry x) (list_all is_entry xs) h in
    at (has_names x.conflicts) (element_good x.name x.conflicts (good x k.0).name (names_words x.conflicts (good x k.0).conflicts)) (conflict_good xs k.1)
  where
    at : (b : Bool) → (not (is_empty (element_of x.name x.conflicts)) && lacks 58 (element_of x.name x.conflicts)) ≡ true → are_elements (conflict_elements xs) ≡ true
        → are_elements (cond b (element_of x.name x.conflicts ∷ conflict_elements xs) (conflict_elements xs)) ≡ true
    at true e r = and_both (not (is_empty (element_of x.name x.conflicts)) && lacks 58 (element_of x.name x.conflicts)) (are_elements (conflict_elements xs)) e r
    at false e r = r

prereq_good : (xs : List Entry) → list_all is_entry xs ≡ true → are_elements (prereq_elements xs) ≡ true
prereq_good [] h = refl
prereq_good (x ∷ xs) h =
    let k = both_true (is_entry x) (list_all is_entry xs) h in
    at (has_groups x.prereqs) (element_good x.name (map group_text x.prereqs) (good x k.0).name (groups_words x.prereqs (good x k.0).prereqs)) (prereq_good xs k.1)
  where
    at : (b : Bool) → (not (is_empty (element_of x.name (map group_text x.prereqs))) && lacks 58 (element_of x.name (map group_text x.prereqs))) ≡ true → are_elements (prereq_elements xs) ≡ true
        → are_elements (cond b (element_of x.name (map group_text x.prereqs) ∷ prereq_elements xs) (prereq_elements xs)) ≡ true
    at true e r = and_both (not (is_empty (element_of x.name (map group_text x.prereqs))) && lacks 58 (element_of x.name (map group_text x.prereqs))) (are_elements (prereq_elements xs)) e r
    at false e r = r

-- the element of a module that comes first, and another's
of_names : (n : Text) (ws : List Text) → has_names ws ≡ true → is_element_of n (n ∷ ws) ≡ true
of_names n [] h = absurd (false≢true h)
of_names n (w ∷ ws) h = bytes_eq-same n

of_groups : (n : Text) (gs : List (List Text)) → has_groups gs ≡ true → is_element_of n (n ∷ map group_text gs) ≡ true
of_groups n [] h = absurd (false≢true h)
of_groups n (g ∷ gs) h = bytes_eq-same n

of_another : (n m : Text) (ws : List Text) → bytes_eq n m ≡ false → is_element_of n (m ∷ ws) ≡ false
of_another n m [] h = refl
of_another n m (w ∷ ws) h = h

first_same : (n : Text) (e : Text) (es ps : List Text) → parts_of e ≡ n ∷ ps → is_element_of n (n ∷ ps) ≡ true → first_element n (e ∷ es) ≡ Some e
first_same n e es ps p w =
    let t : is_element_of n (parts_of e) ≡ true = ap (is_element_of n) p ∙ w in
    rw t refl

first_other : (n m : Text) (e : Text) (es ps : List Text) → parts_of e ≡ m ∷ ps → bytes_eq n m ≡ false → first_element n (e ∷ es) ≡ first_element n es
first_other n m e es ps p f =
    let t : is_element_of n (parts_of e) ≡ false = ap (is_element_of n) p ∙ of_another n m ps f in
    rw t refl

no_conflicts : (n : Text) (xs : List Entry) → list_all is_entry xs ≡ true → has n (names_of xs) ≡ false → first_element n (conflict_elements xs) ≡ None
no_conflicts n [] h f = refl
no_conflicts n (x ∷ xs) h f =
    let k = both_true (is_entry x) (list_all is_entry xs) h in
    at (has_names x.conflicts)
    (first_other n x.name (element_of x.name x.conflicts) (conflict_elements xs) x.conflicts
    (element_parts x.name x.conflicts (good x k.0).name (names_words x.conflicts (good x k.0).conflicts))
    (or_left (bytes_eq n x.name) (has n (names_of xs)) f))
    (no_conflicts n xs k.1 (or_right (bytes_eq n x.name) (has n (names_of xs)) f))
  where
    at : (b : Bool) → first_element n (element_of x.name x.conflicts ∷ conflict_elements xs) ≡ first_element n (conflict_elements xs) → first_element n (conflict_elements xs) ≡ None
        → first_element n (cond b (element_of x.name x.conflicts ∷ conflict_elements xs) (conflict_elements xs)) ≡ None
    at true e r = e ∙ r
    at false e r = r

no_prereqs : (n : Text) (xs : List Entry) → list_all is_entry xs ≡ true → has n (names_of xs) ≡ false → first_element n (prereq_elements xs) ≡ None
no_prereqs n [] h f = refl
no_prereqs n (x ∷ xs) h f =
    let k = both_true (is_entry x) (list_all is_entry xs) h in
    at (has_groups x.prereqs)
    (first_other n x.name (element_of x.name (map group_text x.prereqs)) (prereq_elements xs) (map group_text x.prereqs)
    (element_parts x.name (map group_text x.prereqs) (good x k.0).name
    (groups_words x.prereqs (good x k.0).prereqs)) (or_left (bytes_eq n x.name) (has n (names_of xs)) f))
    (no_prereqs n xs k.1 (or_right (bytes_eq n x.name) (has n (names_of xs)) f))
  where
    at : (b : Bool) → first_element n (element_of x.name (map group_text x.prereqs) ∷ prereq_elements xs) ≡ first_element n (prereq_elements xs) → first_element n (prereq_elements xs) ≡ None
        → first_element n (cond b (element_of x.name (map group_text x.prereqs) ∷ prereq_elements xs) (prereq_elements xs)) ≡ None
    at true e r = e ∙ r
    at false e r = r

-- what is found for the entry in hand, and for those behind it
abbrev IsFound : (Text → Option Text) → (Text → Option Text) → Entry → Type 0
IsFound f g x = (words_in (f x.name) ≡ x.conflicts) × (words_in (g x.name) ≡ map group_text x.prereqs)

no_words : (names : List Text) → has_names names ≡ false → names ≡ []
no_words [] h = refl
no_words (n ∷ ns) h = absurd (false≢true (sym h))

no_group_words : (groups : List (List Text)) → has_groups groups ≡ false → groups ≡ []
no_group_words [] h = refl
no_group_words (g ∷ gs) h = absurd (false≢true (sym h))

found_here : (x : Entry) (xs : List Entry) → is_entry x ≡ true → list_all is_entry xs ≡ true → has x.name (names_of xs) ≡ false
    → IsFound (λ n. first_element n (conflict_elements (x ∷ xs))) (λ n. first_element n (prereq_elements (x ∷ xs))) x
found_here x xs h k f = (conflicts (has_names x.conflicts) refl, prereqs (has_groups x.prereqs) refl)
  where
    conflicts : (b : Bool) → has_names x.conflicts ≡ b → words_in (first_element x.name (cond b (element_of x.name x.conflicts ∷ conflict_elements xs) (conflict_elements xs))) ≡ x.conflicts
    conflicts true e =
        let p = element_parts x.name x.conflicts (good x h).name (names_words x.conflicts (good x h).conflicts) in
        ap words_in (first_same x.name (element_of x.name x.conflicts) (conflict_elements xs) x.conflicts p (of_names x.name x.conflicts e)) ∙ ap later_parts p
    conflicts false e = ap words_in (no_conflicts x.name xs k f) ∙ sym (no_words x.conflicts e)

    prereqs : (b : Bool) → has_groups x.prereqs ≡ b → words_in
        (first_element x.name (cond b (element_of x.name (map group_text x.prereqs) ∷ prereq_elements xs)
        (prereq_elements xs))) ≡ map group_text x.prereqs
    prereqs true e =
        let p = element_parts x.name (map group_text x.prereqs) (good x h).name (groups_words x.prereqs (good x h).prereqs) in
        ap words_in (first_same x.name (element_of x.name (map group_text x.prereqs)) (prereq_elements xs) (map group_text x.prereqs) p (of_groups x.name x.prereqs e)) ∙ ap later_parts p
    prereqs false e = ap words_in (no_prereqs x.name xs k f) ∙ sym (ap (map group_text) (no_group_words x.prereqs e))

found_behind : (x y : Entry) (xs : List Entry) → is_entry x ≡ true → bytes_eq y.name x.name ≡ false
    → IsFound (λ n. first_element n (conflict_elements xs)) (λ n. first_element n (prereq_elements xs)) y
    → IsFound (λ n. first_element n (conflict_elements (x ∷ xs))) (λ n. first_element n (prereq_elements (x ∷ xs))) y
found_behind x y xs h f g = (conflicts (has_names x.conflicts), prereqs (has_groups x.prereqs))
  where
    conflicts : (b : Bool) → words_in (first_element y.name (cond b (element_of x.name x.conflicts ∷ conflict_elements xs) (conflict_elements xs))) ≡ y.conflicts
    conflicts true =
        ap words_in (first_other y.name x.name (element_of x.name x.conflicts) (conflict_elements xs) x.conflicts
        (element_parts x.name x.conflicts (good x h).name (names_words x.conflicts (good x h).conflicts)) f) ∙ g.0
    conflicts false = g.0

    prereqs : (b : Bool) → words_in (first_element y.name (cond b (element_of x.name (map group_text x.prereqs) ∷ prereq_elements xs) (prereq_elements xs))) ≡ map group_text y.prereqs
    prereqs true =
        ap words_in (first_other y.name x.name (element_of x.name (map group_text x.prereqs)) (prereq_elements xs)
        (map group_text x.prereqs) (element_parts x.name (map group_text x.prereqs) (good x h).name
        (groups_words x.prereqs (good x h).prereqs)) f) ∙ g.1
    prereqs false = g.1

all_behind : (x : Entry) (xs ys : List Entry) → is_entry x ≡ true → has x.name (names_of ys) ≡ false
    → AllByRecursion (IsFound (λ n. first_element n (conflict_elements xs)) (λ n. first_element n (prereq_elements xs))) ys
    → AllByRecursion (IsFound (λ n. first_element n (conflict_elements (x ∷ xs))) (λ n. first_element n (prereq_elements (x ∷ xs)))) ys
all_behind x xs [] h f g = g
all_behind x xs (y ∷ ys) h f g = (
  found_behind x y xs h (bytes_eq-symmetric y.name x.name
      ∙ or_left (bytes_eq x.name y.name) (has x.name (names_of ys)) f) g.0,
  all_behind x xs ys h
      (or_right (bytes_eq x.name y.name) (has x.name (names_of ys)) f) g.1,
)

all_found : (xs : List Entry) → list_all is_entry xs ≡ true → are_distinct (names_of xs) ≡ true
    → AllByRecursion (IsFound (λ n. first_element n (conflict_elements xs)) (λ n. first_element n (prereq_elements xs)))
    xs
all_found [] h d = tt
all_found (x ∷ xs) h d =
    let k = both_true (is_entry x) (list_all is_entry xs) h in
    let e = both_true (not (has x.name (names_of xs))) (are_distinct (names_of xs)) d in
    (found_here x xs k.0 k.1 (not_is (has x.name (names_of xs)) e.0), all_behind x xs xs k.0 (not_is (has x.name (names_of xs)) e.0) (all_found xs k.1 e.1))

same_entry : (x : Entry) (cs : List Text) (ps : List (List Text)) → cs ≡ x.conflicts → ps ≡ x.prereqs → (let y : Entry = record { name = x.name; path = x.path; conflicts = cs; prereqs = ps } in y) ≡ x
same_entry x cs ps c p = λ i. record { name = x.name; path = x.path; conflicts = c i; prereqs = p i }

from_found : (f g : Text → Option Text) (xs : List Entry) → list_all is_entry xs ≡ true → list_all (λ x. are_distinct x.conflicts) xs ≡ true → AllByRecursion (IsFound f g) xs
    → entries_from f g (names_of xs) (map (λ x. x.path) xs) ≡ xs
from_found f g [] h d a = refl
from_found f g (x ∷ xs) h d a =
    let k = both_true (is_entry x) (list_all is_entry xs) h in
    let e = both_true (are_distinct x.conflicts) (list_all (λ y. are_distinct y.conflicts) xs) d in
    let c : conflicts_among (words_in (f x.name)) ≡ x.conflicts = ap conflicts_among a.0.0 ∙ conflicts_again x.conflicts (good x k.0).conflicts e.0 in
    let p : prereqs_among (words_in (g x.name)) ≡ x.prereqs = ap prereqs_among a.0.1 ∙ groups_again x.prereqs (good x k.0).prereqs in
    ap (λ (y : Entry). y ∷ entries_from f g (names_of xs) (map (λ z. z.path) xs)) (same_entry x _ _ c p) ∙ ap (λ (l : List Entry). x ∷ l) (from_found f g xs k.1 e.1 a.1)

-- The names and the files fit together.
pub good_names : (xs : List Entry) → list_all is_entry xs ≡ true → list_all is_module_name (names_of xs) ≡ true
good_names [] h = refl
good_names (x ∷ xs) h = let k = both_true (is_entry x) (list_all is_entry xs) h in and_both (is_module_name x.name) (list_all is_module_name (names_of xs)) (good x k.0).name (good_names xs k.1)

good_files : (xs : List Entry) → list_all is_entry xs ≡ true → are_elements (map (λ x. x.path) xs) ≡ true
good_files [] h = refl
good_files (x ∷ xs) h =
    let k = both_true (is_entry x) (list_all is_entry xs) h in
    and_both (not (is_empty x.path) && lacks 58 x.path) (are_elements (map (λ y. y.path) xs)) (path_element x.path (good x k.0).path) (good_files xs k.1)

files_there : (ps : List Text) → are_elements ps ≡ true → list_all (λ p. not (is_empty p)) ps ≡ true
files_there [] h = refl
files_there (p ∷ ps) h =
    let k = both_true (not (is_empty p) && lacks 58 p) (are_elements ps) h in
    and_both (not (is_empty p)) (list_all (λ q. not (is_empty q)) ps) (both_true (not (is_empty p)) (lacks 58 p) k.0).0 (files_there ps k.1)

as_many : (xs : List Entry) → length (names_of xs) ≡ length (map (λ x. x.path) xs)
as_many [] = refl
as_many (x ∷ xs) = ap suc (as_many xs)

same_length : (m n : ℕ) → m ≡ n → nat_eq m n ≡ true
same_length m n h = grind (arith, nat_tests)

fits : (xs : List Entry) → IsLoadedList xs → are_consistent (names_of xs) (map (λ x. x.path) xs) ≡ true
fits xs l =
    and_both (nat_eq (length (names_of xs)) (length (map (λ x. x.path) xs)) && list_all is_module_name (names_of xs) &&
    list_all (λ p. not (is_empty p)) (map (λ x. x.path) xs)) (are_distinct (names_of xs))
    (and_both (nat_eq (length (names_of xs)) (length (map (λ x. x.path) xs)) && list_all is_module_name (names_of xs)) (list_all (λ p. not (is_empty p)) (map (λ x. x.path) xs))
    (and_both (nat_eq (length (names_of xs)) (length (map (λ x. x.path) xs))) (list_all is_module_name (names_of xs)) (same_length _ _ (as_many xs)) (good_names xs l.each))
    (files_there (map (λ x. x.path) xs) (good_files xs l.each))) l.names

-- what lists of elements say
abbrev read_from : List Text → List Text → List Text → List Text → Option (List Entry)
read_from names files cs ps = if are_consistent names files then Some (entries_from (λ n. first_element n cs) (λ n. first_element n ps) names files) else None

read_fit : (b : Bool) (xs ys : List Entry) → b ≡ true → xs ≡ ys → (if b then Some xs else None) ≡ Some ys
read_fit b xs ys h e = rw (h, e) refl

pub entries_again : (xs : List Entry) → IsLoadedList xs → entries_in (names_text xs) (files_text xs) (conflicts_text xs) (prereqs_text xs) ≡ Some xs
entries_again xs l =
    let n : elements_in (names_text xs) ≡ names_of xs = elements_again (names_of xs) (names_elements (names_of xs) (good_names xs l.each)) in
    let p : elements_in (files_text xs) ≡ map (λ x. x.path) xs = elements_again (map (λ x. x.path) xs) (good_files xs l.each) in
    let c : elements_in (conflicts_text xs) ≡ conflict_elements xs = elements_again (conflict_elements xs) (conflict_good xs l.each) in
    let r : elements_in (prereqs_text xs) ≡ prereq_elements xs = elements_again (prereq_elements xs) (prereq_good xs l.each) in
    ap (λ (k : List Text). read_from k (elements_in (files_text xs)) (elements_in (conflicts_text xs)) (elements_in (prereqs_text xs))) n
    ∙ ap (λ (k : List Text). read_from (names_of xs) k (elements_in (conflicts_text xs)) (elements_in (prereqs_text xs))) p
    ∙ ap (λ (k : List Text). read_from (names_of xs) (map (λ x. x.path) xs) k (elements_in (prereqs_text xs))) c
    ∙ ap (read_from (names_of xs) (map (λ x. x.path) xs) (conflict_elements xs)) r
    ∙ read_fit (are_consistent (names_of xs) (map (λ x. x.path) xs))
    (entries_from (λ n. first_element n (conflict_elements xs)) (λ n. first_element n (prereq_elements xs))
    (names_of xs) (map (λ x. x.path) xs)) xs (fits xs l)
    (from_found (λ n. first_element n (conflict_elements xs)) (λ n. first_element n (prereq_elements xs)) xs l.each l.conflicts (all_found xs l.each l.names))

-- the four variables are four
pub at_names : (e : Environment) (xs : List Entry) → lookup (with_loaded e xs) names_variable ≡ names_text xs
at_names e xs = simp lookup-with_value

pub at_files : (e : Environment) (xs : List Entry) → lookup (with_loaded e xs) files_variable ≡ files_text xs
at_files e xs = simp lookup-with_value

pub at_conflicts : (e : Environment) (xs : List Entry) → lookup (with_loaded e xs) conflicts_variable ≡ conflicts_text xs
at_conflicts e xs = simp lookup-with_value

pub at_prereqs : (e : Environment) (xs : List Entry) → lookup (with_loaded e xs) prereqs_variable ≡ prereqs_text xs
at_prereqs e xs = simp lookup-with_value

pub loaded_again : (e : Environment) (xs : List Entry) → IsLoadedList xs → loaded_in (with_loaded e xs) ≡ Some xs
loaded_again e xs l =
    ap (λ (t : Option Text). entries_in t (lookup (with_loaded e xs) files_variable) (lookup (with_loaded e xs) conflicts_variable) (lookup (with_loaded e xs) prereqs_variable)) (at_names e xs)
    ∙ ap (λ (t : Option Text). entries_in (names_text xs) t (lookup (with_loaded e xs) conflicts_variable) (lookup (with_loaded e xs) prereqs_variable)) (at_files e xs)
    ∙ ap (λ (t : Option Text). entries_in (names_text xs) (files_text xs) t (lookup (with_loaded e xs) prereqs_variable)) (at_conflicts e xs)
    ∙ ap (entries_in (names_text xs) (files_text xs) (conflicts_text xs)) (at_prereqs e xs)
    ∙ entries_again xs l
