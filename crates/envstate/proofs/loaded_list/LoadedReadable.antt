-- A loaded list that was read can be written.
use Rattle.std.proofs.Common.{◌≡◌, ℕ, Bool, true, false, cond, not, ◌&&◌, List, [], ◌∷◌, refl, ap, ◌∙◌, subst, arith}
use Rattle.std.proofs.Common.{length, nat_eq, Option, Some, None}
use Rattle.std.specs.Prelude.{filter, bytes_eq, if◌then◌else◌}
use Rattle.std.specs.List.{slice_split, onto_first, list_all, list_any}
use Rattle.std.proofs.lemmas.Bool.Decides.{nat_tests}
use Rattle.modulename.specs.ModuleName.{is_module_name}
use Rattle.envvars.specs.Texts.{Text, has}
use Rattle.envvars.specs.Fields.{without, are_distinct, without_repeats, elements_in}
use Rattle.envvars.specs.Environment.{Environment, lookup}
use Rattle.envstate.specs.loaded_list.LoadedTexts.{names_variable, files_variable, conflicts_variable, prereqs_variable, is_empty}
use Rattle.envstate.specs.loaded_list.LoadedTexts.{are_consistent, words_in, names_among, conflicts_among, names_of_group}
use Rattle.envstate.specs.loaded_list.LoadedTexts.{has_names, prereqs_among}
use Rattle.envstate.specs.loaded_list.Loaded.{Entry, names_of, entries_from, first_in, loaded_in, is_path, is_group, is_entry}
use Rattle.envstate.specs.loaded_list.Loaded.{IsLoadedList}
use Rattle.envvars.proofs.TextLemmas.{has-without, bytes_eq-same}
use Rattle.envvars.proofs.FieldLemmas.{distinct-filter}
use Rattle.envvars.proofs.EditLemmas.{both_true, and_both}
use Rattle.modulename.proofs.NameLemmas.{lacks}
use Rattle.envstate.proofs.loaded_list.LoadedAgain.{all_lack, lacks_any}

-- parts hold no separator
lack_onto : (c b : ℕ) (ps : List Text) → nat_eq b c ≡ false → all_lack c ps ≡ true → all_lack c (onto_first b ps) ≡ true
lack_onto c b [] n h = rw n refl
lack_onto c b (p ∷ ps) n h = let k = both_true (lacks c p) (all_lack c ps) h in and_both (lacks c (b ∷ p)) (all_lack c ps) (and_both (not (nat_eq b c)) (lacks c p) (rw n refl) k.0) k.1

parts_lack : (c : ℕ) (t : Text) → all_lack c (slice_split (λ b. nat_eq b c) t) ≡ true
parts_lack c [] = refl
parts_lack c (b ∷ bs) = at (nat_eq b c) refl (parts_lack c bs)
  where
    at : (s : Bool) → nat_eq b c ≡ s → all_lack c (slice_split (λ d. nat_eq d c) bs) ≡ true → all_lack c (slice_split (λ d. nat_eq d c) (b ∷ bs)) ≡ true
    at true e r = rw e r
    at false e r = rw e (lack_onto c b (slice_split (λ d. nat_eq d c) bs) e r)

elements_lack : (t : Option Text) → all_lack 58 (elements_in t) ≡ true
elements_lack None = refl
elements_lack (Some []) = refl
elements_lack (Some (b ∷ bs)) = parts_lack 58 (b ∷ bs)

-- what passes a test, of fewer texts
fewer_pass : (p q : Text → Bool) (xs : List Text) → list_all p xs ≡ true → list_all p (filter q xs) ≡ true
fewer_pass p q [] h = refl
fewer_pass p q (x ∷ xs) h = at (q x) (both_true (p x) (list_all p xs) h).0 (fewer_pass p q xs (both_true (p x) (list_all p xs) h).1)
  where
    at : (b : Bool) → p x ≡ true → list_all p (filter q xs) ≡ true → list_all p (cond b (x ∷ filter q xs) (filter q xs)) ≡ true
    at true k r = and_both (p x) (list_all p (filter q xs)) k r
    at false k r = r

pub firsts_pass : (p : Text → Bool) (xs : List Text) → list_all p xs ≡ true → list_all p (without_repeats xs) ≡ true
firsts_pass p [] h = refl
firsts_pass p (x ∷ xs) h =
    let k = both_true (p x) (list_all p xs) h in
    and_both (p x) (list_all p (without x (without_repeats xs))) k.0 (fewer_pass p (λ y. not (bytes_eq y x)) (without_repeats xs) (firsts_pass p xs k.1))

names_pass : (xs : List Text) → list_all is_module_name (names_among xs) ≡ true
names_pass [] = refl
names_pass (x ∷ xs) = at (is_module_name x) refl (names_pass xs)
  where
    at : (b : Bool) → is_module_name x ≡ b → list_all is_module_name (names_among xs) ≡ true → list_all is_module_name (cond b (x ∷ names_among xs) (names_among xs)) ≡ true
    at true e r = and_both (is_module_name x) (list_all is_module_name (names_among xs)) e r
    at false e r = r

groups_pass : (ws : List Text) → list_all is_group (prereqs_among ws) ≡ true
groups_pass [] = refl
groups_pass (w ∷ ws) = at (has_names (names_of_group w)) refl (groups_pass ws)
  where
    at : (b : Bool) → has_names (names_of_group w) ≡ b → list_all is_group (prereqs_among ws) ≡ true → list_all is_group (cond b (names_of_group w ∷ prereqs_among ws) (prereqs_among ws)) ≡ true
    at true e r = and_both (is_group (names_of_group w)) (list_all is_group (prereqs_among ws))
        (and_both (has_names (names_of_group w)) (list_all is_module_name (names_of_group w)) e
        (names_pass (slice_split (λ b. nat_eq b 124) w))) r
    at false e r = r

-- none stands twice among the firsts
pub distinct_firsts : (xs : List Text) → are_distinct (without_repeats xs) ≡ true
distinct_firsts [] = refl
distinct_firsts (x ∷ xs) =
    and_both (not (has x (without x (without_repeats xs)))) (are_distinct (without x (without_repeats xs)))
    (let f : has x (without x (without_repeats xs)) ≡ false = has-without (without_repeats xs) x x ∙ (rw (bytes_eq-same x) refl) in rw f refl)
    (distinct-filter (λ y. not (bytes_eq y x)) (without_repeats xs) (distinct_firsts xs))

-- the entries that are read
path_good : (p : Text) → not (is_empty p) ≡ true → lacks 58 p ≡ true → is_path p ≡ true
path_good p h k = and_both (not (is_empty p)) (not (list_any (λ b. nat_eq b 58) p)) h (rw (lacks_any p k) refl)

entries_good : (f g : Text → Option Text) (names files : List Text) → list_all is_module_name names ≡ true
    → list_all (λ p. not (is_empty p)) files ≡ true → all_lack 58 files ≡ true
    → list_all is_entry (entries_from f g names files) ≡ true
entries_good f g [] files h k l = refl
entries_good f g (n ∷ names) [] h k l = refl
entries_good f g (n ∷ names) (p ∷ files) h k l =
    let a = both_true (is_module_name n) (list_all is_module_name names) h in
    let b = both_true (not (is_empty p)) (list_all (λ q. not (is_empty q)) files) k in
    let c = both_true (lacks 58 p) (all_lack 58 files) l in
    and_both (is_entry (record { name = n; path = p; conflicts = conflicts_among (words_in (f n)); prereqs = prereqs_among (words_in (g n)) })) (list_all is_entry (entries_from f g names files))
    (and_both (is_module_name n && is_path p) (list_all is_module_name (conflicts_among (words_in (f n))) && list_all is_group (prereqs_among (words_in (g n))))
    (and_both (is_module_name n) (is_path p) a.0 (path_good p b.0 c.0))
    (and_both (list_all is_module_name (conflicts_among (words_in (f n)))) (list_all is_group (prereqs_among (words_in (g n))))
    (firsts_pass is_module_name (names_among (words_in (f n))) (names_pass (words_in (f n)))) (groups_pass (words_in (g n)))))
    (entries_good f g names files a.1 b.1 c.1)

names_same : (f g : Text → Option Text) (names files : List Text) → length names ≡ length files → names_of (entries_from f g names files) ≡ names
names_same f g [] files h = refl
names_same f g (n ∷ names) [] h = absurd (omega arith)
names_same f g (n ∷ names) (p ∷ files) h = ap (λ (l : List Text). n ∷ l) (names_same f g names files (omega arith))

conflicts_once : (f g : Text → Option Text) (names files : List Text) → list_all (λ x. are_distinct x.conflicts) (entries_from f g names files) ≡ true
conflicts_once f g [] files = refl
conflicts_once f g (n ∷ names) [] = refl
conflicts_once f g (n ∷ names) (p ∷ files) =
    and_both (are_distinct (conflicts_among (words_in (f n))))
    (list_all (λ x. are_distinct x.conflicts) (entries_from f g names files))
    (distinct_firsts (names_among (words_in (f n)))) (conflicts_once f g names files)

same_count : (m n : ℕ) → nat_eq m n ≡ true → m ≡ n
same_count m n h = grind (arith, nat_tests)

read_list : (f g : Text → Option Text) (names files : List Text) → are_consistent names files ≡ true → all_lack 58 files ≡ true → IsLoadedList (entries_from f g names files)
read_list f g names files h l =
    let a = both_true (nat_eq (length names) (length files) && list_all is_module_name names && list_all (λ p. not (is_empty p)) files) (are_distinct names) h in
    let b = both_true (nat_eq (length names) (length files) && list_all is_module_name names) (list_all (λ p. not (is_empty p)) files) a.0 in
    let c = both_true (nat_eq (length names) (length files)) (list_all is_module_name names) b.0 in
    record {
      each = entries_good f g names files c.1 b.1 l;
      names = ap are_distinct (names_same f g names files (same_count _ _ c.0)) ∙ a.1;
      conflicts = conflicts_once f g names files;
    }

read_if : (b : Bool) (xs ys : List Entry) → (if b then Some xs else None) ≡ Some ys → (b ≡ true → IsLoadedList xs) → IsLoadedList ys
read_if true xs ys h k = let e : xs ≡ ys = cc in subst IsLoadedList e (k refl)
read_if false xs ys h k = cc

pub loaded_readable : (e : Environment) (xs : List Entry) → loaded_in e ≡ Some xs → IsLoadedList xs
loaded_readable e xs h =
    read_if (are_consistent (elements_in (lookup e names_variable)) (elements_in (lookup e files_variable))) _ xs h
    (λ t. read_list (first_in (lookup e conflicts_variable)) (first_in (lookup e prereqs_variable))
    (elements_in (lookup e names_variable)) (elements_in (lookup e files_variable)) t
    (elements_lack (lookup e files_variable)))
