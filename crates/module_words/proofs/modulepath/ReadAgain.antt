-- What `use` makes of MODULEPATH is read again as the same list.
use Rattle.std.proofs.Common.{◌≡◌, ℕ, Bool, true, false, cond, not, ◌&&◌, ◌||◌, List, [], ◌∷◌, ◌++◌, refl, sym, ap, ◌∙◌, nat_eq, Option, Some, None, Result, Ok, Err}
use Rattle.std.specs.Prelude.{bytes_eq, filter, if◌then◌else◌, ◌==◌}
use Rattle.std.specs.List.{slice_split, join_with_byte, onto_first, list_all, list_any}
use Rattle.std.specs.Option.{option_map, ok_or}
use Rattle.std.proofs.lemmas.List.Folds.{list_all-append}
use Rattle.envvars.specs.Texts.{Text}
use Rattle.envvars.specs.Fields.{elements_in, text_of_elements, without, without_repeats}
use Rattle.envvars.proofs.EditLemmas.{both_true, and_both, not_is}
use Rattle.envstate.specs.declared.paths.adding.End.{End}
use Rattle.envstate.specs.declared.paths.adding.End.TheVariants.{Front, Back}
use Rattle.process.specs.AbsolutePaths.{absolute_path, is_absolute, led_along, path_of}
use Rattle.module_words.specs.modulepath.ModulePaths.{directories_in, unused, names_one, used}
use Rattle.module_words.specs.modulepath.Faults.{PathReason, no_name, no_working_directory, has_colon}
use Rattle.module_words.specs.modulepath.Words.{held, holdable, before, each}

-- no colon
abbrev pub lacks : Text → Bool
lacks t = list_all (λ b. not (nat_eq b 58)) t

-- what MODULEPATH can hold: neither empty nor with a colon
abbrev pub is_fine : Text → Bool
is_fine t = not (bytes_eq t []) && lacks t

-- what is joined is parted again
part_front : (x rest : Text) → lacks x ≡ true → slice_split (λ b. nat_eq b 58) (x ++ 58 ∷ rest) ≡ x ∷ slice_split (λ b. nat_eq b 58) rest
part_front [] rest h = refl
part_front (b ∷ bs) rest h =
    let k = both_true (not (nat_eq b 58)) (lacks bs) h in
    rw (not_is (nat_eq b 58) k.0, part_front bs rest k.1) refl

part_alone : (x : Text) → lacks x ≡ true → slice_split (λ b. nat_eq b 58) x ≡ x ∷ []
part_alone [] h = refl
part_alone (b ∷ bs) h =
    let k = both_true (not (nat_eq b 58)) (lacks bs) h in
    rw (not_is (nat_eq b 58) k.0, part_alone bs k.1) refl

parted : (x : Text) (xs : List Text) → list_all is_fine (x ∷ xs) ≡ true → slice_split (λ b. nat_eq b 58) (join_with_byte 58 (x ∷ xs)) ≡ x ∷ xs
parted x [] h =
    let k = both_true (is_fine x) true h in
    part_alone x (both_true (not (bytes_eq x [])) (lacks x) k.0).1
parted x (y ∷ ys) h =
    let k = both_true (is_fine x) (list_all is_fine (y ∷ ys)) h in
    part_front x (join_with_byte 58 (y ∷ ys)) (both_true (not (bytes_eq x [])) (lacks x) k.0).1 ∙ ap (λ (l : List Text). x ∷ l) (parted y ys k.1)

-- nothing of it is left out
kept_all : (xs : List Text) → list_all is_fine xs ≡ true → filter (λ e. not (bytes_eq e [])) xs ≡ xs
kept_all [] h = refl
kept_all (x ∷ xs) h =
    let k = both_true (is_fine x) (list_all is_fine xs) h in
    rw ((both_true (not (bytes_eq x [])) (lacks x) k.0).0, kept_all xs k.1) refl

joined_front : (b : ℕ) (bs : Text) (xs : List Text) → elements_in (Some (join_with_byte 58 ((b ∷ bs) ∷ xs))) ≡ slice_split (λ c. nat_eq c 58) (join_with_byte 58 ((b ∷ bs) ∷ xs))
joined_front b bs [] = refl
joined_front b bs (y ∷ ys) = refl

pub read_again : (xs : List Text) → list_all is_fine xs ≡ true → directories_in (text_of_elements xs) ≡ xs
read_again [] h = refl
read_again ([] ∷ xs) h = cc
read_again ((b ∷ bs) ∷ xs) h =
    ap (filter (λ e. not (bytes_eq e []))) (joined_front b bs xs ∙ parted (b ∷ bs) xs h) ∙ kept_all ((b ∷ bs) ∷ xs) h

-- each element that is read is fine
first_lacks : (b : ℕ) (parts : List Text) → nat_eq b 58 ≡ false → list_all lacks parts ≡ true → list_all lacks (onto_first b parts) ≡ true
first_lacks b [] e h = rw e refl
first_lacks b (p ∷ ps) e h = rw e h

split_at : (t : Bool) (b : ℕ) (parts : List Text) → nat_eq b 58 ≡ t → list_all lacks parts ≡ true → list_all lacks (cond t ([] ∷ parts) (onto_first b parts)) ≡ true
split_at true b parts e h = h
split_at false b parts e h = first_lacks b parts e h

split_lacks : (t : Text) → list_all lacks (slice_split (λ b. nat_eq b 58) t) ≡ true
split_lacks [] = refl
split_lacks (b ∷ bs) = split_at (nat_eq b 58) b (slice_split (λ c. nat_eq c 58) bs) refl (split_lacks bs)

elements_lack : (o : Option Text) → list_all lacks (elements_in o) ≡ true
elements_lack None = refl
elements_lack (Some []) = refl
elements_lack (Some (b ∷ bs)) = split_lacks (b ∷ bs)

fine_at : (t : Bool) (x : Text) (xs : List Text) → not (bytes_eq x []) ≡ t → lacks x ≡ true → list_all is_fine xs ≡ true → list_all is_fine (cond t (x ∷ xs) xs) ≡ true
fine_at true x xs e l h = and_both (is_fine x) (list_all is_fine xs) (and_both (not (bytes_eq x [])) (lacks x) e l) h
fine_at false x xs e l h = h

fine_elements : (xs : List Text) → list_all lacks xs ≡ true → list_all is_fine (filter (λ e. not (bytes_eq e [])) xs) ≡ true
fine_elements [] h = refl
fine_elements (x ∷ xs) h =
    let k = both_true (lacks x) (list_all lacks xs) h in
    fine_at (not (bytes_eq x [])) x (filter (λ e. not (bytes_eq e [])) xs) refl k.0 (fine_elements xs k.1)

-- a part of a list of such is one
some_at : (t : Bool) (x : Text) (xs : List Text) → is_fine x ≡ true → list_all is_fine xs ≡ true → list_all is_fine (cond t (x ∷ xs) xs) ≡ true
some_at true x xs e h = and_both (is_fine x) (list_all is_fine xs) e h
some_at false x xs e h = h

fine_filter : (p : Text → Bool) (xs : List Text) → list_all is_fine xs ≡ true → list_all is_fine (filter p xs) ≡ true
fine_filter p [] h = refl
fine_filter p (x ∷ xs) h =
    let k = both_true (is_fine x) (list_all is_fine xs) h in
    some_at (p x) x (filter p xs) k.0 (fine_filter p xs k.1)

fine_once : (xs : List Text) → list_all is_fine xs ≡ true → list_all is_fine (without_repeats xs) ≡ true
fine_once [] h = refl
fine_once (x ∷ xs) h =
    let k = both_true (is_fine x) (list_all is_fine xs) h in
    and_both (is_fine x) (list_all is_fine (without x (without_repeats xs))) k.0 (fine_filter (λ y. not (bytes_eq y x)) (without_repeats xs) (fine_once xs k.1))

-- what words name is fine
none_lacks : (t : Text) → list_any (λ b. b == 58) t ≡ false → lacks t ≡ true
none_lacks [] h = refl
none_lacks (b ∷ bs) h = none_at (nat_eq b 58) (list_any (λ c. c == 58) bs) (lacks bs) h (λ e. none_lacks bs e)
  where
    none_at : (t u v : Bool) → (t || u) ≡ false → (u ≡ false → v ≡ true) → (not t && v) ≡ true
    none_at true u v h k = cc
    none_at false u v h k = k h

held_at : (t : Bool) (b : ℕ) (bs p : Text) → list_any (λ c. c == 58) (b ∷ bs) ≡ t → (if t then Err (has_colon (b ∷ bs)) else Ok (b ∷ bs)) ≡ Ok p → is_fine p ≡ true
held_at true b bs p e h = cc
held_at false b bs p e h =
    let same : b ∷ bs ≡ p = cc in
    ap is_fine (sym same) ∙ none_lacks (b ∷ bs) e

held_fine : (o : Option Text) (w p : Text) → held (ok_or (option_map (λ place. 47 ∷ place) o) (no_working_directory w)) ≡ Ok p → is_fine p ≡ true
held_fine None w p h = cc
held_fine (Some place) w p h = held_at (list_any (λ c. c == 58) (47 ∷ place)) 47 place p refl h

-- an absolute path begins with a slash
shape_at : (t : Bool) (w : Option Text) (word : Text)
    → (o : Option Text) × ((if t then Some (path_of (led_along [] word)) else option_map (λ d. path_of (led_along (led_along [] d) word)) w) ≡ option_map (λ place. 47 ∷ place) o)
shape_at true w word = (Some (join_with_byte 47 (led_along [] word)), refl)
shape_at false None word = (None, refl)
shape_at false (Some d) word = (Some (join_with_byte 47 (led_along (led_along [] d) word)), refl)

named_at : (t : Bool) (o : Option Text) (a : Option Text) (w p : Text) → a ≡ option_map (λ place. 47 ∷ place) o → held (if t then Err no_name else ok_or a (no_working_directory w)) ≡ Ok p
    → is_fine p ≡ true
named_at true o a w p e h = cc
named_at false o a w p e h = held_fine o w p (ap (λ (x : Option Text). held (ok_or x (no_working_directory w))) (sym e) ∙ h)

holdable_fine : (w : Option Text) (word p : Text) → holdable w word ≡ Ok p → is_fine p ≡ true
holdable_fine w word p h =
    let s = shape_at (is_absolute word) w word in
    named_at (bytes_eq word []) s.0 (absolute_path w word) word p s.1 h

before_fine : (a : Result Text PathReason) (b : Result (List Text) PathReason) (paths : List Text) → before a b ≡ Ok paths → ((p : Text) → a ≡ Ok p → is_fine p ≡ true) → ((ps : List Text)
    → b ≡ Ok ps → list_all is_fine ps ≡ true) → list_all is_fine paths ≡ true
before_fine (Err r) b paths h f g = cc
before_fine (Ok p) (Err r) paths h f g = cc
before_fine (Ok p) (Ok ps) paths h f g =
    let same : p ∷ ps ≡ paths = cc in
    ap (list_all is_fine) (sym same) ∙ and_both (is_fine p) (list_all is_fine ps) (f p refl) (g ps refl)

paths_fine : (w : Option Text) (words paths : List Text) → each (holdable w) words ≡ Ok paths → list_all is_fine paths ≡ true
paths_fine w [] paths h =
    let none : [] ≡ paths = cc in
    ap (list_all is_fine) (sym none)
paths_fine w (word ∷ words) paths h = before_fine (holdable w word) (each (holdable w) words) paths h (λ p e. holdable_fine w word p e) (λ ps e. paths_fine w words ps e)

fine_used : (w : Option Text) (end : End) (paths list : List Text) → list_all is_fine paths ≡ true → list_all is_fine list ≡ true → list_all is_fine (used w end paths list) ≡ true
fine_used w Front paths list f g =
    list_all-append is_fine (without_repeats paths) (unused w paths list)
    ∙ and_both (list_all is_fine (without_repeats paths)) (list_all is_fine (unused w paths list)) (fine_once paths f) (fine_filter (λ e. not (names_one w paths e)) list g)
fine_used w Back paths list f g =
    list_all-append is_fine (unused w paths list) (without_repeats paths)
    ∙ and_both (list_all is_fine (unused w paths list)) (list_all is_fine (without_repeats paths)) (fine_filter (λ e. not (names_one w paths e)) list g) (fine_once paths f)

pub used_read_again : (w : Option Text) (end : End) (words paths : List Text) (old : Option Text) → each (holdable w) words ≡ Ok paths
    → directories_in (text_of_elements (used w end paths (directories_in old))) ≡ used w end paths (directories_in old)
used_read_again w end words paths old h =
    read_again (used w end paths (directories_in old)) (fine_used w end paths (directories_in old) (paths_fine w words paths h) (fine_elements (elements_in old) (elements_lack old)))

pub unused_read_again : (w : Option Text) (paths : List Text) (old : Option Text) → directories_in (text_of_elements (unused w paths (directories_in old))) ≡ unused w paths (directories_in old)
unused_read_again w paths old =
    read_again (unused w paths (directories_in old)) (fine_filter (λ e. not (names_one w paths e)) (directories_in old) (fine_elements (elements_in old) (elements_lack old)))
