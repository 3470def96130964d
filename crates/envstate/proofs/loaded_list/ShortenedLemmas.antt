-- A list without its last module.
use Rattle.std.proofs.Common.{◌≡◌, ◌-◌, ◌+◌, ◌≤◌, get_or, Bool, true, false, cond, not, List, [], ◌∷◌, ◌++◌, refl, sym, ap, ◌∙◌, arith}
use Rattle.std.proofs.Common.{length, take, Some, string_bytes, map, Global, vec_len}
use Rattle.std.specs.Prelude.{filter, bytes_eq}
use Rattle.std.specs.declared.string.String.{String}
use Rattle.std.specs.declared.vec.Vec.{Vec}
use Rattle.std.proofs.lemmas.List.{append-nil, length-append, length-map, take-map, take_more}
use Rattle.std.proofs.lemmas.List.Elements.{filter-append}
use Rattle.envvars.specs.Texts.{Text, has, texts_in}
use Rattle.envvars.specs.Fields.{colon, text_of_elements}
use Rattle.envvars.proofs.FieldLemmas.{len_is}
use Rattle.envvars.proofs.TextLemmas.{bytes_eq-same, same_text}
use Rattle.envstate.specs.loaded_list.LoadedTexts.{has_names, element_of, group_text}
use Rattle.envstate.specs.loaded_list.Loaded.{Entry, names_of, names_text, files_text, conflict_elements, conflicts_text}
use Rattle.envstate.specs.loaded_list.Loaded.{prereq_elements, prereqs_text, has_groups, without_entry}
use Rattle.envstate.specs.loaded_list.LoadedEntries.{entry_view}
use Rattle.envstate.specs.loaded_list.Shortened.{but_last, IsShortened}
use Rattle.envstate.specs.declared.loaded_list.entry.Loaded.{Loaded}
use Rattle.envstate.proofs.loaded_list.ElementLemmas.{element_cut}
use Rattle.envstate.proofs.loaded_list.LoadedWriting.{conflicts-append, map-push, names-push, paths-push, prereqs-append, same_without}

take_all : {A : Type 0} (ys zs : List A) → take (length ys) (ys ++ zs) ≡ ys
take_all [] zs = refl
take_all (y ∷ ys) zs = ap (λ l. y ∷ l) (take_all ys zs)

pub last_off : (xs ys : List Loaded) (x : Loaded) → xs ≡ ys ++ x ∷ [] → but_last xs ≡ ys
last_off xs ys x h =
    let n : length xs - 1 ≡ length ys = omega (arith, ap length h, length-append ys (x ∷ [])) in
    ap (λ k. take k xs) n ∙ ap (take (length ys)) h ∙ take_all ys (x ∷ [])

-- the names without the last are those of the modules without the last
pub names_but_last : (ns : List (String Global)) (xs : List Loaded) → map string_bytes ns ≡ names_of (map entry_view xs)
    → map string_bytes (take (length ns - 1) ns) ≡ names_of (map entry_view (but_last xs))
names_but_last ns xs h =
    let n : length ns ≡ length xs = sym (length-map ns string_bytes) ∙ (ap length h ∙ (length-map (map entry_view xs) (λ x. x.name) ∙ length-map xs entry_view)) in
    sym (take-map string_bytes (length ns - 1) ns) ∙ ap (take (length ns - 1)) h ∙ ap (λ k. take (k - 1) (names_of (map entry_view xs))) n
    ∙ take-map (λ x. x.name) (length xs - 1) (map entry_view xs) ∙ ap names_of (take-map entry_view (length xs - 1) xs)

no_conflicts : (x : Loaded) → x.conflicts.items ≡ [] → conflict_elements (entry_view x ∷ []) ≡ []
no_conflicts x h = ap (λ (l : List (String Global)). cond (has_names (map string_bytes l)) (element_of (string_bytes x.name) (map string_bytes l) ∷ []) []) h

no_prereqs : (x : Loaded) → x.prereqs.items ≡ [] → prereq_elements (entry_view x ∷ []) ≡ []
no_prereqs x h =
    ap (λ (l : List (Vec (String Global) Global)). cond (has_groups (map texts_in l)) (element_of (string_bytes x.name) (map group_text (map texts_in l)) ∷ []) []) h

-- the last module leaves the list
left_alone : (ys : List Loaded) (x : Loaded) (name : Text) → string_bytes x.name ≡ name → has name (names_of (map entry_view ys)) ≡ false
    → map entry_view ys ≡ without_entry name (map entry_view (ys ++ x ∷ []))
left_alone ys x name same free =
    let other : Entry → Bool = λ (y : Entry). not (bytes_eq name y.name) in
    let gone : filter other (entry_view x ∷ []) ≡ [] = rw (same, bytes_eq-same name) refl in
    same_without name (map entry_view ys) (has name (names_of (map entry_view ys))) refl free
    ∙ sym (append-nil (filter other (map entry_view ys))) ∙ ap (λ l. filter other (map entry_view ys) ++ l) (sym gone)
    ∙ sym (filter-append other (map entry_view ys) (entry_view x ∷ [])) ∙ ap (filter other) (sym (map-push ys x))

conflicts_alone : (ys : List Loaded) (x : Loaded) → x.conflicts.items ≡ [] → conflicts_text (map entry_view ys) ≡ conflicts_text (map entry_view (ys ++ x ∷ []))
conflicts_alone ys x h = ap text_of_elements
    (sym (append-nil (conflict_elements (map entry_view ys))) ∙ ap (λ l. conflict_elements (map entry_view ys) ++ l) (sym (no_conflicts x h))
    ∙ sym (conflicts-append (map entry_view ys) (entry_view x ∷ [])) ∙ ap conflict_elements (sym (map-push ys x)))

prereqs_alone : (ys : List Loaded) (x : Loaded) → x.prereqs.items ≡ [] → prereqs_text (map entry_view ys) ≡ prereqs_text (map entry_view (ys ++ x ∷ []))
prereqs_alone ys x h = ap text_of_elements
    (sym (append-nil (prereq_elements (map entry_view ys))) ∙ ap (λ l. prereq_elements (map entry_view ys) ++ l) (sym (no_prereqs x h))
    ∙ sym (prereqs-append (map entry_view ys) (entry_view x ∷ [])) ∙ ap prereq_elements (sym (map-push ys x)))

-- what is left of the list and of its texts
pub shortened_is : (xs ys : List Loaded) (x : Loaded) (name names files n f : Text) → xs ≡ ys ++ x ∷ [] → string_bytes x.name ≡ name
    → x.conflicts.items ≡ [] → x.prereqs.items ≡ [] → has name (names_of (map entry_view ys)) ≡ false
    → Some n ≡ names_text (map entry_view xs) → Some f ≡ files_text (map entry_view xs)
    → n ≡ (names ++ colon ∷ []) ++ name → f ≡ (files ++ colon ∷ []) ++ string_bytes x.path → IsShortened xs name names files
shortened_is xs ys x name names files n f h same cs ps free hn hf kn kf =
    let front : but_last xs ≡ ys = last_off xs ys x h in
    record {
      without = ap (map entry_view) front ∙ left_alone ys x name same free ∙ ap (λ l. without_entry name (map entry_view l)) (sym h);
      names_left = element_cut (names_of (map entry_view ys)) name n names
          (hn ∙ ap (λ l. names_text (map entry_view l)) h ∙ ap text_of_elements (names-push ys x ∙ ap (λ t. names_of (map entry_view ys) ++ t ∷ []) same)) kn
          ∙ ap (λ l. names_text (map entry_view l)) (sym front);
      files_left = element_cut (map (λ x. x.path) (map entry_view ys)) (string_bytes x.path) f files
          (hf ∙ ap (λ l. files_text (map entry_view l)) h ∙ ap text_of_elements (paths-push ys x)) kf
          ∙ ap (λ l. files_text (map entry_view l)) (sym front);
      conflicts_stay = ap (λ l. conflicts_text (map entry_view l)) front ∙ conflicts_alone ys x cs
          ∙ ap (λ l. conflicts_text (map entry_view l)) (sym h);
      prereqs_stay = ap (λ l. prereqs_text (map entry_view l)) front ∙ prereqs_alone ys x ps
          ∙ ap (λ l. prereqs_text (map entry_view l)) (sym h);
    }

-- a vector without its last element
pub popped : {A : Type 0} (v w : Vec A Global) → w.items ≡ take (vec_len v - 1) v.items → w.items ≡ take (length v.items - 1) v.items
popped v w h = h ∙ ap (λ k. take (k - 1) v.items) (len_is v)

take_whole : {A : Type 0} (xs : List A) → take (length xs) xs ≡ xs
take_whole [] = refl
take_whole (x ∷ xs) = ap (λ l. x ∷ l) (take_whole xs)

-- a list is what is before its last module, and that
pub parted : (xs : List Loaded) (x : Loaded) → 1 ≤ length xs → x ≡ get_or xs (length xs - 1) x → xs ≡ but_last xs ++ x ∷ []
parted xs x some last =
    let n : (length xs - 1) + 1 ≡ length xs = omega (arith, some) in
    sym (take_whole xs) ∙ ap (λ k. take k xs) (sym n) ∙ take_more xs (length xs - 1) x (omega (arith, some))
    ∙ ap (λ y. but_last xs ++ y ∷ []) (sym last)

-- texts that don't differ
pub equal_texts : (x y : Text) → not (bytes_eq x y) ≡ false → x ≡ y
equal_texts x y h = same_text x y (denied (bytes_eq x y) h)
  where
    denied : (b : Bool) → not b ≡ false → b ≡ true
    denied true h = refl
    denied false h = sym h
