-- The entry of a site's module can be written: its name, its path, its conflicts, and its prereqs.
use Rattle.std.proofs.Common.{◌≡◌, ℕ, Bool, true, false, cond, not, ◌&&◌, List, [], ◌∷◌, ◌++◌, Option, Some, None, refl, ap, ◌∙◌}
use Rattle.std.specs.Prelude.{bytes_eq, nat_eq, flat_map, is_none}
use Rattle.std.specs.List.{list_all, slice_split, onto_first, cons_option}
use Rattle.std.proofs.lemmas.Bool.{and_parts, and_from}
use Rattle.modulename.specs.ModuleName.{is_module_name}
use Rattle.modulename.proofs.NameLemmas.{lacks, name_lacks}
use Rattle.envvars.specs.Texts.{Text}
use Rattle.envvars.specs.Fields.{without_repeats}
use Rattle.envstate.specs.loaded_list.LoadedTexts.{is_empty, has_names}
use Rattle.envstate.specs.loaded_list.Loaded.{is_path, is_group, is_entry}
use Rattle.envstate.proofs.loaded_list.LoadedAgain.{lacks_any}
use Rattle.envstate.proofs.loaded_list.LoadedReadable.{firsts_pass}
use Rattle.filetree.specs.Modulefiles as tree
use Rattle.filetree.specs.Modulefiles.{directories, path_of}
use Rattle.modulefile.specs.Records.{Record, Set, Unset, Push, Path, Conflict, Prereq, Whatis, added_elements, conflicts_of, prereqs_of, conflict_names, prereq_groups}
use Rattle.modulefile.specs.Judgments.{RecordReason, bad_module_name, names_reason, record_reason, is_allowed}
use Rattle.modulefile.specs.Moves.{Module, entry_of}
use Rattle.requests.specs.Steps as requests
use Rattle.audit_certificate.specs.RecordUses.{IsAmong, modulepath}
use Rattle.audit_certificate.proofs.UsedLemmas.{by_test, by_cases, among_either}
use Rattle.audit_certificate.proofs.Exact.{all_each, filtered}
use Rattle.audit_laws.specs.site.Sites.{Site, SiteModule, IsDirectory, first, added, IsOfSite, directories_by, directories_in}

-- ---- a path without a colon

onto_lacks : (b : ℕ) (parts : List Text) → nat_eq b 58 ≡ false → list_all (lacks 58) parts ≡ true → list_all (lacks 58) (onto_first b parts) ≡ true
onto_lacks b [] f h = rw f refl
onto_lacks b (part ∷ parts) f h = let p = and_parts (lacks 58 part) (list_all (lacks 58) parts) h in rw (f, p.0, p.1) refl

split_lacks : (text : Text) → list_all (lacks 58) (slice_split (λ b. nat_eq b 58) text) ≡ true
split_lacks [] = refl
split_lacks (b ∷ bs) = by_test (nat_eq b 58) _
    (λ t. rw t (split_lacks bs))
    (λ f. rw f (onto_lacks b (slice_split (λ c. nat_eq c 58) bs) f (split_lacks bs)))

directory_lacks : (text dir : Text) → IsAmong dir (directories text) → lacks 58 dir ≡ true
directory_lacks text dir a =
    let parts = slice_split (λ b. nat_eq b 58) text in
    all_each (lacks 58) parts (split_lacks text) dir (filtered (λ d. not (tree.is_empty d)) parts dir a).0

flat_among : {X Y : Type 0} (f : X → List Y) (xs : List X) (y : Y) → IsAmong y (flat_map f xs) → (x : X) × IsAmong y (f x)
flat_among f [] y a = absurd a
flat_among f (x ∷ xs) y a = by_cases (among_either y (f x) (flat_map f xs) a)
    (λ i. (x, i))
    (λ i. flat_among f xs y i)

added_lacks : (dir : Text) (o : Option (Text × List Text)) → IsAmong dir (directories_in o) → lacks 58 dir ≡ true
added_lacks dir None a = absurd a
added_lacks dir (Some p) a = by_test (bytes_eq p.0 modulepath) _
    (λ t. let i = flat_among directories p.1 dir (rw t at a) in directory_lacks i.0 dir i.1)
    (λ f. absurd (rw f at a))

site_directory_lacks : (site : Site) (dir : Text) → IsDirectory site dir → lacks 58 dir ≡ true
site_directory_lacks site dir (first a) = directory_lacks (requests.modulepath site.env) dir a
site_directory_lacks site dir (added m rs from there records a) = let i = flat_among directories_by rs dir a in added_lacks dir (added_elements i.0) i.1

lacks-append : (x y : Text) → lacks 58 x ≡ true → lacks 58 y ≡ true → lacks 58 (x ++ y) ≡ true
lacks-append [] y h k = k
lacks-append (b ∷ bs) y h k = let g = and_parts (not (nat_eq b 58)) (lacks 58 bs) h in and_from (not (nat_eq b 58)) (lacks 58 (bs ++ y)) g.0 (lacks-append bs y g.1 k)

not_empty : (dir name : Text) → is_empty (path_of dir name) ≡ false
not_empty [] name = refl
not_empty (b ∷ bs) name = refl

path_written : (dir name : Text) → lacks 58 dir ≡ true → is_module_name name ≡ true → is_path (path_of dir name) ≡ true
path_written dir name d n =
    let whole : lacks 58 (path_of dir name) ≡ true = lacks-append dir (47 ∷ name) d (name_lacks 58 name refl n) in
    rw (not_empty dir name, lacks_any (path_of dir name) whole) refl

pub site_path : (site : Site) (m : SiteModule) → IsOfSite site m → is_path m.path ≡ true
site_path site m o = ap is_path o.there.path ∙ path_written o.dir m.name (site_directory_lacks site o.dir o.directory) o.there.below.spelled

-- ---- names of conflicts and prereqs

spelled_at : (name : Text) (names : List Text) (b : Bool) → cond b (names_reason names) (Some (bad_module_name name)) ≡ None → (b ≡ true) × (names_reason names ≡ None)
spelled_at name names true h = (refl, h)
spelled_at name names false h = absurd (cc)

names_spelled : (names : List Text) → names_reason names ≡ None → list_all is_module_name names ≡ true
names_spelled [] h = refl
names_spelled (n ∷ ns) h = let p = spelled_at n ns (is_module_name n) h in and_from (is_module_name n) (list_all is_module_name ns) p.0 (names_spelled ns p.1)

none_of : (o : Option RecordReason) → is_none o ≡ true → o ≡ None
none_of None h = refl
none_of (Some x) h = absurd (cc)

all_append : (p : Text → Bool) (xs ys : List Text) → list_all p xs ≡ true → list_all p ys ≡ true → list_all p (xs ++ ys) ≡ true
all_append p [] ys h k = k
all_append p (x ∷ xs) ys h k = let g = and_parts (p x) (list_all p xs) h in and_from (p x) (list_all p (xs ++ ys)) g.0 (all_append p xs ys g.1 k)

one_conflict : (r : Record) → record_reason r ≡ None → list_all is_module_name (conflicts_of r) ≡ true
one_conflict (Set v x) h = refl
one_conflict (Unset v x) h = refl
one_conflict (Push v x) h = refl
one_conflict (Path edit d v xs) h = refl
one_conflict (Conflict names) h = names_spelled names h
one_conflict (Prereq names) h = refl
one_conflict (Whatis text) h = refl

conflicts_spelled : (rs : List Record) → list_all is_allowed rs ≡ true → list_all is_module_name (conflict_names rs) ≡ true
conflicts_spelled [] h = refl
conflicts_spelled (r ∷ rs) h =
    let p = and_parts (is_allowed r) (list_all is_allowed rs) h in
    all_append is_module_name (conflicts_of r) (conflict_names rs) (one_conflict r (none_of (record_reason r) p.0)) (conflicts_spelled rs p.1)

-- a prereq names something
abbrev pub names_some : Record → Bool
names_some (Prereq names) = has_names names
names_some r = true

one_group : (r : Record) (more : List (List Text)) → names_some r ≡ true → record_reason r ≡ None → list_all is_group more ≡ true → list_all is_group (cons_option (prereqs_of r) more) ≡ true
one_group (Set v x) more n h k = k
one_group (Unset v x) more n h k = k
one_group (Push v x) more n h k = k
one_group (Path edit d v xs) more n h k = k
one_group (Conflict names) more n h k = k
one_group (Prereq names) more n h k = rw (n, names_spelled names h) k
one_group (Whatis text) more n h k = k

groups_spelled : (rs : List Record) → list_all names_some rs ≡ true → list_all is_allowed rs ≡ true → list_all is_group (prereq_groups rs) ≡ true
groups_spelled [] n h = refl
groups_spelled (r ∷ rs) n h =
    let p = and_parts (is_allowed r) (list_all is_allowed rs) h in
    let q = and_parts (names_some r) (list_all names_some rs) n in
    one_group r (prereq_groups rs) q.0 (none_of (record_reason r) p.0) (groups_spelled rs q.1 p.1)

-- ---- the entry

pub entry_written : (m : Module) → is_module_name m.name ≡ true → is_path m.path ≡ true → list_all names_some m.records ≡ true → list_all is_allowed m.records ≡ true
    → is_entry (entry_of m) ≡ true
entry_written m name path some allowed =
    and_from (is_module_name m.name && is_path m.path) (list_all is_module_name (without_repeats (conflict_names m.records)) && list_all is_group (prereq_groups m.records))
    (and_from (is_module_name m.name) (is_path m.path) name path)
    (and_from (list_all is_module_name (without_repeats (conflict_names m.records))) (list_all is_group (prereq_groups m.records))
    (firsts_pass is_module_name (conflict_names m.records) (conflicts_spelled m.records allowed)) (groups_spelled m.records some allowed))
