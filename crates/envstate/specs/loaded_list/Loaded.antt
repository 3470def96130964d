-- The list of loaded modules, in load order, how it is read from four variables and written to them, and its edits
-- (module(1), ENVIRONMENT: LOADEDMODULES, _LMFILES_, __MODULES_LMCONFLICT, __MODULES_LMPREREQ).
use Rattle.std.specs.Option.{option_map}
use Rattle.std.specs.Prelude.{◌≡◌, Bool, true, false, not, ◌&&◌, ◌==◌, List, [], ◌∷◌, ◌++◌, map, filter, bytes_eq}
use Rattle.std.specs.Prelude.{if◌then◌else◌, Option, Some, None, Result, Ok, Err}
use Rattle.std.specs.List.{list_any, list_all}
use Rattle.modulename.specs.ModuleName.{is_module_name}
use Rattle.envvars.specs.Texts.{Text, has}
use Rattle.envvars.specs.Fields.{colon, text_of_elements, without_repeats, elements_in, are_distinct}
use Rattle.envstate.specs.loaded_list.LoadedTexts.{names_variable, files_variable, conflicts_variable, prereqs_variable, is_empty}
use Rattle.envstate.specs.loaded_list.LoadedTexts.{are_consistent, first_element, words_in, conflicts_among, prereqs_among}
use Rattle.envstate.specs.loaded_list.LoadedTexts.{has_names, element_of, group_text}
use Rattle.envvars.specs.Environment.{Environment, lookup}
use Rattle.envvars.specs.Changes.{NewValue, applied}
use Rattle.envvars.specs.Reasons.{EnvReason, inconsistent}

-- a loaded module: its name, the path of its modulefile, the names that it conflicts with, and groups of names, of each
-- of which it needs one
pub record Entry : Type 0 where
  pub name : Text
  pub path : Text
  pub conflicts : List Text
  pub prereqs : List (List Text)

-- the names of the entries
abbrev pub names_of : List Entry → List Text
names_of entries = map (λ x. x.name) entries

-- the entry of a name with its path, and with the conflicts and prereqs in its elements, if there are some
abbrev pub entry_from : Text → Text → Option Text → Option Text → Entry
entry_from name file conflicts prereqs =
    record {
      name = name;
      path = file;
      conflicts = conflicts_among (words_in conflicts);
      prereqs = prereqs_among (words_in prereqs);
    }

-- an entry for each name with its path, and with the conflicts and prereqs in the elements that these two give for it
abbrev pub entries_from : (Text → Option Text) → (Text → Option Text) → List Text → List Text → List Entry
entries_from conflicts prereqs [] files = []
entries_from conflicts prereqs (name ∷ names) [] = []
entries_from conflicts prereqs (name ∷ names) (file ∷ files) =
    entry_from name file (conflicts name) (prereqs name) ∷ entries_from conflicts prereqs names files

-- the first element that a text has for a module
abbrev pub first_in : Option Text → Text → Option Text
first_in text name = first_element name (elements_in text)

-- The list that the four texts are read as; none where the names and the paths are inconsistent.
abbrev pub entries_in : Option Text → Option Text → Option Text → Option Text → Option (List Entry)
entries_in names files conflicts prereqs =
    if are_consistent (elements_in names) (elements_in files)
    then Some (entries_from (first_in conflicts) (first_in prereqs) (elements_in names) (elements_in files))
    else None

-- the loaded modules of an environment; none where they are inconsistent
abbrev pub loaded_in : Environment → Option (List Entry)
loaded_in e =
    entries_in (lookup e names_variable) (lookup e files_variable) (lookup e conflicts_variable)
    (lookup e prereqs_variable)

-- Writing: the text of the names. A list without elements unsets its variable.
abbrev pub names_text : List Entry → Option Text
names_text entries = text_of_elements (names_of entries)

-- the text of the paths, in the same order
abbrev pub files_text : List Entry → Option Text
files_text entries = text_of_elements (map (λ x. x.path) entries)

-- an element for each module that has conflicts
abbrev pub conflict_elements : List Entry → List Text
conflict_elements [] = []
conflict_elements (x ∷ xs) =
    if has_names x.conflicts then element_of x.name x.conflicts ∷ conflict_elements xs else conflict_elements xs

-- the text of the conflicts
abbrev pub conflicts_text : List Entry → Option Text
conflicts_text entries = text_of_elements (conflict_elements entries)

-- whether there is a group
abbrev pub has_groups : List (List Text) → Bool
has_groups [] = false
has_groups (group ∷ groups) = true

-- an element for each module that has prereqs
abbrev pub prereq_elements : List Entry → List Text
prereq_elements [] = []
prereq_elements (x ∷ xs) =
    if has_groups x.prereqs
    then element_of x.name (map group_text x.prereqs) ∷ prereq_elements xs
    else prereq_elements xs

-- the text of the prereqs
abbrev pub prereqs_text : List Entry → Option Text
prereqs_text entries = text_of_elements (prereq_elements entries)

-- the new values of the four variables that write the list
abbrev pub loaded_changes : List Entry → List NewValue
loaded_changes entries =
    (names_variable, names_text entries) ∷ (files_variable, files_text entries)
    ∷ (conflicts_variable, conflicts_text entries) ∷ (prereqs_variable, prereqs_text entries) ∷ []

-- the environment with this list written to the four variables
abbrev pub with_loaded : Environment → List Entry → Environment
with_loaded e entries = applied (loaded_changes entries) e

-- a path that can be written: it isn't empty and has no colon
abbrev pub is_path : Text → Bool
is_path path = not (is_empty path) && not (list_any (λ b. b == colon) path)

-- a group that can be written: it has names, and each is well spelled
abbrev pub is_group : List Text → Bool
is_group group = has_names group && list_all is_module_name group

-- an entry that is read again as it is written, apart from repeated conflicts
abbrev pub is_entry : Entry → Bool
is_entry x =
    (is_module_name x.name && is_path x.path)
    && (list_all is_module_name x.conflicts && list_all is_group x.prereqs)

-- A list that is read again as it is written: each entry is, no module is there twice, and no entry has a conflict
-- twice.
pub record IsLoadedList (entries : List Entry) : Type 0 where
  pub each : list_all is_entry entries ≡ true
  pub names : are_distinct (names_of entries) ≡ true
  pub conflicts : list_all (λ x. are_distinct x.conflicts) entries ≡ true

-- In order: the four texts are those that one list is written as.
pub record AreLoadedInOrder (e : Environment) : Type 0 where
  pub entries : List Entry
  pub list : IsLoadedList entries
  pub written : with_loaded e entries ≡ e

-- an entry can be added where it can be written and its module isn't loaded
abbrev pub can_be_added : List Entry → Entry → Bool
can_be_added entries x = is_entry x && not (has x.name (names_of entries))

-- the entry without repeated conflicts
abbrev pub with_conflicts_once : Entry → Entry
with_conflicts_once x = record
    { name = x.name; path = x.path; conflicts = without_repeats x.conflicts; prereqs = x.prereqs }

-- the environment after an entry is added to the list that was read, or the error
abbrev pub added_to : Environment → Entry → Option (List Entry) → Result Environment EnvReason
added_to e x None = Err inconsistent
added_to e x (Some entries) =
    if can_be_added entries x then Ok (with_loaded e (entries ++ with_conflicts_once x ∷ [])) else Err inconsistent

-- the environment after an entry is added at the end of its list, or the error
abbrev pub added_loaded : Environment → Entry → Result Environment EnvReason
added_loaded e x = added_to e x (loaded_in e)

-- the entries of other modules
abbrev pub without_entry : Text → List Entry → List Entry
without_entry name entries = filter (λ x. not (bytes_eq name x.name)) entries

-- the environment after a module is dropped from the list that was read, or the error
abbrev pub dropped_from : Environment → Text → Option (List Entry) → Result Environment EnvReason
dropped_from e name None = Err inconsistent
dropped_from e name (Some entries) =
    if has name (names_of entries) then Ok (with_loaded e (without_entry name entries)) else Ok e

-- the environment after a module is dropped from its list, or the error; nothing changes where it isn't loaded
abbrev pub dropped_loaded : Environment → Text → Result Environment EnvReason
dropped_loaded e name = dropped_from e name (loaded_in e)

-- the entry of a module
abbrev pub entry_named : Text → List Entry → Option Entry
entry_named name [] = None
entry_named name (x ∷ xs) = if bytes_eq name x.name then Some x else entry_named name xs

-- the conflicts of an entry, if there is one
abbrev pub conflicts_of_entry : Option Entry → List Text
conflicts_of_entry None = []
conflicts_of_entry (Some x) = x.conflicts

-- the groups of an entry, if there is one
abbrev pub prereqs_of_entry : Option Entry → List (List Text)
prereqs_of_entry None = []
prereqs_of_entry (Some x) = x.prereqs

-- what a loaded module conflicts with; nothing where it is not loaded
abbrev pub conflicts_in : Environment → Text → Option (List Text)
conflicts_in e name = option_map (λ entries. conflicts_of_entry (entry_named name entries)) (loaded_in e)

-- what a loaded module needs; nothing where it is not loaded
abbrev pub prereqs_in : Environment → Text → Option (List (List Text))
prereqs_in e name = option_map (λ entries. prereqs_of_entry (entry_named name entries)) (loaded_in e)
