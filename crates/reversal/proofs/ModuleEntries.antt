-- The entries of modules.
use Rattle.std.proofs.Common.{◌≡◌, true, not, List, [], ◌∷◌, ◌++◌, refl, ap, ◌∙◌, Some}
use Rattle.envvars.specs.Texts.{Text, has}
use Rattle.envvars.specs.Fields.{without, are_distinct, without_repeats}
use Rattle.envvars.specs.Environment.{Environment}
use Rattle.envvars.proofs.FieldLemmas.{without-absent}
use Rattle.envvars.proofs.EditLemmas.{both_true, not_is}
use Rattle.envstate.specs.loaded_list.Loaded.{Entry, loaded_in, with_conflicts_once}
use Rattle.envstate.proofs.loaded_list.LoadedReadable.{distinct_firsts}
use Rattle.modulefile.specs.Records.{conflict_names, prereq_groups}
use Rattle.modulefile.specs.Moves.{Module, entry_of}

firsts_distinct : (xs : List Text) → are_distinct xs ≡ true → without_repeats xs ≡ xs
firsts_distinct [] h = refl
firsts_distinct (x ∷ xs) h =
    let k = both_true (not (has x xs)) (are_distinct xs) h in
    ap (λ (l : List Text). x ∷ without x l) (firsts_distinct xs k.1) ∙ ap (λ (l : List Text). x ∷ l) (without-absent x xs (not_is (has x xs) k.0))

-- the entry of a module has no conflict twice
pub entry_once : (m : Module) → with_conflicts_once (entry_of m) ≡ entry_of m
entry_once m = ap (λ (l : List Text). with_conflicts l) (firsts_distinct (without_repeats (conflict_names m.records)) (distinct_firsts (conflict_names m.records)))
  where
    with_conflicts : List Text → Entry
    with_conflicts l = record { name = m.name; path = m.path; conflicts = l; prereqs = prereq_groups m.records }

pub added_entry : (m : Module) (xs : List Entry) (e : Environment) → loaded_in e ≡ Some (xs ++ with_conflicts_once (entry_of m) ∷ []) → loaded_in e ≡ Some (xs ++ entry_of m ∷ [])
added_entry m xs e h = h ∙ ap (λ (y : Entry). Some (xs ++ y ∷ [])) (entry_once m)
