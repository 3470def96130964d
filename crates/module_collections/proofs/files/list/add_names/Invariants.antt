use Rattle.std.proofs.Common.{◌≡◌, ◌||◌, ◌&&◌, bytes_eq, drop, map, string_bytes}
use Rattle.std.specs.BTreeSet.{contains_text}
use Rattle.std.specs.List.{list_any}
use Rattle.envvars.specs.Texts.{Text}
use Rattle.module_collections.specs.files.Calls.{InEach, Narrows}
use Rattle.module_collections.specs.files.Lists as spec
use Rattle.module_collections.proofs.files.list.add_names.Given as goal

-- the storage narrows, and what is found so far with what is to be found among the other names is all
abbrev pub invariant-loop-name : goal.invariant-loop-name
invariant-loop-name g l =
    Narrows (g.S.Storage.agrees l.fn.storage) (g.S.Storage.agrees l.storage)
    × InEach (g.S.Storage.agrees l.storage) (λ e. (q : Text) →
    (contains_text l.found q || list_any (λ n. bytes_eq q n && spec.is_in e l.folder n) (map string_bytes (drop l.name-index l.names)))
    ≡ (contains_text l.fn.found q || list_any (λ n. bytes_eq q n && spec.is_in e l.folder n) (map string_bytes l.names)))
