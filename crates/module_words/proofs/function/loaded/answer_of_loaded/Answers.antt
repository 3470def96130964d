use Rattle.std.proofs.Common.{Bool, List, ap, map, ◌∙◌, string_bytes, String}
use Rattle.std.specs.declared.alloc.Global.{Global}
use Rattle.envvars.specs.Texts.{Text}
use Rattle.envstate.specs.loaded_list.LoadedEntries.{entry_view}
use Rattle.envstate.specs.declared.loaded_list.entry.Loaded.{Loaded}
use Rattle.module_words.specs.function.Answers.{is_one_loaded, loaded_among, truth}
use Rattle.module_words.proofs.function.loaded.answer_of_loaded.Goals as goal

pub returns : goal.returns
returns c =
    let names : List Text = map (λ (s : String Global). string_bytes s) c.args.names.now in
    let one : List Loaded → Bool = λ entries. is_one_loaded names (map entry_view entries) in (
      truth (is_one_loaded names (map entry_view c.in_ok-entries.entries.items)),
      ap (λ o. loaded_among o names) c.in_ok-entries.ensures,
      c.is_one_loaded.ensures ∙ ap one c.as_slice.ensures.value,
    )
