use Rattle.std.proofs.Common.{List, Bor, ap, ◌∙◌, map, string_bytes}
use Rattle.std.specs.Option.{option_map}
use Rattle.envvars.specs.Texts.{Text, slice_texts}
use Rattle.envvars.specs.Fields.{without_repeats}
use Rattle.module_words.proofs.modulepath.ModulePathLemmas.{unused-made}
use Rattle.module_words.proofs.modulepath.edits.unused_list.Goals as goal

pub returns : goal.returns
returns c =
    let once_of : List (Bor Text) → List Text = λ xs. without_repeats (slice_texts xs) in
    unused-made (option_map (λ w. w.now) c.args.working) (map string_bytes c.args.paths.now) (slice_texts c.in_ok-slices.slices.items)
    (slice_texts c.in_ok-known.known.keys) (slice_texts c.args.list.now) (slice_texts c.in_ok-unused.field-0.items)
    c.in_ok-slices.ensures (c.in_ok-known.ensures ∙ ap once_of c.as_slice.ensures.value) c.in_ok-unused.ensures
