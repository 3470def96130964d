use Rattle.std.proofs.Common.{Bool, [], ap, ◌∙◌, not, rules, tests}
use Rattle.std.specs.Prelude.{bytes_eq, filter}
use Rattle.std.proofs.lemmas.Fn.{filter_same}
use Rattle.envvars.specs.Fields.{elements_in}
use Rattle.envvars.specs.Texts.{Text, slice_texts}
use Rattle.envvars.proofs.TextLemmas.{slice_texts-filter}
use Rattle.module_words.proofs.modulepath.ModulePathLemmas.{empty-length}
use Rattle.module_restore.proofs.keeping.directories_of.Goals as goal

pub returns : goal.returns
returns c =
    let p : Text → Bool = λ element. not (bytes_eq element []) in
    ap slice_texts (filter_same _ (λ y. p y.now) _ (λ x b g k. search (rules, tests, empty-length)) _ _ c.retain.ensures.filtered)
    ∙ (slice_texts-filter p c.in_ok-directories.directories.items ∙ ap (filter p) (c.in_ok-directories.ensures ∙ ap elements_in c.get.ensures))
