use Rattle.std.specs.Option.{option_map}
use Rattle.module_words.proofs.modulepath.ModulePathLemmas.{names_one-set}
use Rattle.module_words.proofs.modulepath.edits.names_one.Goals as goal

pub returns-in-Some : goal.returns-in-Some
returns-in-Some c =
    names_one-set (option_map (λ w. w.now) c.args.working) c.args.element.now c.args.paths.now.keys c.in_ok-path.field-0
    c.in-Some.path c.as_str.result.now c.contains.result c.in_ok-path.ensures c.in-Some.is c.as_str.ensures.value c.contains.ensures
