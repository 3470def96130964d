use Rattle.std.proofs.Common.{rules, tests, refl, string_bytes, String}
use Rattle.std.proofs.lemmas.Iterator.Search.{find_from_yields_List}
use Rattle.std.proofs.lemmas.Iterator.{YieldsList-from_slice}
use Rattle.std.specs.declared.alloc.Global.{Global}
use Rattle.module_words.specs.subcommands.Meanings.{is_option}
use Rattle.module_words.proofs.subcommands.RowLemmas.{find_seen}
use Rattle.module_words.proofs.function.moved.option_in.Goals as goal

pub returns : goal.returns
returns c =
    find_seen is_option (λ (s : String Global). string_bytes s) c.args.words.now _ c.find.result
    (find_from_yields_List (λ (s : String Global). is_option (string_bytes s)) _ _ c.find.result c.find.ensures.ran
    (YieldsList-from_slice c.args.words.now cc) (λ x b q k. search (rules, tests)))
    refl
