use Rattle.std.proofs.Common.{rules, tests, sym, ◌∙◌, not, string_bytes, String}
use Rattle.std.specs.List.{list_all}
use Rattle.std.proofs.lemmas.Iterator.Search.{all_from_yields_List}
use Rattle.std.proofs.lemmas.Iterator.{YieldsList-from_slice}
use Rattle.std.proofs.lemmas.List.Folds.{list_all-map}
use Rattle.std.specs.declared.alloc.Global.{Global}
use Rattle.envvars.specs.Texts.{Text}
use Rattle.shelltext.specs.Reading.{is_unsayable}
use Rattle.module_words.proofs.protocol.after.are_sayable.Goals as goal

pub returns : goal.returns
returns c =
    all_from_yields_List (λ (s : String Global). list_all (λ b. not (is_unsayable c.args.family b)) (string_bytes s)) _ _
    c.all.result c.all.ensures.ran (YieldsList-from_slice c.args.words.now cc) (λ x b q k. search (rules, tests))
    ∙ sym (list_all-map (λ (word : Text). list_all (λ b. not (is_unsayable c.args.family b)) word) (λ (s : String Global). string_bytes s) c.args.words.now)
