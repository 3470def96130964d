use Rattle.std.proofs.Common.{List, Bool, Bor, map, rules, tests, string_bytes, String, Global, sym, ◌∙◌}
use Rattle.std.proofs.lemmas.Iterator.Search.{all_from_yields_List}
use Rattle.std.proofs.lemmas.Iterator.{YieldsList-from_slice}
use Rattle.std.proofs.lemmas.List.Folds.{list_all-map}
use Rattle.envvars.specs.Texts.{Text, has}
use Rattle.modaudit.proofs.command.there.are_missing.Goals as goal

abbrev is_missing : List (String Global) → Text → Bool
is_missing missing d = has d (map (λ (s : String Global). string_bytes s) missing)

pub returns : goal.returns
returns c =
    all_from_yields_List (λ (d : Bor Text). is_missing c.args.missing.now d.now) _ _ c.all.result c.all.ensures.ran
    (YieldsList-from_slice c.args.dirs.now cc) (λ x b q k. search (rules, tests))
    ∙ sym (list_all-map (is_missing c.args.missing.now) (λ (d : Bor Text). d.now) c.args.dirs.now)
