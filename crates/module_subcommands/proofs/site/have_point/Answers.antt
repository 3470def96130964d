use Rattle.std.proofs.Common.{rules, tests, ◌∙◌}
use Rattle.std.specs.Borrow.{Bor}
use Rattle.std.proofs.lemmas.Iterator.Search.{any_from_yields_List}
use Rattle.std.proofs.lemmas.Iterator.{YieldsList-from_slice}
use Rattle.message.specs.Messages.{Text}
use Rattle.module_words.proofs.function.ListLemmas.{any_seen}
use Rattle.module_subcommands.specs.Sites.{is_point}
use Rattle.module_subcommands.proofs.site.have_point.Goals as goal

pub returns : goal.returns
returns c =
    any_from_yields_List (λ (x : Bor Text). is_point x.now) _ _ c.any.result c.any.ensures.ran
    (YieldsList-from_slice c.args.parts.now cc) (λ x b q k. search (rules, tests))
    ∙ any_seen is_point (λ (x : Bor Text). x.now) c.args.parts.now
