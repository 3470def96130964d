use Rattle.std.proofs.Common.{ℕ, List, rules, tests, bytes_eq, string_bytes, String, Global, ◌∙◌}
use Rattle.std.proofs.lemmas.Iterator.Search.{any_from_yields_List}
use Rattle.std.proofs.lemmas.Iterator.{YieldsList-from_slice}
use Rattle.requests.proofs.ListLemmas.{any_seen}
use Rattle.modaudit.proofs.command.arguments.has_word.Goals as goal

pub returns : goal.returns
returns c =
    any_from_yields_List (λ (s : String Global). bytes_eq (string_bytes s) c.args.word.now) _ _ c.any.result c.any.ensures.ran
    (YieldsList-from_slice c.args.words.now cc) (λ x b q k. search (rules, tests))
    ∙ any_seen (λ (w : List ℕ). bytes_eq w c.args.word.now) string_bytes c.args.words.now
