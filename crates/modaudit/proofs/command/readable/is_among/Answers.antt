use Rattle.std.proofs.Common.{rules, tests, string_bytes, bytes_eq, String, Global, ◌∙◌}
use Rattle.std.proofs.lemmas.Iterator.Search.{any_from_yields_List}
use Rattle.std.proofs.lemmas.Iterator.{YieldsList-from_slice}
use Rattle.filetree.proofs.hiding.HidingLemmas.{any_seen}
use Rattle.modaudit.proofs.command.readable.is_among.Goals as goal

pub returns : goal.returns
returns c =
    any_from_yields_List (λ (s : String Global). bytes_eq c.args.path.now (string_bytes s)) _ _ c.any.result
    c.any.ensures.ran (YieldsList-from_slice c.args.paths.now cc) (λ x b q k. search (rules, tests))
    ∙ any_seen (bytes_eq c.args.path.now) (λ (s : String Global). string_bytes s) c.args.paths.now
