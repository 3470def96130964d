use Rattle.std.proofs.Common.{rules, tests, string_bytes, String, Global, ◌∙◌}
use Rattle.std.proofs.lemmas.Iterator.Search.{any_from_yields_List}
use Rattle.std.proofs.lemmas.Iterator.{YieldsList-from_slice}
use Rattle.module_reports.specs.listings.Texts.{fits}
use Rattle.module_reports.proofs.listings.ListLemmas.{any_seen}
use Rattle.module_reports.proofs.listings.texts.one_fits.Goals as goal

pub returns : goal.returns
returns c =
    any_from_yields_List (λ (s : String Global). fits c.args.options c.args.name.now (string_bytes s)) _ _ c.any.result
    c.any.ensures.ran (YieldsList-from_slice c.args.texts.now cc) (λ x b q k. search (rules, tests))
    ∙ any_seen (fits c.args.options c.args.name.now) (λ (s : String Global). string_bytes s) c.args.texts.now
