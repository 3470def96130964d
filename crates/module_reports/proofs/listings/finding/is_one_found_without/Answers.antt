use Rattle.std.proofs.Common.{List, map, String, Global, string_bytes, arith}
use Rattle.std.proofs.lemmas.List.{length-map}
use Rattle.message.specs.Messages.{Text}
use Rattle.lookup.specs.DefaultFileResults.{HasResult}
use Rattle.module_reports.proofs.listings.HiddenLemmas.{found_without}
use Rattle.module_reports.proofs.listings.finding.is_one_found_without.Goals as goal

pub returns-in_default-2-clause-answer : goal.returns-in_default-2-clause-answer
returns-in_default-2-clause-answer g c =
    let tree = c.is_one_found.new.tree in
    let texts : List (String Global) → List Text = λ l. map (λ (s : String Global). string_bytes s) l in
    found_without c.is_one_found.result (HasResult c.args.limits) (texts tree.hidden.items) (texts tree.seen.items) (g.T.Tree.agrees tree.tree)
    (g.T.Tree.failed tree.tree) (g.T.Tree.failures tree.tree) c.args.modulepath.now (texts c.args.names.now)
    tree.apart tree.failed (omega (arith, length-map tree.hidden.items (λ (s : String Global). string_bytes s), tree.counted)) c.is_one_found.ensures.answer
