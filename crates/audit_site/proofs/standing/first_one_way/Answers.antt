use Rattle.std.proofs.Common.{rules, tests, not}
use Rattle.std.proofs.lemmas.Iterator.Search.{find_from_yields_List}
use Rattle.std.proofs.lemmas.Iterator.{YieldsList-from_slice}
use Rattle.modulefile.specs.RecordViews.{record_view}
use Rattle.modulefile.specs.declared.records.Record as code
use Rattle.modulefile.specs.Records.{Record}
use Rattle.reversal.specs.VariableUses.{can_return}
use Rattle.requests.proofs.ListLemmas.{find_seen}
use Rattle.audit_site.proofs.standing.first_one_way.Goals as goal

pub returns : goal.returns
returns c =
    find_seen (λ (r : Record). not (can_return r)) record_view c.args.records.now c.find.result
    (find_from_yields_List (λ (r : code.Record). not (can_return (record_view r))) _ _
    c.find.result c.find.ensures.ran (YieldsList-from_slice c.args.records.now cc)
    (λ x b q k. search (rules, tests)))
