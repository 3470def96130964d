use Rattle.std.proofs.Common.{rules, Bool, map, string_bytes, ◌∙◌}
use Rattle.std.specs.List.{list_any}
use Rattle.modulename.specs.ModuleName.{means}
use Rattle.envvars.specs.Texts.{Text}
use Rattle.modulefile.specs.Records as records
use Rattle.modulefile.specs.RecordViews.{record_view}
use Rattle.audit_certificate.proofs.Seen.{any_seen}
use Rattle.audit_certificate.proofs.UseLemmas.{any_conflict}
use Rattle.audit_certificate.proofs.pairs.names_in_conflict.Goals as goal

pub returns : goal.returns
returns c =
    let test : (Text → Bool) = λ name. means name (string_bytes c.args.other.now.name) in
    let by_record : (records.Record → Bool) = λ r. list_any test (records.conflicts_of r) in
    search (rules)
    ∙ (any_seen by_record record_view c.args.one.now.records.items
    ∙ any_conflict test (map record_view c.args.one.now.records.items))
