use Rattle.std.proofs.Common.{List, ◌∷◌, [], map, string_bytes, take_all, refl, sym, ap, ◌∙◌}
use Rattle.std.proofs.Common.{append-nil}
use Rattle.envvars.specs.Texts.{Text}
use Rattle.modulefile.specs.Records.{conflict_names}
use Rattle.modulefile.specs.RecordViews.{record_view}
use Rattle.modulefile.specs.declared.records.Record as code
use Rattle.audit_laws.specs.site.DirectorySets.{with_directories}
use Rattle.audit_laws.proofs.site.DirectorySetLemmas.{dirs_turn}
use Rattle.audit_site.specs.Mentions.{known_in, unknown_among}
use Rattle.audit_site.proofs.DirectoryLemmas.{once}
use Rattle.audit_site.proofs.OnceEach.{conflicts_parts}
use Rattle.audit_site.proofs.names.unknown_conflicts.Goals as goal

pub loop-recorded-preserved : goal.loop-recorded-preserved
loop-recorded-preserved c =
    let known = known_in c.args.meaning.now.keys in
    let of : List code.Record → List Text = λ xs. unknown_among known (conflict_names (map record_view xs)) in
    let x = c.recorded-item.result in
    dirs_turn of (conflicts_parts record_view known) [] (map string_bytes c.loop-recorded.unknown.keys) (map string_bytes c.add_all_unknown.new.unknown.keys)
    (of (x ∷ [])) c.args.records.now c.loop-recorded.recorded-index x x c.loop-recorded-test.true c.recorded-item.is refl c.loop-recorded.invariant
    (c.in_ok-add_all_unknown.ensures ∙ ap (λ (ns : List Text). with_directories (map string_bytes c.loop-recorded.unknown.keys) (unknown_among known ns)) (c.conflicts.ensures ∙ sym (append-nil _)))

pub returns : goal.returns
returns c =
    let known = known_in c.args.meaning.now.keys in
    c.loop-recorded.invariant
    ∙ (ap (λ (rs : List code.Record). with_directories [] (unknown_among known (conflict_names (map record_view rs)))) (take_all c.loop-recorded.recorded-index c.args.records.now c.loop-recorded-test.false)
    ∙ once (unknown_among known (conflict_names (map record_view c.args.records.now))))
