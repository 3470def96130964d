use Rattle.std.proofs.Common.{List, ◌∷◌, [], map, refl}
use Rattle.envvars.specs.Texts.{Text, texts_in}
use Rattle.modulefile.specs.Records.{prereq_groups}
use Rattle.modulefile.specs.RecordViews.{record_view}
use Rattle.modulefile.specs.declared.records.Record as code
use Rattle.std.specs.Prelude.{bytes_eq}
use Rattle.audit_laws.specs.determinism.Contexts.{same_by}
use Rattle.audit_site.specs.Mentions.{known_in, unknown_groups}
use Rattle.audit_site.proofs.OnceEach.{inserted_turn, groups_parts}
use Rattle.audit_site.proofs.names.unknown_prereqs.Goals as goal

pub loop-recorded-preserved : goal.loop-recorded-preserved
loop-recorded-preserved c =
    let known = known_in c.args.meaning.now.keys in
    let of : List code.Record → List (List Text) = λ xs. unknown_groups known (prereq_groups (map record_view xs)) in
    let x = c.recorded-item.result in
    inserted_turn (same_by bytes_eq) of (groups_parts record_view known) [] (map texts_in c.loop-recorded.unknown.items) (map texts_in c.add_prereq.new.unknown.items)
    (of (x ∷ [])) c.args.records.now c.loop-recorded.recorded-index x c.loop-recorded-test.true c.recorded-item.is refl c.loop-recorded.invariant c.in_ok-add_prereq.ensures
