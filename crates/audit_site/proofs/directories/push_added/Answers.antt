use Rattle.std.proofs.Common.{List, map, string_bytes, append-nil}
use Rattle.envvars.specs.Texts.{Text}
use Rattle.modulefile.specs.RecordViews.{record_view}
use Rattle.modulefile.specs.declared.records.Record.{Record}
use Rattle.audit_laws.specs.site.Sites.{directories_by, added_directories}
use Rattle.audit_laws.proofs.site.DirectorySetLemmas.{dirs_turn}
use Rattle.audit_site.proofs.AmongSites.{flat_seen}
use Rattle.audit_site.proofs.directories.push_added.Goals as goal

pub loop-recorded-preserved : goal.loop-recorded-preserved
loop-recorded-preserved c =
    let of : List Record → List Text = λ rs. added_directories (map record_view rs) in
    let piece : List Text = directories_by (record_view c.recorded-item.result) in
    dirs_turn of (flat_seen directories_by record_view) (map string_bytes c.args.dirs.now.keys) (map string_bytes c.loop-recorded.dirs.keys) (map string_bytes c.push_recorded.new.dirs.keys) piece
    c.args.records.now c.loop-recorded.recorded-index c.recorded-item.result c.recorded-item.result
    c.loop-recorded-test.true c.recorded-item.is (append-nil piece) c.loop-recorded.invariant
    c.in_ok-push_recorded.ensures
