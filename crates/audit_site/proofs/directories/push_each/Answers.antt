use Rattle.std.proofs.Common.{String, Global, List, map, flat_map, string_bytes, append-nil}
use Rattle.envvars.specs.Texts.{Text}
use Rattle.filetree.specs.Modulefiles.{directories}
use Rattle.audit_laws.proofs.site.DirectorySetLemmas.{dirs_turn}
use Rattle.audit_site.proofs.AmongSites.{flat_seen}
use Rattle.audit_site.proofs.directories.push_each.Goals as goal

pub loop-element-preserved : goal.loop-element-preserved
loop-element-preserved c =
    let of : List (String Global) → List Text = λ es. flat_map directories (map string_bytes es) in
    let piece : List Text = directories (string_bytes c.element-item.result) in
    let over = rw c.as_str.ensures.value at c.in_ok-push_directories.ensures in
    dirs_turn of (flat_seen directories string_bytes) (map string_bytes c.args.dirs.now.keys) (map string_bytes c.loop-element.dirs.keys) (map string_bytes c.push_directories.new.dirs.keys) piece
    c.args.elements.now c.loop-element.element-index c.element-item.result c.element-item.result c.loop-element-test.true c.element-item.is (append-nil piece) c.loop-element.invariant over
