use Rattle.std.proofs.Common.{◌∙◌, map, sym, subst}
use Rattle.audit_certificate.specs.RecordUses.{IsAmong}
use Rattle.audit_certificate.proofs.Exact.{any_some}
use Rattle.audit_site.specs.Folders.{FolderText, folder_view}
use Rattle.audit_site.proofs.AmongLemmas.{among_map}
use Rattle.audit_site.proofs.FolderLemmas.{same_view}
use Rattle.audit_site.proofs.defaults.is_among.Goals as goal

pub returns : goal.returns
returns c = λ t.
    let keys = c.args.folders.now.keys in
    let i = any_some _ keys (sym c.contains.ensures ∙ t) in
    subst (λ (f : FolderText). IsAmong f (map folder_view keys)) (sym (same_view c.args.folder.now i.0 i.2)) (among_map folder_view i.0 keys i.1)
