use Rattle.audit_site.proofs.FolderLemmas.{single, in_folder}
use Rattle.audit_site.proofs.folders.folder_of.Goals as goal

pub returns-in_err-folder : goal.returns-in_err-folder
returns-in_err-folder c = rw c.from_residual.ensures (single c.args.name.now c.in_err-folder.ensures.cases)

pub returns : goal.returns
returns c = let h = c.in_ok-folder.ensures.cases in in_folder c.args.name.now c.in_ok-folder.folder.now h.0 h.1 h.2 h.3
