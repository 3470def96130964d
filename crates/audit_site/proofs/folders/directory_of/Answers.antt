use Rattle.audit_site.proofs.FolderLemmas.{no_directory, directory}
use Rattle.audit_site.proofs.folders.directory_of.Goals as goal

pub returns-in_err-strip_suffix : goal.returns-in_err-strip_suffix
returns-in_err-strip_suffix c = rw c.from_residual.ensures (no_directory c.args.path.now c.args.name.now c.in_err-strip_suffix.ensures.cases)

pub returns : goal.returns
returns c = directory c.args.path.now c.args.name.now c.in_ok-strip_suffix.field-0.now c.strip_suffix-2.result c.in_ok-strip_suffix.ensures.cases c.strip_suffix-2.ensures.cases
