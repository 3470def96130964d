use Rattle.audit_site.proofs.FolderLemmas.{inserted_folder, same_view}
use Rattle.audit_site.proofs.defaults.add_folder.Goals as goal

pub returns : goal.returns
returns c = inserted_folder _ same_view c.args.folders.now.keys c.insert.new.self.keys c.args.folder c.in_ok-insert.ensures.keys
