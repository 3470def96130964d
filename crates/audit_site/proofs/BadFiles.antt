-- The folders of the modules of a site.
use Rattle.std.proofs.Common.{◌≡◌, List, sym, ◌∙◌, subst}
use Rattle.envvars.specs.Texts.{Text}
use Rattle.filetree.specs.Modulefiles.{path_of}
use Rattle.search.specs.Listed.{IsBelow}
use Rattle.audit_laws.specs.site.Sites.{Site, SiteModule, IsDirectory, Evaluated, AreEvaluated}
use Rattle.audit_site.specs.declared.walk.Evaluation.{Evaluation}
use Rattle.audit_site.specs.Walks.{AreEvaluations}
use Rattle.audit_site.specs.DeterministicRuns.{evaluated_file}
use Rattle.audit_site.specs.Folders.{FolderText, HoldsOneOf}
use Rattle.audit_site.proofs.FolderLemmas.{same_directory}
use Rattle.audit_site.proofs.Evaluations.{of_site}

-- a folder of an evaluated module is one of the site
pub folder_there : (site : Site) (es : List Evaluation) (outs : List Evaluated) → AreEvaluated site outs → AreEvaluations es outs
    → (folder : FolderText) → (holds : HoldsOneOf es folder) → IsDirectory site folder.0 × IsBelow site.files site.listings folder.0 (path_of folder.1 holds.2.1.version)
folder_there site es outs all h folder holds =
    let e = holds.0 in
    let m : SiteModule = evaluated_file e in
    let o = of_site site es outs e all h holds.1 in
    let dir : o.dir ≡ folder.0 = same_directory o.dir folder.0 m.name (sym o.there.path ∙ holds.2.0) in (
      subst (IsDirectory site) dir o.directory,
      subst (λ (d : Text). IsBelow site.files site.listings d (path_of folder.1 holds.2.1.version)) dir (subst (IsBelow site.files site.listings o.dir) holds.2.1.joined o.there.below),
    )
