-- Where what follows a walk over a site looks: at its directories, and where the searches for folders do.
use Rattle.std.proofs.Common.{map, refl, inl, inr}
use Rattle.envvars.specs.Texts.{Text}
use Rattle.audit_laws.specs.site.Sites.{Site, Evaluated, AreEvaluated}
use Rattle.audit_laws.specs.site.Laws.{ModulesFound}
use Rattle.audit_site.specs.Walks.{IsWalkAnswer}
use Rattle.audit_site.specs.declared.walk.SiteWalk.{SiteWalk}
use Rattle.audit_site.specs.Folders.{EvaluatedLookAt}
use Rattle.audit_site.specs.Parts.{WalkedLookAt}
use Rattle.audit_site.specs.Looked.{AuditLooksAt}
use Rattle.lookup.specs.DefaultFileResults.{HasResult}
use Rattle.audit_site.proofs.BadFiles.{folder_there}
use Rattle.audit_site.proofs.FilesBelow.{of_listing}

-- those are folders of the site
of_folders : ModulesFound → (site : Site) (walk : SiteWalk) (at : Text) → IsWalkAnswer site walk → EvaluatedLookAt site.limits site.files site.listings walk.evaluations.items at
    → AuditLooksAt site at
of_folders found site walk at (outs, w, h) (folder, holds, searched) =
    let all : AreEvaluated site outs = record { modules = λ m. found site _ (map (λ (o : Evaluated). o.0) outs) w.directories w.modules m; evaluated = w.evaluated } in
    let there = folder_there site walk.evaluations.items outs all h folder holds in
    inr (record {
      dir = folder.0;
      folder = folder.1;
      directory = there.0;
      module_there = (holds.2.1.version, holds.2.1.single, (there.1, refl));
      searched = searched;
    })

pub of_walk : ModulesFound → (site : Site) (walk : SiteWalk) (at : Text) → IsWalkAnswer site walk → WalkedLookAt site.limits site.files site.listings walk at → AuditLooksAt site at
of_walk found site walk at (outs, w, h) (inl (dir, among, looks)) = inl (dir, (w.directories dir).0 among, of_listing (HasResult site.limits) site.files site.listings dir at looks)
of_walk found site walk at answer (inr looks) = of_folders found site walk at answer looks
