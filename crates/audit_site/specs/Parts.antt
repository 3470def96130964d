-- The parts of an audit, by the directories and the evaluations of a walk: for this crate's own contracts alone.
use Rattle.std.specs.Prelude.{◌≡◌, ◌⊎◌, ◌↔◌, List, [], map, flat_map}
use Rattle.envvars.specs.Texts.{Text, texts_in}
use Rattle.tclrules.specs.declared.limits.Limits.{Limits}
use Rattle.filetree.specs.Agreement.{Files, Listings}
use Rattle.audit_certificate.specs.Certificates.{AgreesWith}
use Rattle.audit_certificate.specs.UseViews.{used_view}
use Rattle.audit_certificate.specs.Disagreements.{AreDisagreements}
use Rattle.audit_certificate.specs.DisagreementViews.{disagreement_view}
use Rattle.audit_laws.specs.site.Sites.{Site}
use Rattle.audit_site.specs.Walks.{IsWalkAnswer}
use Rattle.audit_site.specs.declared.walk.SiteWalk.{SiteWalk}
use Rattle.requests.specs.Steps.{modulepath}
use Rattle.audit_site.specs.Audits.{addition_of, mention_of, IsAudit, CertificateStands}
use Rattle.audit_site.specs.Unreachable.{is_stable_directory, additions_after}
use Rattle.audit_site.specs.DeterministicRuns.{evaluated_file}
use Rattle.audit_site.specs.Findings.{AreStandings}
use Rattle.audit_site.specs.Folders.{AreBadDefaultFiles, EvaluatedLookAt}
use Rattle.audit_site.specs.Missing.{missing_among}
use Rattle.audit_site.specs.Unread.{unread_among}
use Rattle.audit_site.specs.NoModulefiles.{AreNoModulefiles}
use Rattle.audit_site.specs.FilesBelow.{LooksAtAny}
use Rattle.audit_site.specs.Mentions.{is_known, is_accepted, unknown_after}
use Rattle.audit_site.specs.declared.auditing.SiteAudit.{SiteAudit}

-- What was found are the parts of an audit without the modules that these names mean, by this walk.
pub record AreParts (site : Site) (without : List Text) (walk : SiteWalk) (found : SiteAudit) : Type 0 where
  pub standings : AreStandings without walk.evaluations.items found.modules.items
      (map used_view found.certificate.items)
  pub missing_directories : texts_in found.missing_directories
      ≡ missing_among site.listings (texts_in walk.directories)
  pub unreachable : map addition_of found.unreachable_directories.items
      ≡ flat_map (additions_after (is_stable_directory (modulepath site.env) walk.evaluations.items))
      walk.evaluations.items
  pub unread : texts_in found.unread_default_files ≡ unread_among site.listings (texts_in walk.directories)
  pub no_modulefiles : AreNoModulefiles site.files site.listings (texts_in walk.directories)
      (texts_in found.no_modulefiles)
  pub bad_default_files : AreBadDefaultFiles site.limits site.files site.listings
      (map evaluated_file walk.evaluations.items) (texts_in found.bad_default_files)
  pub unknown_names : map mention_of found.unknown_names.items
      ≡ flat_map (unknown_after (is_known walk.evaluations.items) (is_accepted walk.evaluations.items)) walk.evaluations.items
  pub agrees : (found.disagreements.items ≡ []) ↔ AgreesWith (map used_view found.certificate.items) site.env
  pub disagreements : AreDisagreements (map used_view found.certificate.items) site.env
      (map disagreement_view found.disagreements.items)

-- The parts, by a walk over a site, are an audit of the site, and its certificate stands.
abbrev pub PartsAreAudits : Type 0
PartsAreAudits =
    (site : Site) (without : List Text) (walk : SiteWalk) (found : SiteAudit) → IsWalkAnswer site walk
    → AreParts site without walk found → IsAudit site without found × CertificateStands site found

-- What looks for the parts looks at this path: at a directory of the walk, or at what is below one; or where the search
-- for the folder of a module does.
abbrev pub WalkedLookAt : Limits → Files → Listings → SiteWalk → Text → Type 0
WalkedLookAt limits files listings walk at =
    LooksAtAny listings (texts_in walk.directories) at ⊎ EvaluatedLookAt limits files listings walk.evaluations.items at
