-- For the contracts of private functions: the steps of an audit (own).
use Rattle.std.specs.Prelude.{◌≡◌, ◌⊎◌, ◌&&◌, ◌||◌, Bool, true, false, List, Option, Some, None, IsSome, if◌then◌else◌, not}
use Rattle.std.specs.Prelude.{ℕ, ◌+◌, ◌<◌, ◌≤◌, length}
use Rattle.std.specs.Prelude.{Result, Ok, Err, bytes_eq, string_bytes}
use Rattle.std.specs.BTreeSet.{BTreeSet, contains_text}
use Rattle.std.specs.declared.alloc.Global.{Global}
use Rattle.std.specs.declared.string.String.{String}
use Rattle.envvars.specs.Texts.{Text, texts_in}
use Rattle.envvars.specs.Environment.{Environment}
use Rattle.filetree.specs.Agreement.{Files, Listings, InEachPair}
use Rattle.filetree.specs.Causes.{Applies}
use Rattle.filetree.specs.declared.tree.TreeFault.TheVariants.{Device}
use Rattle.filetree.specs.hiding.Hidden.{AgreesWithout, is_among}
use Rattle.modules.specs.Answers.{cause_of, refused_read}
use Rattle.audit_laws.specs.site.Sites.{site_of}
use Rattle.audit_site.specs.Walks.{HasCause}
use Rattle.audit_site.specs.declared.fault.WalkFault.{WalkFault}
use Rattle.audit_site.specs.Audits.{IsAudit, CertificateStands}
use Rattle.audit_site.specs.declared.auditing.SiteAudit.{SiteAudit}
use Rattle.audit_report.specs.declared.readable.ReadableAudit.{ReadableAudit}
use Rattle.modulecmd.specs.Command.{standard}
use Rattle.modaudit.specs.command.Arguments.{Wanted, wanted_of}
use Rattle.modaudit.specs.command.Audits.{AreDirectories, AreUnreadable, IsFirstGone, IsNoDirectory, has_directory}
use Rattle.modaudit.specs.command.Audits.{is_no_element, is_nothing_there, judged_env, report_text, all_certified}
use Rattle.modaudit.specs.command.Faults.{of_walk}
use Rattle.modules.specs.Verdicts.{in_sh}
use Rattle.modules.specs.declared.refusal.Refusal.{Refusal}
use Rattle.modaudit.specs.command.NotUtf8.{concerned}
use Rattle.modaudit.specs.command.Tried.{AreDryRuns, failed_in, has_failed_dry_run}
use Rattle.modaudit.specs.declared.command.layout.Layout.{Layout}
use Rattle.modaudit.specs.declared.command.readable.SeenAudit.{SeenAudit}
use Rattle.audit_dry_runs.specs.declared.dry_run.DryRun.{DryRun}
use Rattle.modaudit.specs.declared.command.running.PreparedAudit.{PreparedAudit}
use Rattle.modaudit.specs.declared.command.audit_fault.AuditFault.{AuditFault}
use Rattle.modaudit.specs.declared.command.audit_fault.AuditFault.TheVariants.{Refused, BadArguments, EmptyModulepath}
use Rattle.modaudit.specs.declared.command.audit_fault.AuditFault.TheVariants.{TooManyDirectories, NotADirectory}
use Rattle.modaudit.specs.declared.command.audit_fault.AuditFault.TheVariants.{WriteFailed}

-- memory is wanting, or the device has failed
abbrev pub IsTransient : Type 0 → AuditFault → Type 0
IsTransient failed (Refused refusal) = Applies (cause_of refusal) failed (λ reason. ⊥)
IsTransient failed BadArguments = ⊥
IsTransient failed EmptyModulepath = ⊥
IsTransient failed TooManyDirectories = ⊥
IsTransient failed (NotADirectory dir) = ⊥
IsTransient failed WriteFailed = ⊥

-- whether a directory is at the path
abbrev pub IsListing : (Files → Listings → Type 0) → Text → Bool → Type 0
IsListing agrees dir true = InEachPair agrees (λ files listings. IsSome (listings dir))
IsListing agrees dir false = InEachPair agrees (λ files listings. listings dir ≡ None)

-- the fault names the word as no directory, or memory is wanting
abbrev pub NamesNoDirectory : AuditFault → Text → Type 0
NamesNoDirectory fault word =
    ((dir : String Global) × (fault ≡ NotADirectory dir) × (string_bytes dir ≡ word)) ⊎ IsTransient ⊥ fault

-- the fault of a word that names no directory
abbrev pub IsDirectoryFault : (Files → Listings → Type 0) → Type 0 → Text → AuditFault → Type 0
IsDirectoryFault agrees failed word fault =
    ((dir : String Global) × (fault ≡ NotADirectory dir) × (string_bytes dir ≡ word) × IsNoDirectory agrees word)
    ⊎ IsTransient failed fault

-- the same of the first of these words that names none
abbrev pub AreDirectoriesFault : (Files → Listings → Type 0) → Type 0 → List Text → AuditFault → Type 0
AreDirectoriesFault agrees failed words fault =
    ((dir : String Global) × (fault ≡ NotADirectory dir) × IsFirstGone agrees words (string_bytes dir))
    ⊎ IsTransient failed fault

-- the fault of a MODULEPATH that has no directory, or memory is wanting
abbrev pub IsModulepathFault : Environment → AuditFault → Type 0
IsModulepathFault e fault = ((fault ≡ EmptyModulepath) × (has_directory e ≡ false)) ⊎ IsTransient ⊥ fault

-- a dry run that was given ended because the device failed
abbrev pub is_failed_dry_run : Result (Option DryRun) Refusal → Bool
is_failed_dry_run (Ok dry_run) = has_failed_dry_run dry_run
is_failed_dry_run (Err refusal) = false

-- What is found of the site that is judged in this environment, where words name these directories, and modules to be
-- excluded.
pub record IsFound (agrees : Files → Listings → Type 0) (judged : Environment) (dirs without : List Text)
    (found : SiteAudit) : Type 0 where
  pub directories : AreDirectories agrees dirs
  pub begins : has_directory judged ≡ true
  pub exact : InEachPair agrees (λ files listings. IsAudit (site_of standard judged files listings) without found)
  pub holds : InEachPair agrees (λ files listings. CertificateStands (site_of standard judged files listings) found)

-- What is found of the site without the files and directories at these paths.
pub record IsFoundWithout (agrees : Files → Listings → Type 0) (paths : List Text) (judged : Environment)
    (dirs without : List Text) (found : SiteAudit) : Type 0 where
  pub directories : AreDirectories agrees dirs
  pub begins : has_directory judged ≡ true
  pub exact : InEachPair (AgreesWithout paths agrees) (λ files listings.
      IsAudit (site_of standard judged files listings) without found)
  pub holds : InEachPair (AgreesWithout paths agrees) (λ files listings.
      CertificateStands (site_of standard judged files listings) found)

-- What is found of the site without what can't be read, and the paths of that: no more than how often the device has
-- failed.
pub record IsReadable (agrees : Files → Listings → Type 0) (has_failed : Text → Bool) (fails : Type 0) (now : ℕ)
    (judged : Environment) (dirs without : List Text) (audit : SeenAudit) : Type 0 where
  pub unreadable : AreUnreadable has_failed fails (texts_in audit.unreadable)
  pub counted : length (texts_in audit.unreadable) ≤ now
  pub found : IsFoundWithout agrees (texts_in audit.unreadable) judged dirs without audit.found

-- What is found of the site without what can't be read, with the dry runs of the modules in the environment that is
-- judged. The device has failed in the call as often as it ended a dry run, and in all as often as that and for each of
-- the paths. Of these variables it names those that concern the certificate.
pub record IsTriedAudit (agrees : Files → Listings → Type 0) (has_failed : Text → Bool) (before now : ℕ)
    (judged : Environment) (not_utf8 dirs without : List Text) (audit : ReadableAudit) : Type 0 where
  pub unreadable : AreUnreadable has_failed (before + failed_in audit.dry_runs.items < now) (texts_in audit.unreadable)
  pub found : IsFoundWithout agrees (texts_in audit.unreadable) judged dirs without audit.found
  pub tried : InEachPair agrees (λ files listings.
      AreDryRuns (in_sh standard files listings) not_utf8 judged audit.found.modules.items audit.dry_runs.items)
  pub failed : before + failed_in audit.dry_runs.items ≤ now
  pub counted : length (texts_in audit.unreadable) + failed_in audit.dry_runs.items ≤ now
  pub named : texts_in audit.not_utf8 ≡ concerned audit.found.certificate.items not_utf8

-- What is to be written of an audit of what is asked for, where its lines are laid out so.
pub record IsPrepared (layout : Layout) (agrees : Files → Listings → Type 0) (has_failed : Text → Bool) (before now : ℕ)
    (e : Environment) (not_utf8 : List Text) (wanted : Wanted) (answer : PreparedAudit) : Type 0 where
  pub audit : ReadableAudit
  pub tried : IsTriedAudit agrees has_failed before now (judged_env e wanted.directories) not_utf8 wanted.directories
      wanted.without audit
  pub there : is_nothing_there (judged_env e wanted.directories) audit ≡ false
  pub certified : answer.is_all_certified ≡ all_certified audit
  pub report : answer.report.items ≡ report_text layout wanted audit

-- the same of an audit by its arguments
pub record IsPreparedAudit (layout : Layout) (agrees : Files → Listings → Type 0) (has_failed : Text → Bool)
    (before now : ℕ) (e : Environment) (not_utf8 arguments : List Text) (answer : PreparedAudit) : Type 0 where
  pub wanted : Wanted
  pub asked : wanted_of arguments ≡ Some wanted
  pub prepared : IsPrepared layout agrees has_failed before now e not_utf8 wanted answer

-- the cause of a fault, where the site is judged in this environment and words name these directories
abbrev pub IsFoundFault : (Files → Listings → Type 0) → Type 0 → Environment → List Text → AuditFault → Type 0
IsFoundFault agrees failed judged dirs fault =
    AreDirectoriesFault agrees failed dirs fault
    ⊎ (((fault ≡ EmptyModulepath) × AreDirectories agrees dirs × (has_directory judged ≡ false))
    ⊎ ((walked : WalkFault) × (fault ≡ of_walk walked) × AreDirectories agrees dirs
    × HasCause agrees failed standard judged walked))

-- a directory of that path, which MODULEPATH can hold, is hidden
abbrev pub is_hidden : List Text → Text → Bool
is_hidden hidden dir = not (is_no_element dir) && is_among hidden dir

-- the fault of a word that names no directory; that of the device where it is hidden
abbrev pub gone_or_hidden : List Text → String Global → AuditFault
gone_or_hidden hidden dir =
    if is_hidden hidden (string_bytes dir) then Refused (refused_read Device) else NotADirectory dir

-- a fault over a tree with hidden paths, over the whole tree
abbrev pub unless_hidden : List Text → AuditFault → AuditFault
unless_hidden hidden (NotADirectory dir) = gone_or_hidden hidden dir
unless_hidden hidden (Refused refusal) = Refused refusal
unless_hidden hidden BadArguments = BadArguments
unless_hidden hidden EmptyModulepath = EmptyModulepath
unless_hidden hidden TooManyDirectories = TooManyDirectories
unless_hidden hidden WriteFailed = WriteFailed

-- the two lists have the same paths
abbrev pub AreSame : List Text → List Text → Type 0
AreSame paths others = (path : Text) → is_among paths path ≡ is_among others path

-- the set has this path more
abbrev pub AddsPath : BTreeSet (String Global) → BTreeSet (String Global) → Text → Type 0
AddsPath old new added = (path : Text) → contains_text new path ≡ (contains_text old path || bytes_eq path added)
