-- What an audit writes to its two writers, and why there is none (own).
use Rattle.std.specs.Prelude.{◌≡◌, ◌⊎◌, ℕ, Bool, true, false, List, [], ◌∷◌, ◌++◌, codes, Option, Some, None, IsSome}
use Rattle.std.specs.Prelude.{◌+◌, ◌<◌, ◌≤◌, ◌==◌, ◌&&◌, ◌||◌, bytes_eq, length, not, string_bytes}
use Rattle.std.specs.Cmp.Lexicographic.{slice_cmp}
use Rattle.std.specs.Ordering.{nat_cmp}
use Rattle.std.specs.declared.alloc.Global.{Global}
use Rattle.std.specs.declared.string.String.{String}
use Rattle.std.specs.List.{join_with_byte, list_all, list_any}
use Rattle.std.specs.List.Sorted.{IsStrictlySortedBy}
use Rattle.std.specs.Io.KnownBytes.{Keeps, Appends}
use Rattle.terminal.specs.columns.Columns.{aligned}
use Rattle.envvars.specs.Texts.{Text, has, texts_in}
use Rattle.envvars.specs.Environment.{Environment, with_value}
use Rattle.filetree.specs.Agreement.{Files, Listings, InEachPair}
use Rattle.filetree.specs.Causes.{Applies, memory}
use Rattle.filetree.specs.Modulefiles.{directories}
use Rattle.filetree.specs.declared.tree.TreeFault.TheVariants.{Device}
use Rattle.filetree.specs.hiding.Hidden.{AgreesWithout, AllFailed}
use Rattle.requests.specs.Steps.{modulepath}
use Rattle.modules.specs.Answers.{cause_of, refused_read}
use Rattle.modules.specs.declared.refusal.Refusal.{Refusal}
use Rattle.audit_laws.specs.site.Sites.{Site, site_of}
use Rattle.audit_site.specs.Walks.{HasCause}
use Rattle.audit_site.specs.declared.fault.WalkFault.{WalkFault}
use Rattle.audit_site.specs.Audits.{IsAudit, CertificateStands, is_certified}
use Rattle.audit_report.specs.Documents.{document_text}
use Rattle.audit_report.specs.Reports.{report_of}
use Rattle.audit_report.specs.declared.readable.ReadableAudit.{ReadableAudit}
use Rattle.modulecmd.specs.Command.{standard}
use Rattle.modulecmd.specs.Writing.{AppendsPart}
use Rattle.modaudit.specs.command.Arguments.{Wanted, asks_help, wanted_of}
use Rattle.modules.specs.Verdicts.{in_sh}
use Rattle.modaudit.specs.command.NotUtf8.{concerned}
use Rattle.modaudit.specs.command.Tried.{AreDryRuns, failed_in}
use Rattle.modaudit.specs.command.Faults.{line_of, of_walk, usage}
use Rattle.modaudit.specs.declared.command.arguments.Format.{Format}
use Rattle.modaudit.specs.declared.command.arguments.Format.TheVariants.{Lines, Document}
use Rattle.modaudit.specs.declared.command.layout.Layout.{Layout}
use Rattle.modaudit.specs.declared.command.layout.Layout.TheVariants.{Tabs, Columns}
use Rattle.modaudit.specs.declared.command.audit_exit.AuditExit.{AuditExit}
use Rattle.modaudit.specs.declared.command.audit_exit.AuditExit.TheVariants.{AllCertified, SomeNotCertified, Helped}
use Rattle.modaudit.specs.declared.command.audit_exit.AuditExit.TheVariants.{Reported, CutShort}
use Rattle.modaudit.specs.declared.command.audit_fault.AuditFault.{AuditFault}
use Rattle.modaudit.specs.declared.command.audit_fault.AuditFault.TheVariants.{Refused, BadArguments, NotADirectory}
use Rattle.modaudit.specs.declared.command.audit_fault.AuditFault.TheVariants.{EmptyModulepath}
use Rattle.modaudit.specs.declared.command.audit_fault.AuditFault.TheVariants.{WriteFailed}

-- ---- what is judged

-- The environment that is judged: that at hand; where directories are given, with these as its MODULEPATH, and without
-- counters of it.
abbrev pub judged_env : Environment → List Text → Environment
judged_env e [] = e
judged_env e (dir ∷ dirs) =
    with_value (with_value e (codes "__MODULES_SHARE_MODULEPATH") None) (codes "MODULEPATH")
    (Some (join_with_byte 58 (dir ∷ dirs)))

-- the MODULEPATH of the environment has a directory
abbrev pub has_directory : Environment → Bool
has_directory e = not (length (directories (modulepath e)) == 0)

-- the site that is judged, over these maps
abbrev pub judged_site : Environment → Wanted → Files → Listings → Site
judged_site e wanted files listings = site_of standard (judged_env e wanted.directories) files listings

-- the text has a colon
abbrev pub has_colon : Text → Bool
has_colon text = list_any (λ c. c == 58) text

-- MODULEPATH can't hold the text as one directory: it is empty, or has a colon
abbrev pub is_no_element : Text → Bool
is_no_element text = bytes_eq text [] || has_colon text

-- A directory is at the path, and MODULEPATH can hold the path.
pub record IsDirectory (agrees : Files → Listings → Type 0) (dir : Text) : Type 0 where
  pub is_element : is_no_element dir ≡ false
  pub listed : InEachPair agrees (λ files listings. IsSome (listings dir))

-- no directory is there, or MODULEPATH can't hold the path
abbrev pub IsNoDirectory : (Files → Listings → Type 0) → Text → Type 0
IsNoDirectory agrees dir =
    (is_no_element dir ≡ true) ⊎ InEachPair agrees (λ files listings. listings dir ≡ None)

-- a directory is at each of the paths
abbrev pub AreDirectories : (Files → Listings → Type 0) → List Text → Type 0
AreDirectories agrees [] = Unit {0}
AreDirectories agrees (dir ∷ dirs) = IsDirectory agrees dir × AreDirectories agrees dirs

-- The directory is the first of these that isn't there.
pub record IsFirstGone (agrees : Files → Listings → Type 0) (dirs : List Text) (dir : Text) : Type 0 where
  pub before : List Text
  pub after : List Text
  pub order : dirs ≡ before ++ dir ∷ after
  pub there : AreDirectories agrees before
  pub gone : IsNoDirectory agrees dir

-- The device has failed at one of these paths, which MODULEPATH can hold, and those before it are there.
pub record IsFirstUnreadable (agrees : Files → Listings → Type 0) (has_failed : Text → Bool) (dirs : List Text)
    : Type 0 where
  pub before : List Text
  pub dir : Text
  pub after : List Text
  pub order : dirs ≡ before ++ dir ∷ after
  pub there : AreDirectories agrees before
  pub is_element : is_no_element dir ≡ false
  pub failed : has_failed dir ≡ true

-- These paths can't be read, each once, in the order of their bytes: the device has failed at each of them. There are
-- none where it has not failed in the call.
pub record AreUnreadable (has_failed : Text → Bool) (fails : Type 0) (paths : List Text) : Type 0 where
  pub order : IsStrictlySortedBy (slice_cmp nat_cmp) paths
  pub failed : AllFailed has_failed paths
  pub cause : (paths ≡ []) ⊎ fails

-- of the directories that MODULEPATH has none is there, and nothing is there that can't be read
abbrev pub is_nothing_there : Environment → ReadableAudit → Bool
is_nothing_there judged audit =
    (length audit.unreadable.items == 0)
    && list_all (λ dir. has dir (texts_in audit.found.missing_directories)) (directories (modulepath judged))

-- The device has failed a thousand times, and at a thousand paths: they are among these, which stand each once in the
-- order of their bytes.
pub record HasFailedOften (has_failed : Text → Bool) (now : ℕ) : Type 0 where
  pub times : 1000 ≤ now
  pub paths : List Text
  pub order : IsStrictlySortedBy (slice_cmp nat_cmp) paths
  pub failed : AllFailed has_failed paths
  pub many : 1000 ≤ length paths

-- The site that the arguments name was audited, without what can't be read: each of their directories is there, the
-- MODULEPATH of the audit has one, what was found is an audit of the site as it is without those paths, and its
-- certificate holds; and each module that is neither certified nor refused was tried. The numbers are those of the
-- device's failures before and after: it failed in the call for each dry run that it ended, and once more where paths
-- can't be read; and in all for each such dry run and each such path.
pub record IsAudited (agrees : Files → Listings → Type 0) (has_failed : Text → Bool) (before now : ℕ)
    (e : Environment) (not_utf8 arguments : List Text) (wanted : Wanted) (audit : ReadableAudit) : Type 0 where
  pub asked : wanted_of arguments ≡ Some wanted
  pub directories : AreDirectories agrees wanted.directories
  pub begins : has_directory (judged_env e wanted.directories) ≡ true
  pub there : is_nothing_there (judged_env e wanted.directories) audit ≡ false
  pub unreadable : AreUnreadable has_failed (before + failed_in audit.dry_runs.items < now) (texts_in audit.unreadable)
  pub exact : InEachPair (AgreesWithout (texts_in audit.unreadable) agrees) (λ files listings.
      IsAudit (judged_site e wanted files listings) wanted.without audit.found)
  pub holds : InEachPair (AgreesWithout (texts_in audit.unreadable) agrees) (λ files listings.
      CertificateStands (judged_site e wanted files listings) audit.found)
  pub tried : InEachPair agrees (λ files listings. AreDryRuns (in_sh standard files listings) not_utf8
      (judged_env e wanted.directories) audit.found.modules.items audit.dry_runs.items)
  pub ended : before + failed_in audit.dry_runs.items ≤ now
  pub counted : length (texts_in audit.unreadable) + failed_in audit.dry_runs.items ≤ now
  pub named : texts_in audit.not_utf8 ≡ concerned audit.found.certificate.items not_utf8

-- ---- what is written

-- lines with tabs between their fields, as they are or in aligned columns
abbrev pub laid_out : Layout → Text → Text
laid_out Tabs lines = lines
laid_out Columns lines = aligned lines

-- the report, as lines that are laid out so, or as one JSON document
abbrev pub text_by : Format → Layout → Wanted → ReadableAudit → Text
text_by Lines layout wanted audit = laid_out layout (report_of wanted.selection audit)
text_by Document layout wanted audit = document_text wanted.selection audit

-- the same by what is asked for
abbrev pub report_text : Layout → Wanted → ReadableAudit → Text
report_text layout wanted audit = text_by wanted.format layout wanted audit

-- each module is certified, and all can be read
abbrev pub all_certified : ReadableAudit → Bool
all_certified audit =
    (length audit.unreadable.items == 0) && list_all (λ m. is_certified m.standing) audit.found.modules.items

-- What is written of a fault: its whole line, or else a first part of it that is not the whole.
abbrev pub WritesFault : AuditExit → Option Text → Option Text → AuditFault → Type 0
WritesFault AllCertified err err' fault = ⊥
WritesFault SomeNotCertified err err' fault = ⊥
WritesFault Helped err err' fault = ⊥
WritesFault Reported err err' fault = Appends err err' (line_of fault)
WritesFault CutShort err err' fault = AppendsPart err err' (line_of fault)

-- What is written of an audit: the report on standard output, and nothing on standard error; or where a write failed, a
-- first part of the report, and the line that says so. Where all is written, the exit says whether each module is
-- certified and all can be read.
abbrev pub WritesAudit : AuditExit → Bool → Text → Option Text → Option Text → Option Text → Option Text → Type 0
WritesAudit AllCertified all text out out' err err' = (all ≡ true) × Appends out out' text × Keeps err err'
WritesAudit SomeNotCertified all text out out' err err' = (all ≡ false) × Appends out out' text × Keeps err err'
WritesAudit exit all text out out' err err' = AppendsPart out out' text × WritesFault exit err err' WriteFailed

-- how the program is called, and what its options do
abbrev pub help_text : Text
help_text =
    usage ++ codes "\n--quiet names no certified module; --json writes a document; "
    ++ codes "--without certifies none that NAME means\n"

-- What is written of a text of help: that text on standard output, and nothing on standard error; or where a write
-- failed, a first part of it, and the line that says so.
abbrev pub WritesHelp : AuditExit → Text → Option Text → Option Text → Option Text → Option Text → Type 0
WritesHelp Helped text out out' err err' = Appends out out' text × Keeps err err'
WritesHelp exit text out out' err err' = AppendsPart out out' text × WritesFault exit err err' WriteFailed

-- ---- why there is none

-- The cause of a fault, where words name these directories and this environment is judged, in the order in which all but
-- the last are looked for: a word names no directory, and it is the first; or the device has failed at the first that
-- can't be judged; each of them is there, and MODULEPATH has no directory, or the walk over the site, without what can't
-- be read, has a cause; or an audit finds that none of its directories is there. At any time memory is wanting, or the
-- device has failed too often.
pub data IsSiteFault (agrees : Files → Listings → Type 0) (has_failed : Text → Bool) (often : Type 0)
    (judged : Environment) (dirs : List Text) : AuditFault → Type 0 where
  no_directory : (dir : String Global) → IsFirstGone agrees dirs (string_bytes dir)
      → IsSiteFault agrees has_failed often judged dirs (NotADirectory dir)
  unreadable_directory : IsFirstUnreadable agrees has_failed dirs
      → IsSiteFault agrees has_failed often judged dirs (Refused (refused_read Device))
  empty_modulepath : AreDirectories agrees dirs → has_directory judged ≡ false
      → IsSiteFault agrees has_failed often judged dirs EmptyModulepath
  none_there : (without : List Text) (audit : ReadableAudit) → AreDirectories agrees dirs
      → InEachPair (AgreesWithout (texts_in audit.unreadable) agrees) (λ files listings.
      IsAudit (site_of standard judged files listings) without audit.found)
      → is_nothing_there judged audit ≡ true
      → IsSiteFault agrees has_failed often judged dirs EmptyModulepath
  no_walk : (paths : List Text) (fault : WalkFault) → AreDirectories agrees dirs → AllFailed has_failed paths
      → HasCause (AgreesWithout paths agrees) often standard judged fault
      → IsSiteFault agrees has_failed often judged dirs (of_walk fault)
  transient_failure : (refusal : Refusal) → Applies (cause_of refusal) often (λ reason. ⊥)
      → IsSiteFault agrees has_failed often judged dirs (Refused refusal)

-- The cause of a fault: an option isn't known; the site that is asked for has a cause; or memory is wanting.
pub data IsAuditFault (agrees : Files → Listings → Type 0) (has_failed : Text → Bool) (often : Type 0)
    (e : Environment) (arguments : List Text) : AuditFault → Type 0 where
  unknown_option : wanted_of arguments ≡ None → IsAuditFault agrees has_failed often e arguments BadArguments
  of_site : (wanted : Wanted) (fault : AuditFault) → wanted_of arguments ≡ Some wanted
      → IsSiteFault agrees has_failed often (judged_env e wanted.directories) wanted.directories fault
      → IsAuditFault agrees has_failed often e arguments fault
  no_memory : (refusal : Refusal) → cause_of refusal ≡ memory
      → IsAuditFault agrees has_failed often e arguments (Refused refusal)

-- What an audit writes, by how it ended: its report; or nothing on standard output, and the line that says why there is
-- none on standard error. The numbers are those of the device's failures before and after: it is given up only where it
-- failed in between, and at a thousand paths in all.
abbrev pub EndsJudged : AuditExit → Layout → (Files → Listings → Type 0) → (Text → Bool) → ℕ → ℕ → Environment → List Text
    → List Text → Option Text → Option Text → Option Text → Option Text → Type 0
EndsJudged exit layout agrees has_failed before now e not_utf8 arguments out out' err err' =
    ((wanted : Wanted) × (audit : ReadableAudit)
    × IsAudited agrees has_failed before now e not_utf8 arguments wanted audit
    × WritesAudit exit (all_certified audit) (report_text layout wanted audit) out out' err err')
    ⊎ ((fault : AuditFault)
    × IsAuditFault agrees has_failed ((before < now) × HasFailedOften has_failed now) e arguments fault
    × Keeps out out' × WritesFault exit err err' fault)

-- How an audit ends: with the help that the arguments ask for, and then nothing is read, or with a judgement.
abbrev pub EndsAudit : AuditExit → Layout → Type 0 → (Files → Listings → Type 0) → (Text → Bool) → ℕ → ℕ → Environment
    → List Text → List Text → Option Text → Option Text → Option Text → Option Text → Type 0
EndsAudit exit layout unread agrees has_failed before now e not_utf8 arguments out out' err err' =
    ((asks_help arguments ≡ true) × unread × WritesHelp exit help_text out out' err err')
    ⊎ ((asks_help arguments ≡ false)
    × EndsJudged exit layout agrees has_failed before now e not_utf8 arguments out out' err err')

-- the status of the process
abbrev pub status_of : AuditExit → ℕ
status_of AllCertified = 0
status_of SomeNotCertified = 1
status_of Helped = 0
status_of Reported = 2
status_of CutShort = 2
