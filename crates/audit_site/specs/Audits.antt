-- What an audit of a site finds (own).
use Rattle.std.specs.Prelude.{◌≡◌, ◌↔◌, Bool, true, false, not, List, [], ◌∷◌, ◌++◌, map, filter, flat_map, find}
use Rattle.std.specs.Prelude.{Option, option_to_list, Ok, Err, is_ok, ◌&&◌, MatchOption, bytes_eq, string_bytes}
use Rattle.std.specs.List.{list_any}
use Rattle.std.specs.Option.{option_map}
use Rattle.indexmap.specs.IndexSet.{insert_all}
use Rattle.modulename.specs.ModuleName.{means}
use Rattle.envvars.specs.Texts.{Text, has, texts_in}
use Rattle.envvars.specs.Fields.{without_repeats}
use Rattle.reversal.specs.VariableUses.{UsedVariable, can_return}
use Rattle.filetree.specs.Causes.{because}
use Rattle.modulefile.specs.RecordViews.{record_view}
use Rattle.modulefile.specs.declared.records.Record as code
use Rattle.modulefile.specs.Records.{Record, conflict_names, prereq_groups}
use Rattle.requests.specs.Reasons.{RequestReason}
use Rattle.modules.specs.Answers.{cause_of}
use Rattle.audit_certificate.specs.RecordUses.{IsAmong}
use Rattle.audit_certificate.specs.Candidates.{Candidate, uses_of_all}
use Rattle.audit_certificate.specs.Steps.{IsConsistent, are_consistent, is_consistent}
use Rattle.audit_certificate.specs.Ranks.{users_of_one_use}
use Rattle.audit_certificate.specs.Certificates.{certificate, AgreesWith}
use Rattle.audit_certificate.specs.UseViews.{use_view, used_view}
use Rattle.audit_certificate.specs.Disagreements.{AreDisagreements}
use Rattle.audit_certificate.specs.DisagreementViews.{disagreement_view}
use Rattle.audit_certificate.specs.EachOnce.{each_once}
use Rattle.audit_certificate.specs.ClashAnswers as clashes
use Rattle.audit_certificate.specs.declared.answers.Clash.{Clash}
use Rattle.audit_laws.specs.determinism.Contexts.{same_by, FileRuns, are_runs_equivalent, has_stable_answer}
use Rattle.audit_laws.specs.site.Sites.{Site, SiteModule, Evaluated, candidate_file, candidate_of, is_excluded}
use Rattle.audit_laws.specs.site.Sites.{AreDeterministicModules, deterministic_among, reads_of}
use Rattle.audit_laws.specs.site.Sites.{first_directories, added_directories}
use Rattle.audit_laws.specs.site.Standings as standings
use Rattle.audit_laws.specs.site.Standings.{HasStanding, IsDeterministicAnd}
use Rattle.audit_laws.specs.site.Laws.{AreDeterministic, CertificateHolds}
use Rattle.audit_site.specs.Walks.{IsWalk, directories_of, uses_in, AreUsedTwice}
use Rattle.audit_site.specs.Folders.{AreBadDefaultFiles}
use Rattle.audit_site.specs.Missing.{missing_among}
use Rattle.audit_site.specs.Unread.{unread_among}
use Rattle.audit_site.specs.NoModulefiles.{AreNoModulefiles}
use Rattle.modulefile_run.specs.declared.question.Question.{Question}
use Rattle.modulefile_run.specs.Questions.{question_view}
use Rattle.audit_site.specs.declared.unlike.UnlikeUses.{UnlikeUses}
use Rattle.audit_site.specs.declared.standing.AuditStanding.{AuditStanding}
use Rattle.audit_site.specs.declared.standing.AuditStanding.TheVariants.{Certified, Unstable, OneWay, Inconsistent}
use Rattle.audit_site.specs.declared.standing.AuditStanding.TheVariants.{Excluded, Clashes, Refused}
use Rattle.audit_site.specs.declared.auditing.AuditedModule.{AuditedModule}
use Rattle.audit_site.specs.declared.auditing.UnknownNames.{UnknownNames}
use Rattle.audit_site.specs.declared.auditing.AddedDirectory.{AddedDirectory}
use Rattle.audit_site.specs.declared.auditing.SiteAudit.{SiteAudit}

-- ---- standings

-- those of the candidates that aren't excluded
abbrev pub remaining : List Text → List Candidate → List Candidate
remaining without ms = filter (λ m. not (is_excluded without m.name)) ms

-- A module of a site, whose candidates these are, stands as the code says. The other module of a clash has the name and
-- the path that are given, and so many of the consistent candidates use the variable of the clash as the other does;
-- one that clashes isn't excluded; one that is excluded is deterministic and consistent; a refusal has its reason.
abbrev pub StandsAs : Site → List Text → List Candidate → SiteModule → AuditStanding → Type 0
StandsAs site without ms m Certified = HasStanding site ms m standings.Certified
StandsAs site without ms m (Unstable first) = HasStanding site ms m (standings.Unstable (question_view first))
StandsAs site without ms m (OneWay first) = HasStanding site ms m (standings.OneWay (record_view first))
StandsAs site without ms m (Inconsistent variable one other) =
    HasStanding site ms m (standings.Inconsistent (string_bytes variable) (use_view one) (use_view other))
StandsAs site without ms m Excluded = (is_excluded without m.name ≡ true) × IsDeterministicAnd site m IsConsistent
StandsAs site without ms m (Clashes clash) =
    (is_excluded without m.name ≡ false)
    × (other : Candidate) × (other.name ≡ string_bytes clash.other_name) × (other.path ≡ string_bytes clash.other_path)
    × (clash.alike ≡ users_of_one_use (filter is_consistent ms) (string_bytes clash.variable) (use_view clash.theirs))
    × HasStanding site ms m
    (standings.Clashes (string_bytes clash.variable) (use_view clash.own) (use_view clash.theirs) other)
StandsAs site without ms m (Refused refusal) =
    (reason : RequestReason) × (cause_of refusal ≡ because reason) × HasStanding site ms m (standings.Refused reason)

-- the module without its standing
abbrev pub audited_file : AuditedModule → SiteModule
audited_file m = record { name = string_bytes m.name; path = string_bytes m.path }

-- each of them stands so
abbrev pub AllStand : Site → List Text → List Candidate → List AuditedModule → Type 0
AllStand site without ms [] = Unit {0}
AllStand site without ms (m ∷ audited) =
    StandsAs site without ms (audited_file m) m.standing × AllStand site without ms audited

-- it stands as certified
abbrev pub is_certified : AuditStanding → Bool
is_certified Certified = true
is_certified (Unstable first) = false
is_certified (OneWay first) = false
is_certified (Inconsistent variable one other) = false
is_certified Excluded = false
is_certified (Clashes clash) = false
is_certified (Refused refusal) = false

-- the modules that stand as certified, in their order
abbrev pub certified_files : List AuditedModule → List SiteModule
certified_files ms = map audited_file (filter (λ m. is_certified m.standing) ms)

-- ---- names

-- names that a module has in a record: all of a `prereq`, or else one of a `conflict`
pub record Mention : Type 0 where
  pub by : SiteModule
  pub is_prereq : Bool
  pub names : List Text

-- what the code has for it
abbrev pub mention_of : UnknownNames → Mention
mention_of found =
    record {
      by = record { name = string_bytes found.name; path = string_bytes found.path };
      is_prereq = found.is_prereq;
      names = texts_in found.names;
    }

-- the name means one of these modules
abbrev pub means_one : List Evaluated → Text → Bool
means_one outcomes name = list_any (λ outcome. means name outcome.0.name) outcomes

-- the name means one of these modules whose evaluation isn't refused
abbrev pub means_accepted : List Evaluated → Text → Bool
means_accepted outcomes name = list_any (λ outcome. is_ok outcome.1 && means name outcome.0.name) outcomes

-- the names in the conflicts of records that aren't known, each once
abbrev pub unknown_conflicts : (Text → Bool) → List Record → List Text
unknown_conflicts known rs = without_repeats (filter (λ name. not (known name)) (conflict_names rs))

-- the prereqs of records of which no name is known, each once
abbrev pub unknown_prereqs : (Text → Bool) → List Record → List (List Text)
unknown_prereqs known rs =
    insert_all (same_by bytes_eq) [] (filter (λ names. not (list_any known names)) (prereq_groups rs))

-- the module has the name in a conflict
abbrev pub conflict_mention : SiteModule → Text → Mention
conflict_mention m name = record { by = m; is_prereq = false; names = name ∷ [] }

-- it has the names in a prereq
abbrev pub prereq_mention : SiteModule → List Text → Mention
prereq_mention m names = record { by = m; is_prereq = true; names = names }

-- What a module with these records mentions in vain: of its conflicts the names that aren't known, and then the prereqs
-- of which no name is accepted.
abbrev pub unknown_in : (Text → Bool) → (Text → Bool) → SiteModule → List Record → List Mention
unknown_in known accepted m rs =
    map (conflict_mention m) (unknown_conflicts known rs) ++ map (prereq_mention m) (unknown_prereqs accepted rs)

-- the same of an evaluated module
abbrev pub unknown_of : (Text → Bool) → (Text → Bool) → Evaluated → List Mention
unknown_of known accepted (m, Ok runs) = unknown_in known accepted m runs.first.records
unknown_of known accepted (m, Err reason) = []

-- What these modules mention in turn in vain: names in conflicts that mean none of them, and prereqs of which each name
-- means none, or only such whose evaluation is refused.
abbrev pub unknown_names : List Evaluated → List Mention
unknown_names outcomes = flat_map (unknown_of (means_one outcomes) (means_accepted outcomes)) outcomes

-- ---- directories that can be reached only through modules that aren't deterministic

-- a directory that a module adds
pub record Addition : Type 0 where
  pub by : SiteModule
  pub directory : Text

-- what the code has for it
abbrev pub addition_of : AddedDirectory → Addition
addition_of added =
    record {
      by = record { name = string_bytes added.name; path = string_bytes added.path };
      directory = string_bytes added.directory;
    }

-- the directories of the MODULEPATH at hand, and those that deterministic ones of these modules add
abbrev pub stable_directories : Site → List Evaluated → List Text
stable_directories site outcomes =
    first_directories site ++ flat_map (λ m. added_directories m.records) (deterministic_among outcomes)

-- what an evaluated module adds to these directories, each once
abbrev pub additions_to : List Text → Evaluated → List Addition
additions_to dirs outcome =
    map (λ dir. record { by = outcome.0; directory = dir })
    (filter (λ dir. not (has dir dirs)) (without_repeats (directories_of outcome)))

-- What the modules in turn add that neither the MODULEPATH at hand has nor a deterministic one of them adds.
abbrev pub unreachable_directories : Site → List Evaluated → List Addition
unreachable_directories site outcomes = flat_map (additions_to (stable_directories site outcomes)) outcomes

-- ---- how modules stand besides

-- two uses of one variable that differ, as a standing
abbrev pub inconsistent_module : UnlikeUses → AuditStanding
inconsistent_module unlike = Inconsistent unlike.variable unlike.one unlike.other

-- a standing, if there is one
abbrev pub listed : {X : Type 0} → (X → AuditStanding) → Option X → List AuditStanding
listed stands o = option_to_list (option_map stands o)

-- Whatever others do, a module of these runs stands in these ways, in their order: its first question that doesn't have
-- a stable answer, its first record after which the start can't be back, and two of its uses of one variable that
-- differ; each of them, if there is one.
pub record AreOwnStandings (runs : FileRuns RequestReason) (standings : List AuditStanding) : Type 0 where
  pub question : Option Question
  pub one_way : Option code.Record
  pub unlike : Option UnlikeUses
  pub asks : option_map question_view question
      ≡ find (λ q. not (has_stable_answer (are_runs_equivalent runs) runs.first.records q)) runs.first.asked
  pub returns : option_map record_view one_way ≡ find (λ r. not (can_return r)) runs.first.records
  pub steps : MatchOption unlike (are_consistent (uses_in runs) ≡ true) (AreUsedTwice (uses_in runs))
  pub all : standings ≡ listed Unstable question ++ (listed OneWay one_way ++ listed inconsistent_module unlike)

-- A module that stands in these ways, whatever others do, stands in the first, and has the others as other reasons, and
-- then by a clash with a selected one of the candidates. One that stands in none is a consistent candidate, and stands
-- for no other reason.
abbrev pub HasOtherReason : List Candidate → Candidate → List AuditStanding → List AuditStanding → Type 0
HasOtherReason ms m [] other_reasons = other_reasons ≡ []
HasOtherReason ms m (first ∷ others) other_reasons =
    (clash : Option Clash) × clashes.IsAnswer ms m clash × (other_reasons ≡ others ++ listed Clashes clash)

-- the other reasons of an evaluated module, by its first records and its reads; one whose evaluation is refused has
-- none
abbrev pub HasOtherReasons : List Candidate → Evaluated → List AuditStanding → Type 0
HasOtherReasons ms (m, Ok runs) other_reasons =
    (own : List AuditStanding) × AreOwnStandings runs own × HasOtherReason ms (candidate_of m runs) own other_reasons
HasOtherReasons ms (m, Err reason) other_reasons = other_reasons ≡ []

-- each of them has these
abbrev pub HaveOtherReasons : List Candidate → List Evaluated → List AuditedModule → Type 0
HaveOtherReasons ms [] [] = Unit {0}
HaveOtherReasons ms [] (m ∷ audited) = ⊥
HaveOtherReasons ms (outcome ∷ outcomes) [] = ⊥
HaveOtherReasons ms (outcome ∷ outcomes) (m ∷ audited) =
    HasOtherReasons ms outcome m.other_reasons.items × HaveOtherReasons ms outcomes audited

-- ---- the whole

-- What was found is an audit of the site, where the modules that these names mean are excluded: a walk over it has
-- these directories and these outcomes. It has each module of the walk, in its order, with the variables that its
-- evaluations read, each once, and how it stands beside the candidates, which are the deterministic modules that
-- remain, and the other reasons, by its first records and its reads; the certificate of the candidates, each use
-- once; those of its directories that aren't there, in their order; what the modules in turn add that can be reached
-- only through modules that aren't deterministic; the default files above each folder, which aren't read; the files in
-- the places of modules that are no modulefiles; the bad default files of the modules in turn, each once; the names in
-- conflicts that mean no module, and the prereqs that name none that isn't refused; and the reasons for which the
-- environment at hand doesn't agree with the certificate, use after use.
pub record IsAudit (site : Site) (without : List Text) (found : SiteAudit) : Type 0 where
  pub dirs : List Text
  pub outcomes : List Evaluated
  pub walk : IsWalk site dirs outcomes
  pub deterministic : AreDeterministicModules site (deterministic_among outcomes)
  pub modules : map audited_file found.modules.items ≡ map (λ outcome. outcome.0) outcomes
  pub reads : map (λ m. texts_in m.reads) found.modules.items ≡ map (λ o. without_repeats (reads_of o)) outcomes
  pub standing : AllStand site without (remaining without (deterministic_among outcomes)) found.modules.items
  pub certificate : map used_view found.certificate.items
      ≡ each_once (certificate (remaining without (deterministic_among outcomes)))
  pub missing_directories : texts_in found.missing_directories ≡ missing_among site.listings dirs
  pub unreachable : map addition_of found.unreachable_directories.items ≡ unreachable_directories site outcomes
  pub other_reasons : HaveOtherReasons (filter is_consistent (remaining without (deterministic_among outcomes))) outcomes found.modules.items
  pub no_modulefiles : AreNoModulefiles site.files site.listings dirs (texts_in found.no_modulefiles)
  pub unread_default_files : texts_in found.unread_default_files ≡ unread_among site.listings dirs
  pub bad_default_files : AreBadDefaultFiles site.limits site.files site.listings (map (λ outcome. outcome.0) outcomes)
      (texts_in found.bad_default_files)
  pub unknown : map mention_of found.unknown_names.items ≡ unknown_names outcomes
  pub agrees : (found.disagreements.items ≡ []) ↔ AgreesWith (map used_view found.certificate.items) site.env
  pub disagreements : AreDisagreements (map used_view found.certificate.items) site.env
      (map disagreement_view found.disagreements.items)

-- What the certificate that was found promises of the site. These modules, with the records of their evaluations and what
-- they read, are those that stand as certified, and the certificate is what they use and read. Sessions that load only
-- those of them with whose uses the start agrees, and whose reads have in it the values of the audit, return to it: of the
-- others nothing is asked.
pub record CertificateStands (site : Site) (found : SiteAudit) : Type 0 where
  pub certain : List Candidate
  pub exact : map candidate_file certain ≡ certified_files found.modules.items
  pub deterministic : AreDeterministic site certain
  pub uses : (p : UsedVariable) → IsAmong p (uses_of_all certain) ↔ IsAmong p (map used_view found.certificate.items)
  pub holds : CertificateHolds site certain
