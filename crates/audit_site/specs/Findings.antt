-- What each module of a site shows by itself, and what the answers about clashes make of it: for this crate's own
-- contracts alone.
use Rattle.std.specs.Prelude.{◌≡◌, Bool, not, if◌then◌else◌, List, [], ◌∷◌, ◌++◌, map, flat_map, find}
use Rattle.std.specs.Prelude.{Option, Some, None, Result, Ok, Err, string_bytes}
use Rattle.std.specs.List.{AllByRecursion}
use Rattle.std.specs.Option.{option_map}
use Rattle.envvars.specs.Texts.{Text}
use Rattle.modulefile.specs.RecordViews.{record_view}
use Rattle.modulefile_run.specs.declared.question.Question.{Question}
use Rattle.modulefile.specs.Records.{Record}
use Rattle.modulefile.specs.declared.records.Record as code
use Rattle.reversal.specs.VariableUses.{can_return, UsedVariable}
use Rattle.modules.specs.declared.refusal.Refusal.{Refusal}
use Rattle.audit_certificate.specs.Candidates.{Candidate, uses_of_all}
use Rattle.audit_certificate.specs.CandidateViews.{candidate_view}
use Rattle.audit_laws.specs.site.Sites.{SiteModule, is_excluded}
use Rattle.audit_certificate.specs.declared.answers.Clash.{Clash}
use Rattle.audit_certificate.specs.ClashAnswers.{AreAnswers, without_clashes}
use Rattle.audit_certificate.specs.EachOnce.{each_once}
use Rattle.audit_site.specs.declared.walk.EvaluatedFile.{EvaluatedFile}
use Rattle.audit_site.specs.declared.walk.Evaluation.{Evaluation}
use Rattle.audit_site.specs.Audits.{listed, inconsistent_module}
use Rattle.audit_site.specs.DeterministicRuns.{evaluated_file, reads_seen}
use Rattle.audit_site.specs.declared.unlike.UnlikeUses.{UnlikeUses}
use Rattle.audit_site.specs.declared.standing.AuditStanding.{AuditStanding}
use Rattle.audit_site.specs.declared.standing.AuditStanding.TheVariants as ways
use Rattle.audit_site.specs.declared.standing.AuditStanding.TheVariants.{Certified, Unstable, OneWay, Excluded, Clashes}
use Rattle.audit_site.specs.declared.standing.ModuleFinding.{ModuleFinding}
use Rattle.audit_site.specs.declared.standing.ModuleFinding.TheVariants.{Refused, Stands, Consistent}
use Rattle.audit_site.specs.declared.judgement.OwnStanding.{OwnStanding}
use Rattle.audit_site.specs.declared.judgement.OwnStanding.TheVariants.{Decided, Besides, Open}
use Rattle.audit_site.specs.declared.judgement.JudgedModule.{JudgedModule}
use Rattle.audit_site.specs.declared.judgement.JudgedSite.{JudgedSite}
use Rattle.audit_site.specs.declared.auditing.AuditedModule.{AuditedModule}

-- ---- one module

-- Whatever others do, a module stands in these ways, in their order: by the first of its questions that doesn't have a
-- stable answer, by its records, and by two of its uses that differ.
pub record AreStandingsOf (unkept : Option Question) (rs : List Record) (unlike : Option UnlikeUses)
    (standings : List AuditStanding) : Type 0 where
  pub one_way : Option code.Record
  pub returns : option_map record_view one_way ≡ find (λ r. not (can_return r)) rs
  pub all : standings ≡ listed Unstable unkept ++ (listed OneWay one_way ++ listed inconsistent_module unlike)

-- A module with these records that stands in these ways shows the first of them, and the others; or that it is
-- consistent.
abbrev pub IsFindingBy : List AuditStanding → List Record → ModuleFinding → Type 0
IsFindingBy standings rs (Refused refusal) = ⊥
IsFindingBy standings rs (Stands first other_reasons records) =
    (standings ≡ first ∷ other_reasons.items) × (map record_view records.items ≡ rs)
IsFindingBy standings rs (Consistent records) = (standings ≡ []) × (map record_view records.items ≡ rs)

-- what a module with these records shows by itself, where its evaluation is accepted
abbrev pub IsFindingOf : Option Question → List Record → Option UnlikeUses → ModuleFinding → Type 0
IsFindingOf unkept rs unlike finding =
    (standings : List AuditStanding) × AreStandingsOf unkept rs unlike standings × IsFindingBy standings rs finding

-- what the outcome of its evaluations shows
abbrev pub IsFinding : Result EvaluatedFile Refusal → ModuleFinding → Type 0
IsFinding (Ok file) finding = IsFindingOf file.unkept (map record_view file.records.items) file.unlike finding
IsFinding (Err refusal) finding = finding ≡ Refused refusal

-- how it stands by it, by whether it is excluded
abbrev pub own_standing : Bool → ModuleFinding → OwnStanding
own_standing excluded (Refused refusal) = Decided (ways.Refused refusal)
own_standing excluded (Stands first other_reasons records) = Besides first other_reasons
own_standing excluded (Consistent records) = if excluded then Decided Excluded else Open

-- the module with these records and these reads
abbrev pub candidate_with : SiteModule → List Record → List Text → Candidate
candidate_with m rs reads = record { name = m.name; path = m.path; records = rs; reads = reads }

-- the module with its records and its reads, where others decide
abbrev pub steps_of : List Text → SiteModule → List Text → ModuleFinding → List Candidate
steps_of without m reads (Refused refusal) = []
steps_of without m reads (Stands first other_reasons records) = []
steps_of without m reads (Consistent records) =
    if is_excluded without m.name then [] else candidate_with m (map record_view records.items) reads ∷ []

-- the module with its first records and its reads, where it stands by itself
abbrev pub rejected_by : SiteModule → List Text → ModuleFinding → List Candidate
rejected_by m reads (Refused refusal) = []
rejected_by m reads (Stands first other_reasons records) = candidate_with m (map record_view records.items) reads ∷ []
rejected_by m reads (Consistent records) = []

-- ---- all modules

-- an evaluation, and what it shows
abbrev pub Shown : Type 0
Shown = Evaluation × ModuleFinding

-- what is kept of it, where the modules that these names mean are excluded
abbrev pub judged_of : List Text → Shown → JudgedModule
judged_of without (e, finding) =
    record {
      name = e.name;
      path = e.path;
      reads = e.reads;
      standing = own_standing (is_excluded without (string_bytes e.name)) finding;
    }

-- the module, where other modules decide how it stands
abbrev pub steps_in : List Text → Shown → List Candidate
steps_in without (e, finding) = steps_of without (evaluated_file e) (reads_seen e) finding

-- the module, where it stands by itself
abbrev pub rejected_in : Shown → List Candidate
rejected_in (e, finding) = rejected_by (evaluated_file e) (reads_seen e) finding

-- what the evaluation shows is right
abbrev pub IsShown : Shown → Type 0
IsShown (e, finding) = IsFinding e.outcome finding

-- Each module of some evaluations is judged by itself, in their order, where the modules that these names mean are
-- excluded; and these are the deterministic and consistent ones that aren't, and those that stand by themselves.
pub record AreJudged (without : List Text) (evaluations : List Evaluation) (judged : List JudgedModule)
    (consistent aside : List Candidate) : Type 0 where
  pub shown : List Shown
  pub evaluated : map (λ s. s.0) shown ≡ evaluations
  pub right : AllByRecursion IsShown shown
  pub kept : judged ≡ map (judged_of without) shown
  pub steps : consistent ≡ flat_map (steps_in without) shown
  pub others : aside ≡ flat_map rejected_in shown

-- one module more is judged by itself
pub record AddsJudged (without : List Text) (evaluation : Evaluation) (old new : JudgedSite) : Type 0 where
  pub finding : ModuleFinding
  pub right : IsFinding evaluation.outcome finding
  pub kept : new.judged.items ≡ old.judged.items ++ judged_of without (evaluation, finding) ∷ []
  pub steps : map candidate_view new.consistent.items
      ≡ map candidate_view old.consistent.items ++ steps_in without (evaluation, finding)
  pub others : map candidate_view new.aside.items ≡ map candidate_view old.aside.items ++ rejected_in (evaluation, finding)

-- ---- answers about clashes

-- the first of some answers, if there is one, and those after it
abbrev pub first_answer : List (Option Clash) → Option Clash
first_answer [] = None
first_answer (answer ∷ answers) = answer

abbrev pub later_answers : List (Option Clash) → List (Option Clash)
later_answers [] = []
later_answers (answer ∷ answers) = answers

-- by the answer of a consistent module, how it stands
abbrev pub standing_by : Option Clash → AuditStanding
standing_by None = Certified
standing_by (Some clash) = Clashes clash

-- how a module stands by what it shows by itself, or else by the first answer
abbrev pub standing_with : OwnStanding → List (Option Clash) → AuditStanding
standing_with (Decided standing) answers = standing
standing_with (Besides standing other_reasons) answers = standing
standing_with Open answers = standing_by (first_answer answers)

-- the answers that are left for the modules after this one
abbrev pub answers_left : OwnStanding → List (Option Clash) → List (Option Clash)
answers_left (Decided standing) answers = answers
answers_left (Besides standing other_reasons) answers = answers
answers_left Open answers = later_answers answers

-- the other reasons, by the first answer for those that stand by themselves
abbrev pub other_reasons_with : OwnStanding → List (Option Clash) → List AuditStanding
other_reasons_with (Decided standing) answers = []
other_reasons_with (Besides standing other_reasons) answers = other_reasons.items ++ listed Clashes (first_answer answers)
other_reasons_with Open answers = []

-- the answers that are left for those after this one
abbrev pub beside_left : OwnStanding → List (Option Clash) → List (Option Clash)
beside_left (Decided standing) answers = answers
beside_left (Besides standing other_reasons) answers = later_answers answers
beside_left Open answers = answers

-- the module stands so by these answers
pub record IsModuleWith (judged : JudgedModule) (answers beside : List (Option Clash)) (m : AuditedModule) : Type 0 where
  pub name : m.name ≡ judged.name
  pub path : m.path ≡ judged.path
  pub reads : m.reads ≡ judged.reads
  pub standing : m.standing ≡ standing_with judged.standing answers
  pub other_reasons : m.other_reasons.items ≡ other_reasons_with judged.standing beside

-- The modules stand so: those for whom others decide have the answers, in their order, and those that stand by
-- themselves the others.
abbrev pub AreModulesWith : List JudgedModule → List (Option Clash) → List (Option Clash) → List AuditedModule → Type 0
AreModulesWith [] answers beside [] = Unit {0}
AreModulesWith [] answers beside (m ∷ modules) = ⊥
AreModulesWith (judged ∷ rest) answers beside [] = ⊥
AreModulesWith (judged ∷ rest) answers beside (m ∷ modules) =
    IsModuleWith judged answers beside m
    × AreModulesWith rest (answers_left judged.standing answers) (beside_left judged.standing beside) modules

-- The modules of some evaluations stand so, and these are the uses and the reads of those that are certified, each
-- once: by what each shows by itself, by the names of those that are excluded, and by what is answered of the clashes
-- of those that are deterministic and consistent, and of those that stand by themselves with these.
pub record AreStandings (without : List Text) (evaluations : List Evaluation) (modules : List AuditedModule)
    (uses : List UsedVariable) : Type 0 where
  pub judged : List JudgedModule
  pub consistent : List Candidate
  pub aside : List Candidate
  pub answers : List (Option Clash)
  pub beside : List (Option Clash)
  pub by_themselves : AreJudged without evaluations judged consistent aside
  pub answered : AreAnswers consistent consistent answers
  pub answered_beside : AreAnswers consistent aside beside
  pub standings : AreModulesWith judged answers beside modules
  pub certified : uses ≡ each_once (uses_of_all (without_clashes consistent answers))
