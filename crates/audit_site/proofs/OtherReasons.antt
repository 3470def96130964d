-- The other reasons of modules, by what each shows by itself, and by what is answered of clashes.
use Rattle.std.proofs.Common.{◌≡◌, Bool, true, false, cond, List, [], ◌∷◌, ◌++◌, map, Option}
use Rattle.std.proofs.Common.{Result, Ok, Err, refl, ap, sym, ◌∙◌, subst}
use Rattle.std.specs.Prelude.{flat_map, string_bytes}
use Rattle.std.specs.List.{AllByRecursion}
use Rattle.envvars.specs.Texts.{Text, texts_in}
use Rattle.envvars.specs.Fields.{without_repeats}
use Rattle.modulefile.specs.RecordViews.{record_view}
use Rattle.modules.specs.declared.refusal.Refusal.{Refusal}
use Rattle.requests.specs.Reasons.{RequestReason}
use Rattle.audit_laws.specs.determinism.Contexts.{FileRuns, reads_in}
use Rattle.audit_certificate.specs.Candidates.{Candidate}
use Rattle.audit_certificate.specs.ClashAnswers as clashes
use Rattle.audit_certificate.specs.ClashAnswers.{AreAnswers}
use Rattle.audit_certificate.specs.declared.answers.Clash.{Clash}
use Rattle.audit_laws.specs.site.Sites.{SiteModule, Evaluated, candidate_of, reads_of, is_excluded}
use Rattle.audit_site.specs.declared.standing.AuditStanding.{AuditStanding}
use Rattle.audit_site.specs.declared.standing.AuditStanding.TheVariants.{Excluded}
use Rattle.audit_site.specs.declared.standing.ModuleFinding.{ModuleFinding}
use Rattle.audit_site.specs.declared.standing.ModuleFinding.TheVariants.{Refused, Stands, Consistent}
use Rattle.audit_site.specs.declared.judgement.OwnStanding.TheVariants.{Decided, Open}
use Rattle.audit_site.specs.declared.auditing.AuditedModule.{AuditedModule}
use Rattle.audit_site.specs.declared.walk.EvaluatedFile.{EvaluatedFile}
use Rattle.audit_site.specs.Audits.{AreOwnStandings, HasOtherReason, HasOtherReasons, HaveOtherReasons}
use Rattle.audit_site.specs.Walks.{IsOutcome, IsOfRuns, AreEvaluations}
use Rattle.audit_site.specs.DeterministicRuns.{evaluated_file, reads_seen}
use Rattle.audit_site.specs.Findings.{IsFindingBy, IsFindingOf, IsFinding, own_standing, candidate_with, rejected_by, Shown, judged_of}
use Rattle.audit_site.specs.Findings.{rejected_in, IsShown, first_answer, answers_left, other_reasons_with, beside_left, AreModulesWith}
use Rattle.audit_site.proofs.Evaluations.{same_file}
use Rattle.audit_site.proofs.Judged.{of_records, reads_by, same_candidate}

abbrev Outcome : Type 0
Outcome = Result (FileRuns RequestReason) RequestReason

abbrev Runs : Type 0
Runs = FileRuns RequestReason

-- ---- what a module shows by itself

own_standings : (file : EvaluatedFile) (runs : Runs) (finding : ModuleFinding) → IsOfRuns file runs
    → (f : IsFindingOf file.unkept runs.first.records file.unlike finding) → AreOwnStandings runs f.0
own_standings file runs finding of (standings, are, by) =
    record {
      question = file.unkept;
      one_way = are.one_way;
      unlike = file.unlike;
      asks = of.unkept;
      returns = are.returns;
      steps = of.unlike;
      all = are.all;
    }

-- ---- answers

-- the answer of a module that stands by itself
own_answer : (ms : List Candidate) (own n : Candidate) (rest : List Candidate) (answers : List (Option Clash)) → own ≡ n → AreAnswers ms (own ∷ rest) answers
    → clashes.IsAnswer ms n (first_answer answers)
own_answer ms own n rest [] same h = absurd h
own_answer ms own n rest (answer ∷ answers) same h = subst (λ (c : Candidate). clashes.IsAnswer ms c answer) same h.0

none_other_reasons : (excluded : Bool) (answers : List (Option Clash)) → other_reasons_with (cond excluded (Decided Excluded) Open) answers ≡ []
none_other_reasons true answers = refl
none_other_reasons false answers = refl

stands_other_reasons : (ms : List Candidate) (m : SiteModule) (runs : Runs) (reads : List Text) (finding : ModuleFinding) (excluded : Bool) (standings other_reasons : List AuditStanding) (rest : List Candidate)
    (answers : List (Option Clash)) → reads ≡ without_repeats (reads_in runs)
    → IsFindingBy standings runs.first.records finding → AreAnswers ms (rejected_by m reads finding ++ rest) answers → other_reasons ≡ other_reasons_with (own_standing excluded finding) answers
    → HasOtherReason ms (candidate_of m runs) standings other_reasons
stands_other_reasons ms m runs reads (Refused refusal) excluded standings other_reasons rest answers texts by h e = absurd by
stands_other_reasons ms m runs reads (Stands first others records) excluded standings other_reasons rest answers texts by h e =
    subst (λ (l : List AuditStanding). HasOtherReason ms (candidate_of m runs) l other_reasons) (sym by.0) (
      first_answer answers,
      own_answer ms (candidate_with m (map record_view records.items) reads) (candidate_of m runs) rest answers (same_candidate m runs (map record_view records.items) reads by.1 texts) h,
      e,
    )
stands_other_reasons ms m runs reads (Consistent records) excluded standings other_reasons rest answers texts by h e =
    subst (λ (l : List AuditStanding). HasOtherReason ms (candidate_of m runs) l other_reasons) (sym by.0) (e ∙ none_other_reasons excluded answers)

-- the answers of those after this one
left_beside : (ms rest : List Candidate) (excluded : Bool) (answers : List (Option Clash)) → AreAnswers ms rest answers → AreAnswers ms rest (beside_left (cond excluded (Decided Excluded) Open) answers)
left_beside ms rest true answers h = h
left_beside ms rest false answers h = h

more_beside : (ms rest : List Candidate) (m : SiteModule) (reads : List Text) (finding : ModuleFinding) (excluded : Bool) (answers : List (Option Clash)) → AreAnswers ms (rejected_by m reads finding ++ rest) answers
    → AreAnswers ms rest (beside_left (own_standing excluded finding) answers)
more_beside ms rest m reads (Refused refusal) excluded answers h = h
more_beside ms rest m reads (Stands first other_reasons records) excluded [] h = absurd h
more_beside ms rest m reads (Stands first other_reasons records) excluded (answer ∷ answers) h = h.1
more_beside ms rest m reads (Consistent records) excluded answers h = left_beside ms rest excluded answers h

-- ---- module after module

one_other_reasons : (ms : List Candidate) (m : SiteModule) (outcome : Result EvaluatedFile Refusal) (reads : List Text) (out : Outcome) (finding : ModuleFinding) (excluded : Bool)
    (other_reasons : List AuditStanding) (rest : List Candidate) (answers : List (Option Clash)) → IsOutcome outcome out → reads ≡ without_repeats (reads_of (m, out)) → IsFinding outcome finding
    → AreAnswers ms (rejected_by m reads finding ++ rest) answers → other_reasons ≡ other_reasons_with (own_standing excluded finding) answers → HasOtherReasons ms (m, out) other_reasons
one_other_reasons ms m (Err refusal) reads out finding excluded other_reasons rest answers o texts f h e =
    subst (λ (x : Outcome). HasOtherReasons ms (m, x) other_reasons) (sym o.2)
    (e ∙ ap (λ (k : ModuleFinding). other_reasons_with (own_standing excluded k) answers) f)
one_other_reasons ms m (Ok file) reads out finding excluded other_reasons rest answers (runs, is, of) texts f h e =
    let g : IsFindingOf file.unkept runs.first.records file.unlike finding = of_records file runs finding of f in
    subst (λ (x : Outcome). HasOtherReasons ms (m, x) other_reasons) (sym is) (
      g.0,
      own_standings file runs finding of g,
      stands_other_reasons ms m runs reads finding excluded g.0 other_reasons rest answers (reads_by reads m out runs is texts) g.2 h e,
    )

-- each module has the other reasons that its first records and its reads show
pub all_other_reasons : (without : List Text) (ms : List Candidate) (shown : List Shown) (outs : List Evaluated) (answers beside : List (Option Clash)) (modules : List AuditedModule)
    → AreEvaluations (map (λ s. s.0) shown) outs → AllByRecursion IsShown shown
    → AreAnswers ms (flat_map rejected_in shown) beside → AreModulesWith (map (judged_of without) shown) answers beside modules
    → HaveOtherReasons ms outs modules
all_other_reasons without ms [] [] answers beside [] e r b k = tt
all_other_reasons without ms [] [] answers beside (x ∷ modules) e r b k = absurd k
all_other_reasons without ms [] (o ∷ outs) answers beside modules e r b k = absurd e
all_other_reasons without ms (s ∷ shown) [] answers beside modules e r b k = absurd e
all_other_reasons without ms (s ∷ shown) (o ∷ outs) answers beside [] e r b k = absurd k
all_other_reasons without ms ((e, finding) ∷ shown) ((m, out) ∷ outs) answers beside (x ∷ modules) (one, more) (right, rest) b (k, ks) =
    let excluded : Bool = is_excluded without (string_bytes e.name) in (
      subst (λ (n : SiteModule). HasOtherReasons ms (n, out) x.other_reasons.items) (sym (same_file e (m, out) one))
          (one_other_reasons ms (evaluated_file e) e.outcome (texts_in e.reads) out finding excluded x.other_reasons.items (flat_map rejected_in shown) beside one.outcome one.reads right b k.other_reasons),
      all_other_reasons without ms shown outs (answers_left (own_standing excluded finding) answers) (beside_left (own_standing excluded finding) beside) modules more rest
          (more_beside ms (flat_map rejected_in shown) (evaluated_file e) (reads_seen e) finding excluded beside b) ks,
    )
