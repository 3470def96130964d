-- The parts of an audit, by a walk over a site, are an audit of the site.
use Rattle.std.proofs.Common.{◌≡◌, List, map, filter, not, ap, sym, ◌∙◌, subst}
use Rattle.std.specs.Prelude.{flat_map}
use Rattle.envvars.specs.Texts.{Text, texts_in}
use Rattle.envvars.specs.Fields.{without_repeats}
use Rattle.modulefile.specs.Laws as files
use Rattle.reversal.specs.VariableUses.{UsedVariable}
use Rattle.audit_certificate.specs.RecordUses.{IsAmong}
use Rattle.audit_certificate.specs.Candidates.{Candidate, uses_of_all}
use Rattle.audit_certificate.specs.Steps.{is_consistent}
use Rattle.audit_certificate.specs.Certificates.{certified, certificate}
use Rattle.audit_certificate.specs.UseViews.{used_view}
use Rattle.audit_laws.specs.site.Sites.{Site, SiteModule, candidate_file, is_excluded, AreDeterministicModules, Evaluated, AreEvaluated}
use Rattle.audit_laws.specs.site.Sites.{deterministic_among, reads_of}
use Rattle.audit_laws.specs.site.Laws.{ModulesFound, DeterministicModulesFound, AreDeterministic, AuditsHold}
use Rattle.audit_certificate.specs.ClashAnswers.{AreAnswers, without_clashes}
use Rattle.audit_certificate.specs.EachOnce.{each_once}
use Rattle.audit_certificate.proofs.CertifiedOnes as ones
use Rattle.audit_certificate.proofs.Exact.{filtered}
use Rattle.audit_certificate.proofs.OnceLemmas.{in_once, of_once}
use Rattle.audit_site.specs.declared.walk.Evaluation.{Evaluation}
use Rattle.audit_site.specs.Walks.{IsWalk, AreEvaluations}
use Rattle.audit_site.specs.declared.auditing.AuditedModule.{AuditedModule}
use Rattle.audit_site.specs.Audits.{remaining, audited_file, AllStand, certified_files}
use Rattle.audit_site.specs.Audits.{HaveOtherReasons}
use Rattle.audit_site.specs.Findings.{Shown, judged_of, steps_in, rejected_in, AreModulesWith, AreStandings}
use Rattle.audit_site.specs.Folders.{AreBadDefaultFiles}
use Rattle.audit_site.specs.Parts.{PartsAreAudits}
use Rattle.audit_site.proofs.Judged.{steps_are, certified_are, all_stand, files_are, reads_are, certified_files_are}
use Rattle.audit_site.proofs.Evaluations.{same_files}
use Rattle.audit_site.proofs.OtherReasons.{all_other_reasons}
use Rattle.audit_site.proofs.Unknown.{mentioned_alike}
use Rattle.audit_site.proofs.UnreachableLemmas.{unreachable_alike}

-- what the laws say
pub record Laws : Type 0 where
  pub one : files.OneOutcome
  pub modules : ModulesFound
  pub deterministic : DeterministicModulesFound
  pub audits : AuditsHold

-- all modules of the site are evaluated
evaluated_all : Laws → (site : Site) (dirs : List Text) (outs : List Evaluated) → IsWalk site dirs outs → AreEvaluated site outs
evaluated_all laws site dirs outs w = record { modules = λ m. laws.modules site dirs (map (λ (o : Evaluated). o.0) outs) w.directories w.modules m; evaluated = w.evaluated }

-- how the modules stand
record AreJudgedRight (site : Site) (without : List Text) (ms : List Candidate) (outs : List Evaluated) (modules : List AuditedModule) (found : List UsedVariable) : Type 0 where
  files : map audited_file modules ≡ map (λ (o : Evaluated). o.0) outs
  reads : map (λ (m : AuditedModule). texts_in m.reads) modules ≡ map (λ (o : Evaluated). without_repeats (reads_of o)) outs
  standing : AllStand site without ms modules
  uses : found ≡ each_once (certificate ms)
  certain : certified_files modules ≡ map candidate_file (certified ms)
  other_reasons : HaveOtherReasons (filter is_consistent ms) outs modules

judged_right : (site : Site) (without : List Text) (es : List Evaluation) (outs : List Evaluated) (modules : List AuditedModule)
    (uses : List UsedVariable) → AreEvaluated site outs → AreEvaluations es outs → AreStandings without es modules uses
    → AreJudgedRight site without (remaining without (deterministic_among outs)) outs modules uses
judged_right site without es outs modules uses all h s =
    let shown : List Shown = s.by_themselves.shown in
    let ms : List Candidate = remaining without (deterministic_among outs) in
    let h' : AreEvaluations (map (λ (k : Shown). k.0) shown) outs = subst (λ (l : List Evaluation). AreEvaluations l outs) (sym s.by_themselves.evaluated) h in
    let steps : flat_map (steps_in without) shown ≡ filter is_consistent ms = steps_are without shown outs h' s.by_themselves.right in
    let step : s.consistent ≡ filter is_consistent ms = s.by_themselves.steps ∙ steps in
    let answers : AreAnswers (filter is_consistent ms) (filter is_consistent ms) s.answers = subst (λ (l : List Candidate). AreAnswers l l s.answers) step s.answered in
    let shown_answers : AreAnswers (filter is_consistent ms) (flat_map (steps_in without) shown) s.answers = subst (λ (l : List Candidate). AreAnswers (filter is_consistent ms) l s.answers) (sym steps) answers in
    let with_these : AreModulesWith (map (judged_of without) shown) s.answers s.beside modules = subst (λ js. AreModulesWith js s.answers s.beside modules) s.by_themselves.kept s.standings in
    let sure : without_clashes (filter is_consistent ms) s.answers ≡ certified ms = certified_are ms s.answers answers in
    let beside : AreAnswers (filter is_consistent ms) (flat_map rejected_in shown) s.beside = subst (λ (l : List Candidate). AreAnswers l (flat_map rejected_in shown) s.beside) step
    (subst (λ (l : List Candidate). AreAnswers s.consistent l s.beside) s.by_themselves.others s.answered_beside) in
    record {
      files = files_are without shown outs s.answers s.beside modules h' with_these;
      reads = reads_are without shown outs s.answers s.beside modules h' with_these;
      standing = all_stand site without outs shown outs s.answers s.beside modules h' s.by_themselves.right shown_answers (λ o a. (all.evaluated o a, a)) with_these;
      uses = s.certified ∙ ap (λ (l : List Candidate). each_once (uses_of_all l)) (ap (λ (l : List Candidate). without_clashes l s.answers) step ∙ sure);
      certain = certified_files_are without (filter is_consistent ms) shown s.answers s.beside modules s.by_themselves.right shown_answers with_these
          ∙ ap (map candidate_file) (ap (λ (l : List Candidate). without_clashes l s.answers) steps ∙ sure);
      other_reasons = all_other_reasons without (filter is_consistent ms) shown outs s.answers s.beside modules h' s.by_themselves.right beside with_these;
    }

-- those that remain are deterministic modules of the site
remain_deterministic : (site : Site) (without : List Text) (ms : List Candidate) → AreDeterministicModules site ms → AreDeterministic site (remaining without ms)
remain_deterministic site without ms all m a = (all m).0 (filtered (λ (k : Candidate). not (is_excluded without k.name)) ms m a).0

-- ---- the whole

pub parts_are_audits : Laws → PartsAreAudits
parts_are_audits laws site without walk found (outs, w, h) parts =
    let es : List Evaluation = walk.evaluations.items in
    let dirs : List Text = texts_in walk.directories in
    let all = evaluated_all laws site dirs outs w in
    let ms : List Candidate = remaining without (deterministic_among outs) in
    let deterministic = laws.deterministic site outs all in
    let fit : AreDeterministic site ms = remain_deterministic site without (deterministic_among outs) deterministic in
    let right = judged_right site without es outs found.modules.items (map used_view found.certificate.items) all h parts.standings in (
      record {
        dirs = dirs;
        outcomes = outs;
        walk = w;
        deterministic = deterministic;
        modules = right.files;
        reads = right.reads;
        standing = right.standing;
        certificate = right.uses;
        missing_directories = parts.missing_directories;
        other_reasons = right.other_reasons;
        unreachable = parts.unreachable ∙ unreachable_alike site es outs h;
        no_modulefiles = parts.no_modulefiles;
        unread_default_files = parts.unread;
        bad_default_files = subst (λ (l : List SiteModule). AreBadDefaultFiles site.limits site.files site.listings l (texts_in found.bad_default_files)) (same_files es outs h)
            parts.bad_default_files;
        unknown = parts.unknown_names ∙ mentioned_alike es outs h;
        agrees = parts.agrees;
        disagreements = parts.disagreements;
      },
      record {
        certain = certified ms;
        exact = sym right.certain;
        deterministic = λ m a. fit m (ones.is_certified ms m a).listed;
        uses = λ p. (
          (λ a. subst (IsAmong p) (sym right.uses) (in_once p (certificate ms) a)),
          (λ a. of_once p (certificate ms) (subst (IsAmong p) right.uses a)),
        );
        holds = laws.audits site ms (certified ms) fit (λ m a. ones.is_certified ms m a);
      },
    )
