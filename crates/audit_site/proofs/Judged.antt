-- How modules stand by what each shows by itself, and by what is answered of clashes.
use Rattle.std.proofs.Common.{◌≡◌, inl, inr, Bool, true, false, cond, not, ◌&&◌, List, [], ◌∷◌, ◌++◌, map, filter, find}
use Rattle.std.proofs.Common.{Option, Some, None, Result, Ok, Err, String, Global, refl, ap, sym, ◌∙◌, subst}
use Rattle.std.specs.Prelude.{flat_map, is_none, string_bytes}
use Rattle.std.specs.declared.vec.Vec.{Vec}
use Rattle.std.specs.Option.{option_map}
use Rattle.std.specs.List.{list_all, cons_option, AllByRecursion}
use Rattle.std.proofs.lemmas.Bool.{and_parts, and_from}
use Rattle.envvars.specs.Texts.{Text, texts_in}
use Rattle.envvars.specs.Fields.{without_repeats}
use Rattle.modulefile.specs.RecordViews.{record_view}
use Rattle.modulefile.specs.declared.records.Record as code
use Rattle.modulefile_run.specs.declared.question.Question.{Question}
use Rattle.modulefile_run.specs.Questions.{question_view}
use Rattle.modulefile.specs.Records.{Record}
use Rattle.reversal.specs.VariableUses.{can_return}
use Rattle.requests.specs.Reasons.{RequestReason}
use Rattle.modules.specs.declared.refusal.Refusal.{Refusal}
use Rattle.audit_laws.specs.determinism.Contexts.{FileRuns, have_stable_answers, is_deterministic, reads_in}
use Rattle.audit_certificate.specs.RecordUses.{IsAmong}
use Rattle.audit_certificate.specs.Candidates.{Candidate, uses_of}
use Rattle.audit_certificate.specs.Steps.{are_consistent, is_consistent}
use Rattle.audit_certificate.specs.Certificates.{certified}
use Rattle.audit_certificate.proofs.UsedLemmas.{by_test, cons_first, cons_later}
use Rattle.audit_certificate.proofs.Exact.{consistent, in_filter}
use Rattle.audit_certificate.proofs.CertifiedOnes as ones
use Rattle.audit_certificate.proofs.Answered.{answered_none, answers_are}
use Rattle.audit_laws.specs.site.Sites.{Site, SiteModule, candidate_file, candidate_of, EvaluatesTo, is_excluded}
use Rattle.audit_laws.specs.site.Sites.{Evaluated, deterministic_of, deterministic_among, reads_of}
use Rattle.audit_laws.specs.site.Standings.{IsFirstUnkept, IsFirstOneWay}
use Rattle.audit_certificate.specs.ClashAnswers.{AreAnswers, without_clashes}
use Rattle.audit_certificate.specs.declared.answers.Clash.{Clash}
use Rattle.audit_site.specs.Walks.{uses_in, AreUsedTwice, IsOfRuns, IsOutcome, AreEvaluations}
use Rattle.audit_site.specs.declared.standing.AuditStanding.{AuditStanding}
use Rattle.audit_site.specs.declared.standing.AuditStanding.TheVariants as ways
use Rattle.audit_site.specs.declared.standing.AuditStanding.TheVariants.{Certified, Unstable, OneWay, Inconsistent, Excluded, Clashes}
use Rattle.audit_site.specs.declared.unlike.UnlikeUses.{UnlikeUses}
use Rattle.audit_site.specs.declared.auditing.AuditedModule.{AuditedModule}
use Rattle.audit_site.specs.declared.judgement.OwnStanding.{OwnStanding}
use Rattle.audit_site.specs.declared.judgement.OwnStanding.TheVariants.{Decided, Open}
use Rattle.audit_site.specs.declared.standing.ModuleFinding.{ModuleFinding}
use Rattle.audit_site.specs.declared.standing.ModuleFinding.TheVariants.{Refused, Stands, Consistent}
use Rattle.audit_site.specs.Audits.{remaining, StandsAs, audited_file, AllStand, is_certified, certified_files}
use Rattle.audit_site.specs.Audits.{listed, inconsistent_module}
use Rattle.audit_site.specs.DeterministicRuns.{evaluated_file, reads_seen}
use Rattle.audit_site.specs.declared.walk.EvaluatedFile.{EvaluatedFile}
use Rattle.audit_site.specs.declared.walk.Evaluation.{Evaluation}
use Rattle.audit_site.specs.Findings.{IsFindingOf, IsFinding, own_standing, candidate_with, steps_of}
use Rattle.audit_site.specs.Findings.{Shown, judged_of, steps_in, IsShown, first_answer, later_answers, standing_by, standing_with}
use Rattle.audit_site.specs.Findings.{answers_left, beside_left, IsModuleWith, AreModulesWith}
use Rattle.audit_site.proofs.Evaluations.{same_file}
use Rattle.audit_site.proofs.DeterministicFiles.{kept_same, used_twice, twice_not, stepping_by, uses_are}
use Rattle.audit_site.proofs.StandingLemmas.{not_found}

-- ---- tests

not_all : {X : Type 0} (q : X → Bool) (rs : List X) (r : X) → find (λ x. not (q x)) rs ≡ Some r → list_all q rs ≡ false
not_all q [] r e = absurd (cc)
not_all q (x ∷ rs) r e = by_test (q x) _ (λ t. rw t (not_all q rs r (rw t at e))) (λ f. rw f refl)

second_false : (a b : Bool) → b ≡ false → (a && b) ≡ false
second_false true b h = h
second_false false b h = refl

first_false : (a b : Bool) → a ≡ false → (a && b) ≡ false
first_false a b h = rw h refl

-- ---- which modules are consistent candidates

abbrev Outcome : Type 0
Outcome = Result (FileRuns RequestReason) RequestReason

abbrev Runs : Type 0
Runs = FileRuns RequestReason

-- those that remain and are consistent
abbrev stepping : List Text → List Candidate → List Candidate
stepping without ms = filter is_consistent (remaining without ms)

kept_step : (without : List Text) (n : Candidate) (rest : List Candidate) → is_excluded without n.name ≡ false → is_consistent n ≡ true → n ∷ stepping without rest ≡ stepping without (n ∷ rest)
kept_step without n rest o t = rw (o, t) refl

out_step : (without : List Text) (n : Candidate) (rest : List Candidate) → is_excluded without n.name ≡ true → stepping without rest ≡ stepping without (n ∷ rest)
out_step without n rest o = rw o refl

left_step : (without : List Text) (n : Candidate) (rest : List Candidate) → is_consistent n ≡ false → stepping without rest ≡ stepping without (n ∷ rest)
left_step without n rest f = by_test (is_excluded without n.name) _ (λ o. rw o refl) (λ o. rw (o, f) refl)

-- a consistent one, by whether it is excluded
by_excluded : (without : List Text) (n : Candidate) (rest : List Candidate) (excluded : Bool) → is_excluded without n.name ≡ excluded → is_consistent n ≡ true
    → cond excluded [] (n ∷ []) ++ stepping without rest ≡ stepping without (n ∷ rest)
by_excluded without n rest true o t = out_step without n rest o
by_excluded without n rest false o t = kept_step without n rest o t

-- a module of these runs, where whether it is deterministic is known
abbrev pub added_by : List Text → SiteModule → Runs → Bool → List Candidate → List Candidate
added_by without m runs deterministic rest = stepping without (cons_option (cond deterministic (Some (candidate_of m runs)) None) rest)

by_deterministic : (without : List Text) (m : SiteModule) (runs : Runs) (rest : List Candidate) (deterministic : Bool) → is_deterministic runs ≡ deterministic
    → added_by without m runs deterministic rest ≡ stepping without (cons_option (deterministic_of (m, Ok runs)) rest)
by_deterministic without m runs rest deterministic s = ap (λ (b : Bool). added_by without m runs b rest) (sym s)

-- ---- what a module shows by itself

-- it stands so first
abbrev pub StandsFirst : Option Question → List Record → Option UnlikeUses → AuditStanding → Type 0
StandsFirst unkept rs unlike Certified = ⊥
StandsFirst unkept rs unlike (Unstable first) = unkept ≡ Some first
StandsFirst unkept rs unlike (OneWay first) = (unkept ≡ None) × IsFirstOneWay rs (record_view first)
StandsFirst unkept rs unlike (Inconsistent v x y) =
    (unkept ≡ None) × (list_all can_return rs ≡ true) × (unlike ≡ Some (record { variable = v; one = x; other = y }))
StandsFirst unkept rs unlike Excluded = ⊥
StandsFirst unkept rs unlike (Clashes clash) = ⊥
StandsFirst unkept rs unlike (ways.Refused refusal) = ⊥

-- it stands in no way by itself
record ShowsNone (unkept : Option Question) (rs : List Record) (unlike : Option UnlikeUses) : Type 0 where
  kept : unkept ≡ None
  returns : list_all can_return rs ≡ true
  steps : unlike ≡ None

head_is : (x y : AuditStanding) (xs ys : List AuditStanding) → x ∷ xs ≡ y ∷ ys → x ≡ y
head_is x y xs ys e = cc

module _ (rs : List Record) where
  abbrev StandingsBy : Option Question → Option code.Record → Option UnlikeUses → List AuditStanding
  StandingsBy unkept one_way unlike = listed Unstable unkept ++ (listed OneWay one_way ++ listed inconsistent_module unlike)

  first_is : (unkept : Option Question) (one_way : Option code.Record) (unlike : Option UnlikeUses) (first : AuditStanding) (others : List AuditStanding)
      → option_map record_view one_way ≡ find (λ r. not (can_return r)) rs
      → StandingsBy unkept one_way unlike ≡ first ∷ others → StandsFirst unkept rs unlike first
  first_is (Some q) one_way unlike first others r e =
      subst (StandsFirst (Some q) rs unlike) (head_is (Unstable q) first (StandingsBy None one_way unlike) others e) refl
  first_is None (Some x) unlike first others r e =
      subst (StandsFirst None rs unlike) (head_is (OneWay x) first (StandingsBy None None unlike) others e) (refl, sym r)
  first_is None None (Some x) first others r e =
      subst (StandsFirst None rs (Some x)) (head_is (inconsistent_module x) first [] others e) (refl, not_found can_return rs (sym r), refl)
  first_is None None None first others r e = absurd (cc)

  none_is : (unkept : Option Question) (one_way : Option code.Record) (unlike : Option UnlikeUses)
      → option_map record_view one_way ≡ find (λ r. not (can_return r)) rs
      → StandingsBy unkept one_way unlike ≡ [] → ShowsNone unkept rs unlike
  none_is (Some q) one_way unlike r e = absurd (cc)
  none_is None (Some x) unlike r e = absurd (cc)
  none_is None None (Some x) r e = absurd (cc)
  none_is None None None r e = record { kept = refl; returns = not_found can_return rs (sym r); steps = refl }

pub shows_first : (unkept : Option Question) (rs : List Record) (unlike : Option UnlikeUses) (first : AuditStanding) (other_reasons : Vec AuditStanding Global)
    (records : Vec code.Record Global) → IsFindingOf unkept rs unlike (Stands first other_reasons records) → StandsFirst unkept rs unlike first
shows_first unkept rs unlike first other_reasons records (standings, are, by) =
    first_is rs unkept are.one_way unlike first other_reasons.items are.returns (sym are.all ∙ by.0)

shows_none : (unkept : Option Question) (rs : List Record) (unlike : Option UnlikeUses) (records : Vec code.Record Global)
    → IsFindingOf unkept rs unlike (Consistent records) → ShowsNone unkept rs unlike
shows_none unkept rs unlike records (standings, are, by) = none_is rs unkept are.one_way unlike are.returns (sym are.all ∙ by.0)

kept_by : (file : EvaluatedFile) (runs : Runs) → IsOfRuns file runs → file.unkept ≡ None → have_stable_answers runs ≡ true
kept_by file runs of e = sym (kept_same file runs of) ∙ ap (λ (o : Option Question). is_none o) e

unkept_by : (file : EvaluatedFile) (runs : Runs) (first : Question) → IsOfRuns file runs → file.unkept ≡ Some first → have_stable_answers runs ≡ false
unkept_by file runs first of e = sym (kept_same file runs of) ∙ ap (λ (o : Option Question). is_none o) e

deterministic_by : (file : EvaluatedFile) (runs : Runs) → IsOfRuns file runs → file.unkept ≡ None → list_all can_return runs.first.records ≡ true → is_deterministic runs ≡ true
deterministic_by file runs of k t = and_from _ _ (kept_by file runs of k) t

-- one that uses a variable in two ways isn't consistent
no_step : (m : SiteModule) (file : EvaluatedFile) (runs : Runs) (unlike : UnlikeUses) → IsOfRuns file runs → file.unkept ≡ None → file.unlike ≡ Some unlike → is_consistent (candidate_of m runs) ≡ false
no_step m file runs unlike of k e =
    let n : Candidate = candidate_of m runs in
    by_test (is_consistent n) _
    (λ t. absurd (twice_not (uses_in runs) _ _ _ (used_twice file runs unlike of e)
    (ap are_consistent (uses_are m runs (kept_by file runs of k)) ∙ (and_parts (list_all can_return n.records) (are_consistent (uses_of n)) t).1)))
    (λ f. f)

-- one that shows nothing is
is_step : (m : SiteModule) (file : EvaluatedFile) (runs : Runs) → IsOfRuns file runs → ShowsNone file.unkept runs.first.records file.unlike → is_consistent (candidate_of m runs) ≡ true
is_step m file runs of n =
    let c : Candidate = candidate_of m runs in
    and_from (list_all can_return c.records) (are_consistent (uses_of c)) n.returns
    (ap are_consistent (sym (uses_are m runs (kept_by file runs of n.kept))) ∙ stepping_by file runs of n.steps)

-- one that stands by itself is no consistent candidate
stands_step : (without : List Text) (m : SiteModule) (file : EvaluatedFile) (runs : Runs) (first : AuditStanding) (rest : List Candidate)
    → IsOfRuns file runs → StandsFirst file.unkept runs.first.records file.unlike first
    → stepping without rest ≡ stepping without (cons_option (deterministic_of (m, Ok runs)) rest)
stands_step without m file runs Certified rest of f = absurd f
stands_step without m file runs (Unstable first) rest of f = by_deterministic without m runs rest false (first_false _ _ (unkept_by file runs first of f))
stands_step without m file runs (OneWay first) rest of f =
    by_deterministic without m runs rest false (second_false _ _ (not_all can_return runs.first.records (record_view first) f.1))
stands_step without m file runs (Inconsistent v x y) rest of f =
    left_step without (candidate_of m runs) rest (no_step m file runs _ of f.0 f.2) ∙ by_deterministic without m runs rest true (deterministic_by file runs of f.0 f.1)
stands_step without m file runs Excluded rest of f = absurd f
stands_step without m file runs (Clashes clash) rest of f = absurd f
stands_step without m file runs (ways.Refused refusal) rest of f = absurd f

-- what the code has of a file, with the texts that it reads
pub record OfFile (file : EvaluatedFile) (reads : List Text) (runs : Runs) : Type 0 where
  pub of : IsOfRuns file runs
  pub texts : reads ≡ without_repeats (reads_in runs)

-- the candidate of the code is that of the definitions
pub same_candidate : (m : SiteModule) (runs : Runs) (rs : List Record) (reads : List Text) → rs ≡ runs.first.records → reads ≡ without_repeats (reads_in runs) → candidate_with m rs reads ≡ candidate_of m runs
same_candidate m runs rs reads e f = λ i. candidate_with m (e i) (f i)

-- what a file shows decides whether its module is a consistent candidate
file_step : (without : List Text) (m : SiteModule) (file : EvaluatedFile) (reads : List Text) (runs : Runs) (finding : ModuleFinding) (rest : List Candidate)
    → OfFile file reads runs → IsFindingOf file.unkept runs.first.records file.unlike finding
    → steps_of without m reads finding ++ stepping without rest ≡ stepping without (cons_option (deterministic_of (m, Ok runs)) rest)
file_step without m file reads runs (Refused refusal) rest o (standings, are, by) = absurd by
file_step without m file reads runs (Stands first other_reasons records) rest o f =
    stands_step without m file runs first rest o.of (shows_first file.unkept runs.first.records file.unlike first other_reasons records f)
file_step without m file reads runs (Consistent records) rest o f =
    let n = shows_none file.unkept runs.first.records file.unlike records f in
    ap (λ (c : Candidate). cond (is_excluded without m.name) [] (c ∷ []) ++ stepping without rest) (same_candidate m runs (map record_view records.items) reads f.2.1 o.texts)
    ∙ (by_excluded without (candidate_of m runs) rest (is_excluded without m.name) refl (is_step m file runs o.of n)
    ∙ by_deterministic without m runs rest true (deterministic_by file runs o.of n.kept n.returns))

-- the records of the code are those of the definitions
pub of_records : (file : EvaluatedFile) (runs : Runs) (finding : ModuleFinding) → IsOfRuns file runs → IsFindingOf file.unkept (map record_view file.records.items) file.unlike finding
    → IsFindingOf file.unkept runs.first.records file.unlike finding
of_records file runs finding of f = subst (λ (rs : List Record). IsFindingOf file.unkept rs file.unlike finding) of.records f

pub reads_by : (reads : List Text) (m : SiteModule) (out : Outcome) (runs : Runs) → out ≡ Ok runs → reads ≡ without_repeats (reads_of (m, out)) → reads ≡ without_repeats (reads_in runs)
reads_by reads m out runs same e = e ∙ ap (λ (x : Outcome). without_repeats (reads_of (m, x))) same

step_one : (without : List Text) (m : SiteModule) (outcome : Result EvaluatedFile Refusal) (reads : List Text) (out : Outcome) (finding : ModuleFinding) (rest : List Candidate)
    → IsOutcome outcome out → reads ≡ without_repeats (reads_of (m, out)) → IsFinding outcome finding
    → steps_of without m reads finding ++ stepping without rest ≡ stepping without (cons_option (deterministic_of (m, out)) rest)
step_one without m (Err refusal) reads out finding rest o texts f =
    ap (λ (k : ModuleFinding). steps_of without m reads k ++ stepping without rest) f
    ∙ ap (λ (x : Outcome). stepping without (cons_option (deterministic_of (m, x)) rest)) (sym o.2)
step_one without m (Ok file) reads out finding rest (runs, is, of) texts f =
    file_step without m file reads runs finding rest (record { of = of; texts = reads_by reads m out runs is texts }) (of_records file runs finding of f)
    ∙ ap (λ (x : Outcome). stepping without (cons_option (deterministic_of (m, x)) rest)) (sym is)

-- the consistent modules are the candidates that are
pub steps_are : (without : List Text) (shown : List Shown) (outs : List Evaluated) → AreEvaluations (map (λ s. s.0) shown) outs → AllByRecursion IsShown shown
    → flat_map (steps_in without) shown ≡ stepping without (deterministic_among outs)
steps_are without [] [] e h = refl
steps_are without [] (o ∷ outs) e h = absurd e
steps_are without (s ∷ shown) [] e h = absurd e
steps_are without ((e, finding) ∷ shown) ((m, out) ∷ outs) (one, more) (right, rest) =
    ap (λ (l : List Candidate). steps_of without (evaluated_file e) (reads_seen e) finding ++ l) (steps_are without shown outs more rest)
    ∙ (step_one without (evaluated_file e) e.outcome (texts_in e.reads) out finding (deterministic_among outs) one.outcome one.reads right
    ∙ ap (λ (k : SiteModule). stepping without (cons_option (deterministic_of (k, out)) (deterministic_among outs))) (sym (same_file e (m, out) one)))

-- a deterministic one of the outcomes is a candidate
pub is_candidate : (outs : List Evaluated) (o : Evaluated) (n : Candidate) → IsAmong o outs → deterministic_of o ≡ Some n → IsAmong n (deterministic_among outs)
is_candidate [] o n a e = absurd a
is_candidate (k ∷ outs) o n (inl same) e = cons_first n (deterministic_of k) (deterministic_among outs) (ap deterministic_of (sym same) ∙ e)
is_candidate (k ∷ outs) o n (inr a) e = cons_later n (deterministic_of k) (deterministic_among outs) (is_candidate outs o n a e)

-- ---- answers

abbrev in_step_of : List Candidate → List Candidate
in_step_of ms = filter is_consistent ms

pub certified_are : (ms : List Candidate) (answers : List (Option Clash)) → AreAnswers (in_step_of ms) (in_step_of ms) answers → without_clashes (in_step_of ms) answers ≡ certified ms
certified_are ms answers h = answers_are (in_step_of ms) (in_step_of ms) answers (λ m a. a) h

-- ---- standings

-- the answers of the modules after this one
left_by : (all more : List Candidate) (n : Candidate) (excluded : Bool) (answers : List (Option Clash)) → AreAnswers all (cond excluded [] (n ∷ []) ++ more) answers
    → AreAnswers all more (answers_left (cond excluded (Decided Excluded) Open) answers)
left_by all more n true answers h = h
left_by all more n false [] h = absurd h
left_by all more n false (answer ∷ answers) h = h.1

more_answers : (without : List Text) (all more : List Candidate) (m : SiteModule) (reads : List Text) (finding : ModuleFinding) (answers : List (Option Clash))
    → AreAnswers all (steps_of without m reads finding ++ more) answers
    → AreAnswers all more (answers_left (own_standing (is_excluded without m.name) finding) answers)
more_answers without all more m reads (Refused refusal) answers h = h
more_answers without all more m reads (Stands first other_reasons records) answers h = h
more_answers without all more m reads (Consistent records) answers h = left_by all more (candidate_with m (map record_view records.items) reads) (is_excluded without m.name) answers h

-- a deterministic module of the outcomes is one of those that remain, unless it is excluded
one_of_them : (without : List Text) (outs : List Evaluated) (m : SiteModule) (runs : Runs) → IsAmong (m, Ok runs) outs
    → is_deterministic runs ≡ true → is_excluded without m.name ≡ false → IsAmong (candidate_of m runs) (remaining without (deterministic_among outs))
one_of_them without outs m runs a deterministic o =
    let n : Candidate = candidate_of m runs in
    in_filter (λ (k : Candidate). not (is_excluded without k.name)) (deterministic_among outs) n (is_candidate outs (m, Ok runs) n a (ap (λ (b : Bool). cond b (Some n) None) deterministic)) (ap not o)

-- what is known of a deterministic module
record IsDeterministicOne (site : Site) (without : List Text) (ms : List Candidate) (m : SiteModule) (runs : Runs) : Type 0 where
  evaluated : EvaluatesTo site m (Ok runs)
  deterministic : is_deterministic runs ≡ true
  step : is_consistent (candidate_of m runs) ≡ true
  listed : is_excluded without m.name ≡ false → IsAmong (candidate_of m runs) ms

-- a consistent module by its answer
answered : (site : Site) (without : List Text) (ms : List Candidate) (m : SiteModule) (runs : Runs) (answers : List (Option Clash)) (more : List Candidate) → IsDeterministicOne site without ms m runs
    → is_excluded without m.name ≡ false → AreAnswers (in_step_of ms) (candidate_of m runs ∷ more) answers → StandsAs site without ms m (standing_by (first_answer answers))
answered site without ms m runs [] more p o h = absurd h
answered site without ms m runs (None ∷ answers) more p o h =
    let n : Candidate = candidate_of m runs in (runs, p.evaluated, p.deterministic, answered_none ms n (p.listed o) (consistent n p.step) h.0)
answered site without ms m runs (Some clash ∷ answers) more p o h =
    let n : Candidate = candidate_of m runs in
    let c = h.0.0 in (
      o,
      c.other,
      c.name,
      c.path,
      h.0.1,
      (runs, p.evaluated, p.deterministic, record { consistent = consistent n p.step; certain = ones.is_certified ms c.other c.listed; another = c.another; clash = c.clash }),
    )

-- the same, or excluded
answered_by : (site : Site) (without : List Text) (ms : List Candidate) (m : SiteModule) (runs : Runs) (excluded : Bool) (answers : List (Option Clash)) (more : List Candidate) → IsDeterministicOne site without ms m runs
    → is_excluded without m.name ≡ excluded
    → AreAnswers (in_step_of ms) (cond excluded [] (candidate_of m runs ∷ []) ++ more) answers
    → StandsAs site without ms m (standing_with (cond excluded (Decided Excluded) Open) answers)
answered_by site without ms m runs true answers more p o h = (o, (runs, p.evaluated, p.deterministic, consistent (candidate_of m runs) p.step))
answered_by site without ms m runs false answers more p o h = answered site without ms m runs answers more p o h

first_unkept : (file : EvaluatedFile) (runs : Runs) (first : Question) → IsOfRuns file runs → file.unkept ≡ Some first → IsFirstUnkept runs (question_view first)
first_unkept file runs first of e = sym of.unkept ∙ ap (option_map question_view) e

-- one that stands by itself
stands_first : (site : Site) (without : List Text) (ms : List Candidate) (m : SiteModule) (file : EvaluatedFile) (runs : Runs) (first : AuditStanding)
    → EvaluatesTo site m (Ok runs) → IsOfRuns file runs → StandsFirst file.unkept runs.first.records file.unlike first → StandsAs site without ms m first
stands_first site without ms m file runs Certified e of f = absurd f
stands_first site without ms m file runs (Unstable first) e of f = (runs, e, first_unkept file runs first of f)
stands_first site without ms m file runs (OneWay first) e of f = (runs, e, kept_by file runs of f.0, f.1)
stands_first site without ms m file runs (Inconsistent v x y) e of f =
    let unlike : UnlikeUses = record { variable = v; one = x; other = y } in (
      runs,
      e,
      deterministic_by file runs of f.0 f.1,
      subst (λ ps. AreUsedTwice ps unlike) (uses_are m runs (kept_by file runs of f.0)) (used_twice file runs unlike of f.2),
    )
stands_first site without ms m file runs Excluded e of f = absurd f
stands_first site without ms m file runs (Clashes clash) e of f = absurd f
stands_first site without ms m file runs (ways.Refused refusal) e of f = absurd f

stands_file : (site : Site) (without : List Text) (outs : List Evaluated) (m : SiteModule) (file : EvaluatedFile) (reads : List Text) (runs : Runs) (finding : ModuleFinding)
    (answers : List (Option Clash)) (more : List Candidate) → EvaluatesTo site m (Ok runs) → IsAmong (m, Ok runs) outs
    → OfFile file reads runs → IsFindingOf file.unkept runs.first.records file.unlike finding
    → AreAnswers (in_step_of (remaining without (deterministic_among outs))) (steps_of without m reads finding ++ more) answers
    → StandsAs site without (remaining without (deterministic_among outs)) m (standing_with (own_standing (is_excluded without m.name) finding) answers)
stands_file site without outs m file reads runs (Refused refusal) answers more e among o (standings, are, by) h = absurd by
stands_file site without outs m file reads runs (Stands first other_reasons records) answers more e among o f h =
    stands_first site without (remaining without (deterministic_among outs)) m file runs first e o.of (shows_first file.unkept runs.first.records file.unlike first other_reasons records f)
stands_file site without outs m file reads runs (Consistent records) answers more e among o f h =
    let ms : List Candidate = remaining without (deterministic_among outs) in
    let n = shows_none file.unkept runs.first.records file.unlike records f in
    let deterministic = deterministic_by file runs o.of n.kept n.returns in
    let p : IsDeterministicOne site without ms m runs = record {
      evaluated = e;
      deterministic = deterministic;
      step = is_step m file runs o.of n;
      listed = one_of_them without outs m runs among deterministic;
    } in
    answered_by site without ms m runs (is_excluded without m.name) answers more p refl
    (subst (λ (c : Candidate). AreAnswers (in_step_of ms) (cond (is_excluded without m.name) [] (c ∷ []) ++ more) answers)
    (same_candidate m runs (map record_view records.items) reads f.2.1 o.texts) h)

stands_one : (site : Site) (without : List Text) (outs : List Evaluated) (m : SiteModule) (outcome : Result EvaluatedFile Refusal) (reads : List Text)
    (out : Outcome) (finding : ModuleFinding) (answers : List (Option Clash)) (more : List Candidate)
    → IsOutcome outcome out → reads ≡ without_repeats (reads_of (m, out)) → IsFinding outcome finding → EvaluatesTo site m out → IsAmong (m, out) outs
    → AreAnswers (in_step_of (remaining without (deterministic_among outs))) (steps_of without m reads finding ++ more) answers
    → StandsAs site without (remaining without (deterministic_among outs)) m (standing_with (own_standing (is_excluded without m.name) finding) answers)
stands_one site without outs m (Err refusal) reads out finding answers more o texts f e among h =
    subst (λ (k : ModuleFinding). StandsAs site without (remaining without (deterministic_among outs)) m (standing_with (own_standing (is_excluded without m.name) k) answers)) (sym f)
    (o.0, o.1, subst (EvaluatesTo site m) o.2 e)
stands_one site without outs m (Ok file) reads out finding answers more (runs, is, of) texts f e among h =
    stands_file site without outs m file reads runs finding answers more (subst (EvaluatesTo site m) is e)
    (subst (λ (x : Outcome). IsAmong (m, x) outs) is among) (record { of = of; texts = reads_by reads m out runs is texts }) (of_records file runs finding of f) h

-- the file of a module is that of its evaluation
file_with : (without : List Text) (s : Shown) (answers beside : List (Option Clash)) (m : AuditedModule) → IsModuleWith (judged_of without s) answers beside m → audited_file m ≡ evaluated_file s.0
file_with without (e, finding) answers beside m k = λ i. record { name = string_bytes (k.name i); path = string_bytes (k.path i) }

-- each module stands so
pub all_stand : (site : Site) (without : List Text) (all : List Evaluated) (shown : List Shown) (outs : List Evaluated) (answers beside : List (Option Clash)) (modules : List AuditedModule)
    → AreEvaluations (map (λ s. s.0) shown) outs → AllByRecursion IsShown shown
    → AreAnswers (in_step_of (remaining without (deterministic_among all))) (flat_map (steps_in without) shown) answers → ((o : Evaluated) → IsAmong o outs → EvaluatesTo site o.0 o.1 × IsAmong o all)
    → AreModulesWith (map (judged_of without) shown) answers beside modules → AllStand site without (remaining without (deterministic_among all)) modules
all_stand site without all [] outs answers beside [] e h a each k = tt
all_stand site without all [] outs answers beside (x ∷ modules) e h a each k = absurd k
all_stand site without all (s ∷ shown) [] answers beside modules e h a each k = absurd e
all_stand site without all (s ∷ shown) (o ∷ outs) answers beside [] e h a each k = absurd k
all_stand site without all ((e, finding) ∷ shown) ((m, out) ∷ outs) answers beside (x ∷ modules) (one, more) (right, rest) a each (k, ks) =
    let ms : List Candidate = remaining without (deterministic_among all) in
    let file : m ≡ evaluated_file e = same_file e (m, out) one in
    let own = each (m, out) (inl refl) in
    let standing : OwnStanding = own_standing (is_excluded without (string_bytes e.name)) finding in
    let stands : StandsAs site without ms (evaluated_file e) (standing_with standing answers) =
    stands_one site without all (evaluated_file e) e.outcome (texts_in e.reads) out finding answers (flat_map (steps_in without) shown) one.outcome one.reads right
    (subst (λ (k : SiteModule). EvaluatesTo site k out) file own.0) (subst (λ (k : SiteModule). IsAmong (k, out) all) file own.1) a in (
      subst (λ (n : SiteModule). StandsAs site without ms n x.standing) (sym (file_with without (e, finding) answers beside x k))
          (subst (StandsAs site without ms (evaluated_file e)) (sym k.standing) stands),
      all_stand site without all shown outs (answers_left standing answers) (beside_left standing beside) modules more rest
          (more_answers without (in_step_of ms) (flat_map (steps_in without) shown) (evaluated_file e) (reads_seen e) finding answers a)
          (λ o b. each o (inr b)) ks,
    )

-- ---- the files of the modules

pub files_are : (without : List Text) (shown : List Shown) (outs : List Evaluated) (answers beside : List (Option Clash)) (modules : List AuditedModule) → AreEvaluations (map (λ s. s.0) shown) outs
    → AreModulesWith (map (judged_of without) shown) answers beside modules → map audited_file modules ≡ map (λ (o : Evaluated). o.0) outs
files_are without [] [] answers beside [] e k = refl
files_are without [] [] answers beside (x ∷ modules) e k = absurd k
files_are without [] (o ∷ outs) answers beside modules e k = absurd e
files_are without (s ∷ shown) [] answers beside modules e k = absurd e
files_are without (s ∷ shown) (o ∷ outs) answers beside [] e k = absurd k
files_are without ((e, finding) ∷ shown) ((m, out) ∷ outs) answers beside (x ∷ modules) (one, more) (k, ks) =
    let standing : OwnStanding = own_standing (is_excluded without (string_bytes e.name)) finding in
    let file : audited_file x ≡ m = file_with without (e, finding) answers beside x k ∙ sym (same_file e (m, out) one) in
    let rest : map audited_file modules ≡ map (λ (o : Evaluated). o.0) outs = files_are without shown outs (answers_left standing answers) (beside_left standing beside) modules more ks in
    λ i. file i ∷ rest i

-- and what they read

pub reads_are : (without : List Text) (shown : List Shown) (outs : List Evaluated) (answers beside : List (Option Clash)) (modules : List AuditedModule) → AreEvaluations (map (λ s. s.0) shown) outs
    → AreModulesWith (map (judged_of without) shown) answers beside modules
    → map (λ (m : AuditedModule). texts_in m.reads) modules ≡ map (λ (o : Evaluated). without_repeats (reads_of o)) outs
reads_are without [] [] answers beside [] e k = refl
reads_are without [] [] answers beside (x ∷ modules) e k = absurd k
reads_are without [] (o ∷ outs) answers beside modules e k = absurd e
reads_are without (s ∷ shown) [] answers beside modules e k = absurd e
reads_are without (s ∷ shown) (o ∷ outs) answers beside [] e k = absurd k
reads_are without ((e, finding) ∷ shown) ((m, out) ∷ outs) answers beside (x ∷ modules) (one, more) (k, ks) =
    let standing : OwnStanding = own_standing (is_excluded without (string_bytes e.name)) finding in
    let reads : texts_in x.reads ≡ without_repeats (reads_of (m, out)) = ap (λ (l : Vec (String Global) Global). texts_in l) k.reads ∙ one.reads in
    let rest : map (λ (m : AuditedModule). texts_in m.reads) modules ≡ map (λ (o : Evaluated). without_repeats (reads_of o)) outs =
    reads_are without shown outs (answers_left standing answers) (beside_left standing beside) modules more ks in
    λ i. reads i ∷ rest i

-- ---- the certified ones

-- one that stands by itself isn't certified
uncertified : (unkept : Option Question) (rs : List Record) (unlike : Option UnlikeUses) (first : AuditStanding) → StandsFirst unkept rs unlike first → is_certified first ≡ false
uncertified unkept rs unlike Certified f = absurd f
uncertified unkept rs unlike (Unstable first) f = refl
uncertified unkept rs unlike (OneWay first) f = refl
uncertified unkept rs unlike (Inconsistent v x y) f = refl
uncertified unkept rs unlike Excluded f = refl
uncertified unkept rs unlike (Clashes clash) f = refl
uncertified unkept rs unlike (ways.Refused refusal) f = refl

uncertified_by : (outcome : Result EvaluatedFile Refusal) (first : AuditStanding) (other_reasons : Vec AuditStanding Global) (records : Vec code.Record Global) → IsFinding outcome (Stands first other_reasons records)
    → is_certified first ≡ false
uncertified_by (Err refusal) first other_reasons records f = absurd (cc)
uncertified_by (Ok file) first other_reasons records f =
    uncertified file.unkept (map record_view file.records.items) file.unlike first (shows_first file.unkept (map record_view file.records.items) file.unlike first other_reasons records f)

not_listed : (x : AuditedModule) (modules : List AuditedModule) → is_certified x.standing ≡ false → certified_files (x ∷ modules) ≡ certified_files modules
not_listed x modules f = rw f refl

first_listed : (x : AuditedModule) (modules : List AuditedModule) → is_certified x.standing ≡ true → certified_files (x ∷ modules) ≡ audited_file x ∷ certified_files modules
first_listed x modules t = rw t refl

-- one for whom others decide, by whether it is excluded
by_left : (x : AuditedModule) (e : Evaluation) (n : Candidate) (excluded : Bool) (rest : List Candidate) (answers : List (Option Clash)) (all : List Candidate) (modules : List AuditedModule)
    → audited_file x ≡ evaluated_file e → candidate_file n ≡ evaluated_file e → x.standing ≡ standing_with (cond excluded (Decided Excluded) Open) answers → AreAnswers all (cond excluded [] (n ∷ []) ++ rest) answers
    → certified_files modules ≡ map candidate_file (without_clashes rest (answers_left (cond excluded (Decided Excluded) Open) answers))
    → certified_files (x ∷ modules) ≡ map candidate_file (without_clashes (cond excluded [] (n ∷ []) ++ rest) answers)
by_left x e n true rest answers all modules file same s a more = not_listed x modules (ap is_certified s) ∙ more
by_left x e n false rest [] all modules file same s a more = absurd a
by_left x e n false rest (None ∷ answers) all modules file same s a more =
    first_listed x modules (ap is_certified s) ∙ (λ i. (file ∙ sym same) i ∷ more i)
by_left x e n false rest (Some clash ∷ answers) all modules file same s a more = not_listed x modules (ap is_certified s) ∙ more

-- the certified ones are those whose answers are that they clash with none
pub certified_files_are : (without : List Text) (all : List Candidate) (shown : List Shown) (answers beside : List (Option Clash)) (modules : List AuditedModule) → AllByRecursion IsShown shown
    → AreAnswers all (flat_map (steps_in without) shown) answers → AreModulesWith (map (judged_of without) shown) answers beside modules
    → certified_files modules ≡ map candidate_file (without_clashes (flat_map (steps_in without) shown) answers)
certified_files_are without all [] answers beside [] h a k = refl
certified_files_are without all [] answers beside (x ∷ modules) h a k = absurd k
certified_files_are without all (s ∷ shown) answers beside [] h a k = absurd k
certified_files_are without all ((e, Refused refusal) ∷ shown) answers beside (x ∷ modules) (right, rest) a (k, ks) =
    not_listed x modules (ap is_certified k.standing) ∙ certified_files_are without all shown answers beside modules rest a ks
certified_files_are without all ((e, Stands first other_reasons records) ∷ shown) answers beside (x ∷ modules) (right, rest) a (k, ks) =
    not_listed x modules (ap is_certified k.standing ∙ uncertified_by e.outcome first other_reasons records right)
    ∙ certified_files_are without all shown answers (later_answers beside) modules rest a ks
certified_files_are without all ((e, Consistent records) ∷ shown) answers beside (x ∷ modules) (right, rest) a (k, ks) =
    let excluded : Bool = is_excluded without (string_bytes e.name) in
    by_left x e (candidate_with (evaluated_file e) (map record_view records.items) (reads_seen e)) excluded (flat_map (steps_in without) shown) answers all modules
    (file_with without (e, Consistent records) answers beside x k) refl k.standing a
    (certified_files_are without all shown (answers_left (own_standing excluded (Consistent records)) answers) (beside_left (own_standing excluded (Consistent records)) beside) modules rest
    (more_answers without all (flat_map (steps_in without) shown) (evaluated_file e) (reads_seen e) (Consistent records) answers a) ks)
