-- The evaluations of a module's file have one outcome: so its records are one list, and what it reads is one set.
use Rattle.std.proofs.Common.{◌≡◌, true, List, [], ◌∷◌, Result, Ok, Err, refl, ap, sym, ◌∙◌, subst}
use Rattle.envvars.specs.Texts.{Text, has}
use Rattle.filetree.specs.Modulefiles.{script, modulefile}
use Rattle.filetree.specs.Relations.{Is, Then, IsOne, ◌>>◌}
use Rattle.filetree.proofs.OneOutcome.{one_is, one_then}
use Rattle.modulefile.specs.Records.{Record}
use Rattle.modulefile.specs.Answers.{FileContext}
use Rattle.modulefile.specs.Files.{Ran, RunsFile}
use Rattle.modulefile.specs.Laws as files
use Rattle.requests.specs.Refusals.{refused_as, RefusedAs}
use Rattle.requests.specs.Reasons.{RequestReason, file_refused}
use Rattle.requests.specs.Steps.{entries_of, script_at}
use Rattle.requests.proofs.Bound.{went_on}
use Rattle.audit_laws.specs.determinism.Contexts.{EvaluationContext, first_context, other_contexts, FileRuns, reads_in}
use Rattle.audit_laws.specs.site.Sites.{Site, SiteModule, over_site, context_in, EvaluatesBy, EvaluateBy, EvaluatesTo, HasDeterministicRecords, Reads}
use Rattle.audit_laws.proofs.site.Parts.{ran_ok, script_held}

-- the text that was evaluated, and its run in a context like this one in the environment at hand
pub record IsEvaluated (site : Site) (way : EvaluationContext) (m : SiteModule) (ran : Ran) : Type 0 where
  pub text : Text
  pub file : modulefile (site.files m.path) ≡ script text
  pub context : FileContext
  pub named : context.name ≡ m.name
  pub at_path : context.path ≡ m.path
  pub before : context.before ≡ site.env
  pub mode : context.mode ≡ way.mode
  pub in_switch : context.in_switch ≡ way.in_switch
  pub shell : context.shell ≡ way.shell
  pub loaded : context.loaded ≡ way.loaded
  pub runs : RunsFile site.limits context text (Ok ran)

pub evaluated : (site : Site) (way : EvaluationContext) (m : SiteModule) (ran : Ran) → EvaluatesBy site way m (Ok ran) → IsEvaluated site way m ran
evaluated site way m ran h =
    let xs = went_on (Is (entries_of site.env)) (λ ys. Is (script_at m.path (modulefile (site.files m.path))) >>
    (λ text. RefusedAs file_refused (RunsFile site.limits (context_in site way m) text))) ran h in
    let text = went_on (Is (script_at m.path (modulefile (site.files m.path))))
    (λ t. RefusedAs file_refused (RunsFile site.limits (context_in site way m) t)) ran xs.2 in
    record {
      text = text.0;
      file = script_held m.path text.0 (modulefile (site.files m.path)) text.1;
      context = context_in site way m;
      named = refl;
      at_path = refl;
      before = refl;
      mode = refl;
      in_switch = refl;
      shell = refl;
      loaded = refl;
      runs = ran_ok (over_site site) (context_in site way m) text.0 ran text.2;
    }

-- it has an outcome

abbrev IsSome : {A R : Type 0} → (Result A R → Type 0) → Type 0
IsSome {A} {R} P = (o : Result A R) × P o

some_after : {A B R : Type 0} (First : Result A R → Type 0) (Rest : A → Result B R → Type 0) (first : Result A R) → First first → ((x : A) → IsSome (Rest x)) → IsSome (Then First Rest)
some_after First Rest (Ok x) f all = let r = all x in (r.0, (Ok x, f, r.1))
some_after First Rest (Err reason) f all = (Err reason, (Err reason, f, refl))

some_by : files.SomeOutcome → (site : Site) (way : EvaluationContext) (m : SiteModule) → IsSome (EvaluatesBy site way m)
some_by runs site way m =
    some_after (Is (entries_of site.env)) _ (entries_of site.env) refl (λ xs.
    some_after (Is (script_at m.path (modulefile (site.files m.path)))) _ (script_at m.path (modulefile (site.files m.path))) refl (λ text.
    let o = runs site.limits (context_in site way m) text in
    (refused_as file_refused o.0, (o.0, o.1, refl))))

some_others : files.SomeOutcome → (site : Site) (m : SiteModule) (ways : List EvaluationContext) → (os : List (Result Ran RequestReason)) × EvaluateBy site m ways os
some_others runs site m [] = ([], tt)
some_others runs site m (way ∷ ways) =
    let o = some_by runs site way m in let rest = some_others runs site m ways in (o.0 ∷ rest.0, (o.1, rest.1))

some_whole : files.SomeOutcome → (site : Site) (m : SiteModule) (o : Result Ran RequestReason) → EvaluatesBy site first_context m o → IsSome (EvaluatesTo site m)
some_whole runs site m (Ok ran) h = let others = some_others runs site m (other_contexts ran.asked) in (Ok (record { first = ran; others = others.0 }), (h, others.1))
some_whole runs site m (Err reason) h = (Err reason, h)

pub some_outcome : files.SomeOutcome → (site : Site) (m : SiteModule) → IsSome (EvaluatesTo site m)
some_outcome runs site m = let o = some_by runs site first_context m in some_whole runs site m o.0 o.1

-- and one alone

one_refused_as : {A R S : Type 0} {f : R → S} {First : Result A R → Type 0} → IsOne First → IsOne (RefusedAs f First)
one_refused_as {f = f} u o p h k = h.2 ∙ (ap (refused_as f) (u h.0 k.0 h.1 k.1) ∙ sym k.2)

one_by : files.OneOutcome → (site : Site) (way : EvaluationContext) (m : SiteModule) → IsOne (EvaluatesBy site way m)
one_by one site way m =
    one_then (one_is (entries_of site.env)) (λ xs. one_then (one_is (script_at m.path (modulefile (site.files m.path)))) (λ text.
    one_refused_as {f = file_refused}
    {First = RunsFile site.limits (context_in site way m) text} (one site.limits (context_in site way m) text)))

one_others : files.OneOutcome → (site : Site) (m : SiteModule) (ways : List EvaluationContext) (os ps : List (Result Ran RequestReason)) → EvaluateBy site m ways os → EvaluateBy site m ways ps → os ≡ ps
one_others one site m [] [] [] h k = refl
one_others one site m [] [] (p ∷ ps) h k = absurd k
one_others one site m [] (o ∷ os) ps h k = absurd h
one_others one site m (way ∷ ways) [] ps h k = absurd h
one_others one site m (way ∷ ways) (o ∷ os) [] h k = absurd k
one_others one site m (way ∷ ways) (o ∷ os) (p ∷ ps) h k =
    let first = one_by one site way m o p h.0 k.0 in
    let rest = one_others one site m ways os ps h.1 k.1 in
    λ i. first i ∷ rest i

abbrev ran_or : Ran → Result Ran RequestReason → Ran
ran_or other (Ok ran) = ran
ran_or other (Err reason) = other

one_first : files.OneOutcome → (site : Site) (m : SiteModule) (ran other : Ran) → EvaluatesBy site first_context m (Ok ran) → EvaluatesBy site first_context m (Ok other) → ran ≡ other
one_first one site m ran other h k = ap (ran_or ran) (one_by one site first_context m (Ok ran) (Ok other) h k)

abbrev Outcome : Type 0
Outcome = Result (FileRuns RequestReason) RequestReason

whole : (runs more : FileRuns RequestReason) → runs.first ≡ more.first → runs.others ≡ more.others → runs ≡ more
whole runs more first others = λ i. record { first = first i; others = others i }

pub one_outcome : files.OneOutcome → (site : Site) (m : SiteModule) → IsOne (EvaluatesTo site m)
one_outcome one site m (Ok runs) (Ok more) h k =
    let first = one_first one site m runs.first more.first h.0 k.0 in
    let others = one_others one site m (other_contexts more.first.asked) runs.others more.others
    (subst (λ (ran : Ran). EvaluateBy site m (other_contexts ran.asked) runs.others) first h.1) k.1 in
    ap (λ (x : FileRuns RequestReason). Ok x) (whole runs more first others)
one_outcome one site m (Ok runs) (Err reason) h k =
    absurd (let q : Ok runs.first ≡ Err reason = one_by one site first_context m (Ok runs.first) (Err reason) h.0 k in cc)
one_outcome one site m (Err reason) (Ok more) h k =
    absurd (let q : Err reason ≡ Ok more.first = one_by one site first_context m (Err reason) (Ok more.first) h k.0 in cc)
one_outcome one site m (Err reason) (Err other) h k =
    let q : Err reason ≡ Err other = one_by one site first_context m (Err reason) (Err other) h k in cc

abbrev runs_or : FileRuns RequestReason → Outcome → FileRuns RequestReason
runs_or other (Ok runs) = runs
runs_or other (Err reason) = other

pub same_runs : files.OneOutcome → (site : Site) (m : SiteModule) (runs other : FileRuns RequestReason) → EvaluatesTo site m (Ok runs) → EvaluatesTo site m (Ok other) → other ≡ runs
same_runs one site m runs other h k = ap (runs_or runs) (one_outcome one site m (Ok other) (Ok runs) k h)

-- so deterministic modules have one list of records
pub one_list : files.OneOutcome → (site : Site) (m : SiteModule) (rs qs : List Record) → HasDeterministicRecords site m rs → HasDeterministicRecords site m qs → rs ≡ qs
one_list one site m rs qs p q =
    p.records
    ∙ (ap (λ (runs : FileRuns RequestReason). runs.first.records) (same_runs one site m q.runs p.runs q.evaluated p.evaluated) ∙ sym q.records)

-- and what is read is read by the evaluations at hand
pub read_by_runs : files.OneOutcome → (site : Site) (m : SiteModule) (runs : FileRuns RequestReason) (v : Text) → EvaluatesTo site m (Ok runs) → Reads site m v → has v (reads_in runs) ≡ true
read_by_runs one site m runs v h r =
    subst (λ (x : FileRuns RequestReason). has v (reads_in x) ≡ true) (same_runs one site m runs r.runs h r.evaluated) r.read
