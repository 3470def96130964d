use Rattle.std.proofs.Common.{map, string_bytes, Ok, Err, IfSome, List, String, Global, refl, subst}
use Rattle.std.proofs.lemmas.Result.{err_from_is_err_and}
use Rattle.envvars.specs.Environment.{Environment}
use Rattle.envvars.specs.Texts.{Text}
use Rattle.modulefile.specs.Answers.{FileContext}
use Rattle.modulefile.specs.Files.{RunsFile}
use Rattle.modulefile_run.specs.Running.{ran_view, file_reason_of}
use Rattle.modules.proofs.StepLemmas.{run_refused}
use Rattle.audit_laws.specs.determinism.Contexts.{EvaluationContext}
use Rattle.audit_laws.specs.determinism.ContextViews.{context_view}
use Rattle.audit_site.specs.WalkParts.{site_context}
use Rattle.audit_site.proofs.scripts.run_script.Goals as goal

-- the context of a way with these names loaded
abbrev with_loaded : EvaluationContext → Text → Text → List (String Global) → Environment → FileContext
with_loaded way name path names e =
    record {
      mode = way.mode;
      in_switch = way.in_switch;
      name = name;
      path = path;
      shell = way.shell;
      typed = name;
      loaded = map string_bytes names;
      before = e;
    }

pub returns-in_err-run_file : goal.returns-in_err-run_file
returns-in_err-run_file c =
    let p = err_from_is_err_and c.from_residual.result c.from_residual.ensures.1 in
    let a = c.args.settings in
    let s = c.args.script in
    let way = context_view c.args.way.now in
    let fault = c.in_err-run_file.field-0.0 in
    rw (p.1, p.2) (run_refused (file_reason_of fault) (RunsFile a.limits (site_context way s.name.now s.path.now a.env.now) s.text.now)
    (subst (λ (l : List (String Global)). IfSome (file_reason_of fault)
    (λ stop. RunsFile a.limits (with_loaded way s.name.now s.path.now l a.env.now) s.text.now (Err stop)))
    c.as_slice.ensures.value
    (subst (λ (e : Environment). IfSome (file_reason_of fault)
    (λ stop. RunsFile a.limits (with_loaded way s.name.now s.path.now c.as_slice.result.now e) s.text.now (Err stop)))
    c.over-working.ensures.new c.in_err-run_file.ensures.runs.1)))

pub returns : goal.returns
returns c =
    let a = c.args.settings in
    let s = c.args.script in
    let way = context_view c.args.way.now in
    let ran = ran_view c.in_ok-run_file.field-0 c.run_file.new.env.new in (
      c.run_file.new.env.new,
      (
        Ok ran,
        subst (λ (l : List (String Global)). RunsFile a.limits (with_loaded way s.name.now s.path.now l a.env.now) s.text.now (Ok ran))
            c.as_slice.ensures.value
            (subst (λ (e : Environment). RunsFile a.limits (with_loaded way s.name.now s.path.now c.as_slice.result.now e) s.text.now (Ok ran))
            c.over-working.ensures.new c.in_ok-run_file.ensures.runs),
        refl,
      ),
    )
