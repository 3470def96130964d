use Rattle.std.proofs.Common.{map, string_bytes, String, inl, ℕ, List, ◌++◌, ap, ◌∙◌}
use Rattle.std.proofs.lemmas.Result.{err_from_is_err_and}
use Rattle.std.specs.declared.alloc.Global.{Global}
use Rattle.envvars.specs.Changes.{new_values_in}
use Rattle.modulecmd.specs.Checking.{IsUnnamed, CheckLacksText}
use Rattle.modulecmd.specs.NotUtf8.{lines_of}
use Rattle.modulecmd.proofs.CommandLemmas.{unprinted}
use Rattle.modulecmd.proofs.CheckingLemmas.{input_fails, readable}
use Rattle.modulecmd.proofs.checking.answer_of.Goals as goal

pub returns-in_err-text-clause-refused : goal.returns-in_err-text-clause-refused
returns-in_err-text-clause-refused g c =
    let p = err_from_is_err_and c.from_residual-in_err-text.result c.from_residual-in_err-text.ensures.1 in
    let arguments = map (λ (s : String Global). string_bytes s) c.args.args.now in
    let input = g.R.Read.remaining c.args.input.now in
    let input' = g.R.Read.remaining c.read_input.new.input in
    let changes = new_values_in c.in_ok-difference.difference in
    rw (p.1, p.2) (inl (unprinted c.in_ok-shell.shell changes c.in_err-text.field-0.0 (IsUnnamed arguments input input')
    (CheckLacksText (g.T.Tree.agrees c.check.new.tree) (g.T.Tree.failures c.args.tree.now) (g.T.Tree.failures c.check.new.tree) c.args.env.now arguments input input') ⊥
    (λ name unsayable. (
      c.in_ok-shell.shell,
      c.in_ok-found.found,
      record {
        named = c.in_ok-shell.ensures.named;
        text = string_bytes c.in_ok-lines.lines;
        given = c.in_ok-lines.ensures.given;
        within = c.in_ok-lines.ensures.within;
        readable = readable c.in_ok-lines.lines;
        check = rw c.as_str.ensures.value at c.in_ok-found.ensures.checked;
      },
      (changes, c.in_ok-difference.ensures.ok, unsayable),
    ))
    (rw c.as_slice.ensures.value at c.in_err-text.ensures.fault)))

pub returns-clause-answered : goal.returns-clause-answered
returns-clause-answered g c = record {
  shell = c.in_ok-shell.shell;
  found = c.in_ok-found.found;
  checks = record {
    named = c.in_ok-shell.ensures.named;
    text = string_bytes c.in_ok-lines.lines;
    given = c.in_ok-lines.ensures.given;
    within = c.in_ok-lines.ensures.within;
    readable = readable c.in_ok-lines.lines;
    check = rw c.as_str.ensures.value at c.in_ok-found.ensures.checked;
  };
  says = record {
    changes = new_values_in c.in_ok-difference.difference;
    exact = c.in_ok-difference.ensures.ok;
    says = rw c.as_slice.ensures.value at c.in_ok-text.ensures.text;
  };
  report = c.in_ok-push_not_utf8.ensures ∙ ap (λ (l : List ℕ). l ++ lines_of (map (λ (s : String Global). string_bytes s) c.args.not_utf8.now)) c.in_ok-report.ensures;
  accepted = c.is_accepted.ensures;
}

pub returns-in_err-found-clause-failed : goal.returns-in_err-found-clause-failed
returns-in_err-found-clause-failed g c =
    input_fails _ _ _ _ (map (λ (s : String Global). string_bytes s) c.args.args.now) _ _ c.in_ok-shell.shell (string_bytes c.in_ok-lines.lines) c.in_ok-shell.ensures.named c.in_ok-lines.ensures.given
    (rw c.as_str.ensures.value at c.check.ensures.failed)

pub returns-in_err-difference-clause-failed : goal.returns-in_err-difference-clause-failed
returns-in_err-difference-clause-failed g c =
    input_fails _ _ _ _ (map (λ (s : String Global). string_bytes s) c.args.args.now) _ _ c.in_ok-shell.shell (string_bytes c.in_ok-lines.lines) c.in_ok-shell.ensures.named c.in_ok-lines.ensures.given
    (rw c.as_str.ensures.value at c.check.ensures.failed)

pub returns-in_err-text-clause-failed : goal.returns-in_err-text-clause-failed
returns-in_err-text-clause-failed g c =
    input_fails _ _ _ _ (map (λ (s : String Global). string_bytes s) c.args.args.now) _ _ c.in_ok-shell.shell (string_bytes c.in_ok-lines.lines) c.in_ok-shell.ensures.named c.in_ok-lines.ensures.given
    (rw c.as_str.ensures.value at c.check.ensures.failed)

pub returns-in_err-report-clause-failed : goal.returns-in_err-report-clause-failed
returns-in_err-report-clause-failed g c =
    input_fails _ _ _ _ (map (λ (s : String Global). string_bytes s) c.args.args.now) _ _ c.in_ok-shell.shell (string_bytes c.in_ok-lines.lines) c.in_ok-shell.ensures.named c.in_ok-lines.ensures.given
    (rw c.as_str.ensures.value at c.check.ensures.failed)

pub returns-in_err-push_not_utf8-clause-failed : goal.returns-in_err-push_not_utf8-clause-failed
returns-in_err-push_not_utf8-clause-failed g c =
    input_fails _ _ _ _ (map (λ (s : String Global). string_bytes s) c.args.args.now) _ _ c.in_ok-shell.shell (string_bytes c.in_ok-lines.lines) c.in_ok-shell.ensures.named c.in_ok-lines.ensures.given
    (rw c.as_str.ensures.value at c.check.ensures.failed)

pub returns-clause-failed : goal.returns-clause-failed
returns-clause-failed g c =
    input_fails _ _ _ _ (map (λ (s : String Global). string_bytes s) c.args.args.now) _ _ c.in_ok-shell.shell (string_bytes c.in_ok-lines.lines) c.in_ok-shell.ensures.named c.in_ok-lines.ensures.given
    (rw c.as_str.ensures.value at c.check.ensures.failed)
