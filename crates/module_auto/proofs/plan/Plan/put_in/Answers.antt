use Rattle.std.proofs.Common.{◌≡◌, true, false, [], ◌∷◌, ◌++◌, map, string_bytes, String, Option, inl, inr, refl, sym, ap, subst, ◌∙◌}
use Rattle.std.proofs.lemmas.Result.{err_from_is_err_and}
use Rattle.std.specs.Option.{option_map}
use Rattle.std.specs.declared.alloc.Global.{Global}
use Rattle.envvars.specs.Texts.{Text, texts_in}
use Rattle.filetree.specs.Agreement.{InEachPair}
use Rattle.filetree.proofs.FailedPaths.{fails_then}
use Rattle.search.specs.Answers.{is_failure}
use Rattle.shelltext.specs.declared.shell.Shell.{Shell}
use Rattle.requests.specs.Steps.{request_context_in}
use Rattle.modules.specs.Answers.{is_failure as refused}
use Rattle.modules.specs.declared.refusal.Refusal.TheVariants.{Find}
use Rattle.modules.proofs.FailureLemmas.{found_failure}
use Rattle.module_auto.specs.Adding.{is_spent}
use Rattle.module_auto.specs.Loads.{AnyLooksAt, FoundAmong}
use Rattle.module_auto.proofs.FindLemmas.{none_found, texts_insert, texts_push}
use Rattle.module_auto.proofs.plan.Plan.put_in.Goals as goal

pub returns-in_err-found-clause-failed : goal.returns-in_err-found-clause-failed
returns-in_err-found-clause-failed g c =
    let p = err_from_is_err_and c.from_residual.result c.from_residual.ensures.1 in
    let fault = c.in_err-found.field-0.0 in
    let before = g.T.Tree.failed c.args.tree.now in
    let Looks : Text → Type 0 = λ at.
    InEachPair (g.T.Tree.agrees c.first_found.new.tree) (λ files listings. (shell : Shell)
    → AnyLooksAt (request_context_in c.args.limits shell files listings) c.args.self.now.after (texts_in c.args.missing.names) at) in
    rw (p.1, p.2) (fails_then (is_failure fault) (refused (Find fault)) before before (g.T.Tree.failed c.first_found.new.tree) Looks Looks refl (found_failure fault) (λ at h. h)
    (rw c.as_slice.ensures.value at c.in_err-found.ensures.failed))

pub returns-in_default-clause-refused : goal.returns-in_default-clause-refused
returns-in_default-clause-refused g c =
    let found = rw c.as_slice.ensures.value at c.in_ok-found.ensures.found in (
      refl,
      λ files listings a shell.
          inl (none_found (request_context_in c.args.limits shell files listings) c.args.self.now.after (texts_in c.args.missing.names) c.in_ok-found.found c.in_default.not-Some (found files listings a shell)),
    )

pub returns-then-is_spent-clause-refused : goal.returns-then-is_spent-clause-refused
returns-then-is_spent-clause-refused g c =
    let found = rw c.as_slice.ensures.value at c.in_ok-found.ensures.found in
    let spent : is_spent (string_bytes c.in-Some.name) (texts_in c.args.self.now.added) ≡ true =
    sym (rw (c.as_str.ensures.value, c.as_slice-2.ensures.value) at c.is_spent.ensures) ∙ c.if-is_spent.true in (
      refl,
      λ files listings a shell.
          let s = request_context_in c.args.limits shell files listings in
          let Among : Option (String Global) → Type 0 = λ o. FoundAmong s c.args.self.now.after (texts_in c.args.missing.names) (option_map string_bytes o) in
          inr (string_bytes c.in-Some.name, subst Among c.in-Some.is (found files listings a shell), spent),
    )

pub returns-clause-advanced : goal.returns-clause-advanced
returns-clause-advanced g c =
    let found = rw c.as_slice.ensures.value at c.in_ok-found.ensures.found in
    let unspent : is_spent (string_bytes c.in-Some.name) (texts_in c.args.self.now.added) ≡ false =
    sym (rw (c.as_str.ensures.value, c.as_slice-2.ensures.value) at c.is_spent.ensures) ∙ c.if-is_spent.false in
    λ files listings a shell.
    let s = request_context_in c.args.limits shell files listings in
    let Among : Option (String Global) → Type 0 = λ o. FoundAmong s c.args.self.now.after (texts_in c.args.missing.names) (option_map string_bytes o) in
    record {
      needed = string_bytes c.in-Some.name;
      first = subst Among c.in-Some.is (found files listings a shell);
      unspent = unspent;
      added = ap (map (λ (y : String Global). string_bytes y)) c.in_ok-push.ensures.items ∙ (texts_push c.args.self.now.added.items c.in_ok-clone.field-0
          ∙ ap (λ (t : Text). texts_in c.args.self.now.added ++ t ∷ []) c.in_ok-clone.ensures.cases);
      names = ap (map (λ (y : String Global). string_bytes y)) c.in_ok-insert.ensures.items ∙ texts_insert c.args.self.now.names.items c.args.self.now.ready c.in-Some.name;
      ready = refl;
      after = refl;
    }
