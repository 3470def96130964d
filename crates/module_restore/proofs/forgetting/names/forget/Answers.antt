use Rattle.std.proofs.Common.{◌<◌, List, map, refl, subst, string_bytes}
use Rattle.std.proofs.lemmas.Result.{err_from_is_err_and}
use Rattle.envvars.specs.Changes.{new_value_of, new_values_in}
use Rattle.envvars.specs.declared.change.Change.{Change}
use Rattle.filetree.proofs.FailedPaths.{only_if}
use Rattle.shelltext.specs.Printing.{IsPrintFault}
use Rattle.shelltext.specs.Reading.{TextSays}
use Rattle.module_restore.specs.forgetting.Forgets.{Forgetting}
use Rattle.module_restore.specs.forgetting.Views.{forgetting_in}
use Rattle.module_restore.proofs.forgetting.WayOutLemmas.{unprinted}
use Rattle.module_restore.proofs.forgetting.names.forget.Goals as goal

pub returns-in_err-names-clause-failed : goal.returns-in_err-names-clause-failed
returns-in_err-names-clause-failed g c = only_if _ _ _ _ (rw c.in_ok-after.ensures.ok at c.in_err-names.ensures.failed)

pub returns-in_err-text-clause-refused : goal.returns-in_err-text-clause-refused
returns-in_err-text-clause-refused g c =
    let p = err_from_is_err_and c.from_residual-in_err-text.result c.from_residual-in_err-text.ensures.1 in
    let d : Forgetting = forgetting_in c.forget_each.new.env c.in_ok-names.names in
    let fault = subst (λ (cs : List Change). IsPrintFault c.args.shell (map new_value_of cs) c.in_err-text.field-0.0) c.as_slice.ensures.value c.in_err-text.ensures.fault in
    rw (p.1, p.2) (unprinted (g.T.Tree.agrees c.forget_each.new.tree) (g.T.Tree.failures c.args.tree.now < g.T.Tree.failures c.forget_each.new.tree) c.args.shell c.args.settings_stay c.args.env.now _ d (rw c.in_ok-after.ensures.ok at c.in_ok-names.ensures.forgotten)
    (new_values_in c.in_ok-changes.changes) c.in_ok-changes.ensures.ok c.in_err-text.field-0.0 fault)

pub returns-clause-forgotten : goal.returns-clause-forgotten
returns-clause-forgotten g c =
    let d : Forgetting = forgetting_in c.forget_each.new.env c.in_ok-names.names in
    let says = subst (λ (cs : List Change). TextSays c.args.shell (string_bytes c.in_ok-text.text) (map new_value_of cs)) c.as_slice.ensures.value c.in_ok-text.ensures.text in
    (d, rw c.in_ok-after.ensures.ok at c.in_ok-names.ensures.forgotten, record { changes = new_values_in c.in_ok-changes.changes; exact = c.in_ok-changes.ensures.ok; says = says }, says, refl)
