use Rattle.std.proofs.Common.{◌≡◌, ◌<◌, List, map, false, inr, subst, string_bytes, String, arith}
use Rattle.std.proofs.lemmas.Result.{err_from_is_err_and}
use Rattle.std.specs.declared.alloc.Global.{Global}
use Rattle.envvars.specs.Texts.{Text, texts_in}
use Rattle.envstate.specs.loaded_list.Loaded.{Entry}
use Rattle.envstate.specs.loaded_list.LoadedEntries.{entry_view}
use Rattle.envstate.specs.declared.loaded_list.entry.Loaded.{Loaded}
use Rattle.module_restore.specs.forgetting.Answers.{IsAnswer, IsForgetFault}
use Rattle.module_restore.specs.forgetting.Forgets.{gone}
use Rattle.module_restore.proofs.forgetting.WayOutLemmas.{fault_later, no_lists}
use Rattle.module_restore.proofs.forgetting.gone.way_out.Goals as goal

pub returns-in_err-entries-clause-refused : goal.returns-in_err-entries-clause-refused
returns-in_err-entries-clause-refused g c =
    let p = err_from_is_err_and c.from_residual.result c.from_residual.ensures.1 in
    let failures = g.T.Tree.failures c.args.tree.now in
    rw (p.1, p.2) (no_lists (g.T.Tree.agrees c.args.tree.now) (failures < failures) c.args.shell c.args.env.now c.in_err-entries.field-0.0 c.in_err-entries.ensures)

pub returns-in_err-forget-clause-refused : goal.returns-in_err-forget-clause-refused
returns-in_err-forget-clause-refused g c =
    let p = err_from_is_err_and c.from_residual-in_err-forget.result c.from_residual-in_err-forget.ensures.1 in
    let text : String Global → Text = λ s. string_bytes s in
    let entries : List Entry = map entry_view c.in_ok-entries.entries.items in
    let names : List Text = texts_in c.in_ok-names.names in
    let agrees = g.T.Tree.agrees c.forget.new.tree in
    let failures = g.T.Tree.failures in
    let fault = subst (λ (vs : List (String Global)). IsForgetFault agrees (failures c.gone.new.tree < failures c.forget.new.tree) c.args.shell false c.args.env.now (map text vs) c.in_err-forget.field-0.0) c.as_slice-2.ensures.value c.in_err-forget.ensures.refused in
    rw (p.1, p.2) (inr (
      names,
      (
        entries,
        c.in_ok-entries.ensures,
        λ files listings a.
            subst (λ (xs : List Loaded). names ≡ gone files (map entry_view xs)) c.as_slice.ensures.value
            (c.in_ok-names.ensures.gone files listings (c.in_err-forget.ensures.reads.narrows files listings a)),
      ),
      fault_later agrees (failures c.gone.new.tree < failures c.forget.new.tree) (failures c.args.tree.now < failures c.forget.new.tree) c.args.shell false c.args.env.now names
          (λ q. omega (arith, q, c.in_ok-names.ensures.reads.counts_failures)) c.in_err-forget.field-0.0 fault,
    ))

pub returns-clause-accepted : goal.returns-clause-accepted
returns-clause-accepted g c =
    let text : String Global → Text = λ s. string_bytes s in
    let entries : List Entry = map entry_view c.in_ok-entries.entries.items in
    let answer = subst (λ (vs : List (String Global)). IsAnswer (g.T.Tree.agrees c.forget.new.tree) c.args.shell false c.args.env.now (map text vs) c.in_ok-forget.field-0) c.as_slice-2.ensures.value c.in_ok-forget.ensures.forgotten in (
      (
        entries,
        c.in_ok-entries.ensures,
        λ files listings a.
            subst (λ (xs : List Loaded). texts_in c.in_ok-names.names ≡ gone files (map entry_view xs)) c.as_slice.ensures.value
            (c.in_ok-names.ensures.gone files listings (c.in_ok-forget.ensures.reads.narrows files listings a)),
      ),
      (c.in_ok-forget.field-0, answer),
    )
