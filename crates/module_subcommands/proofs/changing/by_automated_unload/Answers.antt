use Rattle.std.proofs.Common.{◌<◌, map, string_bytes, String, sym, ap}
use Rattle.std.proofs.lemmas.Result.{err_from_is_err_and}
use Rattle.std.specs.declared.alloc.Global.{Global}
use Rattle.envstate.specs.loaded_list.LoadedEntries.{entry_view}
use Rattle.requests.specs.Steps.{consistent}
use Rattle.module_auto.specs.Answers.{Outcomes}
use Rattle.module_auto.specs.Unloads.{AutomaticUnload}
use Rattle.module_subcommands.specs.Automated.{UnloadStep}
use Rattle.module_subcommands.specs.Limits.{context}
use Rattle.module_subcommands.proofs.AutomatedLemmas.{unloads}
use Rattle.module_subcommands.proofs.ChangeLemmas.{fault_wider}
use Rattle.module_subcommands.proofs.changing.by_automated_unload.Goals as goal
use Rattle.std.proofs.Common.{List, Ok}
use Rattle.message.specs.Messages.{Text}

pub returns-in_err-answer-clause-refused : goal.returns-in_err-answer-clause-refused
returns-in_err-answer-clause-refused g c =
    let p = err_from_is_err_and c.from_residual-in_err-answer.result c.from_residual-in_err-answer.ensures.1 in
    let agrees = g.T.Tree.agrees c.unload_automatically.new.tree in
    let failed = g.T.Tree.failures c.args.tree.now < g.T.Tree.failures c.unload_automatically.new.tree in
    let names : List Text = map (λ (s : String Global). string_bytes s) c.args.names.now in
    let Comes : Outcomes = λ files listings. AutomaticUnload (context c.args.shell files listings) c.args.env.now names in
    rw (p.1, p.2) (fault_wider agrees agrees (λ files listings a. a) failed failed (λ q. q) c.args.shell c.args.env.now Comes (UnloadStep c.args.shell c.args.env.now names)
    (λ files listings o a k. (Ok (map entry_view c.in_ok-entries.entries.items), sym (ap consistent c.in_ok-entries.ensures), k)) c.in_err-answer.field-0.0 c.in_err-answer.ensures.refused)

pub returns-clause-unloads : goal.returns-clause-unloads
returns-clause-unloads g c =
    rw c.with_line.ensures (unloads (g.T.Tree.agrees c.unload_automatically.new.tree) c.args.shell c.args.env.now (map (λ (s : String Global). string_bytes s) c.args.names.now) c.in_ok-answer.answer
    c.in_ok-said.said c.in_ok-answer.ensures.changes (map entry_view c.in_ok-entries.entries.items) c.in_ok-entries.ensures c.in_ok-answer.ensures.unloaded c.in_ok-answer.ensures.needing
    c.in_ok-answer.ensures.names (rw c.as_slice.ensures.value at c.in_ok-said.ensures))
