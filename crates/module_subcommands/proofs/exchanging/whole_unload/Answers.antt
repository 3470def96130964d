use Rattle.std.proofs.Common.{◌<◌}
use Rattle.std.proofs.lemmas.Result.{err_from_is_err_and}
use Rattle.module_words.specs.function.Moved.{moved_view}
use Rattle.module_subcommands.proofs.ExchangeLemmas.{unload_refused, whole_unload}
use Rattle.module_subcommands.proofs.exchanging.whole_unload.Goals as goal

pub returns-in_err-automated-clause-refused : goal.returns-in_err-automated-clause-refused
returns-in_err-automated-clause-refused g c =
    let p = err_from_is_err_and c.from_residual-in_err-automated.result c.from_residual-in_err-automated.ensures.1 in
    rw (p.1, p.2) (unload_refused (g.T.Tree.agrees c.by_automated_unload.new.tree) (g.T.Tree.failures c.args.tree.now < g.T.Tree.failures c.by_automated_unload.new.tree) c.args.asking.now.shell
    c.args.asking.now.env (moved_view c.args.moved) c.in_err-automated.field-0.0 c.if-not-moved.false c.in_err-automated.ensures.refused)

pub returns-clause-whole : goal.returns-clause-whole
returns-clause-whole g c =
    rw c.with_others.ensures (whole_unload (g.T.Tree.agrees c.by_automated_unload.new.tree) (g.T.Tree.failures c.args.tree.now < g.T.Tree.failures c.by_automated_unload.new.tree)
    c.args.asking.now.shell c.args.asking.now.env (moved_view c.args.moved) c.in_ok-automated.automated c.if-not-moved.false c.in_ok-automated.ensures.unloads)
