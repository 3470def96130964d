use Rattle.std.proofs.Common.{◌<◌, map, string_bytes, String, length, arith}
use Rattle.std.proofs.lemmas.List.{length-map}
use Rattle.std.proofs.lemmas.Result.{err_from_is_err_and}
use Rattle.std.specs.declared.alloc.Global.{Global}
use Rattle.module_words.specs.function.Moved.{moved_view}
use Rattle.module_subcommands.proofs.ExchangeLemmas.{load_refused, whole_load}
use Rattle.module_subcommands.proofs.exchanging.whole_load.Goals as goal

pub returns-in_err-automated-clause-refused : goal.returns-in_err-automated-clause-refused
returns-in_err-automated-clause-refused g c =
    let p = err_from_is_err_and c.from_residual-in_err-automated.result c.from_residual-in_err-automated.ensures.1 in
    rw (p.1, p.2) (load_refused (g.T.Tree.agrees c.by_automated_load.new.tree) (g.T.Tree.failures c.args.tree.now < g.T.Tree.failures c.by_automated_load.new.tree) c.args.shell
    c.args.env.now (moved_view c.args.moved) c.in_err-automated.field-0.0 c.if-not-moved.false c.in_err-automated.ensures.refused)

pub returns-clause-whole : goal.returns-clause-whole
returns-clause-whole g c =
    let some : 0 < length (map (λ (s : String Global). string_bytes s) c.args.moved.names.now) =
    grind (arith, length-map c.args.moved.names.now (λ (s : String Global). string_bytes s), c.is_empty.ensures, c.if-is_empty.false) in
    rw c.with_others.ensures (whole_load (g.T.Tree.agrees c.by_automated_load.new.tree) (g.T.Tree.failures c.args.tree.now < g.T.Tree.failures c.by_automated_load.new.tree)
    c.args.shell c.args.env.now (moved_view c.args.moved) c.in_ok-automated.automated c.if-not-moved.false some c.in_ok-automated.ensures.loads)
