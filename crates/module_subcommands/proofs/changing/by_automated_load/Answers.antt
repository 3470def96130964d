use Rattle.std.proofs.Common.{map, string_bytes, String}
use Rattle.std.specs.declared.alloc.Global.{Global}
use Rattle.module_subcommands.proofs.AutomatedLemmas.{loads}
use Rattle.module_subcommands.proofs.changing.by_automated_load.Goals as goal

pub returns-clause-loads : goal.returns-clause-loads
returns-clause-loads g c =
    rw c.with_line.ensures (loads (g.T.Tree.agrees c.load_automatically.new.tree) c.args.shell c.args.env.now (map (λ (s : String Global). string_bytes s) c.args.names.now) c.in_ok-answer.answer
    c.in_ok-said.said c.in_ok-answer.ensures.changes c.in_ok-answer.ensures.loaded c.in_ok-answer.ensures.named c.in_ok-said.ensures)
