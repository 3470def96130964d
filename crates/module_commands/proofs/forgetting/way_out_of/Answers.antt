use Rattle.std.proofs.Common.{sym, string_bytes, ◌∙◌}
use Rattle.envvars.specs.Texts.{texts_in}
use Rattle.module_commands.specs.Forgettings.{is_by_gone}
use Rattle.module_commands.proofs.ForgettingLemmas.{named}
use Rattle.module_commands.proofs.forgetting.way_out_of.Goals as goal

pub returns-in_ok-own_line-in-Some-clause-said : goal.returns-in_ok-own_line-in-Some-clause-said
returns-in_ok-own_line-in-Some-clause-said g c =
    let by_gone = sym c.is_by_gone.ensures ∙ c.if-not-is_by_gone.false in
    let way = rw c.in-Some.is at c.in_ok-names.ensures.accepted in
    let is = rw (c.in_ok-line-in-Some.ensures, c.as_slice.ensures.value) at c.in_ok-own_line-in-Some.ensures in
    named (g.T.Tree.agrees c.way_out.new.tree) c.args.asking.now (is_by_gone c.args.refusal.now) (texts_in c.in-Some.names) (string_bytes c.in_ok-own_line-in-Some.field-0) by_gone way is
