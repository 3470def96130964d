use Rattle.std.proofs.Common.{true, false, sym, ◌∙◌}
use Rattle.process.proofs.NameLemmas.{named, unnamed}
use Rattle.process.proofs.not_utf8.as_name.Goals as goal

pub returns-in_default : goal.returns-in_default
returns-in_default c = unnamed c.args.bytes.now c.in_default.ensures.cases.0

pub returns-then-is_variable_name : goal.returns-then-is_variable_name
returns-then-is_variable_name c =
    named c.args.bytes.now c.in-Ok.name.now true c.in-Ok.ensures.cases.0 c.in-Ok.ensures.cases.1
    (sym c.if-is_variable_name.true ∙ c.is_variable_name.ensures)

pub returns-else-is_variable_name : goal.returns-else-is_variable_name
returns-else-is_variable_name c =
    named c.args.bytes.now c.in-Ok.name.now false c.in-Ok.ensures.cases.0 c.in-Ok.ensures.cases.1
    (sym c.if-is_variable_name.false ∙ c.is_variable_name.ensures)
