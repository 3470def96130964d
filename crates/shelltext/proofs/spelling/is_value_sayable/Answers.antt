use Rattle.std.proofs.Common.{◌∙◌, ap, sym, not}
use Rattle.shelltext.specs.Reading.{is_unsayable}
use Rattle.shelltext.proofs.Values.{none}
use Rattle.shelltext.proofs.spelling.is_value_sayable.Goals as goal

pub returns : goal.returns
returns c = ap not c.has_unsayable.ensures ∙ sym (none (is_unsayable c.args.family) c.args.value.now)
