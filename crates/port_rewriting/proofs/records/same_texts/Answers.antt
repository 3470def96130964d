use Rattle.std.proofs.Common.{sym, ◌∙◌, string_bytes}
use Rattle.port_rewriting.proofs.Reading.{same_by}
use Rattle.port_rewriting.proofs.records.same_texts.Goals as goal

pub returns : goal.returns
returns c = λ t. same_by string_bytes c.args.one.now c.args.other.now (sym c.eq.ensures ∙ t)
