use Rattle.std.proofs.Common.{◌==◌, length, ap, ◌∙◌}
use Rattle.tcltext.specs.chars.Bytes.{is_literal}
use Rattle.tcltext.proofs.list.WriteLemmas.{no_more}
use Rattle.tcltext.proofs.list.write.are_literal.Goals as goal

pub returns : goal.returns
returns c = c.is_empty.ensures ∙ ap (λ ys. length ys == 0) c.split_run.ensures.rest ∙ no_more is_literal c.args.element.now
