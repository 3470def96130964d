use Rattle.std.proofs.Common.{ap, ◌∙◌, Bor}
use Rattle.terminal.specs.text.Shown.{Text}
use Rattle.module_explain.proofs.SemicolonLemmas.{stripped_or}
use Rattle.module_explain.proofs.shortened.without_semicolon.Goals as goal

pub returns : goal.returns
returns c = ap (λ (t : Bor Text). t.now) c.unwrap_or.ensures ∙ stripped_or c.args.text c.strip_suffix.result c.strip_suffix.ensures.cases
