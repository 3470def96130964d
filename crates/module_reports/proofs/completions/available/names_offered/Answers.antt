use Rattle.std.proofs.Common.{List, String, Global, map, string_bytes, ap, ◌∙◌}
use Rattle.envvars.specs.Texts.{texts_in}
use Rattle.module_reports.specs.completions.Names.{offered}
use Rattle.module_reports.proofs.completions.available.names_offered.Goals as goal

pub returns-clause-offered : goal.returns-clause-offered
returns-clause-offered g c = (
  texts_in c.in_ok-available.available,
  λ asked. c.in_ok-available.ensures.named,
  c.in_ok-offered-2.ensures ∙ ap (λ (l : List (String Global)). offered c.args.env.now (map (λ (s : String Global). string_bytes s) l) c.args.kinds.now) c.as_slice.ensures.value,
)
