use Rattle.envvars.proofs.FieldLemmas.{distinct-from, len_is}
use Rattle.std.proofs.Common.{◌∙◌}
use Rattle.envvars.proofs.fields.are_distinct.Goals as goal

pub returns : goal.returns
returns c = distinct-from c.len.result c.in_ok-deduplicated.field-0.items c.args.texts.now c.in_ok-deduplicated.ensures (c.len.ensures ∙ len_is c.in_ok-deduplicated.field-0)
