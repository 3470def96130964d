use Rattle.std.proofs.lemmas.Str.Pattern.{contains_text}
use Rattle.module_reports.proofs.descriptions.MentionLemmas.{stands_by}
use Rattle.module_reports.proofs.descriptions.mentions.stands_in.Goals as goal

pub returns : goal.returns
returns c = stands_by c.contains.result c.args.text.now c.args.within.now (contains_text c.contains.result c.args.text.now c.args.within.now c.contains.ensures.cases)
