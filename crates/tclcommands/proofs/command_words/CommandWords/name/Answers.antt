use Rattle.std.proofs.Common.{sym, ◌∙◌}
use Rattle.tclcommands.proofs.CommandWordLemmas.{name_at}
use Rattle.tclcommands.proofs.command_words.CommandWords.name.Goals as goal

pub returns : goal.returns
returns c = c.as_str.ensures.value ∙ sym (name_at c.args.self.words.now c.index-self-0.result c.args.self.not_empty)
