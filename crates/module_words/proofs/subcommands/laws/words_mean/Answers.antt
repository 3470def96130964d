use Rattle.std.proofs.Common.{refl}
use Rattle.module_words.specs.subcommands.Subcommands.{rows}
use Rattle.module_words.proofs.subcommands.laws.words_mean.Goals as goal

pub returns-clause-beginning : goal.returns-clause-beginning
unfolding rows
returns-clause-beginning c = refl

pub returns-clause-both_names : goal.returns-clause-both_names
unfolding rows
returns-clause-both_names c = refl

pub returns-clause-whole : goal.returns-clause-whole
unfolding rows
returns-clause-whole c = refl

pub returns-clause-shared : goal.returns-clause-shared
unfolding rows
returns-clause-shared c = refl

pub returns-clause-exchanged : goal.returns-clause-exchanged
unfolding rows
returns-clause-exchanged c = refl

pub returns-clause-left_out : goal.returns-clause-left_out
unfolding rows
returns-clause-left_out c = refl

pub returns-clause-another : goal.returns-clause-another
unfolding rows
returns-clause-another c = refl

pub returns-clause-option : goal.returns-clause-option
unfolding rows
returns-clause-option c = refl

pub returns-clause-nothing : goal.returns-clause-nothing
unfolding rows
returns-clause-nothing c = refl
