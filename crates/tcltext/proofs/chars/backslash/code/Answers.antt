use Rattle.tcltext.proofs.chars.BackslashLemmas.{within_none}
use Rattle.tcltext.proofs.chars.backslash.code.Goals as goal

pub hexadecimal-value-requires-clause-within : goal.hexadecimal-value-requires-clause-within
hexadecimal-value-requires-clause-within c = within_none c.args.digits c.requires.few
