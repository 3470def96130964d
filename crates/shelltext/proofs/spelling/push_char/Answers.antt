use Rattle.std.proofs.Common.{rules, sym}
use Rattle.shelltext.proofs.Bytes.{spell_char, spell_char_mark}
use Rattle.shelltext.proofs.spelling.push_char.Goals as goal

pub returns-then-is_special : goal.returns-then-is_special
returns-then-is_special c = rw (spell_char_mark c.args.family c.args.c (sym c.if-is_special.ensures)) (search rules)

pub returns-else-is_special : goal.returns-else-is_special
returns-else-is_special c = rw (spell_char c.args.family c.args.c (sym c.if-is_special.ensures)) (search rules)
