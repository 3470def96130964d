use Rattle.tcltext.proofs.list.ElementLemmas.{at_brace, at_quote, at_bare}
use Rattle.tcltext.proofs.list.read.read_element.Goals as goal

pub returns-in-Some : goal.returns-in-Some
returns-in-Some c = rw (at_brace c.args.text.now c.in-Some.inside.now c.in-Some.ensures) c.read_braced.ensures

pub returns-in-Some-after_mark : goal.returns-in-Some-after_mark
returns-in-Some-after_mark c = rw (at_quote c.args.text.now c.in-Some-after_mark.inside.now c.in-Some-after_mark.ensures) c.read_quoted.ensures

pub returns : goal.returns
returns c = rw (at_bare c.args.text.now c.in_default.ensures c.in_default-after_mark.ensures) c.read_piece.ensures
