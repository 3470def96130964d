use Rattle.tcltext.proofs.chars.backslash.+hexadecimal.Given as goal

abbrev pub decreases-hexadecimal : goal.decreases-hexadecimal
decreases-hexadecimal l = l.digits
