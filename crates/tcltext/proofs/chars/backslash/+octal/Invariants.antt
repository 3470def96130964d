use Rattle.tcltext.proofs.chars.backslash.+octal.Given as goal

abbrev pub decreases-octal : goal.decreases-octal
decreases-octal l = l.digits
