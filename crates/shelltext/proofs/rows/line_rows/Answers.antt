use Rattle.std.proofs.Common.{[], ◌∷◌, Some, codes, refl}
use Rattle.shelltext.specs.declared.shell.Shell.TheVariants.{Csh}
use Rattle.shelltext.proofs.Printed.{no_text}
use Rattle.shelltext.proofs.rows.line_rows.Goals as goal

pub returns-clause-nothing : goal.returns-clause-nothing
returns-clause-nothing c = refl

pub returns-clause-sh : goal.returns-clause-sh
returns-clause-sh c = (codes "unset FOO;\n", codes "unset N;\n", refl, refl, (codes "unset N;\n", [], refl, refl, refl, refl), refl)

pub returns-clause-csh : goal.returns-clause-csh
returns-clause-csh c = (codes "unsetenv FOO;\n", [], refl, refl, refl, refl)

pub returns-clause-fish : goal.returns-clause-fish
returns-clause-fish c = (codes "set -e FOO;\n", [], refl, refl, refl, refl)

pub returns-clause-csh_newline : goal.returns-clause-csh_newline
returns-clause-csh_newline c text h = no_text Csh ((codes "N", Some (codes "a\nb")) ∷ []) (codes "N", Some (codes "a\nb")) refl text h
