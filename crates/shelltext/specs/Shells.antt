-- The shells that text is printed for, and the families of those that read the same text (module(1); module-info shell
-- and shelltype of modulefile(5)).
use Rattle.std.specs.Prelude.{List, [], ◌∷◌, Option, bytes_eq, codes, find}
use Rattle.envvars.specs.Texts.{Text}
use Rattle.shelltext.specs.declared.shell.Shell.{Shell}
use Rattle.shelltext.specs.declared.shell.Shell.TheVariants.{Sh, Bash, Ksh, Zsh, Csh, Tcsh, Fish}
use Rattle.shelltext.specs.declared.family.Family.{Family}
use Rattle.shelltext.specs.declared.family.Family.TheVariants as families

-- the name of a shell
abbrev pub shell_name : Shell → Text
shell_name Sh = codes "sh"
shell_name Bash = codes "bash"
shell_name Ksh = codes "ksh"
shell_name Zsh = codes "zsh"
shell_name Csh = codes "csh"
shell_name Tcsh = codes "tcsh"
shell_name Fish = codes "fish"

-- all shells
abbrev pub all_shells : List Shell
all_shells = Sh ∷ Bash ∷ Ksh ∷ Zsh ∷ Csh ∷ Tcsh ∷ Fish ∷ []

-- the shell of this name, if there is one
abbrev pub shell_named : Text → Option Shell
shell_named word = find (λ shell. bytes_eq word (shell_name shell)) all_shells

-- the family of a shell: the shells that read the same text as it
abbrev pub family_of : Shell → Family
family_of Sh = families.Sh
family_of Bash = families.Sh
family_of Ksh = families.Sh
family_of Zsh = families.Sh
family_of Csh = families.Csh
family_of Tcsh = families.Csh
family_of Fish = families.Fish

-- the name of a family: that of its first shell
abbrev pub family_name : Family → Text
family_name families.Sh = codes "sh"
family_name families.Csh = codes "csh"
family_name families.Fish = codes "fish"

-- the name of a shell's family
abbrev pub shell_family_name : Shell → Text
shell_family_name shell = family_name (family_of shell)
