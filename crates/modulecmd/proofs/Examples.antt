-- What command lines ask for, written out by hand.
use Rattle.std.proofs.Common.{◌≡◌, [], ◌∷◌, Ok, Err, codes, refl}
use Rattle.shelltext.specs.declared.shell.Shell.TheVariants.{Sh, Bash, Zsh, Csh, Tcsh, Fish}
use Rattle.std.specs.Prelude.{Some}
use Rattle.requests.specs.Reasons.{bad_arguments, unknown_subcommand}
use Rattle.requests.specs.Requests.{load, unload, switch, purge, avail}
use Rattle.modulecmd.specs.Command.{command_of, unknown_shell, refused_for}

loads : command_of (codes "sh" ∷ codes "load" ∷ codes "foo/1.0" ∷ []) ≡ Ok (Sh, load (codes "foo/1.0" ∷ []))
loads = refl

removes : command_of (codes "zsh" ∷ codes "rm" ∷ codes "foo" ∷ []) ≡ Ok (Zsh, unload (codes "foo" ∷ []))
removes = refl

switches : command_of (codes "fish" ∷ codes "swap" ∷ codes "gcc/9" ∷ codes "gcc/10" ∷ []) ≡ Ok (Fish, switch (Some (codes "gcc/9")) (codes "gcc/10"))
switches = refl

purges : command_of (codes "csh" ∷ codes "purge" ∷ []) ≡ Ok (Csh, purge)
purges = refl

no_name_for_purge : command_of (codes "csh" ∷ codes "purge" ∷ codes "x" ∷ []) ≡ Err (refused_for bad_arguments)
no_name_for_purge = refl

lists_all : command_of (codes "bash" ∷ codes "avail" ∷ []) ≡ Ok (Bash, avail [])
lists_all = refl

no_words : command_of [] ≡ Err (refused_for bad_arguments)
no_words = refl

shell_alone : command_of (codes "sh" ∷ []) ≡ Err (refused_for bad_arguments)
shell_alone = refl

in_tcsh : command_of (codes "tcsh" ∷ codes "add" ∷ codes "foo/1.0" ∷ []) ≡ Ok (Tcsh, load (codes "foo/1.0" ∷ []))
in_tcsh = refl

no_shell : command_of (codes "elvish" ∷ []) ≡ Err (unknown_shell (codes "elvish"))
no_shell = refl

no_subcommand : command_of (codes "sh" ∷ codes "lod" ∷ codes "x" ∷ []) ≡ Err (refused_for (unknown_subcommand (codes "lod")))
no_subcommand = refl
