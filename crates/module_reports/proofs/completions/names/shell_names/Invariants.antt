use Rattle.std.proofs.Common.{◌≡◌, map, take}
use Rattle.envvars.specs.Texts.{texts_in}
use Rattle.shelltext.specs.Shells.{shell_name}
use Rattle.module_reports.proofs.completions.names.shell_names.Given as goal

abbrev pub invariant-loop-shell : goal.invariant-loop-shell
invariant-loop-shell l = texts_in l.names ≡ map shell_name (take l.shell-index l.shells)
