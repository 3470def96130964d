-- What the code has of its arguments, in the definitions (own).
use Rattle.envvars.specs.Texts.{texts_in}
use Rattle.modaudit.specs.command.Arguments as arguments
use Rattle.modaudit.specs.declared.command.arguments.AuditArguments.{AuditArguments}
use Rattle.modaudit.specs.declared.command.arguments.PartedWords.{PartedWords}

-- what is asked for
abbrev pub wanted_view : AuditArguments → arguments.Wanted
wanted_view w =
    record {
      selection = w.selection;
      format = w.format;
      without = texts_in w.without;
      directories = texts_in w.directories;
    }

-- words in two lists
abbrev pub parted_view : PartedWords → arguments.PartedWords
parted_view p = record { without = texts_in p.without; others = texts_in p.others }
