-- The effect and the standard error of an answer, for the contracts of this crate's private functions.
use Rattle.std.specs.Prelude.{◌++◌, string_bytes}
use Rattle.std.specs.List.{flat_map}
use Rattle.envvars.specs.Environment.{Environment}
use Rattle.envvars.specs.Texts.{Text}
use Rattle.modules.specs.Replies.{changed_view}
use Rattle.modulecmd.specs.declared.command.PreparedCommand.{PreparedCommand}
use Rattle.modulecmd.specs.Command.{CommandResult}

-- the effect that the answer has in the environment
abbrev pub effect_in : Environment → PreparedCommand → CommandResult
effect_in e answer = (answer.shell, changed_view e answer.changed)

-- what is to go to standard error: the messages of modulefiles, and then the report
abbrev pub words_of : PreparedCommand → Text
words_of answer =
    flat_map (λ message. string_bytes message) answer.changed.done.messages.items
    ++ string_bytes answer.changed.done.report
