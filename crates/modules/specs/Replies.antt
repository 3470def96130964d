-- What an accepted request answers, as the definitions see it.
use Rattle.std.specs.Prelude.{string_bytes}
use Rattle.envvars.specs.Environment.{Environment}
use Rattle.envvars.specs.Texts.{texts_in}
use Rattle.envvars.specs.Changes.{applied, new_values_in}
use Rattle.modules.specs.MoveViews.{moves_of}
use Rattle.modules.specs.Views.{done_view}
use Rattle.modules.specs.declared.reply.RequestChanges.{RequestChanges}
use Rattle.modules.specs.declared.reply.Reply.{Reply}
use Rattle.requests.specs.Steps.{Done}

-- the environment with these changes made in it
abbrev pub changed_env : Environment → RequestChanges → Environment
changed_env e changed = applied (new_values_in changed.changes) e

-- what was done, with the environment that its changes make
abbrev pub changed_view : Environment → RequestChanges → Done
changed_view e changed = done_view changed.done (changed_env e changed)

-- what was done, with the environment that results
abbrev pub reply_view : Reply → Done
reply_view reply =
    record {
      env = reply.env;
      moves = moves_of reply.moves;
      messages = texts_in reply.messages;
      report = string_bytes reply.report;
    }
