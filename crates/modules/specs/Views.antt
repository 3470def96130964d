-- What a request is run over and what it has done, as the definitions see these values of the program.
use Rattle.std.specs.Prelude.{string_bytes}
use Rattle.envvars.specs.Texts.{texts_in}
use Rattle.envvars.specs.Environment.{Environment}
use Rattle.filetree.specs.Agreement.{Files, Listings}
use Rattle.requests.specs.Steps as steps
use Rattle.requests.specs.Steps.{RequestContext, request_context_in}
use Rattle.modules.specs.declared.settings.EvaluationSettings.{EvaluationSettings}
use Rattle.modules.specs.declared.done.RequestResults.{RequestResults}
use Rattle.modules.specs.MoveViews.{moves_of}

-- what a request is run over
abbrev pub request_context_of : EvaluationSettings → Files → Listings → RequestContext
request_context_of settings files listings = request_context_in settings.limits settings.shell files listings

-- what was done, with what it made of the environment
abbrev pub done_view : RequestResults → Environment → steps.Done
done_view done env =
    record {
      env = env;
      moves = moves_of done.moves;
      messages = texts_in done.messages;
      report = string_bytes done.report;
    }
