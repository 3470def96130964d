-- The requests of the program, as the definitions see them.
use Rattle.std.specs.Prelude.{List, map, string_bytes, String}
use Rattle.std.specs.Option.{option_map}
use Rattle.std.specs.declared.alloc.Global.{Global}
use Rattle.std.specs.declared.vec.Vec.{Vec}
use Rattle.envvars.specs.Texts.{Text}
use Rattle.requests.specs.declared.action.Action.{Action}
use Rattle.requests.specs.declared.action.Action.TheVariants as actions
use Rattle.requests.specs.declared.action.Request as code
use Rattle.requests.specs.Requests.{RequestedAction, Request, load, unload, switch, purge, list, avail, show, whatis}

-- the words, each by its bytes
abbrev pub texts_of : Vec (String Global) Global → List Text
texts_of words = map string_bytes words.items

-- what an action asks for
abbrev pub action_view : Action → RequestedAction
action_view (actions.Load names) = load (texts_of names)
action_view (actions.Unload names) = unload (texts_of names)
action_view (actions.Switch old new) = switch (option_map string_bytes old) (string_bytes new)
action_view actions.Purge = purge
action_view actions.List = list
action_view (actions.Avail texts) = avail (texts_of texts)
action_view (actions.Show names) = show (texts_of names)
action_view (actions.Whatis names) = whatis (texts_of names)

-- the request: its shell, and what it asks for
abbrev pub request_view : code.Request → Request
request_view request = (request.shell, action_view request.action)
