-- What an automated unload unloads (module(1), unload --auto), over the files and directories of a tree.
use Rattle.std.specs.Prelude.{◌≡◌, true, List, [], ◌∷◌, Result, Ok, Err}
use Rattle.envvars.specs.Texts.{Text}
use Rattle.envvars.specs.Environment.{Environment}
use Rattle.requests.specs.Looked.{RequestLooksAt}
use Rattle.requests.specs.Reasons.{RequestReason, still_needed_by}
use Rattle.requests.specs.Requests.{unload}
use Rattle.requests.specs.Steps.{RequestContext, Done, RequestStep}
use Rattle.module_auto.specs.Adding.{is_spent}

-- the names with these before them, each of which was put in front of all
abbrev pub in_front : List Text → List Text → List Text
in_front [] names = names
in_front (needing ∷ more) names = in_front more (needing ∷ names)

-- One after another these modules still need what is to be unloaded: the unload of the names with those before it in
-- front is refused because of it.
abbrev pub StillNeed : RequestContext → Environment → List Text → List Text → Type 0
StillNeed s e names [] = Unit {0}
StillNeed s e names (needing ∷ more) =
    RequestStep s e (unload names) (Err (still_needed_by needing)) × StillNeed s e (needing ∷ names) more

-- the reason is another one than that a module still needs something, or that module isn't put in any more
abbrev pub IsFinal : List Text → RequestReason → Type 0
IsFinal added (still_needed_by needing) = is_spent needing added ≡ true
IsFinal added _ = Unit {0}

-- Why an automated unload is refused: that of the names that it came to is, for this reason, and nothing is put in for
-- it.
pub record RefusesUnload (s : RequestContext) (e : Environment) (asked : List Text) (reason : RequestReason)
    : Type 0 where
  pub added : List Text
  pub needing : StillNeed s e asked added
  pub refused : RequestStep s e (unload (in_front added asked)) (Err reason)
  pub final : IsFinal added reason

-- The outcomes of an automated unload: what the unload of the names makes with those that still need something in
-- front, or why it is refused.
abbrev pub AutomaticUnload : RequestContext → Environment → List Text → Result Done RequestReason → Type 0
AutomaticUnload s e asked (Ok d) =
    (added : List Text) × StillNeed s e asked added × RequestStep s e (unload (in_front added asked)) (Ok d)
AutomaticUnload s e asked (Err reason) = RefusesUnload s e asked reason

-- An automated unload looks at this path: the unload of names that it came to does.
abbrev pub AutomaticUnloadLooksAt : RequestContext → Environment → List Text → Text → Type 0
AutomaticUnloadLooksAt s e asked at =
    (added : List Text) × StillNeed s e asked added × RequestLooksAt s e (unload (in_front added asked)) at
