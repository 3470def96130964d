-- What an automated load loads (module(1), load --auto), over the files and directories of a tree.
use Rattle.std.specs.Prelude.{◌≡◌, ◌⊎◌, Bool, true, false, List, [], ◌∷◌, ◌++◌, All, Contains, Option}
use Rattle.std.specs.Prelude.{Some, None, Result, Ok, Err}
use Rattle.envvars.specs.Texts.{Text}
use Rattle.envvars.specs.Environment.{Environment}
use Rattle.search.specs.Found.{FoundModule}
use Rattle.requests.specs.Looked.{RequestLooksAt, SearchLooksAt}
use Rattle.requests.specs.Reasons.{RequestReason, prereq_missing}
use Rattle.requests.specs.Requests.{load}
use Rattle.requests.specs.Steps.{RequestContext, Done, RequestStep, Finds}
use Rattle.module_auto.specs.Adding.{is_spent}

-- The load of these names is accepted and makes this environment; without names it is the one at hand.
abbrev pub LoadsTo : RequestContext → Environment → List Text → Environment → Type 0
LoadsTo s e [] after = after ≡ e
LoadsTo s e (name ∷ names) after = (d : Done) × RequestStep s e (load (name ∷ names)) (Ok d) × (after ≡ d.env)

-- the search finds a module that the name means
abbrev pub IsFound : RequestContext → Environment → Text → Type 0
IsFound s e name = (found : FoundModule) × Finds s e name (Ok found)

-- it finds none
abbrev pub IsMissed : RequestContext → Environment → Text → Type 0
IsMissed s e name = (reason : RequestReason) × Finds s e name (Err reason)

-- Of these alternatives the search finds this one, and none before it.
pub record IsFirstFound (s : RequestContext) (e : Environment) (alternatives : List Text) (name : Text) : Type 0 where
  pub before : List Text
  pub after : List Text
  pub parted : alternatives ≡ before ++ name ∷ after
  pub missed : All (IsMissed s e) before
  pub found : IsFound s e name

-- The search finds this one of the alternatives first, or none of them.
abbrev pub FoundAmong : RequestContext → Environment → List Text → Option Text → Type 0
FoundAmong s e alternatives None = All (IsMissed s e) alternatives
FoundAmong s e alternatives (Some name) = IsFirstFound s e alternatives name

-- the search for one of the alternatives looks at this path
abbrev pub AnyLooksAt : RequestContext → Environment → List Text → Text → Type 0
AnyLooksAt s e alternatives at =
    (alternative : Text) × Contains alternatives alternative × SearchLooksAt s e alternative at

-- Where those in front can be loaded, and the name behind them is refused, since none of the alternatives of a prereq
-- is loaded.
pub record Lacks (s : RequestContext) (e : Environment) (front : List Text) (name : Text) (after : Environment)
    (alternatives : List Text) : Type 0 where
  pub loaded : LoadsTo s e front after
  pub refused : RequestStep s e (load (front ++ name ∷ [])) (Err (prereq_missing alternatives))

-- Behind those in front the name needs this one: it is the first that is found of the alternatives that it lacks.
pub record Needs (s : RequestContext) (e : Environment) (front : List Text) (name needed : Text) : Type 0 where
  pub after : Environment
  pub alternatives : List Text
  pub lacking : Lacks s e front name after alternatives
  pub first : IsFirstFound s after alternatives needed

-- The names that were asked for come to these, by putting in one name after another: each goes right before a name that
-- needs it there. The first list has those that were put in, in that order.
pub data Completes (s : RequestContext) (e : Environment) (asked : List Text) : List Text → List Text → Type 0 where
  as_asked : Completes s e asked [] asked
  with_needed : (added names front back : List Text) (name needed : Text) → Completes s e asked added names
      → names ≡ front ++ name ∷ back → Needs s e front name needed → is_spent needed added ≡ false
      → Completes s e asked (added ++ needed ∷ []) (front ++ needed ∷ name ∷ back)

-- Nothing is put in before the last of these names: none of the alternatives that it lacks is found, or the first that
-- is found isn't put in any more.
pub record IsStuck (s : RequestContext) (e : Environment) (added tried alternatives : List Text) : Type 0 where
  pub front : List Text
  pub name : Text
  pub last : tried ≡ front ++ name ∷ []
  pub after : Environment
  pub lacking : Lacks s e front name after alternatives
  pub unmet : All (IsMissed s after) alternatives
      ⊎ ((needed : Text) × IsFirstFound s after alternatives needed × (is_spent needed added ≡ true))

-- the reason is another one than that no alternative of a prereq is loaded, or nothing is put in for that
abbrev pub IsFinal : RequestContext → Environment → List Text → List Text → RequestReason → Type 0
IsFinal s e added tried (prereq_missing alternatives) = IsStuck s e added tried alternatives
IsFinal s e added tried _ = Unit {0}

-- Why an automated load is refused: of the names that it came to, the load of the first ones is, for this reason, and
-- nothing is put in for it.
pub record RefusesLoad (s : RequestContext) (e : Environment) (asked : List Text) (reason : RequestReason)
    : Type 0 where
  pub added : List Text
  pub tried : List Text
  pub rest : List Text
  pub completed : Completes s e asked added (tried ++ rest)
  pub refused : RequestStep s e (load tried) (Err reason)
  pub final : IsFinal s e added tried reason

-- What the load of names makes that complete those asked for, or why it is refused.
abbrev pub CompletedLoad : RequestContext → Environment → List Text → Result Done RequestReason → Type 0
CompletedLoad s e asked (Ok d) =
    (added : List Text) × (names : List Text) × Completes s e asked added names × RequestStep s e (load names) (Ok d)
CompletedLoad s e asked (Err reason) = RefusesLoad s e asked reason

-- the load of these names is refused, since none of the alternatives of a prereq is loaded
abbrev pub LacksOne : RequestContext → Environment → List Text → Type 0
LacksOne s e names = (alternatives : List Text) × RequestStep s e (load names) (Err (prereq_missing alternatives))

-- for another reason
abbrev pub is_other : RequestReason → Bool
is_other (prereq_missing alternatives) = false
is_other reason = true

abbrev pub IsRefusedElse : RequestContext → Environment → List Text → Result Done RequestReason → Type 0
IsRefusedElse s e names (Ok d) = ⊥
IsRefusedElse s e names (Err reason) = RequestStep s e (load names) (Err reason) × (is_other reason ≡ true)

-- The outcomes of an automated load: what the load of the names makes as they were asked for, or another reason for
-- which it is refused; where a prereq is missing, what comes of names that complete these.
abbrev pub AutomaticLoad : RequestContext → Environment → List Text → Result Done RequestReason → Type 0
AutomaticLoad s e asked o =
    ((d : Done) × RequestStep s e (load asked) (Ok d) × (o ≡ Ok d))
    ⊎ (IsRefusedElse s e asked o ⊎ (LacksOne s e asked × CompletedLoad s e asked o))

-- The names that are loaded, of which some were put in: those asked for where their load is accepted, and where a
-- prereq is missing names that complete these.
abbrev pub AutomaticNames : RequestContext → Environment → List Text → List Text → List Text → Type 0
AutomaticNames s e asked added names =
    ((d : Done) × RequestStep s e (load asked) (Ok d) × (added ≡ []) × (names ≡ asked))
    ⊎ (LacksOne s e asked × Completes s e asked added names)

-- the search for an alternative that the name lacks behind those in front looks at this path
abbrev pub NeedLooksAt : RequestContext → Environment → List Text → Text → Text → Type 0
NeedLooksAt s e front name at =
    (after : Environment) × (alternatives : List Text) × (alternative : Text)
    × Lacks s e front name after alternatives × Contains alternatives alternative × SearchLooksAt s after alternative at

-- An automated load looks at this path: the load of the first of the names that it came to does, or the search for what
-- the next one lacks.
abbrev pub AutomaticLoadLooksAt : RequestContext → Environment → List Text → Text → Type 0
AutomaticLoadLooksAt s e asked at =
    ((added : List Text) × (tried : List Text) × (rest : List Text) × Completes s e asked added (tried ++ rest)
    × RequestLooksAt s e (load tried) at)
    ⊎ ((added : List Text) × (front : List Text) × (rest : List Text) × (name : Text)
    × Completes s e asked added (front ++ name ∷ rest) × NeedLooksAt s e front name at)
