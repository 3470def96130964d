-- What `whatis` without names reports, and `keyword` (module(1)): of all modules that can be loaded, or of those whose
-- report mentions a text.
use Rattle.std.specs.Prelude.{◌≡◌, ◌⊎◌, ◌==◌, ℕ, Bool, false, List, [], ◌∷◌, map, flat_map, Option}
use Rattle.std.specs.List.{list_any}
use Rattle.std.specs.Option.{option_map}
use Rattle.envvars.specs.Texts.{Text}
use Rattle.envvars.specs.Environment.{Environment}
use Rattle.envvars.specs.Fields.{without_repeats}
use Rattle.filetree.specs.Agreement.{Files, Listings, InEachPair}
use Rattle.lookup.specs.DefaultFileResults.{HasResult}
use Rattle.lookup.specs.Lines.{Line, Available}
use Rattle.search.specs.Looked.{ListingLooksAt}
use Rattle.shelltext.specs.declared.shell.Shell.{Shell}
use Rattle.tclrules.specs.declared.limits.Limits.{Limits}
use Rattle.requests.specs.Requests.{Request, whatis}
use Rattle.requests.specs.Sessions.{IsResponse}
use Rattle.requests.specs.Steps.{RequestContext, modulepath, request_context_in}
use Rattle.requests.specs.Looked.{RequestLooksAt}
use Rattle.modules.specs.Messages.{number_of}
use Rattle.modules.specs.Responses.{response_of}
use Rattle.modules.specs.declared.sessions.Outcome.{Outcome}
use Rattle.modules.specs.declared.sessions.Outcome.TheVariants.{Accepted, Refused}
use Rattle.module_reports.specs.descriptions.Mentions.{in_small_letters}
use Rattle.module_reports.specs.descriptions.Written.{shown, left_lines}

-- the name of a module in a list of all
abbrev pub name_of : Line → Text
name_of line = line.1.0

-- These are the names of all modules along MODULEPATH, in the order of `avail`, each once.
abbrev pub AreAllNames : RequestContext → Environment → List Text → Type 0
AreAllNames s e names =
    (lines : List Line) × Available (HasResult s.limits) s.files s.listings (modulepath e) lines
    × (names ≡ without_repeats (map name_of lines))

-- the request `whatis NAME`
abbrev pub describing : Shell → Text → Request
describing shell name = (shell, whatis (name ∷ []))

-- Each name has the outcome of `whatis NAME` in the environment.
abbrev pub AreDescribed : RequestContext → Environment → List Text → List Outcome → Type 0
AreDescribed s e [] [] = Unit {0}
AreDescribed s e [] (outcome ∷ outcomes) = ⊥
AreDescribed s e (name ∷ names) [] = ⊥
AreDescribed s e (name ∷ names) (outcome ∷ outcomes) =
    IsResponse s e (whatis (name ∷ [])) (response_of e outcome) × AreDescribed s e names outcomes

-- The request of one of the names looks at this path.
abbrev pub OneLooksAt : RequestContext → Environment → List Text → Text → Type 0
OneLooksAt s e [] at = ⊥
OneLooksAt s e (name ∷ names) at = RequestLooksAt s e (whatis (name ∷ [])) at ⊎ OneLooksAt s e names at

-- A description looks at this path: the listing of all modules does, or one of their requests.
abbrev pub DescribingLooksAt : RequestContext → Environment → Text → Type 0
DescribingLooksAt s e at =
    ListingLooksAt (HasResult s.limits) s.files s.listings [] (modulepath e) at
    ⊎ ((names : List Text) × AreAllNames s e names × OneLooksAt s e names at)

-- the numbers of want of memory: in an evaluation, a request, the search
abbrev pub memory_numbers : List ℕ
memory_numbers = 11 ∷ 31 ∷ 41 ∷ []

-- given up for want of memory
abbrev pub is_want_of_memory : Outcome → Bool
is_want_of_memory (Accepted done) = false
is_want_of_memory (Refused refusal) = list_any (λ n. n == number_of refusal) memory_numbers

-- A description of all modules, or of those whose report mentions a text: `text` is what `whatis NAME` writes of each
-- of these, in order, and `left_out` has a line of each whose own `whatis NAME` is refused.
pub record IsDescription (agrees : Files → Listings → Type 0) (limits : Limits) (shell : Shell) (e : Environment)
    (sought : Option Text) (text left_out : Text) : Type 0 where
  pub names : List Text
  pub outcomes : List Outcome
  pub listed : InEachPair agrees (λ files listings. AreAllNames (request_context_in limits shell files listings) e names)
  pub described : InEachPair agrees (λ files listings.
      AreDescribed (request_context_in limits shell files listings) e names outcomes)
  pub remembered : list_any is_want_of_memory outcomes ≡ false
  pub shows : text ≡ flat_map (shown (option_map in_small_letters sought)) outcomes
  pub leaves_out : left_out ≡ left_lines names outcomes
