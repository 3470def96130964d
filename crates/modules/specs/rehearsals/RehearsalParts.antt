-- What one request prints, for the contracts of this crate's private functions.
use Rattle.std.specs.Prelude.{ℕ, ◌≡◌, ◌≤◌, ◌+◌, List, map, Option, string_bytes}
use Rattle.std.specs.Option.{option_map}
use Rattle.std.specs.declared.alloc.Global.{Global}
use Rattle.std.specs.declared.string.String.{String}
use Rattle.envvars.specs.Texts.{Text}
use Rattle.envvars.specs.Environment.{Environment}
use Rattle.filetree.specs.Agreement.{Files, Listings, InEachPair}
use Rattle.shelltext.specs.declared.shell.Shell.{Shell}
use Rattle.tclrules.specs.declared.limits.Limits.{Limits}
use Rattle.requests.specs.Requests.{Request}
use Rattle.requests.specs.Sessions.{Response, IsResponse, env_after}
use Rattle.requests.specs.Steps.{request_context_in}
use Rattle.modules.specs.rehearsals.Rehearsals.{IsPrint, one_failed}

-- Over each pair of maps that agrees, a request has this response, this is printed for it, and the environment after it
-- is the new one.
pub record PrintsFor (agrees : Files → Listings → Type 0) (limits : Limits) (r : Request) (old new : Environment)
    (print : Option Text) (before after : ℕ) : Type 0 where
  pub response : Response
  pub answers : InEachPair agrees (λ files listings. IsResponse (request_context_in limits r.0 files listings) old r.1
      response)
  pub printed : InEachPair agrees (λ files listings. (shell : Shell)
      → IsPrint (request_context_in limits shell files listings) old r response print)
  pub end : new ≡ env_after old response
  pub failures : before + one_failed response ≤ after

-- a text, if any, as its bytes
abbrev pub print_view : Option (String Global) → Option Text
print_view text = option_map string_bytes text

-- the texts of all requests, as their bytes
abbrev pub prints : List (Option (String Global)) → List (Option Text)
prints texts = map print_view texts
