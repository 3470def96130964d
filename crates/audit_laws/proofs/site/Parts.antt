-- Steps that went on, and the text of a module that was found.
use Rattle.std.proofs.Common.{◌≡◌, Ok, subst, sym}
use Rattle.modulename.specs.ModuleName.{Text}
use Rattle.envvars.specs.Environment.{Environment}
use Rattle.filetree.specs.Modulefiles.{FileContent, absent, no_cookie, not_utf8, script, modulefile}
use Rattle.lookup.specs.DefaultFileResults.{HasResult}
use Rattle.modulefile.specs.Answers.{FileContext}
use Rattle.modulefile.specs.Files.{Ran, RunsFile}
use Rattle.search.specs.Found.{FoundModule, Found}
use Rattle.requests.specs.Refusals.{RefusedAs}
use Rattle.requests.specs.Reasons.{missed, file_refused}
use Rattle.requests.specs.Steps.{RequestContext, Finds, modulepath, script_at}
use Rattle.requests.proofs.Bound.{ok_of_refused_as}
use Rattle.requests.proofs.FoundText.{found_text}

pub ran_ok : (s : RequestContext) (c : FileContext) (text : Text) (ran : Ran) → RefusedAs file_refused (RunsFile s.limits c text) (Ok ran) → RunsFile s.limits c text (Ok ran)
ran_ok s c text ran h = subst (RunsFile s.limits c text) (ok_of_refused_as file_refused h.0 ran (sym h.2)) h.1

-- files

pub script_held : (path text : Text) (held : FileContent) → Ok text ≡ script_at path held → held ≡ script text
script_held path text absent h = absurd (cc)
script_held path text no_cookie h = absurd (cc)
script_held path text not_utf8 h = absurd (cc)
script_held path text (script other) h = cc

pub found_script : (s : RequestContext) (e : Environment) (name : Text) (m : FoundModule) → Finds s e name (Ok m) → modulefile (s.files m.path) ≡ script m.text
found_script s e name m h =
    found_text (HasResult s.limits) s.files s.listings (modulepath e) name m
    (subst (Found (HasResult s.limits) s.files s.listings (modulepath e) name) (ok_of_refused_as missed h.0 m (sym h.2)) h.1)
