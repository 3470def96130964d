-- Where a file failed, by its text.
use Rattle.std.proofs.Common.{◌≡◌, option_map, Option, Some, None, Result, Ok, Err, String, string_bytes, IfOk, inl, inr, refl, sym, subst, false}
use Rattle.std.specs.Prelude.{IfNone, IfSome, is_none}
use Rattle.std.specs.declared.alloc.Global.{Global}
use Rattle.envvars.specs.Texts.{Text, texts_in}
use Rattle.filetree.specs.Agreement.{Files, Listings, Narrows}
use Rattle.filetree.specs.Modulefiles.{modulefile}
use Rattle.filetree.specs.Relations.{Is}
use Rattle.modules.specs.transient_failures.Causes.{is_transient}
use Rattle.tclrules.specs.declared.outcome.FaultPlace.{FaultPlace}
use Rattle.modulefile.specs.Files.{FileReason, FileStop}
use Rattle.modules.specs.Answers.{StepAnswersOverTree, cause_of}
use Rattle.modulefile_run.specs.Running.{reason_of_file, stop_of, file_reason_of}
use Rattle.modulefile_run.specs.declared.run_fault.RunFault.{RunFault}
use Rattle.modulefile_run.specs.declared.run_fault.RefusedFile.{RefusedFile}
use Rattle.modules.specs.declared.refusal.Refusal.{Refusal}
use Rattle.modules.specs.declared.refusal.Refusal.TheVariants as refusals
use Rattle.requests.specs.Steps.{script_at}
use Rattle.module_explain.specs.Commands.{command_at}
use Rattle.module_explain.specs.Locations.{IsLocated, IsNoScript, IsNotLocated, IsThere}
use Rattle.module_explain.specs.Views.{IsFileOf}
use Rattle.module_explain.specs.declared.location.FileExplanation.{FileExplanation}
use Rattle.module_explain.proofs.AdviceLemmas.{reason_of}

-- what a read of the script answers, where it isn't given up
abbrev Reads : (Files → Listings → Type 0) → Type 0 → Text → Result (String Global) Refusal → Type 0
Reads agrees failed path result =
    StepAnswersOverTree agrees failed (λ (text : String Global). string_bytes text) result (λ files listings. Is (script_at path (modulefile (files path))))

pub script_read : (agrees : Files → Listings → Type 0) (failed : Type 0) (path : Text) (result : Result (String Global) Refusal) (text : String Global)
    → result ≡ Ok text → Reads agrees failed path result → IsThere agrees path (string_bytes text)
script_read agrees failed path result text is h = subst (λ (r : Result (String Global) Refusal). Reads agrees failed path r) is h

pub script_missed : (agrees : Files → Listings → Type 0) (failed : Type 0) (path : Text) (result : Result (String Global) Refusal) (refusal : Refusal)
    → result ≡ Err refusal → is_transient (cause_of refusal) ≡ false → Reads agrees failed path result → IsNoScript agrees path
script_missed agrees failed path result refusal is reason h =
    reason_of is_transient refl refl (cause_of refusal) failed _ reason (subst (λ (r : Result (String Global) Refusal). Reads agrees failed path r) is h)

-- ---- the reason of a file

-- what holds of the reason of each stop holds of the reason
by_stop : (o : Option FileStop) (make : FileStop → FileReason) (P : FileReason → Type 0) → ((stop : FileStop) → P (make stop)) → IfSome (option_map make o) P
by_stop None make P h = tt
by_stop (Some stop) make P h = h stop

module _ (agrees : Files → Listings → Type 0) (f : RunFault) where
  -- where it isn't known which file it is
  pub unnamed : f.file ≡ None → IfSome (file_reason_of f) (IsNotLocated agrees)
  unnamed is = subst (λ (o : Option RefusedFile). IfSome (option_map (reason_of_file o) (stop_of f.stop)) (IsNotLocated agrees)) (sym is)
      (by_stop (stop_of f.stop) (reason_of_file None) (IsNotLocated agrees) (λ stop. inl refl))

  module _ (file : RefusedFile) (is : f.file ≡ Some file) where
    of_file : (P : FileReason → Type 0) → ((stop : FileStop) → P (reason_of_file (Some file) stop)) → IfSome (file_reason_of f) P
    of_file P h = subst (λ (o : Option RefusedFile). IfSome (option_map (reason_of_file o) (stop_of f.stop)) P) (sym is)
        (by_stop (stop_of f.stop) (reason_of_file (Some file)) P h)

    -- where no command had begun
    pub unplaced : file.place ≡ None → IfSome (file_reason_of f) (IsNotLocated agrees)
    unplaced none = of_file (IsNotLocated agrees) (λ stop. inl none)

    -- where no script is there
    pub missing : (path : Text) → path ≡ string_bytes file.path → IsNoScript agrees path → IfSome (file_reason_of f) (IsNotLocated agrees)
    missing path same none = of_file (IsNotLocated agrees) (λ stop. inr (subst (λ (p : Text). IsNoScript agrees p) same none))

    -- where it failed
    pub located : (place : FaultPlace) (path text : Text) (x : FileExplanation) → file.place ≡ Some place → path ≡ string_bytes file.path
        → IsThere agrees path text → string_bytes x.module ≡ string_bytes file.name → string_bytes x.path ≡ string_bytes file.path
        → x.line ≡ place.line → string_bytes x.command ≡ command_at text place.innermost
        → texts_in x.messages ≡ texts_in file.messages → IfSome (file_reason_of f) (λ reason. IsLocated agrees reason x)
    located place path text x ended same there module_named path_named line_counted command_shown said_before =
        of_file (λ reason. IsLocated agrees reason x) (λ stop. record {
          module_named = module_named;
          path_named = path_named;
          place = place;
          ended = ended;
          text = text;
          there = subst (λ (p : Text). IsThere agrees p text) same there;
          line_counted = line_counted;
          command_shown = command_shown;
          said_before = said_before;
        })

-- ---- the same over fewer pairs of maps

module _ (before now : Files → Listings → Type 0) (narrows : Narrows before now) where
  located_later : (reason : FileReason) (x : FileExplanation) → IsLocated before reason x → IsLocated now reason x
  located_later reason x h = record {
    module_named = h.module_named;
    path_named = h.path_named;
    place = h.place;
    ended = h.ended;
    text = h.text;
    there = λ files listings a. h.there files listings (narrows files listings a);
    line_counted = h.line_counted;
    command_shown = h.command_shown;
    said_before = h.said_before;
  }

  not_located_later : (reason : FileReason) → IsNotLocated before reason → IsNotLocated now reason
  not_located_later reason (inl none) = inl none
  not_located_later reason (inr (why, h)) = inr (why, λ files listings a. h files listings (narrows files listings a))

  if_weaker : (o : Option FileReason) (P Q : FileReason → Type 0) → ((reason : FileReason) → P reason → Q reason) → IfSome o P → IfSome o Q
  if_weaker None P Q then h = tt
  if_weaker (Some reason) P Q then h = then reason h

  pub file_later : (refusal : Refusal) (o : Option FileExplanation) → IsFileOf before refusal o → IsFileOf now refusal o
  file_later (refusals.Run f) None (caused, h) = (caused, if_weaker (file_reason_of f) (IsNotLocated before) (IsNotLocated now) not_located_later h)
  file_later (refusals.Run f) (Some x) (caused, h) =
      (caused, if_weaker (file_reason_of f) (λ reason. IsLocated before reason x) (λ reason. IsLocated now reason x) (λ reason k. located_later reason x k) h)
  file_later refusals.OutOfMemory o h = h
  file_later (refusals.Find fault) o h = h
  file_later (refusals.Env fault) o h = h
  file_later refusals.BadArguments o h = h
  file_later (refusals.UnknownSubcommand word) o h = h
  file_later (refusals.ConflictWith name) o h = h
  file_later (refusals.PrereqMissing missing) o h = h
  file_later (refusals.StillNeededBy name) o h = h
  file_later (refusals.FileGone path) o h = h
  file_later (refusals.NotAModulefile path) o h = h

-- ---- the file of a fault, by what was said of it

pub file_of_fault : (agrees : Files → Listings → Type 0) (f : RunFault) (r : Result (Option FileExplanation) Refusal)
    → IfOk r (λ o. is_none (file_reason_of f) ≡ false)
    → IfOk r (λ o. IfSome o (λ x. IfSome (file_reason_of f) (λ reason. IsLocated agrees reason x)))
    → IfOk r (λ o. IfNone o (IfSome (file_reason_of f) (IsNotLocated agrees)))
    → IfOk r (IsFileOf agrees (refusals.Run f))
file_of_fault agrees f (Ok None) caused located none = (caused, none)
file_of_fault agrees f (Ok (Some x)) caused located none = (caused, located)
file_of_fault agrees f (Err e) caused located none = tt
