-- What `use` and `unuse` make of an environment: MODULEPATH holds this list, and nothing else differs.
use Rattle.std.specs.Prelude.{◌≡◌, List, if◌then◌else◌, Option, IfSome, Result, Ok, Err}
use Rattle.envvars.specs.Texts.{Text}
use Rattle.envvars.specs.Environment.{Environment, lookup, with_value}
use Rattle.envvars.specs.Fields.{text_of_elements}
use Rattle.envstate.specs.declared.paths.adding.End.{End}
use Rattle.module_words.specs.modulepath.ModulePaths.{modulepath, directories_in, used, unused, is_short}
use Rattle.module_words.specs.modulepath.Faults.{PathReason, too_long, reason_of}
use Rattle.module_words.specs.declared.modulepath.fault.ModulePathFault.{ModulePathFault}

-- the environment with MODULEPATH as this text
abbrev pub with_path : Environment → Option Text → Environment
with_path env text = with_value env modulepath text

-- the text, if a shell can hand it on
abbrev pub short : Option Text → Result (Option Text) PathReason
short text = if is_short text then Ok text else Err too_long

-- what `use` makes of the text of MODULEPATH with these absolute paths: the list, joined; no text where there is none
abbrev pub used_text : Option Text → End → List Text → Option Text → Result (Option Text) PathReason
used_text working end paths text = short (text_of_elements (used working end paths (directories_in text)))

-- what `unuse` makes of it
abbrev pub unused_text : Option Text → List Text → Option Text → Result (Option Text) PathReason
unused_text working paths text = Ok (text_of_elements (unused working paths (directories_in text)))

-- The result of an edit is that MODULEPATH has the text, and nothing else differs; or the reason why there is none, or
-- memory ran out, and the environment is as it was.
abbrev pub EditsPath : Result (Unit {0}) ModulePathFault → Environment → Environment
    → (Option Text → Result (Option Text) PathReason) → Type 0
EditsPath (Ok u) old new edit =
    (text : Option Text) × (edit (lookup old modulepath) ≡ Ok text) × (new ≡ with_path old text)
EditsPath (Err fault) old new edit =
    (new ≡ old) × IfSome (reason_of fault) (λ reason. edit (lookup old modulepath) ≡ Err reason)
