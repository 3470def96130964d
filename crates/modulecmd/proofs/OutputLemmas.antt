-- What is written of an answer.
use Rattle.std.proofs.Common.{◌≡◌, ◌⊎◌, ◌++◌, List, [], ◌∷◌, map, string_bytes, Option, subst, ap, refl, inl, inr}
use Rattle.std.specs.List.{flat_map}
use Rattle.std.specs.Io.KnownBytes.{Keeps}
use Rattle.filetree.specs.Agreement.{Files, Listings}
use Rattle.envvars.specs.Texts.{Text}
use Rattle.envvars.specs.Environment.{Environment}
use Rattle.modulecmd.specs.declared.command_exit.Exit.{Exit}
use Rattle.modulecmd.specs.declared.command_exit.Exit.TheVariants.{Success, Reported, CutShort}
use Rattle.modulecmd.specs.declared.command_fault.CommandFault.TheVariants.{WriteFailed}
use Rattle.modulecmd.specs.declared.command.PreparedCommand.{PreparedCommand}
use Rattle.modulecmd.specs.Output.{BreaksOff, EndsCommand, FinishesWriting, IsPrepared, ResultRelation, WritesFault}
use Rattle.modulecmd.specs.Output.{standard_error_text}
use Rattle.modulecmd.specs.Words.{effect_in, words_of}
use Rattle.modulecmd.specs.Writing.{AppendsPart}

-- what is written where an answer's write failed
abbrev pub Half : Exit → Text → Text → Option Text → Option Text → Option Text → Option Text → Type 0
Half exit words text out out' err err' =
    (Keeps out out' × BreaksOff exit err err' words)
    ⊎ (AppendsPart out out' text × WritesFault exit err err' words WriteFailed)

no_success : (words text : Text) (out out' err err' : Option Text) → Half Success words text out out' err err' → ⊥
no_success words text out out' err err' (inl h) = h.1.2
no_success words text out out' err err' (inr h) = h.1

pub finishes : (exit : Exit) (words text : Text) (out out' err err' : Option Text) → Half exit words text out out' err err' → FinishesWriting exit words text out out' err err'
finishes Success words text out out' err err' h = absurd (no_success words text out out' err err' h)
finishes Reported words text out out' err err' h = h
finishes CutShort words text out out' err err' h = h

pub flat_map_map : {X Y Z : Type 0} (f : Y → List Z) (g : X → Y) (xs : List X) → flat_map (λ x. f (g x)) xs ≡ flat_map f (map g xs)
flat_map_map f g [] = refl
flat_map_map f g (x ∷ xs) = ap (λ zs. f (g x) ++ zs) (flat_map_map f g xs)

-- what the program writes is the text for standard error
pub words_are_standard_error : (e : Environment) (a : PreparedCommand) → words_of a ≡ standard_error_text (effect_in e a).1
words_are_standard_error e a = ap (λ zs. zs ++ string_bytes a.changed.done.report) (flat_map_map (λ message. message) string_bytes a.changed.done.messages.items)

-- the end of a command whose answer was written
pub answered : (exit : Exit) (agrees : Files → Listings → Type 0) (failed : Type 0) (e : Environment) (Does : ResultRelation) (a : PreparedCommand) (out out' err err' : Option Text)
    → IsPrepared agrees e Does (effect_in e a) (string_bytes a.text)
    → FinishesWriting exit (words_of a) (string_bytes a.text) out out' err err'
    → EndsCommand exit agrees failed e Does out out' err err'
answered exit agrees failed e Does a out out' err err' is h =
    let P : Text → Type 0 = λ words. FinishesWriting exit words (string_bytes a.text) out out' err err' in
    inl (effect_in e a, string_bytes a.text, is, subst P (words_are_standard_error e a) h)
