-- Edits, and what is printed of an answer.
use Rattle.std.proofs.Common.{◌≡◌, ℕ, true, false, List, [], String, ap, subst, ◌∙◌, Option, Ok}
use Rattle.std.specs.declared.alloc.Global.{Global}
use Rattle.std.specs.declared.vec.Vec.{Vec}
use Rattle.envvars.specs.Texts.{Text, texts_in}
use Rattle.envvars.specs.Environment.{Environment, lookup}
use Rattle.envvars.specs.Changes.{AreChanges, NewValue, new_values_in}
use Rattle.envvars.specs.declared.change.Change.{Change}
use Rattle.envstate.specs.declared.paths.adding.End.{End}
use Rattle.envstate.specs.declared.paths.adding.End.TheVariants.{Front}
use Rattle.shelltext.specs.declared.shell.Shell.{Shell}
use Rattle.module_words.specs.modulepath.Edits.{unused_text, used_text, with_path}
use Rattle.module_words.specs.modulepath.ModulePaths.{modulepath}
use Rattle.module_words.specs.modulepath.Words.{each, holdable, named}
use Rattle.module_words.specs.function.Answers.{Answer, Answered, makes, truth, made, unused, unused_by, used, used_at, with_these, without_these}
use Rattle.module_words.specs.function.Options.{words_to_unuse, words_to_use}
use Rattle.module_words.specs.function.Outputs.{IsCaused, IsOutput, status_of}
use Rattle.module_words.specs.function.Views.{IsAnswer, IsPrinted, IsUnprinted, added_in, status_in}
use Rattle.module_words.specs.declared.function.output_fault.OutputFault.TheVariants.{Unprinted}
use Rattle.shelltext.specs.declared.print.PrintFault.{PrintFault}
use Rattle.shelltext.specs.declared.print.PrintFault.TheVariants as prints
use Rattle.module_words.specs.declared.function.answer.Answer as code
use Rattle.module_words.specs.declared.function.answer.Answer.TheVariants as answers

-- the changes of a copy are those to the environment with this text
differs : (e old new o n : Environment) (changes : List NewValue) (text : Option Text) → n ≡ e → o ≡ e → new ≡ with_path n text → old ≡ o → AreChanges old new changes
    → AreChanges e (with_path e text) changes
differs e old new o n changes text fresh was is kept h =
    subst (λ x. AreChanges e (with_path x text) changes) fresh
    (subst (λ x. AreChanges e x changes) is (subst (λ x. AreChanges x new changes) (kept ∙ was) h))

pub unuse_made : (working : Option Text) (e : Environment) (words ws paths given : List Text) (o n old new : Environment) (changes : Vec Change Global) (added : Vec (String Global) Global) (text : Option Text)
    → words_to_unuse words ≡ Ok ws → each (named working) ws ≡ Ok paths → given ≡ paths → n ≡ e → o ≡ e
    → unused_text working given (lookup n modulepath) ≡ Ok text → new ≡ with_path n text → old ≡ o → AreChanges old new (new_values_in changes)
    → texts_in added ≡ [] → (b : Answer) × (unused working e words ≡ Ok b) × IsAnswer (answers.Changes changes added) b
unuse_made working e words ws paths given o n old new changes added text h k g fresh was edit is kept differ none =
    let edited : unused_text working paths (lookup e modulepath) ≡ Ok text =
    subst (λ x. unused_text working paths (lookup x modulepath) ≡ Ok text) fresh (subst (λ l. unused_text working l (lookup n modulepath) ≡ Ok text) g edit) in (
      makes e (with_path e text) [],
      ap (unused_by working e) h ∙ (ap (without_these working e) k ∙ ap (made e []) edited),
      (differs e old new o n (new_values_in changes) text fresh was is kept differ, none),
    )

pub use_made : (working : Option Text) (e : Environment) (end : End) (words ws paths given : List Text) (o n old new : Environment) (changes : Vec Change Global) (added : Vec (String Global) Global) (text : Option Text)
    → words_to_use Front words ≡ Ok (end, ws) → each (holdable working) ws ≡ Ok paths → given ≡ paths → n ≡ e → o ≡ e
    → used_text working end given (lookup n modulepath) ≡ Ok text → new ≡ with_path n text → old ≡ o → AreChanges old new (new_values_in changes)
    → texts_in added ≡ paths → (b : Answer) × (used working e words ≡ Ok b) × IsAnswer (answers.Changes changes added) b
use_made working e end words ws paths given o n old new changes added text h k g fresh was edit is kept differ told =
    let edited : used_text working end paths (lookup e modulepath) ≡ Ok text =
    subst (λ x. used_text working end paths (lookup x modulepath) ≡ Ok text) fresh (subst (λ l. used_text working end l (lookup n modulepath) ≡ Ok text) g edit) in (
      makes e (with_path e text) paths,
      ap (used_at working e) h ∙ (ap (with_these working e end) k ∙ ap (made e paths) edited),
      (differs e old new o n (new_values_in changes) text fresh was is kept differ, told),
    )

-- what is printed of an answer is its output
pub output_made : (shell : Shell) (a : code.Answer) (b : Answer) (text : Text) (status : ℕ) (added : List Text) → IsAnswer a b → IsPrinted shell a text → status ≡ status_in a
    → added ≡ added_in a → IsOutput shell b text status added
output_made shell (answers.Changes changes paths) (makes old new directories) text status added h p q t =
    (record { changes = new_values_in changes; exact = h.0; says = p }, q, t ∙ h.1)
output_made shell (answers.Changes changes paths) (truth b) text status added h p q t = absurd h
output_made shell (answers.Truth a) (makes old new directories) text status added h p q t = absurd h
output_made shell (answers.Truth true) (truth b) text status added h p q t = (p, q ∙ ap status_of h, t)
output_made shell (answers.Truth false) (truth b) text status added h p q t = (p, q ∙ ap status_of h, t)

-- changes without a text
pub unprinted : (shell : Shell) (a : code.Answer) (b : Answer) (outcome : Answered) (fault : PrintFault) → outcome ≡ Ok b → IsAnswer a b
    → IsUnprinted shell a fault
    → IsCaused shell outcome (Unprinted fault)
unprinted shell a b outcome prints.OutOfMemory is h p = tt
unprinted shell (answers.Changes changes paths) (makes old new added) outcome (prints.NotSayable name) is h p =
    (old, new, added, new_values_in changes, is, h.0, p)
unprinted shell (answers.Changes changes paths) (truth b) outcome (prints.NotSayable name) is h p = absurd h
unprinted shell (answers.Truth t) b outcome (prints.NotSayable name) is h p = cc
