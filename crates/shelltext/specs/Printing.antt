-- What is printed for changes, and which changes no text of a shell says (own; quoting as in Reading).
use Rattle.std.specs.Prelude.{◌≡◌, ℕ, List, [], ◌∷◌, ◌++◌, Bool, true, not, ◌&&◌, Option, Some, None, if◌then◌else◌}
use Rattle.std.specs.Prelude.{string_bytes, find}
use Rattle.std.specs.List.{flat_map, list_all}
use Rattle.std.specs.Option.{option_map}
use Rattle.shelltext.specs.declared.shell.Shell.{Shell}
use Rattle.message.specs.Refusals.{NumberedText, about}
use Rattle.message.specs.declared.refusals.RefusalKind.TheVariants as kinds
use Rattle.envvars.specs.Texts.{Text}
use Rattle.envvars.specs.Names.{is_variable_name}
use Rattle.envvars.specs.Changes.{NewValue, AreChanges}
use Rattle.envvars.specs.Environment.{Environment}
use Rattle.shelltext.specs.declared.family.Family.{Family}
use Rattle.shelltext.specs.declared.family.Family.TheVariants.{Sh, Csh, Fish}
use Rattle.shelltext.specs.Shells.{family_of}
use Rattle.shelltext.specs.declared.print.PrintFault.{PrintFault}
use Rattle.shelltext.specs.declared.print.PrintFault.TheVariants.{OutOfMemory, NotSayable}
use Rattle.shelltext.specs.Reading.{is_special, is_unsayable, set_line, unset_line, TextSays}

-- a text says the value, if there is one
abbrev pub value_is_sayable : Family → Option Text → Bool
value_is_sayable family None = true
value_is_sayable family (Some value) = list_all (λ b. not (is_unsayable family b)) value

-- a line says the change
abbrev pub is_sayable : Family → NewValue → Bool
is_sayable family s = is_variable_name s.0 && value_is_sayable family s.1

-- how a byte with a meaning inside quotes is written: in sh and csh the quotes end before it and begin again after it
abbrev pub special_text : Family → ℕ → Text
special_text Sh b = 39 ∷ 92 ∷ b ∷ 39 ∷ []
special_text Csh b = 39 ∷ 92 ∷ b ∷ 39 ∷ []
special_text Fish b = 92 ∷ b ∷ []

-- how a byte of a value is written
abbrev pub spell : Family → ℕ → Text
spell family b = if is_special family b then special_text family b else b ∷ []

-- how a value is written
abbrev pub quoted : Family → Text → Text
quoted family value = 39 ∷ (flat_map (spell family) value ++ 39 ∷ [])

-- the line that is printed for a name and its new value, or none
abbrev pub line_of_value : Family → Text → Option Text → Text
line_of_value family name None = unset_line family name
line_of_value family name (Some value) = set_line family name (quoted family value)

-- the line that is printed for a change
abbrev pub printed_line : Family → NewValue → Text
printed_line family s = line_of_value family s.0 s.1

-- the first change that no line says has this name, and no text says all the changes
pub record IsUnsayable (shell : Shell) (ss : List NewValue) (name : Text) : Type 0 where
  pub first : option_map (λ s. s.0) (find (λ s. not (is_sayable (family_of shell) s)) ss) ≡ Some name
  pub no_text : (text : Text) → TextSays shell text ss → ⊥

-- The changes from one environment to the other have no text in the shell: the first variable that no line can set or
-- unset is this one.
abbrev pub LacksText : Shell → Environment → Environment → Text → Type 0
LacksText shell old new name = (cs : List NewValue) × AreChanges old new cs × IsUnsayable shell cs name

-- the error is one of these changes
abbrev pub IsPrintFault : Shell → List NewValue → PrintFault → Type 0
IsPrintFault shell ss OutOfMemory = Unit {0}
IsPrintFault shell ss (NotSayable name) = IsUnsayable shell ss (string_bytes name)

-- the refusal that each error is
abbrev pub refusal_of : PrintFault → NumberedText
refusal_of OutOfMemory = about kinds.MemoryForPrinting []
refusal_of (NotSayable name) = about kinds.NotSayable (string_bytes name)
