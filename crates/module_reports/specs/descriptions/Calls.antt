-- A file with a call of its procedure `ModulesHelp` behind it, as a script (Tcl(n), catch(n)). The file is one word of a
-- `catch`, so that the call is reached where the file returns, and no comment at its end takes it in.
use Rattle.std.specs.Prelude.{ℕ, ◌==◌, ◌||◌, Bool, if◌then◌else◌, ◌∷◌, ◌++◌, chars, codes, encode_utf8}
use Rattle.std.specs.List.{flat_map}
use Rattle.envvars.specs.Texts.{Text}

-- the character means something between double quotes (Tcl(n), double quotes and substitutions): ", $, [ and \
abbrev pub is_special : ℕ → Bool
is_special c = (c == 34) || ((c == 36) || ((c == 91) || (c == 92)))

-- a character that stands for itself there
abbrev pub quoted_char : ℕ → Text
quoted_char c = if is_special c then 92 ∷ encode_utf8 c else encode_utf8 c

-- a text, each of whose characters stands for itself
abbrev pub quoted : Text → Text
quoted text = flat_map quoted_char (chars text)

abbrev pub with_call : Text → Text
with_call text = codes "catch \"" ++ (quoted text ++ codes "\"\nModulesHelp\n")
