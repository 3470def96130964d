-- The value of a text in braces (Tcl(n), rules 6 and 9): the text itself, but that a backslash before a newline
-- becomes, with the blanks and tabs after them, one space. A backslash and any other character are passed over
-- together.
use Rattle.std.specs.Prelude.{[], ◌∷◌, ◌==◌, if◌then◌else◌}
use Rattle.tcltext.specs.chars.Bytes.{space, newline, backslash}
use Rattle.tcltext.specs.chars.Runs.{Text}
use Rattle.tcltext.specs.chars.Backslash.{is_blank_or_tab}

abbrev mutual
  pub braced_text : Text → Text
  braced_text [] = []
  braced_text (b ∷ bs) = if b == backslash then braced_after_backslash bs else b ∷ braced_text bs

  pub braced_after_backslash : Text → Text
  braced_after_backslash [] = backslash ∷ []
  braced_after_backslash (b ∷ bs) =
      if b == newline then space ∷ braced_after_newline bs else backslash ∷ (b ∷ braced_text bs)

  pub braced_after_newline : Text → Text
  braced_after_newline [] = []
  braced_after_newline (b ∷ bs) =
      if is_blank_or_tab b then braced_after_newline bs
      else if b == backslash then braced_after_backslash bs
      else b ∷ braced_text bs
