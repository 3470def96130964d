-- Values of the code as the definitions have them.
use Rattle.std.specs.Prelude.{◌≡◌, List, ◌++◌, map, string_bytes, Option}
use Rattle.std.specs.Option.{option_map}
use Rattle.std.specs.Borrow.{Bor}
use Rattle.tcltext.specs.chars.Runs.{Text}
use Rattle.json.specs.Token.{Token}
use Rattle.json.specs.Written.{Written}
use Rattle.modport.specs.Lines as lines
use Rattle.port_rewriting.specs.declared.class.Note.{Note}

abbrev pub now : Option (Bor Text) → Option Text
now text = option_map (λ t. t.now) text

abbrev pub line_view : Note → lines.Line
line_view n = record { place = n.line; what = string_bytes n.what; outcome = n.outcome }

abbrev pub lines_view : List Note → List lines.Line
lines_view ls = map line_view ls

-- the tokens are added, and what stood before them stays
abbrev pub AddsTokens : Written → Written → List Token → Type 0
AddsTokens old new tokens = (new.before ≡ old.before) × (new.tokens ≡ old.tokens ++ tokens)
