-- What is written of the outcomes of requests that describe modules (own).
use Rattle.std.specs.Prelude.{Bool, true, List, [], ◌∷◌, ◌++◌, codes, flat_map, if◌then◌else◌, Option, Some, None}
use Rattle.std.specs.Prelude.{string_bytes}
use Rattle.envvars.specs.Texts.{Text, texts_in}
use Rattle.modulefile.specs.Reports.{line_of}
use Rattle.modules.specs.Messages.{message_of}
use Rattle.modules.specs.declared.done.RequestResults.{RequestResults}
use Rattle.modules.specs.declared.sessions.Outcome.{Outcome}
use Rattle.modules.specs.declared.sessions.Outcome.TheVariants.{Accepted, Refused}
use Rattle.module_reports.specs.descriptions.Mentions.{in_small_letters, is_mentioned}

-- what `whatis NAME` writes: the messages of the file, and then the report
abbrev pub written : RequestResults → Text
written done = flat_map (λ message. message) (texts_in done.messages) ++ string_bytes done.report

-- A text that is sought, given in small letters, is mentioned in the report; without one every report is wanted.
abbrev pub is_wanted : Option Text → Text → Bool
is_wanted None report = true
is_wanted (Some small) report = is_mentioned small (in_small_letters report)

-- what is shown of an outcome: of an accepted one what is written, where its report is wanted
abbrev pub shown : Option Text → Outcome → Text
shown small (Accepted done) = if is_wanted small (string_bytes done.report) then written done else []
shown small (Refused refusal) = []

-- the line of a module that is left out: its name, and the text of its refusal
abbrev pub left_line : Text → Outcome → Text
left_line name (Accepted done) = []
left_line name (Refused refusal) = line_of (name ++ (codes ": " ++ message_of refusal))

-- the lines of all that are left out, by their names and outcomes
abbrev pub left_lines : List Text → List Outcome → Text
left_lines [] outcomes = []
left_lines (name ∷ names) [] = []
left_lines (name ∷ names) (outcome ∷ outcomes) = left_line name outcome ++ left_lines names outcomes
