-- The bytes of the report of a check (own).
use Rattle.std.specs.Prelude.{ℕ, ◌+◌, List, [], ◌∷◌, ◌++◌, codes, decimal, string_bytes, Result, Ok, Err}
use Rattle.std.specs.List.{flat_map}
use Rattle.envvars.specs.Texts.{Text}
use Rattle.modules.specs.Messages.{message_of}
use Rattle.modules.specs.declared.judged.Verdict.{Verdict}
use Rattle.modules.specs.declared.judged.Verdict.TheVariants.{Plain, Asked, OneWay}
use Rattle.modules.specs.declared.refusal.Refusal.{Refusal}
use Rattle.modules.specs.declared.sessions.Outcome.{Outcome}
use Rattle.modules.specs.declared.sessions.Outcome.TheVariants.{Accepted, Refused}
use Rattle.modules.specs.declared.rehearsals.checking.CheckFindings.{CheckFindings}
use Rattle.modules.specs.declared.rehearsals.judging.ModuleVerdict.{ModuleVerdict}

-- the line of a request's outcome, with the request's number
abbrev pub outcome_line : ℕ → Outcome → Text
outcome_line n (Accepted done) = decimal n ++ codes " accepted\n"
outcome_line n (Refused refusal) = decimal n ++ (codes " refused: " ++ (message_of refusal ++ codes "\n"))

-- a line for each, where the first has this number
abbrev pub outcome_lines : ℕ → List Outcome → Text
outcome_lines n [] = []
outcome_lines n (o ∷ os) = outcome_line n o ++ outcome_lines (n + 1) os

-- the verdict, or why there is none
abbrev pub verdict_text : Result Verdict Refusal → Text
verdict_text (Ok Plain) = codes "Plain"
verdict_text (Ok Asked) = codes "Asked"
verdict_text (Ok OneWay) = codes "OneWay"
verdict_text (Err refusal) = message_of refusal

-- the line of a module
abbrev pub judgment_line : ModuleVerdict → Text
judgment_line j = string_bytes j.name ++ (codes ": " ++ (verdict_text j.verdict ++ codes "\n"))

-- the line of each request, and then of each module that was loaded
abbrev pub report_of : CheckFindings → Text
report_of check = outcome_lines 1 check.outcomes.items ++ flat_map judgment_line check.judgments.items
