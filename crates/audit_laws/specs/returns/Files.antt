-- Files that are evaluated again (own).
use Rattle.std.specs.Prelude.{◌≡◌, true, [], Ok}
use Rattle.std.specs.List.{list_all}
use Rattle.envvars.specs.Texts.{Text}
use Rattle.envvars.specs.Environment.{Environment}
use Rattle.tclrules.specs.declared.limits.Limits.{Limits}
use Rattle.modulefile.specs.Effects.{effects}
use Rattle.modulefile.specs.Answers.{FileContext}
use Rattle.modulefile.specs.Files.{Ran, RunsFile}
use Rattle.audit_laws.specs.determinism.StableInput.{is_changing, is_stable_input, variables_read, IsSameContext, AreEquivalent}

-- what an evaluation left, with another environment after it
abbrev pub leaving : Environment → Ran → Ran
leaving after ran = record { records = ran.records; messages = ran.messages; asked = ran.asked; env = after }

-- The questions of an accepted file have stable inputs. Then it is accepted again, with the same records and messages, in
-- every context of the same name and path that is equal as far as the file asks. There the variables that it read have the
-- same values, and its records have their effects.
abbrev pub FilesRunAgain : Type 0
FilesRunAgain =
    (limits : Limits) (c d : FileContext) (text : Text) (ran : Ran) (after : Environment)
    → RunsFile limits c text (Ok ran) → list_all (is_stable_input ran.records) ran.asked ≡ true → is_changing c.mode ≡ true
    → is_changing d.mode ≡ true → IsSameContext ran.asked c d → AreEquivalent (variables_read ran.asked) c.before d.before
    → d.name ≡ c.name → d.path ≡ c.path → effects d.mode d.name ran.records d.before ≡ Ok after
    → RunsFile limits d text (Ok (leaving after ran))

-- A file that asked nothing is accepted again in every context of the same name and path in which its records have their
-- effects.
abbrev pub PlainFilesRunAgain : Type 0
PlainFilesRunAgain =
    (limits : Limits) (c d : FileContext) (text : Text) (ran : Ran) (after : Environment)
    → RunsFile limits c text (Ok ran) → ran.asked ≡ [] → d.name ≡ c.name → d.path ≡ c.path
    → effects d.mode d.name ran.records d.before ≡ Ok after → RunsFile limits d text (Ok (leaving after ran))
