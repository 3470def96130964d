-- The laws of deterministic files (own).
use Rattle.std.specs.Prelude.{◌≡◌, ◌↔◌, true, List, Result, Ok}
use Rattle.std.specs.List.{list_all}
use Rattle.envvars.specs.Texts.{Text}
use Rattle.tclrules.specs.declared.limits.Limits.{Limits}
use Rattle.modulefile.specs.Records.{Record}
use Rattle.modulefile.specs.Answers.{FileContext}
use Rattle.modulefile.specs.Files.{Ran, FileReason, RunsFile, IsSameOrRefused}
use Rattle.reversal.specs.Undone.{UndoEquivalently}
use Rattle.audit_laws.specs.determinism.Contexts.{do_undo_equivalently}
use Rattle.audit_laws.specs.determinism.StableInput.{is_stable_input, variables_read, IsSameContext, AreEquivalent, is_changing}

-- A file whose questions all have stable inputs leaves the same records in every context with the same name and path
-- that is equal to this one as far as it asks, where the variables that it read have the same values; or it is refused
-- there.
abbrev pub DeterministicFilesAgree : Type 0
DeterministicFilesAgree =
    (limits : Limits) (c d : FileContext) (text : Text) (ran : Ran) (o : Result Ran FileReason)
    → RunsFile limits c text (Ok ran) → list_all (is_stable_input ran.records) ran.asked ≡ true → is_changing c.mode ≡ true
    → is_changing d.mode ≡ true → IsSameContext ran.asked c d → AreEquivalent (variables_read ran.asked) c.before d.before
    → d.name ≡ c.name → d.path ≡ c.path → RunsFile limits d text o → IsSameOrRefused ran o

-- The test whether records undo equivalently says so exactly where they do.
abbrev pub UndoIsTested : Type 0
UndoIsTested = (rs qs : List Record) → (do_undo_equivalently rs qs ≡ true) ↔ UndoEquivalently rs qs
