use Rattle.std.proofs.Common.{◌≡◌, ◌++◌, map, flat_map, drop}
use Rattle.envvars.specs.Texts.{texts_in}
use Rattle.audit_laws.specs.determinism.LoadedAnswers.{choices, choices_after}
use Rattle.audit_laws.specs.determinism.ContextViews.{text_lists}
use Rattle.audit_laws.proofs.determinism.loaded_answers.choices.Given as goal

-- the choices and names so far, with those of the questions that are left, are all
abbrev pub invariant-loop-names : goal.invariant-loop-names
invariant-loop-names l = record {
  choices : choices_after (map texts_in l.choices.items) (texts_in l.all) (text_lists (drop l.names-index l.questions)) ≡ choices (text_lists l.questions);
  all : texts_in l.all ++ flat_map (λ ns. ns) (text_lists (drop l.names-index l.questions)) ≡ flat_map (λ ns. ns) (text_lists l.questions);
}
