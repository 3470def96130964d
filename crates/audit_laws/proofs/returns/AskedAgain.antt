-- What a file asked is answered again, as a stable input.
use Rattle.std.proofs.Common.{◌≡◌, true, List}
use Rattle.std.proofs.Common.{ap, sym, ◌∙◌}
use Rattle.std.specs.List.{list_all}
use Rattle.envvars.specs.Texts.{Text}
use Rattle.envvars.specs.Environment.{lookup}
use Rattle.tclrules.specs.Oracle.{CommandWords, Question, OfCommand, OfVariable}
use Rattle.modulefile.specs.Records.{Record}
use Rattle.modulefile.specs.Calls.{call_of}
use Rattle.modulefile.specs.Answers.{FileContext, command_answer, environment_after}
use Rattle.modulefile.specs.Answers.{any_loaded}
use Rattle.audit_laws.specs.determinism.StableInput.{is_changing, is_stable_variable, is_stable_input, read_by, variables_read, field_of}
use Rattle.audit_laws.specs.determinism.StableInput.{is_mode, is_shell, names_of}
use Rattle.audit_laws.specs.determinism.StableInput.{IsSameContext, AreEquivalent}
use Rattle.audit_laws.proofs.determinism.Noted.{Among}
use Rattle.audit_laws.proofs.determinism.Rests.{Beginning, finds_before}
use Rattle.audit_laws.proofs.determinism.Settling.{each, any_of, read_among, loaded_among, by_call}

-- ---- a question of the first context, which it asked, has the same answer in the second

-- what is known of the two contexts and of what was asked in the first
pub record IsAskedAgain (c d : FileContext) (asked : List Question) (all : List Record) : Type 0 where
  pub stable : list_all (is_stable_input all) asked ≡ true
  pub first_mode : is_changing c.mode ≡ true
  pub second_mode : is_changing d.mode ≡ true
  pub same : IsSameContext asked c d
  pub values : AreEquivalent (variables_read asked) c.before d.before

pub command_again : (c d : FileContext) (asked : List Question) (all : List Record) (records : List CommandWords) (words : List Text) (q : Question)
    → Beginning records all → q ≡ OfCommand words (command_answer c (environment_after c records) words (call_of words)) → Among q asked → IsAskedAgain c d asked all
    → command_answer d (environment_after d records) words (call_of words) ≡ command_answer c (environment_after c records) words (call_of words)
command_again c d asked all records words q (rs, rest, read, split) e a k =
    by_call c d all (variables_read asked) (environment_after c records) (environment_after d records) words (call_of words)
    (ap (is_stable_input all) (sym e) ∙ each (is_stable_input all) asked q k.stable a) k.first_mode k.second_mode
    (λ v r g. finds_before d records rs rest all v read split r ∙ (k.values v g ∙ sym (finds_before c records rs rest all v read split r)))
    (λ v r. read_among asked q v a (ap read_by e ∙ r))
    (λ t. k.same.mode (any_of (λ x. is_mode (field_of x)) asked q a (ap (λ (x : Question). is_mode (field_of x)) e ∙ t)))
    (λ t. k.same.in_switch (any_of (λ x. is_mode (field_of x)) asked q a (ap (λ (x : Question). is_mode (field_of x)) e ∙ t)))
    (λ t. k.same.shell (any_of (λ x. is_shell (field_of x)) asked q a (ap (λ (x : Question). is_shell (field_of x)) e ∙ t)))
    (λ ns t. loaded_among (λ names. any_loaded names d.loaded ≡ any_loaded names c.loaded) asked q ns k.same.loaded a (ap names_of e ∙ t))

pub variable_again : (c d : FileContext) (asked : List Question) (all : List Record) (records : List CommandWords) (v : Text) (q : Question)
    → Beginning records all → q ≡ OfVariable v (lookup (environment_after c records) v) → Among q asked → IsAskedAgain c d asked all
    → lookup (environment_after d records) v ≡ lookup (environment_after c records) v
variable_again c d asked all records v q (rs, rest, read, split) e a k =
    let rested : is_stable_variable all v ≡ true = ap (is_stable_input all) (sym e) ∙ each (is_stable_input all) asked q k.stable a in
    finds_before d records rs rest all v read split rested
    ∙ (k.values v (read_among asked q v a (ap read_by e)) ∙ sym (finds_before c records rs rest all v read split rested))
