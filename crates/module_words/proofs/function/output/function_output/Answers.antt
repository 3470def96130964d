use Rattle.std.proofs.Common.{map, string_bytes, String}
use Rattle.std.proofs.lemmas.Result.{err_from_is_err_and}
use Rattle.std.specs.declared.alloc.Global.{Global}
use Rattle.std.specs.Option.{option_map}
use Rattle.envvars.specs.Texts.{texts_in}
use Rattle.module_words.specs.function.Answers as spec
use Rattle.module_words.proofs.function.AnswerLemmas.{output_made, unprinted}
use Rattle.module_words.proofs.function.output.function_output.Goals as goal

pub returns-in_err-text : goal.returns-in_err-text
returns-in_err-text c =
    let p = err_from_is_err_and c.from_residual-in_err-text.result c.from_residual-in_err-text.ensures.1 in
    let given = c.in_ok-answer.ensures in
    rw (p.1, p.2) (unprinted c.args.shell c.in_ok-answer.answer given.0
    (spec.answer_of (option_map (λ w. w.now) c.args.working) c.args.env.now c.args.subcommand (map (λ (s : String Global). string_bytes s) c.args.words.now))
    c.in_err-text.field-0.0 given.1 given.2 c.in_err-text.ensures.fault)

pub returns : goal.returns
returns c =
    let given = c.in_ok-answer.ensures in (
      given.0,
      given.1,
      output_made c.args.shell c.in_ok-answer.answer given.0 (string_bytes c.in_ok-text.text) c.status_of-status.result (texts_in c.added_by-added.result) given.2 c.in_ok-text.ensures.printed c.status_of-status.ensures c.added_by-added.ensures,
    )
