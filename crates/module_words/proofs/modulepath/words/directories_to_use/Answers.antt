use Rattle.std.proofs.Common.{◌∷◌, [], ◌∙◌, ap, map, string_bytes}
use Rattle.std.proofs.lemmas.List.{map-append}
use Rattle.std.proofs.lemmas.Result.{err_from_is_err_and}
use Rattle.std.specs.Option.{option_map}
use Rattle.envvars.specs.Texts.{texts_in}
use Rattle.module_words.specs.modulepath.Faults.{reason_of}
use Rattle.module_words.specs.modulepath.Words.{holdable}
use Rattle.module_words.proofs.modulepath.WordLemmas.{each_turn, each_stop}
use Rattle.module_words.proofs.modulepath.words.directories_to_use.Goals as goal

pub loop-word-preserved : goal.loop-word-preserved
loop-word-preserved c =
    each_turn (holdable (option_map (λ w. w.now) c.args.working)) c.args.words.now c.loop-word.word-index c.word-item.result c.as_str.result.now (texts_in c.loop-word.paths)
    (texts_in c.push.new.self) (string_bytes c.in_ok-holdable.field-0) c.loop-word-test.true c.word-item.is c.as_str.ensures.value c.in_ok-holdable.ensures
    (ap (map string_bytes) c.in_ok-push.ensures.items ∙ map-append string_bytes c.loop-word.paths.items (c.in_ok-holdable.field-0 ∷ [])) c.loop-word.invariant

pub returns-in_err-holdable : goal.returns-in_err-holdable
returns-in_err-holdable c =
    let p = err_from_is_err_and c.from_residual.result c.from_residual.ensures.1 in
    rw (p.1, p.2) (each_stop (holdable (option_map (λ w. w.now) c.args.working)) c.args.words.now c.loop-word.word-index c.word-item.result c.as_str.result.now
    (texts_in c.loop-word.paths) (reason_of c.in_err-holdable.field-0.0) c.loop-word-test.true c.word-item.is c.as_str.ensures.value c.in_err-holdable.ensures c.loop-word.invariant)
