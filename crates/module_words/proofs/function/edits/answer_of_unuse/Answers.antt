use Rattle.std.proofs.Common.{ap, map, string_bytes, String}
use Rattle.std.specs.declared.alloc.Global.{Global}
use Rattle.std.specs.Option.{option_map}
use Rattle.envvars.specs.Texts.{texts_in}
use Rattle.module_words.specs.function.Views.{texts_of}
use Rattle.module_words.proofs.function.AnswerLemmas.{unuse_made}
use Rattle.module_words.proofs.function.edits.answer_of_unuse.Goals as goal

pub returns : goal.returns
returns c =
    unuse_made (option_map (λ w. w.now) c.args.working) c.args.env.now (map (λ (s : String Global). string_bytes s) c.args.words.now) (texts_of c.in_ok-words.words)
    (texts_in c.in_ok-paths.paths) (map (λ (s : String Global). string_bytes s) c.as_slice.result.now) c.over-copy.result.old c.over-copy.result.new
    c.unuse_directories.new.env.old c.unuse_directories.new.env.new c.in_ok-changes.changes c.new.result c.in_ok-unuse_directories.ensures.edits.0
    c.in_ok-words.ensures c.in_ok-paths.ensures (ap (map (λ (s : String Global). string_bytes s)) c.as_slice.ensures.value) c.over-copy.ensures.new c.over-copy.ensures.old
    c.in_ok-unuse_directories.ensures.edits.1 c.in_ok-unuse_directories.ensures.edits.2 c.in_ok-unuse_directories.ensures.base c.in_ok-changes.ensures.ok (ap (map (λ (s : String Global). string_bytes s)) c.new.ensures.items)
