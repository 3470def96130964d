use Rattle.std.proofs.Common.{sym, ap, ◌∙◌}
use Rattle.tcltext.specs.chars.Runs.{take_while, drop_while}
use Rattle.tcltext.specs.chars.Classes.{in_class}
use Rattle.tcltext.specs.script.Ends.{is_nested, class_of}
use Rattle.tcltext.proofs.script.Escapes.{run_front}
use Rattle.tcltext.proofs.script.BareWords.{bare-word}
use Rattle.tcltext.proofs.script.reading.literal_word.Goals as goal

pub returns-clause-prefix : goal.returns-clause-prefix
returns-clause-prefix c = run_front (in_class (class_of c.bare.result)) c.args.text.now c.split_literal.result.0.now c.split_literal.ensures.run

pub returns-clause-parts : goal.returns-clause-parts
returns-clause-parts c = λ inner.
    bare-word (is_nested c.args.nesting) inner c.args.text.now c.split_literal.result.0.now c.split_literal.result.1.now
    (c.split_literal.ensures.run ∙ ap (λ context. take_while (in_class (class_of context)) c.args.text.now) c.bare.ensures)
    (c.split_literal.ensures.rest ∙ ap (λ context. drop_while (in_class (class_of context)) c.args.text.now) c.bare.ensures)
    (sym c.is_empty.ensures ∙ c.if-is_empty.false) (sym c.word_ends.ensures ∙ c.if-not-word_ends.false)
