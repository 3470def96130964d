use Rattle.std.proofs.Common.{◌≡◌, Bor, ◌++◌, [], ◌∷◌, ap, sym, ◌∙◌}
use Rattle.std.proofs.lemmas.List.{map-append}
use Rattle.envvars.specs.Texts.{Text, slice_texts}
use Rattle.module_reports.specs.completions.Lines.{pieces}
use Rattle.module_reports.proofs.completions.LineLemmas.{read_of}
use Rattle.module_reports.proofs.completions.line.read_line.Goals as goal

pub returns : goal.returns
returns c =
    let all : pieces c.args.line.now ≡ slice_texts c.pop.new.self.items ++ c.in-Some.word.now ∷ [] =
    sym c.in_ok-pieces.ensures ∙ (ap slice_texts c.in-Some.ensures.items ∙ map-append (λ (t : Bor Text). t.now) c.pop.new.self.items (c.in-Some.word ∷ [])) in
    rw (read_of c.args.line.now (slice_texts c.pop.new.self.items) c.in-Some.word.now all)
    (rw (c.deref-2.ensures.value, c.in_ok-words.ensures, c.deref.ensures.value) at c.command_of.ensures)
