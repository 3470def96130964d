use Rattle.std.proofs.Common.{◌≡◌, Bor, ◌++◌, [], ◌∷◌, ap, sym, ◌∙◌}
use Rattle.std.proofs.lemmas.List.{map-append}
use Rattle.envvars.specs.Texts.{Text, slice_texts}
use Rattle.module_reports.specs.completions.Lines.{pieces_at}
use Rattle.module_reports.proofs.completions.BegunLemmas.{folder_by}
use Rattle.module_reports.proofs.completions.begun.folder_of.Goals as goal

pub returns : goal.returns
returns c =
    let all : pieces_at 47 c.args.word.now ≡ slice_texts c.pop.new.self.items ++ c.in-Some.field-0.now ∷ [] =
    sym c.in_ok-folders.ensures ∙ (ap slice_texts c.in-Some.ensures.items ∙ map-append (λ (t : Bor Text). t.now) c.pop.new.self.items (c.in-Some.field-0 ∷ [])) in
    rw (folder_by c.args.word.now (slice_texts c.pop.new.self.items) c.in-Some.field-0.now all)
    (rw c.as_slice.ensures.value at c.folder_named.ensures)
