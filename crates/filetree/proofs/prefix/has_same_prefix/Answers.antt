use Rattle.std.proofs.Common.{◌≡◌, sym, ◌∙◌}
use Rattle.std.proofs.lemmas.Slice.Eq.{bytes_eq-Decides}
use Rattle.filetree.specs.Prefixes.{prefix_bytes}
use Rattle.filetree.proofs.CachedAnswers.{same_prefix_of_first}
use Rattle.filetree.proofs.prefix.has_same_prefix.Goals as goal

pub returns-clause-same : goal.returns-clause-same
returns-clause-same c = λ e.
    let prefix = c.args.prefix.now in
    let read : c.first.result.now ≡ c.bytes.result.now = (bytes_eq-Decides c.first.result.now c.bytes.result.now).0 (sym c.eq.ensures ∙ e) in
    same_prefix_of_first prefix.size c.args.bytes.now (prefix_bytes prefix) (sym c.first.ensures ∙ read ∙ c.bytes.ensures)
