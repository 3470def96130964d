use Rattle.std.proofs.Common.{◌++◌, Bor, List, ℕ, Ok, ap, arith, ◌∙◌}
use Rattle.std.proofs.lemmas.Iterator.Adapters.{fact_from_extend}
use Rattle.std.proofs.lemmas.Iterator.Splits.{YieldsList-from_str_split}
use Rattle.std.specs.Str.Iter.{split_text, split_has_more, split_pattern}
use Rattle.terminal.specs.columns.Views.{texts}
use Rattle.terminal.proofs.text.bytes.parts_at_escapes.Goals as goal

pub returns : goal.returns
returns c =
    fact_from_extend {E = Unit {0}} (λ (x : Bor (List ℕ)). x.now) (Ok tt) c.in_ok-extend.ensures.ran
    (λ it b. YieldsList-from_str_split 27 c.args.text.now (omega arith)
    (ap split_text b ∙ c.split.ensures.text) (ap split_has_more b ∙ c.split.ensures.has_more)
    (ap split_pattern b ∙ c.split.ensures.pattern))
    (λ xs e h. ap texts (h.0 ∙ ap (λ (old : List (Bor (List ℕ))). old ++ xs) c.in_ok-parts.ensures.items) ∙ e)
