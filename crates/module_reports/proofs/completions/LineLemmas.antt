-- Words of a line.
use Rattle.std.proofs.Common.{◌≡◌, List, [], ◌∷◌, ◌++◌, Some, refl, ap, ◌∙◌}
use Rattle.message.specs.Messages.{Text}
use Rattle.module_reports.specs.completions.Lines.{command_before, command_of, last_of, others_of, pieces, read_line}
use Rattle.module_reports.specs.completions.Texts.{filled}

-- the last text is the one that stands behind the others
pub last_behind : (texts : List Text) (text : Text) → last_of (texts ++ text ∷ []) ≡ Some text
last_behind [] text = refl
last_behind (first ∷ []) text = refl
last_behind (first ∷ next ∷ texts) text = last_behind (next ∷ texts) text

pub others_before : (texts : List Text) (text : Text) → others_of (texts ++ text ∷ []) ≡ texts
others_before [] text = refl
others_before (first ∷ []) text = refl
others_before (first ∷ next ∷ texts) text = ap (λ others. first ∷ others) (others_before (next ∷ texts) text)

-- so a line is read by its pieces
pub read_of : (line : Text) (texts : List Text) (text : Text) → pieces line ≡ texts ++ text ∷ [] → read_line line ≡ command_of (filled texts) text
read_of line texts text all =
    ap (λ ps. command_before (others_of ps) (last_of ps)) all
    ∙ (ap (λ last. command_before (others_of (texts ++ text ∷ [])) last) (last_behind texts text) ∙ ap (λ others. command_of (filled others) text) (others_before texts text))
