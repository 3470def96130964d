-- One line more.
use Rattle.std.proofs.Common.{◌≡◌, ◌+◌, ◌<◌, ℕ, List, [], ◌∷◌, ◌++◌, length, get_or, map, take, string_bytes, String, Global, sym, ap, ◌∙◌}
use Rattle.std.proofs.Common.{append-nil, append_assoc}
use Rattle.std.proofs.lemmas.Grind.{flat_map-append}
use Rattle.std.proofs.lemmas.List.{take_more, map-append}
use Rattle.envvars.specs.Texts.{Text}
use Rattle.modulecmd.specs.NotUtf8.{line_of, lines_of}

abbrev bytes : String Global → Text
bytes s = string_bytes s

abbrev texts : List (String Global) → List Text
texts xs = map bytes xs

step : (xs : List (String Global)) (i : ℕ) (x : String Global) → i < length xs → x ≡ get_or xs i x
    → lines_of (texts (take (i + 1) xs)) ≡ lines_of (texts (take i xs)) ++ line_of (bytes x)
step xs i x l e =
    ap lines_of (ap texts (take_more xs i x l ∙ ap (λ (y : String Global). take i xs ++ y ∷ []) (sym e))
    ∙ map-append bytes (take i xs) (x ∷ []))
    ∙ (flat_map-append line_of (texts (take i xs)) (bytes x ∷ [])
    ∙ ap (λ (t : Text). lines_of (texts (take i xs)) ++ t) (append-nil (line_of (bytes x))))

pub lines_more : (xs : List (String Global)) (i : ℕ) (x : String Global) (first old new : Text) → i < length xs
    → x ≡ get_or xs i x → old ≡ first ++ lines_of (texts (take i xs)) → new ≡ old ++ line_of (bytes x)
    → new ≡ first ++ lines_of (texts (take (i + 1) xs))
lines_more xs i x first old new l e before added =
    added ∙ (ap (λ (t : Text). t ++ line_of (bytes x)) before
    ∙ (append_assoc first (lines_of (texts (take i xs))) (line_of (bytes x))
    ∙ ap (λ (t : Text). first ++ t) (sym (step xs i x l e))))
