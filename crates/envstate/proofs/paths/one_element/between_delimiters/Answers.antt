use Rattle.std.proofs.Common.{◌≡◌, ◌<◌, ℕ, [], ◌∷◌, ◌++◌, ap, sym, ◌∙◌, take, drop, rules}
use Rattle.std.specs.Prelude.{encode_utf8}
use Rattle.std.proofs.lemmas.Str.{encode_ascii}
use Rattle.envvars.specs.Texts.{Text}
use Rattle.envstate.proofs.paths.one_element.between_delimiters.Goals as goal

-- The last character of a text, and then the first of what is left, are the delimiter.
ends_are : (d first last : ℕ) (whole front inner : Text) → d < 128 → first ≡ d → last ≡ d → whole ≡ front ++ encode_utf8 last
    → (rest : Text) × (drop 0 front ≡ encode_utf8 first ++ rest) × (inner ≡ take 0 front ++ rest) → whole ≡ d ∷ (inner ++ d ∷ [])
ends_are d first last whole front inner small f l w r =
    let begins : front ≡ d ∷ inner = r.1 ∙ ap (λ (t : Text). t ++ r.0) (ap encode_utf8 f ∙ encode_ascii d small) ∙ ap (λ (t : Text). d ∷ t) (sym r.2) in
    w ∙ ap (λ (t : Text). front ++ t) (ap encode_utf8 l ∙ encode_ascii d small) ∙ ap (λ (t : Text). t ++ d ∷ []) begins

pub returns : goal.returns
returns c =
    let first : c.remove-first.result ≡ c.args.delim = search rules in
    let last : c.in_ok-last.last ≡ c.args.delim = search rules in
    ends_are c.args.delim _ _ _ _ _ c.requires first last c.in_ok-last.ensures.bytes c.remove-first.ensures.bytes
