-- Names in the other direction.
use Rattle.std.proofs.Common.{◌≡◌, List, [], ◌∷◌, ◌++◌, Bor, map, reverse, refl, sym, ap, ◌∙◌}
use Rattle.std.proofs.lemmas.List.{map-append, reverse-append}
use Rattle.envvars.specs.Texts.{Text, slice_texts}

pub texts_reversed : (names : List (Bor Text)) → slice_texts (reverse names) ≡ reverse (slice_texts names)
texts_reversed [] = refl
texts_reversed (name ∷ names) =
    ap slice_texts (reverse-append (name ∷ []) names) ∙ (map-append (λ (x : Bor Text). x.now) (reverse names) (name ∷ [])
    ∙ (ap (λ texts. texts ++ name.now ∷ []) (texts_reversed names) ∙ sym (reverse-append (name.now ∷ []) (slice_texts names))))
