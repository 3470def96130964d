use Rattle.std.proofs.Common.{◌≡◌, [], ◌∷◌, map, string_bytes, take}
use Rattle.tclvalue.specs.Characters.{encoded_all}
use Rattle.tclvalue.proofs.texts.single_texts.Given as goal

abbrev pub invariant-loop-character : goal.invariant-loop-character
invariant-loop-character l = map string_bytes l.texts.items ≡ encoded_all (map (λ c. c ∷ []) (take l.character-index l.characters))
