use Rattle.std.proofs.Common.{◌≡◌, ◌++◌, ◌∷◌, drop, string_bytes}
use Rattle.std.specs.Prelude.{flat_map}
use Rattle.envvars.specs.Fields.{ampersand}
use Rattle.envstate.proofs.loaded_list.writing.push_words.Given as goal

-- the text so far, and then what is left
abbrev pub invariant-loop-word : goal.invariant-loop-word
invariant-loop-word l =
    string_bytes l.text ++ flat_map (λ word. ampersand ∷ string_bytes word) (drop l.word-index l.words)
    ≡ string_bytes l.initial.text ++ flat_map (λ word. ampersand ∷ string_bytes word) l.words
