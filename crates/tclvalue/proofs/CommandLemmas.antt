-- What a wrong number of words gives.
use Rattle.std.proofs.Common.{◌≡◌, ◌<◌, ◌≤◌, List, [], ◌∷◌, length, map, Err, refl, arith}
use Rattle.std.specs.Prelude.{codes}
use Rattle.tcltext.specs.chars.Runs.{Text}
use Rattle.tclvalue.specs.operators.Faults.{error}
use Rattle.tclvalue.specs.operators.Messages.{wrong_words}
use Rattle.tclvalue.specs.Commands.{lrange_command, split_command}

pub too_few_to_range : {X : Type 0} (view : X → Text) (words : List X) → length words < 3
    → lrange_command (map view words) ≡ Err (error (wrong_words (codes "lrange")))
too_few_to_range view [] h = refl
too_few_to_range view (a ∷ []) h = refl
too_few_to_range view (a ∷ b ∷ []) h = refl
too_few_to_range view (a ∷ b ∷ c ∷ words) h = absurd (omega arith)

pub too_many_to_range : {X : Type 0} (view : X → Text) (words : List X) → 4 ≤ length words
    → lrange_command (map view words) ≡ Err (error (wrong_words (codes "lrange")))
too_many_to_range view [] h = absurd (omega arith)
too_many_to_range view (a ∷ []) h = absurd (omega arith)
too_many_to_range view (a ∷ b ∷ []) h = absurd (omega arith)
too_many_to_range view (a ∷ b ∷ c ∷ []) h = absurd (omega arith)
too_many_to_range view (a ∷ b ∷ c ∷ d ∷ words) h = refl

pub too_few_to_split : {X : Type 0} (view : X → Text) (words : List X) → length words < 1
    → split_command (map view words) ≡ Err (error (wrong_words (codes "split")))
too_few_to_split view [] h = refl
too_few_to_split view (a ∷ words) h = absurd (omega arith)

pub too_many_to_split : {X : Type 0} (view : X → Text) (words : List X) → 3 ≤ length words
    → split_command (map view words) ≡ Err (error (wrong_words (codes "split")))
too_many_to_split view [] h = absurd (omega arith)
too_many_to_split view (a ∷ []) h = absurd (omega arith)
too_many_to_split view (a ∷ b ∷ []) h = absurd (omega arith)
too_many_to_split view (a ∷ b ∷ c ∷ words) h = refl
