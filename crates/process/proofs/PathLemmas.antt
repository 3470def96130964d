-- Names with slashes between them.
use Rattle.std.proofs.Common.{◌≡◌, List, [], ◌∷◌, ◌++◌, Bor, append-nil, ap, refl}
use Rattle.std.specs.List.{join_by, join_with_byte}
use Rattle.message.specs.Messages.{Text}
use Rattle.process.specs.AbsolutePaths.{names_in, slash}

pub joined_names : (names : List (Bor Text)) → join_by (λ x. x.now) (slash ∷ []) names ≡ join_with_byte slash (names_in names)
joined_names [] = refl
joined_names (x ∷ []) = append-nil x.now
joined_names (x ∷ y ∷ rest) = ap (λ (l : Text). x.now ++ slash ∷ l) (joined_names (y ∷ rest))
