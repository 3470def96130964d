-- The turns of the loop that reads a list, and the answer of the whole.
use Rattle.std.proofs.Common.{◌≡◌, ◌<◌, List, [], ◌∷◌, ◌++◌, length, true, false, ◌==◌, Ok, Err, refl, sym, ap, subst}
use Rattle.std.proofs.Common.{arith}
use Rattle.std.proofs.lemmas.Bool.Decides.{nat_tests}
use Rattle.tcltext.specs.chars.Bytes.{is_space}
use Rattle.tcltext.specs.chars.Runs.{Text, drop_while}
use Rattle.tcltext.specs.chars.Reading.{◌>>=◌, Fails}
use Rattle.tcltext.specs.declared.chars.fault.ReadError.{ReadError}
use Rattle.tcltext.specs.declared.chars.fault.ReadError.TheVariants as errors
use Rattle.tcltext.specs.list.ListGrammar.{IsElement}
use Rattle.tcltext.specs.list.ListReading.{text_ends, element_at, list_at}
use Rattle.tcltext.proofs.list.Runs.{back_fails, back_no_longer}
use Rattle.tcltext.proofs.list.Loops.{SoFar, so_far-more, so_far-end, so_far-fail}
use Rattle.tcltext.proofs.list.ElementLemmas.{ElementGives, element_gives}
use Rattle.tcltext.proofs.list.ReadLemmas.{element_length, holds_of_depth}

abbrev pub ListSoFar : Text → List Text → Text → Type 0
ListSoFar = SoFar (drop_while is_space) text_ends element_at

pub list-end : (bs : Text) (found : List Text) (rest start : Text) → start ≡ drop_while is_space rest → text_ends start ≡ true → ListSoFar bs found rest → list_at bs ≡ Ok found
unfolding list_at
list-end bs found rest start e t s =
    ap (λ r. r >>= (λ x. Ok x.0)) (so_far-end (drop_while is_space) text_ends element_at bs found rest (subst (λ ys. text_ends ys ≡ true) e t) s)

pub list-fails : (bs : Text) (found : List Text) (rest start : Text) (e : ReadError) → start ≡ drop_while is_space rest
    → text_ends start ≡ false → Fails e (element_at start) → ListSoFar bs found rest → Fails e (list_at bs)
unfolding list_at
list-fails bs found rest start errors.Memory e t was s = tt
list-fails bs found rest start (errors.Fault f) e t was s =
    ap (λ r. r >>= (λ x. Ok x.0)) (so_far-fail (drop_while is_space) text_ends element_at bs found rest f (subst (λ ys. text_ends ys ≡ false) e t) (subst (λ ys. element_at ys ≡ Err f) e was) s)

pub list-shorter : (rest start element after : Text) → start ≡ drop_while is_space rest → text_ends start ≡ false → element_at start ≡ Ok (element, after) → length after < length rest
list-shorter rest start element after e t was =
    let x = drop_while is_space rest in
    let starts = holds_of_depth x (back_fails is_space rest) (subst (λ ys. text_ends ys ≡ false) e t) in
    let is : IsElement x element after = (subst (ElementGives x) (subst (λ ys. element_at ys ≡ Ok (element, after)) e was) (element_gives x starts)).0 in
    omega (arith, back_no_longer is_space rest, element_length is)

pub list-more : (bs : Text) (found : List Text) (rest start element after : Text) (found' : List Text)
    → start ≡ drop_while is_space rest → text_ends start ≡ false → element_at start ≡ Ok (element, after)
    → found' ≡ found ++ element ∷ [] → ListSoFar bs found rest → ListSoFar bs found' after
list-more bs found rest start element after found' e t was made s =
    subst (λ es. ListSoFar bs es after) (sym made)
    (so_far-more (drop_while is_space) text_ends element_at bs found rest element after (subst (λ ys. text_ends ys ≡ false) e t) (subst (λ ys. element_at ys ≡ Ok (element, after)) e was)
    (list-shorter rest start element after e t was) s)

pub empty_ends : (bs : Text) → (length bs == 0) ≡ text_ends bs
empty_ends [] = refl
empty_ends (b ∷ bs) = grind (arith, nat_tests)
