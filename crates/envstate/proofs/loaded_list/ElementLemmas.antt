-- A text of elements that grows by one after another.
use Rattle.std.proofs.Common.{◌≡◌, ◌<◌, List, [], ◌∷◌, ◌++◌, refl, sym, ap, ◌∙◌, append-nil, append_assoc, length}
use Rattle.std.proofs.Common.{arith, true, Option, Some, None}
use Rattle.std.proofs.lemmas.List.{append_cancel_right, length-append}
use Rattle.std.proofs.lemmas.List.Concat.{flat_map-append}
use Rattle.envvars.specs.Texts.{Text}
use Rattle.envvars.specs.Fields.{colon, ampersand, are_distinct, joined, text_of_elements, without_repeats}
use Rattle.envvars.proofs.FieldLemmas.{after_separators, join-cons}
use Rattle.envstate.specs.loaded_list.LoadedTexts.{element_of}
use Rattle.envstate.specs.loaded_list.ElementTexts.{before_element, with_elements}

-- the text of the elements with one more at the end
pub one_more_element : (xs : List Text) (x : Text) → Some (before_element (text_of_elements xs) ++ x) ≡ text_of_elements (xs ++ x ∷ [])
one_more_element [] x = refl
one_more_element (y ∷ ys) x =
    let f : Text → Text = λ (z : Text). colon ∷ z in
    let now : joined (y ∷ ys) ≡ y ++ after_separators colon ys = join-cons colon y ys in
    let later : joined (y ∷ (ys ++ x ∷ [])) ≡ y ++ after_separators colon (ys ++ x ∷ []) = join-cons colon y (ys ++ x ∷ []) in
    let parted : after_separators colon (ys ++ x ∷ []) ≡ after_separators colon ys
    ++ (colon ∷ x) = flat_map-append f ys (x ∷ []) ∙ ap (λ (t : Text). after_separators colon ys ++ (colon ∷ t))
    (append-nil x) in
    ap Some (ap (λ (t : Text). (t ++ colon ∷ []) ++ x) now
    ∙ append_assoc (y ++ after_separators colon ys) (colon ∷ []) x
    ∙ append_assoc y (after_separators colon ys) (colon ∷ x)
    ∙ ap (λ (t : Text). y ++ t) (sym parted)
    ∙ sym later)

-- the text of the elements with others after them
pub elements_more : (xs ys : List Text) → with_elements (text_of_elements xs) ys ≡ text_of_elements (xs ++ ys)
elements_more xs [] = sym (ap text_of_elements (append-nil xs))
elements_more xs (y ∷ ys) =
    ap (λ (t : Option Text). with_elements t ys) (one_more_element xs y) ∙ elements_more (xs ++ y ∷ []) ys
    ∙ ap text_of_elements (append_assoc xs (y ∷ []) ys)

-- an element, written part by part
pub element_written : (before name : Text) (words : List Text) → (before ++ name) ++ after_separators ampersand words ≡ before ++ element_of name words
element_written before name words = append_assoc before name (after_separators ampersand words) ∙ ap (λ (t : Text). before ++ t) (sym (join-cons ampersand name words))

-- a list of one text or none has no repetitions
pub few_once : (xs : List Text) → length xs < 2 → xs ≡ without_repeats xs
few_once [] h = refl
few_once (x ∷ []) h = refl
few_once (x ∷ y ∷ xs) h = absurd (omega arith)

-- in a list of one text or none, none is there twice
pub few_distinct : (xs : List Text) → length xs < 2 → are_distinct xs ≡ true
few_distinct [] h = refl
few_distinct (x ∷ []) h = refl
few_distinct (x ∷ y ∷ xs) h = absurd (omega arith)

-- what ends with a colon is a text of elements before one more
ended : (o : Option Text) (rest : Text) → rest ++ colon ∷ [] ≡ before_element o → Some rest ≡ o
ended None rest h = absurd (omega (arith, ap length h, length-append rest (colon ∷ [])))
ended (Some t) rest h = ap Some (append_cancel_right rest t (colon ∷ []) h)

-- the text of the elements without the last, cut off a text that ends so
pub element_cut : (xs : List Text) (x t rest : Text) → Some t ≡ text_of_elements (xs ++ x ∷ []) → t ≡ (rest ++ colon ∷ []) ++ x → Some rest ≡ text_of_elements xs
element_cut xs x t rest h k =
    let whole : Some t ≡ Some (before_element (text_of_elements xs) ++ x) = h ∙ sym (one_more_element xs x) in
    let same : t ≡ before_element (text_of_elements xs) ++ x = cc in
    ended (text_of_elements xs) rest (append_cancel_right (rest ++ colon ∷ []) (before_element (text_of_elements xs)) x (sym k ∙ same))
