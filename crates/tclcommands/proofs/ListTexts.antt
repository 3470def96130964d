-- The texts of lists that grow.
use Rattle.std.proofs.Common.{◌≡◌, ℕ, map, ◌≤◌, ◌==◌, Bool, true, false, cond, List, [], ◌∷◌, ◌++◌, Option, Some, None}
use Rattle.std.proofs.Common.{length, Ok, flat_map, refl, sym, ap, ◌∙◌}
use Rattle.std.proofs.lemmas.List.{append_assoc}
use Rattle.tcltext.specs.chars.Bytes.{backslash, space, hash}
use Rattle.tcltext.specs.chars.Runs.{Text}
use Rattle.tcltext.specs.chars.Faults.{max_bytes}
use Rattle.tcltext.specs.list.Lists.{is_bare, balances, escape, needs_escape, letter_of, escaped, braced, element_text}
use Rattle.tcltext.specs.list.Lists.{list_rest, list_text}
use Rattle.tcltext.specs.list.ListReading.{list_of}
use Rattle.tcltext.proofs.list.ListAnswers.{elements_law}
use Rattle.tcltext.proofs.list.RoundTrip.{list_is}
use Rattle.tclrules.specs.Variables.{State, value_at}
use Rattle.tclrules.specs.Rules.{value_or, lengthened}
use Rattle.tclforms.specs.variables.Contents.{HoldsList}

rest_append : (es fs : List Text) → list_rest (es ++ fs) ≡ list_rest es ++ list_rest fs
rest_append [] fs = refl
rest_append (e ∷ es) fs = ap (λ t. space ∷ (element_text e ++ t)) (rest_append es fs) ∙ ap (λ t. space ∷ t) (sym (append_assoc (element_text e) (list_rest es) (list_rest fs)))

escape_some : (b : ℕ) (t : Text) → escape b ++ t ≡ [] → ⊥
escape_some b t h = go (needs_escape b) h
  where
    go : (m : Bool) → cond m (backslash ∷ (letter_of b ∷ [])) (b ∷ []) ++ t ≡ [] → ⊥
    go true h = cc
    go false h = cc

element_some : (e : Text) → element_text e ≡ [] → ⊥
element_some [] h = cc
element_some (b ∷ bs) h = go (is_bare (b ∷ bs)) (balances 0 (b ∷ bs)) h
  where
    marked : (m : Bool) → cond m (backslash ∷ (hash ∷ flat_map escape bs)) (escape b ++ flat_map escape bs) ≡ [] → ⊥
    marked true h = cc
    marked false h = escape_some b (flat_map escape bs) h

    go : (m n : Bool) → cond m (b ∷ bs) (cond n (braced (b ∷ bs)) (escaped (b ∷ bs))) ≡ [] → ⊥
    go true n h = cc
    go false true h = cc
    go false false h = marked (b == hash) h

-- elements behind others
pub longer : (es fs : List Text) → (list_text es ≡ [] → ⊥) → (fs ≡ [] → ⊥) → list_text (es ++ fs) ≡ list_text es ++ space ∷ list_text fs
longer [] fs h g = absurd (h refl)
longer (e ∷ es) [] h g = absurd (g refl)
longer (e ∷ es) (f ∷ fs) h g = ap (λ t. element_text e ++ t) (rest_append es (f ∷ fs)) ∙ sym (append_assoc (element_text e) (list_rest es) (list_rest (f ∷ fs)))

-- the elements of an empty text
pub none_of : (es : List Text) → list_text es ≡ [] → es ≡ []
none_of [] h = refl
none_of (e ∷ es) h = absurd (element_some e (first_nothing (element_text e) (list_rest es) h))
  where
    first_nothing : (s t : Text) → s ++ t ≡ [] → s ≡ []
    first_nothing [] t h = refl
    first_nothing (b ∷ s) t h = cc

-- a list's text of a length that is read
pub read_again : (es fs : List Text) → length (list_text es) ≤ max_bytes → lengthened (list_text es) fs ≡ Ok (list_text (es ++ fs))
read_again es fs h = let e : list_of (list_text es) ≡ Ok es = (elements_law (list_text es) es h).1 (list_is es) in rw e refl

-- the elements that a variable is known to hold
pub held : (s : State) (p : Bool × Text) → HoldsList (value_at s p) → (es : List Text) × (value_or [] s p ≡ list_text es)
held s p h = go (value_at s p) refl h
  where
    go : (v : Option Text) → value_at s p ≡ v → HoldsList v → (es : List Text) × (value_or [] s p ≡ list_text es)
    go None e h = absurd h
    go (Some t) e h = (h.0, rw e h.1)

pub nothing_mapped : {A B : Type 0} (f : A → B) (xs : List A) → map f xs ≡ [] → xs ≡ []
nothing_mapped f [] h = refl
nothing_mapped f (x ∷ xs) h = cc
