-- What is written as a list is read as the same elements.
use Rattle.std.proofs.Common.{◌≡◌, ◌≢◌, ℕ, zero, suc, List, [], ◌∷◌, ◌++◌, Bool, true, false, not, ◌&&◌, ◌==◌, Option}
use Rattle.std.proofs.Common.{Some, None, flat_map, refl, sym, ap, subst, ◌∙◌, arith, append_assoc, ◌⊎◌, inl, inr}
use Rattle.std.proofs.lemmas.Bool.Decides.{nat_tests}
use Rattle.std.specs.List.{list_all}
use Rattle.tcltext.specs.chars.Bytes.{is_literal, backslash, hash, MayBegin, DoesBegin, is_space}
use Rattle.tcltext.specs.chars.Runs.{Text}
use Rattle.tcltext.specs.chars.Backslash.{after_backslash}
use Rattle.tcltext.specs.chars.Braces.{Balanced, nothing, other, inner}
use Rattle.tcltext.specs.list.ListGrammar as grammar
use Rattle.tcltext.specs.list.ListGrammar.{ElementPiece, Bare, begins_element, IsElement, IsList}
use Rattle.tcltext.specs.list.Lists.{needs_escape, begins_bare, is_bare, closed_one, depth_after, holds_of_depth, balances}
use Rattle.tcltext.specs.list.Lists.{letter_of, escape, escaped, element_text, list_rest, list_text}
use Rattle.tcltext.proofs.list.Runs.{is_byte, is_no_byte, true_false}

-- Braces: what closes behind so many more
abbrev Closes : ℕ → Text → Type 0
Closes zero bs = Balanced bs
Closes (suc d) bs = (a : Text) × (b : Text) × (bs ≡ a ++ (125 ∷ b)) × Balanced a × Closes d b

closes_other : (d b : ℕ) (bs : Text) → b ≢ 92 → b ≢ 123 → b ≢ 125 → Closes d bs → Closes d (b ∷ bs)
closes_other zero b bs x y z h = other x y z h
closes_other (suc d) b bs x y z h = (b ∷ h.0, h.1, ap (λ xs. b ∷ xs) h.2, other x y z h.3, h.4)

closes_inner : (d : ℕ) (inside bs : Text) → Balanced inside → Closes d bs → Closes d (123 ∷ (inside ++ 125 ∷ bs))
closes_inner zero inside bs i h = inner i h
closes_inner (suc d) inside bs i h =
    (123 ∷ (inside ++ 125 ∷ h.0), h.1, ap (λ xs. 123 ∷ (inside ++ 125 ∷ xs)) h.2 ∙ ap (λ xs. 123 ∷ xs) (sym (append_assoc inside (125 ∷ h.0) (125 ∷ h.1))), inner i h.3, h.4)

closes_open : (d : ℕ) (bs : Text) → Closes (suc d) bs → Closes d (123 ∷ bs)
closes_open d bs h = rw (h.2) (closes_inner d h.0 h.1 h.3 h.4)

goes : (more : ℕ → Bool) (step : Option ℕ) → holds_of_depth more step ≡ true → (d : ℕ) × (step ≡ Some d) × (more d ≡ true)
goes more None h = cc
goes more (Some d) h = (d, refl, h)

some_same : (m n : ℕ) → Some m ≡ Some n → m ≡ n
some_same m n h = cc

none_some : (n : ℕ) → None ≡ Some n → ⊥
none_some n h = cc

close_step : (d e : ℕ) (bs : Text) → closed_one d ≡ Some e → Closes e bs → Closes d (125 ∷ bs)
close_step zero e bs h k = absurd (none_some e h)
close_step (suc d) e bs h k = ([], bs, refl, nothing, subst (λ n. Closes n bs) (sym (some_same d e h)) k)

step_cases : (d e b : ℕ) (bs : Text) (t u v : Bool) → (b == 92) ≡ t → (b == 123) ≡ u → (b == 125) ≡ v → depth_after d b ≡ Some e → Closes e bs → Closes d (b ∷ bs)
step_cases d e b bs true u v t' u' v' h k = absurd (none_some e (rw t' at h))
step_cases d e b bs false true v t' u' v' h k =
    subst (λ x. Closes d (x ∷ bs)) (sym (is_byte b 123 u')) (closes_open d bs (subst (λ n. Closes n bs) (sym (some_same (suc d) e (rw (t', u') at h))) k))
step_cases d e b bs false false true t' u' v' h k = subst (λ x. Closes d (x ∷ bs)) (sym (is_byte b 125 v')) (close_step d e bs (rw (t', u', v') at h) k)
step_cases d e b bs false false false t' u' v' h k =
    closes_other d b bs (is_no_byte b 92 t') (is_no_byte b 123 u') (is_no_byte b 125 v') (subst (λ n. Closes n bs) (sym (some_same d e (rw (t', u', v') at h))) k)

nothing_open : (d : ℕ) → (d == 0) ≡ true → Closes d []
nothing_open zero h = nothing
nothing_open (suc d) h = absurd (never d h) where
  never : (d : ℕ) → (suc d == 0) ≡ true → ⊥
  never d h = grind (arith, nat_tests)

closes : (bs : Text) (d : ℕ) → balances d bs ≡ true → Closes d bs
closes [] d h = nothing_open d h
closes (b ∷ bs) d h =
    let g = goes (λ e. balances e bs) (depth_after d b) h in
    step_cases d g.0 b bs (b == 92) (b == 123) (b == 125) refl refl refl g.1 (closes bs g.0 g.2)

-- Backslashes
plain_byte : (b : ℕ) → is_literal b ≡ true → (is_space b ≡ false) × ((b == backslash) ≡ false)
plain_byte b h = (grind (arith, nat_tests), grind (arith, nat_tests))

marked_or_plain : (b : ℕ) (t : Bool) → needs_escape b ≡ t → (needs_escape b ≡ true) ⊎ (is_literal b ≡ true)
marked_or_plain b true h = inl h
marked_or_plain b false h = inr (ap not h)

unmarked : (t : Bool) → not t ≡ true → t ≡ false
unmarked true h = cc
unmarked false h = refl

-- a marked byte that is no white space but the blank stands for itself
itself_cases : (b : ℕ) (bs : Text) (a c d e g i j k l : Bool) → (b == 32) ≡ a → (b == 59) ≡ c → (b == 34) ≡ d
    → (b == 36) ≡ e → (b == 91) ≡ g → (b == 93) ≡ i → (b == 123) ≡ j → (b == 125) ≡ k → (b == 92) ≡ l
    → needs_escape b ≡ true → (b == 10) ≡ false → (b == 9) ≡ false → (b == 13) ≡ false → (b == 11) ≡ false → (b == 12) ≡ false → after_backslash (b ∷ bs) ≡ Some (b ∷ [], bs)
itself_cases b bs true c d e g i j k l a' c' d' e' g' i' j' k' l' h n t r v f = subst (λ x. after_backslash (x ∷ bs) ≡ Some (x ∷ [], bs)) (sym (is_byte b 32 a')) refl
itself_cases b bs false true d e g i j k l a' c' d' e' g' i' j' k' l' h n t r v f = subst (λ x. after_backslash (x ∷ bs) ≡ Some (x ∷ [], bs)) (sym (is_byte b 59 c')) refl
itself_cases b bs false false true e g i j k l a' c' d' e' g' i' j' k' l' h n t r v f = subst (λ x. after_backslash (x ∷ bs) ≡ Some (x ∷ [], bs)) (sym (is_byte b 34 d')) refl
itself_cases b bs false false false true g i j k l a' c' d' e' g' i' j' k' l' h n t r v f = subst (λ x. after_backslash (x ∷ bs) ≡ Some (x ∷ [], bs)) (sym (is_byte b 36 e')) refl
itself_cases b bs false false false false true i j k l a' c' d' e' g' i' j' k' l' h n t r v f = subst (λ x. after_backslash (x ∷ bs) ≡ Some (x ∷ [], bs)) (sym (is_byte b 91 g')) refl
itself_cases b bs false false false false false true j k l a' c' d' e' g' i' j' k' l' h n t r v f = subst (λ x. after_backslash (x ∷ bs) ≡ Some (x ∷ [], bs)) (sym (is_byte b 93 i')) refl
itself_cases b bs false false false false false false true k l a' c' d' e' g' i' j' k' l' h n t r v f = subst (λ x. after_backslash (x ∷ bs) ≡ Some (x ∷ [], bs)) (sym (is_byte b 123 j')) refl
itself_cases b bs false false false false false false false true l a' c' d' e' g' i' j' k' l' h n t r v f = subst (λ x. after_backslash (x ∷ bs) ≡ Some (x ∷ [], bs)) (sym (is_byte b 125 k')) refl
itself_cases b bs false false false false false false false false true a' c' d' e' g' i' j' k' l' h n t r v f = subst (λ x. after_backslash (x ∷ bs) ≡ Some (x ∷ [], bs)) (sym (is_byte b 92 l')) refl
itself_cases b bs false false false false false false false false false a' c' d' e' g' i' j' k' l' h n t r v f = absurd (true_false (sym (rw (n, t, r, v, f, a', c', d', e', g', i', j', k', l') at h)))

marked_itself : (b : ℕ) (bs : Text) → needs_escape b ≡ true → (b == 10) ≡ false → (b == 9) ≡ false → (b == 13) ≡ false
    → (b == 11) ≡ false → (b == 12) ≡ false → after_backslash (b ∷ bs) ≡ Some (b ∷ [], bs)
marked_itself b bs h n t r v f = itself_cases b bs (b == 32) (b == 59) (b == 34) (b == 36) (b == 91) (b == 93) (b == 123) (b == 125) (b == 92) refl refl refl refl refl refl refl refl refl h n t r v f

letter_cases : (b : ℕ) (bs : Text) (n t r v f : Bool) → (b == 10) ≡ n → (b == 9) ≡ t → (b == 13) ≡ r → (b == 11) ≡ v → (b == 12) ≡ f → needs_escape b ≡ true
    → after_backslash (letter_of b ∷ bs) ≡ Some (b ∷ [], bs)
letter_cases b bs true t r v f n' t' r' v' f' m = subst (λ x. after_backslash (letter_of x ∷ bs) ≡ Some (x ∷ [], bs)) (sym (is_byte b 10 n')) refl
letter_cases b bs false true r v f n' t' r' v' f' m = subst (λ x. after_backslash (letter_of x ∷ bs) ≡ Some (x ∷ [], bs)) (sym (is_byte b 9 t')) refl
letter_cases b bs false false true v f n' t' r' v' f' m = subst (λ x. after_backslash (letter_of x ∷ bs) ≡ Some (x ∷ [], bs)) (sym (is_byte b 13 r')) refl
letter_cases b bs false false false true f n' t' r' v' f' m = subst (λ x. after_backslash (letter_of x ∷ bs) ≡ Some (x ∷ [], bs)) (sym (is_byte b 11 v')) refl
letter_cases b bs false false false false true n' t' r' v' f' m = subst (λ x. after_backslash (letter_of x ∷ bs) ≡ Some (x ∷ [], bs)) (sym (is_byte b 12 f')) refl
letter_cases b bs false false false false false n' t' r' v' f' m = ap (λ x. after_backslash (x ∷ bs)) (same_letter b n' t' r' v' f') ∙ marked_itself b bs m n' t' r' v' f' where
  same_letter : (b : ℕ) → (b == 10) ≡ false → (b == 9) ≡ false → (b == 13) ≡ false → (b == 11) ≡ false → (b == 12) ≡ false → letter_of b ≡ b
  same_letter b n t r v f = rw (n, t, r, v, f) refl

escape_means : (b : ℕ) (bs ts rest : Text) → ElementPiece is_space bs ts rest → ElementPiece is_space (escape b ++ bs) (b ∷ ts) rest
escape_means b bs ts rest s = elim (marked_or_plain b (needs_escape b) refl) [
  | inl m ↦ rw m (grammar.ElementPiece.substituted (b ∷ []) bs (letter_cases b bs (b == 10) (b == 9) (b == 13) (b == 11) (b == 12) refl refl refl refl refl m) s)
  | inr h ↦ (let u = unmarked (needs_escape b) h in let two = plain_byte b h in rw u (grammar.ElementPiece.literal two.0 two.1 s))
]

escapes_mean : (e rest : Text) → ElementPiece is_space (flat_map escape e ++ rest) e rest
escapes_mean [] rest = grammar.ElementPiece.nothing
escapes_mean (b ∷ e) rest = subst (λ x. ElementPiece is_space x (b ∷ e) rest)
    (sym (append_assoc (escape b) (flat_map escape e) rest))
    (escape_means b (flat_map escape e ++ rest) e rest (escapes_mean e rest))

both_hold : (s t : Bool) → (s && t) ≡ true → (s ≡ true) × (t ≡ true)
both_hold true t h = (refl, h)
both_hold false t h = cc

plain_means : (e rest : Text) → list_all is_literal e ≡ true → ElementPiece is_space (e ++ rest) e rest
plain_means [] rest h = grammar.ElementPiece.nothing
plain_means (b ∷ e) rest h =
    let two = both_hold (is_literal b) (list_all is_literal e) h in
    let one = plain_byte b two.0 in
    grammar.ElementPiece.literal one.0 one.1 (plain_means e rest two.1)

-- Elements
plain_begins : (b : ℕ) → is_literal b ≡ true → begins_element b ≡ true
plain_begins b h = grind (arith, nat_tests)

bare_element : (e rest : Text) → is_bare e ≡ true → MayBegin is_space rest → IsElement (e ++ rest) e rest
bare_element [] rest h k = cc
bare_element (b ∷ e) rest h k =
    let two = both_hold (begins_bare (b ∷ e)) (list_all is_literal (b ∷ e)) h in
    grammar.IsElement.bare (plain_begins b (both_hold (is_literal b) (list_all is_literal e) two.1).0) (grammar.Bare.separated (plain_means (b ∷ e) rest two.1) k)

escape_begins : (b : ℕ) (bs : Text) → DoesBegin begins_element (escape b ++ bs)
escape_begins b bs = elim (marked_or_plain b (needs_escape b) refl) [
  | inl m ↦ rw m refl
  | inr h ↦ (let u = unmarked (needs_escape b) h in rw u (plain_begins b h))
]

escaped_cases : (b : ℕ) (e rest : Text) (t : Bool) → (b == hash) ≡ t → MayBegin is_space rest → IsElement (escaped (b ∷ e) ++ rest) (b ∷ e) rest
escaped_cases b e rest true t k =
    rw t (grammar.IsElement.bare refl (grammar.Bare.separated
    (subst (λ x. ElementPiece is_space (backslash ∷ (hash ∷ (flat_map escape e ++ rest))) (x ∷ e) rest)
    (sym (is_byte b hash t)) (grammar.ElementPiece.substituted (hash ∷ []) (flat_map escape e ++ rest) refl
    (escapes_mean e rest))) k))
escaped_cases b e rest false t k =
    rw t (grammar.IsElement.bare (subst (DoesBegin begins_element)
    (sym (append_assoc (escape b) (flat_map escape e) rest)) (escape_begins b (flat_map escape e ++ rest)))
    (grammar.Bare.separated (escapes_mean (b ∷ e) rest) k))

escaped_element : (e rest : Text) → balances 0 e ≡ false → MayBegin is_space rest → IsElement (escaped e ++ rest) e rest
escaped_element [] rest h k = cc
escaped_element (b ∷ e) rest h k = escaped_cases b e rest (b == hash) refl k

element_cases : (e rest : Text) (s t : Bool) → is_bare e ≡ s → balances 0 e ≡ t → MayBegin is_space rest → IsElement (element_text e ++ rest) e rest
element_cases e rest true t s' t' k = rw s' (bare_element e rest s' k)
element_cases e rest false true s' t' k = rw (s', t') (grammar.IsElement.in_braces rest (append_assoc e (125 ∷ []) rest) (closes e 0 t'))
element_cases e rest false false s' t' k = rw (s', t') (escaped_element e rest t' k)

element_is : (e rest : Text) → MayBegin is_space rest → IsElement (element_text e ++ rest) e rest
element_is e rest k = element_cases e rest (is_bare e) (balances 0 e) refl refl k

-- Lists
rest_begins : (es : List Text) → MayBegin is_space (list_rest es)
rest_begins [] = tt
rest_begins (e ∷ es) = refl

rest_is : (es : List Text) → IsList (list_rest es) es
rest_is [] = tt
rest_is (e ∷ es) = record {
  spaces = 32 ∷ [];
  body = element_text e ++ list_rest es;
  rest = list_rest es;
  whole = refl;
  are_spaces = (refl, tt);
  is_element = element_is e (list_rest es) (rest_begins es);
  is_separated = rest_begins es;
  more = rest_is es;
}

-- The text of a list is a list with its elements.
pub list_is : (es : List Text) → IsList (list_text es) es
list_is [] = tt
list_is (e ∷ es) = record {
  spaces = [];
  body = element_text e ++ list_rest es;
  rest = list_rest es;
  whole = refl;
  are_spaces = tt;
  is_element = element_is e (list_rest es) (rest_begins es);
  is_separated = rest_begins es;
  more = rest_is es;
}
