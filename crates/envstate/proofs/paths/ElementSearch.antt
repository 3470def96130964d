-- An element is one of a text's exactly where it stands between two delimiters, once the text has one at each end.
use Rattle.std.proofs.Common.{◌≡◌, ℕ, ◌<◌, ◌≤◌, Bool, true, false, cond, not, ◌||◌, List, [], ◌∷◌, ◌++◌, refl, sym, ap}
use Rattle.std.proofs.Common.{◌∙◌, subst, arith, eqb, Some, None, append_assoc, length-append, take-append-drop}
use Rattle.std.proofs.Common.{take as front_of, drop as cut}
use Rattle.std.specs.Prelude.{bytes_eq}
use Rattle.std.specs.List.{onto_first, join_with_byte}
use Rattle.std.specs.Bool.{MatchBool}
use Rattle.std.specs.Str.Pattern.{FindsText, SplitsAroundMatch}
use Rattle.std.proofs.Math.ListN.{length}
use Rattle.std.proofs.lemmas.Bool.{false≢true}
use Rattle.std.proofs.lemmas.List.{drop_at, append_cancel_right}
use Rattle.std.proofs.lemmas.List.Elements.{filter-append}
use Rattle.std.proofs.lemmas.List.Splits.{length-slice_split, join_with_byte-slice_split}
use Rattle.envvars.specs.Texts.{Text, has}
use Rattle.envvars.specs.Fields.{without}
use Rattle.envvars.proofs.TextLemmas.{same_text, bytes_eq-same, bytes_eq-symmetric, or_left, or_right}
use Rattle.envstate.specs.paths.PathTexts.{split_elements, HasNoDelimiter}
use Rattle.envstate.proofs.paths.RoundTrip.{eqb-same, split_front}

-- splitting at a delimiter inside

some_parts : (d : ℕ) (t : Text) → 0 < length (split_elements d t)
some_parts d t = omega (arith, length-slice_split (λ (b : ℕ). eqb b d) t)

onto_first-append : (c : ℕ) (ps qs : List Text) → 0 < length ps → onto_first c (ps ++ qs) ≡ onto_first c ps ++ qs
onto_first-append c [] qs l = absurd (omega arith)
onto_first-append c (p ∷ ps) qs l = refl

cut-append : (b : Bool) (c : ℕ) (ps qs : List Text) → 0 < length ps → cond b ([] ∷ (ps ++ qs)) (onto_first c (ps ++ qs)) ≡ cond b ([] ∷ ps) (onto_first c ps) ++ qs
cut-append true c ps qs l = refl
cut-append false c ps qs l = onto_first-append c ps qs l

split_elements-append : (d : ℕ) (t u : Text) → split_elements d (t ++ d ∷ u) ≡ split_elements d t ++ split_elements d u
split_elements-append d [] u = rw (eqb-same d) refl
split_elements-append d (c ∷ t) u =
    ap (λ (ps : List Text). cond (eqb c d) ([] ∷ ps) (onto_first c ps)) (split_elements-append d t u) ∙ cut-append (eqb c d) c (split_elements d t) (split_elements d u) (some_parts d t)

split_elements-surrounded : (d : ℕ) (t : Text) → split_elements d (d ∷ (t ++ d ∷ [])) ≡ [] ∷ (split_elements d t ++ [] ∷ [])
split_elements-surrounded d t = split_elements-append d [] (t ++ d ∷ []) ∙ ap (λ (ps : List Text). [] ∷ ps) (split_elements-append d t [])

-- x stands between two delimiters in t, which has one more at each end
record Stands (d : ℕ) (x t : Text) : Type 0 where
  front : Text
  rest : Text
  is : d ∷ (t ++ d ∷ []) ≡ front ++ (d ∷ (x ++ d ∷ rest))

-- an element of the list stands in its text

stands_first : (d : ℕ) (x p j : Text) → x ≡ p → Stands d x (p ++ d ∷ j)
stands_first d x p j e = record {
  front = [];
  rest = j ++ d ∷ [];
  is = ap (λ (l : Text). d ∷ l) (append_assoc p (d ∷ j) (d ∷ []) ∙ ap (λ (l : Text). l ++ d ∷ (j ++ d ∷ [])) (sym e));
}

stands_later : (d : ℕ) (x p j : Text) → Stands d x j → Stands d x (p ++ d ∷ j)
stands_later d x p j s = record {
  front = d ∷ (p ++ s.front);
  rest = s.rest;
  is = ap (λ (l : Text). d ∷ l) (append_assoc p (d ∷ j) (d ∷ []) ∙ ap (λ (l : Text). p ++ l) s.is ∙ sym (append_assoc p s.front (d ∷ (x ++ d ∷ s.rest))));
}

stands_at : (d : ℕ) (x p j : Text) (b h : Bool) → bytes_eq x p ≡ b → (b || h) ≡ true → (h ≡ true → Stands d x j) → Stands d x (p ++ d ∷ j)
stands_at d x p j true h e o k = stands_first d x p j (same_text x p e)
stands_at d x p j false h e o k = stands_later d x p j (k o)

stands_alone : (d : ℕ) (x p : Text) (b : Bool) → bytes_eq x p ≡ b → (b || false) ≡ true → Stands d x p
stands_alone d x p true e o = record { front = []; rest = []; is = ap (λ (l : Text). d ∷ (l ++ d ∷ [])) (sym (same_text x p e)) }
stands_alone d x p false e o = absurd (false≢true o)

stands_in : (d : ℕ) (x p : Text) (ps : List Text) → has x (p ∷ ps) ≡ true → Stands d x (join_with_byte d (p ∷ ps))
stands_in d x p [] h = stands_alone d x p (bytes_eq x p) refl h
stands_in d x p (q ∷ qs) h = stands_at d x p (join_with_byte d (q ∷ qs)) (bytes_eq x p) (has x (q ∷ qs)) refl h (stands_in d x q qs)

stands_in_any : (d : ℕ) (x : Text) (ps : List Text) → has x ps ≡ true → Stands d x (join_with_byte d ps)
stands_in_any d x [] h = absurd (false≢true h)
stands_in_any d x (p ∷ ps) h = stands_in d x p ps h

stands : (d : ℕ) (x t : Text) → has x (split_elements d t) ≡ true → Stands d x t
stands d x t h = subst (Stands d x) (join_with_byte-slice_split d t) (stands_in_any d x (split_elements d t) h)

-- what stands in a text is one of its elements

or_true : (b h : Bool) → h ≡ true → (b || h) ≡ true
or_true true h e = refl
or_true false h e = e

here_true : (b h : Bool) → b ≡ true → (b || h) ≡ true
here_true true h e = refl
here_true false h e = absurd (false≢true e)

inside : (ms fs : List Text) (x z r : Text) (rs : List Text) → ms ++ z ∷ [] ≡ fs ++ x ∷ r ∷ rs → has x ms ≡ true
inside [] [] x z r rs e = cc
inside [] (f ∷ []) x z r rs e = cc
inside [] (f ∷ g ∷ fs) x z r rs e = cc
inside (m ∷ ms) [] x z r rs e = let same : m ≡ x = cc in here_true (bytes_eq x m) (has x ms) (ap (bytes_eq x) same ∙ bytes_eq-same x)
inside (m ∷ ms) (f ∷ fs) x z r rs e = let more : ms ++ z ∷ [] ≡ fs ++ x ∷ r ∷ rs = cc in or_true (bytes_eq x m) (has x ms) (inside ms fs x z r rs more)

inside_any : (ms fs : List Text) (x z : Text) (rs : List Text) → 0 < length fs → 0 < length rs → [] ∷ (ms ++ z ∷ []) ≡ fs ++ x ∷ rs → has x ms ≡ true
inside_any ms [] x z rs l k e = absurd (omega arith)
inside_any ms (f ∷ fs) x z [] l k e = absurd (omega arith)
inside_any ms (f ∷ fs) x z (r ∷ rs) l k e = let more : ms ++ z ∷ [] ≡ fs ++ x ∷ r ∷ rs = cc in inside ms fs x z r rs more

split_around : (d : ℕ) (x front rest : Text) {t : Text} → HasNoDelimiter d x → t ≡ front ++ (d ∷ (x ++ d ∷ rest)) → split_elements d t ≡ split_elements d front ++ x ∷ split_elements d rest
split_around d x front rest n e =
    ap (split_elements d) e ∙ split_elements-append d front (x ++ d ∷ rest) ∙ ap (λ (ps : List Text). split_elements d front ++ ps) (split_front d x rest n)

stands_has : (d : ℕ) (x t : Text) → HasNoDelimiter d x → Stands d x t → has x (split_elements d t) ≡ true
stands_has d x t n s =
    inside_any (split_elements d t) (split_elements d s.front) x [] (split_elements d s.rest) (some_parts d s.front) (some_parts d s.rest)
    (sym (split_elements-surrounded d t) ∙ split_around d x s.front s.rest n s.is)

-- what a search for the element with its delimiters says

found : (d : ℕ) (x t : Text) (i : ℕ) (rest : Text) → cut i (d ∷ (t ++ d ∷ [])) ≡ (d ∷ (x ++ d ∷ [])) ++ rest → Stands d x t
found d x t i rest e = record {
  front = front_of i (d ∷ (t ++ d ∷ []));
  rest = rest;
  is = sym (take-append-drop i (d ∷ (t ++ d ∷ []))) ∙ ap (λ (l : Text). front_of i (d ∷ (t ++ d ∷ [])) ++ l) (e ∙ ap (λ (l : Text). d ∷ l) (append_assoc x (d ∷ []) rest));
}

not_found : (d : ℕ) (x t : Text) → ((i : ℕ) → i ≤ length (d ∷ (t ++ d ∷ [])) → (rest : Text) → cut i (d ∷ (t ++ d ∷ [])) ≡ (d ∷ (x ++ d ∷ [])) ++ rest → ⊥) → Stands d x t → ⊥
not_found d x t lacks s =
    lacks (length s.front)
    (let l : length (d ∷ (t ++ d ∷ [])) ≡ length (s.front ++ (d ∷ (x ++ d ∷ s.rest))) = ap length s.is in omega (arith, length-append s.front (d ∷ (x ++ d ∷ s.rest))))
    s.rest
    (ap (cut (length s.front)) s.is ∙ drop_at s.front (d ∷ (x ++ d ∷ s.rest)) (length s.front) refl ∙ ap (λ (l : Text). d ∷ l) (sym (append_assoc x (d ∷ []) s.rest)))

by_search : (d : ℕ) (x t : Text) (b h : Bool) → h ≡ has x (split_elements d t) → HasNoDelimiter d x
    → MatchBool b ((i : ℕ) × (j : ℕ) × FindsText (d ∷ (x ++ d ∷ [])) (d ∷ (t ++ d ∷ [])) (Some (i, j)) × (i ≤ j)
    × (j ≤ length (d ∷ (t ++ d ∷ [])))) (FindsText (d ∷ (x ++ d ∷ [])) (d ∷ (t ++ d ∷ [])) None) → b ≡ h
by_search d x t true true e n m = refl
by_search d x t false false e n m = refl
by_search d x t true false e n m = absurd (false≢true (e ∙ stands_has d x t n (found d x t m.0 (cut m.1 (d ∷ (t ++ d ∷ []))) m.2.1.split)))
by_search d x t false true e n m = absurd (not_found d x t m (stands d x t (sym e)))

pub has-by_search : (d : ℕ) (x t needle text : Text) (b : Bool) → HasNoDelimiter d x → needle ≡ d ∷ (x ++ d ∷ []) → text ≡ d ∷ (t ++ d ∷ [])
    → MatchBool b ((i : ℕ) × (j : ℕ) × FindsText needle text (Some (i, j)) × (i ≤ j) × (j ≤ length text)) (FindsText needle text None) → b ≡ has x (split_elements d t)
has-by_search d x t needle text b n e f m =
    by_search d x t b (has x (split_elements d t)) refl n
    (subst (λ (u : Text). MatchBool b ((i : ℕ) × (j : ℕ) × FindsText (d ∷ (x ++ d ∷ [])) u (Some (i, j)) × (i ≤ j) × (j ≤ length u)) (FindsText (d ∷ (x ++ d ∷ [])) u None)) f
    (subst (λ (v : Text). MatchBool b ((i : ℕ) × (j : ℕ) × FindsText v text (Some (i, j)) × (i ≤ j) × (j ≤ length text)) (FindsText v text None)) e m))

-- what is left of a text without an element between two delimiters

kept_at : (b : Bool) (y : Text) (ws ys : List Text) → b ≡ false → ws ≡ ys → cond (not b) (y ∷ ws) ws ≡ y ∷ ys
kept_at true y ws ys e h = absurd (false≢true (sym e))
kept_at false y ws ys e h = ap (λ (l : List Text). y ∷ l) h

without-absent : (x : Text) (ys : List Text) → has x ys ≡ false → without x ys ≡ ys
without-absent x [] h = refl
without-absent x (y ∷ ys) h = kept_at (bytes_eq y x) y (without x ys) ys (bytes_eq-symmetric y x ∙ or_left (bytes_eq x y) (has x ys) h) (without-absent x ys (or_right (bytes_eq x y) (has x ys) h))

without-itself : (x : Text) (ys : List Text) → without x (x ∷ ys) ≡ without x ys
without-itself x ys = ap (λ (b : Bool). cond (not b) (x ∷ without x ys) (without x ys)) (bytes_eq-same x)

left_over : (x z : Text) (fs bs ts rs : List Text) → fs ++ bs ≡ rs ++ z ∷ [] → ts ++ z ∷ [] ≡ fs ++ x ∷ bs → has x rs ≡ false → without x ts ≡ rs
left_over x z fs bs ts rs e g h =
    let w : List Text → List Text = without x in
    let append : (xs ys : List Text) → w (xs ++ ys) ≡ w xs ++ w ys = filter-append (λ (y : Text). not (bytes_eq y x)) in
    append_cancel_right (w ts) (w rs) (w (z ∷ []))
    (sym (append ts (z ∷ [])) ∙ ap w g ∙ append fs (x ∷ bs) ∙ ap (λ (l : List Text). w fs ++ l) (without-itself x bs) ∙ sym (append fs bs) ∙ ap w e ∙ append rs (z ∷ []))
    ∙ without-absent x rs h

left_over_any : (x z : Text) (fs bs ts rs : List Text) → 0 < length fs → fs ++ bs ≡ [] ∷ (rs ++ z ∷ []) → [] ∷ (ts ++ z ∷ []) ≡ fs ++ x ∷ bs → has x rs ≡ false → without x ts ≡ rs
left_over_any x z [] bs ts rs l e g h = absurd (omega arith)
left_over_any x z (f ∷ fs) bs ts rs l e g h =
    let kept : fs ++ bs ≡ rs ++ z ∷ [] = cc in
    let all : ts ++ z ∷ [] ≡ fs ++ x ∷ bs = cc in
    left_over x z fs bs ts rs kept all h

pub without-cut_out : (d : ℕ) (x t front back r needle text kept : Text) (there : Bool) → HasNoDelimiter d x
    → needle ≡ d ∷ (x ++ d ∷ []) → text ≡ d ∷ (t ++ d ∷ []) → SplitsAroundMatch (FindsText needle) text front back
    → kept ≡ front ++ d ∷ back → kept ≡ d ∷ (r ++ d ∷ []) → there ≡ has x (split_elements d r) → there ≡ false → split_elements d r ≡ without x (split_elements d t)
without-cut_out d x t front back r needle text kept there n e f m k g h a =
    let split : text ≡ front ++ (d ∷ (x ++ d ∷ back))
    = sym (take-append-drop m.0 text) ∙ ap (λ (l : Text). front_of m.0 text ++ l)
    (m.2.1.split ∙ ap (λ (l : Text). l ++ cut m.1 text) e
    ∙ ap (λ (l : Text). d ∷ l) (append_assoc x (d ∷ []) (cut m.1 text)))
    ∙ ap (λ (l : Text). l ++ (d ∷ (x ++ d ∷ cut m.1 text))) (sym m.3) ∙ ap (λ (l : Text). front ++ (d ∷ (x ++ d ∷ l))) (sym m.4) in
    sym (left_over_any x [] (split_elements d front) (split_elements d back) (split_elements d t) (split_elements d r) (some_parts d front)
    (sym (split_elements-append d front back) ∙ ap (split_elements d) (sym k ∙ g) ∙ split_elements-surrounded d r)
    (sym (split_elements-surrounded d t) ∙ split_around d x front back n (sym f ∙ split)) (sym h ∙ a))
