-- Names that aren't empty, and texts of names.
use Rattle.std.proofs.Common.{◌≡◌, ℕ, Bool, true, false, not, cond, Bor, List, filter, map, [], ◌∷◌, ◌++◌, ◌||◌, ◌&&◌}
use Rattle.std.proofs.Common.{length, refl, sym, ap, ◌∙◌, subst, inl, inr, append_assoc, slice_index, get_or, take, ◌+◌}
use Rattle.std.proofs.Common.{◌<◌, arith}
use Rattle.std.specs.Prelude.{◌==◌}
use Rattle.std.specs.List.{All, list_any, onto_first, slice_split}
use Rattle.std.specs.Str.{bytes_eq}
use Rattle.std.proofs.lemmas.Bool.{cases_Bool}
use Rattle.std.proofs.lemmas.Bool.Decides.{nat_tests}
use Rattle.std.proofs.lemmas.List.{take_more}
use Rattle.std.proofs.lemmas.List.Elements.{All-cons, All-head, All-nil, All-same, All-tail}
use Rattle.std.proofs.lemmas.List.Splits.{slice_split_at, slice_split-cons_no, slice_split-cons_yes}
use Rattle.std.proofs.lemmas.Map.Views.{any-filter_same}
use Rattle.std.proofs.lemmas.Slice.Eq.{bytes_eq-Decides}
use Rattle.modulename.specs.ModuleName.{Text}
use Rattle.filetree.proofs.CachedAnswers.{map_end}
use Rattle.filetree.specs.Modulefiles.{is_empty}
use Rattle.filetree.specs.Names.{IsName, has_name, is_hidden, names_of, text_of_names}

pub is_empty-length : (name : Text) → (length name == 0) ≡ is_empty name
is_empty-length [] = refl
is_empty-length (b ∷ bs) = grind (arith, nat_tests)

kept_at : (b : Bool) (x : Bor Text) (xs : List (Bor Text)) (ys : List Text) → map (λ y. y.now) xs ≡ ys
    → map (λ y. y.now) (cond b (x ∷ xs) xs) ≡ cond b (x.now ∷ ys) ys
kept_at true x xs ys e = ap (λ zs. x.now ∷ zs) e
kept_at false x xs ys e = e

-- names are kept by their texts
pub map-kept : (p : Text → Bool) (xs : List (Bor Text))
    → map (λ x. x.now) (filter (λ x. p x.now) xs) ≡ filter p (map (λ x. x.now) xs)
map-kept p [] = refl
map-kept p (x ∷ xs) = kept_at (p x.now) x _ _ (map-kept p xs)

-- no byte is a NUL
abbrev pub HasNoNul : List ℕ → Type 0
HasNoNul name = All (λ b. (b == 0) ≡ false) name

no_clash : ◌≡◌ {A = Bool} true false → ⊥
no_clash e = cc

-- a test of the first byte, where there may be none
pub is_hidden-first : (name : List ℕ) → (slice_index name 0 == 46) ≡ is_hidden name
is_hidden-first [] = refl
is_hidden-first (b ∷ bs) = refl

left_false : (a b : Bool) → a || b ≡ false → a ≡ false
left_false true b e = e
left_false false b e = refl

right_false : (a b : Bool) → a || b ≡ false → b ≡ false
right_false true b e = absurd (no_clash e)
right_false false b e = e

-- a hidden name is none of names that aren't hidden
pub none_hidden : (name : List ℕ) (names : List (List ℕ)) → is_hidden name ≡ true → list_any is_hidden names ≡ false
    → list_any (bytes_eq name) names ≡ false
none_hidden name [] h e = refl
none_hidden name (x ∷ xs) h e = elim (cases_Bool (bytes_eq name x)) [
  | inl t ↦ absurd (no_clash (sym (ap is_hidden (sym ((bytes_eq-Decides name x).0 t)) ∙ h) ∙ left_false (is_hidden x) (list_any is_hidden xs) e))
  | inr f ↦ ap (λ b. b || list_any (bytes_eq name) xs) f ∙ none_hidden name xs h (right_false (is_hidden x) (list_any is_hidden xs) e)
]

not_empty : (name : List ℕ) → is_hidden name ≡ true → not (is_empty name) ≡ true
not_empty [] h = absurd (no_clash (sym h))
not_empty (b ∷ bs) h = refl

-- a hidden name is looked for among the parts, of which some may be empty
pub parts_have : (name text : List ℕ) → is_hidden name ≡ true
    → list_any (bytes_eq name) (slice_split (λ b. b == 0) text) ≡ has_name text name
parts_have name text h =
    sym (any-filter_same (bytes_eq name) (λ n. not (is_empty n)) true (λ k e. subst (λ n. not (is_empty n) ≡ true) ((bytes_eq-Decides name k).0 e) (not_empty name h)) (slice_split (λ b. b == 0) text))

-- the parts between NULs have no NUL
onto_no_nul : (x : ℕ) (parts : List (List ℕ)) → (x == 0) ≡ false → All HasNoNul parts → All HasNoNul (onto_first x parts)
onto_no_nul x [] e h = All-cons HasNoNul (x ∷ []) [] (All-cons (λ b. (b == 0) ≡ false) x [] e (All-nil (λ b. (b == 0) ≡ false))) (All-nil HasNoNul)
onto_no_nul x (part ∷ parts) e h =
    All-cons HasNoNul (x ∷ part) parts (All-cons (λ b. (b == 0) ≡ false) x part e (All-head HasNoNul part parts h)) (All-tail HasNoNul part parts h)

parts_no_nul : (text : List ℕ) → All HasNoNul (slice_split (λ b. b == 0) text)
parts_no_nul [] = All-cons HasNoNul [] [] (All-nil (λ b. (b == 0) ≡ false)) (All-nil HasNoNul)
parts_no_nul (x ∷ xs) =
    let parts = slice_split (λ b. b == 0) xs in
    elim (cases_Bool (x == 0)) [
      | inl e ↦ All-same HasNoNul _ ([] ∷ parts) (slice_split-cons_yes (λ b. b == 0) x xs e) (All-cons HasNoNul [] parts (All-nil (λ b. (b == 0) ≡ false)) (parts_no_nul xs))
      | inr f ↦ All-same HasNoNul _ (onto_first x parts) (slice_split-cons_no (λ b. b == 0) x xs f) (onto_no_nul x parts f (parts_no_nul xs))
    ]

kept_name : (part : List ℕ) (rest : List (List ℕ)) → HasNoNul part → All IsName rest → All IsName (cond (not (is_empty part)) (part ∷ rest) rest)
kept_name [] rest n h = h
kept_name (b ∷ bs) rest n h = All-cons IsName (b ∷ bs) rest (refl, n) h

kept_names : (parts : List (List ℕ)) → All HasNoNul parts → All IsName (filter (λ name. not (is_empty name)) parts)
kept_names [] h = All-nil IsName
kept_names (part ∷ parts) h = kept_name part _ (All-head HasNoNul part parts h) (kept_names parts (All-tail HasNoNul part parts h))

pub names_of-IsName : (text : List ℕ) → All IsName (names_of text)
names_of-IsName text = kept_names (slice_split (λ b. b == 0) text) (parts_no_nul text)

-- the names of a text that is made of them
pub names_of-text : (names : List (List ℕ)) → All IsName names → names_of (text_of_names names) ≡ names
names_of-text [] h = refl
names_of-text (name ∷ names) h =
    let is : IsName name = All-head IsName name names h in
    let rest = text_of_names names in
    ap (filter (λ n. not (is_empty n))) (slice_split_at (λ b. b == 0) name 0 rest is.1 refl)
    ∙ ap (λ b. cond (not b) (name ∷ names_of rest) (names_of rest)) is.0
    ∙ ap (λ ns. name ∷ ns) (names_of-text names (All-tail IsName name names h))

text_of_names-end : (names : List (List ℕ)) (name : List ℕ) → text_of_names (names ++ name ∷ []) ≡ text_of_names names ++ name ++ 0 ∷ []
text_of_names-end [] name = refl
text_of_names-end (x ∷ xs) name =
    let t = text_of_names xs in
    ap (λ l. x ++ 0 ∷ l) (text_of_names-end xs name)
    ∙ sym (ap (λ l. l ++ 0 ∷ []) (append_assoc x (0 ∷ t) name) ∙ append_assoc x (0 ∷ (t ++ name)) (0 ∷ []))

-- one name more
pub text_of_names-next : (names : List (Bor Text)) (i : ℕ) (d : Bor Text) → i < length names
    → text_of_names (map (λ x. x.now) (take (i + 1) names)) ≡ text_of_names (map (λ x. x.now) (take i names)) ++ (get_or names i d).now ++ 0 ∷ []
text_of_names-next names i d l =
    ap (λ ns. text_of_names (map (λ x. x.now) ns)) (take_more names i d l)
    ∙ ap text_of_names (map_end (λ x. x.now) (take i names) (get_or names i d))
    ∙ text_of_names-end (map (λ x. x.now) (take i names)) (get_or names i d).now

pub not_or : (a b : Bool) → (not a && not b) ≡ not (a || b)
not_or true b = refl
not_or false b = refl

-- names are tested by their texts
pub any-map : (p : Text → Bool) (xs : List (Bor Text)) → list_any (λ x. p x.now) xs ≡ list_any p (map (λ x. x.now) xs)
any-map p [] = refl
any-map p (x ∷ xs) = ap (λ b. p x.now || b) (any-map p xs)
