-- Names that texts select, and those that are sought on the way to them.
use Rattle.std.proofs.Common.{◌≡◌, ◌<◌, ◌≤◌, ℕ, Bool, true, false, ◌&&◌, ◌||◌, nat_eq, List, [], ◌∷◌, ◌++◌, length, take}
use Rattle.std.proofs.Common.{drop, get_or, map, String, Global, string_bytes, refl, ap, ◌∙◌, ⊎_elim, arith}
use Rattle.std.specs.Cmp.Lexicographic.{pointwise}
use Rattle.std.specs.List.{list_any, starts_with}
use Rattle.std.proofs.lemmas.Bool.{or_cases, or_left, or_right, and_parts}
use Rattle.std.proofs.lemmas.Bool.Decides.{nat_tests}
use Rattle.modulename.specs.ModuleName.{Text, slash}
use Rattle.filetree.specs.Modulefiles.{path_of}
use Rattle.search.specs.Selections.{is_selected, is_sought}
use Rattle.search.proofs.OneListing.{alike}

-- where there are texts, those that begin with one of them
pub selected : (texts : List (String Global)) (name : Text) → 0 < length texts → is_selected (map string_bytes texts) name ≡ list_any (λ t. starts_with nat_eq name t) (map string_bytes texts)
selected [] name h = absurd (omega arith)
selected (text ∷ texts) name h = refl

-- what one of the texts has
pub any_of_bytes : (p : Text → Bool) (texts : List (String Global)) → list_any (λ text. p (string_bytes text)) texts ≡ list_any p (map string_bytes texts)
any_of_bytes p [] = refl
any_of_bytes p (text ∷ texts) = ap (λ b. p (string_bytes text) || b) (any_of_bytes p texts)

turned : (a b : ℕ) → nat_eq a b ≡ true → nat_eq b a ≡ true
turned a b h = grind (arith, nat_tests)

even : (a b : ℕ) → nat_eq a b ≡ nat_eq b a
even a b = alike (nat_eq a b) (nat_eq b a) (turned a b) (turned b a)

-- a text begins with this byte
abbrev pub begins_so : ℕ → List ℕ → Bool
begins_so byte [] = false
begins_so byte (b ∷ bs) = nat_eq byte b

pub begins_none : (byte : ℕ) (xs : List ℕ) → length xs < 1 → begins_so byte xs ≡ false
begins_none byte [] h = refl
begins_none byte (b ∷ bs) h = absurd (omega arith)

pub begins_some : (byte : ℕ) (xs : List ℕ) → 1 ≤ length xs → begins_so byte xs ≡ nat_eq (get_or xs 0 0) byte
begins_some byte [] h = absurd (omega arith)
begins_some byte (b ∷ bs) h = even byte b

both_true : (a b : Bool) → a ≡ true → (a && b) ≡ b
both_true true b e = refl
both_true false b e = absurd (cc)

and_true : (b : Bool) → (b && true) ≡ b
and_true true = refl
and_true false = refl

-- a text that begins with a name goes on with a byte, or doesn't
pub goes_on : (byte : ℕ) (name text : Text) → pointwise nat_eq (take (length name) text) name ≡ true → starts_with nat_eq text (name ++ byte ∷ []) ≡ begins_so byte (drop (length name) text)
goes_on byte [] [] e = refl
goes_on byte [] (b ∷ bs) e = and_true (nat_eq byte b)
goes_on byte (c ∷ cs) [] e = absurd (cc)
goes_on byte (c ∷ cs) (b ∷ bs) e =
    let p = and_parts (nat_eq b c) (pointwise nat_eq (take (length cs) bs) cs) e in
    both_true (nat_eq c b) (starts_with nat_eq bs (cs ++ byte ∷ [])) (turned b c p.0) ∙ goes_on byte cs bs p.1

both_false : (t a b : Bool) → (a ≡ false → b ≡ false) → (t && a) ≡ false → (t && b) ≡ false
both_false true a b more e = more e
both_false false a b more e = refl

pub begins_otherwise : (byte : ℕ) (name text : Text) → pointwise nat_eq (take (length name) text) name ≡ false → starts_with nat_eq text (name ++ byte ∷ []) ≡ false
begins_otherwise byte [] text e = absurd (cc)
begins_otherwise byte (c ∷ cs) [] e = refl
begins_otherwise byte (c ∷ cs) (b ∷ bs) e =
    both_false (nat_eq c b) (pointwise nat_eq (take (length cs) bs) cs) (starts_with nat_eq bs (cs ++ byte ∷ [])) (begins_otherwise byte cs bs)
    (ap (λ t. t && pointwise nat_eq (take (length cs) bs) cs) (even c b) ∙ e)

-- where a longer name begins with a text, either the name does, or the text goes on below it
with_head : (t u a b : Bool) → (t ≡ true → u ≡ true) → (t ≡ true → (a || b) ≡ true) → t ≡ true → ((t && a) || (u && b)) ≡ true
with_head t u a b f g e = rw (e, f e) (g e)

above : (name more text : Text) → starts_with nat_eq (path_of name more) text ≡ true → (starts_with nat_eq name text || starts_with nat_eq text (name ++ slash ∷ [])) ≡ true
above name more [] h = or_left (starts_with nat_eq name []) (starts_with nat_eq [] (name ++ slash ∷ [])) refl
above [] more (b ∷ bs) h =
    let p = and_parts (nat_eq b slash) (starts_with nat_eq more bs) h in
    or_right (starts_with nat_eq [] (b ∷ bs)) (starts_with nat_eq (b ∷ bs) (slash ∷ [])) (and_true (nat_eq slash b) ∙ turned b slash p.0)
above (c ∷ cs) more (b ∷ bs) h =
    let p = and_parts (nat_eq b c) (starts_with nat_eq (path_of cs more) bs) h in
    with_head (nat_eq b c) (nat_eq c b) (starts_with nat_eq cs bs) (starts_with nat_eq bs (cs ++ slash ∷ [])) (turned b c) (λ e. above cs more bs p.1) p.0

one_of_both : (p q r : Text → Bool) → ((t : Text) → p t ≡ true → (q t || r t) ≡ true) → (ts : List Text) → list_any p ts ≡ true → (list_any q ts || list_any r ts) ≡ true
one_of_both p q r f [] h = h
one_of_both p q r f (t ∷ ts) h =
    ⊎_elim (λ e. ⊎_elim (λ k. or_left (q t || list_any q ts) (r t || list_any r ts) (or_left (q t) (list_any q ts) k))
    (λ k. or_right (q t || list_any q ts) (r t || list_any r ts) (or_left (r t) (list_any r ts) k)) (or_cases (q t) (r t) (f t e)))
    (λ e. ⊎_elim (λ k. or_left (q t || list_any q ts) (r t || list_any r ts) (or_right (q t) (list_any q ts) k))
    (λ k. or_right (q t || list_any q ts) (r t || list_any r ts) (or_right (r t) (list_any r ts) k)) (or_cases (list_any q ts) (list_any r ts) (one_of_both p q r f ts e)))
    (or_cases (p t) (list_any p ts) h)

-- a name is sought where it is selected, and where a name below it is
pub sought_itself : (texts : List Text) (name : Text) → is_selected texts name ≡ true → is_sought texts name ≡ true
sought_itself texts name h = or_left (is_selected texts name) (list_any (λ t. starts_with nat_eq t (name ++ slash ∷ [])) texts) h

pub sought_above : (texts : List Text) (name more : Text) → is_selected texts (path_of name more) ≡ true → is_sought texts name ≡ true
sought_above [] name more h = refl
sought_above (text ∷ texts) name more h =
    one_of_both (λ t. starts_with nat_eq (path_of name more) t) (λ t. starts_with nat_eq name t) (λ t. starts_with nat_eq t (name ++ slash ∷ []))
    (λ t. above name more t) (text ∷ texts) h
