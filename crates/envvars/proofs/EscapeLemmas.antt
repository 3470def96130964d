-- Reading and writing fields with escapes.
use Rattle.std.proofs.Common.{◌≡◌, ℕ, suc, Bool, true, false, cond, ◌&&◌, ◌||◌, ◌<◌, ◌≤◌, ◌≢◌, List, [], ◌∷◌, ◌++◌}
use Rattle.std.proofs.Common.{refl, sym, ap, ◌∙◌, subst, arith, length, append_assoc, append-nil, get_or, nat_eq}
use Rattle.std.proofs.Common.{string_bytes, map, inl, inr, Result, Ok, Err}
use Rattle.std.specs.Prelude.{if◌then◌else◌, encode_utf8}
use Rattle.std.specs.List.{onto_first, list_any}
use Rattle.std.proofs.lemmas.Bool.{cases_lt}
use Rattle.std.proofs.lemmas.Bool.Decides.{nat_tests}
use Rattle.std.proofs.lemmas.Str.{inside_one, encode_ascii, length-encode, len_utf8_bounds}
use Rattle.envvars.proofs.TextLemmas.{or_left, or_right}
use Rattle.std.specs.declared.string.String.{String}
use Rattle.std.specs.declared.alloc.Global.{Global}
use Rattle.std.specs.Result.{OnOk, is_ok}
use Rattle.std.specs.Char.{len_utf8}
use Rattle.envvars.specs.Texts.{Text}
use Rattle.envvars.specs.Escapes.{is_special, escaped, unescaped_fields}
use Rattle.envvars.specs.Fields.{joined}
use Rattle.envvars.specs.EscapeReading.{onto_first_field, with_pending_escape}

-- bytes that need no escape
abbrev pub ArePlain : Text → Type 0
ArePlain bs = (k : ℕ) → k < length bs → is_special (get_or bs k 0) ≡ false

wide_is : (b : ℕ) → 128 ≤ b → is_special b ≡ false
wide_is b h = grind (arith, nat_tests)

-- a character that needs no escape has only such bytes
pub plain_char : (c : ℕ) → is_special c ≡ false → ArePlain (encode_utf8 c)
plain_char c h k l =
    elim (cases_lt (get_or (encode_utf8 c) k 0) 128) [
      | inl s ↦ subst (λ (b : ℕ). is_special b ≡ false) (inside_one c [] (encode_utf8 c) k (sym (append-nil (encode_utf8 c))) l s) h
      | inr s ↦ wide_is (get_or (encode_utf8 c) k 0) s
    ]

pub special_small : (c : ℕ) → is_special c ≡ true → c < 128
special_small c h = grind (arith, nat_tests)

plain_element : (c : ℕ) (t : Text) → is_special c ≡ false → unescaped_fields (c ∷ t) ≡ onto_first c (unescaped_fields t)
plain_element c [] h = rw (or_right (nat_eq c 92) (nat_eq c 58) h) refl
plain_element c (k ∷ t) h = rw (or_right (nat_eq c 92) (nat_eq c 58) h, or_left (nat_eq c 92) (nat_eq c 58) h) refl

special_element : (c : ℕ) (t : Text) → is_special c ≡ true → unescaped_fields (92 ∷ c ∷ t) ≡ onto_first c (unescaped_fields t)
special_element c t h = rw h refl

other_element : (c : ℕ) (t : Text) → is_special c ≡ false → unescaped_fields (92 ∷ c ∷ t) ≡ onto_first 92 (unescaped_fields (c ∷ t))
other_element c t h = rw h refl

colon_element : (t : Text) → unescaped_fields (58 ∷ t) ≡ [] ∷ unescaped_fields t
colon_element [] = refl
colon_element (k ∷ t) = refl

onto_first_field-onto : (x : Text) (c : ℕ) (es : List Text) → onto_first_field x (onto_first c es) ≡ onto_first_field (x ++ c ∷ []) es
onto_first_field-onto x c [] = refl
onto_first_field-onto x c (e ∷ es) = ap (λ (t : Text). t ∷ es) (sym (append_assoc x (c ∷ []) e))

pub onto_first_field-plain : (bs x rest : Text) → ArePlain bs → onto_first_field x (unescaped_fields (bs ++ rest)) ≡ onto_first_field (x ++ bs) (unescaped_fields rest)
onto_first_field-plain [] x rest h = ap (λ (t : Text). onto_first_field t (unescaped_fields rest)) (sym (append-nil x))
onto_first_field-plain (b ∷ bs) x rest h =
    ap (onto_first_field x) (plain_element b (bs ++ rest) (h 0 (omega arith)))
    ∙ onto_first_field-onto x b (unescaped_fields (bs ++ rest))
    ∙ onto_first_field-plain bs (x ++ b ∷ []) rest (λ k l. h (suc k) (omega arith))
    ∙ ap (λ (t : Text). onto_first_field t (unescaped_fields rest)) (append_assoc x (b ∷ []) bs)

onto_first_field-one : (c : ℕ) (es : List Text) → onto_first_field [] (onto_first c es) ≡ onto_first c es
onto_first_field-one c [] = refl
onto_first_field-one c (e ∷ es) = refl

begun_last : (a : Bool) (c : ℕ) → onto_first_field [] (cond a ([] ∷ [] ∷ []) ((c ∷ []) ∷ [])) ≡ cond a ([] ∷ [] ∷ []) ((c ∷ []) ∷ [])
begun_last true c = refl
begun_last false c = refl

begun_more : (a b : Bool) (c k : ℕ) (es fs : List Text)
    → onto_first_field [] (cond a ([] ∷ es) (cond b (onto_first k fs) (onto_first c es))) ≡ cond a ([] ∷ es)
    (cond b (onto_first k fs) (onto_first c es))
begun_more true b c k es fs = refl
begun_more false true c k es fs = onto_first_field-one k fs
begun_more false false c k es fs = onto_first_field-one c es

onto_first_field-none : (t : Text) → onto_first_field [] (unescaped_fields t) ≡ unescaped_fields t
onto_first_field-none [] = refl
onto_first_field-none (c ∷ []) = begun_last (nat_eq c 58) c
onto_first_field-none (c ∷ k ∷ cs) = begun_more (nat_eq c 58) (nat_eq c 92 && is_special k) c k (unescaped_fields (k ∷ cs)) (unescaped_fields cs)

-- one more character is read
pub read_plain : (x rest : Text) (c : ℕ) → is_special c ≡ false → onto_first_field (x ++ encode_utf8 c) (unescaped_fields rest) ≡ onto_first_field x (unescaped_fields (encode_utf8 c ++ rest))
read_plain x rest c h = sym (onto_first_field-plain (encode_utf8 c) x rest (plain_char c h))

pub read_special : (x rest : Text) (c : ℕ) → is_special c ≡ true → onto_first_field (x ++ encode_utf8 c) (unescaped_fields rest) ≡ onto_first_field x (unescaped_fields (92 ∷ (encode_utf8 c ++ rest)))
read_special x rest c h =
    let one : encode_utf8 c ≡ c ∷ [] = encode_ascii c (special_small c h) in
    rw one (sym (ap (onto_first_field x) (special_element c rest h) ∙ onto_first_field-onto x c (unescaped_fields rest)))

other_front : (bs rest : Text) → 0 < length bs → ArePlain bs → unescaped_fields (92 ∷ (bs ++ rest)) ≡ onto_first 92 (unescaped_fields (bs ++ rest))
other_front [] rest l h = absurd (omega arith)
other_front (b ∷ bs) rest l h = other_element b (bs ++ rest) (h 0 (omega arith))

small_len : (c : ℕ) → 1 ≤ len_utf8 c
small_len c = (len_utf8_bounds c).0

char_there : (c : ℕ) → 0 < length (encode_utf8 c)
char_there c = let e = length-encode c in let l = small_len c in omega (arith, e, l)

pub read_other : (x rest : Text) (c : ℕ) → is_special c ≡ false
    → onto_first_field ((x ++ 92 ∷ []) ++ encode_utf8 c) (unescaped_fields rest) ≡ onto_first_field x
    (unescaped_fields (92 ∷ (encode_utf8 c ++ rest)))
read_other x rest c h =
    sym (ap (onto_first_field x) (other_front (encode_utf8 c) rest (char_there c) (plain_char c h)) ∙ onto_first_field-onto x 92 (unescaped_fields (encode_utf8 c ++ rest))
    ∙ onto_first_field-plain (encode_utf8 c) (x ++ 92 ∷ []) rest (plain_char c h))

pub read_colon : (ts : List Text) (x rest : Text) → (ts ++ x ∷ []) ++ onto_first_field [] (unescaped_fields rest) ≡ ts ++ onto_first_field x (unescaped_fields (58 ∷ rest))
read_colon ts x rest =
    append_assoc ts (x ∷ []) (onto_first_field [] (unescaped_fields rest)) ∙ ap (λ (l : List Text). ts ++ (x ∷ l)) (onto_first_field-none rest)
    ∙ sym (ap (λ (l : List Text). ts ++ onto_first_field x l) (colon_element rest) ∙ ap (λ (t : Text). ts ++ (t ∷ unescaped_fields rest)) (append-nil x))

-- what is joined from escaped texts is read as they were
escaped_step : (c : ℕ) (b : Bool) (t : Text) → is_special c ≡ b → unescaped_fields (cond b (92 ∷ c ∷ t) (c ∷ t)) ≡ onto_first c (unescaped_fields t)
escaped_step c true t h = special_element c t h
escaped_step c false t h = plain_element c t h

cond-append : (b : Bool) (c : ℕ) (x t : Text) → cond b (92 ∷ c ∷ x) (c ∷ x) ++ t ≡ cond b (92 ∷ c ∷ (x ++ t)) (c ∷ (x ++ t))
cond-append true c x t = refl
cond-append false c x t = refl

fields_last : (x : Text) → unescaped_fields (escaped x ++ []) ≡ x ∷ []
fields_last [] = refl
fields_last (c ∷ x) = ap unescaped_fields (cond-append (is_special c) c (escaped x) []) ∙ escaped_step c (is_special c) (escaped x ++ []) refl ∙ ap (onto_first c) (fields_last x)

fields_more : (x t : Text) → unescaped_fields (escaped x ++ 58 ∷ t) ≡ x ∷ unescaped_fields t
fields_more [] t = colon_element t
fields_more (c ∷ x) t =
    ap unescaped_fields (cond-append (is_special c) c (escaped x) (58 ∷ t)) ∙ escaped_step c (is_special c) (escaped x ++ 58 ∷ t) refl ∙ ap (onto_first c) (fields_more x t)

pub fields-escaped : (x : Text) (xs : List Text) → unescaped_fields (joined (map escaped (x ∷ xs))) ≡ x ∷ xs
fields-escaped x [] = ap unescaped_fields (sym (append-nil (escaped x))) ∙ fields_last x
fields-escaped x (y ∷ ys) = fields_more x (joined (map escaped (y ∷ ys))) ∙ ap (λ (l : List Text). x ∷ l) (fields-escaped y ys)

-- escapes
pub escaped-append : (xs ys : Text) → escaped (xs ++ ys) ≡ escaped xs ++ escaped ys
escaped-append [] ys = refl
escaped-append (x ∷ xs) ys = at (is_special x) (escaped-append xs ys)
  where
    at : (b : Bool) → escaped (xs ++ ys) ≡ escaped xs ++ escaped ys → cond b (92 ∷ x ∷ escaped (xs ++ ys)) (x ∷ escaped (xs ++ ys)) ≡ cond b (92 ∷ x ∷ escaped xs) (x ∷ escaped xs) ++ escaped ys
    at true e = ap (λ (l : Text). 92 ∷ x ∷ l) e
    at false e = ap (λ (l : Text). x ∷ l) e

escaped-plain : (bs : Text) → ArePlain bs → escaped bs ≡ bs
escaped-plain [] h = refl
escaped-plain (b ∷ bs) h =
    let p : is_special b ≡ false = h 0 (omega arith) in
    rw p (ap (λ (l : Text). b ∷ l) (escaped-plain bs (λ k l. h (suc k) (omega arith))))

pub escaped_char : (c : ℕ) → is_special c ≡ false → encode_utf8 c ≡ escaped (encode_utf8 c)
escaped_char c h = sym (escaped-plain (encode_utf8 c) (plain_char c h))

pub escaped_special : (c : ℕ) → is_special c ≡ true → 92 ∷ encode_utf8 c ≡ escaped (encode_utf8 c)
escaped_special c h = rw (encode_ascii c (special_small c h)) (rw h refl)

-- an element is cut at its first `&`
not_same : (b c : ℕ) → b ≢ c → nat_eq b c ≡ false
not_same b c h = grind (arith, nat_tests)

-- the same, as the code has it
pub on_ok : {A E : Type 0} (r : Result A E) (n old x : Text) (P : Type 0) → n ≡ (if is_ok r then old ++ x else old) → (n ≡ old ++ x → P) → OnOk r P
on_ok (Ok a) n old x P e f = f e
on_ok (Err a) n old x P e f = tt

pub special_after : (ts : List Text) (x y rest : Text) (b : Bool) (c : ℕ) → b ≡ true → is_special c ≡ true → y ≡ x ++ encode_utf8 c
    → ts ++ onto_first_field y (unescaped_fields rest) ≡ ts ++ onto_first_field x (unescaped_fields (with_pending_escape b (encode_utf8 c ++ rest)))
special_after ts x y rest b c t h e = rw (t, e) (ap (λ (l : List Text). ts ++ l) (read_special x rest c h))

pub other_after : (ts : List Text) (x y z rest : Text) (b : Bool) (c : ℕ) → b ≡ true → is_special c ≡ false → y ≡ x ++ encode_utf8 92 → z ≡ y ++ encode_utf8 c
    → ts ++ onto_first_field z (unescaped_fields rest) ≡ ts ++ onto_first_field x (unescaped_fields (with_pending_escape b (encode_utf8 c ++ rest)))
other_after ts x y z rest b c t h e f =
    let one : y ≡ x ++ 92 ∷ [] = e ∙ ap (λ (l : Text). x ++ l) (encode_ascii 92 (omega arith)) in
    rw (t, f, one) (ap (λ (l : List Text). ts ++ l) (read_other x rest c h))

pub plain_after : (ts : List Text) (x y rest : Text) (b : Bool) (c : ℕ) → b ≡ false → c ≢ 92 → c ≢ 58 → y ≡ x ++ encode_utf8 c
    → ts ++ onto_first_field y (unescaped_fields (with_pending_escape b rest)) ≡ ts ++ onto_first_field x (unescaped_fields (with_pending_escape b (encode_utf8 c ++ rest)))
plain_after ts x y rest b c t h k e =
    let p : is_special c ≡ false = rw (not_same c 92 h, not_same c 58 k) refl in
    rw (t, e) (ap (λ (l : List Text). ts ++ l) (read_plain x rest c p))

map-push : (es : List (String Global)) (e : String Global) → map string_bytes (es ++ e ∷ []) ≡ map string_bytes es ++ string_bytes e ∷ []
map-push [] e = refl
map-push (f ∷ fs) e = ap (λ (l : List Text). string_bytes f ∷ l) (map-push fs e)

pub ended_after : (es fs : List (String Global)) (x e y : String Global) (b : Bool) (rest : Text) → fs ≡ es ++ e ∷ [] → e ≡ x → string_bytes y ≡ [] → b ≡ false
    → map string_bytes fs ++ onto_first_field (string_bytes y) (unescaped_fields (with_pending_escape b rest)) ≡ map
    string_bytes es ++ onto_first_field (string_bytes x) (unescaped_fields (with_pending_escape b (58 ∷ rest)))
ended_after es fs x e y b rest f s n t =
    let all : map string_bytes fs ≡ map string_bytes es ++ string_bytes x ∷ [] = ap (map string_bytes) f ∙ map-push es e ∙ ap (λ (z : String Global). map string_bytes es ++ string_bytes z ∷ []) s in
    rw (t, n, all) (read_colon (map string_bytes es) (string_bytes x) rest)

pub read_start : (es : List (String Global)) (x : String Global) (u t : Text) → es ≡ [] → string_bytes x ≡ [] → u ≡ t
    → map string_bytes es ++ onto_first_field (string_bytes x) (unescaped_fields u) ≡ unescaped_fields t
read_start es x u t e n h = rw (e, n, h) (onto_first_field-none t)

pub part_turn : (t u old rest all : Text) (c : ℕ) → old ≡ encode_utf8 c ++ rest → u ≡ t ++ escaped (encode_utf8 c) → t ++ escaped old ≡ all → u ++ escaped rest ≡ all
part_turn t u old rest all c e h k =
    ap (λ (l : Text). l ++ escaped rest) h ∙ append_assoc t (escaped (encode_utf8 c)) (escaped rest)
    ∙ ap (λ (l : Text). t ++ l) (sym (escaped-append (encode_utf8 c) rest) ∙ ap escaped (sym e)) ∙ k

pub escaped_one : (t u v : Text) (c : ℕ) → is_special c ≡ true → u ≡ t ++ encode_utf8 92 → v ≡ u ++ encode_utf8 c → v ≡ t ++ escaped (encode_utf8 c)
escaped_one t u v c h e f =
    let one : u ≡ t ++ 92 ∷ [] = e ∙ ap (λ (l : Text). t ++ l) (encode_ascii 92 (omega arith)) in
    f ∙ ap (λ (l : Text). l ++ encode_utf8 c) one ∙ append_assoc t (92 ∷ []) (encode_utf8 c) ∙ ap (λ (l : Text). t ++ l) (escaped_special c h)

pub escaped_plain : (t v : Text) (c : ℕ) → is_special c ≡ false → v ≡ t ++ encode_utf8 c → v ≡ t ++ escaped (encode_utf8 c)
escaped_plain t v c h f = f ∙ ap (λ (l : Text). t ++ l) (escaped_char c h)

-- a text without a special byte needs no escape
unescaped_at : (b c : Bool) (x : ℕ) (xs ys : Text) → (b || c) ≡ false → (c ≡ false → ys ≡ xs) → cond b (92 ∷ x ∷ ys) (x ∷ ys) ≡ x ∷ xs
unescaped_at true c x xs ys h k = cc
unescaped_at false c x xs ys h k = ap (λ (l : Text). x ∷ l) (k h)

pub escaped-none : (t : Text) → list_any is_special t ≡ false → escaped t ≡ t
escaped-none [] h = refl
escaped-none (b ∷ bs) h = unescaped_at (is_special b) (list_any is_special bs) b bs (escaped bs) h (escaped-none bs)

pub pushed : {E : Type 0} (r : Result (Unit {0}) E) (new old t : Text) (b : Bool) → b ≡ list_any is_special t → b ≡ false → new ≡ (if is_ok r then old ++ t else old) → OnOk r (new ≡ old ++ escaped t)
pushed (Ok u) new old t b e f h = h ∙ ap (λ (l : Text). old ++ l) (sym (escaped-none t (sym e ∙ f)))
pushed (Err x) new old t b e f h = tt
