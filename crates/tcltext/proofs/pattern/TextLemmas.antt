-- Ends of lists, and the characters of texts.
use Rattle.std.proofs.Common.{◌≡◌, ◌↔◌, ◌≤◌, ℕ, List, [], ◌∷◌, ◌++◌, length, Bool, true, false, IsTrue, refl, sym, ap}
use Rattle.std.proofs.Common.{subst, ◌∙◌, arith, ◌⊎◌, inl, inr, length-append, append-nil, take, drop, take_at, drop_at}
use Rattle.std.specs.Prelude.{encode_utf8, encode_utf8_all}
use Rattle.std.specs.Str.{chars, IsUtf8}
use Rattle.std.proofs.lemmas.Str.{chars-nil, chars-append, chars_past_char, encodes-chars, length-le-encodes}
use Rattle.std.proofs.lemmas.Str.{IsUtf8-drop, IsCharBoundary-from_take}
use Rattle.tcltext.specs.pattern.Search.Tails.{IsTail}

pub text_same : (a b : List ℕ) → IsUtf8 a → IsUtf8 b → chars a ≡ chars b → a ≡ b
text_same a b u v e = sym (encodes-chars a u) ∙ ap encode_utf8_all e ∙ encodes-chars b v

pub chars_length : (bs : List ℕ) → IsUtf8 bs → length (chars bs) ≤ length bs
chars_length bs u = omega (arith, length-le-encodes (chars bs), ap length (encodes-chars bs u))

pub no_way : {P : Type 0} (t : Bool) → t ≡ false → IsTrue t ↔ P → P → ⊥
no_way t e same p = never (sym e ∙ same.1 p) where
  never : false ≡ true → ⊥
  never h = cc

-- Looking through the ends of a list
pub tail_nil : (ts : List ℕ) → IsTail [] ts → ts ≡ []
tail_nil ts h = nothing h.0 h.1 where
  nothing : (prefix : List ℕ) → [] ≡ prefix ++ ts → ts ≡ []
  nothing [] e = sym e
  nothing (x ∷ prefix) e = cc

pub tail_or_itself : (c : ℕ) (rest ts : List ℕ) → IsTail (c ∷ rest) ts → (ts ≡ c ∷ rest) ⊎ IsTail rest ts
tail_or_itself c rest ts h = split h.0 h.1 where
  split : (prefix : List ℕ) → c ∷ rest ≡ prefix ++ ts → (ts ≡ c ∷ rest) ⊎ IsTail rest ts
  split [] e = inl (sym e)
  split (x ∷ prefix) e = inr (prefix, same x prefix e) where
    same : (x : ℕ) (prefix : List ℕ) → c ∷ rest ≡ x ∷ (prefix ++ ts) → rest ≡ prefix ++ ts
    same x prefix e = cc

-- an end for which P holds is an end of what is left
abbrev pub AreLeft : (List ℕ → Type 0) → List ℕ → List ℕ → Type 0
AreLeft P whole remaining = (ts : List ℕ) → IsTail whole ts → P ts → IsTail remaining ts

pub remaining-more : (P : List ℕ → Type 0) (whole remaining : List ℕ) (c : ℕ) (rest : List ℕ) → remaining ≡ c ∷ rest → (P remaining → ⊥) → AreLeft P whole remaining → AreLeft P whole rest
remaining-more P whole remaining c rest e none all = λ ts h p. cases ts p (tail_or_itself c rest ts (subst (λ xs. IsTail xs ts) e (all ts h p))) where
  cases : (ts : List ℕ) → P ts → (ts ≡ c ∷ rest) ⊎ IsTail rest ts → IsTail rest ts
  cases ts p (inl same) = absurd (none (subst P (same ∙ sym e) p))
  cases ts p (inr tail) = tail

pub remaining-end : (P : List ℕ → Type 0) (whole remaining : List ℕ) → remaining ≡ [] → (P remaining → ⊥) → AreLeft P whole remaining → (ts : List ℕ) → IsTail whole ts → P ts → ⊥
remaining-end P whole remaining e none all ts h p = none (subst P (tail_nil ts (subst (λ xs. IsTail xs ts) e (all ts h p)) ∙ sym e) p)

-- The last character of a text
is_text_behind : (bs prefix back : List ℕ) → IsUtf8 bs → IsUtf8 prefix → bs ≡ prefix ++ back → IsUtf8 back
is_text_behind bs prefix back u v e =
    let n = length prefix in
    let le : n ≤ length bs = omega (arith, length-append prefix back, ap length e) in
    let cut = IsCharBoundary-from_take bs n u le (subst IsUtf8 (sym (ap (take n) e ∙ take_at prefix back n refl)) v) in
    subst IsUtf8 (ap (drop n) e ∙ drop_at prefix back n refl) (IsUtf8-drop bs n u cut)

chars_one : (c : ℕ) → IsUtf8 (encode_utf8 c) → chars (encode_utf8 c) ≡ c ∷ []
chars_one c u = chars_past_char (encode_utf8 c) [] c u (sym (append-nil (encode_utf8 c))) ∙ ap (λ t. c ∷ t) chars-nil

pub chars_before_char : (bs prefix : List ℕ) (c : ℕ) → IsUtf8 bs → IsUtf8 prefix → bs ≡ prefix ++ encode_utf8 c → chars bs ≡ chars prefix ++ c ∷ []
chars_before_char bs prefix c u v e =
    ap chars e ∙ chars-append prefix (encode_utf8 c) v ∙ ap (λ t. chars prefix ++ t) (chars_one c (is_text_behind bs prefix (encode_utf8 c) u v e))
