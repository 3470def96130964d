-- A character of the pattern and one of the text.
use Rattle.std.proofs.Common.{◌≡◌, ◌≢◌, ◌↔◌, ℕ, List, [], ◌∷◌, ◌++◌, true, refl, sym, subst, arith, ◌⊎◌, inl, inr}
use Rattle.std.proofs.lemmas.Bool.Decides.{nat_tests}
use Rattle.tcltext.specs.pattern.Patterns as pattern
use Rattle.tcltext.specs.pattern.Patterns.{star, question, open_bracket, backslash, is_ordinary, HoldsIn, IsMatch}

abbrev StarParts : ℕ → List ℕ → List ℕ → Type 0
StarParts p ps cs = (p ≡ star) × ((taken : List ℕ) × (rest : List ℕ) × (cs ≡ taken ++ rest) × IsMatch ps rest)

pub data OneParts : ℕ → List ℕ → ℕ → List ℕ → Type 0 where
  any : {p c : ℕ} {ps cs : List ℕ} → p ≡ question → IsMatch ps cs → OneParts p ps c cs
  set : {p c : ℕ} {ps cs : List ℕ} (rest : List ℕ) → p ≡ open_bracket → HoldsIn c ps rest → IsMatch rest cs → OneParts p ps c cs
  after_backslash : {p c : ℕ} {ps cs : List ℕ} (rest : List ℕ) → p ≡ backslash → ps ≡ c ∷ rest → IsMatch rest cs → OneParts p ps c cs
  same : {p c : ℕ} {ps cs : List ℕ} → is_ordinary p ≡ true → p ≡ c → IsMatch ps cs → OneParts p ps c cs

abbrev pub IfOneParts : ℕ → List ℕ → List ℕ → Type 0
IfOneParts p ps [] = ⊥
IfOneParts p ps (c ∷ cs) = OneParts p ps c cs

abbrev pub Parts : List ℕ → List ℕ → Type 0
Parts [] cs = cs ≡ []
Parts (p ∷ ps) cs = StarParts p ps cs ⊎ IfOneParts p ps cs

pub match_parts : {ps cs : List ℕ} → IsMatch ps cs → Parts ps cs
match_parts pattern.IsMatch.both_end = refl
match_parts (pattern.IsMatch.any_text {ps} {rest} taken m) = inl (refl, (taken, rest, refl, m))
match_parts (pattern.IsMatch.any_character m) = inr (any refl m)
match_parts (pattern.IsMatch.in_set {c} {ps} {rest} h m) = inr (set rest refl h m)
match_parts (pattern.IsMatch.escaped {c} {ps} m) = inr (after_backslash ps refl refl m)
match_parts (pattern.IsMatch.itself h m) = inr (same h refl m)

one_parts : (p c : ℕ) (ps cs : List ℕ) → p ≢ star → IsMatch (p ∷ ps) (c ∷ cs) → OneParts p ps c cs
one_parts p c ps cs n m = cases (match_parts m) where
  cases : Parts (p ∷ ps) (c ∷ cs) → OneParts p ps c cs
  cases (inl h) = absurd (n h.0)
  cases (inr h) = h

pub text_ends : (p : ℕ) (ps : List ℕ) → p ≢ star → IsMatch (p ∷ ps) [] → ⊥
text_ends p ps n m = cases (match_parts m) where
  cases : Parts (p ∷ ps) [] → ⊥
  cases (inl h) = n h.0
  cases (inr h) = h

pub pattern_ends : (cs : List ℕ) → IsMatch [] cs ↔ (cs ≡ [])
pattern_ends cs = (λ m. match_parts m, λ e. subst (IsMatch []) (sym e) pattern.IsMatch.both_end)

pub ordinary : (p : ℕ) → p ≢ star → p ≢ question → p ≢ open_bracket → p ≢ backslash → is_ordinary p ≡ true
ordinary p a b c d = grind (arith, nat_tests)
