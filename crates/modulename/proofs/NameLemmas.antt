-- The bytes of a module's name.
use Rattle.std.proofs.Common.{◌≡◌, ℕ, Bool, true, false, not, ◌||◌, ◌&&◌, List, [], ◌∷◌, refl, sym, ap, ◌∙◌, arith}
use Rattle.std.proofs.Common.{nat_eq}
use Rattle.std.specs.List.{onto_first, list_all}
use Rattle.std.proofs.lemmas.Bool.{false≢true}
use Rattle.std.proofs.lemmas.Bool.Decides.{nat_tests}
use Rattle.modulename.specs.ModuleName.{is_forbidden, is_part, parts, is_module_name}

pub both_true : (a b : Bool) → (a && b) ≡ true → (a ≡ true) × (b ≡ true)
both_true true true h = (refl, refl)
both_true true false h = absurd (false≢true h)
both_true false b h = absurd (false≢true h)

pub and_both : (a b : Bool) → a ≡ true → b ≡ true → (a && b) ≡ true
and_both a b h k = rw (h, k) refl

-- a text without a byte
abbrev pub lacks : ℕ → List ℕ → Bool
lacks c x = list_all (λ b. not (nat_eq b c)) x

-- The bytes of a name.
abbrev pub is_name_byte : ℕ → Bool
is_name_byte b = nat_eq b 47 || not (is_forbidden b)

abbrev is_clean : List ℕ → Bool
is_clean part = list_all (λ b. not (is_forbidden b)) part

clean_part : (part : List ℕ) → is_part part ≡ true → is_clean part ≡ true
clean_part [] h = refl
clean_part (b ∷ bs) h = (both_true (not (nat_eq b 46)) (is_clean (b ∷ bs)) h).1

clean_parts : (ps : List (List ℕ)) → list_all is_part ps ≡ true → list_all is_clean ps ≡ true
clean_parts [] h = refl
clean_parts (p ∷ ps) h = let k = both_true (is_part p) (list_all is_part ps) h in and_both (is_clean p) (list_all is_clean ps) (clean_part p k.0) (clean_parts ps k.1)

clean_onto : (b : ℕ) (ps : List (List ℕ)) → list_all is_clean (onto_first b ps) ≡ true → (not (is_forbidden b) ≡ true) × (list_all is_clean ps ≡ true)
clean_onto b [] h = ((both_true (not (is_forbidden b)) true (both_true (is_clean (b ∷ [])) true h).0).0, refl)
clean_onto b (p ∷ ps) h =
    let k = both_true (is_clean (b ∷ p)) (list_all is_clean ps) h in
    let g = both_true (not (is_forbidden b)) (is_clean p) k.0 in
    (g.0, and_both (is_clean p) (list_all is_clean ps) g.1 k.1)

name_bytes : (name : List ℕ) → list_all is_clean (parts name) ≡ true → list_all is_name_byte name ≡ true
name_bytes [] h = refl
name_bytes (b ∷ bs) h = at (nat_eq b 47) refl (name_bytes bs)
  where
    at : (t : Bool) → nat_eq b 47 ≡ t → (list_all is_clean (parts bs) ≡ true → list_all is_name_byte bs ≡ true) → list_all is_name_byte (b ∷ bs) ≡ true
    at true e ih = let k : list_all is_clean (parts bs) ≡ true = rw e at h in rw e (ih k)
    at false e ih =
        let k : list_all is_clean (onto_first b (parts bs)) ≡ true = rw e at h in
        let g = clean_onto b (parts bs) k in
        rw (e, g.0) (ih g.1)

byte_not : (c b : ℕ) → is_name_byte c ≡ false → is_name_byte b ≡ true → not (nat_eq b c) ≡ true
byte_not c b f h = at (nat_eq b c) refl
  where
    at : (t : Bool) → nat_eq b c ≡ t → not t ≡ true
    at true e = let s : b ≡ c = grind (arith, nat_tests) in absurd (false≢true (sym f ∙ ap is_name_byte (sym s) ∙ h))
    at false e = refl

bytes_lack : (c : ℕ) (name : List ℕ) → is_name_byte c ≡ false → list_all is_name_byte name ≡ true → lacks c name ≡ true
bytes_lack c [] f h = refl
bytes_lack c (b ∷ bs) f h = let k = both_true (is_name_byte b) (list_all is_name_byte bs) h in and_both (not (nat_eq b c)) (lacks c bs) (byte_not c b f k.0) (bytes_lack c bs f k.1)

-- a name holds no `:`, no `&` and no `|`
pub name_lacks : (c : ℕ) (name : List ℕ) → is_name_byte c ≡ false → is_module_name name ≡ true → lacks c name ≡ true
name_lacks c name f h = bytes_lack c name f (name_bytes name (clean_parts (parts name) (both_true (list_all is_part (parts name)) _ h).0))
