-- The lines of reports.
use Rattle.std.proofs.Common.{◌≡◌, ◌+◌, ◌<◌, ℕ, true, false, nat_eq, List, [], ◌∷◌, ◌++◌, codes, length, get_or, map}
use Rattle.std.proofs.Common.{flat_map, take, string_bytes, String, refl, sym, ap, ◌∙◌, append_assoc, append-nil, arith}
use Rattle.std.proofs.lemmas.Bool.Decides.{nat_tests}
use Rattle.std.specs.declared.alloc.Global.{Global}
use Rattle.envvars.specs.Texts.{Text}
use Rattle.modulefile.specs.Reports.{line_of}
use Rattle.requests.specs.Reports.{loaded_text}
use Rattle.std.proofs.lemmas.List.{take_more, map-append}

-- one value more
pub turn : {X Y Z : Type 0} (view : X → Y) (of : List Y → List Z) → ((xs ys : List Y) → of (xs ++ ys) ≡ of xs ++ of ys)
    → (ts us : List Z) (xs : List X) (i : ℕ) (x : X) → i < length xs → x ≡ get_or xs i x
    → ts ≡ of (map view (take i xs)) → us ≡ ts ++ of (view x ∷ []) → us ≡ of (map view (take (i + 1) xs))
turn {X} {Y} {Z} view of append ts us xs i x l e h k =
    k ∙ (ap (λ (t : List Z). t ++ of (view x ∷ [])) h ∙ (sym (append (map view (take i xs)) (view x ∷ []))
    ∙ ap of (sym (ap (map view) (take_more xs i x l ∙ ap (λ (y : X). take i xs ++ y ∷ []) (sym e)) ∙ map-append view (take i xs) (x ∷ [])))))

zero_is : (n : ℕ) → nat_eq n 0 ≡ true → n ≡ 0
zero_is n h = grind (arith, nat_tests)

pub loaded_none : (names : List (String Global)) → nat_eq (length names) 0 ≡ true → loaded_text (map (λ (s : String Global). string_bytes s) names) ≡ line_of (codes "No Modulefiles Currently Loaded.")
loaded_none [] h = refl
loaded_none (n ∷ ns) h = let z : length (n ∷ ns) ≡ 0 = zero_is (length (n ∷ ns)) h in absurd (omega arith)

pub loaded_some : (names : List (String Global)) → nat_eq (length names) 0 ≡ false
    → loaded_text (map (λ (s : String Global). string_bytes s) names) ≡ line_of (codes "Currently Loaded Modulefiles:") ++ flat_map line_of (map (λ (s : String Global). string_bytes s) names)
loaded_some [] h = absurd (cc)
loaded_some (n ∷ ns) h = refl

lines-append : (xs ys : List Text) → flat_map line_of (xs ++ ys) ≡ flat_map line_of xs ++ flat_map line_of ys
lines-append [] ys = refl
lines-append (x ∷ xs) ys = ap (λ (l : Text). line_of x ++ l) (lines-append xs ys) ∙ sym (append_assoc (line_of x) (flat_map line_of xs) (flat_map line_of ys))

one_line : (x : Text) → line_of x ≡ flat_map line_of (x ∷ [])
one_line x = simp append-nil

pub line_turn : (first old new : Text) (xs : List (String Global)) (i : ℕ) (x : String Global) → i < length xs → x ≡ get_or xs i x
    → old ≡ first ++ flat_map line_of (map (λ (s : String Global). string_bytes s) (take i xs)) → new ≡ old ++ line_of (string_bytes x)
    → new ≡ first ++ flat_map line_of (map (λ (s : String Global). string_bytes s) (take (i + 1) xs))
line_turn first old new xs i x l e h k =
    let before = flat_map line_of (map (λ (s : String Global). string_bytes s) (take i xs)) in
    k ∙ (ap (λ (t : Text). t ++ line_of (string_bytes x)) h ∙ (append_assoc first before (line_of (string_bytes x))
    ∙ ap (λ (t : Text). first ++ t) (turn (λ (s : String Global). string_bytes s) (flat_map line_of) lines-append before
    (before ++ line_of (string_bytes x)) xs i x l e refl
    (ap (λ (t : Text). before ++ t) (one_line (string_bytes x))))))
