-- One more byte of a name.
use Rattle.std.proofs.Common.{◌≡◌, ℕ, ◌-◌, ◌<◌, ◌≤◌, Bool, true, false, not, ◌&&◌, List, [], ◌∷◌, length, refl, ap, ◌∙◌}
use Rattle.std.proofs.Common.{arith, nat_eq, nat_le, suc, ◌⊎◌, inl, inr, ◌≢◌}
use Rattle.std.specs.List.{onto_first, list_all}
use Rattle.std.proofs.lemmas.Bool.Decides.{nat_tests}
use Rattle.modulename.specs.ModuleName.{is_forbidden, is_part, parts}
use Rattle.modulename.specs.Spelled.{are_parts_after, goes_on}

-- there is one part at least
some_parts : (bs : List ℕ) → 1 ≤ length (parts bs)
some_parts [] = omega arith
some_parts (b ∷ bs) = at (nat_eq b 47) refl
  where
    onto : (ps : List (List ℕ)) → 1 ≤ length (onto_first b ps)
    onto [] = omega arith
    onto (p ∷ ps) = omega arith

    at : (t : Bool) → nat_eq b 47 ≡ t → 1 ≤ length (parts (b ∷ bs))
    at true e = rw e (omega arith)
    at false e = rw e (onto (parts bs))

and_assoc : (a b c : Bool) → ((a && b) && c) ≡ (a && (b && c))
and_assoc true b c = refl
and_assoc false b c = refl

and_none : (a : Bool) → (a && false) ≡ false
and_none true = refl
and_none false = refl

-- no part is empty
pub slash-begins : (b most : ℕ) (bs : List ℕ) → nat_eq b 47 ≡ true → goes_on true most (b ∷ bs) ≡ false
slash-begins b most bs e = rw e refl

-- a part ends, and the next begins
pub slash-next : (b most : ℕ) (bs : List ℕ) → nat_eq b 47 ≡ true → 1 < most → goes_on false most (b ∷ bs) ≡ goes_on true (most - 1) bs
slash-next b most bs e lt = rw e (ap (λ t. list_all is_part (parts bs) && t) counts)
  where
    counts : nat_le (suc (length (parts bs))) most ≡ nat_le (length (parts bs)) (most - 1)
    counts = grind (arith, nat_tests)

-- no part follows the last
pub slash-last : (b : ℕ) (bs : List ℕ) → nat_eq b 47 ≡ true → goes_on false 1 (b ∷ bs) ≡ false
slash-last b bs e = rw e (ap (λ t. list_all is_part (parts bs) && t) none ∙ and_none (list_all is_part (parts bs)))
  where
    none : nat_le (suc (length (parts bs))) 1 ≡ false
    none = let some : 1 ≤ length (parts bs) = some_parts bs in grind (arith, nat_tests)

after_onto : (b : ℕ) (ps : List (List ℕ)) → 1 ≤ length ps → are_parts_after (onto_first b ps) ≡ (not (is_forbidden b) && are_parts_after ps)
after_onto b [] h = absurd (omega arith)
after_onto b (p ∷ ps) h = and_assoc (not (is_forbidden b)) (list_all (λ c. not (is_forbidden c)) p) (list_all is_part ps)

parts_onto : (b : ℕ) (ps : List (List ℕ)) → 1 ≤ length ps → list_all is_part (onto_first b ps) ≡ (not (nat_eq b 46) && (not (is_forbidden b) && are_parts_after ps))
parts_onto b [] h = absurd (omega arith)
parts_onto b (p ∷ ps) h =
    and_assoc (not (nat_eq b 46)) (not (is_forbidden b) && list_all (λ c. not (is_forbidden c)) p) (list_all is_part ps)
    ∙ ap (λ t. not (nat_eq b 46) && t) (and_assoc (not (is_forbidden b)) (list_all (λ c. not (is_forbidden c)) p) (list_all is_part ps))

length_onto : (b : ℕ) (ps : List (List ℕ)) → 1 ≤ length ps → length (onto_first b ps) ≡ length ps
length_onto b [] h = absurd (omega arith)
length_onto b (p ∷ ps) h = refl

-- another byte goes on with a part
pub byte-after : (b most : ℕ) (bs : List ℕ) → nat_eq b 47 ≡ false → goes_on false most (b ∷ bs) ≡ (not (is_forbidden b) && goes_on false most bs)
byte-after b most bs e =
    rw (e, length_onto b (parts bs) (some_parts bs), after_onto b (parts bs) (some_parts bs))
    (and_assoc (not (is_forbidden b)) (are_parts_after (parts bs)) (nat_le (length (parts bs)) most))

-- or begins one
pub byte-begins : (b most : ℕ) (bs : List ℕ) → nat_eq b 47 ≡ false → goes_on true most (b ∷ bs) ≡ (not (nat_eq b 46) && (not (is_forbidden b) && goes_on false most bs))
byte-begins b most bs e =
    rw (e, length_onto b (parts bs) (some_parts bs), parts_onto b (parts bs) (some_parts bs))
    (and_assoc (not (nat_eq b 46)) (not (is_forbidden b) && are_parts_after (parts bs)) (nat_le (length (parts bs)) most)
    ∙ ap (λ t. not (nat_eq b 46) && t) (and_assoc (not (is_forbidden b)) (are_parts_after (parts bs)) (nat_le (length (parts bs)) most)))

-- at the end one part is begun
pub end : (begins : Bool) (most : ℕ) → 0 < most → goes_on begins most [] ≡ not begins
end true most h = refl
end false most h = let le : 1 ≤ most = omega arith in grind (arith, nat_tests)

-- where a part begins no other may, nor after the last part
pub refused_slash : (begins : Bool) (most b : ℕ) → b ≡ 47 → (begins ≡ true) ⊎ (most ≡ 1) → (rest : List ℕ) → goes_on begins most (b ∷ rest) ≡ false
refused_slash true most b e h rest = slash-begins b most rest (grind (arith, nat_tests))
refused_slash false most b e (inl h) rest = absurd (cc)
refused_slash false most b e (inr h) rest = rw h (slash-last b rest (grind (arith, nat_tests)))

-- a byte of a part
pub taken_byte : (begins : Bool) (most b : ℕ) → b ≢ 47 → is_forbidden b ≡ false → (begins ≡ true → b ≢ 46) → (rest : List ℕ) → goes_on begins most (b ∷ rest) ≡ goes_on false most rest
taken_byte true most b e f point rest =
    let other : nat_eq b 47 ≡ false = grind (arith, nat_tests) in
    let no_point : b ≢ 46 = point refl in
    let hidden : nat_eq b 46 ≡ false = grind (arith, nat_tests) in
    byte-begins b most rest other ∙ rw (hidden, f) refl
taken_byte false most b e f point rest =
    let other : nat_eq b 47 ≡ false = grind (arith, nat_tests) in
    byte-after b most rest other ∙ rw f refl
