-- What is printed is a text of the grammar.
use Rattle.std.proofs.Common.{◌≡◌, ℕ, zero, suc, ◌<◌, Bool, true, false, cond, not, ◌||◌, List, [], ◌∷◌, ◌++◌, length}
use Rattle.std.proofs.Common.{get_or, take, map, Option, Some, None, refl, sym, ap, ◌∙◌, subst, inl, inr, arith}
use Rattle.std.proofs.Common.{append-nil, append_assoc}
use Rattle.std.proofs.lemmas.Bool.{cases_Bool, and_parts}
use Rattle.std.proofs.lemmas.Bool.Decides.{nat_tests}
use Rattle.std.proofs.lemmas.List.Folds.{list_all-append}
use Rattle.std.specs.List.{flat_map, list_all, find}
use Rattle.shelltext.specs.declared.shell.Shell.{Shell}
use Rattle.envvars.specs.Changes.{NewValue}
use Rattle.shelltext.specs.declared.family.Family.{Family}
use Rattle.shelltext.specs.declared.family.Family.TheVariants.{Sh, Csh, Fish}
use Rattle.shelltext.specs.Shells.{family_of}
use Rattle.shelltext.specs.Reading.{is_special, is_literal, is_unsayable, ValuePart, literal, special, IsPart, AreParts}
use Rattle.shelltext.specs.Reading.{part_value, part_text, inner_text, value_text, Spells, LineSays, LinesSay, TextSays}
use Rattle.shelltext.specs.Printing.{spell, special_text, quoted, is_sayable, value_is_sayable, printed_line}
use Rattle.shelltext.specs.Printing.{line_of_value}

-- the parts of a value, after literal bytes xs
abbrev parts_from : Family → List ℕ → List ℕ → List ValuePart
parts_from family xs [] = literal xs ∷ []
parts_from family xs (b ∷ bs) = cond (is_special family b) (literal xs ∷ special b ∷ parts_from family [] bs) (parts_from family (xs ++ b ∷ []) bs)

meant : (family : Family) (xs bs : List ℕ) → flat_map part_value (parts_from family xs bs) ≡ xs ++ bs
meant family xs [] = refl
meant family xs (b ∷ bs) = elim (cases_Bool (is_special family b)) [
  | inl e ↦ rw (e, meant family [] bs) refl
  | inr e ↦ rw (e, meant family (xs ++ b ∷ []) bs, append_assoc) refl
]

some : (family : Family) (xs bs : List ℕ) → 0 < length (parts_from family xs bs)
some family xs [] = omega arith
some family xs (b ∷ bs) = elim (cases_Bool (is_special family b)) [
  | inl e ↦ rw e (omega arith)
  | inr e ↦ rw e (some family (xs ++ b ∷ []) bs)
]

in_quotes : (family : Family) → ((b : ℕ) → special_text family b ≡ 39 ∷ 92 ∷ b ∷ 39 ∷ []) → (xs bs : List ℕ)
    → flat_map part_text (parts_from family xs bs) ≡ 39 ∷ (xs ++ (flat_map (spell family) bs ++ 39 ∷ []))
in_quotes family m xs [] = rw append-nil refl
in_quotes family m xs (b ∷ bs) = elim (cases_Bool (is_special family b)) [
  | inl e ↦ rw (e, in_quotes family m [] bs, m b) (ap (λ (l : List ℕ). 39 ∷ l) (append_assoc xs (39 ∷ []) (92 ∷ b ∷ 39 ∷ (flat_map (spell family) bs ++ 39 ∷ []))))
  | inr e ↦ rw (e, in_quotes family m (xs ++ b ∷ []) bs) (simp append_assoc)
]

in_one_pair : (xs bs : List ℕ) → flat_map inner_text (parts_from Fish xs bs) ≡ xs ++ flat_map (spell Fish) bs
in_one_pair xs [] = refl
in_one_pair xs (b ∷ bs) = elim (cases_Bool (is_special Fish b)) [
  | inl e ↦ rw (e, in_one_pair [] bs) refl
  | inr e ↦ rw (e, in_one_pair (xs ++ b ∷ []) bs, append_assoc) refl
]

quoted_text : (family : Family) (value : List ℕ) → value_text family (parts_from family [] value) ≡ quoted family value
quoted_text Sh value = in_quotes Sh (λ b. refl) [] value
quoted_text Csh value = in_quotes Csh (λ b. refl) [] value
quoted_text Fish value = ap (λ (l : List ℕ). 39 ∷ (l ++ 39 ∷ [])) (in_one_pair [] value)

plain_more : (family : Family) (xs : List ℕ) (b : ℕ) → list_all (is_literal family) xs ≡ true
    → is_special family b ≡ false → not (is_unsayable family b) ≡ true
    → list_all (is_literal family) (xs ++ b ∷ []) ≡ true
plain_more family xs b all unmarked sayable = rw (list_all-append (is_literal family) xs (b ∷ []), all, unmarked, sayable) refl

proper : (family : Family) (xs bs : List ℕ) → list_all (is_literal family) xs ≡ true → list_all (λ b. not (is_unsayable family b)) bs ≡ true → AreParts family (parts_from family xs bs)
proper family xs [] all sayable = (all, tt)
proper family xs (b ∷ bs) all sayable =
    let p = and_parts _ _ sayable in
    elim (cases_Bool (is_special family b)) [
      | inl e ↦ rw e (all, (e, proper family [] bs refl p.1))
      | inr e ↦ rw e (proper family (xs ++ b ∷ []) bs (plain_more family xs b all e p.0) p.1)
    ]

spells : (family : Family) (value : List ℕ) → list_all (λ b. not (is_unsayable family b)) value ≡ true → Spells family (quoted family value) value
spells family value sayable = record {
  parts = parts_from family [] value;
  some = some family [] value;
  proper = proper family [] value refl sayable;
  spelled = quoted_text family value;
  meant = meant family [] value;
}

says : (family : Family) (name : List ℕ) (value : Option (List ℕ)) → value_is_sayable family value ≡ true → LineSays family (line_of_value family name value) name value
says family name None sayable = refl
says family name (Some value) sayable = (quoted family value, spells family value sayable, refl)

-- what is printed of sayable changes says them
pub text_from_sayable : (family : Family) (ss : List NewValue) → list_all (is_sayable family) ss ≡ true → LinesSay family (flat_map (printed_line family) ss) ss
text_from_sayable family [] all = refl
text_from_sayable family (s ∷ ss) all =
    let p = and_parts _ _ all in
    let q = and_parts _ _ p.0 in
    (printed_line family s, flat_map (printed_line family) ss, q.0, says family s.0 s.1 q.1, text_from_sayable family ss p.1, refl)

mark_sayable : (family : Family) (b : ℕ) → is_special family b ≡ true → not (is_unsayable family b) ≡ true
mark_sayable Sh b e = grind (arith, nat_tests)
mark_sayable Csh b e = grind (arith, nat_tests)
mark_sayable Fish b e = grind (arith, nat_tests)

plain_sayable : (x y : Bool) → not (x || y) ≡ true → not y ≡ true
plain_sayable true y e = cc
plain_sayable false y e = e

plains_sayable : (family : Family) (bs : List ℕ) → list_all (is_literal family) bs ≡ true → list_all (λ b. not (is_unsayable family b)) bs ≡ true
plains_sayable family [] e = refl
plains_sayable family (b ∷ bs) e =
    let p = and_parts (is_literal family b) (list_all (is_literal family) bs) e in
    rw (plain_sayable (is_special family b) (is_unsayable family b) p.0) (plains_sayable family bs p.1)

part_sayable : (family : Family) (part : ValuePart) → IsPart family part → list_all (λ b. not (is_unsayable family b)) (part_value part) ≡ true
part_sayable family (literal bytes) is = plains_sayable family bytes is
part_sayable family (special b) is = rw (mark_sayable family b is) refl

parts_sayable : (family : Family) (parts : List ValuePart) → AreParts family parts → list_all (λ b. not (is_unsayable family b)) (flat_map part_value parts) ≡ true
parts_sayable family [] all = refl
parts_sayable family (part ∷ parts) all =
    rw (list_all-append (λ b. not (is_unsayable family b)) (part_value part) (flat_map part_value parts), part_sayable family part all.0) (parts_sayable family parts all.1)

sayable_from_says : (family : Family) (line name : List ℕ) (value : Option (List ℕ)) → LineSays family line name value → value_is_sayable family value ≡ true
sayable_from_says family line name None h = refl
sayable_from_says family line name (Some value) h =
    let P : List ℕ → Type 0 = λ v. list_all (λ b. not (is_unsayable family b)) v ≡ true in
    subst P h.1.meant (parts_sayable family h.1.parts h.1.proper)

-- what a text says is sayable
pub sayable_from_text : (family : Family) (text : List ℕ) (ss : List NewValue) → LinesSay family text ss → list_all (is_sayable family) ss ≡ true
sayable_from_text family text [] h = refl
sayable_from_text family text (s ∷ ss) h =
    rw (h.2, sayable_from_says family h.0 s.0 s.1 h.3) (sayable_from_text family h.1 ss h.4)

-- the first that doesn't pass
pub find_first : {X Y : Type 0} (h : X → Y) (p : Y → Bool) (xs : List X) (i : ℕ) (d : X) → i < length xs
    → list_all (λ x. p (h x)) (take i xs) ≡ true → p (h (get_or xs i d)) ≡ false
    → find (λ y. not (p y)) (map h xs) ≡ Some (h (get_or xs i d))
find_first h p [] i d below front e = absurd (omega arith)
find_first h p (x ∷ xs) zero d below front e = rw e refl
find_first h p (x ∷ xs) (suc i) d below front e =
    let q = and_parts (p (h x)) (list_all (λ y. p (h y)) (take i xs)) front in
    rw q.0 (find_first h p xs i d (omega arith) q.1 e)

none_found : {Y : Type 0} (p : Y → Bool) (ys : List Y) → list_all p ys ≡ true → find (λ y. not (p y)) ys ≡ None
none_found p [] e = refl
none_found p (y ∷ ys) e = let q = and_parts (p y) (list_all p ys) e in rw q.0 (none_found p ys q.1)

-- one that doesn't pass is in no text
pub no_text : (shell : Shell) (ss : List NewValue) (s : NewValue) → find (λ s. not (is_sayable (family_of shell) s)) ss ≡ Some s → (text : List ℕ) → TextSays shell text ss → ⊥
no_text shell ss s found text h =
    let none = none_found (is_sayable (family_of shell)) ss (sayable_from_text (family_of shell) text ss h) in
    let clash : Some s ≡ None = sym found ∙ none in
    cc
