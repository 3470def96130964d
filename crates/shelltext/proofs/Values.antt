-- Which bytes a value has, and what follows for how it is written.
use Rattle.std.proofs.Common.{◌≡◌, ℕ, ◌<◌, ◌≤◌, Bool, true, false, cond, not, ◌||◌, ◌&&◌, eqb, List, [], ◌∷◌, ◌++◌}
use Rattle.std.proofs.Common.{length, get_or, Some, None, Result, Ok, Err, refl, sym, ap, ◌∙◌, arith}
use Rattle.std.specs.Prelude.{if◌then◌else◌, OnOk, is_ok}
use Rattle.std.specs.Bool.{MatchBool}
use Rattle.std.specs.List.{flat_map, list_all, list_any}
use Rattle.std.specs.Str.Pattern.{FindsChar}
use Rattle.std.proofs.lemmas.Bool.{false≢true}
use Rattle.std.proofs.lemmas.Bool.Decides.{nat_tests}
use Rattle.std.proofs.lemmas.Grind.{get_or_default_zero}
use Rattle.std.proofs.lemmas.List.Folds.{list_any_at, list_any_none}
use Rattle.std.proofs.lemmas.Str.Pattern.{contains_char}
use Rattle.shelltext.specs.declared.family.Family.{Family}
use Rattle.shelltext.specs.Reading.{is_special}
use Rattle.shelltext.specs.Printing.{spell, special_text}

-- a search for a character

different : (b c : ℕ) → (b ≡ c → ⊥) → eqb b c ≡ false
different b c h = grind (arith, nat_tests)

same : (b c : ℕ) → b ≡ c → eqb b c ≡ true
same b c h = grind (arith, nat_tests)

searched : (c : ℕ) (value : List ℕ) (r : Bool) → (r ≡ true → (k : ℕ) × (k < length value) × (get_or value k 0 ≡ c))
    → ((k : ℕ) → k < length value → get_or value k 0 ≡ c → r ≡ true) → r ≡ list_any (λ b. eqb b c) value
searched c value true at none = let k = at refl in sym (list_any_at (λ b. eqb b c) value k.0 0 k.1 (same (get_or value k.0 0) c k.2))
searched c value false at none = sym (list_any_none (λ b. eqb b c) value (λ k d l. different (get_or value k d) c (λ e. false≢true (none k l (sym (get_or_default_zero value k d l) ∙ e)))))

pub has_char : (c : ℕ) (value : List ℕ) (r : Bool) → c < 128
    → MatchBool r ((i : ℕ) × (j : ℕ) × FindsChar c value (Some (i, j)) × (i ≤ j) × (j ≤ length value))
    (FindsChar c value None) → r ≡ list_any (λ b. eqb b c) value
has_char c value r l m = let k = contains_char c value r m l in searched c value r k.0 k.1

-- tests of one byte and another

either_at : (a b x y : Bool) → ((a || b) || (x || y)) ≡ ((a || x) || (b || y))
either_at true b x y = refl
either_at false true true y = refl
either_at false true false y = refl
either_at false false x y = refl

either : (p q : ℕ → Bool) (xs : List ℕ) → list_any (λ b. p b || q b) xs ≡ (list_any p xs || list_any q xs)
either p q [] = refl
either p q (x ∷ xs) = ap (λ (t : Bool). (p x || q x) || t) (either p q xs) ∙ either_at (p x) (q x) (list_any p xs) (list_any q xs)

true_or : (a b : Bool) → a ≡ true → true ≡ (a || b)
true_or true b e = refl
true_or false b e = absurd (false≢true e)

false_or : (a b : Bool) → a ≡ false → b ≡ (a || b)
false_or true b e = absurd (false≢true (sym e))
false_or false b e = refl

-- a value has one of two bytes: the first, or else the second
pub has_first : (t p q : ℕ → Bool) (value : List ℕ) (r : Bool) → list_any t value ≡ list_any (λ b. p b || q b) value → r ≡ list_any p value → r ≡ true → r ≡ list_any t value
has_first t p q value r k e h = h ∙ true_or (list_any p value) (list_any q value) (sym e ∙ h) ∙ sym (k ∙ either p q value)

pub has_second : (t p q : ℕ → Bool) (value : List ℕ) (r s : Bool) → list_any t value ≡ list_any (λ b. p b || q b) value → r ≡ list_any p value → r ≡ false → s ≡ list_any q value → s ≡ list_any t value
has_second t p q value r s k e h g = g ∙ false_or (list_any p value) (list_any q value) (sym e ∙ h) ∙ sym (k ∙ either p q value)

neither_at : (a b : Bool) → (not a && not b) ≡ not (a || b)
neither_at true b = refl
neither_at false b = refl

pub none : (p : ℕ → Bool) (xs : List ℕ) → list_all (λ b. not (p b)) xs ≡ not (list_any p xs)
none p [] = refl
none p (x ∷ xs) = ap (λ (t : Bool). not (p x) && t) (none p xs) ∙ neither_at (p x) (list_any p xs)

-- a value without a byte that needs a backslash is written as it is

plain_at : (s h : Bool) (m vs ws : List ℕ) (b : ℕ) → (s || h) ≡ false → (h ≡ false → vs ≡ ws) → cond s m (b ∷ []) ++ vs ≡ b ∷ ws
plain_at true h m vs ws b e k = absurd (false≢true (sym e))
plain_at false h m vs ws b e k = ap (λ (l : List ℕ). b ∷ l) (k e)

plain : (family : Family) (value : List ℕ) → list_any (is_special family) value ≡ false → value ≡ flat_map (spell family) value
plain family [] e = refl
plain family (b ∷ bs) e = sym (plain_at (is_special family b) (list_any (is_special family) bs) (special_text family b) (flat_map (spell family) bs) bs b e (λ h. sym (plain family bs h)))

pub pushed : {E : Type 0} (r : Result (Unit {0}) E) (family : Family) (old new value : List ℕ)
    → list_any (is_special family) value ≡ false → new ≡ (if is_ok r then old ++ value else old)
    → OnOk r (new ≡ old ++ flat_map (spell family) value)
pushed (Ok u) family old new value e h = h ∙ ap (λ (l : List ℕ). old ++ l) (plain family value e)
pushed (Err x) family old new value e h = tt
