-- The items between two indexes, and a text many times.
use Rattle.std.proofs.Common.{◌≡◌, ℕ, zero, suc, ◌+◌, ◌-◌, ◌*◌, ◌<◌, ◌≤◌, ◌⊎◌, List, [], ◌∷◌, ◌++◌, length, take, drop}
use Rattle.std.proofs.Common.{min, Option, Some, None, refl, sym, ap, ◌∙◌, arith, append_assoc, append-nil}
use Rattle.std.proofs.Common.{length-append, inl, inr}
use Rattle.std.specs.Borrow.{Bor}
use Rattle.std.specs.List.{repeat}
use Rattle.std.specs.Option.{MatchOption, unwrap_or}
use Rattle.std.proofs.lemmas.Bool.{cases_lt}
use Rattle.std.proofs.lemmas.List.{take_min, drop-take, length-take}
use Rattle.std.proofs.Math.ListN.{drop_of_length-le}
use Rattle.tcltext.specs.chars.Runs.{Text}
use Rattle.tcltext.specs.chars.Classes.{begins_in, in_class}
use Rattle.tcltext.specs.declared.chars.runs.Class.TheVariants.{Space}
use Rattle.tclvalue.specs.Indexes.{begins_space}

-- white space is the class of bytes that texts of Tcl have
pub space_class : (t : Text) → begins_in (in_class Space) t ≡ begins_space t
space_class [] = refl
space_class (b ∷ bs) = refl

pub repeat_more : (n : ℕ) (xs : List ℕ) → repeat n xs ++ xs ≡ repeat (suc n) xs
repeat_more zero xs = sym (append-nil xs)
repeat_more (suc n) xs = append_assoc xs (repeat n xs) xs ∙ ap (λ ys. xs ++ ys) (repeat_more n xs)

pub length_repeat : (n : ℕ) (xs : List ℕ) → length (repeat n xs) ≡ length xs * n
length_repeat zero xs = omega arith
length_repeat (suc n) xs = omega (arith, length-append xs (repeat n xs), length_repeat n xs)

pub repeat_nothing : (n : ℕ) (xs : List ℕ) → length xs ≡ 0 → repeat n xs ≡ []
repeat_nothing zero xs h = refl
repeat_nothing (suc n) [] h = repeat_nothing n [] h
repeat_nothing (suc n) (x ∷ xs) h = absurd (omega arith)

start_is : {X : Type 0} (xs : List X) (a s e : ℕ) → s ≡ min a (length xs) → s ≤ e → e ≤ length xs → drop a (take e xs) ≡ drop s (take e xs)
start_is xs a s e is le within = elim (cases_lt a (length xs)) [
  | inl h ↦ ap (λ k. drop k (take e xs)) (let q : a ≡ s = omega arith in q)
  | inr h ↦
      drop_of_length-le (take e xs) (omega (arith, length-take e xs))
      ∙ sym (drop_of_length-le (take e xs) (omega (arith, length-take e xs)))
]

in_range : {X : Type 0} (xs : List X) (a b s e : ℕ) → s ≡ min a (length xs) → e ≡ min b (length xs) → s ≤ e → drop a (take b xs) ≡ take (e - s) (drop s xs)
in_range xs a b s e start end le =
    ap (drop a) (sym (take_min b xs) ∙ ap (λ k. take k xs) (sym end))
    ∙ start_is xs a s e start le (omega arith)
    ∙ ap (λ k. drop s (take k xs)) (let q : e ≡ s + (e - s) = omega arith in q)
    ∙ drop-take s (e - s) xs

out_of_range : {X : Type 0} (xs : List X) (a b s e : ℕ) → s ≡ min a (length xs) → e ≡ min b (length xs) → e < s → drop a (take b xs) ≡ []
out_of_range xs a b s e start end lt = drop_of_length-le (take b xs) (omega (arith, length-take b xs))

-- the slice from s to e, where there is one, and else nothing
pub sliced : {X : Type 0} (xs : List X) (a b s e : ℕ) (o : Option (Bor (List X))) (d : Bor (List X)) → s ≡ min a (length xs) → e ≡ min b (length xs) → d.now ≡ []
    → MatchOption o ((e < s) ⊎ (length xs < e)) (λ x. (s ≤ e) × (e ≤ length xs) × (x.now ≡ take (e - s) (drop s xs)) × (length x.now + s ≡ e))
    → (unwrap_or o d).now ≡ drop a (take b xs)
sliced xs a b s e None d start end nothing (inl lt) = nothing ∙ sym (out_of_range xs a b s e start end lt)
sliced xs a b s e None d start end nothing (inr lt) = absurd (omega arith)
sliced xs a b s e (Some x) d start end nothing h = h.2 ∙ sym (in_range xs a b s e start end h.0)
