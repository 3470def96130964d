-- An operand that is read is one.
use Rattle.std.proofs.Common.{◌≡◌, ℕ, zero, suc, ◌≤◌, [], ◌∷◌, ◌++◌, length, take, Bool, true, false, cond, not, ◌||◌}
use Rattle.std.proofs.Common.{◌&&◌, ◌==◌, Option, Some, None, Ok, Err, refl, sym, ap, subst, ◌∙◌, arith, append_assoc}
use Rattle.std.proofs.Common.{inl, inr}
use Rattle.tcltext.specs.chars.Runs.{Text, take_while, drop_while, begins}
use Rattle.tcltext.specs.chars.Classes.{is_name}
use Rattle.tcltext.specs.chars.Braces.{braced_at}
use Rattle.tcltext.specs.chars.Reading.{◌>>=◌, Read}
use Rattle.tcltext.specs.declared.chars.fault.Fault.TheVariants.{OpenQuote, BadExpression}
use Rattle.tcltext.proofs.chars.BraceClose.{close_sound}
use Rattle.tcltext.proofs.chars.Results.{bind_ok, ok_pair, read_map_ok}
use Rattle.tcltext.specs.declared.script.context.Context.TheVariants.{InQuotes}
use Rattle.tcltext.specs.script.Tree as tree
use Rattle.tcltext.specs.script.Tree.{Part, Parts, parts_nesting, part_nesting}
use Rattle.tcltext.specs.script.Grammar.{IsPart, IsParts}
use Rattle.tcltext.specs.script.Ends.{parts_end}
use Rattle.tcltext.specs.script.Pieces.{IsSuffixOf}
use Rattle.tcltext.specs.script.Reading.{on_mark, after_closing, inner_at, dollar_at, bracket_at, parts_with, part_at}
use Rattle.tcltext.specs.script.Reading.{quotes_at, taken}
use Rattle.tcltext.proofs.script.Ends.{end_through, end_length}
use Rattle.tcltext.proofs.script.Escapes.{back_end}
use Rattle.tcltext.proofs.script.PartsExact.{part_sound, at_dollar, at_bracket}
use Rattle.tcltext.proofs.script.PartFaults.{parts_sound}
use Rattle.tcltext.proofs.script.Whole.{inner_exact}
use Rattle.tcltext.proofs.script.Marks as script_marks
use Rattle.tcltext.proofs.script.Marks.{Without, on_mark-not, closed_ok, run_taken}
use Rattle.tcltext.specs.declared.expr.numbers.Digits.{Digits}
use Rattle.tcltext.specs.declared.expr.numbers.Digits.TheVariants.{Decimal}
use Rattle.tcltext.specs.expr.Operands.{Operand, number, word, variable, indexed, bracket, quoted, braced, is_digit}
use Rattle.tcltext.specs.expr.Operands.{begins_digit, after_digits, announced, after_announced, after_based, is_sign}
use Rattle.tcltext.specs.expr.Operands.{after_sign, after_exponent, after_fraction, begins_point, after_decimal}
use Rattle.tcltext.specs.expr.Operands.{first_of_both, after_number, is_truth, substituted, quoted_at, operand_in_braces}
use Rattle.tcltext.specs.expr.Operands.{braced_text_at, word_at, numeric, operand_at}
use Rattle.tcltext.specs.expr.OperandGrammar.{IsOperand}

-- What is read at each first byte

pub operand_dollar : (d : ℕ) (bs : Text) → operand_at d (36 ∷ bs) ≡ (dollar_at (inner_at d) bs >>= substituted (suc (length bs)))
unfolding operand_at
operand_dollar d bs = refl

pub operand_bracket : (d : ℕ) (bs : Text) → operand_at d (91 ∷ bs) ≡ (bracket_at (inner_at d) bs >>= substituted (suc (length bs)))
unfolding operand_at
operand_bracket d bs = refl

pub operand_quote : (d : ℕ) (bs : Text) → operand_at d (34 ∷ bs) ≡ quoted_at d bs
unfolding operand_at
operand_quote d bs = refl

pub operand_brace : (d : ℕ) (bs : Text) → operand_at d (123 ∷ bs) ≡ operand_in_braces (suc (length bs)) (braced_at false 0 bs)
unfolding operand_at braced_text_at
operand_brace d bs = refl

pub operand_other : (d : ℕ) (bs : Text) → Without 36 bs → Without 91 bs → Without 34 bs → Without 123 bs → operand_at d bs ≡ numeric bs (after_number bs)
unfolding operand_at
operand_other d bs w x y z =
    let last = numeric bs (after_number bs) in
    let third : Read (Operand × ℕ) = on_mark 123 bs braced_text_at last in
    let second : Read (Operand × ℕ) = on_mark 34 bs (quoted_at d) third in
    let first : Read (Operand × ℕ) = on_mark 91 bs (λ following. bracket_at (inner_at d) following >>= substituted (length bs)) second in
    on_mark-not 36 bs (λ following. dollar_at (inner_at d) following >>= substituted (length bs)) first w
    ∙ on_mark-not 91 bs (λ following. bracket_at (inner_at d) following >>= substituted (length bs)) second x
    ∙ on_mark-not 34 bs (quoted_at d) third y
    ∙ on_mark-not 123 bs braced_text_at last z

pub data Opening (bs : Text) : Type 0 where
  dollar : (xs : Text) → bs ≡ 36 ∷ xs → Opening bs
  square : (xs : Text) → bs ≡ 91 ∷ xs → Opening bs
  quote : (xs : Text) → bs ≡ 34 ∷ xs → Opening bs
  brace : (xs : Text) → bs ≡ 123 ∷ xs → Opening bs
  other : Without 36 bs → Without 91 bs → Without 34 bs → Without 123 bs → Opening bs

pub opening : (bs : Text) → Opening bs
opening bs = elim (script_marks.mark_or_none 36 bs) [
  | inl k ↦ dollar k.0 k.1
  | inr w ↦ elim (script_marks.mark_or_none 91 bs) [
    | inl k ↦ square k.0 k.1
    | inr x ↦ elim (script_marks.mark_or_none 34 bs) [
      | inl k ↦ quote k.0 k.1
      | inr y ↦ elim (script_marks.mark_or_none 123 bs) [ inl k ↦ brace k.0 k.1 | inr z ↦ other w x y z ]
    ]
  ]
]

-- Substitutions

abbrev Found : ℕ → Text → Operand × ℕ → Text → Type 0
Found d bs o rest = IsOperand bs rest o.0 o.1 × (o.1 ≤ d)

substituted_sound : (d : ℕ) (bs : Text) (left : ℕ) (p : Part) (r : Text) (o : Operand × ℕ) (rest : Text) → (t : Text) → bs ≡ t ++ r → IsPart InQuotes p t r → part_nesting p ≤ d
    → substituted left (p, r) ≡ Ok (o, rest) → Found d bs o rest
substituted_sound d bs left (tree.literal x) r o rest t whole is deep h = cc
substituted_sound d bs left (tree.braced x) r o rest t whole is deep h = cc
substituted_sound d bs left (tree.backslash x) r o rest t whole is deep h = cc
substituted_sound d bs left (tree.variable name) r o rest t whole is deep h =
    let two = ok_pair ((variable name, 0), r) (o, rest) h in
    subst (λ o. Found d bs o rest) two.0 (subst (λ r. Found d bs (variable name, 0) r) two.1 ((t, whole, is, refl), deep))
substituted_sound d bs left (tree.indexed name ps) r o rest t whole is deep h =
    let two = ok_pair ((indexed name ps, suc (parts_nesting ps)), r) (o, rest) h in
    subst (λ o. Found d bs o rest) two.0 (subst (λ r. Found d bs (indexed name ps, suc (parts_nesting ps)) r) two.1 ((t, whole, is, refl), deep))
substituted_sound d bs left (tree.bracket s) r o rest t whole is deep h =
    let two = ok_pair ((bracket s, suc (tree.nesting s)), r) (o, rest) h in
    subst (λ o. Found d bs o rest) two.0 (subst (λ r. Found d bs (bracket s, suc (tree.nesting s)) r) two.1 ((t, whole, is, refl), deep))

from_part : (d : ℕ) (bs : Text) (left : ℕ) (o : Operand × ℕ) (rest : Text) → parts_end InQuotes bs ≡ false → (part_at InQuotes (inner_at d) bs >>= substituted left) ≡ Ok (o, rest) → Found d bs o rest
from_part d bs left o rest goes h =
    let x = bind_ok (part_at InQuotes (inner_at d) bs) (substituted left) (o, rest) h in
    let t = part_sound d (inner_at d) (inner_exact d) InQuotes bs x.0.0 x.0.1 goes x.1 in
    substituted_sound d bs left x.0.0 x.0.1 o rest t.taken t.whole t.is.1.0 t.is.1.1 x.2

dollar_found : (d : ℕ) (bs : Text) (o : Operand × ℕ) (rest : Text) → operand_at d (36 ∷ bs) ≡ Ok (o, rest) → Found d (36 ∷ bs) o rest
dollar_found d bs o rest h =
    from_part d (36 ∷ bs) (suc (length bs)) o rest refl
    (ap (λ r. r >>= substituted (suc (length bs))) (at_dollar d (inner_at d) (inner_exact d) InQuotes bs) ∙ sym (operand_dollar d bs) ∙ h)

bracket_found : (d : ℕ) (bs : Text) (o : Operand × ℕ) (rest : Text) → operand_at d (91 ∷ bs) ≡ Ok (o, rest) → Found d (91 ∷ bs) o rest
bracket_found d bs o rest h =
    from_part d (91 ∷ bs) (suc (length bs)) o rest refl
    (ap (λ r. r >>= substituted (suc (length bs))) (at_bracket d (inner_at d) (inner_exact d) InQuotes bs) ∙ sym (operand_bracket d bs) ∙ h)

-- Quotes and braces

pub quotes_sound : (d : ℕ) (bs : Text) (ps : Parts) (rest : Text) → quotes_at (inner_at d) bs ≡ Ok (ps, rest)
    → (inside : Text) × (bs ≡ inside ++ 34 ∷ rest) × IsParts InQuotes ps inside (34 ∷ rest) × (parts_nesting ps ≤ d)
unfolding quotes_at
quotes_sound d bs ps rest h =
    let mark = OpenQuote (suc (length bs)) in
    let x = bind_ok (parts_with InQuotes (inner_at d) bs) (λ x. after_closing 34 mark x.1 >>= (λ rest. let found : Read Parts = Ok (x.0, rest) in found)) (ps, rest) h in
    let y = bind_ok (after_closing 34 mark x.0.1) (λ rest. let found : Read Parts = Ok (x.0.0, rest) in found) (ps, rest) x.2 in
    let two = ok_pair (x.0.0, y.0) (ps, rest) y.2 in
    let t = parts_sound d (inner_at d) (inner_exact d) InQuotes bs x.0.0 x.0.1 tt x.1 in
    let after : x.0.1 ≡ 34 ∷ rest = closed_ok 34 mark x.0.1 y.0 y.1 ∙ ap (λ xs. 34 ∷ xs) two.1 in
    let is : IsParts InQuotes x.0.0 t.taken (34 ∷ rest) = subst (λ ys. IsParts InQuotes x.0.0 t.taken ys) after t.is.0 in
    (t.taken, t.whole ∙ ap (λ ys. t.taken ++ ys) after, subst (λ ps. IsParts InQuotes ps t.taken (34 ∷ rest)) two.0 is, subst (λ ps. parts_nesting ps ≤ d) two.0 t.is.1)

quote_found : (d : ℕ) (bs : Text) (o : Operand × ℕ) (rest : Text) → quoted_at d bs ≡ Ok (o, rest) → Found d (34 ∷ bs) o rest
unfolding quoted_at
quote_found d bs o rest h =
    let x = read_map_ok (λ (ps : Parts). let made : Operand × ℕ = (quoted ps, parts_nesting ps) in made) (quotes_at (inner_at d) bs) o rest h in
    let t = quotes_sound d bs x.0 rest x.1 in
    subst (λ o. Found d (34 ∷ bs) o rest) x.2 ((t.0, ap (λ xs. 34 ∷ xs) t.1, t.2, refl), t.3)

brace_found : (d : ℕ) (bs : Text) (o : Operand × ℕ) (rest : Text) (found : Option (Text × Text))
    → braced_at false 0 bs ≡ found → operand_in_braces (suc (length bs)) found ≡ Ok (o, rest)
    → Found d (123 ∷ bs) o rest
brace_found d bs o rest None is h = cc
brace_found d bs o rest (Some p) is h =
    let two = ok_pair ((braced p.0, 0), p.1) (o, rest) h in
    let so = close_sound bs false zero p.0 p.1 is in
    subst (λ o. Found d (123 ∷ bs) o rest) two.0 (subst (λ r. Found d (123 ∷ bs) (braced p.0, 0) r) two.1 ((ap (λ xs. 123 ∷ xs) so.0, so.1, refl), omega arith))

-- Numbers and words

pub digits_end : (k : Digits) (bs : Text) → IsSuffixOf bs (after_digits k bs)
unfolding after_digits
digits_end k bs = back_end (is_digit k) bs

end_here : (bs : Text) → IsSuffixOf bs bs
end_here bs = ([], refl)

end_first : (b : ℕ) (bs rest : Text) → IsSuffixOf bs rest → IsSuffixOf (b ∷ bs) rest
end_first b bs rest h = (b ∷ h.0, ap (λ xs. b ∷ xs) h.1)

sign_end : (bs : Text) → IsSuffixOf bs (after_sign bs)
sign_end [] = end_here []
sign_end (b ∷ bs) = go (is_sign b) where
  go : (t : Bool) → IsSuffixOf (b ∷ bs) (cond t bs (b ∷ bs))
  go true = end_first b bs bs (end_here bs)
  go false = end_here (b ∷ bs)

pub exponent_end : (bs : Text) → IsSuffixOf bs (after_exponent bs)
exponent_end [] = end_here []
exponent_end (b ∷ bs) = go ((b == 101 || b == 69) && begins_digit Decimal (after_sign bs)) where
  go : (t : Bool) → IsSuffixOf (b ∷ bs) (cond t (after_digits Decimal (after_sign bs)) (b ∷ bs))
  go true = end_first b bs (after_digits Decimal (after_sign bs)) (end_through bs (after_sign bs) (after_digits Decimal (after_sign bs)) (sign_end bs) (digits_end Decimal (after_sign bs)))
  go false = end_here (b ∷ bs)

pub fraction_end : (bs : Text) → IsSuffixOf bs (after_fraction bs)
fraction_end [] = end_here []
fraction_end (b ∷ bs) = go (b == 46) where
  go : (t : Bool) → IsSuffixOf (b ∷ bs) (cond t (after_digits Decimal bs) (b ∷ bs))
  go true = end_first b bs (after_digits Decimal bs) (digits_end Decimal bs)
  go false = end_here (b ∷ bs)

decimal_end : (bs rest : Text) → after_decimal bs ≡ Some rest → IsSuffixOf bs rest
decimal_end bs rest h = go (begins_digit Decimal bs || begins_point bs) h where
  go : (t : Bool) → cond t (Some (after_exponent (after_fraction (after_digits Decimal bs)))) None ≡ Some rest → IsSuffixOf bs rest
  go true h =
      let same : after_exponent (after_fraction (after_digits Decimal bs)) ≡ rest = cc in
      let digits = after_digits Decimal bs in
      subst (IsSuffixOf bs) same (end_through bs (after_fraction digits) (after_exponent (after_fraction digits))
      (end_through bs digits (after_fraction digits) (digits_end Decimal bs) (fraction_end digits))
      (exponent_end (after_fraction digits)))
  go false h = cc

pub announced_end : (bs rest : Text) (found : Option Digits) → after_announced bs found ≡ Some rest → IsSuffixOf bs rest
announced_end bs rest None h = cc
announced_end bs rest (Some k) h = go (begins_digit k bs) h where
  go : (t : Bool) → cond t (Some (after_digits k bs)) None ≡ Some rest → IsSuffixOf bs rest
  go true h = let same : after_digits k bs ≡ rest = cc in subst (IsSuffixOf bs) same (digits_end k bs)
  go false h = cc

based_end : (bs rest : Text) → after_based bs ≡ Some rest → IsSuffixOf bs rest
based_end [] rest h = cc
based_end (b ∷ []) rest h = cc
based_end (b ∷ (c ∷ bs)) rest h = go (b == 48) h where
  go : (t : Bool) → cond t (after_announced bs (announced c)) None ≡ Some rest → IsSuffixOf (b ∷ (c ∷ bs)) rest
  go true h = end_first b (c ∷ bs) rest (end_first c bs rest (announced_end bs rest (announced c) h))
  go false h = cc

both_end : (bs rest : Text) (one two : Option Text) → ((r : Text) → one ≡ Some r → IsSuffixOf bs r)
    → ((r : Text) → two ≡ Some r → IsSuffixOf bs r) → first_of_both one two ≡ Some rest → IsSuffixOf bs rest
both_end bs rest None two x y h = y rest h
both_end bs rest (Some r) two x y h = x rest h

pub number_end : (bs rest : Text) → after_number bs ≡ Some rest → IsSuffixOf bs rest
unfolding after_number
number_end bs rest h = both_end bs rest (after_based bs) (after_decimal bs) (based_end bs) (decimal_end bs) h

-- what was read of a text before its end
pub taken_whole : (bs rest : Text) → IsSuffixOf bs rest → bs ≡ taken bs rest ++ rest
taken_whole bs rest e = e.1 ∙ ap (λ xs. xs ++ rest) (sym front_is) where
  front_is : taken bs rest ≡ e.0
  front_is = ap (λ n. take n bs) (end_length bs rest e) ∙ ap (take (length e.0)) e.1 ∙ take_front e.0 rest where
    take_front : (xs ys : Text) → take (length xs) (xs ++ ys) ≡ xs
    take_front [] ys = refl
    take_front (x ∷ xs) ys = ap (λ zs. x ∷ zs) (take_front xs ys)

word_found : (d : ℕ) (bs : Text) (o : Operand × ℕ) (rest : Text) → after_number bs ≡ None → word_at bs ≡ Ok (o, rest) → Found d bs o rest
unfolding word_at
word_found d bs o rest none h = go (is_truth (take_while is_name bs)) refl (begins 40 (drop_while is_name bs)) refl h where
  go : (s : Bool) → is_truth (take_while is_name bs) ≡ s → (t : Bool) → begins 40 (drop_while is_name bs) ≡ t
      → cond (s && not t) (let ok : Read (Operand × ℕ) = Ok ((word (take_while is_name bs), 0), drop_while is_name bs) in ok) (Err (BadExpression (length bs))) ≡ Ok (o, rest) → Found d bs o rest
  go true s false t h =
      let two = ok_pair ((word (take_while is_name bs), 0), drop_while is_name bs) (o, rest) h in
      let run = run_taken is_name bs in
      subst (λ o. Found d bs o rest) two.0 (subst (λ r. Found d bs (word (take_while is_name bs), 0) r) two.1 ((run.0, none, (run.1, run.2, s, t), refl), omega arith))
  go true s true t h = cc
  go false s t' t h = cc

numeric_found : (d : ℕ) (bs : Text) (o : Operand × ℕ) (rest : Text) (found : Option Text) → after_number bs ≡ found → numeric bs found ≡ Ok (o, rest) → Found d bs o rest
numeric_found d bs o rest None is h = word_found d bs o rest is h
numeric_found d bs o rest (Some r) is h =
    let two = ok_pair ((number (taken bs r), 0), r) (o, rest) h in
    subst (λ o. Found d bs o rest) two.0 (subst (λ s. Found d bs (number (taken bs r), 0) s) two.1 ((taken_whole bs r (number_end bs r is), is, refl), omega arith))

-- An operand that is read is one, and nests no deeper than it may.
pub operand_sound : (d : ℕ) (bs : Text) (o : Operand × ℕ) (rest : Text) → operand_at d bs ≡ Ok (o, rest) → IsOperand bs rest o.0 o.1 × (o.1 ≤ d)
operand_sound d bs o rest h = at_opening (opening bs) where
  at_opening : Opening bs → Found d bs o rest
  at_opening (dollar xs e) = subst (λ ys. Found d ys o rest) (sym e) (dollar_found d xs o rest (ap (operand_at d) (sym e) ∙ h))
  at_opening (square xs e) = subst (λ ys. Found d ys o rest) (sym e) (bracket_found d xs o rest (ap (operand_at d) (sym e) ∙ h))
  at_opening (quote xs e) = subst (λ ys. Found d ys o rest) (sym e) (quote_found d xs o rest (sym (operand_quote d xs) ∙ ap (operand_at d) (sym e) ∙ h))
  at_opening (brace xs e) = subst (λ ys. Found d ys o rest) (sym e) (brace_found d xs o rest (braced_at false 0 xs) refl (sym (operand_brace d xs) ∙ ap (operand_at d) (sym e) ∙ h))
  at_opening (other w x y z) = numeric_found d bs o rest (after_number bs) refl (sym (operand_other d bs w x y z) ∙ h)

-- what follows an operand is an end of the text
pub operand_end : (bs rest : Text) (o : Operand) (k : ℕ) → IsOperand bs rest o k → IsSuffixOf bs rest
operand_end bs rest (number t) k h = (t, h.0)
operand_end bs rest (word t) k h = (t, h.0)
operand_end bs rest (variable name) k h = (h.0, h.1)
operand_end bs rest (indexed name ps) k h = (h.0, h.1)
operand_end bs rest (bracket s) k h = (h.0, h.1)
operand_end bs rest (quoted ps) k h = (34 ∷ (h.0 ++ 34 ∷ []), h.1 ∙ ap (λ xs. 34 ∷ xs) (sym (append_assoc h.0 (34 ∷ []) rest)))
operand_end bs rest (braced t) k h = (123 ∷ (t ++ 125 ∷ []), h.0 ∙ ap (λ xs. 123 ∷ xs) (sym (append_assoc t (125 ∷ []) rest)))
