-- Rows of expressions with their trees and faults, by computation. A fault has the number of bytes from its place on.
use Rattle.std.proofs.Common.{◌≡◌, ℕ, [], ◌∷◌, Ok, Err, Result, refl}
use Rattle.tcltext.specs.chars.Braces.{braced_at}
use Rattle.tcltext.specs.declared.chars.fault.Fault.{Fault}
use Rattle.tcltext.specs.declared.chars.fault.Fault.TheVariants.{TooDeep, BadExpression, OpenBrace}
use Rattle.tcltext.specs.declared.expr.operators.BinaryOperator.TheVariants.{Add, Subtract, Multiply, TextEqual}
use Rattle.tcltext.specs.declared.expr.operators.UnaryOperator.TheVariants.{Minus}
use Rattle.tcltext.specs.expr.Tree.{Expr, operand, unary, binary, choice}
use Rattle.tcltext.specs.expr.Marks.{mark_at, after_white}
use Rattle.tcltext.specs.expr.Operands.{Operand, number, word, braced, operand_at, after_number, after_digits, is_truth}
use Rattle.tcltext.specs.expr.Operands.{word_at, braced_text_at}
use Rattle.tcltext.specs.expr.Reading.{expr_at, whole_at, chain_at, climb_at, prefix_at, below_at}

abbrev Tree : Type 0
Tree = Result (Expr Operand) Fault

abbrev digit : ℕ → Expr Operand
digit n = operand (number (n ∷ []))

-- 1-2-3
left : expr_at operand_at 200 (49 ∷ (45 ∷ (50 ∷ (45 ∷ (51 ∷ []))))) ≡ Ok (binary Subtract (binary Subtract (digit 49) (digit 50)) (digit 51))
unfolding expr_at whole_at chain_at climb_at prefix_at below_at operand_at mark_at after_white after_number after_digits is_truth word_at braced_text_at braced_at
left = refl

-- 1+2*3
levels : expr_at operand_at 200 (49 ∷ (43 ∷ (50 ∷ (42 ∷ (51 ∷ []))))) ≡ Ok (binary Add (digit 49) (binary Multiply (digit 50) (digit 51)))
unfolding expr_at whole_at chain_at climb_at prefix_at below_at operand_at mark_at after_white after_number after_digits is_truth word_at braced_text_at braced_at
levels = refl

-- 1?2:3?4:5
right : expr_at operand_at 200 (49 ∷ (63 ∷ (50 ∷ (58 ∷ (51 ∷ (63 ∷ (52 ∷ (58 ∷ (53 ∷ []))))))))) ≡ Ok (choice (digit 49) (digit 50) (choice (digit 51) (digit 52) (digit 53)))
unfolding expr_at whole_at chain_at climb_at prefix_at below_at operand_at mark_at after_white after_number after_digits is_truth word_at braced_text_at braced_at
right = refl

-- -(1)eq {a}
sign : expr_at operand_at 200 (45 ∷ (40 ∷ (49 ∷ (41 ∷ (101 ∷ (113 ∷ (32 ∷ (123 ∷ (97 ∷ (125 ∷ [])))))))))) ≡ Ok (binary TextEqual (unary Minus (digit 49)) (operand (braced (97 ∷ []))))
unfolding expr_at whole_at chain_at climb_at prefix_at below_at operand_at mark_at after_white after_number after_digits is_truth word_at braced_text_at braced_at
sign = refl

-- oFf
switch : expr_at operand_at 200 (111 ∷ (70 ∷ (102 ∷ []))) ≡ Ok (operand (word (111 ∷ (70 ∷ (102 ∷ [])))))
unfolding expr_at whole_at chain_at climb_at prefix_at below_at operand_at mark_at after_white after_number after_digits is_truth word_at braced_text_at braced_at
switch = refl

-- the empty text
empty : expr_at operand_at 200 [] ≡ Err (BadExpression 0)
unfolding expr_at whole_at chain_at climb_at prefix_at below_at operand_at mark_at after_white after_number after_digits is_truth word_at braced_text_at braced_at
empty = refl

-- 1 +
early : expr_at operand_at 200 (49 ∷ (32 ∷ (43 ∷ []))) ≡ Err (BadExpression 0)
unfolding expr_at whole_at chain_at climb_at prefix_at below_at operand_at mark_at after_white after_number after_digits is_truth word_at braced_text_at braced_at
early = refl

-- ()
after_closing : expr_at operand_at 200 (40 ∷ (41 ∷ [])) ≡ Err (BadExpression 1)
unfolding expr_at whole_at chain_at climb_at prefix_at below_at operand_at mark_at after_white after_number after_digits is_truth word_at braced_text_at braced_at
after_closing = refl

-- (1
open_parenthesis : expr_at operand_at 200 (40 ∷ (49 ∷ [])) ≡ Err (BadExpression 0)
unfolding expr_at whole_at chain_at climb_at prefix_at below_at operand_at mark_at after_white after_number after_digits is_truth word_at braced_text_at braced_at
open_parenthesis = refl

-- 1?2
half : expr_at operand_at 200 (49 ∷ (63 ∷ (50 ∷ []))) ≡ Err (BadExpression 0)
unfolding expr_at whole_at chain_at climb_at prefix_at below_at operand_at mark_at after_white after_number after_digits is_truth word_at braced_text_at braced_at
half = refl

-- {a}{b}
two : expr_at operand_at 200 (123 ∷ (97 ∷ (125 ∷ (123 ∷ (98 ∷ (125 ∷ [])))))) ≡ Err (BadExpression 3)
unfolding expr_at whole_at chain_at climb_at prefix_at below_at operand_at mark_at after_white after_number after_digits is_truth word_at braced_text_at braced_at
two = refl

-- 1.2.3
points : expr_at operand_at 200 (49 ∷ (46 ∷ (50 ∷ (46 ∷ (51 ∷ []))))) ≡ Err (BadExpression 2)
unfolding expr_at whole_at chain_at climb_at prefix_at below_at operand_at mark_at after_white after_number after_digits is_truth word_at braced_text_at braced_at
points = refl

-- 1e
exponent : expr_at operand_at 200 (49 ∷ (101 ∷ [])) ≡ Err (BadExpression 1)
unfolding expr_at whole_at chain_at climb_at prefix_at below_at operand_at mark_at after_white after_number after_digits is_truth word_at braced_text_at braced_at
exponent = refl

-- 0x
based : expr_at operand_at 200 (48 ∷ (120 ∷ [])) ≡ Err (BadExpression 1)
unfolding expr_at whole_at chain_at climb_at prefix_at below_at operand_at mark_at after_white after_number after_digits is_truth word_at braced_text_at braced_at
based = refl

-- 1 ** 2
power : expr_at operand_at 200 (49 ∷ (32 ∷ (42 ∷ (42 ∷ (32 ∷ (50 ∷ [])))))) ≡ Err (BadExpression 4)
unfolding expr_at whole_at chain_at climb_at prefix_at below_at operand_at mark_at after_white after_number after_digits is_truth word_at braced_text_at braced_at
power = refl

-- true(1)
function : expr_at operand_at 200 (116 ∷ (114 ∷ (117 ∷ (101 ∷ (40 ∷ (49 ∷ (41 ∷ []))))))) ≡ Err (BadExpression 7)
unfolding expr_at whole_at chain_at climb_at prefix_at below_at operand_at mark_at after_white after_number after_digits is_truth word_at braced_text_at braced_at
function = refl

-- 1+{a
open_brace : expr_at operand_at 200 (49 ∷ (43 ∷ (123 ∷ (97 ∷ [])))) ≡ Err (OpenBrace 2)
unfolding expr_at whole_at chain_at climb_at prefix_at below_at operand_at mark_at after_white after_number after_digits is_truth word_at braced_text_at braced_at
open_brace = refl

-- 1+1+1, where one operator may nest
deep : expr_at operand_at 1 (49 ∷ (43 ∷ (49 ∷ (43 ∷ (49 ∷ []))))) ≡ Err TooDeep
unfolding expr_at whole_at chain_at climb_at prefix_at below_at operand_at mark_at after_white after_number after_digits is_truth word_at braced_text_at braced_at
deep = refl
