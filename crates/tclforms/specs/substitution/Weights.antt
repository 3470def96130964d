-- The weight of a word or an expression (own): a number that each step makes smaller, by which steps come to an end.
use Rattle.std.specs.Prelude.{ℕ, ◌+◌}
use Rattle.tcltext.specs.script.Tree.{Parts, no_parts, part, Part, literal, braced, backslash, variable, indexed, bracket}
use Rattle.tcltext.specs.expr.Tree.{Expr, operand, unary, binary, conjunction, disjunction, choice}
use Rattle.tcltext.specs.expr.Operands as operands
use Rattle.tcltext.specs.expr.Operands.{Operand}

abbrev mutual
  pub parts_weight : Parts → ℕ
  parts_weight no_parts = 0
  parts_weight (part p ps) = part_weight p + parts_weight ps

  pub part_weight : Part → ℕ
  part_weight (literal t) = 5
  part_weight (braced t) = 5
  part_weight (backslash t) = 5
  part_weight (variable name) = 5
  part_weight (indexed name ps) = 5 + parts_weight ps
  part_weight (bracket s) = 5

abbrev pub operand_weight : Operand → ℕ
operand_weight (operands.number t) = 5
operand_weight (operands.word t) = 5
operand_weight (operands.variable name) = 5
operand_weight (operands.indexed name ps) = 5 + parts_weight ps
operand_weight (operands.bracket cs) = 5
operand_weight (operands.quoted ps) = 5 + parts_weight ps
operand_weight (operands.braced t) = 5

abbrev pub expr_weight : Expr Operand → ℕ
expr_weight (operand o) = 1 + operand_weight o
expr_weight (unary u e) = 2 + expr_weight e
expr_weight (binary o l r) = 4 + (expr_weight l + expr_weight r)
expr_weight (conjunction l r) = 4 + (expr_weight l + expr_weight r)
expr_weight (disjunction l r) = 4 + (expr_weight l + expr_weight r)
expr_weight (choice c y n) = 2 + (expr_weight c + (expr_weight y + expr_weight n))
