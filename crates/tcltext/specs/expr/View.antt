-- The tree of the definitions that a tree of the code stands for, where a piece shows its text.
use Rattle.std.specs.Prelude.{ℕ, List, map}
use Rattle.tcltext.specs.chars.Runs.{Text}
use Rattle.tcltext.specs.script.View.{script_view, word_view, parts_view}
use Rattle.tcltext.specs.script.Tree.{Words, words_of}
use Rattle.tcltext.specs.declared.script.tree.Word as script_word
use Rattle.tcltext.specs.expr.Operands as operands
use Rattle.tcltext.specs.expr.Tree as tree
use Rattle.tcltext.specs.declared.expr.tree.Operand.{Operand}
use Rattle.tcltext.specs.declared.expr.tree.Operand.TheVariants as rust_operand
use Rattle.tcltext.specs.declared.expr.tree.Expr as rust
use Rattle.tcltext.specs.declared.expr.tree.WithHeight.{WithHeight}

abbrev pub words_view : {P : Type 0} → (P → Text) → List (script_word.Word P) → Words
words_view shown ws = words_of (map (word_view shown) ws)

abbrev pub operand_view : {P : Type 0} → (P → Text) → Operand P → operands.Operand
operand_view shown (rust_operand.Number s) = operands.number (shown s)
operand_view shown (rust_operand.Word s) = operands.word (shown s)
operand_view shown (rust_operand.Variable s) = operands.variable (shown s)
operand_view shown (rust_operand.Indexed s ps) = operands.indexed (shown s) (parts_view shown ps.items)
operand_view shown (rust_operand.Bracket s) = operands.bracket (script_view shown s)
operand_view shown (rust_operand.Quoted ps) = operands.quoted (parts_view shown ps.items)
operand_view shown (rust_operand.Braced s) = operands.braced (shown s)

abbrev pub expr_step : {P : Type 0} → (P → Text) → rust.Expr-F P (tree.Expr operands.Operand)
    → tree.Expr operands.Operand
expr_step shown (rust.Expr-F.Operand o) = tree.operand (operand_view shown o)
expr_step shown (rust.Expr-F.Unary u e) = tree.unary u e.value
expr_step shown (rust.Expr-F.Binary b l r) = tree.binary b l.value r.value
expr_step shown (rust.Expr-F.And l r) = tree.conjunction l.value r.value
expr_step shown (rust.Expr-F.Or l r) = tree.disjunction l.value r.value
expr_step shown (rust.Expr-F.Choice c y n) = tree.choice c.value y.value n.value

abbrev pub expr_view : {P : Type 0} → (P → Text) → rust.Expr P → tree.Expr operands.Operand
expr_view {P} shown = rust.fold-Expr P (tree.Expr operands.Operand) (expr_step shown)

abbrev pub with_height_view : {P : Type 0} → (P → Text) → WithHeight P → tree.Expr operands.Operand × ℕ
with_height_view shown x = (expr_view shown x.tree, x.height)
