-- The tree of an expression that owns its text.
use Rattle.std.specs.Prelude.{string_bytes}
use Rattle.tcltext.specs.script.Pieces.{between}
use Rattle.tcltext.specs.expr.Tree.{Expr}
use Rattle.tcltext.specs.expr.Operands.{Operand}
use Rattle.tcltext.specs.expr.View.{expr_view}
use Rattle.tcltext.specs.declared.expr.owned.OwnedExpr.{OwnedExpr}

-- the tree, where a range shows its text
abbrev pub owned_view : OwnedExpr → Expr Operand
owned_view o = expr_view (λ range. between (string_bytes o.text) range.start range.end) o.expression
