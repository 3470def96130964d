use Rattle.std.proofs.Common.{◌≡◌, Ok, subst}
use Rattle.tcltext.specs.chars.Runs.{Text}
use Rattle.tcltext.specs.declared.chars.fault.TextFault.TheVariants.{OutOfMemory}
use Rattle.tcltext.specs.script.Pieces.{between}
use Rattle.tcltext.specs.expr.Tree.{Expr}
use Rattle.tcltext.specs.expr.Operands.{Operand}
use Rattle.tcltext.specs.expr.Text.{IsWithin, expr_of}
use Rattle.tcltext.specs.expr.View.{expr_view}
use Rattle.tcltext.proofs.expr.owned.own_expr.Goals as goal

pub returns-in-Ok-clause-found : goal.returns-in-Ok-clause-found
returns-in-Ok-clause-found c = subst (λ (bs : Text). IsWithin bs (expr_view (λ range. between bs range.start range.end) c.in-Ok.expression)) c.as_str.ensures.value c.in-Ok.ensures.found

pub returns-in-Ok-clause-only : goal.returns-in-Ok-clause-only
returns-in-Ok-clause-only c =
    subst (λ (bs : Text). (e : Expr Operand) → IsWithin bs e → expr_view (λ range. between bs range.start range.end) c.in-Ok.expression ≡ e) c.as_str.ensures.value c.in-Ok.ensures.only

pub returns-in-Ok-clause-read : goal.returns-in-Ok-clause-read
returns-in-Ok-clause-read c = subst (λ (bs : Text). expr_of bs ≡ Ok (expr_view (λ range. between bs range.start range.end) c.in-Ok.expression)) c.as_str.ensures.value c.in-Ok.ensures.read

pub returns-in-Err-clause-only : goal.returns-in-Err-clause-only
returns-in-Err-clause-only c = subst (λ (bs : Text). (e : Expr Operand) → IsWithin bs e → c.in-Err.fault ≡ OutOfMemory) c.as_str.ensures.value c.in-Err.ensures.only
