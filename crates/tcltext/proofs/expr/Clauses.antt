-- What a parser promises follows from what it computes.
use Rattle.std.proofs.Common.{◌≡◌, ◌≢◌, Result, Ok, Err}
use Rattle.std.specs.Prelude.{IfOk, IfErr, MatchResult}
use Rattle.tcltext.specs.chars.Runs.{Text}
use Rattle.tcltext.specs.chars.Faults.{max_nesting}
use Rattle.tcltext.specs.chars.Whole.{Reads}
use Rattle.tcltext.specs.declared.chars.fault.TextFault.{TextFault}
use Rattle.tcltext.specs.declared.chars.fault.TextFault.TheVariants.{OutOfMemory}
use Rattle.tcltext.proofs.chars.Whole as whole
use Rattle.tcltext.specs.expr.Tree.{Expr}
use Rattle.tcltext.specs.expr.Operands.{Operand, operand_at}
use Rattle.tcltext.specs.expr.Reading.{expr_at}
use Rattle.tcltext.specs.expr.Text.{IsFault, IsTextFault, IsWithin, expr_of}
use Rattle.tcltext.proofs.expr.Whole.{sound, complete, faulty, met, within}

-- The tree that is computed is the text's, within the limits
pub tree_is : (bs : Text) (e : Expr Operand) → expr_of bs ≡ Ok e → IsWithin bs e
tree_is bs e h =
    let v = whole.value_is (expr_at operand_at max_nesting) bs e h in
    let k = sound max_nesting bs e v.0 in
    (k.0, k.2, k.1, v.1)

pub tree_met : (bs : Text) (e : Expr Operand) → IsWithin bs e → expr_of bs ≡ Ok e
tree_met bs e is = whole.value_met (expr_at operand_at max_nesting) bs e is.3 (complete is.0 max_nesting bs e is.1 is.2)

-- the fault that is computed is the text's
pub fault_is : (bs : Text) (f : TextFault) → expr_of bs ≡ Err f → IsTextFault bs f × (f ≢ OutOfMemory)
fault_is = whole.fault_is (expr_at operand_at max_nesting) (IsFault max_nesting) (faulty max_nesting) (met max_nesting) (within max_nesting)

pub fault_met : (bs : Text) (f : TextFault) → f ≢ OutOfMemory → IsTextFault bs f → expr_of bs ≡ Err f
fault_met = whole.fault_met (expr_at operand_at max_nesting) (IsFault max_nesting) (faulty max_nesting) (met max_nesting) (within max_nesting)

pub one_fault : (bs : Text) (f g : TextFault) → f ≢ OutOfMemory → g ≢ OutOfMemory → IsTextFault bs f → IsTextFault bs g → f ≡ g
one_fault = whole.one_fault (expr_at operand_at max_nesting) (IsFault max_nesting) (faulty max_nesting) (met max_nesting) (within max_nesting)

pub no_tree : (bs : Text) (f : TextFault) (e : Expr Operand) → f ≢ OutOfMemory → IsTextFault bs f → IsWithin bs e → ⊥
no_tree bs f e x h is = whole.no_value (expr_at operand_at max_nesting) (IsFault max_nesting) (faulty max_nesting) (met max_nesting) (within max_nesting) bs f e x h (tree_met bs e is)

pub no_memory : (bs : Text) → expr_of bs ≢ Err OutOfMemory
no_memory = whole.no_memory (expr_at operand_at max_nesting) (IsFault max_nesting) (faulty max_nesting) (met max_nesting) (within max_nesting)

-- The clauses

module _ {X : Type 0} (view : X → Expr Operand) (bs : Text) where
  pub reads_found : (r : Result X TextFault) → Reads view r (expr_of bs) → IfOk r (λ x. IsWithin bs (view x))
  reads_found r h = whole.reads_found (expr_at operand_at max_nesting) view bs (IsWithin bs) (tree_is bs) r h

  pub reads_fault : (r : Result X TextFault) → Reads view r (expr_of bs) → IfErr r (IsTextFault bs)
  reads_fault r h = whole.reads_fault (expr_at operand_at max_nesting) (IsFault max_nesting) (faulty max_nesting) (met max_nesting) (within max_nesting) view bs r h

  pub reads_only : (r : Result X TextFault) → Reads view r (expr_of bs) → (e : Expr Operand) → IsWithin bs e → MatchResult r (λ t. view t ≡ e) (λ f. f ≡ OutOfMemory)
  reads_only r h e is = whole.reads_only (expr_at operand_at max_nesting) view bs r h e (tree_met bs e is)
