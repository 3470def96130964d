-- Trees of the program, level by level, and frames.
use Rattle.std.proofs.Common.{◌≡◌, ℕ, ◌≤◌, List, [], ◌∷◌, ◌++◌, ◌<◌, reverse, length, get_or, drop, sym, Vec, Box, Ok}
use Rattle.std.proofs.Common.{Err, Result, ap, ◌∙◌, refl, rules, arith}
use Rattle.std.specs.Prelude.{IfOk, encode_utf8}
use Rattle.std.specs.declared.alloc.Global.{Global}
use Rattle.std.proofs.lemmas.List.{reverse-append}
use Rattle.tcltext.specs.chars.Runs.{Text}
use Rattle.tcltext.specs.script.Tree as tree
use Rattle.tcltext.specs.script.View.{script_view, part_view, parts_view}
use Rattle.tcltext.specs.declared.script.tree.Script.{Script}
use Rattle.tcltext.specs.declared.script.tree.Part.{Part, Literal, Backslash, Variable, Indexed, Bracket, the_lemmas}
use Rattle.tcltext.specs.expr.Tree as expr
use Rattle.tcltext.specs.expr.View.{operand_view, expr_view}
use Rattle.tcltext.specs.declared.expr.operators.UnaryOperator.{UnaryOperator}
use Rattle.tcltext.specs.declared.expr.operators.BinaryOperator.{BinaryOperator}
use Rattle.tcltext.specs.declared.expr.tree.Operand as rust_operand
use Rattle.tcltext.specs.declared.expr.tree.Expr as rust_expr
use Rattle.tcltext.specs.declared.expr.tree.Expr.{Expr}
use Rattle.tclforms.specs.substitution.Machine.{WeighsLess}
use Rattle.tclforms.specs.declared.substitution.stop.Stop.{Stop}
use Rattle.tclforms.specs.declared.substitution.frame.WaitingFrame.{WaitingFrame}
use Rattle.tclforms.specs.declared.substitution.frame.Step.{Step}
use Rattle.tclforms.specs.declared.substitution.frame.Step.TheVariants as steps

module _ {P : Type 0} (range_text : P → Text) where
  pub view-Literal : (s : P) → part_view range_text (Literal s) ≡ tree.literal (range_text s)
  view-Literal s = search (rules, the_lemmas)

  pub view-Backslash : (c : ℕ) → part_view range_text (Backslash c) ≡ tree.backslash (encode_utf8 c)
  view-Backslash c = search (rules, the_lemmas)

  pub view-Variable : (s : P) → part_view range_text (Variable s) ≡ tree.variable (range_text s)
  view-Variable s = search (rules, the_lemmas)

  pub view-Indexed : (s : P) (v : Vec (Part P) Global) → part_view range_text (Indexed s v) ≡ tree.indexed (range_text s) (parts_view range_text v.items)
  view-Indexed s v = search (rules, the_lemmas)

  pub view-Bracket : (s : Script P) → part_view range_text (Bracket s) ≡ tree.bracket (script_view range_text s)
  view-Bracket s = search (rules, the_lemmas)

-- a frame that was put on the stack is the first
pub on_top : (old new : List WaitingFrame) (f : WaitingFrame) → new ≡ old ++ f ∷ [] → reverse new ≡ f ∷ reverse old
on_top old new f e = ap reverse e ∙ reverse-append old (f ∷ [])

-- less than a number is less than a greater one
pub less_more : (source : Text) (fs : List WaitingFrame) (m n : ℕ) (res : Result Step Stop) → IfOk res (λ st. WeighsLess source st fs m) → m ≤ n → IfOk res (λ st. WeighsLess source st fs n)
less_more source fs m n (Ok (steps.Next c)) h l = omega (arith, h)
less_more source fs m n (Ok (steps.Done t)) h l = tt
less_more source fs m n (Ok (steps.Bracket s)) h l = omega (arith, h)
less_more source fs m n (Err e) h l = tt

module _ {P : Type 0} (range_text : P → Text) where
  pub view-Operand : (o : rust_operand.Operand P) → expr_view range_text (rust_expr.Operand o) ≡ expr.operand (operand_view range_text o)
  view-Operand o = search (rules, rust_expr.the_lemmas)

  pub view-Unary : (u : UnaryOperator) (e : Box (Expr P) Global) → expr_view range_text (rust_expr.Unary u e) ≡ expr.unary u (expr_view range_text e.value)
  view-Unary u e = search (rules, rust_expr.the_lemmas)

  pub view-Binary : (o : BinaryOperator) (l r : Box (Expr P) Global) → expr_view range_text (rust_expr.Binary o l r) ≡ expr.binary o (expr_view range_text l.value) (expr_view range_text r.value)
  view-Binary o l r = search (rules, rust_expr.the_lemmas)

  pub view-And : (l r : Box (Expr P) Global) → expr_view range_text (rust_expr.And l r) ≡ expr.conjunction (expr_view range_text l.value) (expr_view range_text r.value)
  view-And l r = search (rules, rust_expr.the_lemmas)

  pub view-Or : (l r : Box (Expr P) Global) → expr_view range_text (rust_expr.Or l r) ≡ expr.disjunction (expr_view range_text l.value) (expr_view range_text r.value)
  view-Or l r = search (rules, rust_expr.the_lemmas)

  pub view-Choice : (c y n : Box (Expr P) Global) → expr_view range_text (rust_expr.Choice c y n) ≡ expr.choice
      (expr_view range_text c.value) (expr_view range_text y.value) (expr_view range_text n.value)
  view-Choice c y n = search (rules, rust_expr.the_lemmas)

pub empty_of : {A : Type 0} (xs : List A) → length xs < 1 → xs ≡ []
empty_of [] h = refl
empty_of (x ∷ xs) h = absurd (omega arith)

-- the first of a list, and the others
pub first_and_rest : {A : Type 0} (xs : List A) (x : A) → 0 < length xs → x ≡ get_or xs 0 x → xs ≡ x ∷ drop 1 xs
first_and_rest [] x h e = absurd (omega arith)
first_and_rest (y ∷ ys) x h e = ap (λ z. z ∷ ys) (sym e)
