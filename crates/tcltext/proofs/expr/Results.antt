-- What was found is found once.
use Rattle.std.proofs.Common.{◌≡◌, Option, Some, None, sym, ◌∙◌, ap}
use Rattle.tcltext.specs.declared.expr.operators.Infix.{Infix}
use Rattle.tcltext.specs.declared.expr.operators.Mark.TheVariants as marks
use Rattle.tcltext.specs.chars.Runs.{Text}

-- what was found is one
pub found_once : {A : Type 0} (found : Option (A × Text)) (a b : A) (r s : Text) → found ≡ Some (a, r) → found ≡ Some (b, s) → (a ≡ b) × (r ≡ s)
found_once {A} found a b r s h k =
    let both : (let some : Option (A × Text) = Some (a, r) in some) ≡ Some (b, s) = sym h ∙ k in
    let e : (let pair : A × Text = (a, r) in pair) ≡ (b, s) = cc in
    (ap (λ (p : A × Text). p.0) e, ap (λ (p : A × Text). p.1) e)

pub found_none : {A : Type 0} (found : Option (A × Text)) (a : A) (r : Text) → found ≡ None → found ≡ Some (a, r) → ⊥
found_none found a r h k = apart (sym h ∙ k) where
  apart : {A : Type 0} {p : A} → (let none : Option A = None in none) ≡ Some p → ⊥
  apart h = cc

pub infix_once : (i j : Infix) → marks.Infix i ≡ marks.Infix j → i ≡ j
infix_once i j h = cc
