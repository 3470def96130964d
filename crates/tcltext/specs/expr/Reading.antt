-- Reading an expression from left to right, with the first fault that is met: the grammar as functions that compute,
-- which the code follows step by step. By the law `expr_of_grammar` they agree with the grammar.
use Rattle.std.specs.Prelude.{◌-◌, ℕ, zero, suc, max, [], ◌∷◌, length, Bool, true, false, nat_lt, nat_le, if◌then◌else◌}
use Rattle.std.specs.Prelude.{Option, Some, None, Result, Ok, Err}
use Rattle.tcltext.specs.chars.Runs.{Text}
use Rattle.tcltext.specs.declared.chars.fault.Fault.{Fault}
use Rattle.tcltext.specs.declared.chars.fault.Fault.TheVariants.{TooDeep, BadExpression}
use Rattle.tcltext.specs.chars.Reading.{◌>>=◌, Read, read_map}
use Rattle.tcltext.specs.declared.expr.operators.UnaryOperator.{UnaryOperator}
use Rattle.tcltext.specs.declared.expr.operators.Infix.{Infix}
use Rattle.tcltext.specs.declared.expr.operators.Mark.{Mark}
use Rattle.tcltext.specs.declared.expr.operators.Mark.TheVariants as marks
use Rattle.tcltext.specs.expr.Tree.{Expr, operand, unary, choice, joined}
use Rattle.tcltext.specs.expr.Grammar.{level, sign_of}
use Rattle.tcltext.specs.expr.Marks.{after_white, mark_at}

-- what is read: a whole expression, or one whose operators outside of parentheses are of that level at most
pub data Extent : Type 0 where
  whole : Extent
  chain : ℕ → Extent

abbrev pub is_close : Mark → Bool
is_close marks.Close = true
is_close m = false

abbrev pub is_colon : Mark → Bool
is_colon marks.Colon = true
is_colon m = false

abbrev pub is_question_mark : Mark → Bool
is_question_mark marks.QuestionMark = true
is_question_mark m = false

abbrev pub is_open : Mark → Bool
is_open marks.Open = true
is_open m = false

abbrev pub infix_of : Mark → Option Infix
infix_of (marks.Infix i) = Some i
infix_of m = None

-- the rest after a mark that must come next
abbrev pub after_expected : (Mark → Bool) → ℕ → Option (Mark × Text) → Result Text Fault
after_expected expected remaining None = Err (BadExpression remaining)
after_expected expected remaining (Some p) = if expected p.0 then Ok p.1 else Err (BadExpression remaining)

abbrev pub expect : (Mark → Bool) → Text → Result Text Fault
expect expected bs = after_expected expected (length (after_white bs)) (mark_at (after_white bs))

-- an expression, with how deep operators, parentheses and brackets nest in it
abbrev pub WithHeight : Type 0 → Type 0
WithHeight O = Expr O × ℕ

-- two expressions, joined
abbrev pub join : {O : Type 0} → Infix → WithHeight O → WithHeight O → WithHeight O
join i x y = (joined i x.0 y.0, suc (max x.1 y.1))

abbrev pub leaf_of : {O : Type 0} → O × ℕ → WithHeight O
leaf_of o = (operand o.0, o.1)

abbrev pub unary_of : {O : Type 0} → UnaryOperator → WithHeight O → WithHeight O
unary_of u x = (unary u x.0, suc x.1)

abbrev pub choice_of : {O : Type 0} → WithHeight O → WithHeight O → WithHeight O → WithHeight O
choice_of c y n = (choice c.0 y.0 n.0, suc (max c.1 (max y.1 n.1)))

-- nothing but white space may follow the whole
abbrev pub ended : {O : Type 0} → Expr O → Text → Result (Expr O) Fault
ended e [] = Ok e
ended e (b ∷ bs) = Err (BadExpression (length (b ∷ bs)))

-- read_operand reads operands; its number is how deep they may nest
module _ {O : Type 0} (read_operand : ℕ → Text → Read (O × ℕ)) where
  -- a unary operator and its operand
  abbrev pub signed_at : (Extent → Text → Read (WithHeight O)) → ℕ → Text → Option UnaryOperator → Read (WithHeight O)
  signed_at below remaining rest None = Err (BadExpression remaining)
  signed_at below remaining rest (Some u) = read_map (λ x. (unary u x.0, suc x.1)) (below (chain 1) rest)

  -- an expression in parentheses, after the opening one
  abbrev pub enclosed_at : (Extent → Text → Read (WithHeight O)) → Text → Read (WithHeight O)
  enclosed_at below rest = do
    x ← below whole rest
    after ← expect is_close x.1
    Ok ((x.0.0, suc x.0.1), after)

  abbrev pub marked_at : (Extent → Text → Read (WithHeight O)) → ℕ → Mark → Text → Read (WithHeight O)
  marked_at below remaining m rest =
      if is_open m then enclosed_at below rest else signed_at below remaining rest (sign_of m)

  -- an operand with the unary operators before it, or an expression in parentheses
  abbrev pub begun_at : ℕ → (Extent → Text → Read (WithHeight O)) → Text → Option (Mark × Text) → Read (WithHeight O)
  begun_at d below bs None = read_map (λ o. (operand o.0, o.1)) (read_operand d bs)
  begun_at d below bs (Some p) = marked_at below (length bs) p.0 p.1

  unfoldable pub prefix_at : ℕ → (Extent → Text → Read (WithHeight O)) → Text → Read (WithHeight O)
  prefix_at d below bs = begun_at d below (after_white bs) (mark_at (after_white bs))

  -- after an expression, an operator of that level at most and the rest of the chain, or the end of the chain
  abbrev pub next_at : ℕ → (Extent → Text → Read (WithHeight O)) → ℕ → (WithHeight O → Text → Read (WithHeight O))
      → WithHeight O → Text → Text → Option Infix → Read (WithHeight O)
  next_at d below n more x bs rest None = Ok (x, bs)
  next_at d below n more x bs rest (Some i) =
      if nat_le (level i) n then
      if nat_lt x.1 d then below (chain (level i - 1)) rest >>= (λ y. more (join i x y.0) y.1) else Err TooDeep
      else Ok (x, bs)

  abbrev pub going_at : ℕ → (Extent → Text → Read (WithHeight O)) → ℕ → (WithHeight O → Text → Read (WithHeight O))
      → WithHeight O → Text → Option (Mark × Text) → Read (WithHeight O)
  going_at d below n more x bs None = Ok (x, bs)
  going_at d below n more x bs (Some p) = next_at d below n more x bs p.1 (infix_of p.0)

  -- The number turns bounds the turns: one more than the length is enough.
  unfoldable pub climb_at : ℕ → (Extent → Text → Read (WithHeight O)) → ℕ → ℕ → WithHeight O → Text
      → Read (WithHeight O)
  climb_at d below n zero x bs = Err TooDeep
  climb_at d below n (suc turns) x bs = going_at d below n (climb_at d below n turns) x bs (mark_at (after_white bs))

  unfoldable pub chain_at : ℕ → (Extent → Text → Read (WithHeight O)) → ℕ → Text → Read (WithHeight O)
  chain_at d below n bs = prefix_at d below bs >>= (λ x. climb_at d below n (suc (length x.1)) x.0 x.1)

  -- the two branches of a choice, after its question mark
  abbrev pub branches_at : (Extent → Text → Read (WithHeight O)) → WithHeight O → Text → Read (WithHeight O)
  branches_at below x rest = do
    y ← below whole rest
    after ← expect is_colon y.1
    z ← below whole after
    Ok ((choice x.0 y.0.0 z.0.0, suc (max x.1 (max y.0.1 z.0.1))), z.1)

  abbrev pub choosing_at : ℕ → (Extent → Text → Read (WithHeight O)) → WithHeight O → Text → Option (Mark × Text)
      → Read (WithHeight O)
  choosing_at d below x bs None = Ok (x, bs)
  choosing_at d below x bs (Some p) =
      if is_question_mark p.0 then
      if nat_lt x.1 d then branches_at below x p.1 else Err TooDeep
      else Ok (x, bs)

  unfoldable pub whole_at : ℕ → (Extent → Text → Read (WithHeight O)) → Text → Read (WithHeight O)
  whole_at d below bs = chain_at d below 13 bs >>= (λ x. choosing_at d below x.0 x.1 (mark_at (after_white x.1)))

  abbrev pub extent_at : ℕ → (Extent → Text → Read (WithHeight O)) → Extent → Text → Read (WithHeight O)
  extent_at d below whole bs = whole_at d below bs
  extent_at d below (chain n) bs = chain_at d below n bs

  -- after a mark, where so many may nest, that mark included
  unfoldable pub below_at : ℕ → Extent → Text → Read (WithHeight O)
  below_at zero extent bs = Err TooDeep
  below_at (suc d) extent bs = extent_at d (below_at d) extent bs

  -- the tree of a whole text, in which no more than that may nest
  unfoldable pub expr_at : ℕ → Text → Result (Expr O) Fault
  expr_at d bs = whole_at d (below_at d) bs >>= (λ x. ended x.0.0 (after_white x.1))
