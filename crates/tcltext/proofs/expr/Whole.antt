-- The tree and the fault of a whole text.
use Rattle.std.proofs.Common.{◌≡◌, ◌≢◌, ℕ, ◌<◌, ◌≤◌, [], ◌∷◌, ◌++◌, length, Bool, true, false, cond, ◌||◌, ◌&&◌, ◌==◌}
use Rattle.std.proofs.Common.{Option, Some, None, Result, Ok, Err, refl, sym, ap, subst, ◌∙◌, arith, length-append}
use Rattle.tcltext.specs.chars.Runs.{Text}
use Rattle.tcltext.specs.chars.Reading.{◌>>=◌, Fails, remaining_of}
use Rattle.tcltext.specs.declared.chars.fault.Fault.{Fault}
use Rattle.tcltext.specs.declared.chars.fault.Fault.TheVariants as marks
use Rattle.tcltext.specs.declared.chars.fault.ReadError.{ReadError}
use Rattle.tcltext.specs.declared.chars.fault.ReadError.TheVariants as errors
use Rattle.tcltext.specs.declared.expr.operators.Mark.TheVariants as marks_of
use Rattle.tcltext.specs.expr.Tree.{Expr, mark}
use Rattle.tcltext.specs.expr.Marks.{after_white}
use Rattle.tcltext.specs.expr.Faults.{ExprFault, in_condition, deep_choice, in_yes, no_colon, in_no, ChainFault, in_operand}
use Rattle.tcltext.specs.expr.Faults.{no_operand, deep_prefix, in_signed, in_open, no_close, deep_operator, in_right, inside}
use Rattle.tcltext.specs.expr.Faults.{trailing}
use Rattle.tcltext.specs.chars.Bytes.{DoesBegin}
use Rattle.tcltext.specs.chars.Classes.{is_name}
use Rattle.tcltext.specs.declared.script.context.Context.TheVariants.{InQuotes}
use Rattle.tcltext.specs.script.Tree as tree
use Rattle.tcltext.proofs.script.Ends.{end_through, end_no_longer}
use Rattle.tcltext.proofs.script.PartsExact.{part_some}
use Rattle.tcltext.specs.declared.expr.numbers.Digits.TheVariants.{Decimal}
use Rattle.tcltext.specs.expr.Operands.{Operand, number, word, variable, indexed, bracket, quoted, braced, operand_at}
use Rattle.tcltext.specs.expr.Operands.{is_digit, begins_digit, after_digits, after_exponent, after_fraction, after_decimal}
use Rattle.tcltext.specs.expr.Operands.{announced, after_announced, after_based, after_number, first_of_both}
use Rattle.tcltext.proofs.expr.MarkLemmas.{digits_more}
use Rattle.tcltext.proofs.expr.MarkLemmas as mark_lemmas
use Rattle.tcltext.specs.expr.OperandGrammar.{IsOperand, OperandFault}
use Rattle.tcltext.specs.expr.Reading.{WithHeight, whole_at, below_at, ended, expr_at}
use Rattle.tcltext.specs.expr.Text.{IsExpression, IsFault}
use Rattle.tcltext.proofs.expr.Rows.{row_no_longer, after_white_no_longer, mark_shorter}
use Rattle.tcltext.proofs.expr.Sound as operators
use Rattle.tcltext.proofs.expr.Complete as complete_operators
use Rattle.tcltext.proofs.expr.FaultSound as fault_operators
use Rattle.tcltext.proofs.expr.FaultComplete as met_operators
use Rattle.tcltext.proofs.expr.OperandSound.{operand_sound, digits_end, fraction_end, exponent_end, announced_end}
use Rattle.tcltext.proofs.expr.OperandFaults.{operand_again, operand_faulty, operand_met, operand_within, truth_some}
use Rattle.tcltext.specs.script.Pieces.{IsSuffixOf}

-- a number is some bytes
decimal_shorter : (b : ℕ) (bs rest : Text) → after_decimal (b ∷ bs) ≡ Some rest → IsSuffixOf bs rest
decimal_shorter b bs rest h = go (is_digit Decimal b) refl (b == 46) refl h where
  ends : (middle : Text) → IsSuffixOf bs middle → after_exponent middle ≡ rest → IsSuffixOf bs rest
  ends middle e same = subst (IsSuffixOf bs) same (end_through bs middle (after_exponent middle) e (exponent_end middle))

  go : (s : Bool) → is_digit Decimal b ≡ s → (t : Bool) → (b == 46) ≡ t
      → cond (s || (t && begins_digit Decimal bs)) (Some
      (after_exponent (after_fraction (after_digits Decimal (b ∷ bs))))) None ≡ Some rest → IsSuffixOf bs rest
  go true s t' t h =
      let same : after_exponent (after_fraction (after_digits Decimal (b ∷ bs))) ≡ rest = cc in
      let on : after_digits Decimal (b ∷ bs) ≡ after_digits Decimal bs = digits_more Decimal (b ∷ bs) s in
      ends (after_fraction (after_digits Decimal bs)) (end_through bs (after_digits Decimal bs)
      (after_fraction (after_digits Decimal bs)) (digits_end Decimal bs) (fraction_end (after_digits Decimal bs)))
      (ap (λ ys. after_exponent (after_fraction ys)) (sym on) ∙ same)
  go false s true t h = pointed (begins_digit Decimal bs) h where
    pointed : (u : Bool) → cond u (Some (after_exponent (after_fraction (after_digits Decimal (b ∷ bs))))) None ≡ Some rest → IsSuffixOf bs rest
    pointed true h =
        let same : after_exponent (after_fraction (after_digits Decimal (b ∷ bs))) ≡ rest = cc in
        let stays : after_digits Decimal (b ∷ bs) ≡ b ∷ bs = mark_lemmas.digits_end Decimal (b ∷ bs) s in
        let point : after_fraction (b ∷ bs) ≡ after_digits Decimal bs = rw t refl in
        ends (after_digits Decimal bs) (digits_end Decimal bs) (ap after_exponent (sym (ap after_fraction stays ∙ point)) ∙ same)
    pointed false h = cc
  go false s false t h = cc

based_shorter : (b : ℕ) (bs rest : Text) → after_based (b ∷ bs) ≡ Some rest → IsSuffixOf bs rest
based_shorter b [] rest h = cc
based_shorter b (c ∷ bs) rest h = go (b == 48) h where
  go : (t : Bool) → cond t (after_announced bs (announced c)) None ≡ Some rest → IsSuffixOf (c ∷ bs) rest
  go true h = (let e = announced_end bs rest (announced c) h in (c ∷ e.0, ap (λ xs. c ∷ xs) e.1))
  go false h = cc

number_shorter : (bs rest : Text) → after_number bs ≡ Some rest → length rest < length bs
unfolding after_number
number_shorter [] rest h = cc
number_shorter (b ∷ bs) rest h = (let e = both (after_based (b ∷ bs)) (after_decimal (b ∷ bs)) (based_shorter b bs) (decimal_shorter b bs) h in omega (arith, end_no_longer bs rest e)) where
  both : (one two : Option Text) → ((r : Text) → one ≡ Some r → IsSuffixOf bs r) → ((r : Text) → two ≡ Some r → IsSuffixOf bs r) → first_of_both one two ≡ Some rest → IsSuffixOf bs rest
  both None two x y h = y rest h
  both (Some r) two x y h = x rest h

some_less : (bs t rest : Text) → bs ≡ t ++ rest → 0 < length t → length rest < length bs
some_less bs t rest e some = omega (arith, ap length e, length-append t rest)

some_name : (t : Text) → DoesBegin is_name t → 0 < length t
some_name [] h = absurd h
some_name (b ∷ t) h = omega arith

-- an operand is some bytes
pub operand_shorter : (bs rest : Text) (o : Operand) (k : ℕ) → IsOperand bs rest o k → length rest < length bs
operand_shorter bs rest (number t) k h = number_shorter bs rest h.1
operand_shorter bs rest (word t) k h = some_less bs t rest h.0 (some_name t (truth_some t h.2.0 h.2.2))
operand_shorter bs rest (variable name) k h = some_less bs h.0 rest h.1 (part_some InQuotes (tree.variable name) h.0 rest h.2)
operand_shorter bs rest (indexed name ps) k h = some_less bs h.0 rest h.1 (part_some InQuotes (tree.indexed name ps) h.0 rest h.2)
operand_shorter bs rest (bracket s) k h = some_less bs h.0 rest h.1 (part_some InQuotes (tree.bracket s) h.0 rest h.2)
operand_shorter bs rest (quoted ps) k h = omega (arith, ap length h.1, length-append h.0 (34 ∷ rest))
operand_shorter bs rest (braced t) k h = omega (arith, ap length h.0, length-append t (125 ∷ rest))

-- Reading

pub sound : (d : ℕ) (bs : Text) (e : Expr Operand) → expr_at operand_at d bs ≡ Ok e → (h : ℕ) × (h ≤ d) × IsExpression h bs e
sound = operators.sound Operand IsOperand operand_at operand_sound

pub complete : (h d : ℕ) (bs : Text) (e : Expr Operand) → IsExpression h bs e → h ≤ d → expr_at operand_at d bs ≡ Ok e
complete = complete_operators.complete Operand IsOperand operand_at (λ d bs rest o k none is deep. operand_again d bs rest o k is deep) operand_shorter

pub faulty : (d : ℕ) (bs : Text) (f : Fault) → expr_at operand_at d bs ≡ Err f → IsFault d bs f
faulty = fault_operators.faulty Operand IsOperand OperandFault operand_at operand_sound operand_shorter (λ d bs f none h. operand_faulty d bs f h)

pub met : (d : ℕ) (bs : Text) (f : Fault) → IsFault d bs f → expr_at operand_at d bs ≡ Err f
met = met_operators.met Operand IsOperand OperandFault operand_at (λ d bs rest o k none is deep. operand_again d bs rest o k is deep) operand_shorter (λ d bs f none h. operand_met d bs f h)

pub unique : (bs : Text) (h k : ℕ) (e f : Expr Operand) → IsExpression h bs e → IsExpression k bs f → e ≡ f
unique = complete_operators.unique Operand IsOperand operand_at (λ d bs rest o k none is deep. operand_again d bs rest o k is deep) operand_shorter

-- The place of a fault lies within the text

left_after : (bs after : Text) → length after ≤ length bs → remaining_of (marks.BadExpression (length (after_white after))) ≤ length bs
left_after bs after h = omega (arith, after_white_no_longer after)

mutual
  expr_within : {d : ℕ} {bs : Text} {f : Fault} → ExprFault Operand IsOperand OperandFault d bs f → remaining_of f ≤ length bs
  expr_within (in_condition h) = chain_within h
  expr_within (deep_choice cs c after is are_tokens) = omega arith
  expr_within (in_yes {d} {bs} {f} cs c h after is deep are_tokens fault) = omega (
    arith,
    row_no_longer Operand IsOperand operand_shorter (cs ++ mark marks_of.QuestionMark ∷ []) bs after
        are_tokens,
    expr_within fault,
  )
  expr_within (no_colon {d} {bs} cs c h ys y i after is deep is' deep' are_tokens none) = left_after bs after
      (row_no_longer Operand IsOperand operand_shorter (cs ++ mark marks_of.QuestionMark ∷ ys) bs after are_tokens)
  expr_within (in_no {d} {bs} {f} cs c h ys y i after is deep is' deep' are_tokens fault) = omega (
    arith,
    row_no_longer Operand IsOperand operand_shorter
        (cs ++ mark marks_of.QuestionMark ∷ (ys ++ mark marks_of.Colon ∷ [])) bs after are_tokens,
    expr_within fault,
  )

  chain_within : {d n : ℕ} {bs : Text} {f : Fault} → ChainFault Operand IsOperand OperandFault d n bs f → remaining_of f ≤ length bs
  chain_within (in_operand {d} {n} {bs} none h) = omega (arith, after_white_no_longer bs, operand_within h)
  chain_within (no_operand {d} {n} {bs} m after is none) = omega (arith, after_white_no_longer bs)
  chain_within (deep_prefix m after is begins) = omega arith
  chain_within (in_signed {d} {n} {bs} m u after is s h) = omega (arith, after_white_no_longer bs, mark_shorter (after_white bs) m after is, chain_within h)
  chain_within (in_open {d} {n} {bs} after is h) = omega (arith, after_white_no_longer bs, mark_shorter (after_white bs) marks_of.Open after is, expr_within h)
  chain_within (no_close {d} {n} {bs} ts e h after is deep are_tokens none) = left_after bs after (row_no_longer Operand IsOperand operand_shorter (mark marks_of.Open ∷ ts) bs after are_tokens)
  chain_within (deep_operator i ls l after within is are_tokens) = omega arith
  chain_within (in_right {d} {n} {bs} i ls l h after within is deep are_tokens fault) = omega (
    arith,
    row_no_longer Operand IsOperand operand_shorter (ls ++ mark (marks_of.Infix i) ∷ []) bs after are_tokens,
    chain_within fault,
  )

fault_within : {d : ℕ} {bs : Text} {f : Fault} → IsFault d bs f → remaining_of f ≤ length bs
fault_within (inside h) = expr_within h
fault_within (trailing {d} {bs} ts e h after is deep are_tokens ends some) = left_after bs after (row_no_longer Operand IsOperand operand_shorter ts bs after are_tokens)

pub within : (d : ℕ) (bs : Text) (f : Fault) → expr_at operand_at d bs ≡ Err f → remaining_of f ≤ length bs
within d bs f h = fault_within (faulty d bs f h)

-- The code's last step

abbrev end_from : WithHeight Operand × Text → Result (Expr Operand) Fault
end_from x = ended x.0.0 (after_white x.1)

pub expr-fails : (d : ℕ) (bs text : Text) (e : ReadError) → text ≡ bs → Fails e (whole_at operand_at d (below_at operand_at d) text) → Fails e (expr_at operand_at d bs)
unfolding expr_at
expr-fails d bs text errors.Memory same h = tt
expr-fails d bs text (errors.Fault f) same h = ap (λ r. r >>= end_from) (ap (whole_at operand_at d (below_at operand_at d)) (sym same) ∙ h)

expr-step : (d : ℕ) (bs text : Text) (x : WithHeight Operand) (rest end : Text) → text ≡ bs
    → whole_at operand_at d (below_at operand_at d) text ≡ Ok (x, rest) → end ≡ after_white rest
    → expr_at operand_at d bs ≡ ended x.0 end
unfolding expr_at
expr-step d bs text x rest end same h e = ap (λ r. r >>= end_from) (ap (whole_at operand_at d (below_at operand_at d)) (sym same) ∙ h) ∙ ap (ended x.0) (sym e)

pub expr-ends : (d : ℕ) (bs text : Text) (x : WithHeight Operand) (rest end : Text) → text ≡ bs
    → whole_at operand_at d (below_at operand_at d) text ≡ Ok (x, rest) → end ≡ after_white rest → length end ≡ 0
    → expr_at operand_at d bs ≡ Ok x.0
expr-ends d bs text x rest [] same h e n = expr-step d bs text x rest [] same h e
expr-ends d bs text x rest (b ∷ end) same h e n = absurd (omega arith)

pub expr-left : (d : ℕ) (bs text : Text) (x : WithHeight Operand) (rest end : Text) → text ≡ bs
    → whole_at operand_at d (below_at operand_at d) text ≡ Ok (x, rest) → end ≡ after_white rest → length end ≢ 0
    → expr_at operand_at d bs ≡ Err (marks.BadExpression (length end))
expr-left d bs text x rest [] same h e n = absurd (n refl)
expr-left d bs text x rest (b ∷ end) same h e n = expr-step d bs text x rest (b ∷ end) same h e
