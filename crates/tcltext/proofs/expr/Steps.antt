-- The steps of the readers of expressions, as the code takes them.
use Rattle.std.proofs.Common.{◌≡◌, ◌<◌, ◌-◌, ℕ, suc, length, Bool, true, false, cond, nat_lt, if◌then◌else◌, Option}
use Rattle.std.proofs.Common.{Some, None, Result, Ok, Err, refl, sym, ap, subst, ◌∙◌, arith}
use Rattle.tcltext.specs.chars.Runs.{Text}
use Rattle.tcltext.specs.declared.chars.fault.Fault.{Fault}
use Rattle.tcltext.specs.declared.chars.fault.Fault.TheVariants.{TooDeep, BadExpression}
use Rattle.tcltext.specs.declared.chars.fault.ReadError.{ReadError}
use Rattle.tcltext.specs.declared.chars.fault.ReadError.TheVariants as errors
use Rattle.tcltext.specs.chars.Reading.{◌>>=◌, Read, read_map, Fails}
use Rattle.tcltext.specs.declared.expr.operators.UnaryOperator.{UnaryOperator}
use Rattle.tcltext.specs.declared.expr.operators.Mark.{Mark}
use Rattle.tcltext.specs.declared.expr.operators.Mark.TheVariants as marks
use Rattle.tcltext.specs.expr.Grammar.{sign_of}
use Rattle.tcltext.specs.expr.Marks.{after_white, mark_at}
use Rattle.tcltext.specs.expr.Operands.{Operand, operand_at}
use Rattle.tcltext.specs.expr.Reading.{Extent, whole, chain, WithHeight, leaf_of, unary_of, choice_of, expect, is_close}
use Rattle.tcltext.specs.expr.Reading.{is_colon, is_open, is_question_mark, enclosed_at, branches_at, begun_at, prefix_at}
use Rattle.tcltext.specs.expr.Reading.{signed_at, choosing_at, chain_at, whole_at, below_at}
use Rattle.tcltext.proofs.expr.Sound.{question_is}
use Rattle.tcltext.proofs.expr.Complete.{below_chain, below_whole, prefix_marked, marked_other, marked_sign, whole_from}
use Rattle.tcltext.proofs.expr.Complete.{lt_true}

-- One level down

below_whole_at : (d k : ℕ) (bs : Text) → d ≡ suc k → below_at operand_at d whole bs ≡ whole_at operand_at k (below_at operand_at k) bs
below_whole_at d k bs e = ap (λ n. below_at operand_at n whole bs) e ∙ below_whole operand_at k bs

below_chain_at : (d k n : ℕ) (bs : Text) → d ≡ suc k → below_at operand_at d (chain n) bs ≡ chain_at operand_at k (below_at operand_at k) n bs
below_chain_at d k n bs e = ap (λ m. below_at operand_at m (chain n) bs) e ∙ below_chain operand_at k n bs

below_none : (d : ℕ) (extent : Extent) (bs : Text) → d ≡ 0 → below_at operand_at d extent bs ≡ Err TooDeep
unfolding below_at
below_none d extent bs e = ap (λ m. below_at operand_at m extent bs) e

abbrev less : ℕ → ℕ
less d = d - 1

bind_fails : {A B : Type 0} (r s : Result A Fault) (f : A → Result B Fault) (e : ReadError) → r ≡ s → Fails e s → Fails e (r >>= f)
bind_fails r s f errors.Memory same h = tt
bind_fails r s f (errors.Fault k) same h = ap (λ r. r >>= f) (same ∙ h)

-- Parentheses

abbrev close_from : WithHeight Operand × Text → Read (WithHeight Operand)
close_from x = expect is_close x.1 >>= (λ after. Ok ((x.0.0, suc x.0.1), after))

pub enclosed-deep : (d : ℕ) (bs : Text) → d ≡ 0 → enclosed_at operand_at (below_at operand_at d) bs ≡ Err TooDeep
enclosed-deep d bs e = ap (λ r. r >>= close_from) (below_none d whole bs e)

pub enclosed-fails : (d : ℕ) (bs : Text) (e : ReadError) → 0 < d
    → Fails e (whole_at operand_at (less d) (below_at operand_at (less d)) bs)
    → Fails e (enclosed_at operand_at (below_at operand_at d) bs)
enclosed-fails d bs e some h =
    bind_fails (below_at operand_at d whole bs) (whole_at operand_at (less d) (below_at operand_at (less d)) bs) close_from e (below_whole_at d (less d) bs (omega arith)) h

enclosed-step : (d : ℕ) (bs : Text) (x : WithHeight Operand) (rest : Text) → 0 < d
    → whole_at operand_at (less d) (below_at operand_at (less d)) bs ≡ Ok (x, rest)
    → enclosed_at operand_at (below_at operand_at d) bs ≡ close_from (x, rest)
enclosed-step d bs x rest some h = ap (λ r. r >>= close_from) (below_whole_at d (less d) bs (omega arith) ∙ h)

pub enclosed-open : (d : ℕ) (bs : Text) (x : WithHeight Operand) (rest : Text) (e : ReadError) → 0 < d
    → whole_at operand_at (less d) (below_at operand_at (less d)) bs ≡ Ok (x, rest) → Fails e (expect is_close rest)
    → Fails e (enclosed_at operand_at (below_at operand_at d) bs)
enclosed-open d bs x rest e some h k =
    subst (Fails e) (sym (enclosed-step d bs x rest some h))
    (bind_fails (expect is_close rest) (expect is_close rest)
    (λ (after : Text). let made : Read (WithHeight Operand) = Ok ((x.0, suc x.1), after) in made) e refl k)

pub enclosed-read : (d : ℕ) (bs : Text) (x : WithHeight Operand) (rest after : Text) → 0 < d
    → whole_at operand_at (less d) (below_at operand_at (less d)) bs ≡ Ok (x, rest) → expect is_close rest ≡ Ok after
    → enclosed_at operand_at (below_at operand_at d) bs ≡ Ok ((x.0, suc x.1), after)
enclosed-read d bs x rest after some h k = enclosed-step d bs x rest some h ∙ ap (λ r. r >>= (λ (after : Text). let made : Read (WithHeight Operand) = Ok ((x.0, suc x.1), after) in made)) k

-- Operators before an operand

pub signed-deep : (d : ℕ) (u : UnaryOperator) (bs : Text) → d ≡ 0 → read_map (unary_of {O = Operand} u) (below_at operand_at d (chain 1) bs) ≡ Err TooDeep
signed-deep d u bs e = ap (read_map (unary_of u)) (below_none d (chain 1) bs e)

pub signed-fails : (d : ℕ) (u : UnaryOperator) (bs : Text) (e : ReadError) → 0 < d
    → Fails e (chain_at operand_at (less d) (below_at operand_at (less d)) 1 bs)
    → Fails e (read_map (unary_of {O = Operand} u) (below_at operand_at d (chain 1) bs))
signed-fails d u bs e some h =
    bind_fails (below_at operand_at d (chain 1) bs) (chain_at operand_at (less d) (below_at operand_at (less d)) 1 bs)
    (λ (x : WithHeight Operand × Text). let made : Read (WithHeight Operand) = Ok (unary_of u x.0, x.1) in made) e
    (below_chain_at d (less d) 1 bs (omega arith)) h

pub signed-read : (d : ℕ) (u : UnaryOperator) (bs : Text) (x : WithHeight Operand) (rest : Text) → 0 < d → chain_at operand_at (less d) (below_at operand_at (less d)) 1 bs ≡ Ok (x, rest)
    → read_map (unary_of u) (below_at operand_at d (chain 1) bs) ≡ Ok (unary_of u x, rest)
signed-read d u bs x rest some h = ap (read_map (unary_of u)) (below_chain_at d (less d) 1 bs (omega arith) ∙ h)

-- Right operands

pub right-chain : (d h n : ℕ) (bs : Text) → h < d → (if nat_lt h d then below_at operand_at d (chain n) bs else Err TooDeep) ≡ chain_at operand_at (less d) (below_at operand_at (less d)) n bs
right-chain d h n bs lower =
    let t : nat_lt h d ≡ true = lt_true h d lower in
    ap (λ s. cond s (below_at operand_at d (chain n) bs) (Err TooDeep)) t ∙ below_chain_at d (less d) n bs (omega arith)

-- What begins a chain

pub prefix-leaf : (d : ℕ) (bs start : Text) → start ≡ after_white bs → mark_at start ≡ None → prefix_at operand_at d (below_at operand_at d) bs ≡ read_map leaf_of (operand_at d start)
unfolding prefix_at
prefix-leaf d bs start e none =
    ap (λ s. begun_at operand_at d (below_at operand_at d) s (mark_at s)) (sym e) ∙ ap (begun_at operand_at d (below_at operand_at d) start) none

pub prefix-open : (d : ℕ) (bs start after : Text) → start ≡ after_white bs → mark_at start ≡ Some (marks.Open, after)
    → prefix_at operand_at d (below_at operand_at d) bs ≡ enclosed_at operand_at (below_at operand_at d) after
prefix-open d bs start after e is = prefix_marked operand_at d (below_at operand_at d) bs marks.Open after (ap mark_at (sym e) ∙ is)

pub prefix-signed : (d : ℕ) (bs start : Text) (m : Mark) (u : UnaryOperator) (after : Text) → start ≡ after_white bs → mark_at start ≡ Some (m, after) → sign_of m ≡ Some u
    → prefix_at operand_at d (below_at operand_at d) bs ≡ read_map (unary_of u) (below_at operand_at d (chain 1) after)
prefix-signed d bs start m u after e is s =
    prefix_marked operand_at d (below_at operand_at d) bs m after (ap mark_at (sym e) ∙ is) ∙ marked_sign operand_at d (below_at operand_at d) (length (after_white bs)) m u after s

pub prefix-other : (d : ℕ) (bs start : Text) (m : Mark) (after : Text) → start ≡ after_white bs → mark_at start ≡ Some (m, after) → is_open m ≡ false → sign_of m ≡ None
    → prefix_at operand_at d (below_at operand_at d) bs ≡ Err (BadExpression (length start))
prefix-other d bs start m after e is shut s =
    prefix_marked operand_at d (below_at operand_at d) bs m after (ap mark_at (sym e) ∙ is) ∙ marked_other operand_at d (below_at operand_at d) (length (after_white bs)) m after shut
    ∙ ap (signed_at operand_at (below_at operand_at d) (length (after_white bs)) after) s ∙ ap (λ s. Err (BadExpression (length s))) (sym e)

-- Choices

pub whole-fails : (d : ℕ) (bs : Text) (e : ReadError) → Fails e (chain_at operand_at d (below_at operand_at d) 13 bs) → Fails e (whole_at operand_at d (below_at operand_at d) bs)
unfolding whole_at
whole-fails d bs e h =
    bind_fails (chain_at operand_at d (below_at operand_at d) 13 bs) (chain_at operand_at d (below_at operand_at d) 13 bs)
    (λ (x : WithHeight Operand × Text). choosing_at operand_at d (below_at operand_at d) x.0 x.1 (mark_at (after_white x.1))) e refl h

pub whole-asks : (d : ℕ) (bs : Text) (x : WithHeight Operand) (rest start after : Text)
    → chain_at operand_at d (below_at operand_at d) 13 bs ≡ Ok (x, rest) → start ≡ after_white rest
    → mark_at start ≡ Some (marks.QuestionMark, after)
    → whole_at operand_at d (below_at operand_at d) bs ≡ (if nat_lt x.1 d then branches_at operand_at (below_at operand_at d) x after else Err TooDeep)
whole-asks d bs x rest start after h e is =
    whole_from operand_at d (below_at operand_at d) bs x rest h ∙ ap (choosing_at operand_at d (below_at operand_at d) x rest) (ap mark_at (sym e) ∙ is)

no_question : (d : ℕ) (x : WithHeight Operand) (rest : Text) (found : Option (Mark × Text))
    → ((after : Text) → found ≡ Some (marks.QuestionMark, after) → ⊥)
    → choosing_at operand_at d (below_at operand_at d) x rest found ≡ Ok (x, rest)
no_question d x rest None none = refl
no_question d x rest (Some p) none = by_test (is_question_mark p.0) refl where
  by_test : (s : Bool) → is_question_mark p.0 ≡ s → cond s (cond (nat_lt x.1 d) (branches_at operand_at (below_at operand_at d) x p.1) (Err TooDeep)) (Ok (x, rest)) ≡ Ok (x, rest)
  by_test true s = absurd (none p.1 (ap (λ m. Some (m, p.1)) (question_is p.0 s)))
  by_test false s = refl

pub whole-ends : (d : ℕ) (bs : Text) (x : WithHeight Operand) (rest start : Text)
    → chain_at operand_at d (below_at operand_at d) 13 bs ≡ Ok (x, rest) → start ≡ after_white rest
    → ((after : Text) → mark_at start ≡ Some (marks.QuestionMark, after) → ⊥)
    → whole_at operand_at d (below_at operand_at d) bs ≡ Ok (x, rest)
whole-ends d bs x rest start h e none =
    whole_from operand_at d (below_at operand_at d) bs x rest h ∙ no_question d x rest (mark_at (after_white rest)) (λ after is. none after (ap mark_at e ∙ is))

-- Branches, behind a condition that nests so deep

abbrev no_from : ℕ → WithHeight Operand → WithHeight Operand → Text → Read (WithHeight Operand)
no_from d x y after = below_at operand_at d whole after >>= (λ z. Ok (choice_of x y z.0, z.1))

abbrev yes_from : ℕ → WithHeight Operand → WithHeight Operand × Text → Read (WithHeight Operand)
yes_from d x y = expect is_colon y.1 >>= no_from d x y.0

branches-start : (d : ℕ) (x : WithHeight Operand) (bs : Text) → x.1 < d
    → (if nat_lt x.1 d then branches_at operand_at (below_at operand_at d) x bs else Err TooDeep) ≡
    (whole_at operand_at (less d) (below_at operand_at (less d)) bs >>= yes_from d x)
branches-start d x bs lower =
    let t : nat_lt x.1 d ≡ true = lt_true x.1 d lower in
    ap (λ s. cond s (branches_at operand_at (below_at operand_at d) x bs) (Err TooDeep)) t ∙ ap (λ r. r >>= yes_from d x) (below_whole_at d (less d) bs (omega arith))

pub branches-yes : (d : ℕ) (x : WithHeight Operand) (bs : Text) (e : ReadError) → x.1 < d → Fails e (whole_at operand_at (less d) (below_at operand_at (less d)) bs)
    → Fails e (if nat_lt x.1 d then branches_at operand_at (below_at operand_at d) x bs else Err TooDeep)
branches-yes d x bs e lower h =
    let w = whole_at operand_at (less d) (below_at operand_at (less d)) bs in
    subst (Fails e) (sym (branches-start d x bs lower)) (bind_fails w w (yes_from d x) e refl h)

branches-then : (d : ℕ) (x y : WithHeight Operand) (bs rest : Text) → x.1 < d → whole_at operand_at (less d) (below_at operand_at (less d)) bs ≡ Ok (y, rest)
    → (if nat_lt x.1 d then branches_at operand_at (below_at operand_at d) x bs else Err TooDeep) ≡ (expect is_colon rest >>= no_from d x y)
branches-then d x y bs rest lower h = branches-start d x bs lower ∙ ap (λ r. r >>= yes_from d x) h

pub branches-colon : (d : ℕ) (x y : WithHeight Operand) (bs rest : Text) (e : ReadError) → x.1 < d
    → whole_at operand_at (less d) (below_at operand_at (less d)) bs ≡ Ok (y, rest) → Fails e (expect is_colon rest)
    → Fails e (if nat_lt x.1 d then branches_at operand_at (below_at operand_at d) x bs else Err TooDeep)
branches-colon d x y bs rest e lower h k =
    subst (Fails e) (sym (branches-then d x y bs rest lower h)) (bind_fails (expect is_colon rest) (expect is_colon rest) (no_from d x y) e refl k)

branches-else : (d : ℕ) (x y : WithHeight Operand) (bs rest after : Text) → x.1 < d → whole_at operand_at (less d) (below_at operand_at (less d)) bs ≡ Ok (y, rest) → expect is_colon rest ≡ Ok after
    → (if nat_lt x.1 d then branches_at operand_at (below_at operand_at d) x bs else Err TooDeep) ≡
    (whole_at operand_at (less d) (below_at operand_at (less d)) after >>= (λ z. Ok (choice_of x y z.0, z.1)))
branches-else d x y bs rest after lower h k =
    branches-then d x y bs rest lower h ∙ ap (λ r. r >>= no_from d x y) k ∙ ap (λ r. r >>= (λ z. Ok (choice_of x y z.0, z.1))) (below_whole_at d (less d) after (omega arith))

pub branches-no : (d : ℕ) (x y : WithHeight Operand) (bs rest after : Text) (e : ReadError) → x.1 < d
    → whole_at operand_at (less d) (below_at operand_at (less d)) bs ≡ Ok (y, rest) → expect is_colon rest ≡ Ok after
    → Fails e (whole_at operand_at (less d) (below_at operand_at (less d)) after) → Fails e (if nat_lt x.1 d then branches_at operand_at (below_at operand_at d) x bs else Err TooDeep)
branches-no d x y bs rest after e lower h k l =
    let w = whole_at operand_at (less d) (below_at operand_at (less d)) after in
    subst (Fails e) (sym (branches-else d x y bs rest after lower h k))
    (bind_fails w w (λ (z : WithHeight Operand × Text). let made : Read (WithHeight Operand) = Ok
    (choice_of x y z.0, z.1) in made) e refl l)

pub branches-read : (d : ℕ) (x y z : WithHeight Operand) (bs rest after end : Text) → x.1 < d
    → whole_at operand_at (less d) (below_at operand_at (less d)) bs ≡ Ok (y, rest) → expect is_colon rest ≡ Ok after
    → whole_at operand_at (less d) (below_at operand_at (less d)) after ≡ Ok (z, end)
    → (if nat_lt x.1 d then branches_at operand_at (below_at operand_at d) x bs else Err TooDeep) ≡ Ok (choice_of x y z, end)
branches-read d x y z bs rest after end lower h k l = branches-else d x y bs rest after lower h k ∙ ap (λ r. r >>= (λ z. Ok (choice_of x y z.0, z.1))) l
