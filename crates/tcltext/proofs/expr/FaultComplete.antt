-- The first fault of a text is the one that is met.
use Rattle.std.proofs.Common.{◌≡◌, ◌≢◌, ◌<◌, ◌≤◌, ◌-◌, ℕ, zero, suc, max, List, [], ◌∷◌, ◌++◌, length, Bool, true}
use Rattle.std.proofs.Common.{false, nat_lt, Option, Some, None, Result, Ok, Err, refl, sym, ap, ◌∙◌, arith, inl, inr}
use Rattle.tcltext.specs.chars.Runs.{Text}
use Rattle.tcltext.specs.declared.chars.fault.Fault.{Fault}
use Rattle.tcltext.specs.declared.chars.fault.Fault.TheVariants.{TooDeep, BadExpression}
use Rattle.tcltext.specs.chars.Reading.{◌>>=◌, Read, read_map}
use Rattle.tcltext.specs.declared.expr.operators.UnaryOperator.{UnaryOperator}
use Rattle.tcltext.specs.declared.expr.operators.Infix.{Infix}
use Rattle.tcltext.specs.declared.expr.operators.Mark.{Mark}
use Rattle.tcltext.specs.declared.expr.operators.Mark.TheVariants as marks
use Rattle.tcltext.specs.expr.Tree.{Expr, operand, unary, choice, Token, mark}
use Rattle.tcltext.specs.expr.Grammar.{level, sign_of, IsChain}
use Rattle.tcltext.specs.expr.Marks.{after_white, mark_at}
use Rattle.tcltext.specs.expr.TokenList.{AreTokens, IsExprText}
use Rattle.tcltext.specs.expr.Faults.{NextIsNot, MayFollow, MayFollowOr, BeginsOperand, bad_next, ExprFault, in_condition}
use Rattle.tcltext.specs.expr.Faults.{deep_choice, in_yes, no_colon, in_no, ChainFault, in_operand, no_operand, deep_prefix}
use Rattle.tcltext.specs.expr.Faults.{in_signed, in_open, no_close, deep_operator, in_right, ExprTextFault, inside, trailing}
use Rattle.tcltext.specs.expr.Reading.{Extent, whole, chain, is_close, is_colon, is_open, after_expected, expect, signed_at}
use Rattle.tcltext.specs.expr.Reading.{enclosed_at, begun_at, prefix_at, join, climb_at, chain_at, branches_at, choosing_at}
use Rattle.tcltext.specs.expr.Reading.{whole_at, below_at, ended, expr_at}
use Rattle.tcltext.proofs.expr.Rows.{row_cut}
use Rattle.tcltext.proofs.expr.Sound.{open_is, close_is, colon_is}
use Rattle.tcltext.proofs.expr.Complete.{below_chain, below_whole, prefix_marked, marked_other, marked_sign, climb_operator}
use Rattle.tcltext.proofs.expr.Complete.{climb_goes, choosing_goes, whole_from, no_operator, no_goes_on, operator_follows}
use Rattle.tcltext.proofs.expr.Complete.{Reaches, reaches_end, chain_again, expr_again, complete, lt_false}

marked_false : (test : Mark → Bool) (expected : Mark) → ((m : Mark) → test m ≡ true → m ≡ expected) → (m : Mark) → (m ≡ expected → ⊥) → (t : Bool) → test m ≡ t → test m ≡ false
marked_false test expected only m other true is = absurd (other (only m is))
marked_false test expected only m other false is = is

-- a mark that has to come next and doesn't
expect_err : (test : Mark → Bool) (expected : Mark) → ((m : Mark) → test m ≡ true → m ≡ expected) → (rest : Text) → NextIsNot (MayFollowOr expected) rest → expect test rest ≡ Err (bad_next rest)
expect_err test expected only rest none = at_mark (mark_at (after_white rest)) refl where
  at_mark : (found : Option (Mark × Text)) → mark_at (after_white rest) ≡ found → after_expected test (length (after_white rest)) found ≡ Err (bad_next rest)
  at_mark None is = refl
  at_mark (Some p) is = let off : test p.0 ≡ false = marked_false test expected only p.0 (λ e. none p.0 p.1 is (inr e)) (test p.0) refl in rw off refl

ends_left : (expected : Mark) (rest : Text) → NextIsNot (MayFollowOr expected) rest → NextIsNot MayFollow rest
ends_left expected rest none = λ m more is goes. none m more is (inl goes)

no_begin : (m : Mark) → (BeginsOperand m → ⊥) → (is_open m ≡ false) × (sign_of m ≡ None)
no_begin m none = (marked_false is_open marks.Open open_is m (λ e. none (inl e)) (is_open m) refl, by_sign (sign_of m) refl) where
  by_sign : (s : Option UnaryOperator) → sign_of m ≡ s → sign_of m ≡ None
  by_sign None is = is
  by_sign (Some u) is = absurd (none (inr (u, is)))

module _ {O : Type 0} (read_operand : ℕ → Text → Read (O × ℕ)) (d : ℕ) (below : Extent → Text → Read (Expr O × ℕ)) where
  prefix_err : (n : ℕ) (bs : Text) (f : Fault) → prefix_at read_operand d below bs ≡ Err f → chain_at read_operand d below n bs ≡ Err f
  unfolding chain_at
  prefix_err n bs f h = ap (λ r. r >>= (λ x. climb_at read_operand d below n (suc (length x.1)) x.0 x.1)) h

  operand_err : (bs : Text) (f : Fault) → mark_at (after_white bs) ≡ None → read_operand d (after_white bs) ≡ Err f → prefix_at read_operand d below bs ≡ Err f
  unfolding prefix_at
  operand_err bs f none h = ap (begun_at read_operand d below (after_white bs)) none ∙ ap (read_map (λ (o : O × ℕ). let made : Expr O × ℕ = (operand o.0, o.1) in made)) h

  chain_err : (bs : Text) (f : Fault) → chain_at read_operand d below 13 bs ≡ Err f → whole_at read_operand d below bs ≡ Err f
  unfolding whole_at
  chain_err bs f h = ap (λ r. r >>= (λ x. choosing_at read_operand d below x.0 x.1 (mark_at (after_white x.1)))) h

  enclosed_err : (after : Text) (f : Fault) → below whole after ≡ Err f → enclosed_at read_operand below after ≡ Err f
  enclosed_err after f h = ap (λ r. r >>= (λ x. expect is_close x.1 >>= (λ after. Ok ((x.0.0, suc x.0.1), after)))) h

  -- what stands at an operand's place
  open_err : (n : ℕ) (bs after : Text) (f : Fault) → mark_at (after_white bs) ≡ Some (marks.Open, after) → enclosed_at read_operand below after ≡ Err f → chain_at read_operand d below n bs ≡ Err f
  open_err n bs after f is h = prefix_err n bs f (prefix_marked read_operand d below bs marks.Open after is ∙ h)

  sign_err : (n : ℕ) (bs : Text) (m : Mark) (u : UnaryOperator) (after : Text) (f : Fault)
      → mark_at (after_white bs) ≡ Some (m, after) → sign_of m ≡ Some u → below (chain 1) after ≡ Err f
      → chain_at read_operand d below n bs ≡ Err f
  sign_err n bs m u after f is s h =
      prefix_err n bs f (prefix_marked read_operand d below bs m after is ∙ marked_sign read_operand d below (length (after_white bs)) m u after s
      ∙ ap (read_map (λ (x : Expr O × ℕ). let made : Expr O × ℕ = (unary u x.0, suc x.1) in made)) h)

  other_err : (n : ℕ) (bs : Text) (m : Mark) (after : Text) → mark_at (after_white bs) ≡ Some (m, after) → (BeginsOperand m → ⊥) → chain_at read_operand d below n bs ≡ Err (bad_next bs)
  other_err n bs m after is none =
      let two = no_begin m none in
      prefix_err n bs (bad_next bs) (prefix_marked read_operand d below bs m after is ∙ marked_other read_operand d below (length (after_white bs)) m after two.0
      ∙ ap (signed_at read_operand below (length (after_white bs)) after) two.1)

  choosing_deep : (x : Expr O × ℕ) (rest after : Text) → mark_at (after_white rest) ≡ Some (marks.QuestionMark, after)
      → d ≤ x.1 → choosing_at read_operand d below x rest (mark_at (after_white rest)) ≡ Err TooDeep
  choosing_deep x rest after is tall = ap (choosing_at read_operand d below x rest) is ∙ (let t : nat_lt x.1 d ≡ false = lt_false x.1 d tall in rw t refl)

  climb_deep : (n turns : ℕ) (x : Expr O × ℕ) (rest : Text) (i : Infix) (after : Text) → 0 < turns
      → mark_at (after_white rest) ≡ Some (marks.Infix i, after) → level i ≤ n → d ≤ x.1
      → climb_at read_operand d below n turns x rest ≡ Err TooDeep
  climb_deep n zero x rest i after some is within tall = absurd (omega arith)
  climb_deep n (suc turns) x rest i after some is within tall =
      climb_operator read_operand d below n turns x rest i after is within ∙ (let t : nat_lt x.1 d ≡ false = lt_false x.1 d tall in rw t refl)

  climb_err : (n turns : ℕ) (x : Expr O × ℕ) (rest : Text) (i : Infix) (after : Text) (f : Fault) → 0 < turns → mark_at (after_white rest) ≡ Some (marks.Infix i, after) → level i ≤ n → x.1 < d
      → below (chain (level i - 1)) after ≡ Err f → climb_at read_operand d below n turns x rest ≡ Err f
  climb_err n zero x rest i after f some is within less h = absurd (omega arith)
  climb_err n (suc turns) x rest i after f some is within less h =
      climb_goes read_operand d below n turns x rest i after is within less ∙ ap (λ r. r >>= (λ y. climb_at read_operand d below n turns (join i x y.0) y.1)) h

  yes_err : (x : Expr O × ℕ) (after : Text) (f : Fault) → below whole after ≡ Err f → branches_at read_operand below x after ≡ Err f
  yes_err x after f h = ap (λ r. r >>= (λ y. expect is_colon y.1 >>= (λ after. below whole after >>= (λ z. Ok ((choice x.0 y.0.0 z.0.0, suc (max x.1 (max y.0.1 z.0.1))), z.1))))) h

  colon_err : (x y : Expr O × ℕ) (after end : Text) (f : Fault) → below whole after ≡ Ok (y, end) → expect is_colon end ≡ Err f → branches_at read_operand below x after ≡ Err f
  colon_err x y after end f h k =
      ap (λ r. r >>= (λ y. expect is_colon y.1 >>= (λ after. below whole after >>= (λ z. Ok ((choice x.0 y.0.0 z.0.0, suc (max x.1 (max y.0.1 z.0.1))), z.1))))) h
      ∙ ap (λ r. r >>= (λ after. below whole after >>= (λ z. Ok ((choice x.0 y.0 z.0.0, suc (max x.1 (max y.1 z.0.1))), z.1)))) k

  no_err : (x y : Expr O × ℕ) (after end last : Text) (f : Fault) → below whole after ≡ Ok (y, end)
      → expect is_colon end ≡ Ok last → below whole last ≡ Err f → branches_at read_operand below x after ≡ Err f
  no_err x y after end last f h k l =
      ap (λ r. r >>= (λ y. expect is_colon y.1 >>= (λ after. below whole after >>= (λ z. Ok ((choice x.0 y.0.0 z.0.0, suc (max x.1 (max y.0.1 z.0.1))), z.1))))) h
      ∙ ap (λ r. r >>= (λ after. below whole after >>= (λ z. Ok ((choice x.0 y.0 z.0.0, suc (max x.1 (max y.1 z.0.1))), z.1)))) k
      ∙ ap (λ r. r >>= (λ z. Ok ((choice x.0 y.0 z.0.0, suc (max x.1 (max y.1 z.0.1))), z.1))) l

module _ (O : Type 0) (IsOperand : Text → Text → O → ℕ → Type 0) (OperandFault : ℕ → Text → Fault → Type 0) (read_operand : ℕ → Text → Read (O × ℕ))
    (again : (d : ℕ) (bs rest : Text) (o : O) (k : ℕ) → mark_at bs ≡ None → IsOperand bs rest o k → k ≤ d → read_operand d bs ≡ Ok ((o, k), rest))
    (shorter : (bs rest : Text) (o : O) (k : ℕ) → IsOperand bs rest o k → length rest < length bs)
    (operand_met : (d : ℕ) (bs : Text) (f : Fault) → mark_at bs ≡ None → OperandFault d bs f → read_operand d bs ≡ Err f) where
  -- the condition of a choice, read
  first_read : (d h : ℕ) (bs : Text) (cs us : List (Token O)) (c : Expr O) (last : Text) → IsChain O h 13 cs c → h ≤ d → AreTokens O IsOperand bs last (cs ++ mark marks.QuestionMark ∷ us)
      → (rest : Text) × (after : Text) × (mark_at (after_white rest) ≡ Some (marks.QuestionMark, after)) × AreTokens O IsOperand after last us
      × (whole_at read_operand d (below_at read_operand d) bs ≡ choosing_at read_operand d (below_at read_operand d) (c, h) rest (mark_at (after_white rest)))
  first_read d h bs cs us c last is deep are_tokens =
      let cut = row_cut O IsOperand cs (mark marks.QuestionMark ∷ us) bs last are_tokens in
      let asks : mark_at (after_white cut.0) ≡ Some (marks.QuestionMark, cut.2.0) = cut.2.1 in
      let none = no_operator marks.QuestionMark cut.0 cut.2.0 asks refl in
      let read = reaches_end O IsOperand read_operand again shorter d 13 bs (c, h) cut.0
      (chain_again O IsOperand read_operand again shorter is d 13 deep (omega arith) bs cut.0 cut.1 (none 13))
      (none 14) in
      (cut.0, cut.2.0, asks, cut.2.2, whole_from read_operand d (below_at read_operand d) bs (c, h) cut.0 read)

  -- a left operand, read
  left_read : (d h n : ℕ) (bs : Text) (i : Infix) (ls : List (Token O)) (l : Expr O) (after : Text) → level i ≤ n
      → IsChain O h (level i) ls l → h ≤ d → AreTokens O IsOperand bs after (ls ++ mark (marks.Infix i) ∷ [])
      → (rest : Text) × (mark_at (after_white rest) ≡ Some (marks.Infix i, after)) × Reaches O IsOperand read_operand again shorter d n bs (l, h) rest
  left_read d h n bs i ls l after within is deep are_tokens =
      let cut = row_cut O IsOperand ls (mark (marks.Infix i) ∷ []) bs after are_tokens in
      let found : mark_at (after_white cut.0) ≡ Some (marks.Infix i, after) = cut.2.1 ∙ ap (λ r. Some (marks.Infix i, r)) cut.2.2 in
      (cut.0, found, chain_again O IsOperand read_operand again shorter is d n deep within bs cut.0 cut.1 (operator_follows i cut.0 after found))

  too_deep : (extent : Extent) (bs : Text) → below_at read_operand 0 extent bs ≡ Err TooDeep
  unfolding below_at
  too_deep extent bs = refl

  mutual
    pub expr_met : {d : ℕ} {bs : Text} {f : Fault} → ExprFault O IsOperand OperandFault d bs f → whole_at read_operand d (below_at read_operand d) bs ≡ Err f
    expr_met (in_condition {d} {bs} {f} h) = chain_err read_operand d (below_at read_operand d) bs f (chain_met h)
    expr_met (deep_choice {d} {bs} cs c after is are_tokens) =
        let r = first_read d d bs cs [] c after is (omega arith) are_tokens in
        r.4 ∙ choosing_deep read_operand d (below_at read_operand d) (c, d) r.0 r.1 r.2 (omega arith)
    expr_met (in_yes {d} {bs} {f} cs c h after is deep are_tokens fault) =
        let below = below_at read_operand (suc d) in
        let r = first_read (suc d) h bs cs [] c after is (omega arith) are_tokens in
        let met = below_whole read_operand d r.1 ∙ ap (whole_at read_operand d (below_at read_operand d)) r.3 ∙ expr_met fault in
        r.4 ∙ choosing_goes read_operand (suc d) below (c, h) r.0 r.1 r.2 (omega arith) ∙ yes_err read_operand (suc d) below (c, h) r.1 f met
    expr_met (no_colon {d} {bs} cs c h ys y i after is deep is' deep' are_tokens none) =
        let below = below_at read_operand (suc d) in
        let r = first_read (suc d) h bs cs ys c after is (omega arith) are_tokens in
        let read = below_whole read_operand d r.1 ∙ expr_again O IsOperand read_operand again shorter is' d deep' r.1 after r.3 (ends_left marks.Colon after none) in
        r.4 ∙ choosing_goes read_operand (suc d) below (c, h) r.0 r.1 r.2 (omega arith)
        ∙ colon_err read_operand (suc d) below (c, h) (y, i) r.1 after (bad_next after) read
        (expect_err is_colon marks.Colon colon_is after none)
    expr_met (in_no {d} {bs} {f} cs c h ys y i after is deep is' deep' are_tokens fault) =
        let below = below_at read_operand (suc d) in
        let r = first_read (suc d) h bs cs (ys ++ mark marks.Colon ∷ []) c after is (omega arith) are_tokens in
        let cut = row_cut O IsOperand ys (mark marks.Colon ∷ []) r.1 after r.3 in
        let parts : mark_at (after_white cut.0) ≡ Some (marks.Colon, after) = cut.2.1 ∙ ap (λ r. Some (marks.Colon, r)) cut.2.2 in
        let read = below_whole read_operand d r.1 ∙ expr_again O IsOperand read_operand again shorter is' d deep' r.1 cut.0 cut.1 (no_goes_on marks.Colon cut.0 after parts (λ h. h)) in
        let colon : expect is_colon cut.0 ≡ Ok after = ap (after_expected is_colon (length (after_white cut.0))) parts in
        r.4 ∙ choosing_goes read_operand (suc d) below (c, h) r.0 r.1 r.2 (omega arith)
        ∙ no_err read_operand (suc d) below (c, h) (y, i) r.1 cut.0 after f read colon (below_whole read_operand d after ∙ expr_met fault)

    pub chain_met : {d n : ℕ} {bs : Text} {f : Fault} → ChainFault O IsOperand OperandFault d n bs f → chain_at read_operand d (below_at read_operand d) n bs ≡ Err f
    chain_met (in_operand {d} {n} {bs} {f} none h) =
        prefix_err read_operand d (below_at read_operand d) n bs f (operand_err read_operand d (below_at read_operand d) bs f none (operand_met d (after_white bs) f none h))
    chain_met (no_operand {d} {n} {bs} m after is none) = other_err read_operand d (below_at read_operand d) n bs m after is none
    chain_met (deep_prefix {n} {bs} m after is begins) = elim begins [
      | inl e ↦ open_err read_operand 0 (below_at read_operand 0) n bs after TooDeep (is ∙ ap (λ m. Some (m, after)) e)
          (enclosed_err read_operand 0 (below_at read_operand 0) after TooDeep (too_deep whole after))
      | inr s ↦ sign_err read_operand 0 (below_at read_operand 0) n bs m s.0 after TooDeep is s.1 (too_deep (chain 1) after)
    ]
    chain_met (in_signed {d} {n} {bs} {f} m u after is s h) = sign_err read_operand (suc d) (below_at read_operand (suc d)) n bs m u after f is s (below_chain read_operand d 1 after ∙ chain_met h)
    chain_met (in_open {d} {n} {bs} {f} after is h) =
        let below = below_at read_operand (suc d) in
        open_err read_operand (suc d) below n bs after f is (enclosed_err read_operand (suc d) below after f (below_whole read_operand d after ∙ expr_met h))
    chain_met (no_close {d} {n} {bs} ts e h after is deep are_tokens none) =
        let below = below_at read_operand (suc d) in
        let read = below_whole read_operand d are_tokens.0 ∙ expr_again O IsOperand read_operand again shorter is d deep are_tokens.0 after are_tokens.2 (ends_left marks.Close after none) in
        let all : enclosed_at read_operand below are_tokens.0 ≡ Err (bad_next after) =
        ap (λ r. r >>= (λ x. expect is_close x.1 >>= (λ after. Ok ((x.0.0, suc x.0.1), after)))) read
        ∙ ap (λ r. r >>= (λ after. Ok ((e, suc h), after))) (expect_err is_close marks.Close close_is after none)
        in
        open_err read_operand (suc d) below n bs are_tokens.0 (bad_next after) are_tokens.1 all
    chain_met (deep_operator {d} {n} {bs} i ls l after within is are_tokens) =
        let r = left_read d d n bs i ls l after within is (omega arith) are_tokens in
        r.2.2 ∙ climb_deep read_operand d (below_at read_operand d) n r.2.0 (l, d) r.0 i after (omega (arith, r.2.1)) r.1 within (omega arith)
    chain_met (in_right {d} {n} {bs} {f} i ls l h after within is deep are_tokens fault) =
        let r = left_read (suc d) h n bs i ls l after within is (omega arith) are_tokens in
        r.2.2 ∙ climb_err read_operand (suc d) (below_at read_operand (suc d)) n r.2.0 (l, h) r.0 i after f
        (omega (arith, r.2.1)) r.1 within (omega arith) (below_chain read_operand d (level i - 1) after ∙ chain_met
        fault)

  left_err : (e : Expr O) (bs : Text) → bs ≢ [] → ended e bs ≡ Err (BadExpression (length bs))
  left_err e [] some = absurd (some refl)
  left_err e (b ∷ bs) some = refl

  -- The first fault of a text is met.
  pub met : (d : ℕ) (bs : Text) (f : Fault) → ExprTextFault O IsOperand OperandFault d bs f → expr_at read_operand d bs ≡ Err f
  unfolding expr_at
  met d bs f (inside h) = ap (λ r. r >>= (λ x. ended x.0.0 (after_white x.1))) (expr_met h)
  met d bs f (trailing ts e h after is deep are_tokens ends some) =
      ap (λ r. r >>= (λ x. ended x.0.0 (after_white x.1))) (expr_again O IsOperand read_operand again shorter is d deep bs after are_tokens ends)
      ∙ left_err e (after_white after) some

  -- It is one, and what has one is no expression nested no deeper than that.
  pub one_fault : (d : ℕ) (bs : Text) (f g : Fault) → ExprTextFault O IsOperand OperandFault d bs f → ExprTextFault O IsOperand OperandFault d bs g → f ≡ g
  one_fault d bs f g h k = same (sym (met d bs f h) ∙ met d bs g k) where
    same : (let one : Result (Expr O) Fault = Err f in one) ≡ Err g → f ≡ g
    same h = cc

  pub no_tree : (d h : ℕ) (bs : Text) (f : Fault) (e : Expr O) → ExprTextFault O IsOperand OperandFault d bs f → IsExprText O IsOperand h bs e → h ≤ d → ⊥
  no_tree d h bs f e fault is deep = differ (sym (met d bs f fault) ∙ complete O IsOperand read_operand again shorter h d bs e is deep) where
    differ : (let one : Result (Expr O) Fault = Err f in one) ≡ Ok e → ⊥
    differ h = cc
