-- A fault that is met is the first in the text.
use Rattle.std.proofs.Common.{◌≡◌, ◌≢◌, ◌<◌, ◌≤◌, ◌-◌, ℕ, zero, suc, max, [], ◌∷◌, ◌++◌, length, Bool, true, false}
use Rattle.std.proofs.Common.{cond, nat_lt, nat_le, Option, Some, None, Result, Ok, Err, refl, sym, ap, subst, ◌∙◌}
use Rattle.std.proofs.Common.{arith, inl, inr}
use Rattle.tcltext.specs.chars.Runs.{Text}
use Rattle.tcltext.specs.declared.chars.fault.Fault.{Fault}
use Rattle.tcltext.specs.declared.chars.fault.Fault.TheVariants.{TooDeep, BadExpression}
use Rattle.tcltext.specs.chars.Reading.{◌>>=◌, Read}
use Rattle.tcltext.proofs.chars.Results.{bind_err, read_map_err}
use Rattle.tcltext.specs.declared.expr.operators.UnaryOperator.{UnaryOperator}
use Rattle.tcltext.specs.declared.expr.operators.Infix.{Infix}
use Rattle.tcltext.specs.declared.expr.operators.Mark.{Mark}
use Rattle.tcltext.specs.declared.expr.operators.Mark.TheVariants as marks
use Rattle.tcltext.specs.expr.Tree.{Expr, operand, unary, choice, mark}
use Rattle.tcltext.specs.expr.Grammar.{level, sign_of, IsChain}
use Rattle.tcltext.specs.expr.Marks.{after_white, mark_at}
use Rattle.tcltext.specs.expr.TokenList.{AreTokens}
use Rattle.tcltext.specs.expr.Faults.{NextIsNot, MayFollow, MayFollowOr, BeginsOperand, bad_next, ExprFault, in_condition}
use Rattle.tcltext.specs.expr.Faults.{deep_choice, in_yes, no_colon, in_no, ChainFault, in_operand, no_operand, deep_prefix}
use Rattle.tcltext.specs.expr.Faults.{in_signed, in_open, no_close, deep_operator, in_right, ExprTextFault, inside, trailing}
use Rattle.tcltext.specs.expr.Reading.{Extent, whole, chain, is_close, is_colon, is_question_mark, is_open, infix_of}
use Rattle.tcltext.specs.expr.Reading.{after_expected, expect, signed_at, enclosed_at, begun_at, prefix_at, join, next_at}
use Rattle.tcltext.specs.expr.Reading.{going_at, climb_at, chain_at, branches_at, choosing_at, whole_at, below_at, ended}
use Rattle.tcltext.specs.expr.Reading.{expr_at}
use Rattle.tcltext.proofs.expr.Results.{found_once, found_none}
use Rattle.tcltext.proofs.expr.Rows.{row_join, row_no_longer, after_white_no_longer, mark_shorter}
use Rattle.tcltext.proofs.expr.Sound.{SoundBelow, TookChain, TookWhole, TookFront, front_more, prefix_front, prefix_sound}
use Rattle.tcltext.proofs.expr.Sound.{chain_sound, whole_sound, below_sound, chain_weaker, expected_ok, open_is, colon_is}
use Rattle.tcltext.proofs.expr.Sound.{question_is, infix_is, true_false, lt_is, lt_not, le_is}

no_ok : {A : Type 0} (x : A) (f : Fault) → (let ok : Result A Fault = Ok x in ok) ≡ Err f → ⊥
no_ok x f h = cc

one_err : {A : Type 0} (e f : Fault) → (let err : Result A Fault = Err e in err) ≡ Err f → e ≡ f
one_err e f h = cc

-- a mark that had to come next, did not
expected_err : (expected : Mark → Bool) (left : ℕ) (found : Option (Mark × Text)) (f : Fault)
    → after_expected expected left found ≡ Err f → (BadExpression left ≡ f)
    × ((m : Mark) (rest : Text) → found ≡ Some (m, rest) → expected m ≡ true → ⊥)
expected_err expected left None f h = (one_err {A = Text} (BadExpression left) f h, λ m rest is t. found_none {A = Mark} None m rest refl is)
expected_err expected left (Some p) f h = tested (expected p.0) refl h where
  tested : (t : Bool) → expected p.0 ≡ t → cond t (let ok : Result Text Fault = Ok p.1 in ok) (Err (BadExpression left))
      ≡ Err f → (BadExpression left ≡ f) × ((m : Mark) (rest : Text) → Some p ≡ Some (m, rest) → expected m ≡ true → ⊥)
  tested true t h = absurd (no_ok p.1 f h)
  tested false t h = (one_err {A = Text} (BadExpression left) f h, λ m rest is s. true_false (sym s ∙ ap expected (sym (found_once (Some p) p.0 m p.1 rest refl is).0) ∙ t))

-- neither what an expression goes on with nor the mark
goes_or : (expected : Mark) (test : Mark → Bool) → test expected ≡ true → (rest : Text) → NextIsNot MayFollow rest
    → ((m : Mark) (after : Text) → mark_at (after_white rest) ≡ Some (m, after) → test m ≡ true → ⊥)
    → NextIsNot (MayFollowOr expected) rest
goes_or expected test is rest ends none = λ m after found goes. elim goes [ inl g ↦ ends m after found g | inr e ↦ none m after found (ap test e ∙ is) ]

no_sign : (m : Mark) → is_open m ≡ false → sign_of m ≡ None → BeginsOperand m → ⊥
no_sign m shut none begins = elim begins [ inl e ↦ true_false (sym (ap is_open e) ∙ shut) | inr s ↦ apart (sym s.1 ∙ none) ] where
  apart : {u : UnaryOperator} → Some u ≡ None → ⊥
  apart h = cc

module _ (O : Type 0) (IsOperand : Text → Text → O → ℕ → Type 0) (OperandFault : ℕ → Text → Fault → Type 0) (read_operand : ℕ → Text → Read (O × ℕ))
    (operand_sound : (d : ℕ) (bs : Text) (o : O × ℕ) (rest : Text) → read_operand d bs ≡ Ok (o, rest) → IsOperand bs rest o.0 o.1 × (o.1 ≤ d))
    (shorter : (bs rest : Text) (o : O) (k : ℕ) → IsOperand bs rest o k → length rest < length bs)
    (operand_faulty : (d : ℕ) (bs : Text) (f : Fault) → mark_at bs ≡ None → read_operand d bs ≡ Err f → OperandFault d bs f) where
  abbrev pub BelowFault : ℕ → Extent → Text → Fault → Type 0
  BelowFault zero extent bs f = TooDeep ≡ f
  BelowFault (suc d) whole bs f = ExprFault O IsOperand OperandFault d bs f
  BelowFault (suc d) (chain n) bs f = ChainFault O IsOperand OperandFault d n bs f

  abbrev pub FaultBelow : ℕ → (Extent → Text → Read (Expr O × ℕ)) → Type 0
  FaultBelow d below = (extent : Extent) (bs : Text) (f : Fault) → below extent bs ≡ Err f → BelowFault d extent bs f

  module _ (below : Extent → Text → Read (Expr O × ℕ)) where
    signed_below : (d n : ℕ) → FaultBelow d below → (bs : Text) (m : Mark) (u : UnaryOperator) (after : Text) (f : Fault) → mark_at (after_white bs) ≡ Some (m, after) → sign_of m ≡ Some u
        → below (chain 1) after ≡ Err f → ChainFault O IsOperand OperandFault d n bs f
    signed_below zero n faulty bs m u after f is s h = subst (ChainFault O IsOperand OperandFault zero n bs) (faulty (chain 1) after f h) (deep_prefix m after is (inr (u, s)))
    signed_below (suc d) n faulty bs m u after f is s h = in_signed m u after is s (faulty (chain 1) after f h)

    signed_faulty : (d n : ℕ) → FaultBelow d below → (bs : Text) (m : Mark) (after : Text) (f : Fault)
        → mark_at (after_white bs) ≡ Some (m, after) → is_open m ≡ false → (s : Option UnaryOperator) → sign_of m ≡ s
        → signed_at read_operand below (length (after_white bs)) after s ≡ Err f → ChainFault O IsOperand OperandFault d n bs f
    signed_faulty d n faulty bs m after f is shut None s h =
        subst (ChainFault O IsOperand OperandFault d n bs) (one_err {A = (Expr O × ℕ) × Text} (bad_next bs) f h) (no_operand m after is (no_sign m shut s))
    signed_faulty d n faulty bs m after f is shut (Some u) s h =
        signed_below d n faulty bs m u after f is s (read_map_err (λ (x : Expr O × ℕ). let made : Expr O × ℕ = (unary u x.0, suc x.1) in made) (below (chain 1) after) f h)

    enclosed_below : (d n : ℕ) → FaultBelow d below → (bs after : Text) (f : Fault)
        → mark_at (after_white bs) ≡ Some (marks.Open, after) → below whole after ≡ Err f
        → ChainFault O IsOperand OperandFault d n bs f
    enclosed_below zero n faulty bs after f is h = subst (ChainFault O IsOperand OperandFault zero n bs) (faulty whole after f h) (deep_prefix marks.Open after is (inl refl))
    enclosed_below (suc d) n faulty bs after f is h = in_open after is (faulty whole after f h)

    enclosed_open : (d n : ℕ) (bs after : Text) (x : Expr O × ℕ) (rest : Text) (f : Fault)
        → mark_at (after_white bs) ≡ Some (marks.Open, after) → TookWhole O IsOperand d after x rest
        → expect is_close rest ≡ Err f
        → ChainFault O IsOperand OperandFault d n bs f
    enclosed_open zero n bs after x rest f is t h = absurd (omega (arith, t.deep))
    enclosed_open (suc d) n bs after x rest f is t h =
        let e = expected_err is_close (length (after_white rest)) (mark_at (after_white rest)) f h in
        subst (ChainFault O IsOperand OperandFault (suc d) n bs) e.0
        (no_close t.tokens x.0 x.1 rest t.is (omega (arith, t.deep)) (after, is, t.are_tokens) (goes_or marks.Close is_close refl rest t.ends e.1))

    module _ (d : ℕ) (sound : SoundBelow O IsOperand d below) (faulty : FaultBelow d below) where
      enclosed_faulty : (n : ℕ) (bs after : Text) (f : Fault) → mark_at (after_white bs) ≡ Some (marks.Open, after)
          → enclosed_at read_operand below after ≡ Err f → ChainFault O IsOperand OperandFault d n bs f
      enclosed_faulty n bs after f is h =
          elim (bind_err (below whole after) (λ x. expect is_close x.1 >>= (λ after. Ok ((x.0.0, suc x.0.1), after))) f h) [
            | inl e ↦ enclosed_below d n faulty bs after f is e
            | inr y ↦ elim (bind_err (expect is_close y.0.1) (λ (after : Text). let ok : Result ((Expr O × ℕ) × Text) Fault = Ok ((y.0.0.0, suc y.0.0.1), after) in ok) f y.2) [
              | inl e ↦ enclosed_open d n bs after y.0.0 y.0.1 f is (sound whole after y.0.0 y.0.1 y.1) e
              | inr z ↦ absurd (no_ok {A = (Expr O × ℕ) × Text} ((y.0.0.0, suc y.0.0.1), z.0) f z.2)
            ]
          ]

      marked_faulty : (n : ℕ) (bs : Text) (m : Mark) (after : Text) (f : Fault) → mark_at (after_white bs) ≡ Some (m, after) → (t : Bool) → is_open m ≡ t
          → cond t (enclosed_at read_operand below after) (signed_at read_operand below (length (after_white bs)) after (sign_of m)) ≡ Err f → ChainFault O IsOperand OperandFault d n bs f
      marked_faulty n bs m after f is true t h = enclosed_faulty n bs after f (is ∙ ap (λ m. Some (m, after)) (open_is m t)) h
      marked_faulty n bs m after f is false t h = signed_faulty d n faulty bs m after f is t (sign_of m) refl h

      begun_faulty : (n : ℕ) (bs : Text) (f : Fault) (found : Option (Mark × Text)) → mark_at (after_white bs) ≡ found
          → begun_at read_operand d below (after_white bs) found ≡ Err f → ChainFault O IsOperand OperandFault d n bs f
      begun_faulty n bs f None is h = in_operand is (operand_faulty d (after_white bs) f is
          (read_map_err (λ (o : O × ℕ). let made : Expr O × ℕ = (operand o.0, o.1) in made)
          (read_operand d (after_white bs)) f h))
      begun_faulty n bs f (Some p) is h = marked_faulty n bs p.0 p.1 f is (is_open p.0) refl h

      prefix_faulty : (n : ℕ) (bs : Text) (f : Fault) → prefix_at read_operand d below bs ≡ Err f → ChainFault O IsOperand OperandFault d n bs f
      unfolding prefix_at
      prefix_faulty n bs f h = begun_faulty n bs f (mark_at (after_white bs)) refl h

      abbrev Front : ℕ → Text → Expr O × ℕ → Text → Type 0
      Front n bs x rest = TookFront O IsOperand read_operand operand_sound d below sound n bs x rest

      deep_here : (n : ℕ) (bs : Text) (x : Expr O × ℕ) (rest : Text) → Front n bs x rest → (i : Infix) (after : Text) → mark_at (after_white rest) ≡ Some (marks.Infix i, after) → level i ≤ n → d ≤ x.1
          → ChainFault O IsOperand OperandFault d n bs TooDeep
      deep_here n bs x rest t i after is within tall =
          let all : x.1 ≡ d = omega (arith, t.deep) in
          deep_operator i t.tokens x.0 after within (subst (λ h. IsChain O h (level i) t.tokens x.0) all (chain_weaker t.is (level i) (t.follows i after is)))
          (row_join O IsOperand t.tokens (mark (marks.Infix i) ∷ []) bs rest after t.are_tokens (after, is, refl))

      right_here : (k n : ℕ) (bs : Text) (x : Expr O × ℕ) (rest : Text) → k ≡ d → Front n bs x rest
          → (i : Infix) (after : Text) → mark_at (after_white rest) ≡ Some (marks.Infix i, after) → level i ≤ n
          → x.1 < k → (f : Fault)
          → BelowFault k (chain (level i - 1)) after f → ChainFault O IsOperand OperandFault k n bs f
      right_here zero n bs x rest same t i after is within less f h = absurd (omega arith)
      right_here (suc k) n bs x rest same t i after is within less f h =
          in_right i t.tokens x.0 x.1 after within (chain_weaker t.is (level i) (t.follows i after is)) (omega arith)
          (row_join O IsOperand t.tokens (mark (marks.Infix i) ∷ []) bs rest after t.are_tokens (after, is, refl)) h

      -- what a turn of the loop does with a fault
      abbrev Rests : ℕ → Text → ℕ → (Expr O × ℕ → Text → Read (Expr O × ℕ)) → Type 0
      Rests n bs turns more = (x : Expr O × ℕ) (rest : Text) → Front n bs x rest → length rest < turns → (f : Fault) → more x rest ≡ Err f → ChainFault O IsOperand OperandFault d n bs f

      operator_faulty : (n : ℕ) (bs : Text) (turns : ℕ) (more : Expr O × ℕ → Text → Read (Expr O × ℕ))
          → Rests n bs turns more → (x : Expr O × ℕ) (rest : Text) → Front n bs x rest → length rest ≤ turns
          → (i : Infix) (after : Text) → mark_at (after_white rest) ≡ Some (marks.Infix i, after) → level i ≤ n → (f : Fault) (s : Bool) → nat_lt x.1 d ≡ s
          → cond s (below (chain (level i - 1)) after >>= (λ y. more (join i x y.0) y.1)) (Err TooDeep) ≡ Err f → ChainFault O IsOperand OperandFault d n bs f
      operator_faulty n bs turns more all x rest t enough i after is within f true s h =
          elim (bind_err (below (chain (level i - 1)) after) (λ y. more (join i x y.0) y.1) f h) [
            | inl e ↦ right_here d n bs x rest refl t i after is within (lt_is x.1 d s) f (faulty (chain (level i - 1)) after f e)
            | inr y ↦ (
                let r = sound (chain (level i - 1)) after y.0.0 y.0.1 y.1 in
                all (join i x y.0.0) y.0.1 (front_more O IsOperand read_operand operand_sound d below sound n bs x rest t i after is within (lt_is x.1 d s) y.0.0 y.0.1 y.1)
                (omega (arith, row_no_longer O IsOperand shorter r.tokens after y.0.1 r.are_tokens, mark_shorter (after_white rest) (marks.Infix i) after is, after_white_no_longer rest)) f y.2
                )
          ]
      operator_faulty n bs turns more all x rest t enough i after is within f false s h =
          subst (ChainFault O IsOperand OperandFault d n bs) (one_err {A = (Expr O × ℕ) × Text} TooDeep f h) (deep_here n bs x rest t i after is within (lt_not x.1 d s))

      going_faulty : (n : ℕ) (bs : Text) (turns : ℕ) (more : Expr O × ℕ → Text → Read (Expr O × ℕ)) → Rests n bs turns more → (x : Expr O × ℕ) (rest : Text) → Front n bs x rest → length rest ≤ turns
          → (f : Fault) (found : Option (Mark × Text)) → mark_at (after_white rest) ≡ found → going_at read_operand d below n more x rest found ≡ Err f → ChainFault O IsOperand OperandFault d n bs f
      going_faulty n bs turns more all x rest t enough f None is h = absurd (no_ok {A = (Expr O × ℕ) × Text} (x, rest) f h)
      going_faulty n bs turns more all x rest t enough f (Some p) is h = by_infix (infix_of p.0) refl h where
        by_level : (i : Infix) → mark_at (after_white rest) ≡ Some (marks.Infix i, p.1) → (s : Bool) → nat_le (level i) n ≡ s
            → cond s (cond (nat_lt x.1 d) (below (chain (level i - 1)) p.1 >>= (λ y. more (join i x y.0) y.1)) (Err TooDeep)) (Ok (x, rest)) ≡ Err f → ChainFault O IsOperand OperandFault d n bs f
        by_level i is true s h = operator_faulty n bs turns more all x rest t enough i p.1 is (le_is (level i) n s) f (nat_lt x.1 d) refl h
        by_level i is false s h = absurd (no_ok {A = (Expr O × ℕ) × Text} (x, rest) f h)

        by_infix : (s : Option Infix) → infix_of p.0 ≡ s → next_at read_operand d below n more x rest p.1 s ≡ Err f → ChainFault O IsOperand OperandFault d n bs f
        by_infix None s h = absurd (no_ok {A = (Expr O × ℕ) × Text} (x, rest) f h)
        by_infix (Some i) s h = by_level i (is ∙ ap (λ m. Some (m, p.1)) (infix_is p.0 i s)) (nat_le (level i) n) refl h

      climb_faulty : (n : ℕ) (bs : Text) (turns : ℕ) → Rests n bs turns (climb_at read_operand d below n turns)
      unfolding climb_at
      climb_faulty n bs zero x rest t enough f h = absurd (omega arith)
      climb_faulty n bs (suc turns) x rest t enough f h =
          going_faulty n bs turns (climb_at read_operand d below n turns) (climb_faulty n bs turns) x rest t (omega arith) f (mark_at (after_white rest)) refl h

      pub chain_faulty : (n : ℕ) (bs : Text) (f : Fault) → chain_at read_operand d below n bs ≡ Err f → ChainFault O IsOperand OperandFault d n bs f
      unfolding chain_at
      chain_faulty n bs f h =
          elim (bind_err (prefix_at read_operand d below bs) (λ x. climb_at read_operand d below n (suc (length x.1)) x.0 x.1) f h) [
            | inl e ↦ prefix_faulty n bs f e
            | inr y ↦ climb_faulty n bs (suc (length y.0.1)) y.0.0 y.0.1
                (prefix_front O IsOperand read_operand operand_sound d below sound n bs y.0.0 y.0.1
                (prefix_sound O IsOperand read_operand operand_sound d below sound bs y.0.0 y.0.1 y.1))
                (omega arith) f y.2
          ]

      abbrev First : Text → Expr O × ℕ → Text → Type 0
      First bs x rest = TookChain O IsOperand (suc d) 13 bs x rest

      asked : (bs : Text) (x : Expr O × ℕ) (rest : Text) (t : First bs x rest) (after : Text)
          → mark_at (after_white rest) ≡ Some (marks.QuestionMark, after)
          → AreTokens O IsOperand bs after (t.tokens ++ mark marks.QuestionMark ∷ [])
      asked bs x rest t after is = row_join O IsOperand t.tokens (mark marks.QuestionMark ∷ []) bs rest after t.are_tokens (after, is, refl)

      deep_question : (bs : Text) (x : Expr O × ℕ) (rest : Text) → First bs x rest → (after : Text)
          → mark_at (after_white rest) ≡ Some (marks.QuestionMark, after) → d ≤ x.1
          → ExprFault O IsOperand OperandFault d bs TooDeep
      deep_question bs x rest t after is tall =
          let all : x.1 ≡ d = omega (arith, t.deep) in
          deep_choice t.tokens x.0 after (subst (λ h. IsChain O h 13 t.tokens x.0) all t.is) (asked bs x rest t after is)

      yes_here : (k : ℕ) (bs : Text) (x : Expr O × ℕ) (rest : Text) → k ≡ d → First bs x rest → (after : Text) → mark_at (after_white rest) ≡ Some (marks.QuestionMark, after) → x.1 < k → (f : Fault)
          → BelowFault k whole after f → ExprFault O IsOperand OperandFault k bs f
      yes_here zero bs x rest same t after is less f h = absurd (omega arith)
      yes_here (suc k) bs x rest same t after is less f h = in_yes t.tokens x.0 x.1 after t.is (omega arith) (asked bs x rest t after is) h

      colon_here : (k : ℕ) (bs : Text) (x : Expr O × ℕ) (rest : Text) → k ≡ d → First bs x rest → (after : Text) → mark_at (after_white rest) ≡ Some (marks.QuestionMark, after) → x.1 < k
          → (y : Expr O × ℕ) (end : Text) → TookWhole O IsOperand k after y end → (f : Fault) → expect is_colon end ≡ Err f → ExprFault O IsOperand OperandFault k bs f
      colon_here zero bs x rest same t after is less y end r f h = absurd (omega arith)
      colon_here (suc k) bs x rest same t after is less y end r f h =
          let e = expected_err is_colon (length (after_white end)) (mark_at (after_white end)) f h in
          subst (ExprFault O IsOperand OperandFault (suc k) bs) e.0
          (no_colon t.tokens x.0 x.1 r.tokens y.0 y.1 end t.is (omega arith) r.is (omega (arith, r.deep))
          (row_join O IsOperand t.tokens (mark marks.QuestionMark ∷ r.tokens) bs rest end t.are_tokens (after, is, r.are_tokens)) (goes_or marks.Colon is_colon refl end r.ends e.1))

      no_here : (k : ℕ) (bs : Text) (x : Expr O × ℕ) (rest : Text) → k ≡ d → First bs x rest → (after : Text) → mark_at (after_white rest) ≡ Some (marks.QuestionMark, after) → x.1 < k
          → (y : Expr O × ℕ) (end : Text) → TookWhole O IsOperand k after y end → (last : Text)
          → expect is_colon end ≡ Ok last → (f : Fault) → BelowFault k whole last f
          → ExprFault O IsOperand OperandFault k bs f
      no_here zero bs x rest same t after is less y end r last colon f h = absurd (omega arith)
      no_here (suc k) bs x rest same t after is less y end r last colon f h =
          let c = expected_ok is_colon (length (after_white end)) (mark_at (after_white end)) last colon in
          let parts : mark_at (after_white end) ≡ Some (marks.Colon, last) = c.1 ∙ ap (λ m. Some (m, last)) (colon_is c.0 c.2) in
          let following : AreTokens O IsOperand after last (r.tokens ++ mark marks.Colon ∷ []) = row_join O IsOperand
          r.tokens (mark marks.Colon ∷ []) after end last r.are_tokens (last, parts, refl) in
          in_no t.tokens x.0 x.1 r.tokens y.0 y.1 last t.is (omega arith) r.is (omega (arith, r.deep))
          (row_join O IsOperand t.tokens (mark marks.QuestionMark ∷ (r.tokens ++ mark marks.Colon ∷ [])) bs rest last t.are_tokens (after, is, following)) h

      branches_faulty : (bs : Text) (x : Expr O × ℕ) (rest : Text) → First bs x rest → (after : Text) → mark_at (after_white rest) ≡ Some (marks.QuestionMark, after) → x.1 < d → (f : Fault)
          → branches_at read_operand below x after ≡ Err f → ExprFault O IsOperand OperandFault d bs f
      branches_faulty bs x rest t after is less f h =
          elim (bind_err (below whole after) (λ y. expect is_colon y.1 >>= (λ after. below whole after >>= (λ z. Ok ((choice x.0 y.0.0 z.0.0, suc (max x.1 (max y.0.1 z.0.1))), z.1)))) f h) [
            | inl e ↦ yes_here d bs x rest refl t after is less f (faulty whole after f e)
            | inr y ↦ elim (bind_err (expect is_colon y.0.1) (λ after. below whole after >>= (λ z. Ok ((choice x.0 y.0.0.0 z.0.0, suc (max x.1 (max y.0.0.1 z.0.1))), z.1))) f y.2) [
              | inl e ↦ colon_here d bs x rest refl t after is less y.0.0 y.0.1 (sound whole after y.0.0 y.0.1 y.1) f e
              | inr k ↦ elim (bind_err (below whole k.0) (λ (z : (Expr O × ℕ) × Text). let ok : Result
                  ((Expr O × ℕ) × Text) Fault = Ok ((choice x.0 y.0.0.0 z.0.0, suc (max x.1 (max y.0.0.1 z.0.1))), z.1)
                  in ok) f k.2) [
                    | inl e ↦ no_here d bs x rest refl t after is less y.0.0 y.0.1 (sound whole after y.0.0 y.0.1 y.1) k.0 k.1 f (faulty whole k.0 f e)
                    | inr z ↦ absurd (no_ok {A = (Expr O × ℕ) × Text} ((choice x.0 y.0.0.0 z.0.0.0, suc (max x.1 (max y.0.0.1 z.0.0.1))), z.0.1) f z.2)
                  ]
            ]
          ]

      choosing_faulty : (bs : Text) (x : Expr O × ℕ) (rest : Text) → First bs x rest → (f : Fault) (found : Option (Mark × Text)) → mark_at (after_white rest) ≡ found
          → choosing_at read_operand d below x rest found ≡ Err f → ExprFault O IsOperand OperandFault d bs f
      choosing_faulty bs x rest t f None is h = absurd (no_ok {A = (Expr O × ℕ) × Text} (x, rest) f h)
      choosing_faulty bs x rest t f (Some p) is h = by_question (is_question_mark p.0) refl h where
        by_depth : mark_at (after_white rest) ≡ Some (marks.QuestionMark, p.1) → (s : Bool) → nat_lt x.1 d ≡ s
            → cond s (branches_at read_operand below x p.1) (Err TooDeep) ≡ Err f
            → ExprFault O IsOperand OperandFault d bs f
        by_depth is true s h = branches_faulty bs x rest t p.1 is (lt_is x.1 d s) f h
        by_depth is false s h = subst (ExprFault O IsOperand OperandFault d bs) (one_err {A = (Expr O × ℕ) × Text} TooDeep f h) (deep_question bs x rest t p.1 is (lt_not x.1 d s))

        by_question : (s : Bool) → is_question_mark p.0 ≡ s
            → cond s (cond (nat_lt x.1 d) (branches_at read_operand below x p.1) (Err TooDeep)) (Ok (x, rest)) ≡ Err f
            → ExprFault O IsOperand OperandFault d bs f
        by_question true s h = by_depth (is ∙ ap (λ m. Some (m, p.1)) (question_is p.0 s)) (nat_lt x.1 d) refl h
        by_question false s h = absurd (no_ok {A = (Expr O × ℕ) × Text} (x, rest) f h)

      pub whole_faulty : (bs : Text) (f : Fault) → whole_at read_operand d below bs ≡ Err f → ExprFault O IsOperand OperandFault d bs f
      unfolding whole_at
      whole_faulty bs f h =
          elim (bind_err (chain_at read_operand d below 13 bs) (λ x. choosing_at read_operand d below x.0 x.1 (mark_at (after_white x.1))) f h) [
            | inl e ↦ in_condition (chain_faulty 13 bs f e)
            | inr y ↦ choosing_faulty bs y.0.0 y.0.1 (chain_sound O IsOperand read_operand operand_sound d below sound 13 bs y.0.0 y.0.1 y.1) f (mark_at (after_white y.0.1)) refl y.2
          ]

  below_faulty : (d : ℕ) → FaultBelow d (below_at read_operand d)
  unfolding below_at
  below_faulty zero extent bs f h = one_err {A = (Expr O × ℕ) × Text} TooDeep f h
  below_faulty (suc d) whole bs f h = whole_faulty (below_at read_operand d) d (below_sound O IsOperand read_operand operand_sound d) (below_faulty d) bs f h
  below_faulty (suc d) (chain n) bs f h = chain_faulty (below_at read_operand d) d (below_sound O IsOperand read_operand operand_sound d) (below_faulty d) n bs f h

  ended_err : (e : Expr O) (bs : Text) (f : Fault) → ended e bs ≡ Err f → (BadExpression (length bs) ≡ f) × (bs ≢ [])
  ended_err e [] f h = absurd (no_ok e f h)
  ended_err e (b ∷ bs) f h = (one_err {A = Expr O} (BadExpression (length (b ∷ bs))) f h, λ k. (let no : (b ∷ bs) ≡ [] = k in cc))

  -- A fault that is met is the first.
  pub faulty : (d : ℕ) (bs : Text) (f : Fault) → expr_at read_operand d bs ≡ Err f → ExprTextFault O IsOperand OperandFault d bs f
  unfolding expr_at
  faulty d bs f h =
      let below = below_at read_operand d in
      let sound = below_sound O IsOperand read_operand operand_sound d in
      elim (bind_err (whole_at read_operand d below bs) (λ x. ended x.0.0 (after_white x.1)) f h) [
        | inl e ↦ inside (whole_faulty below d sound (below_faulty d) bs f e)
        | inr y ↦ (
            let t = whole_sound O IsOperand read_operand operand_sound d below sound bs y.0.0 y.0.1 y.1 in
            let e = ended_err y.0.0.0 (after_white y.0.1) f y.2 in
            subst (ExprTextFault O IsOperand OperandFault d bs) e.0 (trailing t.tokens y.0.0.0 y.0.0.1 y.0.1 t.is (omega (arith, t.deep)) t.are_tokens t.ends e.1)
            )
      ]
