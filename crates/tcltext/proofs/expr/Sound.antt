-- What is read is in the grammar.
use Rattle.std.proofs.Common.{◌≡◌, ◌<◌, ◌≤◌, ◌-◌, ℕ, zero, suc, max, List, [], ◌∷◌, ◌++◌, length, Bool, true, false}
use Rattle.std.proofs.Common.{cond, nat_lt, nat_le, Option, Some, None, Result, Ok, Err, refl, sym, ap, subst, ◌∙◌}
use Rattle.std.proofs.Common.{arith}
use Rattle.std.proofs.lemmas.Bool.Decides.{nat_tests}
use Rattle.tcltext.specs.chars.Runs.{Text}
use Rattle.tcltext.specs.declared.chars.fault.Fault.{Fault}
use Rattle.tcltext.specs.declared.chars.fault.Fault.TheVariants.{TooDeep, BadExpression}
use Rattle.tcltext.specs.chars.Reading.{◌>>=◌, Read}
use Rattle.tcltext.proofs.chars.Results.{bind_ok, ok_pair, read_map_ok}
use Rattle.tcltext.specs.declared.expr.operators.UnaryOperator.{UnaryOperator}
use Rattle.tcltext.specs.declared.expr.operators.BinaryOperator.TheVariants as operators
use Rattle.tcltext.specs.declared.expr.operators.Infix.{Infix}
use Rattle.tcltext.specs.declared.expr.operators.Infix.TheVariants as infixes
use Rattle.tcltext.specs.declared.expr.operators.Mark.{Mark}
use Rattle.tcltext.specs.declared.expr.operators.Mark.TheVariants as marks
use Rattle.tcltext.specs.expr.Tree.{Expr, operand, unary, choice, Token, value, mark}
use Rattle.tcltext.specs.expr.Grammar.{level, sign_of, IsExpr, simple, choosing, IsChain, single, in_parentheses, signed}
use Rattle.tcltext.specs.expr.Grammar.{joining}
use Rattle.tcltext.specs.expr.Marks.{after_white, mark_at}
use Rattle.tcltext.specs.expr.TokenList.{AreTokens, IsExprText}
use Rattle.tcltext.specs.expr.Faults.{NextIsNot, MayFollow, Follows}
use Rattle.tcltext.specs.expr.Reading.{Extent, whole, chain, is_close, is_colon, is_question_mark, is_open, infix_of}
use Rattle.tcltext.specs.expr.Reading.{after_expected, expect, signed_at, enclosed_at, begun_at, prefix_at, join, next_at}
use Rattle.tcltext.specs.expr.Reading.{going_at, climb_at, chain_at, branches_at, choosing_at, whole_at, below_at, ended}
use Rattle.tcltext.specs.expr.Reading.{expr_at}
use Rattle.tcltext.proofs.expr.Results.{found_once, found_none, infix_once}
use Rattle.tcltext.proofs.expr.Rows.{row_join}

-- Marks by their tests
pub open_is : (m : Mark) → is_open m ≡ true → m ≡ marks.Open
open_is marks.Open h = refl
open_is marks.Close h = cc
open_is marks.QuestionMark h = cc
open_is marks.Colon h = cc
open_is marks.Complement h = cc
open_is marks.Not h = cc
open_is (marks.Infix i) h = cc

pub close_is : (m : Mark) → is_close m ≡ true → m ≡ marks.Close
close_is marks.Open h = cc
close_is marks.Close h = refl
close_is marks.QuestionMark h = cc
close_is marks.Colon h = cc
close_is marks.Complement h = cc
close_is marks.Not h = cc
close_is (marks.Infix i) h = cc

pub colon_is : (m : Mark) → is_colon m ≡ true → m ≡ marks.Colon
colon_is marks.Open h = cc
colon_is marks.Close h = cc
colon_is marks.QuestionMark h = cc
colon_is marks.Colon h = refl
colon_is marks.Complement h = cc
colon_is marks.Not h = cc
colon_is (marks.Infix i) h = cc

pub question_is : (m : Mark) → is_question_mark m ≡ true → m ≡ marks.QuestionMark
question_is marks.Open h = cc
question_is marks.Close h = cc
question_is marks.QuestionMark h = refl
question_is marks.Colon h = cc
question_is marks.Complement h = cc
question_is marks.Not h = cc
question_is (marks.Infix i) h = cc

pub infix_is : (m : Mark) (i : Infix) → infix_of m ≡ Some i → m ≡ marks.Infix i
infix_is marks.Open i h = cc
infix_is marks.Close i h = cc
infix_is marks.QuestionMark i h = cc
infix_is marks.Colon i h = cc
infix_is marks.Complement i h = cc
infix_is marks.Not i h = cc
infix_is (marks.Infix j) i h = let same : j ≡ i = cc in ap (λ k. marks.Infix k) same

-- no infix is of level 0 or 1
pub level_more : (i : Infix) → 1 < level i
level_more (infixes.Operator operators.Multiply) = omega arith
level_more (infixes.Operator operators.Divide) = omega arith
level_more (infixes.Operator operators.Remainder) = omega arith
level_more (infixes.Operator operators.Add) = omega arith
level_more (infixes.Operator operators.Subtract) = omega arith
level_more (infixes.Operator operators.ShiftLeft) = omega arith
level_more (infixes.Operator operators.ShiftRight) = omega arith
level_more (infixes.Operator operators.Less) = omega arith
level_more (infixes.Operator operators.Greater) = omega arith
level_more (infixes.Operator operators.LessEqual) = omega arith
level_more (infixes.Operator operators.GreaterEqual) = omega arith
level_more (infixes.Operator operators.Equal) = omega arith
level_more (infixes.Operator operators.NotEqual) = omega arith
level_more (infixes.Operator operators.TextEqual) = omega arith
level_more (infixes.Operator operators.TextNotEqual) = omega arith
level_more (infixes.Operator operators.In) = omega arith
level_more (infixes.Operator operators.NotIn) = omega arith
level_more (infixes.Operator operators.BitAnd) = omega arith
level_more (infixes.Operator operators.BitXor) = omega arith
level_more (infixes.Operator operators.BitOr) = omega arith
level_more infixes.And = omega arith
level_more infixes.Or = omega arith

pub level_within : (i : Infix) → level i ≤ 13
level_within (infixes.Operator operators.Multiply) = omega arith
level_within (infixes.Operator operators.Divide) = omega arith
level_within (infixes.Operator operators.Remainder) = omega arith
level_within (infixes.Operator operators.Add) = omega arith
level_within (infixes.Operator operators.Subtract) = omega arith
level_within (infixes.Operator operators.ShiftLeft) = omega arith
level_within (infixes.Operator operators.ShiftRight) = omega arith
level_within (infixes.Operator operators.Less) = omega arith
level_within (infixes.Operator operators.Greater) = omega arith
level_within (infixes.Operator operators.LessEqual) = omega arith
level_within (infixes.Operator operators.GreaterEqual) = omega arith
level_within (infixes.Operator operators.Equal) = omega arith
level_within (infixes.Operator operators.NotEqual) = omega arith
level_within (infixes.Operator operators.TextEqual) = omega arith
level_within (infixes.Operator operators.TextNotEqual) = omega arith
level_within (infixes.Operator operators.In) = omega arith
level_within (infixes.Operator operators.NotIn) = omega arith
level_within (infixes.Operator operators.BitAnd) = omega arith
level_within (infixes.Operator operators.BitXor) = omega arith
level_within (infixes.Operator operators.BitOr) = omega arith
level_within infixes.And = omega arith
level_within infixes.Or = omega arith

-- Tests
pub true_false : true ≡ false → ⊥
true_false h = cc

pub lt_is : (a b : ℕ) → nat_lt a b ≡ true → a < b
lt_is a b h = grind (arith, nat_tests)

pub lt_not : (a b : ℕ) → nat_lt a b ≡ false → b ≤ a
lt_not a b h = grind (arith, nat_tests)

pub le_is : (a b : ℕ) → nat_le a b ≡ true → a ≤ b
le_is a b h = grind (arith, nat_tests)

pub le_not : (a b : ℕ) → nat_le a b ≡ false → b < a
le_not a b h = grind (arith, nat_tests)

-- a mark that had to come next, came
pub expected_ok : (expected : Mark → Bool) (left : ℕ) (found : Option (Mark × Text)) (rest : Text)
    → after_expected expected left found ≡ Ok rest → (m : Mark) × (found ≡ Some (m, rest)) × (expected m ≡ true)
expected_ok expected left None rest h = cc
expected_ok expected left (Some p) rest h = tested (expected p.0) refl h where
  tested : (t : Bool) → expected p.0 ≡ t → cond t (let ok : Result Text Fault = Ok p.1 in ok) (Err (BadExpression left)) ≡ Ok rest → (m : Mark) × (Some p ≡ Some (m, rest)) × (expected m ≡ true)
  tested true t h = let same : p.1 ≡ rest = cc in (p.0, ap (λ r. Some (p.0, r)) same, t)
  tested false t h = cc

-- Levels
pub chain_weaker : {O : Type 0} {h n : ℕ} {ts : List (Token O)} {e : Expr O} → IsChain O h n ts e → (m : ℕ) → n ≤ m → IsChain O h m ts e
chain_weaker (single o) m le = single o
chain_weaker (in_parentheses ts is) m le = in_parentheses ts is
chain_weaker (signed u s is) m le = signed u s is
chain_weaker (joining i ls rs within l r) m le = joining i ls rs (omega arith) l r

module _ (O : Type 0) (IsOperand : Text → Text → O → ℕ → Type 0) where
  -- what was read, nested less deep than d
  pub record TookChain (d n : ℕ) (bs : Text) (x : Expr O × ℕ) (rest : Text) : Type 0 where
    pub tokens : List (Token O)
    pub are_tokens : AreTokens O IsOperand bs rest tokens
    pub is : IsChain O x.1 n tokens x.0
    pub deep : x.1 < d
    pub follows : Follows (suc n) rest

  pub record TookWhole (d : ℕ) (bs : Text) (x : Expr O × ℕ) (rest : Text) : Type 0 where
    pub tokens : List (Token O)
    pub are_tokens : AreTokens O IsOperand bs rest tokens
    pub is : IsExpr O x.1 tokens x.0
    pub deep : x.1 < d
    pub ends : NextIsNot MayFollow rest

  abbrev pub Took : ℕ → Extent → Text → Expr O × ℕ → Text → Type 0
  Took d whole bs x rest = TookWhole d bs x rest
  Took d (chain n) bs x rest = TookChain d n bs x rest

  abbrev pub SoundBelow : ℕ → (Extent → Text → Read (Expr O × ℕ)) → Type 0
  SoundBelow d below = (extent : Extent) (bs : Text) (x : Expr O × ℕ) (rest : Text) → below extent bs ≡ Ok (x, rest) → Took d extent bs x rest

  module _ (read_operand : ℕ → Text → Read (O × ℕ))
      (operand_sound : (d : ℕ) (bs : Text) (o : O × ℕ) (rest : Text) → read_operand d bs ≡ Ok (o, rest) → IsOperand bs rest o.0 o.1 × (o.1 ≤ d)) where
    module _ (d : ℕ) (below : Extent → Text → Read (Expr O × ℕ)) (sound : SoundBelow d below) where
      -- a beginning, of whatever level
      pub record TookPrefix (bs : Text) (x : Expr O × ℕ) (rest : Text) : Type 0 where
        pub tokens : List (Token O)
        pub are_tokens : AreTokens O IsOperand bs rest tokens
        pub is : IsChain O x.1 0 tokens x.0
        pub deep : x.1 ≤ d

      signed_sound : (bs : Text) (left : ℕ) (m : Mark) (after : Text) → mark_at (after_white bs) ≡ Some (m, after) → (x : Expr O × ℕ) (rest : Text) (s : Option UnaryOperator) → sign_of m ≡ s
          → signed_at read_operand below left after s ≡ Ok (x, rest) → TookPrefix bs x rest
      signed_sound bs left m after is x rest None s h = cc
      signed_sound bs left m after is x rest (Some u) s h =
          let y = read_map_ok (λ (x : Expr O × ℕ). let made : Expr O × ℕ = (unary u x.0, suc x.1) in made) (below (chain 1) after) x rest h in
          let t = sound (chain 1) after y.0 rest y.1 in
          let made : TookPrefix bs (unary u y.0.0, suc y.0.1) rest = record { tokens = mark m ∷ t.tokens; are_tokens = (after, is, t.are_tokens); is = signed u s t.is; deep = t.deep } in
          subst (λ x. TookPrefix bs x rest) y.2 made

      enclosed_sound : (bs after : Text) → mark_at (after_white bs) ≡ Some (marks.Open, after)
          → (x : Expr O × ℕ) (rest : Text) → enclosed_at read_operand below after ≡ Ok (x, rest) → TookPrefix bs x rest
      enclosed_sound bs after is x rest h =
          let y = bind_ok (below whole after) (λ x. expect is_close x.1 >>= (λ after. Ok ((x.0.0, suc x.0.1), after))) (x, rest) h in
          let z = bind_ok (expect is_close y.0.1) (λ (after : Text). let ok : Result ((Expr O × ℕ) × Text) Fault = Ok ((y.0.0.0, suc y.0.0.1), after) in ok) (x, rest) y.2 in
          let two = ok_pair ((y.0.0.0, suc y.0.0.1), z.0) (x, rest) z.2 in
          let c = expected_ok is_close (length (after_white y.0.1)) (mark_at (after_white y.0.1)) z.0 z.1 in
          let t = sound whole after y.0.0 y.0.1 y.1 in
          let closes : mark_at (after_white y.0.1) ≡ Some (marks.Close, z.0) = c.1 ∙ ap (λ m. Some (m, z.0)) (close_is c.0 c.2) in
          let made : TookPrefix bs (y.0.0.0, suc y.0.0.1) z.0 = record {
            tokens = mark marks.Open ∷ (t.tokens ++ mark marks.Close ∷ []);
            are_tokens = (after, is, row_join O IsOperand t.tokens (mark marks.Close ∷ []) after y.0.1 z.0 t.are_tokens (z.0, closes, refl));
            is = in_parentheses t.tokens t.is;
            deep = t.deep;
          } in
          subst (λ x. TookPrefix bs x rest) two.0 (subst (λ r. TookPrefix bs (y.0.0.0, suc y.0.0.1) r) two.1 made)

      marked_sound : (bs : Text) (left : ℕ) (m : Mark) (after : Text) → mark_at (after_white bs) ≡ Some (m, after) → (x : Expr O × ℕ) (rest : Text) (t : Bool) → is_open m ≡ t
          → cond t (enclosed_at read_operand below after) (signed_at read_operand below left after (sign_of m)) ≡ Ok (x, rest) → TookPrefix bs x rest
      marked_sound bs left m after is x rest true t h = enclosed_sound bs after (is ∙ ap (λ m. Some (m, after)) (open_is m t)) x rest h
      marked_sound bs left m after is x rest false t h = signed_sound bs left m after is x rest (sign_of m) refl h

      begun_sound : (bs : Text) (x : Expr O × ℕ) (rest : Text) (found : Option (Mark × Text))
          → mark_at (after_white bs) ≡ found → begun_at read_operand d below (after_white bs) found ≡ Ok (x, rest)
          → TookPrefix bs x rest
      begun_sound bs x rest None is h =
          let y = read_map_ok (λ (o : O × ℕ). let made : Expr O × ℕ = (operand o.0, o.1) in made) (read_operand d (after_white bs)) x rest h in
          let s = operand_sound d (after_white bs) y.0 rest y.1 in
          let made : TookPrefix bs (operand y.0.0, y.0.1) rest = record { tokens = value y.0.0 y.0.1 ∷ []; are_tokens = (rest, (is, s.0), refl); is = single y.0.0; deep = s.1 } in
          subst (λ x. TookPrefix bs x rest) y.2 made
      begun_sound bs x rest (Some p) is h = marked_sound bs (length (after_white bs)) p.0 p.1 is x rest (is_open p.0) refl h

      pub prefix_sound : (bs : Text) (x : Expr O × ℕ) (rest : Text) → prefix_at read_operand d below bs ≡ Ok (x, rest) → TookPrefix bs x rest
      unfolding prefix_at
      prefix_sound bs x rest h = begun_sound bs x rest (mark_at (after_white bs)) refl h

      -- a chain so far, that goes on
      pub record TookFront (n : ℕ) (bs : Text) (x : Expr O × ℕ) (rest : Text) : Type 0 where
        pub upto : ℕ
        pub tokens : List (Token O)
        pub are_tokens : AreTokens O IsOperand bs rest tokens
        pub is : IsChain O x.1 upto tokens x.0
        pub within : upto ≤ n
        pub deep : x.1 ≤ d
        pub follows : Follows upto rest

      chain_ends : (n : ℕ) (bs : Text) (x : Expr O × ℕ) (rest : Text) → TookFront n bs x rest → Follows (suc n) rest → TookChain (suc d) n bs x rest
      chain_ends n bs x rest t f = record { tokens = t.tokens; are_tokens = t.are_tokens; is = chain_weaker t.is n t.within; deep = omega (arith, t.deep); follows = f }

      -- one operator more
      pub front_more : (n : ℕ) (bs : Text) (x : Expr O × ℕ) (rest : Text) → TookFront n bs x rest
          → (i : Infix) (after : Text) → mark_at (after_white rest) ≡ Some (marks.Infix i, after) → level i ≤ n
          → x.1 < d
          → (y : Expr O × ℕ) (end : Text) → below (chain (level i - 1)) after ≡ Ok (y, end) → TookFront n bs (join i x y) end
      front_more n bs x rest t i after is within deep y end h =
          let r = sound (chain (level i - 1)) after y end h in
          record {
            upto = level i;
            tokens = t.tokens ++ mark (marks.Infix i) ∷ r.tokens;
            are_tokens = row_join O IsOperand t.tokens (mark (marks.Infix i) ∷ r.tokens) bs rest end t.are_tokens (after, is, r.are_tokens);
            is = joining i t.tokens r.tokens (omega arith) (chain_weaker t.is (level i) (t.follows i after is)) r.is;
            within = within;
            deep = omega (arith, r.deep);
            follows = λ j rest' is'. omega (arith, level_more i, r.follows j rest' is');
          }

      no_infix : (p : Mark × Text) (found : Option (Mark × Text)) → found ≡ Some p → infix_of p.0 ≡ None → (i : Infix) (rest : Text) → found ≡ Some (marks.Infix i, rest) → ⊥
      no_infix p found is none i rest h = apart (sym (ap infix_of (found_once found p.0 (marks.Infix i) p.1 rest is h).0) ∙ none) where
        apart : (let none : Option Infix = None in Some i) ≡ None → ⊥
        apart h = cc

      tested_sound : (n : ℕ) (bs : Text) (x : Expr O × ℕ) (rest : Text) → TookFront n bs x rest → (more : Expr O × ℕ → Text → Read (Expr O × ℕ))
          → ((x : Expr O × ℕ) (rest : Text) → TookFront n bs x rest → (y : Expr O × ℕ) (end : Text) → more x rest ≡ Ok (y, end) → TookChain (suc d) n bs y end)
          → (i : Infix) (after : Text) → mark_at (after_white rest) ≡ Some (marks.Infix i, after) → level i ≤ n → (y : Expr O × ℕ) (end : Text) (s : Bool) → nat_lt x.1 d ≡ s
          → cond s (below (chain (level i - 1)) after >>= (λ y. more (join i x y.0) y.1)) (Err TooDeep) ≡ Ok (y, end) → TookChain (suc d) n bs y end
      tested_sound n bs x rest t more all i after is within y end true s h =
          let z = bind_ok (below (chain (level i - 1)) after) (λ y. more (join i x y.0) y.1) (y, end) h in
          all (join i x z.0.0) z.0.1 (front_more n bs x rest t i after is within (lt_is x.1 d s) z.0.0 z.0.1 z.1) y end z.2
      tested_sound n bs x rest t more all i after is within y end false s h = cc

      next_sound : (n : ℕ) (bs : Text) (x : Expr O × ℕ) (rest : Text) → TookFront n bs x rest → (more : Expr O × ℕ → Text → Read (Expr O × ℕ))
          → ((x : Expr O × ℕ) (rest : Text) → TookFront n bs x rest → (y : Expr O × ℕ) (end : Text) → more x rest ≡ Ok (y, end) → TookChain (suc d) n bs y end)
          → (i : Infix) (after : Text) → mark_at (after_white rest) ≡ Some (marks.Infix i, after) → (y : Expr O × ℕ) (end : Text) (s : Bool) → nat_le (level i) n ≡ s
          → cond s (cond (nat_lt x.1 d) (below (chain (level i - 1)) after >>= (λ y. more (join i x y.0) y.1)) (Err TooDeep)) (Ok (x, rest)) ≡ Ok (y, end) → TookChain (suc d) n bs y end
      next_sound n bs x rest t more all i after is y end true s h = tested_sound n bs x rest t more all i after is (le_is (level i) n s) y end (nat_lt x.1 d) refl h
      next_sound n bs x rest t more all i after is y end false s h =
          let two = ok_pair (x, rest) (y, end) h in
          let stops : Follows (suc n) rest = λ j rest' is'. above j rest' is' in
          subst (λ x. TookChain (suc d) n bs x end) two.0 (subst (λ r. TookChain (suc d) n bs x r) two.1 (chain_ends n bs x rest t stops))
        where
          above : (j : Infix) (rest' : Text) → mark_at (after_white rest) ≡ Some (marks.Infix j, rest') → suc n ≤ level j
          above j rest' is' =
              let same = found_once (mark_at (after_white rest)) (marks.Infix i) (marks.Infix j) after rest' is is' in
              omega (arith, le_not (level i) n s, ap level (infix_once i j same.0))

      going_sound : (n : ℕ) (bs : Text) (x : Expr O × ℕ) (rest : Text) → TookFront n bs x rest → (more : Expr O × ℕ → Text → Read (Expr O × ℕ))
          → ((x : Expr O × ℕ) (rest : Text) → TookFront n bs x rest → (y : Expr O × ℕ) (end : Text) → more x rest ≡ Ok (y, end) → TookChain (suc d) n bs y end)
          → (y : Expr O × ℕ) (end : Text) (found : Option (Mark × Text)) → mark_at (after_white rest) ≡ found
          → going_at read_operand d below n more x rest found ≡ Ok (y, end) → TookChain (suc d) n bs y end
      going_sound n bs x rest t more all y end None is h =
          let two = ok_pair (x, rest) (y, end) h in
          let stops : Follows (suc n) rest = λ j rest' is'. absurd (none_some (sym is ∙ is')) in
          subst (λ x. TookChain (suc d) n bs x end) two.0 (subst (λ r. TookChain (suc d) n bs x r) two.1 (chain_ends n bs x rest t stops))
        where
          none_some : {p : Mark × Text} → (let none : Option (Mark × Text) = None in none) ≡ Some p → ⊥
          none_some h = cc
      going_sound n bs x rest t more all y end (Some p) is h = by_infix (infix_of p.0) refl h where
        by_infix : (s : Option Infix) → infix_of p.0 ≡ s → next_at read_operand d below n more x rest p.1 s ≡ Ok (y, end) → TookChain (suc d) n bs y end
        by_infix None s h =
            let two = ok_pair (x, rest) (y, end) h in
            let stops : Follows (suc n) rest = λ j rest' is'. absurd (no_infix p (mark_at (after_white rest)) is s j rest' is') in
            subst (λ x. TookChain (suc d) n bs x end) two.0 (subst (λ r. TookChain (suc d) n bs x r) two.1 (chain_ends n bs x rest t stops))
        by_infix (Some i) s h = next_sound n bs x rest t more all i p.1 (is ∙ ap (λ m. Some (m, p.1)) (infix_is p.0 i s)) y end (nat_le (level i) n) refl h

      pub climb_sound : (n turns : ℕ) (bs : Text) (x : Expr O × ℕ) (rest : Text) → TookFront n bs x rest
          → (y : Expr O × ℕ) (end : Text) → climb_at read_operand d below n turns x rest ≡ Ok (y, end)
          → TookChain (suc d) n bs y end
      unfolding climb_at
      climb_sound n zero bs x rest t y end h = cc
      climb_sound n (suc turns) bs x rest t y end h =
          going_sound n bs x rest t (climb_at read_operand d below n turns) (λ x rest t y end h. climb_sound n turns bs x rest t y end h) y end (mark_at (after_white rest)) refl h

      pub prefix_front : (n : ℕ) (bs : Text) (x : Expr O × ℕ) (rest : Text) → TookPrefix bs x rest → TookFront n bs x rest
      prefix_front n bs x rest t = record { upto = 0; tokens = t.tokens; are_tokens = t.are_tokens; is = t.is; within = omega arith; deep = t.deep; follows = λ i rest is. omega arith }

      pub chain_sound : (n : ℕ) (bs : Text) (x : Expr O × ℕ) (rest : Text) → chain_at read_operand d below n bs ≡ Ok (x, rest) → TookChain (suc d) n bs x rest
      unfolding chain_at
      chain_sound n bs x rest h =
          let y = bind_ok (prefix_at read_operand d below bs) (λ x. climb_at read_operand d below n (suc (length x.1)) x.0 x.1) (x, rest) h in
          climb_sound n (suc (length y.0.1)) bs y.0.0 y.0.1 (prefix_front n bs y.0.0 y.0.1 (prefix_sound bs y.0.0 y.0.1 y.1)) x rest y.2

      -- Whole expressions
      expression_ends : (bs : Text) (x : Expr O × ℕ) (rest : Text) → TookChain (suc d) 13 bs x rest
          → ((after : Text) → mark_at (after_white rest) ≡ Some (marks.QuestionMark, after) → ⊥)
          → TookWhole (suc d) bs x rest
      expression_ends bs x rest t none = record { tokens = t.tokens; are_tokens = t.are_tokens; is = simple t.is; deep = t.deep; ends = ends } where
        ends : NextIsNot MayFollow rest
        ends marks.Open after is h = h
        ends marks.Close after is h = h
        ends marks.QuestionMark after is h = none after is
        ends marks.Colon after is h = h
        ends marks.Complement after is h = h
        ends marks.Not after is h = h
        ends (marks.Infix i) after is h = absurd (omega (arith, level_within i, t.follows i after is))

      branches_sound : (bs : Text) (x : Expr O × ℕ) (rest : Text) → TookChain (suc d) 13 bs x rest → x.1 < d → (after : Text) → mark_at (after_white rest) ≡ Some (marks.QuestionMark, after)
          → (y : Expr O × ℕ) (end : Text) → branches_at read_operand below x after ≡ Ok (y, end) → TookWhole (suc d) bs y end
      branches_sound bs x rest t less after is w end h =
          let y = bind_ok (below whole after) (λ y. expect is_colon y.1 >>= (λ after. below whole after >>= (λ z. Ok ((choice x.0 y.0.0 z.0.0, suc (max x.1 (max y.0.1 z.0.1))), z.1)))) (w, end) h in
          let k = bind_ok (expect is_colon y.0.1) (λ after. below whole after >>= (λ z. Ok ((choice x.0 y.0.0.0 z.0.0, suc (max x.1 (max y.0.0.1 z.0.1))), z.1))) (w, end) y.2 in
          let z = bind_ok (below whole k.0) (λ (z : (Expr O × ℕ) × Text). let ok : Result ((Expr O × ℕ) × Text) Fault =
          Ok ((choice x.0 y.0.0.0 z.0.0, suc (max x.1 (max y.0.0.1 z.0.1))), z.1) in ok) (w, end) k.2 in
          let two = ok_pair ((choice x.0 y.0.0.0 z.0.0.0, suc (max x.1 (max y.0.0.1 z.0.0.1))), z.0.1) (w, end) z.2 in
          let c = expected_ok is_colon (length (after_white y.0.1)) (mark_at (after_white y.0.1)) k.0 k.1 in
          let ty = sound whole after y.0.0 y.0.1 y.1 in
          let tz = sound whole k.0 z.0.0 z.0.1 z.1 in
          let colon : mark_at (after_white y.0.1) ≡ Some (marks.Colon, k.0) = c.1 ∙ ap (λ m. Some (m, k.0)) (colon_is c.0 c.2) in
          let last : AreTokens O IsOperand y.0.1 z.0.1 (mark marks.Colon ∷ tz.tokens) = (k.0, colon, tz.are_tokens) in
          let made : TookWhole (suc d) bs (choice x.0 y.0.0.0 z.0.0.0, suc (max x.1 (max y.0.0.1 z.0.0.1))) z.0.1 = record {
            tokens = t.tokens ++ mark marks.QuestionMark ∷ (ty.tokens ++ mark marks.Colon ∷ tz.tokens);
            are_tokens = row_join O IsOperand t.tokens (mark marks.QuestionMark ∷ (ty.tokens ++ mark marks.Colon ∷ tz.tokens)) bs rest z.0.1 t.are_tokens
                (after, is, row_join O IsOperand ty.tokens (mark marks.Colon ∷ tz.tokens) after y.0.1 z.0.1 ty.are_tokens last);
            is = choosing t.tokens ty.tokens tz.tokens t.is ty.is tz.is;
            deep = omega (arith, ty.deep, tz.deep);
            ends = tz.ends;
          } in
          subst (λ w. TookWhole (suc d) bs w end) two.0 (subst (λ r. TookWhole (suc d) bs (choice x.0 y.0.0.0 z.0.0.0, suc (max x.1 (max y.0.0.1 z.0.0.1))) r) two.1 made)

      deep_enough : (bs : Text) (x : Expr O × ℕ) (rest : Text) → TookChain (suc d) 13 bs x rest → (after : Text) → mark_at (after_white rest) ≡ Some (marks.QuestionMark, after)
          → (y : Expr O × ℕ) (end : Text) (s : Bool) → nat_lt x.1 d ≡ s → cond s (branches_at read_operand below x after) (Err TooDeep) ≡ Ok (y, end) → TookWhole (suc d) bs y end
      deep_enough bs x rest t after is y end true s h = branches_sound bs x rest t (lt_is x.1 d s) after is y end h
      deep_enough bs x rest t after is y end false s h = cc

      choosing_sound : (bs : Text) (x : Expr O × ℕ) (rest : Text) → TookChain (suc d) 13 bs x rest → (y : Expr O × ℕ) (end : Text) (found : Option (Mark × Text)) → mark_at (after_white rest) ≡ found
          → choosing_at read_operand d below x rest found ≡ Ok (y, end) → TookWhole (suc d) bs y end
      choosing_sound bs x rest t y end None is h =
          let two = ok_pair (x, rest) (y, end) h in
          subst (λ x. TookWhole (suc d) bs x end) two.0 (subst (λ r. TookWhole (suc d) bs x r) two.1
          (expression_ends bs x rest t (λ after is'. found_none (mark_at (after_white rest)) marks.QuestionMark
          after is is')))
      choosing_sound bs x rest t y end (Some p) is h = by_question (is_question_mark p.0) refl h where
        by_question : (s : Bool) → is_question_mark p.0 ≡ s
            → cond s (cond (nat_lt x.1 d) (branches_at read_operand below x p.1) (Err TooDeep)) (Ok (x, rest)) ≡ Ok
            (y, end) → TookWhole (suc d) bs y end
        by_question true s h = deep_enough bs x rest t p.1 (is ∙ ap (λ m. Some (m, p.1)) (question_is p.0 s)) y end (nat_lt x.1 d) refl h
        by_question false s h =
            let two = ok_pair (x, rest) (y, end) h in
            subst (λ x. TookWhole (suc d) bs x end) two.0 (subst (λ r. TookWhole (suc d) bs x r) two.1 (expression_ends bs x rest t
            (λ after is'. true_false (sym (ap is_question_mark (found_once (mark_at (after_white rest)) p.0 marks.QuestionMark p.1 after is is').0) ∙ s))))

      pub whole_sound : (bs : Text) (x : Expr O × ℕ) (rest : Text) → whole_at read_operand d below bs ≡ Ok (x, rest) → TookWhole (suc d) bs x rest
      unfolding whole_at
      whole_sound bs x rest h =
          let y = bind_ok (chain_at read_operand d below 13 bs) (λ x. choosing_at read_operand d below x.0 x.1 (mark_at (after_white x.1))) (x, rest) h in
          choosing_sound bs y.0.0 y.0.1 (chain_sound 13 bs y.0.0 y.0.1 y.1) x rest (mark_at (after_white y.0.1)) refl y.2

    pub below_sound : (d : ℕ) → SoundBelow d (below_at read_operand d)
    unfolding below_at
    below_sound zero extent bs x rest h = cc
    below_sound (suc d) whole bs x rest h = whole_sound d (below_at read_operand d) (below_sound d) bs x rest h
    below_sound (suc d) (chain n) bs x rest h = chain_sound d (below_at read_operand d) (below_sound d) n bs x rest h

    ended_ok : (e e' : Expr O) (bs : Text) → ended e bs ≡ Ok e' → (e ≡ e') × (bs ≡ [])
    ended_ok e e' [] h = ((let same : e ≡ e' = cc in same), refl)
    ended_ok e e' (b ∷ bs) h = cc

    -- What is read is an expression, nested no deeper than d.
    pub sound : (d : ℕ) (bs : Text) (e : Expr O) → expr_at read_operand d bs ≡ Ok e → (h : ℕ) × (h ≤ d) × IsExprText O IsOperand h bs e
    unfolding expr_at
    sound d bs e h =
        let x = bind_ok (whole_at read_operand d (below_at read_operand d) bs) (λ x. ended x.0.0 (after_white x.1)) e h in
        let t = whole_sound d (below_at read_operand d) (below_sound d) bs x.0.0 x.0.1 x.1 in
        let all = ended_ok x.0.0.0 e (after_white x.0.1) x.2 in
        (x.0.0.1, omega (arith, t.deep), (t.tokens, x.0.1, subst (IsExpr O x.0.0.1 t.tokens) all.0 t.is, t.are_tokens, all.1))
