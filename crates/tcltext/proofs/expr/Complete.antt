-- What is in the grammar is read.
use Rattle.std.proofs.Common.{◌≡◌, ◌<◌, ◌≤◌, ◌-◌, ℕ, zero, suc, max, List, [], ◌∷◌, ◌++◌, length, Bool, true, false}
use Rattle.std.proofs.Common.{cond, nat_lt, nat_le, if◌then◌else◌, Option, Some, None, Result, Ok, Err, refl, sym, ap}
use Rattle.std.proofs.Common.{subst, ◌∙◌, arith}
use Rattle.std.proofs.lemmas.Bool.Decides.{nat_tests}
use Rattle.tcltext.specs.chars.Runs.{Text}
use Rattle.tcltext.specs.declared.chars.fault.Fault.{Fault}
use Rattle.tcltext.specs.declared.chars.fault.Fault.TheVariants.{TooDeep}
use Rattle.tcltext.specs.chars.Reading.{◌>>=◌, Read, read_map}
use Rattle.tcltext.specs.declared.expr.operators.UnaryOperator.{UnaryOperator}
use Rattle.tcltext.specs.declared.expr.operators.Infix.{Infix}
use Rattle.tcltext.specs.declared.expr.operators.Mark.{Mark}
use Rattle.tcltext.specs.declared.expr.operators.Mark.TheVariants as marks
use Rattle.tcltext.specs.expr.Tree.{Expr, operand, unary, choice, Token, mark}
use Rattle.tcltext.specs.expr.Grammar.{level, sign_of, IsExpr, simple, choosing, IsChain, single, in_parentheses, signed}
use Rattle.tcltext.specs.expr.Grammar.{joining}
use Rattle.tcltext.specs.expr.Marks.{after_white, mark_at}
use Rattle.tcltext.specs.expr.TokenList.{AreTokens, IsExprText}
use Rattle.tcltext.specs.expr.Faults.{Follows, NextIsNot, MayFollow}
use Rattle.tcltext.specs.expr.Reading.{Extent, whole, chain, is_close, is_colon, is_question_mark, is_open, infix_of}
use Rattle.tcltext.specs.expr.Reading.{after_expected, expect, signed_at, enclosed_at, marked_at, begun_at, prefix_at, join}
use Rattle.tcltext.specs.expr.Reading.{next_at, going_at, climb_at, chain_at, branches_at, choosing_at, whole_at, below_at}
use Rattle.tcltext.specs.expr.Reading.{ended, expr_at}
use Rattle.tcltext.proofs.expr.Results.{found_once, found_none, infix_once}
use Rattle.tcltext.proofs.expr.Rows.{row_cut, row_shorter}
use Rattle.tcltext.proofs.expr.Sound.{level_more, infix_is, question_is}

pub lt_true : (a b : ℕ) → a < b → nat_lt a b ≡ true
lt_true a b h = grind (arith, nat_tests)

pub lt_false : (a b : ℕ) → b ≤ a → nat_lt a b ≡ false
lt_false a b h = grind (arith, nat_tests)

pub le_true : (a b : ℕ) → a ≤ b → nat_le a b ≡ true
le_true a b h = grind (arith, nat_tests)

pub le_false : (a b : ℕ) → b < a → nat_le a b ≡ false
le_false a b h = grind (arith, nat_tests)

-- an operator before an operand opens no parenthesis
pub sign_no_open : (m : Mark) (u : UnaryOperator) → sign_of m ≡ Some u → is_open m ≡ false
sign_no_open marks.Open u h = cc
sign_no_open marks.Close u h = refl
sign_no_open marks.QuestionMark u h = refl
sign_no_open marks.Colon u h = refl
sign_no_open marks.Complement u h = refl
sign_no_open marks.Not u h = refl
sign_no_open (marks.Infix i) u h = refl

module _ {O : Type 0} (read_operand : ℕ → Text → Read (O × ℕ)) where
  pub below_chain : (d n : ℕ) (bs : Text) → below_at read_operand (suc d) (chain n) bs ≡ chain_at read_operand d (below_at read_operand d) n bs
  unfolding below_at
  below_chain d n bs = refl

  pub below_whole : (d : ℕ) (bs : Text) → below_at read_operand (suc d) whole bs ≡ whole_at read_operand d (below_at read_operand d) bs
  unfolding below_at
  below_whole d bs = refl

  module _ (d : ℕ) (below : Extent → Text → Read (Expr O × ℕ)) where
    pub prefix_operand : (bs : Text) (o : O × ℕ) (rest : Text) → mark_at (after_white bs) ≡ None
        → read_operand d (after_white bs) ≡ Ok (o, rest) → prefix_at read_operand d below bs ≡ Ok
        ((operand o.0, o.1), rest)
    unfolding prefix_at
    prefix_operand bs o rest none h = ap (begun_at read_operand d below (after_white bs)) none ∙ ap (read_map (λ (o : O × ℕ). let made : Expr O × ℕ = (operand o.0, o.1) in made)) h

    pub prefix_marked : (bs : Text) (m : Mark) (after : Text) → mark_at (after_white bs) ≡ Some (m, after)
        → prefix_at read_operand d below bs ≡ marked_at read_operand below (length (after_white bs)) m after
    unfolding prefix_at
    prefix_marked bs m after is = ap (begun_at read_operand d below (after_white bs)) is

    pub marked_open : (left : ℕ) (after : Text) → marked_at read_operand below left marks.Open after ≡ enclosed_at read_operand below after
    marked_open left after = refl

    pub marked_other : (left : ℕ) (m : Mark) (after : Text) → is_open m ≡ false → marked_at read_operand below left m after ≡ signed_at read_operand below left after (sign_of m)
    marked_other left m after h = rw h refl

    pub marked_sign : (left : ℕ) (m : Mark) (u : UnaryOperator) (after : Text) → sign_of m ≡ Some u
        → marked_at read_operand below left m after ≡ read_map (λ x. (unary u x.0, suc x.1)) (below (chain 1) after)
    marked_sign left m u after s = marked_other left m after (sign_no_open m u s) ∙ ap (signed_at read_operand below left after) s

    pub chain_from : (n : ℕ) (bs : Text) (x : Expr O × ℕ) (rest : Text)
        → prefix_at read_operand d below bs ≡ Ok (x, rest)
        → chain_at read_operand d below n bs ≡ climb_at read_operand d below n (suc (length rest)) x rest
    unfolding chain_at
    chain_from n bs x rest h = ap (λ r. r >>= (λ x. climb_at read_operand d below n (suc (length x.1)) x.0 x.1)) h

    climb_turn : (n turns : ℕ) (x : Expr O × ℕ) (rest : Text) (found : Option (Mark × Text)) → mark_at (after_white rest) ≡ found
        → climb_at read_operand d below n (suc turns) x rest ≡ going_at read_operand d below n (climb_at read_operand d below n turns) x rest found
    unfolding climb_at
    climb_turn n turns x rest found h = ap (going_at read_operand d below n (climb_at read_operand d below n turns) x rest) h

    stops : (n turns : ℕ) (x : Expr O × ℕ) (rest : Text) (p : Mark × Text) (s : Option Infix) → infix_of p.0 ≡ s → mark_at (after_white rest) ≡ Some p → Follows (suc n) rest
        → next_at read_operand d below n (climb_at read_operand d below n turns) x rest p.1 s ≡ Ok (x, rest)
    stops n turns x rest p None s is f = refl
    stops n turns x rest p (Some i) s is f =
        let above : suc n ≤ level i = f i p.1 (is ∙ ap (λ m. Some (m, p.1)) (infix_is p.0 i s)) in
        let no_less : nat_le (level i) n ≡ false = le_false (level i) n above in
        rw no_less refl

    -- a chain stops before an operator of a higher level
    pub climb_stops : (n turns : ℕ) (x : Expr O × ℕ) (rest : Text) → 0 < turns → Follows (suc n) rest → climb_at read_operand d below n turns x rest ≡ Ok (x, rest)
    climb_stops n zero x rest some f = absurd (omega arith)
    climb_stops n (suc turns) x rest some f = at_mark (mark_at (after_white rest)) refl where
      at_mark : (found : Option (Mark × Text)) → mark_at (after_white rest) ≡ found → climb_at read_operand d below n (suc turns) x rest ≡ Ok (x, rest)
      at_mark None is = climb_turn n turns x rest None is
      at_mark (Some p) is = climb_turn n turns x rest (Some p) is ∙ stops n turns x rest p (infix_of p.0) refl is f

    -- and goes on behind one
    pub climb_operator : (n turns : ℕ) (x : Expr O × ℕ) (rest : Text) (i : Infix) (after : Text) → mark_at (after_white rest) ≡ Some (marks.Infix i, after) → level i ≤ n
        → climb_at read_operand d below n (suc turns) x rest
        ≡ (if nat_lt x.1 d then below (chain (level i - 1)) after >>= (λ y. climb_at read_operand d below n turns (join i x y.0) y.1) else Err TooDeep)
    climb_operator n turns x rest i after is within = let less = le_true (level i) n within in climb_turn n turns x rest (Some (marks.Infix i, after)) is ∙ passes less where
      passes : nat_le (level i) n ≡ true → next_at read_operand d below n (climb_at read_operand d below n turns) x rest after (Some i)
          ≡ (if nat_lt x.1 d then below (chain (level i - 1)) after >>= (λ y. climb_at read_operand d below n turns (join i x y.0) y.1) else Err TooDeep)
      passes h = rw h refl

    pub climb_goes : (n turns : ℕ) (x : Expr O × ℕ) (rest : Text) (i : Infix) (after : Text) → mark_at (after_white rest) ≡ Some (marks.Infix i, after) → level i ≤ n → x.1 < d
        → climb_at read_operand d below n (suc turns) x rest ≡ (below (chain (level i - 1)) after >>= (λ y. climb_at read_operand d below n turns (join i x y.0) y.1))
    climb_goes n turns x rest i after is within less = climb_operator n turns x rest i after is within ∙ (let t : nat_lt x.1 d ≡ true = lt_true x.1 d less in rw t refl)

    pub choosing_stops : (x : Expr O × ℕ) (rest : Text) → NextIsNot MayFollow rest → choosing_at read_operand d below x rest (mark_at (after_white rest)) ≡ Ok (x, rest)
    choosing_stops x rest ends = at_mark (mark_at (after_white rest)) refl where
      at_mark : (found : Option (Mark × Text)) → mark_at (after_white rest) ≡ found → choosing_at read_operand d below x rest found ≡ Ok (x, rest)
      at_mark None is = refl
      at_mark (Some p) is = by_test (is_question_mark p.0) refl where
        by_test : (s : Bool) → is_question_mark p.0 ≡ s → cond s (cond (nat_lt x.1 d) (branches_at read_operand below x p.1) (Err TooDeep)) (Ok (x, rest)) ≡ Ok (x, rest)
        by_test true s = absurd (ends marks.QuestionMark p.1 (is ∙ ap (λ m. Some (m, p.1)) (question_is p.0 s)) tt)
        by_test false s = refl

    pub choosing_goes : (x : Expr O × ℕ) (rest after : Text)
        → mark_at (after_white rest) ≡ Some (marks.QuestionMark, after) → x.1 < d
        → choosing_at read_operand d below x rest (mark_at (after_white rest)) ≡ branches_at read_operand below x after
    choosing_goes x rest after is less = ap (choosing_at read_operand d below x rest) is ∙ (let t : nat_lt x.1 d ≡ true = lt_true x.1 d less in rw t refl)

    pub whole_from : (bs : Text) (x : Expr O × ℕ) (rest : Text) → chain_at read_operand d below 13 bs ≡ Ok (x, rest)
        → whole_at read_operand d below bs ≡ choosing_at read_operand d below x rest (mark_at (after_white rest))
    unfolding whole_at
    whole_from bs x rest h = ap (λ r. r >>= (λ x. choosing_at read_operand d below x.0 x.1 (mark_at (after_white x.1)))) h

pub no_operator : (m : Mark) (rest after : Text) → mark_at (after_white rest) ≡ Some (m, after) → infix_of m ≡ None → (n : ℕ) → Follows n rest
no_operator m rest after is none n = λ i more is'. absurd (apart (sym (ap infix_of (found_once (mark_at (after_white rest)) m (marks.Infix i) after more is is').0) ∙ none)) where
  apart : {i : Infix} → Some i ≡ None → ⊥
  apart h = cc

pub no_goes_on : (m : Mark) (rest after : Text) → mark_at (after_white rest) ≡ Some (m, after) → (MayFollow m → ⊥) → NextIsNot MayFollow rest
no_goes_on m rest after is stop = λ k more is' goes. stop (subst MayFollow (sym (found_once (mark_at (after_white rest)) m k after more is is').0) goes)

mark_nil : mark_at [] ≡ None
unfolding mark_at
mark_nil = refl

-- nothing follows where the text ends
pub ends_here : (rest : Text) → after_white rest ≡ [] → NextIsNot MayFollow rest
ends_here rest is = λ m more found goes. found_none (mark_at (after_white rest)) m more (ap mark_at is ∙ mark_nil) found

-- an operator follows what is of its level
pub operator_follows : (i : Infix) (rest after : Text) → mark_at (after_white rest) ≡ Some (marks.Infix i, after) → Follows (level i) rest
operator_follows i rest after is = λ j more is'. omega (arith, ap level (infix_once i j (found_once (mark_at (after_white rest)) (marks.Infix i) (marks.Infix j) after more is is').0))

-- no operator follows what nothing goes on behind
pub ends_follow : (n : ℕ) (rest : Text) → NextIsNot MayFollow rest → Follows n rest
ends_follow n rest ends = λ i more is. absurd (ends (marks.Infix i) more is tt)

pub follows_less : (m n : ℕ) (rest : Text) → m ≤ n → Follows n rest → Follows m rest
follows_less m n rest le f = λ i more is. omega (arith, f i more is)

module _ (O : Type 0) (IsOperand : Text → Text → O → ℕ → Type 0) (read_operand : ℕ → Text → Read (O × ℕ))
    (again : (d : ℕ) (bs rest : Text) (o : O) (k : ℕ) → mark_at bs ≡ None → IsOperand bs rest o k → k ≤ d → read_operand d bs ≡ Ok ((o, k), rest))
    (shorter : (bs rest : Text) (o : O) (k : ℕ) → IsOperand bs rest o k → length rest < length bs) where
  -- reading a chain comes to where the rest of it is read
  abbrev pub Reaches : ℕ → ℕ → Text → Expr O × ℕ → Text → Type 0
  Reaches d n bs x rest = (turns : ℕ) × (length rest < turns) × (chain_at read_operand d (below_at read_operand d) n bs ≡ climb_at read_operand d (below_at read_operand d) n turns x rest)

  pub reaches_end : (d n : ℕ) (bs : Text) (x : Expr O × ℕ) (rest : Text) → Reaches d n bs x rest → Follows (suc n) rest → chain_at read_operand d (below_at read_operand d) n bs ≡ Ok (x, rest)
  reaches_end d n bs x rest r f = r.2 ∙ climb_stops read_operand d (below_at read_operand d) n r.0 x rest (omega (arith, r.1)) f

  reaches_more : (d n : ℕ) (bs : Text) (x : Expr O × ℕ) (rest : Text) → Reaches (suc d) n bs x rest
      → (i : Infix) (after : Text) → mark_at (after_white rest) ≡ Some (marks.Infix i, after) → level i ≤ n → x.1 ≤ d
      → (y : Expr O × ℕ) (end : Text) → chain_at read_operand d (below_at read_operand d) (level i - 1) after ≡ Ok (y, end) → length end < length rest → Reaches (suc d) n bs (join i x y) end
  reaches_more d n bs x rest r i after is within deep y end h less = more r.0 r.1 r.2 where
    more : (turns : ℕ) → length rest < turns → chain_at read_operand (suc d) (below_at read_operand (suc d)) n bs ≡
        climb_at read_operand (suc d) (below_at read_operand (suc d)) n turns x rest
        → Reaches (suc d) n bs (join i x y) end
    more zero enough h' = absurd (omega arith)
    more (suc turns) enough h' = (
      turns,
      omega arith,
      h' ∙ climb_goes read_operand (suc d) (below_at read_operand (suc d)) n turns x rest i after is within (omega arith)
          ∙ ap (λ r. r >>= (λ y. climb_at read_operand (suc d) (below_at read_operand (suc d)) n turns (join i x y.0) y.1)) (below_chain read_operand d (level i - 1) after ∙ h),
    )

  mutual
    pub chain_again : {h n : ℕ} {ts : List (Token O)} {e : Expr O} → IsChain O h n ts e → (d m : ℕ) → h ≤ d → n ≤ m
        → (bs rest : Text) → AreTokens O IsOperand bs rest ts → Follows n rest → Reaches d m bs (e, h) rest
    chain_again (single {h} o) d m deep above bs rest are_tokens f =
        let row_ends = are_tokens.2 in
        let reads = again d (after_white bs) are_tokens.0 o h are_tokens.1.0 are_tokens.1.1 deep in (
          suc (length rest),
          omega arith,
          chain_from read_operand d (below_at read_operand d) m bs (operand o, h) rest
              (prefix_operand read_operand d (below_at read_operand d) bs (o, h) rest are_tokens.1.0 (reads ∙ ap (λ r. Ok ((o, h), r)) row_ends)),
        )
    chain_again (in_parentheses ts is) zero m deep above bs rest are_tokens f = absurd (omega arith)
    chain_again (in_parentheses {h} ts {e} is) (suc d) m deep above bs rest are_tokens f =
        let cut = row_cut O IsOperand ts (mark marks.Close ∷ []) are_tokens.0 rest are_tokens.2 in
        let below = below_at read_operand (suc d) in
        let closes : mark_at (after_white cut.0) ≡ Some (marks.Close, rest) = cut.2.1 ∙ ap (λ r. Some (marks.Close, r)) cut.2.2 in
        let inner = below_whole read_operand d are_tokens.0 ∙ expr_again is d (omega arith) are_tokens.0 cut.0 cut.1 (no_goes_on marks.Close cut.0 rest closes (λ h. h)) in
        let all : enclosed_at read_operand below are_tokens.0 ≡ Ok ((e, suc h), rest) =
        ap (λ r. r >>= (λ x. expect is_close x.1 >>= (λ after. Ok ((x.0.0, suc x.0.1), after)))) inner
        ∙ ap (λ r. after_expected is_close (length (after_white cut.0)) r >>= (λ after. Ok ((e, suc h), after))) closes
        in
        (suc (length rest), omega arith, chain_from read_operand (suc d) below m bs (e, suc h) rest (prefix_marked read_operand (suc d) below bs marks.Open are_tokens.0 are_tokens.1 ∙ all))
    chain_again (signed u s is) zero m deep above bs rest are_tokens f = absurd (omega arith)
    chain_again (signed {h} {n} {m = k} u {ts} {e} s is) (suc d) m deep above bs rest are_tokens f =
        let below = below_at read_operand (suc d) in
        let inner : below (chain 1) are_tokens.0 ≡ Ok ((e, h), rest) =
        below_chain read_operand d 1 are_tokens.0
        ∙ reaches_end d 1 are_tokens.0 (e, h) rest (chain_again is d 1 (omega arith) (omega arith) are_tokens.0 rest
        are_tokens.2 (λ i more is. omega (arith, level_more i))) (λ i more is. omega (arith, level_more i))
        in (
          suc (length rest),
          omega arith,
          chain_from read_operand (suc d) below m bs (unary u e, suc h) rest
              (prefix_marked read_operand (suc d) below bs k are_tokens.0 are_tokens.1
              ∙ marked_sign read_operand (suc d) below (length (after_white bs)) k u are_tokens.0 s
              ∙ ap (read_map (λ (x : Expr O × ℕ). let made : Expr O × ℕ = (unary u x.0, suc x.1) in made)) inner),
        )
    chain_again (joining i ls rs within l r) zero m deep above bs rest are_tokens f = absurd (omega arith)
    chain_again (joining {h} {j} {n} i ls rs {l = x} {r = y} within l r) (suc d) m deep above bs rest are_tokens f =
        let cut = row_cut O IsOperand ls (mark (marks.Infix i) ∷ rs) bs rest are_tokens in
        let after = cut.2.0 in
        let left = chain_again l (suc d) m (omega arith) (omega arith) bs cut.0 cut.1 (operator_follows i cut.0 after cut.2.1) in
        let more = level_more i in
        let right = reaches_end d (level i - 1) after (y, j) rest
        (chain_again r d (level i - 1) (omega arith) (omega arith) after rest cut.2.2 (follows_less (level i - 1) n rest (omega arith) f))
        (follows_less (suc (level i - 1)) n rest (omega arith) f)
        in
        reaches_more d m bs (x, h) cut.0 left i after cut.2.1 (omega arith) (omega arith) (y, j) rest right (row_shorter O IsOperand shorter (mark (marks.Infix i)) rs cut.0 rest cut.2)

    pub expr_again : {h : ℕ} {ts : List (Token O)} {e : Expr O} → IsExpr O h ts e → (d : ℕ) → h ≤ d → (bs rest : Text)
        → AreTokens O IsOperand bs rest ts → NextIsNot MayFollow rest
        → whole_at read_operand d (below_at read_operand d) bs ≡ Ok ((e, h), rest)
    expr_again (simple {h} {ts} {e} is) d deep bs rest are_tokens ends =
        let below = below_at read_operand d in
        whole_from read_operand d below bs (e, h) rest (reaches_end d 13 bs (e, h) rest
        (chain_again is d 13 deep (omega arith) bs rest are_tokens (ends_follow 13 rest ends))
        (ends_follow 14 rest ends))
        ∙ choosing_stops read_operand d below (e, h) rest ends
    expr_again (choosing cs ys ns c y n) zero deep bs rest are_tokens ends = absurd (omega arith)
    expr_again (choosing {h} {i} {j} cs ys ns {c = ce} {y = ye} {n = ne} c y n) (suc d) deep bs rest are_tokens ends =
        let below = below_at read_operand (suc d) in
        let cut = row_cut O IsOperand cs (mark marks.QuestionMark ∷ (ys ++ mark marks.Colon ∷ ns)) bs rest are_tokens in
        let asks : mark_at (after_white cut.0) ≡ Some (marks.QuestionMark, cut.2.0) = cut.2.1 in
        let cut' = row_cut O IsOperand ys (mark marks.Colon ∷ ns) cut.2.0 rest cut.2.2 in
        let parts : mark_at (after_white cut'.0) ≡ Some (marks.Colon, cut'.2.0) = cut'.2.1 in
        let none = no_operator marks.QuestionMark cut.0 cut.2.0 asks refl in
        let first = reaches_end (suc d) 13 bs (ce, h) cut.0 (chain_again c (suc d) 13 (omega arith) (omega arith) bs cut.0 cut.1 (none 13)) (none 14) in
        let yes' = below_whole read_operand d cut.2.0 ∙ expr_again y d (omega arith) cut.2.0 cut'.0 cut'.1 (no_goes_on marks.Colon cut'.0 cut'.2.0 parts (λ h. h)) in
        let no' = below_whole read_operand d cut'.2.0 ∙ expr_again n d (omega arith) cut'.2.0 rest cut'.2.2 ends in
        whole_from read_operand (suc d) below bs (ce, h) cut.0 first
        ∙ choosing_goes read_operand (suc d) below (ce, h) cut.0 cut.2.0 asks (omega arith)
        ∙ ap (λ r. r >>= (λ y. expect is_colon y.1 >>= (λ after. below whole after >>= (λ z. Ok ((choice ce y.0.0 z.0.0, suc (max h (max y.0.1 z.0.1))), z.1))))) yes'
        ∙ ap (λ r. after_expected is_colon (length (after_white cut'.0)) r >>= (λ after. below whole after >>= (λ z. Ok ((choice ce ye z.0.0, suc (max h (max i z.0.1))), z.1)))) parts
        ∙ ap (λ r. r >>= (λ z. Ok ((choice ce ye z.0.0, suc (max h (max i z.0.1))), z.1))) no'

  -- An expression is read, where so many may nest as do in it.
  pub complete : (h d : ℕ) (bs : Text) (e : Expr O) → IsExprText O IsOperand h bs e → h ≤ d → expr_at read_operand d bs ≡ Ok e
  unfolding expr_at
  complete h d bs e is deep =
      ap (λ r. r >>= (λ x. ended x.0.0 (after_white x.1))) (expr_again is.2 d deep bs is.1 is.3 (ends_here is.1 is.4))
      ∙ ap (ended e) is.4

  -- A text is one expression at most.
  pub unique : (bs : Text) (h k : ℕ) (e f : Expr O) → IsExprText O IsOperand h bs e → IsExprText O IsOperand k bs f → e ≡ f
  unique bs h k e f is is' = one (sym (complete h (max h k) bs e is (omega arith)) ∙ complete k (max h k) bs f is' (omega arith)) where
    one : (let ok : Result (Expr O) Fault = Ok e in ok) ≡ Ok f → e ≡ f
    one h = cc
