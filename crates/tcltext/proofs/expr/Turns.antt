-- What readers of expressions leave, and the turns of the loop that reads a chain.
use Rattle.std.proofs.Common.{◌≡◌, ◌<◌, ◌≤◌, ◌-◌, ℕ, zero, suc, List, [], ◌∷◌, length, Bool, true, false, cond, nat_lt}
use Rattle.std.proofs.Common.{if◌then◌else◌, ◌&&◌, ◌==◌, inl, inr, Some, None, Ok, Err, refl, sym, ap, subst, ◌∙◌}
use Rattle.std.proofs.Common.{arith}
use Rattle.tcltext.specs.chars.Runs.{Text, take_while, drop_while}
use Rattle.tcltext.specs.chars.Classes.{is_name}
use Rattle.tcltext.specs.declared.chars.fault.Fault.{Fault}
use Rattle.tcltext.specs.declared.chars.fault.Fault.TheVariants.{TooDeep}
use Rattle.tcltext.specs.declared.chars.fault.ReadError.{ReadError}
use Rattle.tcltext.specs.declared.chars.fault.ReadError.TheVariants as errors
use Rattle.tcltext.specs.chars.Reading.{◌>>=◌, Read, Fails}
use Rattle.tcltext.specs.script.Pieces.{IsSuffixOf}
use Rattle.tcltext.proofs.script.Ends.{end_same, end_behind, end_through, end_no_longer}
use Rattle.tcltext.proofs.script.Escapes.{back_end}
use Rattle.tcltext.specs.declared.expr.operators.Infix.{Infix}
use Rattle.tcltext.specs.declared.expr.operators.Mark.{Mark}
use Rattle.tcltext.specs.declared.expr.operators.Mark.TheVariants as marks
use Rattle.tcltext.specs.expr.Tree.{Token, value, mark}
use Rattle.tcltext.specs.expr.Grammar.{level}
use Rattle.tcltext.specs.expr.Marks.{begins_white, after_white, mark_at, before, longest, symbol_at, word_mark, one_byte}
use Rattle.tcltext.specs.expr.Marks.{two_bytes}
use Rattle.tcltext.specs.expr.TokenList.{AreTokens}
use Rattle.tcltext.specs.expr.Faults.{Follows}
use Rattle.tcltext.specs.expr.Operands.{Operand, operand_at}
use Rattle.tcltext.specs.expr.OperandGrammar.{IsOperand}
use Rattle.tcltext.specs.expr.Reading.{chain, WithHeight, join, prefix_at, climb_at, chain_at, whole_at, below_at, expect}
use Rattle.tcltext.proofs.expr.Rows.{before_found, longest_found, after_white_no_longer, mark_shorter}
use Rattle.tcltext.proofs.expr.Sound.{prefix_sound, chain_sound, whole_sound, below_sound, lt_is, expected_ok}
use Rattle.tcltext.proofs.expr.Complete.{climb_stops, climb_operator, chain_from, below_chain}
use Rattle.tcltext.proofs.expr.OperandSound.{operand_sound, operand_end}

-- Ends of texts

white_end_one : (b : ℕ) (bs : Text) (t : Bool) → IsSuffixOf bs (after_white bs) → IsSuffixOf (b ∷ bs) (cond t (after_white bs) (b ∷ bs))
white_end_one b bs true h = end_behind b bs (after_white bs) h
white_end_one b bs false h = end_same (b ∷ bs)

pub white_end : (bs : Text) → IsSuffixOf bs (after_white bs)
unfolding after_white
white_end [] = end_same []
white_end (b ∷ bs) = white_end_one b bs (begins_white (b ∷ bs)) (white_end bs)

symbol_end : (bs : Text) (m : Mark) (r : Text) → symbol_at bs ≡ Some (m, r) → IsSuffixOf bs r
symbol_end [] m r h = cc
symbol_end (b ∷ []) m r h = let two = before_found [] (one_byte b) m r h in subst (IsSuffixOf (b ∷ [])) (sym two.1) (b ∷ [], refl)
symbol_end (b ∷ (c ∷ bs)) m r h = by_test (b == 42 && c == 42) h where
  by_test : (t : Bool) → cond t None (longest (before bs (two_bytes b c)) (before (c ∷ bs) (one_byte b))) ≡ Some (m, r) → IsSuffixOf (b ∷ (c ∷ bs)) r
  by_test true h = cc
  by_test false h = elim (longest_found (before bs (two_bytes b c)) (before (c ∷ bs) (one_byte b)) (m, r) h) [
    | inl k ↦ (let two = before_found bs (two_bytes b c) m r k in subst (IsSuffixOf (b ∷ (c ∷ bs))) (sym two.1) (b ∷ (c ∷ []), refl))
    | inr k ↦ (let two = before_found (c ∷ bs) (one_byte b) m r k in subst (IsSuffixOf (b ∷ (c ∷ bs))) (sym two.1) (b ∷ [], refl))
  ]

mark_end_here : (bs : Text) (m : Mark) (r : Text) → mark_at bs ≡ Some (m, r) → IsSuffixOf bs r
unfolding mark_at
mark_end_here bs m r h = elim (longest_found (before (drop_while is_name bs) (word_mark (take_while is_name bs))) (symbol_at bs) (m, r) h) [
  | inl k ↦ subst (IsSuffixOf bs) (sym (before_found (drop_while is_name bs) (word_mark (take_while is_name bs)) m r k).1) (back_end is_name bs)
  | inr k ↦ symbol_end bs m r k
]

-- what follows the next mark is an end of the text
pub mark_end : (bs : Text) (m : Mark) (r : Text) → mark_at (after_white bs) ≡ Some (m, r) → IsSuffixOf bs r
mark_end bs m r h = end_through bs (after_white bs) r (white_end bs) (mark_end_here (after_white bs) m r h)

row_end : (ts : List (Token Operand)) (bs rest : Text) → AreTokens Operand IsOperand bs rest ts → IsSuffixOf bs rest
row_end [] bs rest h = subst (IsSuffixOf bs) h (end_same bs)
row_end (value o k ∷ ts) bs rest h = end_through bs h.0 rest (end_through bs (after_white bs) h.0 (white_end bs) (operand_end (after_white bs) h.0 o k h.1.1)) (row_end ts h.0 rest h.2)
row_end (mark m ∷ ts) bs rest h = end_through bs h.0 rest (mark_end bs m h.0 h.1) (row_end ts h.0 rest h.2)

-- the rest is an end of the text, and what was read nests no deeper than d
abbrev pub Leaves : ℕ → Text → WithHeight Operand → Text → Type 0
Leaves d bs x rest = IsSuffixOf bs rest × (x.1 ≤ d)

pub prefix_leaves : (d : ℕ) (bs : Text) (x : WithHeight Operand) (rest : Text) → prefix_at operand_at d (below_at operand_at d) bs ≡ Ok (x, rest) → Leaves d bs x rest
prefix_leaves d bs x rest h =
    let t = prefix_sound Operand IsOperand operand_at operand_sound d (below_at operand_at d) (below_sound Operand IsOperand operand_at operand_sound d) bs x rest h in
    (row_end t.tokens bs rest t.are_tokens, t.deep)

pub chain_leaves : (d n : ℕ) (bs : Text) (x : WithHeight Operand) (rest : Text) → chain_at operand_at d (below_at operand_at d) n bs ≡ Ok (x, rest) → Leaves d bs x rest
chain_leaves d n bs x rest h =
    let t = chain_sound Operand IsOperand operand_at operand_sound d (below_at operand_at d) (below_sound Operand IsOperand operand_at operand_sound d) n bs x rest h in
    (row_end t.tokens bs rest t.are_tokens, omega (arith, t.deep))

pub whole_leaves : (d : ℕ) (bs : Text) (x : WithHeight Operand) (rest : Text) → whole_at operand_at d (below_at operand_at d) bs ≡ Ok (x, rest) → Leaves d bs x rest
whole_leaves d bs x rest h =
    let t = whole_sound Operand IsOperand operand_at operand_sound d (below_at operand_at d) (below_sound Operand IsOperand operand_at operand_sound d) bs x rest h in
    (row_end t.tokens bs rest t.are_tokens, omega (arith, t.deep))

pub expect_end : (expected : Mark → Bool) (bs rest : Text) → expect expected bs ≡ Ok rest → IsSuffixOf bs rest
expect_end expected bs rest h = let c = expected_ok expected (length (after_white bs)) (mark_at (after_white bs)) rest h in mark_end bs c.0 rest c.1

-- Right operands

-- what is read behind an operator, whose left operand nests so deep
abbrev pub right_at : ℕ → ℕ → ℕ → Text → Read (WithHeight Operand)
right_at d h n bs = if nat_lt h d then below_at operand_at d (chain n) bs else Err TooDeep

right_is : (d h n : ℕ) (bs : Text) (x : WithHeight Operand) (rest : Text) (t : Bool) → nat_lt h d ≡ t
    → cond t (below_at operand_at d (chain n) bs) (Err TooDeep) ≡ Ok (x, rest) → (h < d) × IsSuffixOf bs rest
    × (x.1 < d)
right_is zero h n bs x rest true t k = absurd (omega (arith, lt_is h 0 t))
right_is (suc d) h n bs x rest true t k =
    let l = chain_leaves d n bs x rest (sym (below_chain operand_at d n bs) ∙ k) in
    (lt_is h (suc d) t, l.0, omega (arith, l.1))
right_is d h n bs x rest false t k = cc

pub right_leaves : (d h n : ℕ) (bs : Text) (x : WithHeight Operand) (rest : Text) → right_at d h n bs ≡ Ok (x, rest) → (h < d) × IsSuffixOf bs rest × (x.1 < d)
right_leaves d h n bs x rest k = right_is d h n bs x rest (nat_lt h d) refl k

-- The loop

pub record ChainSoFar (d n : ℕ) (bs : Text) (x : WithHeight Operand) (rest : Text) : Type 0 where
  pub turns : ℕ
  pub enough : length rest < turns
  pub is : chain_at operand_at d (below_at operand_at d) n bs ≡ climb_at operand_at d (below_at operand_at d) n turns x rest
  pub deep : x.1 ≤ d
  pub end : IsSuffixOf bs rest

pub chain-first : (d n : ℕ) (bs : Text) (x : WithHeight Operand) (rest : Text) → prefix_at operand_at d (below_at operand_at d) bs ≡ Ok (x, rest) → ChainSoFar d n bs x rest
chain-first d n bs x rest h =
    let l = prefix_leaves d bs x rest h in
    record { turns = suc (length rest); enough = omega arith; is = chain_from operand_at d (below_at operand_at d) n bs x rest h; deep = l.1; end = l.0 }

pub chain-starts : (d n : ℕ) (bs : Text) (e : ReadError) → Fails e (prefix_at operand_at d (below_at operand_at d) bs) → Fails e (chain_at operand_at d (below_at operand_at d) n bs)
unfolding chain_at
chain-starts d n bs errors.Memory h = tt
chain-starts d n bs (errors.Fault f) h = ap (λ r. r >>= (λ x. climb_at operand_at d (below_at operand_at d) n (suc (length x.1)) x.0 x.1)) h

pub chain-end : (d n : ℕ) (bs : Text) (x : WithHeight Operand) (rest : Text) → ChainSoFar d n bs x rest → Follows (suc n) rest → chain_at operand_at d (below_at operand_at d) n bs ≡ Ok (x, rest)
chain-end d n bs x rest s f = s.is ∙ climb_stops operand_at d (below_at operand_at d) n s.turns x rest (omega (arith, s.enough)) f

split : (d h n : ℕ) (bs : Text) (more : WithHeight Operand × Text → Read (WithHeight Operand)) (t : Bool)
    → cond t (below_at operand_at d (chain n) bs >>= more) (Err TooDeep) ≡
    (cond t (below_at operand_at d (chain n) bs) (Err TooDeep) >>= more)
split d h n bs more true = refl
split d h n bs more false = refl

turn : (d n : ℕ) (bs : Text) (x : WithHeight Operand) (rest : Text) → ChainSoFar d n bs x rest → (i : Infix) (after : Text) → mark_at (after_white rest) ≡ Some (marks.Infix i, after) → level i ≤ n
    → (turns : ℕ) × (length rest ≤ turns)
    × (chain_at operand_at d (below_at operand_at d) n bs ≡ (right_at d x.1 (level i - 1) after >>= (λ y. climb_at operand_at d (below_at operand_at d) n turns (join i x y.0) y.1)))
turn d n bs x rest s i after found within = go s.turns s.enough s.is where
  go : (turns : ℕ) → length rest < turns → chain_at operand_at d (below_at operand_at d) n bs ≡ climb_at operand_at d (below_at operand_at d) n turns x rest
      → (turns : ℕ) × (length rest ≤ turns)
      × (chain_at operand_at d (below_at operand_at d) n bs ≡ (right_at d x.1 (level i - 1) after >>= (λ y. climb_at operand_at d (below_at operand_at d) n turns (join i x y.0) y.1)))
  go zero enough is = absurd (omega arith)
  go (suc turns) enough is = (
    turns,
    omega arith,
    is ∙ climb_operator operand_at d (below_at operand_at d) n turns x rest i after found within
        ∙ split d x.1 (level i - 1) after (λ y. climb_at operand_at d (below_at operand_at d) n turns (join i x y.0) y.1) (nat_lt x.1 d),
  )

pub chain-fail : (d n : ℕ) (bs : Text) (x : WithHeight Operand) (rest : Text) → ChainSoFar d n bs x rest
    → (i : Infix) (after : Text) → mark_at (after_white rest) ≡ Some (marks.Infix i, after) → level i ≤ n
    → (f : Fault) → right_at d x.1 (level i - 1) after ≡ Err f → chain_at operand_at d (below_at operand_at d) n bs ≡ Err f
chain-fail d n bs x rest s i after found within f h =
    let t = turn d n bs x rest s i after found within in
    t.2 ∙ ap (λ r. r >>= (λ y. climb_at operand_at d (below_at operand_at d) n t.0 (join i x y.0) y.1)) h

pub chain-fails : (d n : ℕ) (bs : Text) (x : WithHeight Operand) (rest : Text) → ChainSoFar d n bs x rest
    → (i : Infix) (after : Text) → mark_at (after_white rest) ≡ Some (marks.Infix i, after) → level i ≤ n
    → (e : ReadError) → Fails e (right_at d x.1 (level i - 1) after) → Fails e (chain_at operand_at d (below_at operand_at d) n bs)
chain-fails d n bs x rest s i after found within errors.Memory h = tt
chain-fails d n bs x rest s i after found within (errors.Fault f) h = chain-fail d n bs x rest s i after found within f h

pub chain-shorter : (d : ℕ) (x : WithHeight Operand) (rest : Text) (i : Infix) (after : Text) → mark_at (after_white rest) ≡ Some (marks.Infix i, after)
    → (y : WithHeight Operand) (end : Text) → right_at d x.1 (level i - 1) after ≡ Ok (y, end) → length end < length rest
chain-shorter d x rest i after found y end h =
    let r = right_leaves d x.1 (level i - 1) after y end h in
    omega (arith, after_white_no_longer rest, mark_shorter (after_white rest) (marks.Infix i) after found, end_no_longer after end r.1)

pub chain-more : (d n : ℕ) (bs : Text) (x : WithHeight Operand) (rest : Text) → ChainSoFar d n bs x rest
    → (i : Infix) (after : Text) → mark_at (after_white rest) ≡ Some (marks.Infix i, after) → level i ≤ n
    → (y : WithHeight Operand) (end : Text) → right_at d x.1 (level i - 1) after ≡ Ok (y, end) → (z : WithHeight Operand) → z ≡ join i x y → ChainSoFar d n bs z end
chain-more d n bs x rest s i after found within y end h z made =
    let t = turn d n bs x rest s i after found within in
    let r = right_leaves d x.1 (level i - 1) after y end h in
    let less = chain-shorter d x rest i after found y end h in
    subst (λ z. ChainSoFar d n bs z end) (sym made) (record {
      turns = t.0;
      enough = omega (arith, t.1);
      is = t.2 ∙ ap (λ r. r >>= (λ y. climb_at operand_at d (below_at operand_at d) n t.0 (join i x y.0) y.1)) h;
      deep = omega (arith, r.0, r.2);
      end = end_through bs rest end s.end (end_through rest after end (mark_end rest (marks.Infix i) after found) r.1);
    })
