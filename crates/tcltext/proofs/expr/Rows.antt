-- Rows of tokens, cut and joined.
use Rattle.std.proofs.Common.{◌≡◌, ◌<◌, ◌≤◌, ℕ, suc, List, [], ◌∷◌, ◌++◌, length, Bool, true, false, cond, ◌||◌, ◌&&◌}
use Rattle.std.proofs.Common.{◌==◌, Option, Some, None, refl, sym, ap, subst, arith, length-append, ◌⊎◌, inl, inr}
use Rattle.tcltext.proofs.expr.Results.{found_once}
use Rattle.tcltext.proofs.expr.Runs.{front_back}
use Rattle.tcltext.specs.chars.Runs.{Text, take_while, drop_while, begins}
use Rattle.tcltext.specs.chars.Bytes.{is_space, newline, backslash}
use Rattle.tcltext.specs.chars.Classes.{is_name}
use Rattle.tcltext.specs.declared.expr.operators.Mark.{Mark}
use Rattle.tcltext.specs.expr.Tree.{Token, value, mark}
use Rattle.tcltext.specs.expr.Marks.{after_white, mark_at, before, longest, symbol_at, word_mark, one_byte, two_bytes}
use Rattle.tcltext.specs.expr.TokenList.{IsToken, AreTokens}

module _ (O : Type 0) (IsOperand : Text → Text → O → ℕ → Type 0) where
  pub row_join : (ts us : List (Token O)) (bs middle rest : Text) → AreTokens O IsOperand bs middle ts → AreTokens O IsOperand middle rest us → AreTokens O IsOperand bs rest (ts ++ us)
  row_join [] us bs middle rest h k = subst (λ ys. AreTokens O IsOperand ys rest us) (sym h) k
  row_join (t ∷ ts) us bs middle rest h k = (h.0, h.1, row_join ts us h.0 middle rest h.2 k)

  pub row_cut : (ts us : List (Token O)) (bs rest : Text) → AreTokens O IsOperand bs rest (ts ++ us) → (middle : Text) × AreTokens O IsOperand bs middle ts × AreTokens O IsOperand middle rest us
  row_cut [] us bs rest h = (bs, refl, h)
  row_cut (t ∷ ts) us bs rest h = let more = row_cut ts us h.0 rest h.2 in (more.0, (h.0, h.1, more.1), more.2)

after_white_one : (bs : Text) (b : ℕ) (t : Bool) → length (after_white bs) ≤ length bs → length (cond t (after_white bs) (b ∷ bs)) ≤ suc (length bs)
after_white_one bs b true h = omega arith
after_white_one bs b false h = omega arith

pub after_white_no_longer : (bs : Text) → length (after_white bs) ≤ length bs
unfolding after_white
after_white_no_longer [] = omega arith
after_white_no_longer (b ∷ bs) = after_white_one bs b (is_space b || (b == backslash && begins newline bs)) (after_white_no_longer bs)

pub before_found : (rest : Text) (found : Option Mark) (m : Mark) (r : Text) → before rest found ≡ Some (m, r) → (found ≡ Some m) × (r ≡ rest)
before_found rest None m r h = cc
before_found rest (Some k) m r h = let two = found_once (Some (k, rest)) k m rest r refl h in (ap (λ m. Some m) two.0, sym two.1)

pub longest_found : (one other : Option (Mark × Text)) (p : Mark × Text) → longest one other ≡ Some p → (one ≡ Some p) ⊎ (other ≡ Some p)
longest_found None other p h = inr h
longest_found (Some q) other p h = inl h

symbol_shorter : (bs : Text) (m : Mark) (r : Text) → symbol_at bs ≡ Some (m, r) → length r < length bs
symbol_shorter [] m r h = cc
symbol_shorter (b ∷ []) m r h = let two = before_found [] (one_byte b) m r h in omega (arith, ap length two.1)
symbol_shorter (b ∷ (c ∷ bs)) m r h = by_test (b == 42 && c == 42) h where
  by_test : (t : Bool) → cond t None (longest (before bs (two_bytes b c)) (before (c ∷ bs) (one_byte b))) ≡ Some (m, r) → length r < suc (suc (length bs))
  by_test true h = cc
  by_test false h = elim (longest_found (before bs (two_bytes b c)) (before (c ∷ bs) (one_byte b)) (m, r) h) [
    | inl k ↦ (let two = before_found bs (two_bytes b c) m r k in let e : length r ≡ length bs = ap length two.1 in omega arith)
    | inr k ↦ (let two = before_found (c ∷ bs) (one_byte b) m r k in let e : length r ≡ suc (length bs) = ap length two.1 in omega arith)
  ]

word_some : (bs : Text) (m : Mark) → word_mark bs ≡ Some m → 0 < length bs
word_some [] m h = cc
word_some (b ∷ bs) m h = omega arith

pub mark_shorter : (bs : Text) (m : Mark) (r : Text) → mark_at bs ≡ Some (m, r) → length r < length bs
unfolding mark_at
mark_shorter bs m r h = elim (longest_found (before (drop_while is_name bs) (word_mark (take_while is_name bs))) (symbol_at bs) (m, r) h) [
  | inl k ↦ (
      let two = before_found (drop_while is_name bs) (word_mark (take_while is_name bs)) m r k in
      let some : 0 < length (take_while is_name bs) = word_some (take_while is_name bs) m two.0 in
      let e : length r ≡ length (drop_while is_name bs) = ap length two.1 in
      let all : length bs ≡ length (take_while is_name bs ++ drop_while is_name bs) = ap length (front_back is_name bs) in
      omega (arith, length-append (take_while is_name bs) (drop_while is_name bs))
      )
  | inr k ↦ symbol_shorter bs m r k
]

module _ (O : Type 0) (IsOperand : Text → Text → O → ℕ → Type 0) (shorter : (bs rest : Text) (o : O) (k : ℕ) → IsOperand bs rest o k → length rest < length bs) where
  pub token_shorter : (t : Token O) (bs rest : Text) → IsToken O IsOperand bs rest t → length rest < length bs
  token_shorter (value o k) bs rest h = omega (arith, after_white_no_longer bs, shorter (after_white bs) rest o k h.1)
  token_shorter (mark m) bs rest h = omega (arith, after_white_no_longer bs, mark_shorter (after_white bs) m rest h)

  pub row_no_longer : (ts : List (Token O)) (bs rest : Text) → AreTokens O IsOperand bs rest ts → length rest ≤ length bs
  row_no_longer [] bs rest h = omega (arith, ap length h)
  row_no_longer (t ∷ ts) bs rest h = omega (arith, token_shorter t bs h.0 h.1, row_no_longer ts h.0 rest h.2)

  pub row_shorter : (t : Token O) (ts : List (Token O)) (bs rest : Text) → AreTokens O IsOperand bs rest (t ∷ ts) → length rest < length bs
  row_shorter t ts bs rest h = omega (arith, token_shorter t bs h.0 h.1, row_no_longer ts h.0 rest h.2)
