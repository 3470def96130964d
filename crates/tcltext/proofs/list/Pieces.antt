-- Pieces of elements: what is read is in the grammar, and what is in the grammar is read.
use Rattle.std.proofs.Common.{◌≡◌, ℕ, zero, suc, ◌<◌, ◌≤◌, [], ◌∷◌, ◌++◌, length, Bool, true, false, ◌==◌, Option, Some}
use Rattle.std.proofs.Common.{None, Ok, Err, refl, sym, ap, subst, ◌∙◌, arith, append_assoc, ◌⊎◌, inl, inr}
use Rattle.tcltext.specs.chars.Bytes.{backslash, MayBegin}
use Rattle.tcltext.specs.chars.Runs.{Text}
use Rattle.tcltext.specs.chars.Backslash.{after_backslash}
use Rattle.tcltext.specs.chars.Reading.{Read, read_map}
use Rattle.tcltext.specs.declared.chars.fault.Fault.{Fault}
use Rattle.tcltext.specs.declared.chars.fault.Fault.TheVariants as marks
use Rattle.tcltext.specs.list.ListGrammar as grammar
use Rattle.tcltext.specs.list.ListGrammar.{ElementPiece}
use Rattle.tcltext.specs.list.ListFaults.{StandsForNothing}
use Rattle.tcltext.specs.list.ListReading.{escaped_at, piece_on, piece_at, piece_of}
use Rattle.tcltext.proofs.list.Runs.{is_byte}
use Rattle.tcltext.proofs.list.BackslashTaken.{taken_length}

-- a piece that is read ends at what ends it, at the text's end, or with a backslash there
abbrev pub PieceRead : (ℕ → Bool) → Text → Text → Text → Type 0
PieceRead ends bs e rest = (ElementPiece ends bs e rest × MayBegin ends rest) ⊎ ((prefix : Text) × ElementPiece ends bs prefix (backslash ∷ []) × (e ≡ prefix ++ backslash ∷ []) × (rest ≡ []))

-- a piece that is refused comes to a backslash that stands for nothing
abbrev pub PieceRefused : (ℕ → Bool) → Text → Fault → Type 0
PieceRefused ends bs f = (e : Text) × (rest : Text) × ElementPiece ends bs e (backslash ∷ rest) × StandsForNothing rest × (f ≡ marks.BadCharacter (suc (length rest)))

abbrev pub PieceGives : (ℕ → Bool) → Text → Read Text → Type 0
PieceGives ends bs (Ok p) = PieceRead ends bs p.0 p.1
PieceGives ends bs (Err f) = PieceRefused ends bs f

-- what is left of a piece when some of it is read
pub record PieceLeft (ends : ℕ → Bool) (n : ℕ) (bs e rest : Text) : Type 0 where
  pub turns : ℕ
  pub enough : length rest < turns
  pub whole : piece_at ends n bs ≡ read_map (λ t. e ++ t) (piece_at ends turns rest)

pub read_map-none : (r : Read Text) → r ≡ read_map (λ t. [] ++ t) r
read_map-none (Ok p) = refl
read_map-none (Err f) = refl

read_map-cons : (b : ℕ) (e : Text) (r : Read Text) → read_map (λ t. b ∷ t) (read_map (λ t. e ++ t) r) ≡ read_map (λ t. (b ∷ e) ++ t) r
read_map-cons b e (Ok p) = refl
read_map-cons b e (Err f) = refl

pub read_map-append : (v e : Text) (r : Read Text) → read_map (λ t. v ++ t) (read_map (λ t. e ++ t) r) ≡ read_map (λ t. (v ++ e) ++ t) r
read_map-append v e (Ok p) = ap (λ t. Ok (t, p.1)) (sym (append_assoc v e p.0))
read_map-append v e (Err f) = refl

module _ (ends : ℕ → Bool) (backslash_on : ends backslash ≡ false) where
  piece-suc : (n : ℕ) (bs : Text) → piece_at ends (suc n) bs ≡ piece_on ends (piece_at ends n) bs
  unfolding piece_at
  piece-suc n bs = refl

  pub piece-literal : (n b : ℕ) (bs : Text) → ends b ≡ false → (b == backslash) ≡ false → piece_at ends (suc n) (b ∷ bs) ≡ read_map (λ t. b ∷ t) (piece_at ends n bs)
  piece-literal n b bs h k = piece-suc n (b ∷ bs) ∙ rw (h, k) refl

  pub piece-end : (n b : ℕ) (bs : Text) → ends b ≡ true → piece_at ends (suc n) (b ∷ bs) ≡ Ok ([], b ∷ bs)
  piece-end n b bs h = piece-suc n (b ∷ bs) ∙ rw h refl

  pub piece-none : (n : ℕ) → piece_at ends (suc n) [] ≡ Ok ([], [])
  piece-none n = piece-suc n []

  pub piece-backslash : (n : ℕ) (bs : Text) → piece_at ends (suc n) (backslash ∷ bs) ≡ escaped_at (piece_at ends n) bs (after_backslash bs)
  piece-backslash n bs = piece-suc n (backslash ∷ bs) ∙ rw backslash_on refl

  -- a piece is read
  pub piece_left : {bs e rest : Text} → ElementPiece ends bs e rest → (n : ℕ) → length bs < n → PieceLeft ends n bs e rest
  piece_left (grammar.ElementPiece.nothing {rest}) n lt = record { turns = n; enough = lt; whole = read_map-none (piece_at ends n rest) }
  piece_left (grammar.ElementPiece.literal {b} {bs} {ts} {rest} x y m) zero lt = absurd (omega arith)
  piece_left (grammar.ElementPiece.literal {b} {bs} {ts} {rest} x y m) (suc n) lt =
      let more = piece_left m n (omega arith) in
      record {
        turns = more.turns;
        enough = more.enough;
        whole = piece-literal n b bs x y ∙ ap (read_map (λ t. b ∷ t)) more.whole ∙ read_map-cons b ts (piece_at ends more.turns rest);
      }
  piece_left (grammar.ElementPiece.substituted {bs} {ts} {rest} v r e m) zero lt = absurd (omega arith)
  piece_left (grammar.ElementPiece.substituted {bs} {ts} {rest} v r e m) (suc n) lt =
      let more = piece_left m n (omega (arith, taken_length bs v r e)) in
      record {
        turns = more.turns;
        enough = more.enough;
        whole = piece-backslash n bs ∙ ap (escaped_at (piece_at ends n) bs) e ∙ ap (read_map (λ t. v ++ t)) more.whole ∙ read_map-append v ts (piece_at ends more.turns rest);
      }

  -- what is read is a piece
  gives_plain : (b : ℕ) (bs : Text) → ends b ≡ false → (b == backslash) ≡ false → (r : Read Text) → PieceGives ends bs r → PieceGives ends (b ∷ bs) (read_map (λ t. b ∷ t) r)
  gives_plain b bs h k (Ok p) (inl g) = inl (grammar.ElementPiece.literal h k g.0, g.1)
  gives_plain b bs h k (Ok p) (inr g) = inr (b ∷ g.0, grammar.ElementPiece.literal h k g.1, ap (λ t. b ∷ t) g.2, g.3)
  gives_plain b bs h k (Err f) g = (b ∷ g.0, g.1, grammar.ElementPiece.literal h k g.2, g.3, g.4)

  gives_substituted : (bs v q : Text) → after_backslash bs ≡ Some (v, q) → (r : Read Text) → PieceGives ends q r → PieceGives ends (backslash ∷ bs) (read_map (λ t. v ++ t) r)
  gives_substituted bs v q e (Ok p) (inl g) = inl (grammar.ElementPiece.substituted v q e g.0, g.1)
  gives_substituted bs v q e (Ok p) (inr g) = inr (v ++ g.0, grammar.ElementPiece.substituted v q e g.1, ap (λ t. v ++ t) g.2 ∙ sym (append_assoc v g.0 (backslash ∷ [])), g.3)
  gives_substituted bs v q e (Err f) g = (v ++ g.0, g.1, grammar.ElementPiece.substituted v q e g.2, g.3, g.4)

  gives_mark : (more : Text → Read Text) (bs : Text) (found : Option (Text × Text)) → after_backslash bs ≡ found
      → ((q : Text) → length q ≤ length bs → PieceGives ends q (more q))
      → PieceGives ends (backslash ∷ bs) (escaped_at more bs found)
  gives_mark more bs (Some s) e all = gives_substituted bs s.0 s.1 e (more s.1) (all s.1 (taken_length bs s.0 s.1 e))
  gives_mark more [] None e all = inr ([], grammar.ElementPiece.nothing, refl, refl)
  gives_mark more (b ∷ bs) None e all = ([], b ∷ bs, grammar.ElementPiece.nothing, e, refl)

  gives_cases : (more : Text → Read Text) (b : ℕ) (bs : Text) (t u : Bool) → ends b ≡ t → (b == backslash) ≡ u
      → ((q : Text) → length q ≤ length bs → PieceGives ends q (more q))
      → PieceGives ends (b ∷ bs) (piece_on ends more (b ∷ bs))
  gives_cases more b bs true u t' u' all = rw t' (inl (grammar.ElementPiece.nothing, t'))
  gives_cases more b bs false true t' u' all = rw (t', u')
      (subst (λ x. PieceGives ends (x ∷ bs) (escaped_at more bs (after_backslash bs))) (sym (is_byte b backslash u'))
      (gives_mark more bs (after_backslash bs) refl all))
  gives_cases more b bs false false t' u' all = rw (t', u') (gives_plain b bs t' u' (more bs) (all bs (omega arith)))

  gives_on : (more : Text → Read Text) (bs : Text) → ((q : Text) → length q < length bs → PieceGives ends q (more q)) → PieceGives ends bs (piece_on ends more bs)
  gives_on more [] all = inl (grammar.ElementPiece.nothing, tt)
  gives_on more (b ∷ bs) all = gives_cases more b bs (ends b) (b == backslash) refl refl (λ q le. all q (omega arith))

  pub piece_gives : (n : ℕ) (bs : Text) → length bs < n → PieceGives ends bs (piece_at ends n bs)
  piece_gives zero bs lt = absurd (omega arith)
  piece_gives (suc n) bs lt = subst (PieceGives ends bs) (sym (piece-suc n bs)) (gives_on (piece_at ends n) bs (λ q less. piece_gives n q (omega arith)))

  -- what a piece that is read to its end gives
  pub to_end : (bs e rest : Text) (t : Text) (r : Text) → PieceLeft ends (suc (length bs)) bs e rest → ((n : ℕ) → piece_at ends (suc n) rest ≡ Ok (t, r)) → piece_of ends bs ≡ Ok (e ++ t, r)
  unfolding piece_of
  to_end bs e rest t r remaining h = go remaining.turns remaining.enough remaining.whole where
    go : (turns : ℕ) → length rest < turns → piece_at ends (suc (length bs)) bs ≡ read_map (λ t. e ++ t) (piece_at ends turns rest) → piece_at ends (suc (length bs)) bs ≡ Ok (e ++ t, r)
    go zero lt w = absurd (omega arith)
    go (suc n) lt w = w ∙ ap (read_map (λ t. e ++ t)) (h n)
