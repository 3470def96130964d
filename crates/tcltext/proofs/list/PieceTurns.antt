-- The turns of the loop that reads a piece.
use Rattle.std.proofs.Common.{◌≡◌, ℕ, zero, suc, ◌<◌, [], ◌∷◌, ◌++◌, length, Bool, true, false, not, ◌||◌, ◌==◌, Some}
use Rattle.std.proofs.Common.{None, Ok, Err, refl, sym, ap, subst, ◌∙◌, arith, append-nil}
use Rattle.tcltext.specs.chars.Bytes.{backslash, AllPass, MayBegin}
use Rattle.tcltext.specs.chars.Runs.{Text, take_while, drop_while, begins}
use Rattle.tcltext.specs.chars.Backslash.{after_backslash}
use Rattle.tcltext.specs.chars.Reading.{Read, read_map}
use Rattle.tcltext.specs.declared.chars.fault.Fault.TheVariants as marks
use Rattle.tcltext.specs.declared.list.read.End.{End}
use Rattle.tcltext.specs.declared.list.read.End.TheVariants.{Space, Quote}
use Rattle.tcltext.specs.list.ListGrammar as grammar
use Rattle.tcltext.specs.list.ListGrammar.{ElementPiece}
use Rattle.tcltext.specs.list.ListReading.{escaped_at, piece_at, piece_of}
use Rattle.tcltext.specs.list.Ends.{ends_piece, is_literal_before}
use Rattle.tcltext.proofs.list.Runs.{front_back, front_passes, back_fails, back_no_longer}
use Rattle.tcltext.proofs.list.BackslashTaken.{taken_length}
use Rattle.tcltext.proofs.list.Pieces.{piece_left, piece-end, piece-none, piece-backslash, read_map-none, read_map-append}

backslash_off : (end : End) → ends_piece end backslash ≡ false
backslash_off Space = refl
backslash_off Quote = refl

-- what was read so far, and what is read from the rest, are what is read
pub record PieceSoFar (end : End) (bs value rest : Text) : Type 0 where
  pub turns : ℕ
  pub enough : length rest < turns
  pub whole : piece_of (ends_piece end) bs ≡ read_map (λ t. value ++ t) (piece_at (ends_piece end) turns rest)

pub so_far-none : (end : End) (bs : Text) → PieceSoFar end bs [] bs
unfolding piece_of
so_far-none end bs = record { turns = suc (length bs); enough = omega arith; whole = read_map-none (piece_at (ends_piece end) (suc (length bs)) bs) }

plain_parts : (s t : Bool) → not (s || t) ≡ true → (s ≡ false) × (t ≡ false)
plain_parts true t h = cc
plain_parts false true h = cc
plain_parts false false h = (refl, refl)

run_piece : (end : End) (run rest : Text) → AllPass (is_literal_before end) run → ElementPiece (ends_piece end) (run ++ rest) run rest
run_piece end [] rest h = grammar.ElementPiece.nothing
run_piece end (b ∷ run) rest h =
    let two = plain_parts (ends_piece end b) (b == backslash) h.0 in
    grammar.ElementPiece.literal two.0 two.1 (run_piece end run rest h.1)

-- a run in front is read
so_far-run : (end : End) (bs value rest run marked : Text) → run ≡ take_while (is_literal_before end) rest
    → marked ≡ drop_while (is_literal_before end) rest → PieceSoFar end bs value rest
    → PieceSoFar end bs (value ++ run) marked
so_far-run end bs value rest run marked r m s =
    let whole : rest ≡ run ++ marked = front_back (is_literal_before end) rest ∙ ap (λ xs. xs ++ drop_while (is_literal_before end) rest) (sym r) ∙ ap (λ xs. run ++ xs) (sym m) in
    let piece = run_piece end run marked (subst (AllPass (is_literal_before end)) (sym r) (front_passes (is_literal_before end) rest)) in
    let enough = s.enough in
    let remaining = piece_left (ends_piece end) (backslash_off end) piece s.turns (subst (λ (xs : Text). length xs < s.turns) whole enough) in
    record {
      turns = remaining.turns;
      enough = remaining.enough;
      whole = s.whole ∙ ap (λ xs. read_map (λ t. value ++ t) (piece_at (ends_piece end) s.turns xs)) whole
          ∙ ap (read_map (λ t. value ++ t)) remaining.whole ∙ read_map-append value run
          (piece_at (ends_piece end) remaining.turns marked);
    }

-- where a piece goes on with the rest so, so goes the whole
on_rest : (end : End) (bs value rest : Text) (t r : Text) → PieceSoFar end bs value rest
    → ((n : ℕ) → piece_at (ends_piece end) (suc n) rest ≡ Ok (t, r)) → piece_of (ends_piece end) bs ≡ Ok (value ++ t, r)
on_rest end bs value rest t r s h = go s.turns s.enough s.whole where
  go : (turns : ℕ) → length rest < turns → piece_of (ends_piece end) bs ≡ read_map (λ t. value ++ t) (piece_at (ends_piece end) turns rest) → piece_of (ends_piece end) bs ≡ Ok (value ++ t, r)
  go zero lt w = absurd (omega arith)
  go (suc n) lt w = w ∙ ap (read_map (λ t. value ++ t)) (h n)

ends_rest : (end : End) (bs value rest : Text) → MayBegin (ends_piece end) rest → PieceSoFar end bs value rest → piece_of (ends_piece end) bs ≡ Ok (value, rest)
ends_rest end bs value [] h s = on_rest end bs value [] [] [] s (λ n. piece-none (ends_piece end) (backslash_off end) n) ∙ ap (λ t. Ok (t, [])) (append-nil value)
ends_rest end bs value (b ∷ rest) h s = on_rest end bs value (b ∷ rest) [] (b ∷ rest) s (λ n. piece-end (ends_piece end) (backslash_off end) n b rest h) ∙ ap (λ t. Ok (t, b ∷ rest)) (append-nil value)

no_backslash : (end : End) (rest : Text) → MayBegin (λ b. not (is_literal_before end b)) rest → begins backslash rest ≡ false → MayBegin (ends_piece end) rest
no_backslash end [] h k = tt
no_backslash end (b ∷ rest) h k = cases (ends_piece end b) (b == backslash) h k where
  cases : (s t : Bool) → not (not (s || t)) ≡ true → t ≡ false → s ≡ true
  cases true t h k = refl
  cases false true h k = cc
  cases false false h k = cc

pub piece-ends : (end : End) (bs value rest run marked value' : Text) → run ≡ take_while (is_literal_before end) rest
    → marked ≡ drop_while (is_literal_before end) rest → value' ≡ value ++ run → begins backslash marked ≡ false
    → PieceSoFar end bs value rest
    → piece_of (ends_piece end) bs ≡ Ok (value', marked)
piece-ends end bs value rest run marked value' r m v none s =
    ends_rest end bs (value ++ run) marked (no_backslash end marked
    (subst (MayBegin (λ b. not (is_literal_before end b))) (sym m) (back_fails (is_literal_before end) rest)) none)
    (so_far-run end bs value rest run marked r m s)
    ∙ ap (λ t. Ok (t, marked)) (sym v)

at_backslash : (end : End) (bs value rest run marked following : Text) → run ≡ take_while (is_literal_before end) rest
    → marked ≡ drop_while (is_literal_before end) rest → marked ≡ backslash ∷ following → PieceSoFar end bs value rest
    → PieceSoFar end bs (value ++ run) (backslash ∷ following)
at_backslash end bs value rest run marked following r m is s = subst (PieceSoFar end bs (value ++ run)) is (so_far-run end bs value rest run marked r m s)

empty : (bs : Text) → length bs ≡ 0 → bs ≡ []
empty [] h = refl
empty (b ∷ bs) h = absurd (omega arith)

pub piece-last : (end : End) (bs value rest run marked following value' : Text)
    → run ≡ take_while (is_literal_before end) rest → marked ≡ drop_while (is_literal_before end) rest
    → marked ≡ backslash ∷ following → length following ≡ 0
    → value' ≡ (value ++ run) ++ backslash ∷ [] → PieceSoFar end bs value rest → piece_of (ends_piece end) bs ≡ Ok (value', following)
piece-last end bs value rest run marked following value' r m is len v s =
    let none : following ≡ [] = empty following len in
    let here = subst (λ x. PieceSoFar end bs (value ++ run) (backslash ∷ x)) none (at_backslash end bs value rest run marked following r m is s) in
    on_rest end bs (value ++ run) (backslash ∷ []) (backslash ∷ []) [] here (λ n. piece-backslash (ends_piece end) (backslash_off end) n [])
    ∙ ap (λ t. Ok (t, [])) (sym v) ∙ ap (λ t. Ok (value', t)) (sym none)

nothing_mark : (more : Text → Read Text) (rest : Text) → 0 < length rest → after_backslash rest ≡ None → escaped_at more rest (after_backslash rest) ≡ Err (marks.BadCharacter (suc (length rest)))
nothing_mark more [] some h = absurd (omega arith)
nothing_mark more (b ∷ rest) some h = ap (escaped_at more (b ∷ rest)) h

pub piece-bad : (end : End) (bs value rest run marked following : Text) (remaining : ℕ)
    → run ≡ take_while (is_literal_before end) rest → marked ≡ drop_while (is_literal_before end) rest
    → marked ≡ backslash ∷ following → 0 < length following
    → after_backslash following ≡ None → remaining ≡ length marked → PieceSoFar end bs value rest → piece_of (ends_piece end) bs ≡ Err (marks.BadCharacter remaining)
piece-bad end bs value rest run marked following remaining r m is some none l s = go here.turns here.enough here.whole ∙ ap (λ n. Err (marks.BadCharacter n)) (ap length (sym is) ∙ sym l) where
  here : PieceSoFar end bs (value ++ run) (backslash ∷ following)
  here = at_backslash end bs value rest run marked following r m is s

  go : (turns : ℕ) → length (backslash ∷ following) < turns
      → piece_of (ends_piece end) bs ≡ read_map (λ t. (value ++ run) ++ t)
      (piece_at (ends_piece end) turns (backslash ∷ following))
      → piece_of (ends_piece end) bs ≡ Err (marks.BadCharacter (suc (length following)))
  go zero lt w = absurd (omega arith)
  go (suc n) lt w = w ∙ ap (read_map (λ t. (value ++ run) ++ t)) (piece-backslash (ends_piece end) (backslash_off end) n following ∙ nothing_mark (piece_at (ends_piece end) n) following some none)

pub piece-more : (end : End) (bs value rest run marked following v after value' : Text)
    → run ≡ take_while (is_literal_before end) rest → marked ≡ drop_while (is_literal_before end) rest
    → marked ≡ backslash ∷ following → after_backslash following ≡ Some (v, after)
    → value' ≡ (value ++ run) ++ v → PieceSoFar end bs value rest → PieceSoFar end bs value' after
piece-more end bs value rest run marked following v after value' r m is stands made s = go here.turns here.enough here.whole where
  here : PieceSoFar end bs (value ++ run) (backslash ∷ following)
  here = at_backslash end bs value rest run marked following r m is s

  go : (turns : ℕ) → length (backslash ∷ following) < turns
      → piece_of (ends_piece end) bs ≡ read_map (λ t. (value ++ run) ++ t)
      (piece_at (ends_piece end) turns (backslash ∷ following)) → PieceSoFar end bs value' after
  go zero lt w = absurd (omega arith)
  go (suc n) lt w = record {
    turns = n;
    enough = omega (arith, taken_length following v after stands);
    whole =
        w ∙ ap (read_map (λ t. (value ++ run) ++ t)) (piece-backslash (ends_piece end) (backslash_off end) n following ∙ ap (escaped_at (piece_at (ends_piece end) n) following) stands)
        ∙ read_map-append (value ++ run) v (piece_at (ends_piece end) n after) ∙ ap (λ x. read_map (λ t. x ++ t) (piece_at (ends_piece end) n after)) (sym made);
  }

pub piece-shorter : (end : End) (rest marked following v after : Text)
    → marked ≡ drop_while (is_literal_before end) rest → marked ≡ backslash ∷ following
    → after_backslash following ≡ Some (v, after) → length after < length rest
piece-shorter end rest marked following v after m is stands = omega (arith, taken_length following v after stands, ap length m, ap length is, back_no_longer (is_literal_before end) rest)
