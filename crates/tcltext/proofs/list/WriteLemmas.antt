-- Writing lists.
use Rattle.std.proofs.Common.{◌≡◌, ℕ, ◌<◌, [], ◌∷◌, ◌++◌, length, Bool, true, false, not, ◌==◌, flat_map, refl, sym, ap}
use Rattle.std.proofs.Common.{subst, ◌∙◌, arith, append_assoc, append-nil}
use Rattle.std.proofs.lemmas.Bool.Decides.{nat_tests}
use Rattle.tcltext.specs.chars.Bytes.{is_literal, AllPass, MayBegin}
use Rattle.tcltext.specs.chars.Runs.{Text, take_while, drop_while}
use Rattle.tcltext.specs.list.Lists.{needs_escape, begins_needing_escape, letter_of, escape}
use Rattle.tcltext.proofs.list.Runs.{front_back, front_passes, back_fails, back_no_longer}
use Rattle.std.specs.List.{list_all}
use Rattle.tcltext.proofs.chars.RunLemmas.{drop_while-cons_true, drop_while-cons_false}

pub marked_ascii : (b : ℕ) → needs_escape b ≡ true → b < 128
marked_ascii b h = grind (arith, nat_tests)

pub letter_ascii : (b : ℕ) → needs_escape b ≡ true → letter_of b < 128
letter_ascii b h = let small = marked_ascii b h in grind (arith, nat_tests)

plain_escape : (b : ℕ) → is_literal b ≡ true → escape b ≡ b ∷ []
plain_escape b h = let t : needs_escape b ≡ false = unmarked (needs_escape b) h in rw t refl where
  unmarked : (t : Bool) → not t ≡ true → t ≡ false
  unmarked true h = cc
  unmarked false h = refl

marked_escape : (b : ℕ) → needs_escape b ≡ true → escape b ≡ 92 ∷ (letter_of b ∷ [])
marked_escape b h = rw h refl

escape-cons : (b : ℕ) (bs : Text) → flat_map escape (b ∷ bs) ≡ escape b ++ flat_map escape bs
escape-cons b bs = refl

run_escapes : (run bs : Text) → AllPass is_literal run → flat_map escape (run ++ bs) ≡ run ++ flat_map escape bs
run_escapes [] bs h = refl
run_escapes (b ∷ run) bs h = ap (λ xs. xs ++ flat_map escape (run ++ bs)) (plain_escape b h.0) ∙ ap (λ xs. b ∷ xs) (run_escapes run bs h.1)

unmarked_end : (bs : Text) → begins_needing_escape bs ≡ false → MayBegin (λ b. not (is_literal b)) bs → bs ≡ []
unmarked_end [] h k = refl
unmarked_end (b ∷ bs) h k = absurd (both (needs_escape b) h k) where
  both : (t : Bool) → t ≡ false → not (not t) ≡ true → ⊥
  both true h k = cc
  both false h k = cc

pub escapes-end : (old new run rest marked all : Text) → run ≡ take_while is_literal rest
    → marked ≡ drop_while is_literal rest → begins_needing_escape marked ≡ false → new ≡ old ++ run → old
    ++ flat_map escape rest ≡ all → new ≡ all
escapes-end old new run rest marked all r m none n so =
    let ends : drop_while is_literal rest ≡ [] = unmarked_end (drop_while is_literal rest) (subst (λ ys. begins_needing_escape ys ≡ false) m none) (back_fails is_literal rest) in
    let whole : flat_map escape rest ≡ take_while is_literal rest = ap (flat_map escape) (front_back is_literal rest)
    ∙ run_escapes (take_while is_literal rest) (drop_while is_literal rest) (front_passes is_literal rest)
    ∙ ap (λ ys. take_while is_literal rest ++ flat_map escape ys) ends ∙ append-nil (take_while is_literal rest) in
    n ∙ ap (λ ys. old ++ ys) (r ∙ sym whole) ∙ so

pub escapes-more : (old new run rest marked after all : Text) (b : ℕ) → run ≡ take_while is_literal rest
    → marked ≡ drop_while is_literal rest → marked ≡ b ∷ after → needs_escape b ≡ true → new ≡ ((old ++ run) ++ 92 ∷ [])
    ++ letter_of b ∷ []
    → old ++ flat_map escape rest ≡ all → new ++ flat_map escape after ≡ all
escapes-more old new run rest marked after all b r m e h n so =
    let whole : flat_map escape rest ≡ run ++ (92 ∷ (letter_of b ∷ flat_map escape after)) =
    ap (flat_map escape) (front_back is_literal rest) ∙ run_escapes (take_while is_literal rest) (drop_while is_literal rest) (front_passes is_literal rest)
    ∙ ap (λ ys. take_while is_literal rest ++ flat_map escape ys) (sym m ∙ e)
    ∙ ap (λ ys. take_while is_literal rest ++ (ys ++ flat_map escape after)) (marked_escape b h)
    ∙ ap (λ ys. ys ++ (92 ∷ (letter_of b ∷ flat_map escape after))) (sym r)
    in
    ap (λ ys. ys ++ flat_map escape after) n ∙ simp append_assoc (sym (ap (λ ys. old ++ ys) whole)) ∙ so

pub escapes-shorter : (rest marked after : Text) (b : ℕ) → marked ≡ drop_while is_literal rest → marked ≡ b ∷ after → length after < length rest
escapes-shorter rest marked after b m e = omega (arith, back_no_longer is_literal rest, ap length m, ap length e)

no_more-cons : (p : ℕ → Bool) (b : ℕ) (bs : Text) (t : Bool) → p b ≡ t → (length (drop_while p bs) == 0) ≡ list_all p bs → (length (drop_while p (b ∷ bs)) == 0) ≡ list_all p (b ∷ bs)
no_more-cons p b bs true t so = rw (drop_while-cons_true p b bs t, t) so
no_more-cons p b bs false t so = rw (drop_while-cons_false p b bs t, t) (grind (arith, nat_tests))

-- all pass where nothing follows the run
pub no_more : (p : ℕ → Bool) (bs : Text) → (length (drop_while p bs) == 0) ≡ list_all p bs
no_more p [] = refl
no_more p (b ∷ bs) = no_more-cons p b bs (p b) refl (no_more p bs)
