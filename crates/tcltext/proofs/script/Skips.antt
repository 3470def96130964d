-- What is skipped, run by run: blanks, gaps and comments.
use Rattle.std.proofs.Common.{◌≡◌, ℕ, ◌+◌, ◌<◌, ◌≤◌, [], ◌∷◌, length, get_or, drop, Bool, true, false, ◌&&◌, ◌==◌, not}
use Rattle.std.proofs.Common.{refl, sym, ap, ◌∙◌, arith}
use Rattle.std.proofs.lemmas.List.{drop_more}
use Rattle.std.proofs.lemmas.Bool.Decides.{nat_tests}
use Rattle.std.proofs.Math.ListN.{drop_of_length-le}
use Rattle.tcltext.specs.chars.Bytes.{newline, hash, backslash, is_blank, is_gap}
use Rattle.tcltext.specs.chars.Runs.{Text, drop_while, begins}
use Rattle.tcltext.specs.chars.Classes.{begins_in}
use Rattle.tcltext.proofs.chars.RunLemmas.{drop_while-cons_true, drop_while-cons_false}
use Rattle.tcltext.specs.script.ScanState.{ScanState, Blanks, AwaitsNewline, Gap, Comment, Escaped, scan, skip_blanks}
use Rattle.tcltext.specs.script.ScanState.{skip_gap, joins_lines}
use Rattle.tcltext.proofs.script.PassedOver.{rest_of, rest-on, scan-nil, is_byte, blank_step, gap_step, newline_step}
use Rattle.tcltext.proofs.script.PassedOver.{escape_step, comment_step, blanks_stay, gap_stay}

-- no byte of a run follows it
pub run_stops : (p : ℕ → Bool) (bs : Text) → begins_in p (drop_while p bs) ≡ false
run_stops p [] = refl
run_stops p (b ∷ bs) = go (run_stops p bs) (p b) refl where
  go : begins_in p (drop_while p bs) ≡ false → (t : Bool) → p b ≡ t → begins_in p (drop_while p (b ∷ bs)) ≡ false
  go more true h = ap (begins_in p) (drop_while-cons_true p b bs h) ∙ more
  go more false h = ap (begins_in p) (drop_while-cons_false p b bs h) ∙ h

-- Blanks

pub blanks_run : (bs : Text) → skip_blanks bs ≡ skip_blanks (drop_while is_blank bs)
blanks_run [] = refl
blanks_run (b ∷ bs) = go (blanks_run bs) (is_blank b) refl where
  go : skip_blanks bs ≡ skip_blanks (drop_while is_blank bs) → (t : Bool) → is_blank b ≡ t → skip_blanks (b ∷ bs) ≡ skip_blanks (drop_while is_blank (b ∷ bs))
  go more true h = rest-on Blanks Blanks b bs (blank_step b bs h) ∙ more ∙ ap skip_blanks (sym (drop_while-cons_true is_blank b bs h))
  go more false h = ap skip_blanks (sym (drop_while-cons_false is_blank b bs h))

pub blanks_joined : (bs rest : Text) → bs ≡ backslash ∷ (newline ∷ rest) → skip_blanks bs ≡ skip_blanks rest
blanks_joined bs rest h = ap skip_blanks h ∙ rest-on Blanks AwaitsNewline backslash (newline ∷ rest) refl ∙ rest-on AwaitsNewline Blanks newline rest refl

pub blanks_end : (bs : Text) → begins_in is_blank bs ≡ false → joins_lines bs ≡ false → bs ≡ skip_blanks bs
blanks_end [] h k = sym (blanks_stay [] tt)
blanks_end (b ∷ bs) h k = sym (blanks_stay (b ∷ bs) (h, k))

-- Gaps

pub gap_run : (bs : Text) → skip_gap bs ≡ skip_gap (drop_while is_gap bs)
gap_run [] = refl
gap_run (b ∷ bs) = go (gap_run bs) (is_gap b) refl where
  go : skip_gap bs ≡ skip_gap (drop_while is_gap bs) → (t : Bool) → is_gap b ≡ t → skip_gap (b ∷ bs) ≡ skip_gap (drop_while is_gap (b ∷ bs))
  go more true h = rest-on Gap Gap b bs (gap_step b bs (rw h refl)) ∙ more ∙ ap skip_gap (sym (drop_while-cons_true is_gap b bs h))
  go more false h = ap skip_gap (sym (drop_while-cons_false is_gap b bs h))

pub gap_joined : (bs rest : Text) → bs ≡ backslash ∷ (newline ∷ rest) → skip_gap bs ≡ skip_gap rest
gap_joined bs rest h = ap skip_gap h ∙ rest-on Gap Gap backslash (newline ∷ rest) refl ∙ rest-on Gap Gap newline rest refl

pub gap_comment : (bs rest : Text) → bs ≡ hash ∷ rest → skip_gap bs ≡ (scan Comment rest).1
gap_comment bs rest h = ap skip_gap h ∙ rest-on Gap Comment hash rest refl

pub gap_end : (bs : Text) → begins_in is_gap bs ≡ false → begins hash bs ≡ false → joins_lines bs ≡ false → bs ≡ skip_gap bs
gap_end [] h c k = sym (gap_stay [] tt)
gap_end (b ∷ bs) h c k = sym (gap_stay (b ∷ bs) (rw (h, k) refl, c))

-- Comments

-- the state of the loop
abbrev pub comment_state : Bool → ScanState
comment_state true = Escaped
comment_state false = Comment

abbrev pub Commented : Text → Bool → ℕ → Type 0
Commented bs escaped n = (scan Comment bs).1 ≡ (scan (comment_state escaped) (drop n bs)).1

comment_more : (b : ℕ) (bs : Text) (escaped : Bool) → (b == newline && not escaped) ≡ false → (scan (comment_state escaped) (b ∷ bs)).1 ≡ (scan (comment_state (b == backslash && not escaped)) bs).1
comment_more b bs escaped h = go escaped (b == newline) (b == backslash) refl refl h where
  go : (escaped t u : Bool) → (b == newline) ≡ t → (b == backslash) ≡ u → (b == newline && not escaped) ≡ false
      → (scan (comment_state escaped) (b ∷ bs)).1 ≡ (scan (comment_state (b == backslash && not escaped)) bs).1
  go true t true k l h = rw l (rest-on Escaped Comment b bs refl)
  go true t false k l h = rw l (rest-on Escaped Comment b bs refl)
  go false true u k l h = let e : true ≡ false = rw k at h in cc
  go false false true k l h = rw l (rest-on Comment Escaped b bs (escape_step b bs k l))
  go false false false k l h = rw l (rest-on Comment Comment b bs (comment_step b bs k l))

comment_end : (b : ℕ) (bs : Text) (escaped : Bool) → (b == newline && not escaped) ≡ true → (scan (comment_state escaped) (b ∷ bs)).1 ≡ skip_gap (b ∷ bs)
comment_end b bs escaped h = go escaped (b == newline) refl h where
  go : (escaped t : Bool) → (b == newline) ≡ t → (b == newline && not escaped) ≡ true → (scan (comment_state escaped) (b ∷ bs)).1 ≡ skip_gap (b ∷ bs)
  go true true k h = let e : false ≡ true = rw k at h in cc
  go true false k h = let e : false ≡ true = rw k at h in cc
  go false false k h = let e : false ≡ true = rw k at h in cc
  go false true k h = rest-on Comment Gap b bs (newline_step b bs k) ∙ sym (ap (λ c. skip_gap (c ∷ bs)) (is_byte b newline k) ∙ rest-on Gap Gap newline bs refl)

pub ends_small : (b : ℕ) (escaped : Bool) → (b == newline && not escaped) ≡ true → b < 128
ends_small b true h = grind (arith, nat_tests)
ends_small b false h = grind (arith, nat_tests)

pub commented-more : (bs : Text) (escaped : Bool) (n : ℕ) → n < length bs
    → (get_or bs n 0 == newline && not escaped) ≡ false → Commented bs escaped n
    → Commented bs (get_or bs n 0 == backslash && not escaped) (n + 1)
commented-more bs escaped n less h so = so ∙ ap (rest_of (comment_state escaped)) (drop_more bs n 0 less) ∙ comment_more (get_or bs n 0) (drop (n + 1) bs) escaped h

pub commented-stop : (bs : Text) (escaped : Bool) (n : ℕ) → n < length bs → (get_or bs n 0 == newline && not escaped) ≡ true → Commented bs escaped n → (scan Comment bs).1 ≡ skip_gap (drop n bs)
commented-stop bs escaped n less h so =
    let here = drop_more bs n 0 less in
    so ∙ ap (rest_of (comment_state escaped)) here ∙ comment_end (get_or bs n 0) (drop (n + 1) bs) escaped h ∙ ap skip_gap (sym here)

pub commented-all : (bs : Text) (escaped : Bool) (n : ℕ) → length bs ≤ n → Commented bs escaped n → (scan Comment bs).1 ≡ skip_gap (drop n bs)
commented-all bs escaped n h so =
    let none : drop n bs ≡ [] = drop_of_length-le bs h in
    so ∙ ap (rest_of (comment_state escaped)) none ∙ ap (λ (p : Text × Text). p.1) (scan-nil (comment_state escaped) ∙ sym (scan-nil Gap)) ∙ ap skip_gap (sym none)
