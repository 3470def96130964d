-- What is passed over, and what follows it.
use Rattle.std.proofs.Common.{◌≡◌, ℕ, [], ◌∷◌, ◌++◌, Bool, true, false, ◌||◌, ◌&&◌, ◌==◌, Option, Some, None, refl, ap}
use Rattle.tcltext.specs.chars.Bytes.{newline, hash, backslash, is_gap, is_blank}
use Rattle.tcltext.specs.chars.Runs.{Text, begins}
use Rattle.tcltext.specs.script.ScanState.{ScanState, Blanks, AwaitsNewline, Gap, Comment, Escaped, Name, Colons, step}
use Rattle.tcltext.specs.script.ScanState.{step_blanks, step_newline, step_gap, step_comment, scan, scan_on, skip_blanks}
use Rattle.tcltext.specs.script.ScanState.{skip_gap}
use Rattle.tcltext.specs.script.Pieces.{IsSuffixOf, IsPrefixOf}

pub scan-nil : (state : ScanState) → scan state [] ≡ ([], [])
unfolding scan
scan-nil state = refl

pub scan-cons : (state : ScanState) (b : ℕ) (bs : Text) → scan state (b ∷ bs) ≡ scan_on b bs (λ next. scan next bs) (step state b bs)
unfolding scan
scan-cons state b bs = refl

pub pass_whole : (state : ScanState) (bs : Text) → bs ≡ (scan state bs).0 ++ (scan state bs).1
unfolding scan
pass_whole state [] = refl
pass_whole state (b ∷ bs) = go (λ next. pass_whole next bs) (step state b bs) where
  go : ((next : ScanState) → bs ≡ (scan next bs).0 ++ (scan next bs).1) → (next : Option ScanState)
      → b ∷ bs ≡ (scan_on b bs (λ next. scan next bs) next).0 ++ (scan_on b bs (λ next. scan next bs) next).1
  go more None = refl
  go more (Some next) = ap (λ xs. b ∷ xs) (more next)

pub pass_end : (state : ScanState) (bs : Text) → IsSuffixOf bs (scan state bs).1
pass_end state bs = ((scan state bs).0, pass_whole state bs)

pub pass_front : (state : ScanState) (bs : Text) → IsPrefixOf bs (scan state bs).0
pass_front state bs = ((scan state bs).1, pass_whole state bs)

-- no blank follows blanks
abbrev pub StopsBlanks : Text → Type 0
StopsBlanks [] = Unit {0}
StopsBlanks (b ∷ bs) = step_blanks b bs ≡ None

abbrev BothStop : Text → Type 0
BothStop bs = StopsBlanks (scan Blanks bs).1 × (begins newline bs ≡ true → StopsBlanks (scan AwaitsNewline bs).1)

both_stop : (bs : Text) → BothStop bs
unfolding scan
both_stop [] = (tt, λ h. tt)
both_stop (b ∷ bs) = (go (both_stop bs) (is_blank b) (b == backslash) (begins newline bs) refl refl refl, joined (both_stop bs)) where
  go : BothStop bs → (t u v : Bool) → is_blank b ≡ t → (b == backslash) ≡ u → begins newline bs ≡ v → StopsBlanks (scan_on b bs (λ next. scan next bs) (step_blanks b bs)).1
  go more true u v h k l = rw h more.0
  go more false true true h k l = rw (h, k, l) (more.1 l)
  go more false true false h k l = rw (h, k, l) (rw (h, k, l) refl)
  go more false false v h k l = rw (h, k) (rw (h, k) refl)

  joined : BothStop bs → (b == newline) ≡ true → StopsBlanks (scan_on b bs (λ next. scan next bs) (step_newline b)).1
  joined more h = rw h more.0

pub blanks_stop : (bs : Text) → StopsBlanks (skip_blanks bs)
blanks_stop bs = (both_stop bs).0

-- no gap follows a gap
abbrev pub StopsGap : Text → Type 0
StopsGap [] = Unit {0}
StopsGap (b ∷ bs) = step_gap b bs ≡ None

-- what is read over a gap and its comments
abbrev InGap : ScanState → Type 0
InGap Blanks = ⊥
InGap AwaitsNewline = ⊥
InGap Gap = Unit {0}
InGap Comment = Unit {0}
InGap Escaped = Unit {0}
InGap Name = ⊥
InGap Colons = ⊥

gap_on : (state : ScanState) (bs : Text) → InGap state → StopsGap (scan state bs).1
unfolding scan
gap_on Blanks bs h = elim h [ ]
gap_on AwaitsNewline bs h = elim h [ ]
gap_on Name bs h = elim h [ ]
gap_on Colons bs h = elim h [ ]
gap_on Gap [] h = tt
gap_on Comment [] h = tt
gap_on Escaped [] h = tt
gap_on Gap (b ∷ bs) h = go (λ next. gap_on next bs) (is_gap b || (b == backslash && begins newline bs)) (b == hash) refl refl where
  go : ((next : ScanState) → InGap next → StopsGap (scan next bs).1) → (t u : Bool) → (is_gap b || (b == backslash && begins newline bs)) ≡ t → (b == hash) ≡ u
      → StopsGap (scan_on b bs (λ next. scan next bs) (step_gap b bs)).1
  go more true u k l = rw k (more Gap tt)
  go more false true k l = rw (k, l) (more Comment tt)
  go more false false k l = rw (k, l) (rw (k, l) refl)
gap_on Comment (b ∷ bs) h = go (λ next. gap_on next bs) (b == newline) (b == backslash) refl refl where
  go : ((next : ScanState) → InGap next → StopsGap (scan next bs).1) → (t u : Bool) → (b == newline) ≡ t → (b == backslash) ≡ u → StopsGap (scan (step_comment b) bs).1
  go more true u k l = rw k (more Gap tt)
  go more false true k l = rw (k, l) (more Escaped tt)
  go more false false k l = rw (k, l) (more Comment tt)
gap_on Escaped (b ∷ bs) h = gap_on Comment bs tt

pub gap_stop : (bs : Text) → StopsGap (skip_gap bs)
gap_stop bs = gap_on Gap bs tt
