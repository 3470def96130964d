-- Where a command or a script goes on, a word is there.
use Rattle.std.proofs.Common.{◌≡◌, ℕ, [], ◌∷◌, Bool, true, false, ◌||◌, ◌&&◌, ◌==◌, Some, None, refl}
use Rattle.tcltext.specs.chars.Bytes.{newline, backslash, is_gap, is_blank, is_end}
use Rattle.tcltext.specs.chars.Runs.{Text, begins}
use Rattle.tcltext.specs.script.Ends.{script_ends, command_ends, word_ends}
use Rattle.tcltext.specs.script.ScanState.{step_blanks, step_gap, skip_blanks, skip_gap, Blanks, AwaitsNewline, Gap}
use Rattle.tcltext.proofs.script.Passes.{StopsBlanks, StopsGap, blanks_stop, gap_stop}

neither : (t u : Bool) → (t || u) ≡ false → (t ≡ false) × (u ≡ false)
neither true u h = cc
neither false u h = (refl, h)

word_goes : (nested : Bool) (b : ℕ) (bs : Text) → is_gap b ≡ false → (nested && b == 93) ≡ false → (b == backslash && begins newline bs) ≡ false → word_ends nested (b ∷ bs) ≡ false
word_goes nested b bs h k l = rw (h, k, l) refl

none_some : {A : Type 0} (x : A) → Some x ≡ None → ⊥
none_some x h = cc

blank_tests : (b : ℕ) (bs : Text) → step_blanks b bs ≡ None → (is_blank b ≡ false) × ((b == backslash && begins newline bs) ≡ false)
blank_tests b bs h = go (is_blank b) (b == backslash && begins newline bs) refl refl where
  go : (t u : Bool) → is_blank b ≡ t → (b == backslash && begins newline bs) ≡ u → (is_blank b ≡ false) × ((b == backslash && begins newline bs) ≡ false)
  go true u k l = absurd (none_some Blanks (rw k at h))
  go false true k l = absurd (none_some AwaitsNewline (rw (k, l) at h))
  go false false k l = (k, l)

gap_tests : (b : ℕ) (bs : Text) → step_gap b bs ≡ None → (is_gap b || (b == backslash && begins newline bs)) ≡ false
gap_tests b bs h = go (is_gap b || (b == backslash && begins newline bs)) refl where
  go : (t : Bool) → (is_gap b || (b == backslash && begins newline bs)) ≡ t → (is_gap b || (b == backslash && begins newline bs)) ≡ false
  go true k = absurd (none_some Gap (rw k at h))
  go false k = k

command_goes : (nested : Bool) (bs : Text) → StopsBlanks bs → command_ends nested bs ≡ false → word_ends nested bs ≡ false
command_goes nested [] s h = h
command_goes nested (b ∷ bs) s h =
    let tests = blank_tests b bs s in
    let ends = neither (is_end b) (nested && b == 93) h in
    word_goes nested b bs (rw (tests.0, ends.0) refl) ends.1 tests.1

script_goes : (nested : Bool) (bs : Text) → StopsGap bs → script_ends nested bs ≡ false → word_ends nested bs ≡ false
script_goes nested [] s h = h
script_goes nested (b ∷ bs) s h =
    let tests = neither (is_gap b) (b == backslash && begins newline bs) (gap_tests b bs s) in
    word_goes nested b bs tests.0 h tests.1

-- behind blanks, where a command doesn't end, no word ends
pub word_follows : (nested : Bool) (bs : Text) → command_ends nested (skip_blanks bs) ≡ false → word_ends nested (skip_blanks bs) ≡ false
word_follows nested bs h = command_goes nested (skip_blanks bs) (blanks_stop bs) h

-- behind a gap, where a script doesn't end, no word ends
pub command_follows : (nested : Bool) (bs : Text) → script_ends nested (skip_gap bs) ≡ false → word_ends nested (skip_gap bs) ≡ false
command_follows nested bs h = script_goes nested (skip_gap bs) (gap_stop bs) h
