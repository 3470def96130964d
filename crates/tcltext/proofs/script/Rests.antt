-- What a reader leaves is an end of its text, and shorter where something was read.
use Rattle.std.proofs.Common.{◌≡◌, ℕ, [], ◌∷◌, Bool, true, false, ◌==◌, Result, Ok, Err, refl, ap, arith}
use Rattle.std.proofs.lemmas.Bool.Decides.{nat_tests}
use Rattle.tcltext.specs.chars.Runs.{Text, begins}
use Rattle.tcltext.specs.chars.Reading.{◌>>=◌, Read, read_map}
use Rattle.tcltext.specs.declared.chars.fault.Fault.{Fault}
use Rattle.tcltext.specs.script.Pieces.{IsSuffixOf}
use Rattle.tcltext.specs.script.Ends.{word_ends}
use Rattle.tcltext.specs.script.Reading.{on_mark, after_closing, require_word_end}
use Rattle.tcltext.proofs.script.Ends.{end_same, end_mark}

-- Readers

-- what follows what was read is such a text
abbrev pub Leaves : {A : Type 0} → (Text → Type 0) → Read A → Type 0
Leaves P (Ok x) = P x.1
Leaves P (Err e) = Unit {0}

abbrev pub LeavesText : (Text → Type 0) → Result Text Fault → Type 0
LeavesText P (Ok rest) = P rest
LeavesText P (Err e) = Unit {0}

pub leaves_map : {A B : Type 0} (P : Text → Type 0) (f : A → B) (r : Read A) → Leaves P r → Leaves P (read_map f r)
leaves_map P f (Ok x) l = l
leaves_map P f (Err e) l = tt

pub leaves_then : {A B : Type 0} (P Q : Text → Type 0) (r : Read A) (f : A × Text → Read B) → Leaves P r → ((x : A) (rest : Text) → P rest → Leaves Q (f (x, rest))) → Leaves Q (r >>= f)
leaves_then P Q (Ok x) f l more = more x.0 x.1 l
leaves_then P Q (Err e) f l more = tt

pub text_then : {B : Type 0} (P Q : Text → Type 0) (r : Result Text Fault) (f : Text → Read B) → LeavesText P r → ((rest : Text) → P rest → Leaves Q (f rest)) → Leaves Q (r >>= f)
text_then P Q (Ok rest) f l more = more rest l
text_then P Q (Err e) f l more = tt

pub at_mark : {A : Type 0} (P : A → Type 0) (mark : ℕ) (bs : Text) (following : Text → A) (other : A)
    → ((rest : Text) → bs ≡ mark ∷ rest → P (following rest)) → (begins mark bs ≡ false → P other) → P (on_mark mark bs following other)
at_mark P mark [] following other here otherwise = otherwise refl
at_mark P mark (b ∷ bs) following other here otherwise = go (b == mark) refl where
  go : (t : Bool) → (b == mark) ≡ t → P (on_mark mark (b ∷ bs) following other)
  go true h = let is : b ≡ mark = grind (arith, nat_tests) in rw h (here bs (ap (λ c. c ∷ bs) is))
  go false h = rw h (otherwise h)

pub closed_leaves : (mark : ℕ) (fault : Fault) (bs : Text) → LeavesText (IsSuffixOf bs) (after_closing mark fault bs)
closed_leaves mark fault bs = at_mark (LeavesText (IsSuffixOf bs)) mark bs (λ rest. Ok rest) (Err fault) (λ rest is. end_mark bs mark rest is) (λ h. tt)

pub ended_leaves : (nested : Bool) (bs : Text) → LeavesText (IsSuffixOf bs) (require_word_end nested bs)
ended_leaves nested bs = go (word_ends nested bs) refl where
  go : (t : Bool) → word_ends nested bs ≡ t → LeavesText (IsSuffixOf bs) (require_word_end nested bs)
  go true h = rw h (end_same bs)
  go false h = rw h tt
