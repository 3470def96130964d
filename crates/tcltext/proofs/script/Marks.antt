-- Marks, runs of bytes, and the ends of what the grammar has.
use Rattle.std.proofs.Common.{◌≡◌, ℕ, [], ◌∷◌, ◌++◌, length, Bool, true, false, not, ◌==◌, Result, Ok, Err, refl, sym}
use Rattle.std.proofs.Common.{ap, ◌∙◌, arith, ◌⊎◌, inl, inr}
use Rattle.std.proofs.lemmas.Bool.Decides.{nat_tests}
use Rattle.tcltext.specs.chars.Runs.{Text, take_while, drop_while}
use Rattle.tcltext.specs.chars.Bytes.{AllPass, MayBegin}
use Rattle.tcltext.specs.declared.chars.fault.Fault.{Fault}
use Rattle.tcltext.specs.script.Reading.{on_mark, after_closing, require_word_end}
use Rattle.tcltext.specs.script.Ends.{ends_at, word_ends}
use Rattle.tcltext.specs.declared.chars.fault.Fault.TheVariants.{JoinedToClose}

pub true_false : false ≡ true → ⊥
true_false h = cc

pub not_true : (b : Bool) → not b ≡ true → b ≡ false
not_true true h = cc
not_true false h = refl

-- whether a text begins with the mark
abbrev pub Without : ℕ → Text → Type 0
Without mark bs = MayBegin (λ b. not (b == mark)) bs

byte_at : (mark b : ℕ) (bs : Text) (t : Bool) → (b == mark) ≡ t → ((rest : Text) × (b ∷ bs ≡ mark ∷ rest)) ⊎ Without mark (b ∷ bs)
byte_at mark b bs true h = inl (bs, ap (λ x. x ∷ bs) (is_byte b mark h)) where
  is_byte : (b c : ℕ) → (b == c) ≡ true → b ≡ c
  is_byte b c h = grind (arith, nat_tests)
byte_at mark b bs false h = inr (ap not h)

pub mark_or_none : (mark : ℕ) (bs : Text) → ((rest : Text) × (bs ≡ mark ∷ rest)) ⊎ Without mark bs
mark_or_none mark [] = inr tt
mark_or_none mark (b ∷ bs) = byte_at mark b bs (b == mark) refl

same_byte : (b : ℕ) → (b == b) ≡ true
same_byte b = grind (arith, nat_tests)

pub on_mark-at : {A : Type 0} (mark : ℕ) (bs rest : Text) (f : Text → A) (other : A) → bs ≡ mark ∷ rest → on_mark mark bs f other ≡ f rest
on_mark-at mark bs rest f other h = ap (λ xs. on_mark mark xs f other) h ∙ rw (same_byte mark) refl

pub on_mark-not : {A : Type 0} (mark : ℕ) (bs : Text) (f : Text → A) (other : A) → Without mark bs → on_mark mark bs f other ≡ other
on_mark-not mark [] f other h = refl
on_mark-not mark (b ∷ bs) f other h = rw (not_true (b == mark) h) refl

pub closed_ok : (mark : ℕ) (fault : Fault) (bs rest : Text) → after_closing mark fault bs ≡ Ok rest → bs ≡ mark ∷ rest
closed_ok mark fault bs rest h = elim (mark_or_none mark bs) [
  | inl k ↦ (
      let e : (let ok : Result Text Fault = Ok k.0 in ok) ≡ Ok rest = sym (on_mark-at mark bs k.0 (λ rest. Ok rest) (Err fault) k.1) ∙ h in
      let same : k.0 ≡ rest = cc in
      k.1 ∙ ap (λ xs. mark ∷ xs) same
      )
  | inr k ↦ (
      let e : (let err : Result Text Fault = Err fault in err) ≡ Ok rest = sym (on_mark-not mark bs (λ rest. Ok rest) (Err fault) k) ∙ h in
      absurd (apart e)
      )
] where
  apart : (let err : Result Text Fault = Err fault in err) ≡ Ok rest → ⊥
  apart e = cc

pub closed_err : (mark : ℕ) (fault : Fault) (bs : Text) (f : Fault) → after_closing mark fault bs ≡ Err f → (fault ≡ f) × Without mark bs
closed_err mark fault bs f h = elim (mark_or_none mark bs) [
  | inl k ↦ absurd (apart k.0 (sym (on_mark-at mark bs k.0 (λ rest. Ok rest) (Err fault) k.1) ∙ h))
  | inr k ↦ (
      let e : (let err : Result Text Fault = Err fault in err) ≡ Err f = sym (on_mark-not mark bs (λ rest. Ok rest) (Err fault) k) ∙ h in
      (same e, k)
      )
] where
  apart : (rest : Text) → (let ok : Result Text Fault = Ok rest in ok) ≡ Err f → ⊥
  apart rest e = cc

  same : (let err : Result Text Fault = Err fault in err) ≡ Err f → fault ≡ f
  same e = cc

pub after_closing-at : (mark : ℕ) (fault : Fault) (rest : Text) → after_closing mark fault (mark ∷ rest) ≡ Ok rest
after_closing-at mark fault rest = on_mark-at mark (mark ∷ rest) rest (λ rest. Ok rest) (Err fault) refl

-- what stands before a mark, or nothing
pub none_before : (mark : ℕ) (bs : Text) → ends_at mark bs ≡ true → Without mark bs → bs ≡ []
none_before mark [] h k = refl
none_before mark (b ∷ bs) h k = absurd (true_false (sym (not_true (b == mark) k) ∙ h))

-- where a word ends
abbrev ended_by : Bool → Text → Result Text Fault
ended_by t bs = elim t as (λ t. Result Text Fault) [ true ↦ Ok bs | false ↦ Err (JoinedToClose (length bs)) ]

ended_cases : (nested : Bool) (bs : Text) (t : Bool) → word_ends nested bs ≡ t → (t ≡ true)
    × (require_word_end nested bs ≡ Ok bs) ⊎ (t ≡ false)
    × (require_word_end nested bs ≡ Err (JoinedToClose (length bs)))
ended_cases nested bs true h = inl (refl, rw h refl)
ended_cases nested bs false h = inr (refl, rw h refl)

pub ended_ok : (nested : Bool) (bs rest : Text) → require_word_end nested bs ≡ Ok rest → (bs ≡ rest) × (word_ends nested bs ≡ true)
ended_ok nested bs rest h = elim (ended_cases nested bs (word_ends nested bs) refl) [
  | inl k ↦ (same (sym k.1 ∙ h), k.0)
  | inr k ↦ absurd (apart (sym k.1 ∙ h))
] where
  same : (let ok : Result Text Fault = Ok bs in ok) ≡ Ok rest → bs ≡ rest
  same e = cc

  apart : (let err : Result Text Fault = Err (JoinedToClose (length bs)) in err) ≡ Ok rest → ⊥
  apart e = cc

pub ended_err : (nested : Bool) (bs : Text) (f : Fault) → require_word_end nested bs ≡ Err f → (JoinedToClose (length bs) ≡ f) × (word_ends nested bs ≡ false)
ended_err nested bs f h = elim (ended_cases nested bs (word_ends nested bs) refl) [
  | inl k ↦ absurd (apart (sym k.1 ∙ h))
  | inr k ↦ (same (sym k.1 ∙ h), k.0)
] where
  same : (let err : Result Text Fault = Err (JoinedToClose (length bs)) in err) ≡ Err f → JoinedToClose (length bs) ≡ f
  same e = cc

  apart : (let ok : Result Text Fault = Ok bs in ok) ≡ Err f → ⊥
  apart e = cc

pub require_word_end-at : (nested : Bool) (bs : Text) → word_ends nested bs ≡ true → require_word_end nested bs ≡ Ok bs
require_word_end-at nested bs h = rw h refl

pub require_word_end-not : (nested : Bool) (bs : Text) → word_ends nested bs ≡ false → require_word_end nested bs ≡ Err (JoinedToClose (length bs))
require_word_end-not nested bs h = rw h refl

-- Runs

run_cons : (p : ℕ → Bool) (b : ℕ) (bs : Text) (t : Bool) → p b ≡ t → (bs ≡ take_while p bs ++ drop_while p bs) × AllPass p (take_while p bs) × MayBegin (λ b. not (p b)) (drop_while p bs)
    → (b ∷ bs ≡ take_while p (b ∷ bs) ++ drop_while p (b ∷ bs)) × AllPass p (take_while p (b ∷ bs)) × MayBegin (λ b. not (p b)) (drop_while p (b ∷ bs))
run_cons p b bs true t so = rw t (ap (λ xs. b ∷ xs) so.0, (t, so.1), so.2)
run_cons p b bs false t so = rw t (refl, tt, ap not t)

-- a run, what follows it, and that it is the longest
pub run_taken : (p : ℕ → Bool) (bs : Text) → (bs ≡ take_while p bs ++ drop_while p bs) × AllPass p (take_while p bs) × MayBegin (λ b. not (p b)) (drop_while p bs)
run_taken p [] = (refl, tt, tt)
run_taken p (b ∷ bs) = run_cons p b bs (p b) refl (run_taken p bs)

pub front_run : (p : ℕ → Bool) (xs r : Text) → AllPass p xs → MayBegin (λ b. not (p b)) r → take_while p (xs ++ r) ≡ xs
front_run p [] [] all stop = refl
front_run p [] (b ∷ r) all stop = rw (not_true (p b) stop) refl
front_run p (x ∷ xs) r all stop = rw (all.0) (ap (λ ys. x ∷ ys) (front_run p xs r all.1 stop))

pub back_run : (p : ℕ → Bool) (xs r : Text) → AllPass p xs → MayBegin (λ b. not (p b)) r → drop_while p (xs ++ r) ≡ r
back_run p [] [] all stop = refl
back_run p [] (b ∷ r) all stop = rw (not_true (p b) stop) refl
back_run p (x ∷ xs) r all stop = rw (all.0) (back_run p xs r all.1 stop)
