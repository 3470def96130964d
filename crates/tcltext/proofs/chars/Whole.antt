-- What a parser of whole texts promises follows from what is read and from its faults.
use Rattle.std.proofs.Common.{◌≡◌, ◌≢◌, ℕ, ◌+◌, ◌-◌, ◌<◌, ◌≤◌, length, Bool, true, false, Result, Ok, Err, refl, sym}
use Rattle.std.proofs.Common.{ap, subst, ◌∙◌, arith, ◌⊎◌, inl, inr}
use Rattle.std.specs.Prelude.{nat_lt, IfOk, IfErr, MatchResult}
use Rattle.std.proofs.lemmas.Bool.Decides.{nat_tests}
use Rattle.tcltext.specs.chars.Runs.{Text}
use Rattle.tcltext.specs.chars.Faults.{max_bytes}
use Rattle.tcltext.specs.chars.Reading.{remaining_of, with_offset}
use Rattle.tcltext.specs.chars.Whole.{IsFaultAt, IsFaultOf, reading_with_offset, whole_of, FailsWith, Reads}
use Rattle.tcltext.specs.declared.chars.fault.Fault.{Fault}
use Rattle.tcltext.specs.declared.chars.fault.Fault.TheVariants as marks
use Rattle.tcltext.specs.declared.chars.fault.TextFault.{TextFault}
use Rattle.tcltext.specs.declared.chars.fault.TextFault.TheVariants.{OutOfMemory, OpenBrace, OpenQuote, OpenBracket}
use Rattle.tcltext.specs.declared.chars.fault.TextFault.TheVariants.{JoinedToClose, TooDeep, BadCharacter, BadExpression}
use Rattle.tcltext.specs.declared.chars.fault.TextFault.TheVariants.{TooLong}
use Rattle.tcltext.proofs.chars.Results.{ok_same, err_same, ok_err, err_ok}

long_or_not : (n : ℕ) → (max_bytes < n) ⊎ (n ≤ max_bytes)
long_or_not n = go (nat_lt max_bytes n) refl where
  go : (t : Bool) → nat_lt max_bytes n ≡ t → (max_bytes < n) ⊎ (n ≤ max_bytes)
  go true e = inl (grind (arith, nat_tests))
  go false e = inr (grind (arith, nat_tests))

place_same : (len at remaining : ℕ) → at + remaining ≡ len → len - remaining ≡ at
place_same len at remaining h = omega arith

no_memory_placed : (len : ℕ) (f : Fault) → with_offset len f ≢ OutOfMemory
no_memory_placed len (marks.OpenBrace remaining) = λ h. cc
no_memory_placed len (marks.OpenQuote remaining) = λ h. cc
no_memory_placed len (marks.OpenBracket remaining) = λ h. cc
no_memory_placed len (marks.JoinedToClose remaining) = λ h. cc
no_memory_placed len marks.TooDeep = λ h. cc
no_memory_placed len (marks.BadCharacter remaining) = λ h. cc
no_memory_placed len (marks.BadExpression remaining) = λ h. cc

-- the fault that is met, at its place
placed_is : (Is : Text → Fault → Type 0) (bs : Text) (f : Fault) → length bs ≤ max_bytes → remaining_of f ≤ length bs → Is bs f → IsFaultOf Is bs (with_offset (length bs) f)
placed_is Is bs (marks.OpenBrace remaining) short inside h = (short, remaining, omega arith, h)
placed_is Is bs (marks.OpenQuote remaining) short inside h = (short, remaining, omega arith, h)
placed_is Is bs (marks.OpenBracket remaining) short inside h = (short, remaining, omega arith, h)
placed_is Is bs (marks.JoinedToClose remaining) short inside h = (short, remaining, omega arith, h)
placed_is Is bs marks.TooDeep short inside h = (short, h)
placed_is Is bs (marks.BadCharacter remaining) short inside h = (short, remaining, omega arith, h)
placed_is Is bs (marks.BadExpression remaining) short inside h = (short, remaining, omega arith, h)

module _ {A : Type 0} (read : Text → Result A Fault) where
  pub too_long : (bs : Text) → max_bytes < length bs → whole_of read bs ≡ Err TooLong
  too_long bs h = let t : nat_lt max_bytes (length bs) ≡ true = grind (arith, nat_tests) in rw t refl

  pub not_long : (bs : Text) → length bs ≤ max_bytes → whole_of read bs ≡ reading_with_offset bs (read bs)
  not_long bs h = let t : nat_lt max_bytes (length bs) ≡ false = grind (arith, nat_tests) in rw t refl

  found_value : (bs : Text) (r : Result A Fault) (x : A) → reading_with_offset bs r ≡ Ok x → r ≡ Ok x
  found_value bs (Ok y) x h = ap (λ z. Ok z) (ok_same y x h)
  found_value bs (Err f) x h = absurd (err_ok x (with_offset (length bs) f) h)

  found_fault : (bs : Text) (r : Result A Fault) (f : TextFault) → reading_with_offset bs r ≡ Err f → (g : Fault) × (r ≡ Err g) × (with_offset (length bs) g ≡ f)
  found_fault bs (Ok y) f h = absurd (ok_err y f h)
  found_fault bs (Err g) f h = (g, refl, err_same {A = A} (with_offset (length bs) g) f h)

  -- the value of a whole text is what is read of it within the limit
  pub value_is : (bs : Text) (x : A) → whole_of read bs ≡ Ok x → (read bs ≡ Ok x) × (length bs ≤ max_bytes)
  value_is bs x h = elim (long_or_not (length bs)) [
    | inl long ↦ absurd (err_ok x TooLong (sym (too_long bs long) ∙ h))
    | inr short ↦ (found_value bs (read bs) x (sym (not_long bs short) ∙ h), short)
  ]

  pub value_met : (bs : Text) (x : A) → length bs ≤ max_bytes → read bs ≡ Ok x → whole_of read bs ≡ Ok x
  value_met bs x short h = not_long bs short ∙ ap (reading_with_offset bs) h

-- The faults: those that are met are the text's, with their marks within it, and those of the text are met.
module _ {A : Type 0} (read : Text → Result A Fault) (Is : Text → Fault → Type 0) (faulty : (bs : Text) (f : Fault) → read bs ≡ Err f → Is bs f)
    (met : (bs : Text) (f : Fault) → Is bs f → read bs ≡ Err f) (within : (bs : Text) (f : Fault) → read bs ≡ Err f → remaining_of f ≤ length bs) where
  pub fault_is : (bs : Text) (f : TextFault) → whole_of read bs ≡ Err f → IsFaultOf Is bs f × (f ≢ OutOfMemory)
  fault_is bs f h = elim (long_or_not (length bs)) [
    | inl long ↦ (let same = err_same {A = A} TooLong f (sym (too_long read bs long) ∙ h) in subst (λ f. IsFaultOf Is bs f × (f ≢ OutOfMemory)) same (long, long_memory))
    | inr short ↦ (
        let k = found_fault read bs (read bs) f (sym (not_long read bs short) ∙ h) in
        subst (λ f. IsFaultOf Is bs f × (f ≢ OutOfMemory)) k.2 (placed_is Is bs k.0 short (within bs k.0 k.1) (faulty bs k.0 k.1), no_memory_placed (length bs) k.0)
        )
  ] where
    long_memory : TooLong ≢ OutOfMemory
    long_memory = λ h. cc

  placed_met : (bs : Text) (at : ℕ) (mark : ℕ → Fault) (said : ℕ → TextFault)
      → ((remaining : ℕ) → with_offset (length bs) (mark remaining) ≡ said (length bs - remaining))
      → IsFaultAt Is bs at mark → whole_of read bs ≡ Err (said at)
  placed_met bs at mark said same h =
      not_long read bs h.0 ∙ ap (reading_with_offset bs) (met bs (mark h.1) h.3) ∙ ap (λ f. Err f) (same h.1 ∙ ap said (place_same (length bs) at h.1 h.2))

  pub fault_met : (bs : Text) (f : TextFault) → f ≢ OutOfMemory → IsFaultOf Is bs f → whole_of read bs ≡ Err f
  fault_met bs OutOfMemory some h = absurd (some refl)
  fault_met bs (OpenBrace at) some h = placed_met bs at (λ remaining. marks.OpenBrace remaining) (λ at. OpenBrace at) (λ remaining. refl) h
  fault_met bs (OpenQuote at) some h = placed_met bs at (λ remaining. marks.OpenQuote remaining) (λ at. OpenQuote at) (λ remaining. refl) h
  fault_met bs (OpenBracket at) some h = placed_met bs at (λ remaining. marks.OpenBracket remaining) (λ at. OpenBracket at) (λ remaining. refl) h
  fault_met bs (JoinedToClose at) some h = placed_met bs at (λ remaining. marks.JoinedToClose remaining) (λ at. JoinedToClose at) (λ remaining. refl) h
  fault_met bs TooDeep some h = not_long read bs h.0 ∙ ap (reading_with_offset bs) (met bs marks.TooDeep h.1)
  fault_met bs (BadCharacter at) some h = placed_met bs at (λ remaining. marks.BadCharacter remaining) (λ at. BadCharacter at) (λ remaining. refl) h
  fault_met bs (BadExpression at) some h = placed_met bs at (λ remaining. marks.BadExpression remaining) (λ at. BadExpression at) (λ remaining. refl) h
  fault_met bs TooLong some h = too_long read bs h

  pub no_memory : (bs : Text) → whole_of read bs ≢ Err OutOfMemory
  no_memory bs = λ h. (fault_is bs OutOfMemory h).1 refl

  -- a text has one fault, and no value then
  pub one_fault : (bs : Text) (f g : TextFault) → f ≢ OutOfMemory → g ≢ OutOfMemory → IsFaultOf Is bs f → IsFaultOf Is bs g → f ≡ g
  one_fault bs f g x y h k = err_same {A = A} f g (sym (fault_met bs f x h) ∙ fault_met bs g y k)

  pub no_value : (bs : Text) (f : TextFault) (x : A) → f ≢ OutOfMemory → IsFaultOf Is bs f → whole_of read bs ≡ Ok x → ⊥
  no_value bs f x some h k = err_ok x f (sym (fault_met bs f some h) ∙ k)

  -- The clauses of a function that returns what is read, seen by view, or a fault

  module _ {X : Type 0} (view : X → A) (bs : Text) where
    fault_of : (e : TextFault) → FailsWith e (whole_of read bs) → IsFaultOf Is bs e
    fault_of OutOfMemory h = tt
    fault_of (OpenBrace at) h = (fault_is bs (OpenBrace at) h).0
    fault_of (OpenQuote at) h = (fault_is bs (OpenQuote at) h).0
    fault_of (OpenBracket at) h = (fault_is bs (OpenBracket at) h).0
    fault_of (JoinedToClose at) h = (fault_is bs (JoinedToClose at) h).0
    fault_of TooDeep h = (fault_is bs TooDeep h).0
    fault_of (BadCharacter at) h = (fault_is bs (BadCharacter at) h).0
    fault_of (BadExpression at) h = (fault_is bs (BadExpression at) h).0
    fault_of TooLong h = (fault_is bs TooLong h).0

    pub reads_fault : (r : Result X TextFault) → Reads view r (whole_of read bs) → IfErr r (IsFaultOf Is bs)
    reads_fault (Ok x) h = tt
    reads_fault (Err e) h = fault_of e h

-- A value within the limit is returned, unless memory runs out.
module _ {A X : Type 0} (read : Text → Result A Fault) (view : X → A) (bs : Text) where
  only_memory : (e : TextFault) (x : A) → FailsWith e (whole_of read bs) → whole_of read bs ≡ Ok x → e ≡ OutOfMemory
  only_memory OutOfMemory x h k = refl
  only_memory (OpenBrace at) x h k = absurd (err_ok x (OpenBrace at) (sym h ∙ k))
  only_memory (OpenQuote at) x h k = absurd (err_ok x (OpenQuote at) (sym h ∙ k))
  only_memory (OpenBracket at) x h k = absurd (err_ok x (OpenBracket at) (sym h ∙ k))
  only_memory (JoinedToClose at) x h k = absurd (err_ok x (JoinedToClose at) (sym h ∙ k))
  only_memory TooDeep x h k = absurd (err_ok x TooDeep (sym h ∙ k))
  only_memory (BadCharacter at) x h k = absurd (err_ok x (BadCharacter at) (sym h ∙ k))
  only_memory (BadExpression at) x h k = absurd (err_ok x (BadExpression at) (sym h ∙ k))
  only_memory TooLong x h k = absurd (err_ok x TooLong (sym h ∙ k))

  pub reads_found : (P : A → Type 0) → ((x : A) → whole_of read bs ≡ Ok x → P x) → (r : Result X TextFault) → Reads view r (whole_of read bs) → IfOk r (λ x. P (view x))
  reads_found P is (Ok x) h = is (view x) h
  reads_found P is (Err e) h = tt

  pub reads_only : (r : Result X TextFault) → Reads view r (whole_of read bs) → (x : A) → whole_of read bs ≡ Ok x → MatchResult r (λ y. view y ≡ x) (λ e. e ≡ OutOfMemory)
  reads_only (Ok y) h x k = ok_same (view y) x (sym h ∙ k)
  reads_only (Err e) h x k = only_memory e x h k
