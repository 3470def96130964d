-- Texts in braces: runs without a backslash, and what a backslash does.
use Rattle.std.proofs.Common.{◌≡◌, ℕ, suc, ◌≤◌, [], ◌∷◌, ◌++◌, length, Bool, true, false, ◌==◌, refl, sym, ap, ◌∙◌}
use Rattle.std.proofs.Common.{arith, append_assoc, append-nil, subst, ◌⊎◌, inl, inr}
use Rattle.std.proofs.lemmas.Bool.Decides.{nat_tests}
use Rattle.tcltext.specs.chars.Bytes.{backslash, newline}
use Rattle.tcltext.specs.chars.Runs.{Text, take_while, drop_while, begins}
use Rattle.tcltext.specs.chars.Backslash.{is_blank_or_tab}
use Rattle.tcltext.specs.chars.Classes.{in_class}
use Rattle.tcltext.specs.declared.chars.runs.Class.TheVariants.{Unescaped}
use Rattle.tcltext.specs.chars.BracedText.{braced_text, braced_after_backslash, braced_after_newline}

run_cases : (b : ℕ) (bs : Text) (t : Bool) → (b == backslash) ≡ t → braced_text bs ≡ take_while (in_class Unescaped) bs ++ braced_text (drop_while (in_class Unescaped) bs)
    → braced_text (b ∷ bs) ≡ take_while (in_class Unescaped) (b ∷ bs) ++ braced_text (drop_while (in_class Unescaped) (b ∷ bs))
run_cases b bs true e so = rw e (rw e refl)
run_cases b bs false e so = rw e (ap (λ xs. b ∷ xs) so)

-- a run without a backslash stands for itself
pub run_text : (bs : Text) → braced_text bs ≡ take_while (in_class Unescaped) bs ++ braced_text (drop_while (in_class Unescaped) bs)
run_text [] = refl
run_text (b ∷ bs) = run_cases b bs (b == backslash) refl (run_text bs)

newline_cases : (b : ℕ) (bs : Text) (t : Bool) → is_blank_or_tab b ≡ t
    → braced_after_newline bs ≡ braced_text (drop_while is_blank_or_tab bs)
    → braced_after_newline (b ∷ bs) ≡ braced_text (drop_while is_blank_or_tab (b ∷ bs))
newline_cases b bs true e so = rw e so
newline_cases b bs false e so = rw e refl

-- behind a backslash and a newline, blanks and tabs are passed
pub newline_text : (bs : Text) → braced_after_newline bs ≡ braced_text (drop_while is_blank_or_tab bs)
newline_text [] = refl
newline_text (b ∷ bs) = newline_cases b bs (is_blank_or_tab b) refl (newline_text bs)

-- behind a backslash that escapes neither a newline nor a backslash, the text goes on
pub other_text : (bs : Text) → begins newline bs ≡ false → begins backslash bs ≡ false → braced_after_backslash bs ≡ backslash ∷ braced_text bs
other_text [] h k = refl
other_text (b ∷ bs) h k = rw (h, k) refl

pub escaped_newline : (old new after next rest : Text) → new ≡ old ++ 32 ∷ [] → after ≡ newline ∷ next
    → rest ≡ drop_while is_blank_or_tab next → new ++ braced_text rest ≡ old ++ braced_after_backslash after
escaped_newline old new after next rest n a r = rw (n, a, r) (append_assoc old (32 ∷ []) (braced_text (drop_while is_blank_or_tab next)) ∙ ap (λ xs. old ++ 32 ∷ xs) (sym (newline_text next)))

pub escaped_backslash : (old mid new after next : Text) → mid ≡ old ++ backslash ∷ [] → new ≡ mid ++ backslash ∷ []
    → after ≡ backslash ∷ next → new ++ braced_text next ≡ old ++ braced_after_backslash after
escaped_backslash old mid new after next m n a = rw (n, m, a)
    (append_assoc (old ++ backslash ∷ []) (backslash ∷ []) (braced_text next)
    ∙ append_assoc old (backslash ∷ []) (backslash ∷ braced_text next))

pub escaped_other : (old new after : Text) → new ≡ old ++ backslash ∷ [] → begins newline after ≡ false
    → begins backslash after ≡ false → new ++ braced_text after ≡ old ++ braced_after_backslash after
escaped_other old new after n h k = rw n (append_assoc old (backslash ∷ []) (braced_text after) ∙ ap (λ xs. old ++ xs) (sym (other_text after h k)))

pub back_no_longer : (p : ℕ → Bool) (bs : Text) → length (drop_while p bs) ≤ length bs
back_no_longer p [] = omega arith
back_no_longer p (b ∷ bs) = cases (p b) refl (back_no_longer p bs) where
  cases : (t : Bool) → p b ≡ t → length (drop_while p bs) ≤ length bs → length (drop_while p (b ∷ bs)) ≤ suc (length bs)
  cases true e so = rw e (omega arith)
  cases false e so = rw e (omega arith)

-- what was added and what is left are the whole; what is left is nothing or begins with a backslash
pub record SoFar (whole value rest : Text) : Type 0 where
  pub same : value ++ braced_text rest ≡ whole
  pub stands : (rest ≡ []) ⊎ ((more : Text) × (rest ≡ backslash ∷ more))

true_false : true ≡ false → ⊥
true_false h = cc

is_byte : (b : ℕ) → (b == backslash) ≡ true → b ≡ backslash
is_byte b h = grind (arith, nat_tests)

pub run_stops : (bs : Text) → (drop_while (in_class Unescaped) bs ≡ []) ⊎ ((more : Text) × (drop_while (in_class Unescaped) bs ≡ backslash ∷ more))
run_stops [] = inl refl
run_stops (b ∷ bs) = cases (b == backslash) refl (run_stops bs) where
  cases : (t : Bool) → (b == backslash) ≡ t → (drop_while (in_class Unescaped) bs ≡ []) ⊎ ((more : Text) × (drop_while (in_class Unescaped) bs ≡ backslash ∷ more))
      → (drop_while (in_class Unescaped) (b ∷ bs) ≡ []) ⊎ ((more : Text) × (drop_while (in_class Unescaped) (b ∷ bs) ≡ backslash ∷ more))
  cases true e so = inr (bs, rw e (ap (λ (x : ℕ). x ∷ bs) (is_byte b e)))
  cases false e so = rw e so

pub run_added : (value run rest following : Text) → run ≡ take_while (in_class Unescaped) following
    → rest ≡ drop_while (in_class Unescaped) following → (value ++ run) ++ braced_text rest ≡ value
    ++ braced_text following
run_added value run rest following r e = rw (r, e)
    (append_assoc value (take_while (in_class Unescaped) following)
    (braced_text (drop_while (in_class Unescaped) following)) ∙ ap (λ xs. value ++ xs) (sym (run_text following)))

pub so_far-run : (whole value run rest following : Text) → run ≡ take_while (in_class Unescaped) following
    → rest ≡ drop_while (in_class Unescaped) following → value ++ braced_text following ≡ whole
    → SoFar whole (value ++ run) rest
so_far-run whole value run rest following r e so = record {
  same = run_added value run rest following r e ∙ so;
  stands = subst (λ (xs : Text). (xs ≡ []) ⊎ ((more : Text) × (xs ≡ backslash ∷ more))) (sym e) (run_stops following);
}

-- from a backslash on
pub so_far-escape : (whole value rest after : Text) → rest ≡ backslash ∷ after → SoFar whole value rest → value ++ braced_after_backslash after ≡ whole
so_far-escape whole value rest after e s = ap (λ xs. value ++ braced_text xs) (sym e) ∙ s.same

pub so_far-end : (whole value rest : Text) → begins backslash rest ≡ false → SoFar whole value rest → value ≡ whole
so_far-end whole value rest e s = cases s.stands where
  cases : (rest ≡ []) ⊎ ((more : Text) × (rest ≡ backslash ∷ more)) → value ≡ whole
  cases (inl none) = sym (append-nil value) ∙ ap (λ xs. value ++ braced_text xs) (sym none) ∙ s.same
  cases (inr more) = absurd (true_false (sym (ap (begins backslash) more.1) ∙ e))

pub so_far-none : (value rest following : Text) → rest ≡ drop_while (in_class Unescaped) following → SoFar (value ++ braced_text rest) value rest
so_far-none value rest following e = record {
  same = refl;
  stands = subst (λ (xs : Text). (xs ≡ []) ⊎ ((more : Text) × (xs ≡ backslash ∷ more))) (sym e) (run_stops following);
}
