-- Words are read exactly.
use Rattle.std.proofs.Common.{◌≡◌, ℕ, zero, suc, ◌<◌, ◌≤◌, [], ◌∷◌, ◌++◌, length, Bool, true, false, not, ◌||◌, ◌==◌}
use Rattle.std.proofs.Common.{Option, Some, None, Result, Ok, Err, refl, sym, ap, subst, ◌∙◌, arith, append_assoc}
use Rattle.std.proofs.Common.{append-nil, ◌⊎◌, inl, inr}
use Rattle.std.proofs.lemmas.Bool.Decides.{nat_tests}
use Rattle.tcltext.specs.chars.Runs.{Text}
use Rattle.tcltext.specs.chars.Bytes.{DoesBegin}
use Rattle.tcltext.specs.chars.Braces as braces
use Rattle.tcltext.specs.chars.Braces.{Balanced, braced_at}
use Rattle.tcltext.proofs.chars.BraceClose.{close_sound, found_close}
use Rattle.tcltext.specs.chars.Reading.{◌>>=◌, Read, read_map}
use Rattle.tcltext.specs.declared.chars.fault.Fault.{Fault}
use Rattle.tcltext.specs.declared.chars.fault.Fault.TheVariants.{OpenBrace, OpenQuote, JoinedToClose}
use Rattle.tcltext.proofs.chars.Results.{bind_err, bind_ok, err_ok, ok_err, ok_pair, read_map_err, read_map_ok}
use Rattle.tcltext.specs.declared.script.context.Context.{Context}
use Rattle.tcltext.specs.declared.script.context.Context.TheVariants.{InQuotes}
use Rattle.tcltext.specs.script.Tree.{Word, word_of, Parts, no_parts, part, braced, parts_nesting, word_nesting}
use Rattle.tcltext.specs.script.Ends.{word_ends, parts_end, bare}
use Rattle.tcltext.specs.script.Grammar.{IsUnexpandedWord, IsParts, IsWord}
use Rattle.tcltext.specs.script.Faults as faults
use Rattle.tcltext.specs.script.Faults.{NeverCloses, Expands, PartsFault, UnexpandedWordFault, WordFault}
use Rattle.tcltext.specs.script.Reading.{Inner, on_mark, after_closing, require_word_end, parts_with, word_in_braces}
use Rattle.tcltext.specs.script.Reading.{braced_word_at, quoted_word_at, unexpanded_word_at, unless_word_ends}
use Rattle.tcltext.specs.script.Reading.{after_expansion, word_from, word_at}
use Rattle.tcltext.proofs.script.Exact.{Took, Exact}
use Rattle.tcltext.proofs.script.Marks.{true_false, Without, mark_or_none, on_mark-not, closed_ok, closed_err}
use Rattle.tcltext.proofs.script.Marks.{after_closing-at, none_before, ended_ok, ended_err, require_word_end-at}
use Rattle.tcltext.proofs.script.Marks.{require_word_end-not}
use Rattle.tcltext.proofs.script.Dollars.{IsExactInner, parts_close}
use Rattle.tcltext.proofs.script.PartsExact.{faulty_goes_on}
use Rattle.tcltext.proofs.script.PartFaults.{parts_sound, parts_faulty, parts_again, parts_met}

-- a bare word ends where its parts do
pub bare_end : (nested : Bool) (bs : Text) → parts_end (bare nested) bs ≡ word_ends nested bs
bare_end true bs = refl
bare_end false bs = refl

brace_goes_on : (nested : Bool) (bs : Text) → word_ends nested (123 ∷ bs) ≡ false
brace_goes_on true bs = refl
brace_goes_on false bs = refl

quote_goes_on : (nested : Bool) (bs : Text) → word_ends nested (34 ∷ bs) ≡ false
quote_goes_on true bs = refl
quote_goes_on false bs = refl

apart_bools : {b : Bool} → b ≡ true → b ≡ false → ⊥
apart_bools h k = true_false (sym k ∙ h)

-- Braces

close_braced : Bool → Text → Text → Read Parts
close_braced nested inside r = require_word_end nested r >>= (λ rest. Ok (part (braced inside) no_parts, rest))

braced_found : (nested : Bool) (remaining : ℕ) (found : Option (Text × Text)) (ps : Parts) (r : Text) → word_in_braces nested remaining found ≡ Ok (ps, r)
    → (inside : Text) × (found ≡ Some (inside, r)) × (part (braced inside) no_parts ≡ ps) × (word_ends nested r ≡ true)
braced_found nested remaining None ps r h = cc
braced_found nested remaining (Some p) ps r h =
    let x = bind_ok (require_word_end nested p.1) (λ rest. let found : Read Parts = Ok (part (braced p.0) no_parts, rest) in found) (ps, r) h in
    let end = ended_ok nested p.1 x.0 x.1 in
    let two = ok_pair (part (braced p.0) no_parts, x.0) (ps, r) x.2 in
    (p.0, ap (λ ys. Some (p.0, ys)) (end.0 ∙ two.1), two.0, ap (word_ends nested) (sym (end.0 ∙ two.1)) ∙ end.1)

braced_lost : (nested : Bool) (remaining : ℕ) (found : Option (Text × Text)) (f : Fault) → word_in_braces nested remaining found ≡ Err f
    → ((found ≡ None) × (OpenBrace remaining ≡ f)) ⊎ ((p : Text × Text) × (found ≡ Some p) × (JoinedToClose (length p.1) ≡ f) × (word_ends nested p.1 ≡ false))
braced_lost nested remaining None f h = let same : OpenBrace remaining ≡ f = cc in inl (refl, same)
braced_lost nested remaining (Some p) f h = elim (bind_err (require_word_end nested p.1) (λ rest. let found : Read Parts = Ok (part (braced p.0) no_parts, rest) in found) f h) [
  | inl bad ↦ (let e = ended_err nested p.1 f bad in inr (p, refl, e.0, e.1))
  | inr k ↦ absurd (ok_err (part (braced p.0) no_parts, k.0) f k.2)
]

none_some : {A : Type 0} (x : A) → Some x ≡ None → ⊥
none_some x h = cc

pub none_found : (bs : Text) (found : Option (Text × Text)) → braced_at false 0 bs ≡ found → NeverCloses bs → found ≡ None
none_found bs None is h = refl
none_found bs (Some p) is h = let so = close_sound bs false zero p.0 p.1 is in absurd (h p.0 p.1 so.0 so.1)

-- The mark {*}

one_star : Balanced (42 ∷ [])
one_star = braces.Balanced.other (λ h. cc) (λ h. cc) (λ h. cc) braces.Balanced.nothing

unless_cases : (nested : Bool) (bs : Text) (t : Bool) → word_ends nested bs ≡ t → ((t ≡ false) × (unless_word_ends nested bs ≡ Some bs)) ⊎ ((t ≡ true) × (unless_word_ends nested bs ≡ None))
unless_cases nested bs true h = inr (refl, rw h refl)
unless_cases nested bs false h = inl (refl, rw h refl)

pub expansion-at : (nested : Bool) (rest : Text) → word_ends nested rest ≡ false → after_expansion nested (123 ∷ (42 ∷ (125 ∷ rest))) ≡ Some rest
unfolding after_expansion
expansion-at nested rest h = rw h refl

pub expansion-ends : (nested : Bool) (rest : Text) → word_ends nested rest ≡ true → after_expansion nested (123 ∷ (42 ∷ (125 ∷ rest))) ≡ None
unfolding after_expansion
expansion-ends nested rest h = rw h refl

no_first : (nested : Bool) (bs : Text) → Without 123 bs → after_expansion nested bs ≡ None
unfolding after_expansion
no_first nested bs h = on_mark-not 123 bs (λ xs. on_mark 42 xs (λ ys. on_mark 125 ys (unless_word_ends nested) None) None) None h

no_second : (nested : Bool) (bs : Text) → Without 42 bs → after_expansion nested (123 ∷ bs) ≡ None
unfolding after_expansion
no_second nested bs h = on_mark-not 42 bs (λ ys. on_mark 125 ys (unless_word_ends nested) None) None h

no_third : (nested : Bool) (bs : Text) → Without 125 bs → after_expansion nested (123 ∷ (42 ∷ bs)) ≡ None
unfolding after_expansion
no_third nested bs h = on_mark-not 125 bs (unless_word_ends nested) None h

-- whether a text begins with the mark, where the word goes on
pub expansion : (nested : Bool) (bs : Text) → ((k : Expands nested bs) × (after_expansion nested bs ≡ Some k.0)) ⊎ ((Expands nested bs → ⊥) × (after_expansion nested bs ≡ None))
expansion nested bs = elim (mark_or_none 123 bs) [
  | inr none ↦ inr (no_mark (no_first nested bs none))
  | inl a ↦ elim (mark_or_none 42 a.0) [
    | inr none ↦ inr (no_mark (ap (after_expansion nested) a.1 ∙ no_second nested a.0 none))
    | inl b ↦ (
        let two : bs ≡ 123 ∷ (42 ∷ b.0) = a.1 ∙ ap (λ xs. 123 ∷ xs) b.1 in
        elim (mark_or_none 125 b.0) [
          | inr none ↦ inr (no_mark (ap (after_expansion nested) two ∙ no_third nested b.0 none))
          | inl c ↦ (
              let three : bs ≡ 123 ∷ (42 ∷ (125 ∷ c.0)) = two ∙ ap (λ xs. 123 ∷ (42 ∷ xs)) c.1 in
              following c.0 three (word_ends nested c.0) refl
              )
        ]
        )
  ]
] where
  no_mark : after_expansion nested bs ≡ None → (Expands nested bs → ⊥) × (after_expansion nested bs ≡ None)
  no_mark h = ((λ k. none_some k.0 (sym (expansion-at nested k.0 k.2) ∙ ap (after_expansion nested) (sym k.1) ∙ h)), h)

  following : (rest : Text) → bs ≡ 123 ∷ (42 ∷ (125 ∷ rest)) → (t : Bool) → word_ends nested rest ≡ t
      → ((k : Expands nested bs) × (after_expansion nested bs ≡ Some k.0)) ⊎ ((Expands nested bs → ⊥) × (after_expansion nested bs ≡ None))
  following rest e true h = inr (no_mark (ap (after_expansion nested) e ∙ expansion-ends nested rest h))
  following rest e false h = inl ((rest, e, h), ap (after_expansion nested) e ∙ expansion-at nested rest h)

-- the first byte of a bare word
either_mark : (b : ℕ) → not (b == 123) ≡ true → not (b == 34) ≡ true → not (b == 123 || b == 34) ≡ true
either_mark b h k = grind (arith, nat_tests)

both_marks : (b : ℕ) → not (b == 123 || b == 34) ≡ true → (not (b == 123) ≡ true) × (not (b == 34) ≡ true)
both_marks b h = (grind (arith, nat_tests), grind (arith, nat_tests))

bare_first : (nested : Bool) (bs taken r : Text) → bs ≡ taken ++ r → word_ends nested bs ≡ false
    → word_ends nested r ≡ true → Without 123 bs → Without 34 bs → DoesBegin (λ b. not (b == 123 || b == 34)) taken
bare_first nested bs [] r e h k x y = absurd (apart_bools k (ap (word_ends nested) (sym e) ∙ h))
bare_first nested bs (b ∷ taken) r e h k x y = either_mark b (subst (Without 123) e x) (subst (Without 34) e y)

bare_bytes : (bs : Text) → DoesBegin (λ b. not (b == 123 || b == 34)) bs → (r : Text) → Without 123 (bs ++ r) × Without 34 (bs ++ r)
bare_bytes [] h r = absurd h
bare_bytes (b ∷ bs) h r = both_marks b h

pub parts_fault_goes_on : {d : ℕ} {c : Context} {bs : Text} {f : Fault} → PartsFault d c bs f → parts_end c bs ≡ false
parts_fault_goes_on (faults.PartsFault.first_part {d} {c} {bs} {f} h) = faulty_goes_on c h
parts_fault_goes_on (faults.PartsFault.later_part body p goes h deep l) = goes

pub plain_fault_goes_on : {d : ℕ} {nested : Bool} {bs : Text} {f : Fault} → UnexpandedWordFault d nested bs f → word_ends nested bs ≡ false
plain_fault_goes_on (faults.UnexpandedWordFault.open_brace {d} {nested} {bs} h) = brace_goes_on nested bs
plain_fault_goes_on (faults.UnexpandedWordFault.joined_brace {d} {nested} inside rest h k) = brace_goes_on nested (inside ++ 125 ∷ rest)
plain_fault_goes_on (faults.UnexpandedWordFault.in_quotes {d} {nested} {bs} h) = quote_goes_on nested bs
plain_fault_goes_on (faults.UnexpandedWordFault.open_quote {d} {nested} {bs} ps h k) = quote_goes_on nested bs
plain_fault_goes_on (faults.UnexpandedWordFault.joined_quote {d} {nested} inside rest ps h k l) = quote_goes_on nested (inside ++ 34 ∷ rest)
plain_fault_goes_on (faults.UnexpandedWordFault.in_bare {d} {nested} {bs} h k) = sym (bare_end nested bs) ∙ parts_fault_goes_on k

pub word_fault_goes_on : {d : ℕ} {nested : Bool} {bs : Text} {f : Fault} → WordFault d nested bs f → word_ends nested bs ≡ false
word_fault_goes_on (faults.WordFault.not_expanding h k) = plain_fault_goes_on k
word_fault_goes_on (faults.WordFault.expanding {d} {nested} {body} h k) = brace_goes_on nested (42 ∷ (125 ∷ body))

abbrev pub PartsStand : Parts → Context → Text → Text → Type 0
PartsStand ps c inside more = IsParts c ps inside more

parts_goes_on : (c : Context) (ps : Parts) (t r : Text) → IsParts c ps t r → 0 < length t → parts_end c (t ++ r) ≡ false
parts_goes_on c no_parts t r h less = absurd (omega (arith, ap length h.0))
parts_goes_on c (part p ps) t r h less = ap (parts_end c) (ap (λ xs. xs ++ r) h.whole ∙ append_assoc h.first h.second r) ∙ h.is_first.0

some_bytes : (p : ℕ → Bool) (bs : Text) → DoesBegin p bs → 0 < length bs
some_bytes p [] h = absurd h
some_bytes p (b ∷ bs) h = omega arith

pub plain_goes_on : (nested : Bool) (ps : Parts) (t r : Text) → IsUnexpandedWord nested ps (λ c inside more. IsParts c ps inside more) t r → word_ends nested (t ++ r) ≡ false
plain_goes_on nested ps t r (e, inl h) = ap (λ xs. word_ends nested (xs ++ r)) h.2 ∙ brace_goes_on nested ((h.0 ++ 125 ∷ []) ++ r)
plain_goes_on nested ps t r (e, inr (inl h)) = ap (λ xs. word_ends nested (xs ++ r)) h.1 ∙ quote_goes_on nested ((h.0 ++ 34 ∷ []) ++ r)
plain_goes_on nested ps t r (e, inr (inr h)) = sym (bare_end nested (t ++ r)) ∙ parts_goes_on (bare nested) ps t r h.1 (some_bytes (λ b. not (b == 123 || b == 34)) t h.0)

pub word_goes_on : (nested : Bool) (w : Word) (t r : Text) → IsWord nested w t r → word_ends nested (t ++ r) ≡ false
word_goes_on nested (word_of false ps) t r h = plain_goes_on nested ps t r h
word_goes_on nested (word_of true ps) t r h = ap (λ xs. word_ends nested (xs ++ r)) h.1 ∙ brace_goes_on nested (42 ∷ (125 ∷ (h.0 ++ r)))

pub word_closes : (nested : Bool) (w : Word) (t r : Text) → IsWord nested w t r → word_ends nested r ≡ true
word_closes nested (word_of false ps) t r h = h.0
word_closes nested (word_of true ps) t r h = h.3.0

pub word_some : (nested : Bool) (w : Word) (t r : Text) → IsWord nested w t r → 0 < length t
word_some nested w [] r h = absurd (apart_bools (word_closes nested w [] r h) (word_goes_on nested w [] r h))
word_some nested w (b ∷ t) r h = omega arith

-- behind the quote that closes
abbrev end_quoted : Bool → Parts → Text → Read Parts
end_quoted nested ps after = require_word_end nested after >>= (λ rest. Ok (ps, rest))

abbrev close_quoted : Bool → Fault → Parts → Text → Read Parts
close_quoted nested mark ps r = after_closing 34 mark r >>= (λ after. end_quoted nested ps after)

module _ (d : ℕ) (inner : Inner) (exact : IsExactInner d inner) (nested : Bool) where
  abbrev pub PlainIs : Parts → Text → Text → Type 0
  PlainIs ps t r = IsUnexpandedWord nested ps (λ c inside more. IsParts c ps inside more) t r × (parts_nesting ps ≤ d)

  abbrev pub WordGoesOn : Text → Type 0
  WordGoesOn bs = word_ends nested bs ≡ false

  braced_sound : (bs : Text) (ps : Parts) (r : Text) → braced_word_at nested bs ≡ Ok (ps, r) → Took PlainIs (123 ∷ bs) ps r
  unfolding braced_word_at
  braced_sound bs ps r h =
      let k = braced_found nested (suc (length bs)) (braced_at false 0 bs) ps r h in
      let so = close_sound bs false zero k.0 r k.1 in
      let made : Took PlainIs (123 ∷ bs) (part (braced k.0) no_parts) r = record {
        taken = 123 ∷ (k.0 ++ 125 ∷ []);
        whole = ap (λ xs. 123 ∷ xs) (so.0 ∙ sym (append_assoc k.0 (125 ∷ []) r));
        is = ((k.3, inl (k.0, refl, refl, so.1)), omega arith);
      } in
      subst (λ ps. Took PlainIs (123 ∷ bs) ps r) k.2 made

  braced_faulty : (bs : Text) (f : Fault) → braced_word_at nested bs ≡ Err f → UnexpandedWordFault d nested (123 ∷ bs) f
  unfolding braced_word_at
  braced_faulty bs f h = elim (braced_lost nested (suc (length bs)) (braced_at false 0 bs) f h) [
    | inl k ↦ subst (UnexpandedWordFault d nested (123 ∷ bs)) k.1
        (faults.UnexpandedWordFault.open_brace (λ inside rest e balanced. none_some (inside, rest)
        (sym (found_close inside rest balanced) ∙ ap (braced_at false 0) (sym e) ∙ k.0)))
    | inr k ↦ (
        let so = close_sound bs false zero k.0.0 k.0.1 k.1 in
        subst (UnexpandedWordFault d nested (123 ∷ bs)) k.2
        (subst (λ xs. UnexpandedWordFault d nested (123 ∷ xs) (JoinedToClose (length k.0.1))) (sym so.0)
        (faults.UnexpandedWordFault.joined_brace k.0.0 k.0.1 so.1 k.3))
        )
  ]

  braced_again : (inside r : Text) → Balanced inside → word_ends nested r ≡ true → braced_word_at nested (inside ++ 125 ∷ r) ≡ Ok (part (braced inside) no_parts, r)
  unfolding braced_word_at
  braced_again inside r h e =
      ap (word_in_braces nested (suc (length (inside ++ 125 ∷ r)))) (found_close inside r h)
      ∙ ap (λ (x : Result Text Fault). x >>= (λ rest. let found : Read Parts = Ok (part (braced inside) no_parts, rest) in found)) (require_word_end-at nested r e)

  braced_joined : (inside r : Text) → Balanced inside → word_ends nested r ≡ false → braced_word_at nested (inside ++ 125 ∷ r) ≡ Err (JoinedToClose (length r))
  unfolding braced_word_at
  braced_joined inside r h e =
      ap (word_in_braces nested (suc (length (inside ++ 125 ∷ r)))) (found_close inside r h)
      ∙ ap (λ (x : Result Text Fault). x >>= (λ rest. let found : Read Parts = Ok (part (braced inside) no_parts, rest) in found)) (require_word_end-not nested r e)

  braced_open : (bs : Text) → NeverCloses bs → braced_word_at nested bs ≡ Err (OpenBrace (suc (length bs)))
  unfolding braced_word_at
  braced_open bs h = ap (word_in_braces nested (suc (length bs))) (none_found bs (braced_at false 0 bs) refl h)

  quoted_sound : (bs : Text) (ps : Parts) (r : Text) → quoted_word_at nested inner bs ≡ Ok (ps, r) → Took PlainIs (34 ∷ bs) ps r
  unfolding quoted_word_at
  quoted_sound bs ps r h =
      let mark = OpenQuote (suc (length bs)) in
      let x = bind_ok (parts_with InQuotes inner bs) (λ x. close_quoted nested mark x.0 x.1) (ps, r) h in
      let y = bind_ok (after_closing 34 mark x.0.1) (λ after. end_quoted nested x.0.0 after) (ps, r) x.2 in
      let z = bind_ok (require_word_end nested y.0) (λ rest. let found : Read Parts = Ok (x.0.0, rest) in found) (ps, r) y.2 in
      let two = ok_pair (x.0.0, z.0) (ps, r) z.2 in
      let end = ended_ok nested y.0 z.0 z.1 in
      let rest : y.0 ≡ r = end.0 ∙ two.1 in
      let k = parts_sound d inner exact InQuotes bs x.0.0 x.0.1 tt x.1 in
      let after : x.0.1 ≡ 34 ∷ r = closed_ok 34 mark x.0.1 y.0 y.1 ∙ ap (λ xs. 34 ∷ xs) rest in
      let made : Took PlainIs (34 ∷ bs) x.0.0 r = record {
        taken = 34 ∷ (k.taken ++ 34 ∷ []);
        whole = ap (λ xs. 34 ∷ xs) (k.whole ∙ ap (λ ys. k.taken ++ ys) after ∙ sym (append_assoc k.taken (34 ∷ []) r));
        is = ((subst (λ ys. word_ends nested ys ≡ true) rest end.1, inr (inl (k.taken, refl, subst (λ ys. IsParts InQuotes x.0.0 k.taken ys) after k.is.0))), k.is.1);
      } in
      subst (λ ps. Took PlainIs (34 ∷ bs) ps r) two.0 made

  quoted_faulty : (bs : Text) (f : Fault) → quoted_word_at nested inner bs ≡ Err f → UnexpandedWordFault d nested (34 ∷ bs) f
  unfolding quoted_word_at
  quoted_faulty bs f h =
      let mark = OpenQuote (suc (length bs)) in
      elim (bind_err (parts_with InQuotes inner bs) (λ x. close_quoted nested mark x.0 x.1) f h) [
        | inl bad ↦ faults.UnexpandedWordFault.in_quotes (parts_faulty d inner exact InQuotes bs f tt bad)
        | inr k ↦ unclosed k.0.0 k.0.1 k.1 k.2
      ] where
        unclosed : (ps : Parts) (r : Text) → parts_with InQuotes inner bs ≡ Ok (ps, r) → close_quoted nested (OpenQuote (suc (length bs))) ps r ≡ Err f → UnexpandedWordFault d nested (34 ∷ bs) f
        unclosed ps r was h =
            let mark = OpenQuote (suc (length bs)) in
            let k = parts_sound d inner exact InQuotes bs ps r tt was in
            elim (bind_err (after_closing 34 mark r) (λ after. end_quoted nested ps after) f h) [
              | inl bad ↦ (
                  let e = closed_err 34 mark r f bad in
                  let none : r ≡ [] = none_before 34 r (parts_close InQuotes ps k.taken r k.is.0) e.1 in
                  let whole : k.taken ≡ bs = sym (append-nil k.taken) ∙ ap (λ ys. k.taken ++ ys) (sym none) ∙ sym k.whole in
                  let inside : IsParts InQuotes ps bs [] = subst (λ xs. IsParts InQuotes ps xs []) whole (subst (λ ys. IsParts InQuotes ps k.taken ys) none k.is.0) in
                  subst (UnexpandedWordFault d nested (34 ∷ bs)) e.0 (faults.UnexpandedWordFault.open_quote ps inside k.is.1)
                  )
              | inr y ↦ elim (bind_err (require_word_end nested y.0) (λ rest. let found : Read Parts = Ok (ps, rest) in found) f y.2) [
                | inl bad ↦ (
                    let e = ended_err nested y.0 f bad in
                    let after : r ≡ 34 ∷ y.0 = closed_ok 34 mark r y.0 y.1 in
                    let inside : IsParts InQuotes ps k.taken (34 ∷ y.0) = subst (λ ys. IsParts InQuotes ps k.taken ys) after k.is.0 in
                    let whole : k.taken ++ 34 ∷ y.0 ≡ bs = ap (λ ys. k.taken ++ ys) (sym after) ∙ sym k.whole in
                    subst (UnexpandedWordFault d nested (34 ∷ bs)) e.0
                    (subst (λ xs. UnexpandedWordFault d nested (34 ∷ xs) (JoinedToClose (length y.0))) whole
                    (faults.UnexpandedWordFault.joined_quote k.taken y.0 ps inside k.is.1 e.1))
                    )
                | inr z ↦ absurd (ok_err (ps, z.0) f z.2)
              ]
            ]

  to_quote : (inside after : Text) (ps : Parts) → IsParts InQuotes ps inside (34 ∷ after) → parts_nesting ps ≤ d → quoted_word_at nested inner (inside ++ 34 ∷ after) ≡ end_quoted nested ps after
  unfolding quoted_word_at
  to_quote inside after ps h deep =
      let mark = OpenQuote (suc (length (inside ++ 34 ∷ after))) in
      ap (λ x. x >>= (λ x. close_quoted nested mark x.0 x.1)) (parts_again d inner exact InQuotes ps inside (34 ∷ after) (h, deep))
      ∙ ap (λ (x : Result Text Fault). x >>= (λ after. end_quoted nested ps after)) (after_closing-at 34 mark after)

  quoted_again : (inside r : Text) (ps : Parts) → IsParts InQuotes ps inside (34 ∷ r) → parts_nesting ps ≤ d → word_ends nested r ≡ true → quoted_word_at nested inner (inside ++ 34 ∷ r) ≡ Ok (ps, r)
  quoted_again inside r ps h deep e = to_quote inside r ps h deep ∙ ap (λ (x : Result Text Fault). x >>= (λ rest. let found : Read Parts = Ok (ps, rest) in found)) (require_word_end-at nested r e)

  quoted_joined : (inside r : Text) (ps : Parts) → IsParts InQuotes ps inside (34 ∷ r) → parts_nesting ps ≤ d
      → word_ends nested r ≡ false → quoted_word_at nested inner (inside ++ 34 ∷ r) ≡ Err (JoinedToClose (length r))
  quoted_joined inside r ps h deep e = to_quote inside r ps h deep ∙ ap (λ (x : Result Text Fault). x >>= (λ rest. let found : Read Parts = Ok (ps, rest) in found)) (require_word_end-not nested r e)

  quoted_met : (bs : Text) (f : Fault) → PartsFault d InQuotes bs f → quoted_word_at nested inner bs ≡ Err f
  unfolding quoted_word_at
  quoted_met bs f h = ap (λ x. x >>= (λ x. close_quoted nested (OpenQuote (suc (length bs))) x.0 x.1)) (parts_met d inner exact InQuotes bs f h)

  quoted_open : (bs : Text) (ps : Parts) → IsParts InQuotes ps bs [] → parts_nesting ps ≤ d → quoted_word_at nested inner bs ≡ Err (OpenQuote (suc (length bs)))
  unfolding quoted_word_at
  quoted_open bs ps h deep =
      let mark = OpenQuote (suc (length bs)) in
      let read : parts_with InQuotes inner bs ≡ Ok (ps, []) = ap (parts_with InQuotes inner) (sym (append-nil bs)) ∙ parts_again d inner exact InQuotes ps bs [] (h, deep) in
      ap (λ x. x >>= (λ x. close_quoted nested mark x.0 x.1)) read

  -- A word that doesn't expand

  at_brace : (bs : Text) → unexpanded_word_at nested inner (123 ∷ bs) ≡ braced_word_at nested bs
  unfolding unexpanded_word_at
  at_brace bs = refl

  at_quote : (bs : Text) → unexpanded_word_at nested inner (34 ∷ bs) ≡ quoted_word_at nested inner bs
  unfolding unexpanded_word_at
  at_quote bs = refl

  at_bare : (bs : Text) → Without 123 bs → Without 34 bs → unexpanded_word_at nested inner bs ≡ parts_with (bare nested) inner bs
  unfolding unexpanded_word_at
  at_bare bs x y =
      on_mark-not 123 bs (braced_word_at nested) (on_mark 34 bs (quoted_word_at nested inner) (parts_with (bare nested) inner bs)) x
      ∙ on_mark-not 34 bs (quoted_word_at nested inner) (parts_with (bare nested) inner bs) y

  bare_sound : (bs : Text) (ps : Parts) (r : Text) → WordGoesOn bs → Without 123 bs → Without 34 bs → parts_with (bare nested) inner bs ≡ Ok (ps, r) → Took PlainIs bs ps r
  bare_sound bs ps r b x y h =
      let k = parts_sound d inner exact (bare nested) bs ps r tt h in
      let end : word_ends nested r ≡ true = sym (bare_end nested r) ∙ parts_close (bare nested) ps k.taken r k.is.0 in
      record { taken = k.taken; whole = k.whole; is = ((end, inr (inr (bare_first nested bs k.taken r k.whole b end x y, k.is.0))), k.is.1) }

  pub plain_sound : (bs : Text) (ps : Parts) (r : Text) → WordGoesOn bs → unexpanded_word_at nested inner bs ≡ Ok (ps, r) → Took PlainIs bs ps r
  plain_sound bs ps r b h = elim (mark_or_none 123 bs) [
    | inl k ↦ subst (λ xs. Took PlainIs xs ps r) (sym k.1) (braced_sound k.0 ps r (sym (ap (unexpanded_word_at nested inner) k.1 ∙ at_brace k.0) ∙ h))
    | inr x ↦ elim (mark_or_none 34 bs) [
      | inl k ↦ subst (λ xs. Took PlainIs xs ps r) (sym k.1) (quoted_sound k.0 ps r (sym (ap (unexpanded_word_at nested inner) k.1 ∙ at_quote k.0) ∙ h))
      | inr y ↦ bare_sound bs ps r b x y (sym (at_bare bs x y) ∙ h)
    ]
  ]

  bare_start : (bs : Text) → WordGoesOn bs → Without 123 bs → Without 34 bs → DoesBegin (λ b. not (b == 123 || b == 34)) bs
  bare_start [] b x y = absurd (true_false (sym b))
  bare_start (c ∷ bs) b x y = either_mark c x y

  pub plain_faulty : (bs : Text) (f : Fault) → WordGoesOn bs → unexpanded_word_at nested inner bs ≡ Err f → UnexpandedWordFault d nested bs f
  plain_faulty bs f b h = elim (mark_or_none 123 bs) [
    | inl k ↦ subst (λ xs. UnexpandedWordFault d nested xs f) (sym k.1) (braced_faulty k.0 f (sym (ap (unexpanded_word_at nested inner) k.1 ∙ at_brace k.0) ∙ h))
    | inr x ↦ elim (mark_or_none 34 bs) [
      | inl k ↦ subst (λ xs. UnexpandedWordFault d nested xs f) (sym k.1) (quoted_faulty k.0 f (sym (ap (unexpanded_word_at nested inner) k.1 ∙ at_quote k.0) ∙ h))
      | inr y ↦ faults.UnexpandedWordFault.in_bare (bare_start bs b x y) (parts_faulty d inner exact (bare nested) bs f tt (sym (at_bare bs x y) ∙ h))
    ]
  ]

  pub plain_again : (ps : Parts) (t r : Text) → PlainIs ps t r → unexpanded_word_at nested inner (t ++ r) ≡ Ok (ps, r)
  plain_again ps t r ((e, inl h), deep) =
      ap (λ xs. unexpanded_word_at nested inner (xs ++ r)) h.2 ∙ at_brace ((h.0 ++ 125 ∷ []) ++ r) ∙ ap (braced_word_at nested) (append_assoc h.0 (125 ∷ []) r) ∙ braced_again h.0 r h.3 e
      ∙ ap (λ ps. let found : Read Parts = Ok (ps, r) in found) (sym h.1)
  plain_again ps t r ((e, inr (inl h)), deep) =
      ap (λ xs. unexpanded_word_at nested inner (xs ++ r)) h.1 ∙ at_quote ((h.0 ++ 34 ∷ []) ++ r) ∙ ap (quoted_word_at nested inner) (append_assoc h.0 (34 ∷ []) r) ∙ quoted_again h.0 r ps h.2 deep e
  plain_again ps t r ((e, inr (inr h)), deep) =
      let free = bare_bytes t h.0 r in
      at_bare (t ++ r) free.0 free.1 ∙ parts_again d inner exact (bare nested) ps t r (h.1, deep)

  pub plain_met : {bs : Text} {f : Fault} → UnexpandedWordFault d nested bs f → unexpanded_word_at nested inner bs ≡ Err f
  plain_met (faults.UnexpandedWordFault.open_brace {bs = bs} h) = at_brace bs ∙ braced_open bs h
  plain_met (faults.UnexpandedWordFault.joined_brace inside rest h k) = at_brace (inside ++ 125 ∷ rest) ∙ braced_joined inside rest h k
  plain_met (faults.UnexpandedWordFault.in_quotes {bs = bs} {f = f} h) = at_quote bs ∙ quoted_met bs f h
  plain_met (faults.UnexpandedWordFault.open_quote {bs = bs} ps h k) = at_quote bs ∙ quoted_open bs ps h k
  plain_met (faults.UnexpandedWordFault.joined_quote inside rest ps h k l) = at_quote (inside ++ 34 ∷ rest) ∙ quoted_joined inside rest ps h k l
  plain_met (faults.UnexpandedWordFault.in_bare {bs = bs} {f = f} h k) =
      let free = bare_bytes bs h [] in
      let one : Without 123 bs = subst (Without 123) (append-nil bs) free.0 in
      let two : Without 34 bs = subst (Without 34) (append-nil bs) free.1 in
      at_bare bs one two ∙ parts_met d inner exact (bare nested) bs f k

  -- the mark {*} alone, where the word doesn't end behind it
  pub star_joined : (rest : Text) → word_ends nested rest ≡ false → unexpanded_word_at nested inner (123 ∷ (42 ∷ (125 ∷ rest))) ≡ Err (JoinedToClose (length rest))
  star_joined rest h = at_brace (42 ∷ (125 ∷ rest)) ∙ braced_joined (42 ∷ []) rest one_star h

  -- A word

  abbrev pub WordIs : Word → Text → Text → Type 0
  WordIs w t r = IsWord nested w t r × (word_nesting w ≤ d)

  from : (bs : Text) (found : Option Text) → after_expansion nested bs ≡ found → word_at nested inner bs ≡ word_from nested inner bs found
  unfolding word_at
  from bs found h = ap (word_from nested inner bs) h

  word_sound : (bs : Text) (w : Word) (r : Text) → WordGoesOn bs → word_at nested inner bs ≡ Ok (w, r) → Took WordIs bs w r
  word_sound bs w r b h = elim (expansion nested bs) [
    | inl k ↦ (
        let x = read_map_ok (word_of true) (unexpanded_word_at nested inner k.0.0) w r (sym (from bs (Some k.0.0) k.1) ∙ h) in
        let t = plain_sound k.0.0 x.0 r k.0.2 x.1 in
        let made : Took WordIs bs (word_of true x.0) r = record {
          taken = 123 ∷ (42 ∷ (125 ∷ t.taken));
          whole = k.0.1 ∙ ap (λ xs. 123 ∷ (42 ∷ (125 ∷ xs))) t.whole;
          is = ((t.taken, refl, ap (word_ends nested) (sym t.whole) ∙ k.0.2, t.is.0), t.is.1);
        } in
        subst (λ w. Took WordIs bs w r) x.2 made
        )
    | inr k ↦ (
        let x = read_map_ok (word_of false) (unexpanded_word_at nested inner bs) w r (sym (from bs None k.1) ∙ h) in
        let t = plain_sound bs x.0 r b x.1 in
        let made : Took WordIs bs (word_of false x.0) r = record { taken = t.taken; whole = t.whole; is = (t.is.0, t.is.1) } in
        subst (λ w. Took WordIs bs w r) x.2 made
        )
  ]

  word_faulty : (bs : Text) (f : Fault) → WordGoesOn bs → word_at nested inner bs ≡ Err f → WordFault d nested bs f
  word_faulty bs f b h = elim (expansion nested bs) [
    | inl k ↦ subst (λ xs. WordFault d nested xs f) (sym k.0.1)
        (faults.WordFault.expanding k.0.2 (plain_faulty k.0.0 f k.0.2
        (read_map_err (word_of true) (unexpanded_word_at nested inner k.0.0) f (sym (from bs (Some k.0.0) k.1) ∙ h))))
    | inr k ↦ faults.WordFault.not_expanding k.0 (plain_faulty bs f b (read_map_err (word_of false) (unexpanded_word_at nested inner bs) f (sym (from bs None k.1) ∙ h)))
  ]

  -- a word that doesn't expand doesn't begin as one that does
  no_expansion : (ps : Parts) (t r : Text) → PlainIs ps t r → after_expansion nested (t ++ r) ≡ None
  no_expansion ps t r h = elim (expansion nested (t ++ r)) [
    | inr k ↦ k.1
    | inl k ↦ (
        let joined : unexpanded_word_at nested inner (t ++ r) ≡ Err (JoinedToClose (length k.0.0)) =
        ap (unexpanded_word_at nested inner) k.0.1 ∙ star_joined k.0.0 k.0.2 in
        absurd (err_ok (ps, r) _ (sym joined ∙ plain_again ps t r h))
        )
  ]

  word_again : (w : Word) (t r : Text) → WordIs w t r → word_at nested inner (t ++ r) ≡ Ok (w, r)
  word_again (word_of false ps) t r h = from (t ++ r) None (no_expansion ps t r (h.0, h.1)) ∙ ap (read_map (word_of false)) (plain_again ps t r (h.0, h.1))
  word_again (word_of true ps) t r h =
      let body = h.0.0 in
      ap (λ xs. word_at nested inner (xs ++ r)) h.0.1 ∙ from (123 ∷ (42 ∷ (125 ∷ (body ++ r)))) (Some (body ++ r)) (expansion-at nested (body ++ r) h.0.2)
      ∙ ap (read_map (word_of true)) (plain_again ps body r (h.0.3, h.1))

  unexpanded : (bs : Text) → (Expands nested bs → ⊥) → after_expansion nested bs ≡ None
  unexpanded bs h = elim (expansion nested bs) [ inr k ↦ k.1 | inl k ↦ absurd (h k.0) ]

  word_met : (bs : Text) (f : Fault) → WordFault d nested bs f → word_at nested inner bs ≡ Err f
  word_met bs f (faults.WordFault.not_expanding h k) = from bs None (unexpanded bs h) ∙ ap (read_map (word_of false)) (plain_met k)
  word_met _ f (faults.WordFault.expanding {body = body} h k) = from (123 ∷ (42 ∷ (125 ∷ body))) (Some body) (expansion-at nested body h) ∙ ap (read_map (word_of true)) (plain_met k)

  pub word_exact : Exact (word_at nested inner) WordGoesOn WordIs (WordFault d nested)
  word_exact = record { sound = word_sound; again = word_again; faulty = word_faulty; met = word_met }
