-- The readers of what a dollar sign, a bracket and a quote begin, each behind its mark, are exact: what stands above scripts
-- reads operands by them.
use Rattle.std.proofs.Common.{◌≡◌, ℕ, suc, ◌≤◌, [], ◌∷◌, ◌++◌, length, Result, Ok, Err, refl, sym, ap, subst, ◌∙◌}
use Rattle.std.proofs.Common.{arith, append_assoc, append-nil, ◌⊎◌, inl, inr}
use Rattle.tcltext.specs.chars.Runs.{Text}
use Rattle.tcltext.specs.chars.Reading.{◌>>=◌, Read}
use Rattle.tcltext.specs.declared.chars.fault.Fault.{Fault}
use Rattle.tcltext.specs.declared.chars.fault.Fault.TheVariants.{OpenQuote}
use Rattle.tcltext.proofs.chars.Results.{bind_err, bind_ok, ok_err, ok_pair}
use Rattle.tcltext.specs.declared.script.context.Context.{Context}
use Rattle.tcltext.specs.declared.script.context.Context.TheVariants.{InQuotes}
use Rattle.tcltext.specs.script.Tree.{Parts, Part, parts_nesting, part_nesting}
use Rattle.tcltext.specs.script.Grammar.{IsParts, IsPart}
use Rattle.tcltext.specs.script.Faults.{PartsFault, PartFault}
use Rattle.tcltext.specs.script.Reading.{Inner, after_closing, bracket_at, dollar_at, parts_with, quotes_at}
use Rattle.tcltext.proofs.script.Exact.{Took, Exact}
use Rattle.tcltext.proofs.script.Marks.{closed_ok, closed_err, after_closing-at, none_before}
use Rattle.tcltext.proofs.script.Dollars.{Anywhere, IsExactInner, DollarIs, parts_close, dollar_sound, dollar_faulty}
use Rattle.tcltext.proofs.script.PartsExact.{part_some, at_dollar, at_bracket, part_again, bracket_sound, bracket_faulty}
use Rattle.tcltext.proofs.script.PartFaults.{part_met, parts_sound, parts_faulty, parts_again, parts_met}

-- behind a mark, what is a part with it
abbrev pub Behind : ℕ → ℕ → Context → Part → Text → Text → Type 0
Behind d mark c p t r = IsPart c p (mark ∷ t) r × (part_nesting p ≤ d)

-- a part that begins with the mark, without it
behind_mark : (d mark : ℕ) (c : Context) (bs : Text) (p : Part) (r : Text) → Took (DollarIs d c) (mark ∷ bs) p r → Took (Behind d mark c) bs p r
behind_mark d mark c bs p r k = go k.taken k.whole k.is where
  go : (taken : Text) → mark ∷ bs ≡ taken ++ r → DollarIs d c p taken r → Took (Behind d mark c) bs p r
  go [] e h = absurd (omega (arith, part_some c p [] r h.0))
  go (b ∷ t) e h =
      let same : b ≡ mark = cc in
      let rest : bs ≡ t ++ r = cc in
      record { taken = t; whole = rest; is = (subst (λ b. IsPart c p (b ∷ t) r) same h.0, h.1) }

-- behind a quote, parts up to the quote that closes
abbrev pub Quoted : ℕ → Parts → Text → Text → Type 0
Quoted d ps t r = (inside : Text) × (t ≡ inside ++ 34 ∷ []) × IsParts InQuotes ps inside (34 ∷ r) × (parts_nesting ps ≤ d)

-- or a fault of the parts, or no quote that closes
abbrev pub QuotedFault : ℕ → Text → Fault → Type 0
QuotedFault d bs f = PartsFault d InQuotes bs f ⊎ ((ps : Parts) × IsParts InQuotes ps bs [] × (parts_nesting ps ≤ d) × (OpenQuote (suc (length bs)) ≡ f))

abbrev close_quotes : Fault → Parts → Text → Read Parts
close_quotes mark ps r = after_closing 34 mark r >>= (λ rest. Ok (ps, rest))

module _ (d : ℕ) (inner : Inner) (exact : IsExactInner d inner) where
  pub dollar_exact : (c : Context) → Exact (dollar_at inner) Anywhere (Behind d 36 c) (λ bs f. PartFault d (36 ∷ bs) f)
  dollar_exact c = record {
    sound = λ bs p r b h. behind_mark d 36 c bs p r (dollar_sound d inner exact c bs p r h);
    again = λ p t r h. sym (at_dollar d inner exact c (t ++ r)) ∙ part_again d inner exact c p (36 ∷ t) r h;
    faulty = λ bs f b h. dollar_faulty d inner exact bs f h;
    met = λ bs f h. sym (at_dollar d inner exact c bs) ∙ part_met d inner exact c (36 ∷ bs) f h;
  }

  pub bracket_exact : (c : Context) → Exact (bracket_at inner) Anywhere (Behind d 91 c) (λ bs f. PartFault d (91 ∷ bs) f)
  bracket_exact c = record {
    sound = λ bs p r b h. behind_mark d 91 c bs p r (bracket_sound d inner exact c bs p r h);
    again = λ p t r h. sym (at_bracket d inner exact c (t ++ r)) ∙ part_again d inner exact c p (91 ∷ t) r h;
    faulty = λ bs f b h. bracket_faulty d inner exact bs f h;
    met = λ bs f h. sym (at_bracket d inner exact c bs) ∙ part_met d inner exact c (91 ∷ bs) f h;
  }

  quotes_sound : (bs : Text) (ps : Parts) (r : Text) → Anywhere bs → quotes_at inner bs ≡ Ok (ps, r) → Took (Quoted d) bs ps r
  unfolding quotes_at
  quotes_sound bs ps r b h =
      let mark = OpenQuote (suc (length bs)) in
      let x = bind_ok (parts_with InQuotes inner bs) (λ x. close_quotes mark x.0 x.1) (ps, r) h in
      let y = bind_ok (after_closing 34 mark x.0.1) (λ rest. let found : Read Parts = Ok (x.0.0, rest) in found) (ps, r) x.2 in
      let two = ok_pair (x.0.0, y.0) (ps, r) y.2 in
      let k = parts_sound d inner exact InQuotes bs x.0.0 x.0.1 tt x.1 in
      let after : x.0.1 ≡ 34 ∷ r = closed_ok 34 mark x.0.1 y.0 y.1 ∙ ap (λ xs. 34 ∷ xs) two.1 in
      let made : Took (Quoted d) bs x.0.0 r = record {
        taken = k.taken ++ 34 ∷ [];
        whole = k.whole ∙ ap (λ ys. k.taken ++ ys) after ∙ sym (append_assoc k.taken (34 ∷ []) r);
        is = (k.taken, refl, subst (λ ys. IsParts InQuotes x.0.0 k.taken ys) after k.is.0, k.is.1);
      } in
      subst (λ ps. Took (Quoted d) bs ps r) two.0 made

  quotes_faulty : (bs : Text) (f : Fault) → Anywhere bs → quotes_at inner bs ≡ Err f → QuotedFault d bs f
  unfolding quotes_at
  quotes_faulty bs f b h =
      let mark = OpenQuote (suc (length bs)) in
      elim (bind_err (parts_with InQuotes inner bs) (λ x. close_quotes mark x.0 x.1) f h) [
        | inl bad ↦ inl (parts_faulty d inner exact InQuotes bs f tt bad)
        | inr k ↦ unclosed k.0.0 k.0.1 k.1 k.2
      ] where
        unclosed : (ps : Parts) (r : Text) → parts_with InQuotes inner bs ≡ Ok (ps, r) → close_quotes (OpenQuote (suc (length bs))) ps r ≡ Err f → QuotedFault d bs f
        unclosed ps r was h =
            let mark = OpenQuote (suc (length bs)) in
            elim (bind_err (after_closing 34 mark r) (λ rest. let found : Read Parts = Ok (ps, rest) in found) f h) [
              | inl bad ↦ (
                  let e = closed_err 34 mark r f bad in
                  let k = parts_sound d inner exact InQuotes bs ps r tt was in
                  let none : r ≡ [] = none_before 34 r (parts_close InQuotes ps k.taken r k.is.0) e.1 in
                  let whole : k.taken ≡ bs = sym (append-nil k.taken) ∙ ap (λ ys. k.taken ++ ys) (sym none) ∙ sym k.whole in
                  inr (ps, subst (λ xs. IsParts InQuotes ps xs []) whole (subst (λ ys. IsParts InQuotes ps k.taken ys) none k.is.0), k.is.1, e.0)
                  )
              | inr k ↦ absurd (ok_err (ps, k.0) f k.2)
            ]

  quotes_again : (ps : Parts) (t r : Text) → Quoted d ps t r → quotes_at inner (t ++ r) ≡ Ok (ps, r)
  unfolding quotes_at
  quotes_again ps t r h =
      let whole : t ++ r ≡ h.0 ++ 34 ∷ r = ap (λ xs. xs ++ r) h.1 ∙ append_assoc h.0 (34 ∷ []) r in
      let mark = OpenQuote (suc (length (t ++ r))) in
      ap (λ x. x >>= (λ x. close_quotes mark x.0 x.1)) (ap (parts_with InQuotes inner) whole ∙ parts_again d inner exact InQuotes ps h.0 (34 ∷ r) (h.2, h.3))
      ∙ ap (λ (x : Result Text Fault). x >>= (λ rest. let found : Read Parts = Ok (ps, rest) in found)) (after_closing-at 34 mark r)

  quotes_met : (bs : Text) (f : Fault) → QuotedFault d bs f → quotes_at inner bs ≡ Err f
  unfolding quotes_at
  quotes_met bs f (inl h) = ap (λ x. x >>= (λ x. close_quotes (OpenQuote (suc (length bs))) x.0 x.1)) (parts_met d inner exact InQuotes bs f h)
  quotes_met bs f (inr h) =
      let mark = OpenQuote (suc (length bs)) in
      let read : parts_with InQuotes inner bs ≡ Ok (h.0, []) = ap (parts_with InQuotes inner) (sym (append-nil bs)) ∙ parts_again d inner exact InQuotes h.0 bs [] (h.1, h.2) in
      ap (λ x. x >>= (λ x. close_quotes mark x.0 x.1)) read ∙ ap (λ f. Err f) h.3

  pub quotes_exact : Exact (quotes_at inner) Anywhere (Quoted d) (QuotedFault d)
  quotes_exact = record { sound = quotes_sound; again = quotes_again; faulty = quotes_faulty; met = quotes_met }
