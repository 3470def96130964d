-- What a dollar sign begins is read exactly.
use Rattle.std.proofs.Common.{◌≡◌, ◌≢◌, ℕ, zero, suc, ◌<◌, ◌≤◌, [], ◌∷◌, ◌++◌, length, true, not, ◌||◌, ◌==◌, Result}
use Rattle.std.proofs.Common.{Ok, Err, refl, sym, ap, ap₂, subst, ◌∙◌, arith, append_assoc, append-nil, inl, inr}
use Rattle.std.proofs.lemmas.Bool.Decides.{nat_tests}
use Rattle.tcltext.specs.chars.Runs.{Text, take_while, drop_while}
use Rattle.tcltext.specs.chars.Bytes.{AllPass, MayBegin}
use Rattle.tcltext.specs.chars.Classes.{in_class, is_name}
use Rattle.tcltext.specs.chars.Reading.{◌>>=◌, Read, read_map}
use Rattle.tcltext.specs.declared.chars.runs.Class.TheVariants.{InBracedName}
use Rattle.tcltext.specs.declared.chars.fault.Fault.{Fault}
use Rattle.tcltext.specs.declared.chars.fault.Fault.TheVariants.{OpenBrace, TooDeep, BadCharacter}
use Rattle.tcltext.proofs.chars.Results.{bind_err, bind_ok, ok_err, ok_pair, read_map_err, read_map_ok}
use Rattle.tcltext.specs.declared.script.context.Context.{Context}
use Rattle.tcltext.specs.declared.script.context.Context.TheVariants.{InIndex}
use Rattle.tcltext.specs.script.ScanState.{Name, scan}
use Rattle.tcltext.specs.script.Tree.{Parts, no_parts, part, Part, literal, variable, indexed, nesting, parts_nesting}
use Rattle.tcltext.specs.script.Tree.{part_nesting}
use Rattle.tcltext.specs.script.Ends.{parts_end}
use Rattle.tcltext.specs.script.Grammar.{IsName, IsLongestName, IsCommands, IsParts, IsPart}
use Rattle.tcltext.specs.script.Faults.{CommandsFault, PartsFault, PartFault}
use Rattle.tcltext.specs.script.Faults as faults
use Rattle.tcltext.specs.script.Reading.{Inner, after_closing, index_at, braced_name_at, scalar_variable, after_name}
use Rattle.tcltext.specs.script.Reading.{dollar_at}
use Rattle.tcltext.proofs.script.PassedOver.{pass_whole}
use Rattle.tcltext.proofs.script.Names.{name_longest, name_again, longest_before}
use Rattle.tcltext.proofs.script.Exact.{Took, Exact}
use Rattle.tcltext.proofs.script.Marks.{Without, mark_or_none, on_mark-at, on_mark-not, closed_ok, closed_err}
use Rattle.tcltext.proofs.script.Marks.{after_closing-at, none_before, run_taken, front_run, back_run}

abbrev pub Anywhere : Text → Type 0
Anywhere bs = Unit {0}

-- what the readers of brackets and indexes meet, where so many may nest
abbrev pub ScriptFault : ℕ → Text → Fault → Type 0
ScriptFault zero bs f = f ≡ TooDeep
ScriptFault (suc d) bs f = CommandsFault d true bs f

abbrev pub IndexFault : ℕ → Text → Fault → Type 0
IndexFault zero bs f = f ≡ TooDeep
IndexFault (suc d) bs f = PartsFault d InIndex bs f

-- they read scripts and parts that nest less deep than the number
pub record IsExactInner (d : ℕ) (inner : Inner) : Type 0 where
  pub script : Exact inner.script Anywhere (λ s t r. IsCommands (length t) true s t r × (nesting s < d)) (ScriptFault d)
  pub index : Exact inner.index Anywhere (λ ps t r. IsParts InIndex ps t r × (parts_nesting ps < d)) (IndexFault d)

-- parts go on up to their end
pub parts_close : (c : Context) (ps : Parts) (t r : Text) → IsParts c ps t r → parts_end c r ≡ true
parts_close c no_parts t r h = h.1
parts_close c (part p ps) t r h = parts_close c ps h.second r h.is_second

abbrev pub DollarIs : ℕ → Context → Part → Text → Text → Type 0
DollarIs d c p t r = IsPart c p t r × (part_nesting p ≤ d)

two_parts : (name inside r : Text) (mark : ℕ) → (name ++ mark ∷ (inside ++ 41 ∷ [])) ++ r ≡ name ++ mark ∷ (inside ++ 41 ∷ r)
two_parts name inside r mark = append_assoc name (mark ∷ (inside ++ 41 ∷ [])) r ∙ ap (λ xs. name ++ mark ∷ xs) (append_assoc inside (41 ∷ []) r)

-- names

in_name_end : (bs : Text) → MayBegin (λ b. not (in_class InBracedName b)) bs → Without 125 bs → bs ≡ []
in_name_end [] h k = refl
in_name_end (b ∷ bs) h k = absurd (apart b h k) where
  apart : (b : ℕ) → not (in_class InBracedName b) ≡ true → not (b == 125) ≡ true → ⊥
  apart b h k = grind (arith, nat_tests)

either_mark : (b : ℕ) → not (b == 40) ≡ true → not (b == 123) ≡ true → not (b == 40 || b == 123) ≡ true
either_mark b h k = grind (arith, nat_tests)

no_marks : (bs : Text) → Without 40 bs → Without 123 bs → MayBegin (λ b. not (b == 40 || b == 123)) bs
no_marks [] h k = tt
no_marks (b ∷ bs) h k = either_mark b h k

left_mark : (b : ℕ) → not (b == 40 || b == 123) ≡ true → (not (b == 40) ≡ true) × (not (b == 123) ≡ true)
left_mark b h = (grind (arith, nat_tests), grind (arith, nat_tests))

both_marks : (bs : Text) → MayBegin (λ b. not (b == 40 || b == 123)) bs → Without 40 bs × Without 123 bs
both_marks [] h = (tt, tt)
both_marks (b ∷ bs) h = left_mark b h

named_byte : (b : ℕ) → is_name b ≡ true → not (b == 123) ≡ true
named_byte b h = grind (arith, nat_tests)

-- no name begins with a brace
name_brace : {name : Text} → IsName name → (after : Text) → Without 123 after → Without 123 (name ++ after)
name_brace IsName.nothing after k = k
name_brace (IsName.letter {b} h is) after k = named_byte b h
name_brace (IsName.colons run h is) after k = refl

-- behind the parenthesis and the brace that close
abbrev close_index : Fault → Parts → Text → Read Parts
close_index mark ps r = after_closing 41 mark r >>= (λ rest. Ok (ps, rest))

abbrev close_name : Fault → Text → Text → Read Part
close_name mark name r = after_closing 125 mark r >>= (λ rest. Ok (variable name, rest))

module _ (d : ℕ) (inner : Inner) (exact : IsExactInner d inner) where
  -- behind a name, the parenthesis of an index
  index_sound : (c : Context) (name bs : Text) (ps : Parts) (r : Text) → IsName name → index_at inner bs ≡ Ok (ps, r) → Took (DollarIs d c) (36 ∷ (name ++ 40 ∷ bs)) (indexed name ps) r
  unfolding index_at
  index_sound c name bs ps r is h =
      let fault = BadCharacter (suc (length bs)) in
      let x = bind_ok (inner.index bs) (λ x. close_index fault x.0 x.1) (ps, r) h in
      let y = bind_ok (after_closing 41 fault x.0.1) (λ rest. Ok (x.0.0, rest)) (ps, r) x.2 in
      let two = ok_pair (x.0.0, y.0) (ps, r) y.2 in
      let k = exact.index.sound bs x.0.0 x.0.1 tt x.1 in
      let after : x.0.1 ≡ 41 ∷ r = closed_ok 41 fault x.0.1 y.0 y.1 ∙ ap (λ xs. 41 ∷ xs) two.1 in
      let inside : IsParts InIndex ps k.taken (41 ∷ r) = subst (λ ps. IsParts InIndex ps k.taken (41 ∷ r)) two.0 (subst (λ ys. IsParts InIndex x.0.0 k.taken ys) after k.is.0) in
      let deep : parts_nesting ps < d = omega (arith, k.is.1, ap parts_nesting two.0) in
      record {
        taken = 36 ∷ (name ++ 40 ∷ (k.taken ++ 41 ∷ []));
        whole = ap (λ xs. 36 ∷ (name ++ 40 ∷ xs)) (k.whole ∙ ap (λ ys. k.taken ++ ys) after) ∙ ap (λ xs. 36 ∷ xs) (sym (two_parts name k.taken r 40));
        is = ((k.taken, refl, is, inside), omega (arith, deep));
      }

  index_faulty : (name bs : Text) (f : Fault) → IsName name → index_at inner bs ≡ Err f → PartFault d (36 ∷ (name ++ 40 ∷ bs)) f
  unfolding index_at
  index_faulty name bs f is h =
      let fault = BadCharacter (suc (length bs)) in
      elim (bind_err (inner.index bs) (λ x. close_index fault x.0 x.1) f h) [
        | inl bad ↦ deeper d name bs f is (exact.index.faulty bs f tt bad)
        | inr k ↦ unclosed bs f is k.0.0 k.0.1 k.1 k.2
      ] where
        deeper : (d : ℕ) (name bs : Text) (f : Fault) → IsName name → IndexFault d bs f → PartFault d (36 ∷ (name ++ 40 ∷ bs)) f
        deeper zero name bs f is h = subst (PartFault zero (36 ∷ (name ++ 40 ∷ bs))) (sym h) (faults.PartFault.index_too_deep name bs is)
        deeper (suc d) name bs f is h = faults.PartFault.in_index name bs is h

        open_at : (d : ℕ) (bs : Text) (ps : Parts) → IsName name → IsParts InIndex ps bs [] → parts_nesting ps < d → PartFault d (36 ∷ (name ++ 40 ∷ bs)) (BadCharacter (suc (length bs)))
        open_at zero bs ps is h less = absurd (omega arith)
        open_at (suc d) bs ps is h less = faults.PartFault.open_index name bs ps is h (omega arith)

        unclosed : (bs : Text) (f : Fault) → IsName name → (ps : Parts) (r : Text) → inner.index bs ≡ Ok (ps, r)
            → close_index (BadCharacter (suc (length bs))) ps r ≡ Err f → PartFault d (36 ∷ (name ++ 40 ∷ bs)) f
        unclosed bs f is ps r was h =
            let mark = BadCharacter (suc (length bs)) in
            elim (bind_err (after_closing 41 mark r) (λ rest. Ok (ps, rest)) f h) [
              | inl bad ↦ (
                  let e = closed_err 41 mark r f bad in
                  let k = exact.index.sound bs ps r tt was in
                  let none : r ≡ [] = none_before 41 r (parts_close InIndex ps k.taken r k.is.0) e.1 in
                  let whole : k.taken ≡ bs = sym (append-nil k.taken) ∙ ap (λ ys. k.taken ++ ys) (sym none) ∙ sym k.whole in
                  let inside : IsParts InIndex ps bs [] = subst (λ xs. IsParts InIndex ps xs []) whole (subst (λ ys. IsParts InIndex ps k.taken ys) none k.is.0) in
                  subst (PartFault d (36 ∷ (name ++ 40 ∷ bs))) e.0 (open_at d bs ps is inside k.is.1)
                  )
              | inr k ↦ absurd (ok_err (ps, k.0) f k.2)
            ]

  index_again : (inside r : Text) (ps : Parts) → IsParts InIndex ps inside (41 ∷ r) → parts_nesting ps < d → index_at inner (inside ++ 41 ∷ r) ≡ Ok (ps, r)
  unfolding index_at
  index_again inside r ps h less =
      let bs = inside ++ 41 ∷ r in
      let mark = BadCharacter (suc (length bs)) in
      ap (λ x. x >>= (λ x. close_index mark x.0 x.1)) (exact.index.again ps inside (41 ∷ r) (h, less))
      ∙ ap (λ (x : Result Text Fault). x >>= (λ rest. let found : Read Parts = Ok (ps, rest) in found)) (after_closing-at 41 mark r)

  index_met : (bs : Text) (f : Fault) → IndexFault d bs f → index_at inner bs ≡ Err f
  unfolding index_at
  index_met bs f h = ap (λ x. x >>= (λ x. close_index (BadCharacter (suc (length bs))) x.0 x.1)) (exact.index.met bs f h)

  index_open : (bs : Text) (ps : Parts) → IsParts InIndex ps bs [] → parts_nesting ps < d → index_at inner bs ≡ Err (BadCharacter (suc (length bs)))
  unfolding index_at
  index_open bs ps h less =
      let mark = BadCharacter (suc (length bs)) in
      let read : inner.index bs ≡ Ok (ps, []) = ap inner.index (sym (append-nil bs)) ∙ exact.index.again ps bs [] (h, less) in
      ap (λ x. x >>= (λ x. close_index mark x.0 x.1)) read

  -- behind a dollar sign

  plain_sound : (c : Context) (name rest : Text) → Without 40 rest → Without 123 (name ++ rest)
      → IsLongestName name rest → IsPart c (scalar_variable name) (36 ∷ name) rest
      × (part_nesting (scalar_variable name) ≤ d)
  plain_sound c [] rest h k is = ((refl, inr (inl (refl, is, no_marks rest h k))), omega arith)
  plain_sound c (b ∷ name) rest h k is = (inl (refl, (λ e. cc), is, h), omega arith)

  name_sound : (c : Context) (name rest : Text) (p : Part) (r : Text) → Without 123 (name ++ rest)
      → IsLongestName name rest → after_name inner (name, rest) ≡ Ok (p, r)
      → Took (DollarIs d c) (36 ∷ (name ++ rest)) p r
  name_sound c name rest p r free is h =
      let found = λ (bs : Text). read_map (indexed name) (index_at inner bs) in
      let other : Read Part = Ok (scalar_variable name, rest) in
      elim (mark_or_none 40 rest) [
        | inl k ↦ (
            let x = read_map_ok (indexed name) (index_at inner k.0) p r (sym (on_mark-at 40 rest k.0 found other k.1) ∙ h) in
            let made = index_sound c name k.0 x.0 r is.0 x.1 in
            subst (λ ys. Took (DollarIs d c) (36 ∷ (name ++ ys)) p r) (sym k.1) (subst (λ p. Took (DollarIs d c) (36 ∷ (name ++ 40 ∷ k.0)) p r) x.2 made)
            )
        | inr k ↦ (
            let two = ok_pair (scalar_variable name, rest) (p, r) (sym (on_mark-not 40 rest found other k) ∙ h) in
            let made : Took (DollarIs d c) (36 ∷ (name ++ rest)) (scalar_variable name) rest = record { taken = 36 ∷ name; whole = refl; is = plain_sound c name rest k free is } in
            subst (λ p. Took (DollarIs d c) (36 ∷ (name ++ rest)) p r) two.0 (subst (λ ys. Took (DollarIs d c) (36 ∷ (name ++ rest)) (scalar_variable name) ys) two.1 made)
            )
      ]

  name_faulty : (name rest : Text) (f : Fault) → IsName name → after_name inner (name, rest) ≡ Err f → PartFault d (36 ∷ (name ++ rest)) f
  name_faulty name rest f is h =
      let found = λ (bs : Text). read_map (indexed name) (index_at inner bs) in
      let other : Read Part = Ok (scalar_variable name, rest) in
      elim (mark_or_none 40 rest) [
        | inl k ↦ subst (λ ys. PartFault d (36 ∷ (name ++ ys)) f) (sym k.1)
            (index_faulty name k.0 f is (read_map_err (indexed name) (index_at inner k.0) f
            (sym (on_mark-at 40 rest k.0 found other k.1) ∙ h)))
        | inr k ↦ absurd (ok_err (scalar_variable name, rest) f (sym (on_mark-not 40 rest found other k) ∙ h))
      ]

  braced_sound : (c : Context) (bs : Text) (p : Part) (r : Text) → braced_name_at bs ≡ Ok (p, r) → Took (DollarIs d c) (36 ∷ (123 ∷ bs)) p r
  unfolding braced_name_at
  braced_sound c bs p r h =
      let name = take_while (in_class InBracedName) bs in
      let after = drop_while (in_class InBracedName) bs in
      let mark = OpenBrace (suc (length bs)) in
      let x = bind_ok (after_closing 125 mark after) (λ rest. Ok (variable name, rest)) (p, r) h in
      let two = ok_pair (variable name, x.0) (p, r) x.2 in
      let run = run_taken (in_class InBracedName) bs in
      let whole : bs ≡ name ++ 125 ∷ r = run.0 ∙ ap (λ ys. name ++ ys) (closed_ok 125 mark after x.0 x.1 ∙ ap (λ ys. 125 ∷ ys) two.1) in
      let made : Took (DollarIs d c) (36 ∷ (123 ∷ bs)) (variable name) r = record {
        taken = 36 ∷ (123 ∷ (name ++ 125 ∷ []));
        whole = ap (λ xs. 36 ∷ (123 ∷ xs)) (whole ∙ sym (append_assoc name (125 ∷ []) r));
        is = (inr (refl, run.1), omega arith);
      } in
      subst (λ p. Took (DollarIs d c) (36 ∷ (123 ∷ bs)) p r) two.0 made

  braced_faulty : (bs : Text) (f : Fault) → braced_name_at bs ≡ Err f → PartFault d (36 ∷ (123 ∷ bs)) f
  unfolding braced_name_at
  braced_faulty bs f h =
      let name = take_while (in_class InBracedName) bs in
      let after = drop_while (in_class InBracedName) bs in
      let mark = OpenBrace (suc (length bs)) in
      let run = run_taken (in_class InBracedName) bs in
      elim (bind_err (after_closing 125 mark after) (λ rest. Ok (variable name, rest)) f h) [
        | inl bad ↦ (
            let e = closed_err 125 mark after f bad in
            let none : after ≡ [] = in_name_end after run.2 e.1 in
            let all : name ≡ bs = sym (append-nil name) ∙ ap (λ ys. name ++ ys) (sym none) ∙ sym run.0 in
            subst (PartFault d (36 ∷ (123 ∷ bs))) e.0 (faults.PartFault.open_name (subst (AllPass (in_class InBracedName)) all run.1))
            )
        | inr k ↦ absurd (ok_err (variable name, k.0) f k.2)
      ]

  pub dollar_sound : (c : Context) (bs : Text) (p : Part) (r : Text) → dollar_at inner bs ≡ Ok (p, r) → Took (DollarIs d c) (36 ∷ bs) p r
  unfolding dollar_at
  dollar_sound c bs p r h = elim (mark_or_none 123 bs) [
    | inl k ↦ subst (λ ys. Took (DollarIs d c) (36 ∷ ys) p r) (sym k.1) (braced_sound c k.0 p r (sym (on_mark-at 123 bs k.0 braced_name_at (after_name inner (scan Name bs)) k.1) ∙ h))
    | inr k ↦ (
        let whole = pass_whole Name bs in
        subst (λ ys. Took (DollarIs d c) (36 ∷ ys) p r) (sym whole)
        (name_sound c (scan Name bs).0 (scan Name bs).1 p r (subst (Without 123) whole k) (name_longest bs) (sym (on_mark-not 123 bs braced_name_at (after_name inner (scan Name bs)) k) ∙ h))
        )
  ]

  pub dollar_faulty : (bs : Text) (f : Fault) → dollar_at inner bs ≡ Err f → PartFault d (36 ∷ bs) f
  unfolding dollar_at
  dollar_faulty bs f h = elim (mark_or_none 123 bs) [
    | inl k ↦ subst (λ ys. PartFault d (36 ∷ ys) f) (sym k.1) (braced_faulty k.0 f (sym (on_mark-at 123 bs k.0 braced_name_at (after_name inner (scan Name bs)) k.1) ∙ h))
    | inr k ↦ (
        let whole = pass_whole Name bs in
        subst (λ ys. PartFault d (36 ∷ ys) f) (sym whole)
        (name_faulty (scan Name bs).0 (scan Name bs).1 f (name_longest bs).0 (sym (on_mark-not 123 bs braced_name_at (after_name inner (scan Name bs)) k) ∙ h))
        )
  ]

  -- what is there is read

  to_name : (name rest : Text) → Without 123 (name ++ rest) → IsLongestName name rest → dollar_at inner (name ++ rest) ≡ after_name inner (name, rest)
  unfolding dollar_at
  to_name name rest free is =
      on_mark-not 123 (name ++ rest) braced_name_at (after_name inner (scan Name (name ++ rest))) free ∙ ap (after_name inner) (name_again name rest is)

  pub dollar_alone : (r : Text) → IsLongestName [] r → MayBegin (λ b. not (b == 40 || b == 123)) r → dollar_at inner r ≡ Ok (literal (36 ∷ []), r)
  dollar_alone r is h =
      let marks = both_marks r h in
      to_name [] r marks.1 is ∙ on_mark-not 40 r (λ bs. read_map (indexed []) (index_at inner bs)) (Ok (scalar_variable [], r)) marks.0

  pub variable_again : (name r : Text) → name ≢ [] → IsLongestName name r → Without 40 r → dollar_at inner (name ++ r) ≡ Ok (variable name, r)
  variable_again [] r some is h = absurd (some refl)
  variable_again (b ∷ name) r some is h =
      to_name (b ∷ name) r (first_free b name r is.0) is ∙ on_mark-not 40 r (λ bs. read_map (indexed (b ∷ name)) (index_at inner bs)) (Ok (scalar_variable (b ∷ name), r)) h where
        first_free : (b : ℕ) (name r : Text) → IsName (b ∷ name) → Without 123 ((b ∷ name) ++ r)
        first_free b name r is = subst (λ xs. Without 123 xs) (append-nil (b ∷ name)) (name_brace is [] tt)

  braced_again : (name r : Text) → AllPass (in_class InBracedName) name → braced_name_at (name ++ 125 ∷ r) ≡ Ok (variable name, r)
  unfolding braced_name_at
  braced_again name r all =
      let bs = name ++ 125 ∷ r in
      let mark = OpenBrace (suc (length bs)) in
      ap₂ (λ (f b : Text). close_name mark f b) (front_run (in_class InBracedName) name (125 ∷ r) all refl) (back_run (in_class InBracedName) name (125 ∷ r) all refl)
      ∙ ap (λ (x : Result Text Fault). x >>= (λ rest. let found : Read Part = Ok (variable name, rest) in found)) (after_closing-at 125 mark r)

  pub braced_variable_again : (name r : Text) → AllPass (in_class InBracedName) name → dollar_at inner (123 ∷ (name ++ 125 ∷ r)) ≡ Ok (variable name, r)
  unfolding dollar_at
  braced_variable_again name r all = braced_again name r all

  to_index : (name bs : Text) → IsName name → dollar_at inner (name ++ 40 ∷ bs) ≡ read_map (indexed name) (index_at inner bs)
  to_index name bs is =
      to_name name (40 ∷ bs) (name_brace is (40 ∷ bs) refl) (longest_before name 40 bs refl is)
      ∙ on_mark-at 40 (40 ∷ bs) bs (λ bs. read_map (indexed name) (index_at inner bs)) (Ok (scalar_variable name, 40 ∷ bs)) refl

  pub indexed_again : (name inside r : Text) (ps : Parts) → IsName name → IsParts InIndex ps inside (41 ∷ r)
      → parts_nesting ps < d → dollar_at inner (name ++ 40 ∷ (inside ++ 41 ∷ r)) ≡ Ok (indexed name ps, r)
  indexed_again name inside r ps is h less = to_index name (inside ++ 41 ∷ r) is ∙ ap (read_map (indexed name)) (index_again inside r ps h less)

  pub indexed_met : (name bs : Text) (f : Fault) → IsName name → IndexFault d bs f → dollar_at inner (name ++ 40 ∷ bs) ≡ Err f
  indexed_met name bs f is h = to_index name bs is ∙ ap (read_map (indexed name)) (index_met bs f h)

  pub indexed_open : (name bs : Text) (ps : Parts) → IsName name → IsParts InIndex ps bs [] → parts_nesting ps < d → dollar_at inner (name ++ 40 ∷ bs) ≡ Err (BadCharacter (suc (length bs)))
  indexed_open name bs ps is h less = to_index name bs is ∙ ap (read_map (indexed name)) (index_open bs ps h less)

  name_open : (bs : Text) → AllPass (in_class InBracedName) bs → braced_name_at bs ≡ Err (OpenBrace (suc (length bs)))
  unfolding braced_name_at
  name_open bs all =
      let mark = OpenBrace (suc (length bs)) in
      let none : drop_while (in_class InBracedName) bs ≡ [] = ap (drop_while (in_class InBracedName)) (sym (append-nil bs)) ∙ back_run (in_class InBracedName) bs [] all tt in
      ap (close_name mark (take_while (in_class InBracedName) bs)) none

  pub braced_met : (bs : Text) → AllPass (in_class InBracedName) bs → dollar_at inner (123 ∷ bs) ≡ Err (OpenBrace (suc (length bs)))
  unfolding dollar_at
  braced_met bs all = name_open bs all
