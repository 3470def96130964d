-- Parts are read exactly.
use Rattle.std.proofs.Common.{◌≡◌, ◌≢◌, ℕ, zero, suc, ◌<◌, [], ◌∷◌, ◌++◌, length, Bool, true, false, not, ◌==◌, Option}
use Rattle.std.proofs.Common.{Some, None, Result, Ok, Err, refl, sym, ap, ap₂, subst, ◌∙◌, arith, append_assoc}
use Rattle.std.proofs.Common.{append-nil, ◌⊎◌, inl, inr}
use Rattle.std.proofs.lemmas.Bool.Decides.{nat_tests}
use Rattle.tcltext.specs.chars.Runs.{Text, take_while, drop_while, begins}
use Rattle.tcltext.specs.chars.Bytes.{newline, DoesBegin}
use Rattle.tcltext.specs.chars.Classes.{in_class}
use Rattle.tcltext.specs.chars.Backslash.{after_backslash}
use Rattle.tcltext.specs.chars.Reading.{◌>>=◌, Read}
use Rattle.tcltext.specs.declared.chars.fault.Fault.{Fault}
use Rattle.tcltext.specs.declared.chars.fault.Fault.TheVariants.{OpenBracket, BadCharacter}
use Rattle.tcltext.proofs.chars.Results.{bind_err, bind_ok, err_same, ok_err, ok_pair}
use Rattle.tcltext.specs.declared.script.context.Context.{Context}
use Rattle.tcltext.specs.declared.script.context.Context.TheVariants.{InScript, InBracket, InIndex, InQuotes}
use Rattle.tcltext.specs.script.Tree as tree
use Rattle.tcltext.specs.script.Tree.{Commands, no_commands, command, Parts, part, Part, literal, variable, indexed, bracket}
use Rattle.tcltext.specs.script.Tree.{nesting}
use Rattle.tcltext.specs.script.Ends.{script_ends, ends_at, parts_end, class_of}
use Rattle.tcltext.specs.script.Grammar.{IsRun, IsLiteral, IsCommands, IsPart}
use Rattle.tcltext.specs.script.Faults as faults
use Rattle.tcltext.specs.script.Faults.{PartFault}
use Rattle.tcltext.specs.script.Reading.{Inner, on_mark, after_closing, bracket_at, dollar_at, escaped, backslash_at}
use Rattle.tcltext.specs.script.Reading.{literal_at, part_at}
use Rattle.tcltext.specs.script.Pieces.{IsSuffixOf}
use Rattle.tcltext.proofs.script.Escapes.{LeavesSome, backslash_end}
use Rattle.tcltext.proofs.script.Exact.{Took}
use Rattle.tcltext.proofs.script.Marks.{true_false, Without, mark_or_none, on_mark-not, closed_ok, closed_err}
use Rattle.tcltext.proofs.script.Marks.{after_closing-at, none_before, run_taken, front_run, back_run}
use Rattle.tcltext.proofs.script.Dollars.{ScriptFault, IsExactInner, DollarIs, dollar_sound, dollar_faulty, dollar_alone}
use Rattle.tcltext.proofs.script.Dollars.{variable_again, braced_variable_again, indexed_again}

-- commands go on up to their end
pub commands_close : (size : ℕ) (nested : Bool) (s : Commands) (t r : Text) → IsCommands size nested s t r → script_ends nested r ≡ true
commands_close size nested no_commands t r h = h.1
commands_close size nested (command offset source ws cs) t r h = commands_close size nested cs h.is_second.second r h.is_second.is_second

bracket_or_end : (r : Text) → script_ends true r ≡ true → ends_at 93 r ≡ true
bracket_or_end [] h = refl
bracket_or_end (b ∷ r) h = h

abbrev close_bracket : Fault → Commands → Text → Read Part
close_bracket mark s r = after_closing 93 mark r >>= (λ rest. Ok (bracket s, rest))

-- Backslashes

escaped_sound : (bs : Text) (found : Option (Text × Text)) (p : Part) (r : Text) → escaped bs found ≡ Ok (p, r)
    → ((v : Text) × (found ≡ Some (v, r)) × (p ≡ tree.backslash v)) ⊎ ((bs ≡ []) × (r ≡ []) × (p ≡ literal (92 ∷ [])))
escaped_sound bs (Some x) p r h = let two = ok_pair (tree.backslash x.0, x.1) (p, r) h in inl (x.0, ap (λ y. Some (x.0, y)) two.1, sym two.0)
escaped_sound [] None p r h = let two = ok_pair (literal (92 ∷ []), []) (p, r) h in inr (refl, sym two.1, sym two.0)
escaped_sound (b ∷ bs) None p r h = cc

escaped_faulty : (bs : Text) (found : Option (Text × Text)) (f : Fault) → escaped bs found ≡ Err f → (bs ≢ []) × (found ≡ None) × (BadCharacter (suc (length bs)) ≡ f)
escaped_faulty bs (Some x) f h = absurd (ok_err (tree.backslash x.0, x.1) f h)
escaped_faulty [] None f h = absurd (ok_err (literal (92 ∷ []), []) f h)
escaped_faulty (b ∷ bs) None f h = ((λ e. cc), refl, err_same _ f h)

-- what follows an escape is an end of the text
escape_end : (bs v r : Text) → after_backslash bs ≡ Some (v, r) → (escape : Text) × (bs ≡ escape ++ r)
escape_end bs v r h = subst (LeavesSome (IsSuffixOf bs)) h (backslash_end bs)

-- Bytes

literal_byte : (c : Context) (b : ℕ) → in_class (class_of c) b ≡ true → (not (b == 36) ≡ true) × (not (b == 91) ≡ true) × (not (b == 92) ≡ true)
literal_byte InScript b h = (grind (arith, nat_tests), grind (arith, nat_tests), grind (arith, nat_tests))
literal_byte InBracket b h = (grind (arith, nat_tests), grind (arith, nat_tests), grind (arith, nat_tests))
literal_byte InIndex b h = (grind (arith, nat_tests), grind (arith, nat_tests), grind (arith, nat_tests))
literal_byte InQuotes b h = (grind (arith, nat_tests), grind (arith, nat_tests), grind (arith, nat_tests))

other_byte : (c : Context) (b : ℕ) (bs : Text) → parts_end c (b ∷ bs) ≡ false → not (b == 36) ≡ true → not (b == 91) ≡ true → not (b == 92) ≡ true → in_class (class_of c) b ≡ true
other_byte InScript b bs h x y z = grind (arith, nat_tests)
other_byte InBracket b bs h x y z = grind (arith, nat_tests)
other_byte InIndex b bs h x y z = grind (arith, nat_tests)
other_byte InQuotes b bs h x y z = grind (arith, nat_tests)

-- where no part goes on, none is
pub part_byte : (c : Context) (b : ℕ) (bs : Text) → (b ≡ 36) ⊎ (b ≡ 91) → parts_end c (b ∷ bs) ≡ false
part_byte InScript b bs (inl h) = rw h refl
part_byte InScript b bs (inr h) = rw h refl
part_byte InBracket b bs (inl h) = rw h refl
part_byte InBracket b bs (inr h) = rw h refl
part_byte InIndex b bs (inl h) = rw h refl
part_byte InIndex b bs (inr h) = rw h refl
part_byte InQuotes b bs (inl h) = rw h refl
part_byte InQuotes b bs (inr h) = rw h refl

newline_escape : (bs : Text) → after_backslash bs ≡ None → begins newline bs ≡ false
newline_escape [] h = refl
newline_escape (b ∷ bs) h = go (b == newline) refl h where
  go : (t : Bool) → (b == newline) ≡ t → after_backslash (b ∷ bs) ≡ None → (b == newline) ≡ false
  go false e h = e
  go true e h = absurd (apart (rw e at h)) where
    apart : {A : Type 0} {x : A} → Some x ≡ None → ⊥
    apart h = cc

pub backslash_goes_on : (c : Context) (bs : Text) → begins newline bs ≡ false → parts_end c (92 ∷ bs) ≡ false
backslash_goes_on InScript bs h = h
backslash_goes_on InBracket bs h = h
backslash_goes_on InIndex bs h = refl
backslash_goes_on InQuotes bs h = refl

-- what is wrong with a part stands where parts go on
pub faulty_goes_on : {d : ℕ} (c : Context) {bs : Text} {f : Fault} → PartFault d bs f → parts_end c bs ≡ false
faulty_goes_on c (faults.PartFault.open_name {d} {bs} h) = part_byte c 36 (123 ∷ bs) (inl refl)
faulty_goes_on c (faults.PartFault.bad_character {d} {bs} some h) = backslash_goes_on c bs (newline_escape bs h)
faulty_goes_on c (faults.PartFault.bracket_too_deep {bs}) = part_byte c 91 bs (inr refl)
faulty_goes_on c (faults.PartFault.in_bracket {d} {bs} h) = part_byte c 91 bs (inr refl)
faulty_goes_on c (faults.PartFault.open_bracket {d} {bs} s h less) = part_byte c 91 bs (inr refl)
faulty_goes_on c (faults.PartFault.index_too_deep name bs h) = part_byte c 36 (name ++ 40 ∷ bs) (inl refl)
faulty_goes_on c (faults.PartFault.in_index {d} name bs h k) = part_byte c 36 (name ++ 40 ∷ bs) (inl refl)
faulty_goes_on c (faults.PartFault.open_index {d} name bs ps h k less) = part_byte c 36 (name ++ 40 ∷ bs) (inl refl)

-- a part is some bytes
escape_some : (escape r v : Text) → after_backslash (escape ++ r) ≡ Some (v, r) → 0 < length (92 ∷ escape)
escape_some escape r v h = omega arith

some_run : (p : ℕ → Bool) (t : Text) → DoesBegin p t → 0 < length t
some_run p [] h = absurd h
some_run p (b ∷ t) h = omega arith

literal_some : (c : Context) (t r : Text) → IsLiteral c t r → 0 < length t
literal_some c t r (inl run) = some_run (in_class (class_of c)) t run.0
literal_some c t r (inr (inl dollar)) = omega (arith, ap length dollar.0)
literal_some c t r (inr (inr last)) = omega (arith, ap length last.0)

pub part_some : (c : Context) (p : Part) (t r : Text) → IsPart c p t r → 0 < length t
part_some c (literal x) t r h = omega (arith, ap length h.0, literal_some c x r h.1)
part_some c (tree.braced x) t r h = absurd h
part_some c (tree.backslash v) t r h = omega (arith, ap length h.1)
part_some c (variable name) t r (inl h) = omega (arith, ap length h.0)
part_some c (variable name) t r (inr h) = omega (arith, ap length h.0)
part_some c (indexed name ps) t r h = omega (arith, ap length h.1)
part_some c (bracket s) t r h = omega (arith, ap length h.1)

module _ (d : ℕ) (inner : Inner) (exact : IsExactInner d inner) where
  -- Brackets

  pub bracket_sound : (c : Context) (bs : Text) (p : Part) (r : Text) → bracket_at inner bs ≡ Ok (p, r) → Took (DollarIs d c) (91 ∷ bs) p r
  unfolding bracket_at
  bracket_sound c bs p r h =
      let mark = OpenBracket (suc (length bs)) in
      let x = bind_ok (inner.script bs) (λ x. close_bracket mark x.0 x.1) (p, r) h in
      let y = bind_ok (after_closing 93 mark x.0.1) (λ rest. let found : Read Part = Ok (bracket x.0.0, rest) in found) (p, r) x.2 in
      let two = ok_pair (bracket x.0.0, y.0) (p, r) y.2 in
      let k = exact.script.sound bs x.0.0 x.0.1 tt x.1 in
      let after : x.0.1 ≡ 93 ∷ r = closed_ok 93 mark x.0.1 y.0 y.1 ∙ ap (λ xs. 93 ∷ xs) two.1 in
      let made : Took (DollarIs d c) (91 ∷ bs) (bracket x.0.0) r = record {
        taken = 91 ∷ (k.taken ++ 93 ∷ []);
        whole = ap (λ xs. 91 ∷ xs) (k.whole ∙ ap (λ ys. k.taken ++ ys) after ∙ sym (append_assoc k.taken (93 ∷ []) r));
        is = ((k.taken, refl, subst (λ ys. IsCommands (length k.taken) true x.0.0 k.taken ys) after k.is.0), omega (arith, k.is.1));
      } in
      subst (λ p. Took (DollarIs d c) (91 ∷ bs) p r) two.0 made

  pub bracket_faulty : (bs : Text) (f : Fault) → bracket_at inner bs ≡ Err f → PartFault d (91 ∷ bs) f
  unfolding bracket_at
  bracket_faulty bs f h =
      let mark = OpenBracket (suc (length bs)) in
      elim (bind_err (inner.script bs) (λ x. close_bracket mark x.0 x.1) f h) [
        | inl bad ↦ deeper d (exact.script.faulty bs f tt bad)
        | inr k ↦ unclosed k.0.0 k.0.1 k.1 k.2
      ] where
        deeper : (d : ℕ) → ScriptFault d bs f → PartFault d (91 ∷ bs) f
        deeper zero h = subst (PartFault zero (91 ∷ bs)) (sym h) faults.PartFault.bracket_too_deep
        deeper (suc d) h = faults.PartFault.in_bracket h

        open_at : (d : ℕ) (s : Commands) → IsCommands (length bs) true s bs [] → nesting s < d → PartFault d (91 ∷ bs) (OpenBracket (suc (length bs)))
        open_at zero s h less = absurd (omega arith)
        open_at (suc d) s h less = faults.PartFault.open_bracket s h (omega arith)

        unclosed : (s : Commands) (r : Text) → inner.script bs ≡ Ok (s, r) → close_bracket (OpenBracket (suc (length bs))) s r ≡ Err f → PartFault d (91 ∷ bs) f
        unclosed s r was h =
            let mark = OpenBracket (suc (length bs)) in
            elim (bind_err (after_closing 93 mark r) (λ rest. let found : Read Part = Ok (bracket s, rest) in found) f h) [
              | inl bad ↦ (
                  let e = closed_err 93 mark r f bad in
                  let k = exact.script.sound bs s r tt was in
                  let none : r ≡ [] = none_before 93 r (bracket_or_end r (commands_close (length k.taken) true s k.taken r k.is.0)) e.1 in
                  let whole : k.taken ≡ bs = sym (append-nil k.taken) ∙ ap (λ ys. k.taken ++ ys) (sym none) ∙ sym k.whole in
                  let inside : IsCommands (length bs) true s bs [] = subst (λ xs. IsCommands (length xs) true s xs [])
                  whole (subst (λ ys. IsCommands (length k.taken) true s k.taken ys) none k.is.0) in
                  subst (PartFault d (91 ∷ bs)) e.0 (open_at d s inside k.is.1)
                  )
              | inr k ↦ absurd (ok_err (bracket s, k.0) f k.2)
            ]

  pub bracket_again : (inside r : Text) (s : Commands) → IsCommands (length inside) true s inside (93 ∷ r) → nesting s < d → bracket_at inner (inside ++ 93 ∷ r) ≡ Ok (bracket s, r)
  unfolding bracket_at
  bracket_again inside r s h less =
      let bs = inside ++ 93 ∷ r in
      let mark = OpenBracket (suc (length bs)) in
      ap (λ x. x >>= (λ x. close_bracket mark x.0 x.1)) (exact.script.again s inside (93 ∷ r) (h, less))
      ∙ ap (λ (x : Result Text Fault). x >>= (λ rest. let found : Read Part = Ok (bracket s, rest) in found)) (after_closing-at 93 mark r)

  pub bracket_met : (bs : Text) (f : Fault) → ScriptFault d bs f → bracket_at inner bs ≡ Err f
  unfolding bracket_at
  bracket_met bs f h = ap (λ x. x >>= (λ x. close_bracket (OpenBracket (suc (length bs))) x.0 x.1)) (exact.script.met bs f h)

  pub bracket_open : (bs : Text) (s : Commands) → IsCommands (length bs) true s bs [] → nesting s < d → bracket_at inner bs ≡ Err (OpenBracket (suc (length bs)))
  unfolding bracket_at
  bracket_open bs s h less =
      let mark = OpenBracket (suc (length bs)) in
      let read : inner.script bs ≡ Ok (s, []) = ap inner.script (sym (append-nil bs)) ∙ exact.script.again s bs [] (h, less) in
      ap (λ x. x >>= (λ x. close_bracket mark x.0 x.1)) read

  -- Backslashes

  backslash_sound : (c : Context) (bs : Text) (p : Part) (r : Text) → backslash_at bs ≡ Ok (p, r) → Took (DollarIs d c) (92 ∷ bs) p r
  unfolding backslash_at
  backslash_sound c bs p r h = elim (escaped_sound bs (after_backslash bs) p r h) [
    | inl k ↦ (
        let end = escape_end bs k.0 r k.1 in
        let made : Took (DollarIs d c) (92 ∷ bs) (tree.backslash k.0) r = record {
          taken = 92 ∷ end.0;
          whole = ap (λ xs. 92 ∷ xs) end.1;
          is = ((end.0, refl, ap after_backslash (sym end.1) ∙ k.1), omega arith);
        } in
        subst (λ p. Took (DollarIs d c) (92 ∷ bs) p r) (sym k.2) made
        )
    | inr k ↦ (
        let made : Took (DollarIs d c) (92 ∷ bs) (literal (92 ∷ [])) r = record {
          taken = 92 ∷ [];
          whole = ap (λ xs. 92 ∷ xs) (k.0 ∙ sym k.1);
          is = ((refl, inr (inr (refl, k.1))), omega arith);
        } in
        subst (λ p. Took (DollarIs d c) (92 ∷ bs) p r) (sym k.2) made
        )
  ]

  backslash_faulty : (bs : Text) (f : Fault) → backslash_at bs ≡ Err f → PartFault d (92 ∷ bs) f
  unfolding backslash_at
  backslash_faulty bs f h =
      let k = escaped_faulty bs (after_backslash bs) f h in
      subst (PartFault d (92 ∷ bs)) k.2 (faults.PartFault.bad_character k.0 k.1)

  backslash_again : (escape r v : Text) → after_backslash (escape ++ r) ≡ Some (v, r) → backslash_at (escape ++ r) ≡ Ok (tree.backslash v, r)
  unfolding backslash_at
  backslash_again escape r v h = ap (escaped (escape ++ r)) h

  pub backslash_met : (bs : Text) → bs ≢ [] → after_backslash bs ≡ None → backslash_at bs ≡ Err (BadCharacter (suc (length bs)))
  unfolding backslash_at
  backslash_met bs some h = ap (escaped bs) h ∙ is_bad bs some where
    is_bad : (bs : Text) → bs ≢ [] → escaped bs None ≡ Err (BadCharacter (suc (length bs)))
    is_bad [] some = absurd (some refl)
    is_bad (b ∷ bs) some = refl

  -- A part

  abbrev from_bracket : Context → Text → Read Part
  from_bracket c bs = on_mark 91 bs (bracket_at inner) (on_mark 92 bs backslash_at (literal_at c bs))

  pub at_dollar : (c : Context) (bs : Text) → part_at c inner (36 ∷ bs) ≡ dollar_at inner bs
  unfolding part_at
  at_dollar c bs = refl

  pub at_bracket : (c : Context) (bs : Text) → part_at c inner (91 ∷ bs) ≡ bracket_at inner bs
  unfolding part_at
  at_bracket c bs = refl

  pub at_backslash : (c : Context) (bs : Text) → part_at c inner (92 ∷ bs) ≡ backslash_at bs
  unfolding part_at
  at_backslash c bs = refl

  at_literal : (c : Context) (bs : Text) → Without 36 bs → Without 91 bs → Without 92 bs → part_at c inner bs ≡ literal_at c bs
  unfolding part_at
  at_literal c bs x y z =
      on_mark-not 36 bs (dollar_at inner) (from_bracket c bs) x
      ∙ on_mark-not 91 bs (bracket_at inner) (on_mark 92 bs backslash_at (literal_at c bs)) y
      ∙ on_mark-not 92 bs backslash_at (literal_at c bs) z

  abbrev pub PartIs : Context → Part → Text → Text → Type 0
  PartIs c p t r = (parts_end c (t ++ r) ≡ false) × DollarIs d c p t r

  abbrev pub PartsFollow : Context → Text → Type 0
  PartsFollow c bs = parts_end c bs ≡ false

  there : (c : Context) (bs bs' : Text) (p : Part) (r : Text) → bs ≡ bs' → PartsFollow c bs → Took (DollarIs d c) bs' p r → Took (PartIs c) bs p r
  there c bs bs' p r e b k = record { taken = k.taken; whole = e ∙ k.whole; is = (subst (PartsFollow c) (e ∙ k.whole) b, k.is) }

  begun : (c : Context) (b : ℕ) (bs : Text) → PartsFollow c (b ∷ bs) → Without 36 (b ∷ bs) → Without 91 (b ∷ bs)
      → Without 92 (b ∷ bs) → DoesBegin (in_class (class_of c)) (take_while (in_class (class_of c)) (b ∷ bs))
  begun c b bs h x y z = rw (other_byte c b bs h x y z) (other_byte c b bs h x y z)

  some_text : (c : Context) → PartsFollow c [] → ⊥
  some_text InScript h = true_false (sym h)
  some_text InBracket h = true_false (sym h)
  some_text InIndex h = true_false (sym h)
  some_text InQuotes h = true_false (sym h)

  literal_sound : (c : Context) (bs : Text) (p : Part) (r : Text) → PartsFollow c bs → Without 36 bs → Without 91 bs → Without 92 bs → literal_at c bs ≡ Ok (p, r) → Took (DollarIs d c) bs p r
  literal_sound c [] p r h x y z e = absurd (some_text c h)
  literal_sound c (b ∷ bs) p r h x y z e =
      let test = in_class (class_of c) in
      let two = ok_pair (literal (take_while test (b ∷ bs)), drop_while test (b ∷ bs)) (p, r) e in
      let run = run_taken test (b ∷ bs) in
      let made : Took (DollarIs d c) (b ∷ bs) (literal (take_while test (b ∷ bs))) (drop_while test (b ∷ bs)) = record {
        taken = take_while test (b ∷ bs);
        whole = run.0;
        is = ((refl, inl (begun c b bs h x y z, run.1, run.2)), omega arith);
      } in
      subst (λ p. Took (DollarIs d c) (b ∷ bs) p r) two.0 (subst (λ ys. Took (DollarIs d c) (b ∷ bs) (literal (take_while test (b ∷ bs))) ys) two.1 made)

  pub part_sound : (c : Context) (bs : Text) (p : Part) (r : Text) → PartsFollow c bs → part_at c inner bs ≡ Ok (p, r) → Took (PartIs c) bs p r
  part_sound c bs p r b h = elim (mark_or_none 36 bs) [
    | inl k ↦ there c bs (36 ∷ k.0) p r k.1 b (dollar_sound d inner exact c k.0 p r (sym (ap (part_at c inner) k.1 ∙ at_dollar c k.0) ∙ h))
    | inr x ↦ elim (mark_or_none 91 bs) [
      | inl k ↦ there c bs (91 ∷ k.0) p r k.1 b (bracket_sound c k.0 p r (sym (ap (part_at c inner) k.1 ∙ at_bracket c k.0) ∙ h))
      | inr y ↦ elim (mark_or_none 92 bs) [
        | inl k ↦ there c bs (92 ∷ k.0) p r k.1 b (backslash_sound c k.0 p r (sym (ap (part_at c inner) k.1 ∙ at_backslash c k.0) ∙ h))
        | inr z ↦ there c bs bs p r refl b (literal_sound c bs p r b x y z (sym (at_literal c bs x y z) ∙ h))
      ]
    ]
  ]

  pub part_faulty : (c : Context) (bs : Text) (f : Fault) → PartsFollow c bs → part_at c inner bs ≡ Err f → PartFault d bs f
  part_faulty c bs f b h = elim (mark_or_none 36 bs) [
    | inl k ↦ subst (λ xs. PartFault d xs f) (sym k.1) (dollar_faulty d inner exact k.0 f (sym (ap (part_at c inner) k.1 ∙ at_dollar c k.0) ∙ h))
    | inr x ↦ elim (mark_or_none 91 bs) [
      | inl k ↦ subst (λ xs. PartFault d xs f) (sym k.1) (bracket_faulty k.0 f (sym (ap (part_at c inner) k.1 ∙ at_bracket c k.0) ∙ h))
      | inr y ↦ elim (mark_or_none 92 bs) [
        | inl k ↦ subst (λ xs. PartFault d xs f) (sym k.1) (backslash_faulty k.0 f (sym (ap (part_at c inner) k.1 ∙ at_backslash c k.0) ∙ h))
        | inr z ↦ absurd (ok_err (literal (take_while (in_class (class_of c)) bs), drop_while (in_class (class_of c)) bs) f (sym (at_literal c bs x y z) ∙ h))
      ]
    ]
  ]

  run_again : (c : Context) (t r : Text) → IsRun c t r → part_at c inner (t ++ r) ≡ Ok (literal t, r)
  run_again c [] r h = absurd h.0
  run_again c (b ∷ t) r h =
      let test = in_class (class_of c) in
      let free = literal_byte c b h.0 in
      at_literal c (b ∷ (t ++ r)) free.0 free.1 free.2 ∙ ap₂ (λ (f g : Text). let found : Read Part = Ok (literal f, g) in found) (front_run test (b ∷ t) r h.1 h.2) (back_run test (b ∷ t) r h.1 h.2)

  last_again : (c : Context) → part_at c inner (92 ∷ []) ≡ Ok (literal (92 ∷ []), [])
  unfolding part_at backslash_at
  last_again c = refl

  literal_again : (c : Context) (t r : Text) → IsLiteral c t r → part_at c inner (t ++ r) ≡ Ok (literal t, r)
  literal_again c t r (inl run) = run_again c t r run
  literal_again c t r (inr (inl dollar)) =
      ap (λ xs. part_at c inner (xs ++ r)) dollar.0 ∙ at_dollar c r ∙ dollar_alone d inner exact r dollar.1 dollar.2 ∙ ap (λ xs. let found : Read Part = Ok (literal xs, r) in found) (sym dollar.0)
  literal_again c t r (inr (inr last)) =
      ap₂ (λ (xs ys : Text). part_at c inner (xs ++ ys)) last.0 last.1 ∙ last_again c ∙ ap₂ (λ (xs ys : Text). let found : Read Part = Ok (literal xs, ys) in found) (sym last.0) (sym last.1)

  pub part_again : (c : Context) (p : Part) (t r : Text) → DollarIs d c p t r → part_at c inner (t ++ r) ≡ Ok (p, r)
  part_again c (literal x) t r h = ap (λ xs. part_at c inner (xs ++ r)) h.0.0 ∙ literal_again c x r h.0.1
  part_again c (tree.braced x) t r h = absurd h.0
  part_again c (tree.backslash v) t r h = ap (λ xs. part_at c inner (xs ++ r)) h.0.1 ∙ at_backslash c (h.0.0 ++ r) ∙ backslash_again h.0.0 r v h.0.2
  part_again c (variable name) t r (inl h, less) = ap (λ xs. part_at c inner (xs ++ r)) h.0 ∙ at_dollar c (name ++ r) ∙ variable_again d inner exact name r h.1 h.2 h.3
  part_again c (variable name) t r (inr h, less) =
      ap (λ xs. part_at c inner (xs ++ r)) h.0 ∙ at_dollar c ((123 ∷ (name ++ 125 ∷ [])) ++ r)
      ∙ ap (λ xs. dollar_at inner (123 ∷ xs)) (append_assoc name (125 ∷ []) r)
      ∙ braced_variable_again d inner exact name r h.1
  part_again c (indexed name ps) t r h =
      let inside = h.0.0 in
      ap (λ xs. part_at c inner (xs ++ r)) h.0.1 ∙ at_dollar c ((name ++ 40 ∷ (inside ++ 41 ∷ [])) ++ r)
      ∙ ap (dollar_at inner) (append_assoc name (40 ∷ (inside ++ 41 ∷ [])) r ∙ ap (λ xs. name ++ 40 ∷ xs) (append_assoc inside (41 ∷ []) r))
      ∙ indexed_again d inner exact name inside r ps h.0.2 h.0.3 (omega (arith, h.1))
  part_again c (bracket s) t r h =
      let inside = h.0.0 in
      ap (λ xs. part_at c inner (xs ++ r)) h.0.1 ∙ at_bracket c ((inside ++ 93 ∷ []) ++ r)
      ∙ ap (bracket_at inner) (append_assoc inside (93 ∷ []) r)
      ∙ bracket_again inside r s h.0.2 (omega (arith, h.1))
