-- Parts are read exactly, and a fault of one is met.
use Rattle.std.proofs.Common.{◌≡◌, ℕ, zero, suc, ◌<◌, ◌≤◌, List, [], ◌∷◌, ◌++◌, length, true, Ok, Err, refl, sym, ap}
use Rattle.std.proofs.Common.{subst, ◌∙◌, arith, append_assoc, length-append}
use Rattle.tcltext.specs.chars.Runs.{Text}
use Rattle.tcltext.specs.chars.Reading.{Read, read_map, items_at}
use Rattle.tcltext.specs.declared.chars.fault.Fault.{Fault}
use Rattle.tcltext.proofs.chars.Results.{read_map_err, read_map_ok}
use Rattle.tcltext.specs.declared.script.context.Context.{Context}
use Rattle.tcltext.specs.script.Tree.{Parts, no_parts, part, Part, parts_of, parts_nesting}
use Rattle.tcltext.specs.script.Ends.{parts_end}
use Rattle.tcltext.specs.script.Grammar.{IsParts}
use Rattle.tcltext.specs.script.Faults as faults
use Rattle.tcltext.specs.script.Faults.{PartsFault, PartFault}
use Rattle.tcltext.specs.script.Reading.{Inner, part_at, parts_with}
use Rattle.tcltext.proofs.script.Exact.{Took, Exact, Items, items-end, items-more, items-fail, items_sound, items_faulty}
use Rattle.tcltext.proofs.script.Dollars.{Anywhere, IsExactInner, braced_met, indexed_met, indexed_open}
use Rattle.tcltext.proofs.script.PartsExact.{faulty_goes_on, part_some, PartIs, PartsFollow, part_sound, part_faulty}
use Rattle.tcltext.proofs.script.PartsExact.{part_again, at_dollar, at_bracket, at_backslash, bracket_met, bracket_open}
use Rattle.tcltext.proofs.script.PartsExact.{backslash_met}

-- a fault of a part is met
pub part_met : (d : ℕ) (inner : Inner) → IsExactInner d inner → (c : Context) (bs : Text) (f : Fault) → PartFault d bs f → part_at c inner bs ≡ Err f
part_met d inner exact c _ f (faults.PartFault.open_name {bs = bs} h) = at_dollar d inner exact c (123 ∷ bs) ∙ braced_met d inner exact bs h
part_met d inner exact c _ f (faults.PartFault.bad_character {bs = bs} some h) = at_backslash d inner exact c bs ∙ backslash_met d inner exact bs some h
part_met zero inner exact c _ f (faults.PartFault.bracket_too_deep {bs = bs}) = at_bracket zero inner exact c bs ∙ bracket_met zero inner exact bs f refl
part_met (suc d) inner exact c _ f (faults.PartFault.in_bracket {bs = bs} h) = at_bracket (suc d) inner exact c bs ∙ bracket_met (suc d) inner exact bs f h
part_met (suc d) inner exact c _ f (faults.PartFault.open_bracket {bs = bs} s h less) = at_bracket (suc d) inner exact c bs ∙ bracket_open (suc d) inner exact bs s h (omega (arith, less))
part_met zero inner exact c _ f (faults.PartFault.index_too_deep name bs h) = at_dollar zero inner exact c (name ++ 40 ∷ bs) ∙ indexed_met zero inner exact name bs f h refl
part_met (suc d) inner exact c _ f (faults.PartFault.in_index name bs h k) = at_dollar (suc d) inner exact c (name ++ 40 ∷ bs) ∙ indexed_met (suc d) inner exact name bs f h k
part_met (suc d) inner exact c _ f (faults.PartFault.open_index name bs ps h k less) = at_dollar (suc d) inner exact c
    (name ++ 40 ∷ bs) ∙ indexed_open (suc d) inner exact name bs ps h k (omega (arith, less))

module _ (d : ℕ) (inner : Inner) (exact : IsExactInner d inner) (c : Context) where
  pub part_exact : Exact (part_at c inner) (PartsFollow d inner exact c) (PartIs d inner exact c) (PartFault d)
  part_exact = record {
    sound = part_sound d inner exact c;
    again = λ p t r h. part_again d inner exact c p t r h.1;
    faulty = part_faulty d inner exact c;
    met = part_met d inner exact c;
  }

  abbrev pub NoGapAtAll : Text → Text → Type 0
  NoGapAtAll gap start = gap ≡ []

  part_items : Items (λ bs. bs) (parts_end c) (part_at c inner) NoGapAtAll (PartsFollow d inner exact c) (PartIs d inner exact c) (PartFault d)
  part_items = record {
    exact = part_exact;
    skips = λ bs. ([], refl, refl);
    over = λ gap start h. ap (λ xs. xs ++ start) h;
    begins = λ bs h. h;
    stays = λ start h. (refl, h);
    stops = λ r h. refl;
    good = λ p t r h. h.0;
    bad = λ bs f h. faulty_goes_on c h;
    some = λ p t r h. part_some c p t r h.1.0;
  }

  abbrev pub PartsIs : Parts → Text → Text → Type 0
  PartsIs ps t r = IsParts c ps t r × (parts_nesting ps ≤ d)

  abbrev read : ℕ → Text → Read (List Part)
  read n bs = items_at (λ bs. bs) (parts_end c) (part_at c inner) n bs

  nil : (gap r : Text) → NoGapAtAll gap r → parts_end c r ≡ true → PartsIs (parts_of []) gap r
  nil gap r h e = ((h, e), omega arith)

  cons : (gap body rest r : Text) (p : Part) (ps : List Part) → NoGapAtAll gap ((body ++ rest) ++ r)
      → PartIs d inner exact c p body (rest ++ r) → PartsIs (parts_of ps) rest r
      → PartsIs (parts_of (p ∷ ps)) (gap ++ (body ++ rest)) r
  cons gap body rest r p ps h k l = (record { first = body; second = rest; whole = ap (λ xs. xs ++ (body ++ rest)) h; is_first = (k.0, k.1.0); is_second = l.0 }, omega (arith, k.1.1, l.1))

  here : (gap body : Text) (f : Fault) → NoGapAtAll gap body → PartFault d body f → PartsFault d c (gap ++ body) f
  here gap body f h k = subst (λ xs. PartsFault d c (xs ++ body) f) (sym h) (faults.PartsFault.first_part k)

  later : (gap body rest : Text) (p : Part) (f : Fault) → NoGapAtAll gap (body ++ rest) → PartIs d inner exact c p body rest → PartsFault d c rest f → PartsFault d c (gap ++ (body ++ rest)) f
  later gap body rest p f h k l = subst (λ xs. PartsFault d c (xs ++ (body ++ rest)) f) (sym h) (faults.PartsFault.later_part body p k.0 k.1.0 k.1.1 l)

  pub parts_sound : (bs : Text) (ps : Parts) (r : Text) → Anywhere bs → parts_with c inner bs ≡ Ok (ps, r) → Took PartsIs bs ps r
  unfolding parts_with
  parts_sound bs ps r b h =
      let x = read_map_ok parts_of (read (suc (length bs)) bs) ps r h in
      let t = items_sound (λ bs. bs) (parts_end c) (part_at c inner) NoGapAtAll (PartsFollow d inner exact c)
      (PartIs d inner exact c) (PartFault d) part_items (λ ps t r. PartsIs (parts_of ps) t r) nil cons
      (suc (length bs)) bs x.0 r x.1 in
      subst (λ ps. Took PartsIs bs ps r) x.2 (record { taken = t.taken; whole = t.whole; is = t.is })

  pub parts_faulty : (bs : Text) (f : Fault) → Anywhere bs → parts_with c inner bs ≡ Err f → PartsFault d c bs f
  unfolding parts_with
  parts_faulty bs f b h =
      items_faulty (λ bs. bs) (parts_end c) (part_at c inner) NoGapAtAll (PartsFollow d inner exact c)
      (PartIs d inner exact c) (PartFault d) part_items (PartsFault d c) here later (suc (length bs)) bs f
      (omega arith)
      (read_map_err parts_of (read (suc (length bs)) bs) f h)

  list_again : (ps : Parts) (t r : Text) (n : ℕ) → IsParts c ps t r → parts_nesting ps ≤ d → length (t ++ r) < n → (xs : List Part) × (read n (t ++ r) ≡ Ok (xs, r)) × (parts_of xs ≡ ps)
  list_again ps t r zero h deep less = absurd (omega arith)
  list_again no_parts t r (suc n) h deep less = (
    [],
    items-end (λ bs. bs) (parts_end c) (part_at c inner) NoGapAtAll
        (PartsFollow d inner exact c) (PartIs d inner exact c) (PartFault d) part_items n t r h.0 h.1,
    refl,
  )
  list_again (part p ps) t r (suc n) h deep less =
      let body = h.first in
      let rest = h.second in
      let is : PartIs d inner exact c p body (rest ++ r) = (h.is_first.0, (h.is_first.1, omega (arith, deep))) in
      let whole : t ++ r ≡ body ++ (rest ++ r) = ap (λ xs. xs ++ r) h.whole ∙ append_assoc body rest r in
      let some = part_some c p body (rest ++ r) h.is_first.1 in
      let k = list_again ps rest r n h.is_second (omega (arith, deep)) (omega (arith, ap length whole, length-append body (rest ++ r))) in (
        p ∷ k.0,
        ap (read (suc n)) whole ∙ items-more (λ bs. bs) (parts_end c) (part_at c inner) NoGapAtAll
            (PartsFollow d inner exact c) (PartIs d inner exact c) (PartFault d) part_items n [] body (rest ++ r) p refl
            is ∙ ap (read_map (λ xs. p ∷ xs)) k.1,
        ap (part p) k.2,
      )

  pub parts_again : (ps : Parts) (t r : Text) → PartsIs ps t r → parts_with c inner (t ++ r) ≡ Ok (ps, r)
  unfolding parts_with
  parts_again ps t r h =
      let k = list_again ps t r (suc (length (t ++ r))) h.0 h.1 (omega arith) in
      ap (read_map parts_of) k.1 ∙ ap (λ ps. let found : Read Parts = Ok (ps, r) in found) k.2

  list_met : {bs : Text} {f : Fault} → PartsFault d c bs f → (n : ℕ) → length bs < n → read n bs ≡ Err f
  list_met h zero less = absurd (omega arith)
  list_met (faults.PartsFault.first_part {bs = bs} {f = f} h) (suc n) less = items-fail (λ bs. bs) (parts_end c)
      (part_at c inner) NoGapAtAll (PartsFollow d inner exact c) (PartIs d inner exact c) (PartFault d) part_items n []
      bs f refl h
  list_met (faults.PartsFault.later_part body p {rest = rest} {f = f} goes h deep l) (suc n) less =
      let some = part_some c p body rest h in
      items-more (λ bs. bs) (parts_end c) (part_at c inner) NoGapAtAll (PartsFollow d inner exact c) (PartIs d inner exact c) (PartFault d) part_items n [] body rest p refl (goes, (h, deep))
      ∙ ap (read_map (λ xs. p ∷ xs)) (list_met l n (omega (arith, length-append body rest)))

  pub parts_met : (bs : Text) (f : Fault) → PartsFault d c bs f → parts_with c inner bs ≡ Err f
  unfolding parts_with
  parts_met bs f h = ap (read_map parts_of) (list_met h (suc (length bs)) (omega arith))

  pub parts_exact : Exact (parts_with c inner) Anywhere PartsIs (PartsFault d c)
  parts_exact = record { sound = parts_sound; again = parts_again; faulty = parts_faulty; met = parts_met }
