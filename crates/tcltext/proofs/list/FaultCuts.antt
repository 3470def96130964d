-- Up to and with an offending character a text is the front of no list.
use Rattle.std.proofs.Common.{◌≡◌, ℕ, suc, ◌+◌, List, [], ◌∷◌, ◌++◌, length, take, Bool, refl, sym, ap, subst, ◌∙◌}
use Rattle.std.proofs.Common.{arith, append_assoc, length-append}
use Rattle.std.proofs.Math.Seq.{take-append-add}
use Rattle.tcltext.specs.chars.Bytes.{backslash, is_space, AllPass, MayBegin, DoesBegin}
use Rattle.tcltext.specs.chars.Runs.{Text}
use Rattle.tcltext.specs.chars.Braces.{Balanced}
use Rattle.tcltext.specs.declared.chars.fault.Fault.{Fault}
use Rattle.tcltext.specs.declared.chars.fault.Fault.TheVariants as marks
use Rattle.tcltext.specs.declared.chars.fault.TextFault.TheVariants.{JoinedToClose, BadCharacter}
use Rattle.tcltext.specs.list.ListGrammar as grammar
use Rattle.tcltext.specs.list.ListGrammar.{ElementPiece, Bare, is_quote, begins_element, IsElement, IsList}
use Rattle.tcltext.specs.list.ListFaults as faults
use Rattle.tcltext.specs.list.ListFaults.{IsJoined, ElementFault, IsFault, here, following, IsListFault}
use Rattle.tcltext.proofs.list.Cuts.{piece_cut}
use Rattle.tcltext.proofs.list.Nothing.{nothing_more}
use Rattle.tcltext.proofs.list.ReadLemmas.{no_list}

-- an element in front of y is one whatever follows y
pub record ElementCut (bs e : Text) (y : ℕ) (rest : Text) : Type 0 where
  pub taken : Text
  pub whole : bs ≡ taken ++ y ∷ rest
  pub again : (other : Text) → IsElement (taken ++ y ∷ other) e (y ∷ other)

pub same_start : (p : ℕ → Bool) (taken bs : Text) (y : ℕ) (rest other : Text) → bs ≡ taken ++ y ∷ rest → DoesBegin p bs → DoesBegin p (taken ++ y ∷ other)
same_start p [] bs y rest other w h = subst (DoesBegin p) w h
same_start p (z ∷ taken) bs y rest other w h = subst (DoesBegin p) w h

close_after : (e : Text) (c : ℕ) (rest : Text) → (e ++ c ∷ []) ++ rest ≡ e ++ c ∷ rest
close_after e c rest = append_assoc e (c ∷ []) rest

not_empty : (y : ℕ) (rest : Text) → [] ≡ y ∷ rest → ⊥
not_empty y rest h = cc

pub element_cut : {bs e tail : Text} → IsElement bs e tail → (y : ℕ) (rest : Text) → tail ≡ y ∷ rest → MayBegin is_space tail → ElementCut bs e y rest
element_cut (grammar.IsElement.in_braces {bs} {e} tail w is) y rest t h = record {
  taken = 123 ∷ (e ++ 125 ∷ []);
  whole = ap (λ xs. 123 ∷ xs) (w ∙ ap (λ xs. e ++ 125 ∷ xs) t ∙ sym (close_after e 125 (y ∷ rest)));
  again = λ other. grammar.IsElement.in_braces (y ∷ other) (close_after e 125 (y ∷ other)) is;
}
element_cut (grammar.IsElement.in_quotes {bs} {e} {rest = tail} m) y rest t h =
    let k = piece_cut m 34 tail refl in
    record {
      taken = 34 ∷ (k.taken ++ 34 ∷ []);
      whole = ap (λ xs. 34 ∷ xs) (k.whole ∙ ap (λ xs. k.taken ++ 34 ∷ xs) t ∙ sym (close_after k.taken 34 (y ∷ rest)));
      again = λ other. grammar.IsElement.in_quotes (subst (λ xs. ElementPiece is_quote xs e (34 ∷ (y ∷ other))) (sym (close_after k.taken 34 (y ∷ other))) (k.again (y ∷ other)));
    }
element_cut (grammar.IsElement.bare {bs} starts (grammar.Bare.separated {e} {rest = tail} m k)) y rest t h =
    let c = piece_cut m y rest t in
    record {
      taken = c.taken;
      whole = c.whole;
      again = λ other. grammar.IsElement.bare (same_start begins_element c.taken bs y rest other c.whole starts) (grammar.Bare.separated (c.again other) (subst (MayBegin is_space) t h));
    }
element_cut (grammar.IsElement.bare starts (grammar.Bare.backslash_last m)) y rest t h = absurd (not_empty y rest t)

-- what is wrong up to y is wrong whatever follows y
record WrongCut (Wrong : Text → Fault → Type 0) (bs : Text) (remaining : ℕ) : Type 0 where
  pub taken : Text
  pub y : ℕ
  pub rest : Text
  pub whole : bs ≡ taken ++ y ∷ rest
  pub place : remaining ≡ suc (length rest)
  pub again : (other : Text) → (f : Fault) × Wrong (taken ++ y ∷ other) f

joined_same : (m n : ℕ) → marks.JoinedToClose m ≡ marks.JoinedToClose n → m ≡ n
joined_same m n h = cc

joined_braces : (bs inside rest : Text) (remaining : ℕ) → bs ≡ inside ++ 125 ∷ rest → Balanced inside → IsJoined rest → length rest ≡ remaining → WrongCut ElementFault (123 ∷ bs) remaining
joined_braces bs inside [] remaining w is joined e = absurd joined
joined_braces bs inside (y ∷ rest) remaining w is joined e = record {
  taken = 123 ∷ (inside ++ 125 ∷ []);
  y = y;
  rest = rest;
  whole = ap (λ xs. 123 ∷ xs) (w ∙ sym (close_after inside 125 (y ∷ rest)));
  place = omega arith;
  again = λ other. (marks.JoinedToClose (length (y ∷ other)), faults.ElementFault.joined_to_brace inside (y ∷ other) (close_after inside 125 (y ∷ other)) is joined);
}

joined_quotes : (bs e rest : Text) (remaining : ℕ) → ElementPiece is_quote bs e (34 ∷ rest) → IsJoined rest → length rest ≡ remaining → WrongCut ElementFault (34 ∷ bs) remaining
joined_quotes bs e [] remaining m joined h = absurd joined
joined_quotes bs e (y ∷ rest) remaining m joined h =
    let k = piece_cut m 34 (y ∷ rest) refl in
    record {
      taken = 34 ∷ (k.taken ++ 34 ∷ []);
      y = y;
      rest = rest;
      whole = ap (λ xs. 34 ∷ xs) (k.whole ∙ sym (close_after k.taken 34 (y ∷ rest)));
      place = omega arith;
      again = λ other. (
        marks.JoinedToClose (length (y ∷ other)),
        faults.ElementFault.joined_to_quote (subst (λ xs. ElementPiece is_quote xs e (34 ∷ (y ∷ other))) (sym (close_after k.taken 34 (y ∷ other))) (k.again (y ∷ other))) joined,
      );
    }

wrong_cut : {bs : Text} {f : Fault} → ElementFault bs f → (remaining : ℕ) → f ≡ marks.JoinedToClose remaining → WrongCut ElementFault bs remaining
wrong_cut (faults.ElementFault.open_brace none) remaining e = cc
wrong_cut (faults.ElementFault.joined_to_brace {bs} inside rest w is joined) remaining e = joined_braces bs inside rest remaining w is joined (joined_same (length rest) remaining e)
wrong_cut (faults.ElementFault.open_quote m last) remaining e = cc
wrong_cut (faults.ElementFault.joined_to_quote {bs} {e = el} {rest} m joined) remaining e = joined_quotes bs el rest remaining m joined (joined_same (length rest) remaining e)
wrong_cut (faults.ElementFault.bad_in_quotes m nothing) remaining e = cc
wrong_cut (faults.ElementFault.bad_in_bare starts m nothing) remaining e = cc

behind_cut : (spaces body e tail : Text) (remaining : ℕ) → AllPass is_space spaces → IsElement body e tail
    → MayBegin is_space tail → (k : WrongCut IsFault tail remaining) → WrongCut IsFault (spaces ++ body) remaining
behind_cut spaces body e tail remaining pass is h k = go k.taken k.whole k.again where
  go : (taken : Text) → tail ≡ taken ++ k.y ∷ k.rest → ((other : Text) → (f : Fault) × IsFault (taken ++ k.y ∷ other) f) → WrongCut IsFault (spaces ++ body) remaining
  go [] w again =
      let c = element_cut is k.y k.rest w h in
      record {
        taken = spaces ++ c.taken;
        y = k.y;
        rest = k.rest;
        whole = ap (λ xs. spaces ++ xs) c.whole ∙ sym (append_assoc spaces c.taken (k.y ∷ k.rest));
        place = k.place;
        again = λ other. (
          (again other).0,
          subst (λ xs. IsFault xs (again other).0) (sym (append_assoc spaces c.taken (k.y ∷ other)))
              (following spaces (c.taken ++ k.y ∷ other) pass (c.again other) (subst (MayBegin is_space) w h)
              (again other).1),
        );
      }
  go (z ∷ taken) w again =
      let c = element_cut is z (taken ++ k.y ∷ k.rest) w h in
      record {
        taken = spaces ++ (c.taken ++ z ∷ taken);
        y = k.y;
        rest = k.rest;
        whole = ap (λ xs. spaces ++ xs) (c.whole ∙ sym (append_assoc c.taken (z ∷ taken) (k.y ∷ k.rest))) ∙ sym (append_assoc spaces (c.taken ++ z ∷ taken) (k.y ∷ k.rest));
        place = k.place;
        again = λ other. (
          (again other).0,
          subst (λ xs. IsFault xs (again other).0)
              (sym (append_assoc spaces (c.taken ++ z ∷ taken) (k.y ∷ other) ∙ ap (λ xs. spaces ++ xs) (append_assoc c.taken (z ∷ taken) (k.y ∷ other))))
              (following spaces (c.taken ++ z ∷ (taken ++ k.y ∷ other)) pass (c.again (taken ++ k.y ∷ other)) (subst (MayBegin is_space) w h) (again other).1),
        );
      }

faulty_cut : {bs : Text} {f : Fault} → IsFault bs f → (remaining : ℕ) → f ≡ marks.JoinedToClose remaining → WrongCut IsFault bs remaining
faulty_cut (here spaces body pass wrong) remaining e =
    let k = wrong_cut wrong remaining e in
    record {
      taken = spaces ++ k.taken;
      y = k.y;
      rest = k.rest;
      whole = ap (λ xs. spaces ++ xs) k.whole ∙ sym (append_assoc spaces k.taken (k.y ∷ k.rest));
      place = k.place;
      again = λ other. ((k.again other).0, subst (λ xs. IsFault xs (k.again other).0) (sym (append_assoc spaces k.taken (k.y ∷ other))) (here spaces (k.taken ++ k.y ∷ other) pass (k.again other).1));
    }
faulty_cut (following spaces body {e = el} {rest} pass is h more) remaining e = behind_cut spaces body el rest remaining pass is h (faulty_cut more remaining e)

up_to : (taken : Text) (y : ℕ) (rest more : Text) → take (length taken + 1) (taken ++ y ∷ rest) ++ more ≡ taken ++ y ∷ more
up_to taken y rest more = ap (λ xs. xs ++ more) (take-append-add taken (y ∷ rest) 1) ∙ append_assoc taken (y ∷ []) more

pub no_further : (bs more : Text) (at : ℕ) (es : List Text) → IsListFault bs (JoinedToClose at) → IsList (take (at + 1) bs ++ more) es → ⊥
no_further bs more at es h is =
    let k = faulty_cut h.3 h.1 refl in
    let place : at ≡ length k.taken = omega (arith, h.2, k.place, ap length k.whole, length-append k.taken (k.y ∷ k.rest)) in
    let prefix : take (at + 1) bs ++ more ≡ k.taken ++ k.y ∷ more = ap (λ n. take (n + 1) bs ++ more) place ∙ ap (λ xs. take (length k.taken + 1) xs ++ more) k.whole ∙ up_to k.taken k.y k.rest more in
    no_list (k.taken ++ k.y ∷ more) (k.again more).0 es (k.again more).1 (subst (λ xs. IsList xs es) prefix is)

-- What is wrong with a backslash is wrong whatever follows the text
bad_same : (m n : ℕ) → marks.BadCharacter m ≡ marks.BadCharacter n → m ≡ n
bad_same m n h = cc

begins_more : (p : ℕ → Bool) (bs more : Text) → DoesBegin p bs → DoesBegin p (bs ++ more)
begins_more p [] more h = absurd h
begins_more p (b ∷ bs) more h = h

piece_more : (ends : ℕ → Bool) (bs e rest more : Text) → ElementPiece ends bs e (backslash ∷ rest) → ElementPiece ends (bs ++ more) e (backslash ∷ (rest ++ more))
piece_more ends bs e rest more m =
    let k = piece_cut m backslash rest refl in
    subst (λ xs. ElementPiece ends xs e (backslash ∷ (rest ++ more))) (sym (ap (λ xs. xs ++ more) k.whole ∙ append_assoc k.taken (backslash ∷ rest) more)) (k.again (rest ++ more))

abbrev StaysWrong : (Text → Fault → Type 0) → Text → Type 0
StaysWrong Wrong bs = (f : Fault) × Wrong bs f

wrong_more : {bs : Text} {f : Fault} → ElementFault bs f → (remaining : ℕ) → f ≡ marks.BadCharacter remaining → (more : Text) → StaysWrong ElementFault (bs ++ more)
wrong_more (faults.ElementFault.open_brace none) remaining e more = cc
wrong_more (faults.ElementFault.joined_to_brace inside rest w is joined) remaining e more = cc
wrong_more (faults.ElementFault.open_quote m last) remaining e more = cc
wrong_more (faults.ElementFault.joined_to_quote m joined) remaining e more = cc
wrong_more (faults.ElementFault.bad_in_quotes {bs} {e = el} {rest} m nothing) remaining e more =
    (marks.BadCharacter (suc (length (rest ++ more))), faults.ElementFault.bad_in_quotes (piece_more is_quote bs el rest more m) (nothing_more rest more nothing))
wrong_more (faults.ElementFault.bad_in_bare {bs} {e = el} {rest} starts m nothing) remaining e more = (
  marks.BadCharacter (suc (length (rest ++ more))),
  faults.ElementFault.bad_in_bare
      (begins_more begins_element bs more starts) (piece_more is_space bs el rest more m)
      (nothing_more rest more nothing),
)

behind_more : (spaces body e tail more : Text) → AllPass is_space spaces → IsElement body e tail
    → MayBegin is_space tail → (tail ≡ [] → ⊥) → StaysWrong IsFault (tail ++ more)
    → StaysWrong IsFault ((spaces ++ body) ++ more)
behind_more spaces body e [] more pass is h some k = absurd (some refl)
behind_more spaces body e (z ∷ tail) more pass is h some k =
    let c = element_cut is z tail refl h in
    let whole : (spaces ++ body) ++ more ≡ spaces ++ (c.taken ++ z ∷ (tail ++ more)) =
    append_assoc spaces body more ∙ ap (λ xs. spaces ++ xs) (ap (λ xs. xs ++ more) c.whole ∙ append_assoc c.taken (z ∷ tail) more)
    in
    (k.0, subst (λ xs. IsFault xs k.0) (sym whole) (following spaces (c.taken ++ z ∷ (tail ++ more)) pass (c.again (tail ++ more)) h k.1))

pub some_text : {bs : Text} {f : Fault} → IsFault bs f → bs ≡ [] → ⊥
some_text {bs} {f} h e = no_list [] f [] (subst (λ xs. IsFault xs f) e h) tt

faulty_more : {bs : Text} {f : Fault} → IsFault bs f → (remaining : ℕ) → f ≡ marks.BadCharacter remaining → (more : Text) → StaysWrong IsFault (bs ++ more)
faulty_more (here spaces body pass wrong) remaining e more =
    let k = wrong_more wrong remaining e more in
    (k.0, subst (λ xs. IsFault xs k.0) (sym (append_assoc spaces body more)) (here spaces (body ++ more) pass k.1))
faulty_more (following spaces body {e = el} {rest} pass is h next) remaining e more = behind_more spaces body el rest more pass is h (some_text next) (faulty_more next remaining e more)

pub no_more : (bs more : Text) (at : ℕ) (es : List Text) → IsListFault bs (BadCharacter at) → IsList (bs ++ more) es → ⊥
no_more bs more at es h is = let k = faulty_more h.3 h.1 refl more in no_list (bs ++ more) k.0 es k.1 is
