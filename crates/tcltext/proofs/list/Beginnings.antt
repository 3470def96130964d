-- Up to the place of a fault a text goes on to a list.
use Rattle.std.proofs.Common.{◌≡◌, ℕ, Bool, List, [], ◌∷◌, ◌++◌, length, refl, sym, ap, ap₂, subst, ◌∙◌, arith}
use Rattle.std.proofs.Common.{append_assoc, append-nil, length-append}
use Rattle.tcltext.specs.chars.Bytes.{backslash, is_space, AllPass, MayBegin}
use Rattle.tcltext.specs.chars.Runs.{Text}
use Rattle.tcltext.specs.chars.Reading.{remaining_of}
use Rattle.tcltext.specs.declared.chars.fault.Fault.{Fault}
use Rattle.tcltext.specs.list.ListGrammar as grammar
use Rattle.tcltext.specs.list.ListGrammar.{ElementPiece, begins_element, IsElement, IsList, IsListPrefix}
use Rattle.tcltext.specs.list.ListFaults as faults
use Rattle.tcltext.specs.list.ListFaults.{ElementFault, IsFault, here, following}
use Rattle.tcltext.proofs.list.Cuts.{piece_cut}
use Rattle.tcltext.proofs.list.FaultCuts.{same_start, element_cut, some_text}

-- what stands before the mark, and what it goes on with
record Begins (bs : Text) (f : Fault) : Type 0 where
  pub before : Text
  pub rest : Text
  pub more : Text
  pub elements : List Text
  pub whole : bs ≡ before ++ rest
  pub long : length rest ≡ remaining_of f
  pub is : IsList (before ++ more) elements

piece_through : {ends : ℕ → Bool} {bs e mid : Text} → ElementPiece ends bs e mid → {t rest : Text} → ElementPiece ends mid t rest → ElementPiece ends bs (e ++ t) rest
piece_through grammar.ElementPiece.nothing k = k
piece_through (grammar.ElementPiece.literal h g m) k = grammar.ElementPiece.literal h g (piece_through m k)
piece_through {ends} (grammar.ElementPiece.substituted {bs} {ts} v r h m) {t} {rest} k =
    subst (λ (x : Text). ElementPiece ends (backslash ∷ bs) x rest) (sym (append_assoc v ts t)) (grammar.ElementPiece.substituted v r h (piece_through m k))

only : (spaces body e : Text) → AllPass is_space spaces → IsElement body e [] → IsList (spaces ++ body) (e ∷ [])
only spaces body e pass is = record { spaces = spaces; body = body; rest = []; whole = refl; are_spaces = pass; is_element = is; is_separated = tt; more = tt }

-- at the mark that is open
at_mark : (spaces body : Text) (f : Fault) → AllPass is_space spaces → length body ≡ remaining_of f → Begins (spaces ++ body) f
at_mark spaces body f pass long = record {
  before = spaces;
  rest = body;
  more = [];
  elements = [];
  whole = refl;
  long = long;
  is = subst (AllPass is_space) (sym (append-nil spaces)) pass;
}

-- behind a whole element
behind_close : (spaces body taken rest e : Text) (f : Fault) → AllPass is_space spaces → body ≡ taken ++ rest → IsElement taken e [] → length rest ≡ remaining_of f → Begins (spaces ++ body) f
behind_close spaces body taken rest e f pass w is long = record {
  before = spaces ++ taken;
  rest = rest;
  more = [];
  elements = e ∷ [];
  whole = ap (λ ys. spaces ++ ys) w ∙ sym (append_assoc spaces taken rest);
  long = long;
  is = subst (λ ys. IsList ys (e ∷ [])) (sym (append-nil (spaces ++ taken))) (only spaces taken e pass is);
}

-- in an element that goes on
in_element : (spaces body taken rest more e : Text) (f : Fault) → AllPass is_space spaces → body ≡ taken ++ rest
    → IsElement (taken ++ more) e [] → length rest ≡ remaining_of f → Begins (spaces ++ body) f
in_element spaces body taken rest more e f pass w is long = record {
  before = spaces ++ taken;
  rest = rest;
  more = more;
  elements = e ∷ [];
  whole = ap (λ ys. spaces ++ ys) w ∙ sym (append_assoc spaces taken rest);
  long = long;
  is = subst (λ ys. IsList ys (e ∷ [])) (sym (append_assoc spaces taken more)) (only spaces (taken ++ more) e pass is);
}

wrong_begins : (spaces : Text) {body : Text} {f : Fault} → AllPass is_space spaces → ElementFault body f → Begins (spaces ++ body) f
wrong_begins spaces pass (faults.ElementFault.open_brace {bs} none) = at_mark spaces (123 ∷ bs) _ pass (omega arith)
wrong_begins spaces pass (faults.ElementFault.joined_to_brace {bs} inside rest w is joined) =
    behind_close spaces (123 ∷ bs) (123 ∷ (inside ++ 125 ∷ [])) rest inside _ pass (ap (λ ys. 123 ∷ ys) (w ∙ sym (append_assoc inside (125 ∷ []) rest))) (grammar.IsElement.in_braces [] refl is) refl
wrong_begins spaces pass (faults.ElementFault.open_quote {bs} m last) = at_mark spaces (34 ∷ bs) _ pass (omega arith)
wrong_begins spaces pass (faults.ElementFault.joined_to_quote {bs} {e = el} {rest} m joined) =
    let k = piece_cut m 34 rest refl in
    behind_close spaces (34 ∷ bs) (34 ∷ (k.taken ++ 34 ∷ [])) rest el _ pass (ap (λ ys. 34 ∷ ys) (k.whole ∙ sym (append_assoc k.taken (34 ∷ []) rest))) (grammar.IsElement.in_quotes (k.again [])) refl
wrong_begins spaces pass (faults.ElementFault.bad_in_quotes {bs} {e = el} {rest} m nothing) =
    let k = piece_cut m backslash rest refl in
    let bell : ElementPiece grammar.is_quote (backslash ∷ (97 ∷ (34 ∷ []))) (7 ∷ []) (34 ∷ []) = grammar.ElementPiece.substituted (7 ∷ []) (34 ∷ []) refl grammar.ElementPiece.nothing in
    in_element spaces (34 ∷ bs) (34 ∷ k.taken) (backslash ∷ rest) (backslash ∷ (97 ∷ (34 ∷ []))) (el ++ 7 ∷ []) _ pass (ap (λ ys. 34 ∷ ys) k.whole)
    (grammar.IsElement.in_quotes (piece_through (k.again (97 ∷ (34 ∷ []))) bell)) (omega arith)
wrong_begins spaces pass (faults.ElementFault.bad_in_bare {bs} {e = el} {rest} starts m nothing) =
    let k = piece_cut m backslash rest refl in
    let bell : ElementPiece is_space (backslash ∷ (97 ∷ [])) (7 ∷ []) [] = grammar.ElementPiece.substituted (7 ∷ []) [] refl grammar.ElementPiece.nothing in
    in_element spaces bs k.taken (backslash ∷ rest) (backslash ∷ (97 ∷ [])) (el ++ 7 ∷ []) _ pass k.whole
    (grammar.IsElement.bare (same_start begins_element k.taken bs backslash rest (97 ∷ []) k.whole starts) (grammar.Bare.separated (piece_through (k.again (97 ∷ [])) bell) tt)) (omega arith)

first : (b y : ℕ) (bs rest : Text) → b ∷ bs ≡ y ∷ rest → b ≡ y
first b y bs rest h = cc

behind_begins : (spaces body e tail : Text) (f : Fault) → AllPass is_space spaces → IsElement body e tail → MayBegin is_space tail → (tail ≡ [] → ⊥) → Begins tail f → Begins (spaces ++ body) f
behind_begins spaces body e [] f pass is h some m = absurd (some refl)
behind_begins spaces body e (z ∷ tail) f pass is h some m = go m.before m.whole m.is where
  go : (before : Text) → z ∷ tail ≡ before ++ m.rest → IsList (before ++ m.more) m.elements → Begins (spaces ++ body) f
  go [] w l =
      let c = element_cut is z tail refl h in
      record {
        before = spaces ++ c.taken;
        rest = z ∷ tail;
        more = z ∷ [];
        elements = e ∷ [];
        whole = ap (λ ys. spaces ++ ys) c.whole ∙ sym (append_assoc spaces c.taken (z ∷ tail));
        long = ap length w ∙ m.long;
        is = record {
          spaces = spaces;
          body = c.taken ++ z ∷ [];
          rest = z ∷ [];
          whole = append_assoc spaces c.taken (z ∷ []);
          are_spaces = pass;
          is_element = c.again [];
          is_separated = h;
          more = (h, tt);
        };
      }
  go (y ∷ b) w l =
      let c = element_cut is z tail refl h in
      let same : z ≡ y = first z y tail (b ++ m.rest) w in
      record {
        before = spaces ++ (c.taken ++ y ∷ b);
        rest = m.rest;
        more = m.more;
        elements = e ∷ m.elements;
        whole =
            ap (λ ys. spaces ++ ys) (c.whole ∙ ap (λ ys. c.taken ++ ys) w ∙ sym (append_assoc c.taken (y ∷ b) m.rest)) ∙ sym (append_assoc spaces (c.taken ++ y ∷ b) m.rest);
        long = m.long;
        is = record {
          spaces = spaces;
          body = c.taken ++ y ∷ (b ++ m.more);
          rest = y ∷ (b ++ m.more);
          whole = append_assoc spaces (c.taken ++ y ∷ b) m.more ∙ ap (λ ys. spaces ++ ys) (append_assoc c.taken (y ∷ b) m.more);
          are_spaces = pass;
          is_element = subst (λ x. IsElement (c.taken ++ x ∷ (b ++ m.more)) e (x ∷ (b ++ m.more))) same (c.again (b ++ m.more));
          is_separated = subst (λ x. MayBegin is_space (x ∷ tail)) same h;
          more = l;
        };
      }

faulty_begins : {bs : Text} {f : Fault} → IsFault bs f → Begins bs f
faulty_begins (here spaces body pass wrong) = wrong_begins spaces pass wrong
faulty_begins (following spaces body {e = el} {rest} {f} pass is h more) = behind_begins spaces body el rest f pass is h (some_text more) (faulty_begins more)

front_same : (x y a b : Text) → x ++ a ≡ y ++ b → length a ≡ length b → x ≡ y
front_same [] [] a b h k = refl
front_same [] (c ∷ y) a b h k = absurd (omega (arith, ap length h, k, length-append y b))
front_same (c ∷ x) [] a b h k = absurd (omega (arith, ap length h, k, length-append x a))
front_same (c ∷ x) (d ∷ y) a b h k =
    let one : c ≡ d = cc in
    let rest : x ++ a ≡ y ++ b = cc in
    ap₂ (λ (n : ℕ) (xs : Text). n ∷ xs) one (front_same x y a b rest k)

pub begins_before : (before rest : Text) (f : Fault) → IsFault (before ++ rest) f → remaining_of f ≡ length rest → IsListPrefix before
begins_before before rest f h long =
    let m = faulty_begins h in
    let same : m.before ≡ before = front_same m.before before m.rest rest (sym m.whole) (m.long ∙ long) in
    (m.more, m.elements, subst (λ ys. IsList (ys ++ m.more) m.elements) same m.is)
