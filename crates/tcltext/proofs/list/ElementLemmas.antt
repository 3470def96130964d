-- Elements: what is read is in the grammar, and what is in the grammar is read; likewise for what is wrong.
use Rattle.std.proofs.Common.{◌≡◌, ℕ, zero, suc, ◌<◌, [], ◌∷◌, ◌++◌, length, Bool, true, false, not, ◌==◌, Option, Some}
use Rattle.std.proofs.Common.{None, Result, Ok, Err, refl, sym, ap, subst, ◌∙◌, arith, append-nil, inl, inr}
use Rattle.std.proofs.lemmas.Bool.Decides.{nat_tests}
use Rattle.tcltext.specs.chars.Bytes.{backslash, is_space, MayBegin, DoesBegin}
use Rattle.tcltext.specs.chars.Runs.{Text, begins}
use Rattle.tcltext.specs.chars.Backslash.{after_backslash}
use Rattle.tcltext.specs.chars.Braces.{Balanced, braced_at}
use Rattle.tcltext.proofs.chars.BraceClose.{close_sound, found_close}
use Rattle.tcltext.specs.chars.Reading.{◌>>=◌, Read, read_map}
use Rattle.tcltext.specs.declared.chars.fault.Fault.{Fault}
use Rattle.tcltext.specs.declared.chars.fault.Fault.TheVariants as marks
use Rattle.tcltext.specs.list.ListGrammar as grammar
use Rattle.tcltext.specs.list.ListGrammar.{ElementPiece, Bare, is_quote, begins_element, IsElement}
use Rattle.tcltext.specs.list.ListFaults as faults
use Rattle.tcltext.specs.list.ListFaults.{IsJoined, IsLast, StandsForNothing, ElementFault}
use Rattle.tcltext.specs.list.ListReading.{escaped_at, piece_at, piece_of, element_end, separated, element_in_braces}
use Rattle.tcltext.specs.list.ListReading.{element_in_quotes, quoted_at, element_at}
use Rattle.tcltext.proofs.list.Runs.{is_byte, true_false, not_true}
use Rattle.tcltext.proofs.list.Pieces.{PieceGives, PieceLeft, piece_left, piece_gives, piece-end, piece-none}
use Rattle.tcltext.proofs.list.Pieces.{piece-backslash, to_end}

-- what reading an element gives of a text
abbrev pub ElementGives : Text → Read Text → Type 0
ElementGives bs (Ok p) = IsElement bs p.0 p.1 × MayBegin is_space p.1
ElementGives bs (Err f) = ElementFault bs f

space_off : is_space backslash ≡ false
space_off = refl

quote_off : is_quote backslash ≡ false
quote_off = refl

-- A piece of an element, read to its end
pub piece_of-gives : (ends : ℕ → Bool) → ends backslash ≡ false → (bs : Text) → PieceGives ends bs (piece_of ends bs)
unfolding piece_of
piece_of-gives ends off bs = piece_gives ends off (suc (length bs)) bs (omega arith)

piece_of-remaining : (ends : ℕ → Bool) (off : ends backslash ≡ false) {bs e rest : Text} → ElementPiece ends bs e rest → PieceLeft ends (suc (length bs)) bs e rest
piece_of-remaining ends off {bs} m = piece_left ends off m (suc (length bs)) (omega arith)

pub piece_of-end : (ends : ℕ → Bool) → ends backslash ≡ false → (bs e rest : Text) → ElementPiece ends bs e rest → MayBegin ends rest → piece_of ends bs ≡ Ok (e, rest)
piece_of-end ends off bs e [] m h = to_end ends off bs e [] [] [] (piece_of-remaining ends off m) (λ n. piece-none ends off n) ∙ ap (λ t. Ok (t, [])) (append-nil e)
piece_of-end ends off bs e (b ∷ rest) m h = to_end ends off bs e (b ∷ rest) [] (b ∷ rest)
    (piece_of-remaining ends off m) (λ n. piece-end ends off n b rest h) ∙ ap (λ t. Ok (t, b ∷ rest)) (append-nil e)

pub piece_of-backslash : (ends : ℕ → Bool) → ends backslash ≡ false → (bs e : Text) → ElementPiece ends bs e (backslash ∷ []) → piece_of ends bs ≡ Ok (e ++ backslash ∷ [], [])
piece_of-backslash ends off bs e m = to_end ends off bs e (backslash ∷ []) (backslash ∷ []) [] (piece_of-remaining ends off m) (λ n. piece-backslash ends off n [])

nothing_mark : (more : Text → Read Text) (rest : Text) → StandsForNothing rest → escaped_at more rest (after_backslash rest) ≡ Err (marks.BadCharacter (suc (length rest)))
nothing_mark more [] h = absurd h
nothing_mark more (b ∷ rest) h = ap (escaped_at more (b ∷ rest)) h

pub piece_of-bad : (ends : ℕ → Bool) → ends backslash ≡ false → (bs e rest : Text)
    → ElementPiece ends bs e (backslash ∷ rest) → StandsForNothing rest
    → piece_of ends bs ≡ Err (marks.BadCharacter (suc (length rest)))
unfolding piece_of
piece_of-bad ends off bs e rest m h = go (piece_of-remaining ends off m) where
  go : PieceLeft ends (suc (length bs)) bs e (backslash ∷ rest) → piece_at ends (suc (length bs)) bs ≡ Err (marks.BadCharacter (suc (length rest)))
  go remaining = turn remaining.turns remaining.enough remaining.whole where
    turn : (turns : ℕ) → length (backslash ∷ rest) < turns
        → piece_at ends (suc (length bs)) bs ≡ read_map (λ t. e ++ t) (piece_at ends turns (backslash ∷ rest))
        → piece_at ends (suc (length bs)) bs ≡ Err (marks.BadCharacter (suc (length rest)))
    turn zero lt w = absurd (omega arith)
    turn (suc n) lt w = w ∙ ap (read_map (λ t. e ++ t)) (piece-backslash ends off n rest ∙ nothing_mark (piece_at ends n) rest h)

-- What follows a close
abbrev Parted : Text → Result Text Fault → Type 0
Parted rest (Ok r) = (r ≡ rest) × MayBegin is_space rest
Parted rest (Err f) = (f ≡ marks.JoinedToClose (length rest)) × IsJoined rest

parted_cases : (b : ℕ) (bs : Text) (t : Bool) → is_space b ≡ t → Parted (b ∷ bs) (element_end (b ∷ bs))
parted_cases b bs true t = rw t (refl, t)
parted_cases b bs false t = rw t (refl, ap not t)

pub parts : (rest : Text) → Parted rest (element_end rest)
parts [] = (refl, tt)
parts (b ∷ bs) = parted_cases b bs (is_space b) refl

pub separated-on : (e rest : Text) → MayBegin is_space rest → separated e rest ≡ Ok (e, rest)
separated-on e [] h = refl
separated-on e (b ∷ rest) h = rw h refl

pub separated-joined : (e rest : Text) → IsJoined rest → separated e rest ≡ Err (marks.JoinedToClose (length rest))
separated-joined e [] h = absurd h
separated-joined e (b ∷ rest) h = let byte : is_space b ≡ false = not_true (is_space b) h in rw byte refl

-- a close with what follows it, where that is in place
after_close : (bs e rest : Text) (r : Result Text Fault) → Parted rest r → IsElement bs e rest
    → (IsJoined rest → ElementFault bs (marks.JoinedToClose (length rest))) → ElementGives bs (r >>= (λ q. Ok (e, q)))
after_close bs e rest (Ok q) p is wrong = (subst (IsElement bs e) (sym p.0) is, subst (MayBegin is_space) (sym p.0) p.1)
after_close bs e rest (Err f) p is wrong = subst (ElementFault bs) (sym p.0) (wrong p.1)

-- Elements in braces
unclosed : (bs inside rest : Text) → braced_at false 0 bs ≡ None → bs ≡ inside ++ 125 ∷ rest → Balanced inside → ⊥
unclosed bs inside rest h w is = none_some (inside, rest) (sym h ∙ ap (braced_at false 0) w ∙ found_close inside rest is) where
  none_some : (p : Text × Text) → (let remaining : Option (Text × Text) = None in remaining ≡ Some p) → ⊥
  none_some p h = cc

braces_give : (bs : Text) (found : Option (Text × Text)) → braced_at false 0 bs ≡ found → ElementGives (123 ∷ bs) (element_in_braces (suc (length bs)) found)
braces_give bs None e = faults.ElementFault.open_brace (λ inside rest w is. unclosed bs inside rest e w is)
braces_give bs (Some p) e =
    let closed = close_sound bs false 0 p.0 p.1 e in
    after_close (123 ∷ bs) p.0 p.1 (element_end p.1) (parts p.1) (grammar.IsElement.in_braces p.1 closed.0 closed.1) (λ joined. faults.ElementFault.joined_to_brace p.0 p.1 closed.0 closed.1 joined)

-- Elements in quotes
quote_cases : (bs e : Text) (b : ℕ) (rest : Text) (t : Bool) → is_quote b ≡ t → ElementPiece is_quote bs e (b ∷ rest)
    → MayBegin is_quote (b ∷ rest) → ElementGives (34 ∷ bs) (element_in_quotes (suc (length bs)) e (b ∷ rest))
quote_cases bs e b rest true t m h =
    let closed : ElementPiece is_quote bs e (34 ∷ rest) = subst (λ x. ElementPiece is_quote bs e (x ∷ rest)) (is_byte b 34 t) m in
    rw t (after_close (34 ∷ bs) e rest (element_end rest) (parts rest) (grammar.IsElement.in_quotes closed) (λ joined. faults.ElementFault.joined_to_quote closed joined))
quote_cases bs e b rest false t m h = absurd (true_false (sym h ∙ t))

quote_closes : (bs e rest : Text) → ElementPiece is_quote bs e rest → MayBegin is_quote rest → ElementGives (34 ∷ bs) (element_in_quotes (suc (length bs)) e rest)
quote_closes bs e [] m h = faults.ElementFault.open_quote m (inl refl)
quote_closes bs e (b ∷ rest) m h = quote_cases bs e b rest (is_quote b) refl m h

quotes_give : (bs : Text) (r : Read Text) → PieceGives is_quote bs r → ElementGives (34 ∷ bs) (r >>= (λ p. element_in_quotes (suc (length bs)) p.0 p.1))
quotes_give bs (Ok p) (inl g) = quote_closes bs p.0 p.1 g.0 g.1
quotes_give bs (Ok p) (inr g) = subst (λ r. ElementGives (34 ∷ bs) (element_in_quotes (suc (length bs)) p.0 r)) (sym g.3) (faults.ElementFault.open_quote g.1 (inr refl))
quotes_give bs (Err f) g = subst (ElementFault (34 ∷ bs)) (sym g.4) (faults.ElementFault.bad_in_quotes g.2 g.3)

-- Bare elements
bare_gives : (bs : Text) (r : Read Text) → DoesBegin begins_element bs → PieceGives is_space bs r → ElementGives bs r
bare_gives bs (Ok p) starts (inl g) = (grammar.IsElement.bare starts (grammar.Bare.separated g.0 g.1), g.1)
bare_gives bs (Ok p) starts (inr g) =
    (subst (λ r. IsElement bs p.0 r) (sym g.3) (subst (λ e. IsElement bs e []) (sym g.2) (grammar.IsElement.bare starts (grammar.Bare.backslash_last g.1))), subst (MayBegin is_space) (sym g.3) tt)
bare_gives bs (Err f) starts g = subst (ElementFault bs) (sym g.4) (faults.ElementFault.bad_in_bare starts g.2 g.3)

-- Elements
element_begins : (b : ℕ) → not (is_space b) ≡ true → (b == 123) ≡ false → (b == 34) ≡ false → begins_element b ≡ true
element_begins b h k l = grind (arith, nat_tests)

element_cases : (b : ℕ) (bs : Text) (t u : Bool) → (b == 123) ≡ t → (b == 34) ≡ u → not (is_space b) ≡ true → ElementGives (b ∷ bs) (element_at (b ∷ bs))
unfolding element_at
element_cases b bs true u t' u' h = rw t' (subst
    (λ x. ElementGives (x ∷ bs) (element_in_braces (suc (length bs)) (braced_at false 0 bs))) (sym (is_byte b 123 t'))
    (braces_give bs (braced_at false 0 bs) refl))
element_cases b bs false true t' u' h = rw (t', u')
    (subst (λ x. ElementGives (x ∷ bs) (quoted_at bs)) (sym (is_byte b 34 u'))
    (quotes_give bs (piece_of is_quote bs) (piece_of-gives is_quote quote_off bs)))
element_cases b bs false false t' u' h = rw (t', u') (bare_gives (b ∷ bs) (piece_of is_space (b ∷ bs)) (element_begins b h t' u') (piece_of-gives is_space space_off (b ∷ bs)))

pub element_gives : (bs : Text) → DoesBegin (λ b. not (is_space b)) bs → ElementGives bs (element_at bs)
element_gives [] h = absurd h
element_gives (b ∷ bs) h = element_cases b bs (b == 123) (b == 34) refl refl h

-- The other way
begins_no_brace : (b : ℕ) → begins_element b ≡ true → (b == 123) ≡ false
begins_no_brace b h = grind (arith, nat_tests)

begins_no_quote : (b : ℕ) → begins_element b ≡ true → (b == 34) ≡ false
begins_no_quote b h = grind (arith, nat_tests)

element-bare : (bs : Text) → DoesBegin begins_element bs → element_at bs ≡ piece_of is_space bs
unfolding element_at
element-bare [] h = absurd h
element-bare (b ∷ bs) h = rw (begins_no_brace b h, begins_no_quote b h) refl

element-brace : (bs : Text) → element_at (123 ∷ bs) ≡ element_in_braces (suc (length bs)) (braced_at false 0 bs)
unfolding element_at
element-brace bs = refl

element-quote : (bs : Text) → element_at (34 ∷ bs) ≡ quoted_at bs
unfolding element_at
element-quote bs = refl

quoted-close : (bs e rest : Text) → ElementPiece is_quote bs e (34 ∷ rest) → quoted_at bs ≡ separated e rest
quoted-close bs e rest m = ap (λ r. r >>= (λ p. element_in_quotes (suc (length bs)) p.0 p.1)) (piece_of-end is_quote quote_off bs e (34 ∷ rest) m refl)

pub element_read : {bs e rest : Text} → IsElement bs e rest → MayBegin is_space rest → element_at bs ≡ Ok (e, rest)
element_read (grammar.IsElement.in_braces {bs} {e} rest w is) h =
    element-brace bs ∙ ap (element_in_braces (suc (length bs))) (ap (braced_at false 0) w ∙ found_close e rest is) ∙ separated-on e rest h
element_read (grammar.IsElement.in_quotes {bs} {e} {rest} m) h = element-quote bs ∙ quoted-close bs e rest m ∙ separated-on e rest h
element_read (grammar.IsElement.bare {bs} starts (grammar.Bare.separated {e} {rest} m k)) h = element-bare bs starts ∙ piece_of-end is_space space_off bs e rest m k
element_read (grammar.IsElement.bare {bs} starts (grammar.Bare.backslash_last {e} m)) h = element-bare bs starts ∙ piece_of-backslash is_space space_off bs e m

never_closes : (bs : Text) → ((inside rest : Text) → bs ≡ inside ++ 125 ∷ rest → Balanced inside → ⊥) → (found : Option (Text × Text)) → braced_at false 0 bs ≡ found → found ≡ None
never_closes bs none_closes None e = refl
never_closes bs none_closes (Some p) e = let closed = close_sound bs false 0 p.0 p.1 e in absurd (none_closes p.0 p.1 closed.0 closed.1)

quoted-open : (bs e rest : Text) → ElementPiece is_quote bs e rest → IsLast rest → quoted_at bs ≡ Err (marks.OpenQuote (suc (length bs)))
quoted-open bs e rest m (inl h) = ap (λ r. r >>= (λ p. element_in_quotes (suc (length bs)) p.0 p.1)) (piece_of-end is_quote quote_off bs e [] (subst (ElementPiece is_quote bs e) h m) tt)
quoted-open bs e rest m (inr h) = ap (λ r. r >>= (λ p. element_in_quotes (suc (length bs)) p.0 p.1)) (piece_of-backslash is_quote quote_off bs e (subst (ElementPiece is_quote bs e) h m))

pub element_wrong : {bs : Text} {f : Fault} → ElementFault bs f → element_at bs ≡ Err f
element_wrong (faults.ElementFault.open_brace {bs} none_closes) = element-brace bs ∙ ap (element_in_braces (suc (length bs))) (never_closes bs none_closes (braced_at false 0 bs) refl)
element_wrong (faults.ElementFault.joined_to_brace {bs} inside rest w is joined) =
    element-brace bs ∙ ap (element_in_braces (suc (length bs))) (ap (braced_at false 0) w ∙ found_close inside rest is) ∙ separated-joined inside rest joined
element_wrong (faults.ElementFault.open_quote {bs} {e} {rest} m last) = element-quote bs ∙ quoted-open bs e rest m last
element_wrong (faults.ElementFault.joined_to_quote {bs} {e} {rest} m joined) = element-quote bs ∙ quoted-close bs e rest m ∙ separated-joined e rest joined
element_wrong (faults.ElementFault.bad_in_quotes {bs} {e} {rest} m nothing) = element-quote bs
    ∙ ap (λ r. r >>= (λ p. element_in_quotes (suc (length bs)) p.0 p.1))
    (piece_of-bad is_quote quote_off bs e rest m nothing)
element_wrong (faults.ElementFault.bad_in_bare {bs} {e} {rest} starts m nothing) = element-bare bs starts ∙ piece_of-bad is_space space_off bs e rest m nothing

-- What stands in front of white space
brace_free : (b : ℕ) → begins_element b ≡ true → not (is_space b) ≡ true
brace_free b h = grind (arith, nat_tests)

free_start : (bs : Text) → DoesBegin begins_element bs → DoesBegin (λ b. not (is_space b)) bs
free_start [] h = absurd h
free_start (b ∷ bs) h = brace_free b h

pub element_starts : {bs e rest : Text} → IsElement bs e rest → DoesBegin (λ b. not (is_space b)) bs
element_starts (grammar.IsElement.in_braces rest w is) = refl
element_starts (grammar.IsElement.in_quotes m) = refl
element_starts (grammar.IsElement.bare {bs} starts m) = free_start bs starts

pub wrong_starts : {bs : Text} {f : Fault} → ElementFault bs f → DoesBegin (λ b. not (is_space b)) bs
wrong_starts (faults.ElementFault.open_brace none_closes) = refl
wrong_starts (faults.ElementFault.joined_to_brace inside rest w is joined) = refl
wrong_starts (faults.ElementFault.open_quote m last) = refl
wrong_starts (faults.ElementFault.joined_to_quote m joined) = refl
wrong_starts (faults.ElementFault.bad_in_quotes m nothing) = refl
wrong_starts (faults.ElementFault.bad_in_bare {bs} starts m nothing) = free_start bs starts

-- What reading an element does at each mark
pub at_brace : (bs inside : Text) → bs ≡ 123 ∷ inside → element_at bs ≡ element_in_braces (suc (length inside)) (braced_at false 0 inside)
at_brace bs inside e = ap element_at e ∙ element-brace inside

pub at_quote : (bs inside : Text) → bs ≡ 34 ∷ inside → element_at bs ≡ quoted_at inside
at_quote bs inside e = ap element_at e ∙ element-quote inside

pub at_bare : (bs : Text) → begins 123 bs ≡ false → begins 34 bs ≡ false → element_at bs ≡ piece_of is_space bs
unfolding element_at piece_of piece_at
at_bare [] h k = refl
at_bare (b ∷ bs) h k = rw (h, k) refl
