-- Lists: what is read is in the grammar, and what is in the grammar is read; likewise for what is wrong.
use Rattle.std.proofs.Common.{◌≡◌, ℕ, zero, suc, ◌<◌, ◌≤◌, List, [], ◌∷◌, ◌++◌, length, Bool, true, false, not, Result}
use Rattle.std.proofs.Common.{Ok, Err, refl, sym, ap, subst, ◌∙◌, arith, append-nil, length-append}
use Rattle.std.proofs.lemmas.Bool.Decides.{nat_tests}
use Rattle.tcltext.specs.chars.Bytes.{is_space, AllPass, MayBegin, DoesBegin}
use Rattle.tcltext.specs.chars.Runs.{Text, take_while, drop_while}
use Rattle.tcltext.specs.chars.Reading.{◌>>=◌, Read, read_map, items_at, items_step}
use Rattle.tcltext.specs.declared.chars.fault.Fault.{Fault}
use Rattle.tcltext.proofs.chars.Results.{ok_same, err_same, ok_err}
use Rattle.tcltext.specs.list.ListGrammar as grammar
use Rattle.tcltext.specs.list.ListGrammar.{ElementPiece, begins_element, IsElement, IsList}
use Rattle.tcltext.specs.list.ListFaults.{IsFault, here, following}
use Rattle.tcltext.specs.list.ListReading.{element_at, text_ends, list_at}
use Rattle.tcltext.proofs.list.Runs.{true_false, front_back, front_passes, back_fails, back_no_longer, back_run}
use Rattle.tcltext.proofs.list.BackslashTaken.{taken_length}
use Rattle.tcltext.proofs.list.Loops.{items-end, items-fail, items-more}
use Rattle.tcltext.proofs.list.ElementLemmas.{ElementGives, element_gives, element_read, element_wrong, element_starts}
use Rattle.tcltext.proofs.list.ElementLemmas.{wrong_starts}

-- How much an element takes
pub piece_length : {ends : ℕ → Bool} {bs e rest : Text} → ElementPiece ends bs e rest → length rest ≤ length bs
piece_length grammar.ElementPiece.nothing = omega arith
piece_length (grammar.ElementPiece.literal x y m) = omega (arith, piece_length m)
piece_length (grammar.ElementPiece.substituted {bs} v r e m) = omega (arith, piece_length m, taken_length bs v r e)

element_no_space : (b : ℕ) → begins_element b ≡ true → is_space b ≡ true → ⊥
element_no_space b h k = grind (arith, nat_tests)

bare_length : {bs e rest : Text} → DoesBegin begins_element bs → ElementPiece is_space bs e rest → MayBegin is_space rest → length rest < length bs
bare_length starts (grammar.ElementPiece.nothing {rest}) h = same rest starts h where
  same : (rest : Text) → DoesBegin begins_element rest → MayBegin is_space rest → length rest < length rest
  same [] starts h = absurd starts
  same (b ∷ rest) starts h = absurd (element_no_space b starts h)
bare_length starts (grammar.ElementPiece.literal x y m) h = omega (arith, piece_length m)
bare_length starts (grammar.ElementPiece.substituted {bs} v r e m) h = omega (arith, piece_length m, taken_length bs v r e)

some_length : (p : ℕ → Bool) (bs : Text) → DoesBegin p bs → 0 < length bs
some_length p [] h = absurd h
some_length p (b ∷ bs) h = omega arith

pub element_length : {bs e rest : Text} → IsElement bs e rest → length rest < length bs
element_length (grammar.IsElement.in_braces {bs} {e} rest w is) = omega (arith, ap length w, length-append e (125 ∷ rest))
element_length (grammar.IsElement.in_quotes m) = omega (arith, piece_length m)
element_length (grammar.IsElement.bare {bs} starts (grammar.Bare.separated m h)) = bare_length starts m h
element_length (grammar.IsElement.bare {bs} starts (grammar.Bare.backslash_last m)) = some_length begins_element bs starts

-- Lists
abbrev pub reads : ℕ → Text → Read (List Text)
reads = items_at (drop_while is_space) text_ends element_at

abbrev pub ListGives : Text → Read (List Text) → Type 0
ListGives bs (Ok p) = IsList bs p.0
ListGives bs (Err f) = IsFault bs f

all_spaces : (spaces body : Text) → AllPass is_space spaces → text_ends body ≡ true → IsList (spaces ++ body) []
all_spaces spaces [] h e = subst (AllPass is_space) (sym (append-nil spaces)) h
all_spaces spaces (b ∷ body) h e = absurd (true_false (sym e))

pub holds_of_depth : (bs : Text) → MayBegin (λ b. not (is_space b)) bs → text_ends bs ≡ false → DoesBegin (λ b. not (is_space b)) bs
holds_of_depth [] h e = absurd (true_false e)
holds_of_depth (b ∷ bs) h e = h

gives_more : (spaces body e rest : Text) → AllPass is_space spaces → IsElement body e rest → MayBegin is_space rest
    → (r : Read (List Text)) → ListGives rest r → ListGives (spaces ++ body) (read_map (λ es. e ∷ es) r)
gives_more spaces body e rest pass is h (Ok p) more = record { spaces = spaces; body = body; rest = rest; whole = refl; are_spaces = pass; is_element = is; is_separated = h; more = more }
gives_more spaces body e rest pass is h (Err f) more = following spaces body pass is h more

gives_element : (next : Text → Read (List Text)) (spaces body : Text) → AllPass is_space spaces → ((q : Text) → length q < length body → ListGives q (next q)) → (r : Read Text) → ElementGives body r
    → ListGives (spaces ++ body) (r >>= (λ x. read_map (λ es. x.0 ∷ es) (next x.1)))
gives_element next spaces body pass all (Ok p) g = gives_more spaces body p.0 p.1 pass g.0 g.1 (next p.1) (all p.1 (element_length g.0))
gives_element next spaces body pass all (Err f) g = here spaces body pass g

gives_step : (next : Text → Read (List Text)) (spaces body : Text) → AllPass is_space spaces
    → MayBegin (λ b. not (is_space b)) body → ((q : Text) → length q < length body → ListGives q (next q)) → (t : Bool)
    → text_ends body ≡ t
    → ListGives (spaces ++ body) (items_step element_at next body t)
gives_step next spaces body pass starts all true t = all_spaces spaces body pass t
gives_step next spaces body pass starts all false t = gives_element next spaces body pass all (element_at body) (element_gives body (holds_of_depth body starts t))

pub list_gives : (n : ℕ) (bs : Text) → length bs < n → ListGives bs (reads n bs)
list_gives zero bs lt = absurd (omega arith)
list_gives (suc n) bs lt =
    subst (λ ys. ListGives ys (reads (suc n) bs)) (sym (front_back is_space bs))
    (gives_step (reads n) (take_while is_space bs) (drop_while is_space bs) (front_passes is_space bs) (back_fails is_space bs)
    (λ q less. list_gives n q (omega (arith, back_no_longer is_space bs))) (text_ends (drop_while is_space bs)) refl)

-- The other way
does_may : (p : ℕ → Bool) (bs : Text) → DoesBegin p bs → MayBegin p bs
does_may p [] h = absurd h
does_may p (b ∷ bs) h = h

no_end : (p : ℕ → Bool) (bs : Text) → DoesBegin p bs → text_ends bs ≡ false
no_end p [] h = absurd h
no_end p (b ∷ bs) h = refl

only_spaces : (bs : Text) → AllPass is_space bs → drop_while is_space bs ≡ []
only_spaces bs h = ap (drop_while is_space) (sym (append-nil bs)) ∙ back_run is_space bs [] h tt

behind_spaces : (bs spaces body : Text) → bs ≡ spaces ++ body → AllPass is_space spaces → DoesBegin (λ b. not (is_space b)) body → drop_while is_space bs ≡ body
behind_spaces bs spaces body w pass starts = ap (drop_while is_space) w ∙ back_run is_space spaces body pass (does_may (λ b. not (is_space b)) body starts)

read-more : (n : ℕ) (bs spaces body e rest : Text) → bs ≡ spaces ++ body → AllPass is_space spaces
    → IsElement body e rest → MayBegin is_space rest → reads (suc n) bs ≡ read_map (λ es. e ∷ es) (reads n rest)
read-more n bs spaces body e rest w pass is h =
    let start = behind_spaces bs spaces body w pass (element_starts is) in
    items-more (drop_while is_space) text_ends element_at n bs e rest (ap text_ends start ∙ no_end (λ b. not (is_space b)) body (element_starts is)) (ap element_at start ∙ element_read is h)

shorter_rest : (bs spaces body e rest : Text) → bs ≡ spaces ++ body → IsElement body e rest → length rest < length bs
shorter_rest bs spaces body e rest w is = omega (arith, ap length w, length-append spaces body, element_length is)

pub list_read : (es : List Text) (n : ℕ) (bs : Text) → IsList bs es → length bs < n → reads n bs ≡ Ok (es, [])
list_read [] n bs h lt = items-end (drop_while is_space) text_ends element_at n bs (omega arith) (ap text_ends (only_spaces bs h)) ∙ ap (λ r. Ok ([], r)) (only_spaces bs h)
list_read (e ∷ es) zero bs h lt = absurd (omega arith)
list_read (e ∷ es) (suc n) bs h lt =
    read-more n bs h.spaces h.body e h.rest h.whole h.are_spaces h.is_element h.is_separated
    ∙ ap (read_map (λ fs. e ∷ fs)) (list_read es n h.rest h.more (omega (arith, shorter_rest bs h.spaces h.body e h.rest h.whole h.is_element)))

pub list_wrong : {bs : Text} {f : Fault} → IsFault bs f → (n : ℕ) → length bs < n → reads n bs ≡ Err f
list_wrong (here spaces body {f} pass wrong) n lt =
    let start = behind_spaces (spaces ++ body) spaces body refl pass (wrong_starts wrong) in
    items-fail (drop_while is_space) text_ends element_at n (spaces ++ body) f (omega arith)
    (ap text_ends start ∙ no_end (λ b. not (is_space b)) body (wrong_starts wrong))
    (ap element_at start ∙ element_wrong wrong)
list_wrong (following spaces body {e} {rest} {f} pass is h more) zero lt = absurd (omega arith)
list_wrong (following spaces body {e} {rest} {f} pass is h more) (suc n) lt =
    read-more n (spaces ++ body) spaces body e rest refl pass is h
    ∙ ap (read_map (λ es. e ∷ es)) (list_wrong more n (omega (arith, shorter_rest (spaces ++ body) spaces body e rest refl is)))

-- Whole texts
pub list_at-read : (bs : Text) (es : List Text) → IsList bs es → list_at bs ≡ Ok es
unfolding list_at
list_at-read bs es h = ap (λ r. r >>= (λ x. Ok x.0)) (list_read es (suc (length bs)) bs h (omega arith))

pub list_at-wrong : (bs : Text) (f : Fault) → IsFault bs f → list_at bs ≡ Err f
unfolding list_at
list_at-wrong bs f h = ap (λ r. r >>= (λ x. Ok x.0)) (list_wrong h (suc (length bs)) (omega arith))

abbrev pub IsListOrFault : Text → Result (List Text) Fault → Type 0
IsListOrFault bs (Ok es) = IsList bs es
IsListOrFault bs (Err f) = IsFault bs f

first_of : (bs : Text) (r : Read (List Text)) → ListGives bs r → IsListOrFault bs (r >>= (λ x. Ok x.0))
first_of bs (Ok p) h = h
first_of bs (Err f) h = h

pub list_at-gives : (bs : Text) → IsListOrFault bs (list_at bs)
unfolding list_at
list_at-gives bs = first_of bs (reads (suc (length bs)) bs) (list_gives (suc (length bs)) bs (omega arith))

pub list_at-sound : (bs : Text) (es : List Text) → list_at bs ≡ Ok es → IsList bs es
list_at-sound bs es h = subst (IsListOrFault bs) h (list_at-gives bs)

pub list_at-faulty : (bs : Text) (f : Fault) → list_at bs ≡ Err f → IsFault bs f
list_at-faulty bs f h = subst (IsListOrFault bs) h (list_at-gives bs)

pub one_list : (bs : Text) (es fs : List Text) → IsList bs es → IsList bs fs → es ≡ fs
one_list bs es fs h k = ok_same es fs (sym (list_at-read bs es h) ∙ list_at-read bs fs k)

pub one_fault : (bs : Text) (f g : Fault) → IsFault bs f → IsFault bs g → f ≡ g
one_fault bs f g h k = err_same f g (sym (list_at-wrong bs f h) ∙ list_at-wrong bs g k)

pub no_list : (bs : Text) (f : Fault) (es : List Text) → IsFault bs f → IsList bs es → ⊥
no_list bs f es h k = ok_err es f (sym (list_at-read bs es k) ∙ list_at-wrong bs f h)
