-- What a reader of the front of a text found stays, whatever follows the byte behind it.
use Rattle.std.proofs.Common.{◌≡◌, ℕ, zero, suc, ◌+◌, ◌*◌, [], ◌∷◌, ◌++◌, Bool, true, false, not, ◌==◌, ◌&&◌, nat_lt}
use Rattle.std.proofs.Common.{nat_le, Option, Some, None, refl, sym, ap, ap₂, subst, ◌∙◌, arith, append_assoc}
use Rattle.std.proofs.Common.{if◌then◌else◌, encode_utf8}
use Rattle.std.proofs.lemmas.Bool.Decides.{nat_tests}
use Rattle.std.specs.Char.{digit_value}
use Rattle.tcltext.specs.chars.Bytes.{newline, backslash, is_continuation, MayBegin}
use Rattle.tcltext.specs.chars.Runs.{Text, take_while, drop_while}
use Rattle.tcltext.specs.chars.Backslash.{after_backslash, is_octal, is_hexadecimal, character, octal_at, hexadecimal_at}
use Rattle.tcltext.specs.chars.Backslash.{code_at, wide_code_at, is_blank_or_tab, letter_value}
use Rattle.tcltext.specs.list.ListGrammar as grammar
use Rattle.tcltext.specs.list.ListGrammar.{ElementPiece}
use Rattle.tcltext.proofs.list.Runs.{front_back, front_passes, back_fails, back_run, front_run}

-- a reader f gives this value of a text, and leaves what begins with y; so it does where something else follows y
pub record Cut {A : Type 0} (f : Text → A) (made : Text → A) (bs : Text) (y : ℕ) (rest : Text) : Type 0 where
  pub taken : Text
  pub whole : bs ≡ taken ++ y ∷ rest
  pub again : (other : Text) → f (taken ++ y ∷ other) ≡ made (y ∷ other)

abbrev NumberCut : (Text → ℕ × Text) → ℕ → Text → ℕ → Text → Type 0
NumberCut f v bs y rest = Cut f (λ r. (v, r)) bs y rest

pair_of : (v w : ℕ) (r s : Text) → (let remaining : ℕ × Text = (v, r) in remaining ≡ (w, s)) → (v ≡ w) × (r ≡ s)
pair_of v w r s h = (ap (λ (p : ℕ × Text). p.0) h, ap (λ (p : ℕ × Text). p.1) h)

-- the number that goes on with digits of a base, by steps that look at one digit
number_stops : (f : Text → ℕ × Text) (v w y : ℕ) (bs rest : Text) → f bs ≡ (v, bs) → (y ∷ rest ≡ bs → (other : Text) → f (y ∷ other) ≡ (v, y ∷ other)) → f bs ≡ (w, y ∷ rest) → NumberCut f w bs y rest
number_stops f v w y bs rest e again h =
    let p = pair_of v w bs (y ∷ rest) (sym e ∙ h) in
    record { taken = []; whole = p.1; again = λ other. again (sym p.1) other ∙ ap (λ n. (n, y ∷ other)) p.0 }

first : (b y : ℕ) (bs rest : Text) → b ∷ bs ≡ y ∷ rest → b ≡ y
first b y bs rest h = cc

octal-zero : (v w y : ℕ) (bs rest : Text) → octal_at 0 v bs ≡ (w, y ∷ rest) → NumberCut (octal_at 0 v) w bs y rest
octal-zero v w y bs rest h = number_stops (octal_at 0 v) v w y bs rest refl (λ e other. refl) h

pub octal-digit : (n v b : ℕ) (bs : Text) (t u : Bool) → nat_lt (digit_value b) 8 ≡ t
    → nat_lt (v * 8 + digit_value b) 256 ≡ u → octal_at (suc n) v (b ∷ bs) ≡
    (if t then (if u then octal_at n (v * 8 + digit_value b) bs else (v, b ∷ bs)) else (v, b ∷ bs))
octal-digit n v b bs true u t' u' = rw t' (rw u' refl)
octal-digit n v b bs false u t' u' = rw t' refl

octal_cases : (n v w b y : ℕ) (bs rest : Text) (t u : Bool) → nat_lt (digit_value b) 8 ≡ t → nat_lt (v * 8 + digit_value b) 256 ≡ u
    → ((x : ℕ) → octal_at n x bs ≡ (w, y ∷ rest) → NumberCut (octal_at n x) w bs y rest) → octal_at (suc n) v (b ∷ bs) ≡ (w, y ∷ rest) → NumberCut (octal_at (suc n) v) w (b ∷ bs) y rest
octal_cases n v w b y bs rest true true t' u' more h =
    let k = more (v * 8 + digit_value b) (sym (octal-digit n v b bs true true t' u') ∙ h) in
    record { taken = b ∷ k.taken; whole = ap (λ xs. b ∷ xs) k.whole; again = λ other. octal-digit n v b (k.taken ++ y ∷ other) true true t' u' ∙ k.again other }
octal_cases n v w b y bs rest true false t' u' more h =
    let p = pair_of v w (b ∷ bs) (y ∷ rest) (sym (octal-digit n v b bs true false t' u') ∙ h) in
    record {
      taken = [];
      whole = p.1;
      again = λ other. subst (λ x. octal_at (suc n) v (x ∷ other) ≡ (w, x ∷ other))
          (first b y bs rest p.1) (octal-digit n v b other true false t' u' ∙ ap (λ m. (m, b ∷ other)) p.0);
    }
octal_cases n v w b y bs rest false u t' u' more h =
    let p = pair_of v w (b ∷ bs) (y ∷ rest) (sym (octal-digit n v b bs false u t' u') ∙ h) in
    record {
      taken = [];
      whole = p.1;
      again = λ other. subst (λ x. octal_at (suc n) v (x ∷ other) ≡ (w, x ∷ other))
          (first b y bs rest p.1) (octal-digit n v b other false u t' u' ∙ ap (λ m. (m, b ∷ other)) p.0);
    }

no_more : (v w y : ℕ) (rest : Text) → (let remaining : ℕ × Text = (v, []) in remaining ≡ (w, y ∷ rest)) → ⊥
no_more v w y rest h = empty (pair_of v w [] (y ∷ rest) h).1 where
  empty : [] ≡ y ∷ rest → ⊥
  empty h = cc

pub octal_cut : (n v w y : ℕ) (bs rest : Text) → octal_at n v bs ≡ (w, y ∷ rest) → NumberCut (octal_at n v) w bs y rest
octal_cut zero v w y bs rest h = octal-zero v w y bs rest h
octal_cut (suc n) v w y [] rest h = absurd (no_more v w y rest h)
octal_cut (suc n) v w y (b ∷ bs) rest h = octal_cases n v w b y bs rest (nat_lt (digit_value b) 8) (nat_lt (v * 8 + digit_value b) 256) refl refl (λ x k. octal_cut n x w y bs rest k) h

-- hexadecimal digits
pub hexadecimal-digit : (n v b : ℕ) (bs : Text) (t : Bool) → nat_lt (digit_value b) 16 ≡ t
    → hexadecimal_at (suc n) v (b ∷ bs) ≡ (if t then hexadecimal_at n (v * 16 + digit_value b) bs else (v, b ∷ bs))
hexadecimal-digit n v b bs true t' = rw t' refl
hexadecimal-digit n v b bs false t' = rw t' refl

hexadecimal_cases : (n v w b y : ℕ) (bs rest : Text) (t : Bool) → nat_lt (digit_value b) 16 ≡ t
    → ((x : ℕ) → hexadecimal_at n x bs ≡ (w, y ∷ rest) → NumberCut (hexadecimal_at n x) w bs y rest)
    → hexadecimal_at (suc n) v (b ∷ bs) ≡ (w, y ∷ rest) → NumberCut (hexadecimal_at (suc n) v) w (b ∷ bs) y rest
hexadecimal_cases n v w b y bs rest true t' more h =
    let k = more (v * 16 + digit_value b) (sym (hexadecimal-digit n v b bs true t') ∙ h) in
    record { taken = b ∷ k.taken; whole = ap (λ xs. b ∷ xs) k.whole; again = λ other. hexadecimal-digit n v b (k.taken ++ y ∷ other) true t' ∙ k.again other }
hexadecimal_cases n v w b y bs rest false t' more h =
    let p = pair_of v w (b ∷ bs) (y ∷ rest) (sym (hexadecimal-digit n v b bs false t') ∙ h) in
    record {
      taken = [];
      whole = p.1;
      again = λ other. subst
          (λ x. hexadecimal_at (suc n) v (x ∷ other) ≡ (w, x ∷ other)) (first b y bs rest p.1)
          (hexadecimal-digit n v b other false t' ∙ ap (λ m. (m, b ∷ other)) p.0);
    }

pub hexadecimal_cut : (n v w y : ℕ) (bs rest : Text) → hexadecimal_at n v bs ≡ (w, y ∷ rest) → NumberCut (hexadecimal_at n v) w bs y rest
hexadecimal_cut zero v w y bs rest h = number_stops (hexadecimal_at 0 v) v w y bs rest refl (λ e other. refl) h
hexadecimal_cut (suc n) v w y [] rest h = absurd (no_more v w y rest h)
hexadecimal_cut (suc n) v w y (b ∷ bs) rest h = hexadecimal_cases n v w b y bs rest (nat_lt (digit_value b) 16) refl (λ x k. hexadecimal_cut n x w y bs rest k) h

-- What a backslash stands for
abbrev pub MarkCut : (Text → Option (Text × Text)) → Text → Text → ℕ → Text → Type 0
MarkCut f v bs y rest = Cut f (λ r. Some (v, r)) bs y rest

some_parts : (a v r s : Text) → (let remaining : Option (Text × Text) = Some (a, r) in remaining ≡ Some (v, s)) → (a ≡ v) × (r ≡ s)
some_parts a v r s h =
    let e : (let p : Text × Text = (a, r) in p) ≡ (v, s) = cc in
    (ap (λ (p : Text × Text). p.0) e, ap (λ (p : Text × Text). p.1) e)

none_parts : (v s : Text) → (let remaining : Option (Text × Text) = None in remaining ≡ Some (v, s)) → ⊥
none_parts v s h = cc

letter_cut : (l v : Text) (y : ℕ) (bs rest : Text) → (let remaining : Option (Text × Text) = Some (l, bs) in remaining ≡ Some (v, y ∷ rest)) → MarkCut (λ xs. Some (l, xs)) v bs y rest
letter_cut l v y bs rest h =
    let p = some_parts l v bs (y ∷ rest) h in
    record { taken = []; whole = p.1; again = λ other. ap (λ t. Some (t, y ∷ other)) p.0 }

stops_there : (p : ℕ → Bool) (bs : Text) (y : ℕ) (rest : Text) → drop_while p bs ≡ y ∷ rest → not (p y) ≡ true
stops_there p bs y rest e = subst (MayBegin (λ b. not (p b))) e (back_fails p bs)

run_whole : (p : ℕ → Bool) (bs : Text) (y : ℕ) (rest : Text) → drop_while p bs ≡ y ∷ rest → bs ≡ take_while p bs ++ y ∷ rest
run_whole p bs y rest e = front_back p bs ∙ ap (λ xs. take_while p bs ++ xs) e

back_cut : (l v : Text) (p : ℕ → Bool) (y : ℕ) (bs rest : Text)
    → (let remaining : Option (Text × Text) = Some (l, drop_while p bs) in remaining ≡ Some (v, y ∷ rest))
    → MarkCut (λ xs. Some (l, drop_while p xs)) v bs y rest
back_cut l v p y bs rest h =
    let q = some_parts l v (drop_while p bs) (y ∷ rest) h in
    record {
      taken = take_while p bs;
      whole = run_whole p bs y rest q.1;
      again = λ other. ap (λ xs. Some (l, xs)) (back_run p (take_while p bs) (y ∷ other) (front_passes p bs) (stops_there p bs y rest q.1)) ∙ ap (λ t. Some (t, y ∷ other)) q.0;
    }

run_cut : (b : ℕ) (v : Text) (p : ℕ → Bool) (y : ℕ) (bs rest : Text)
    → (let remaining : Option (Text × Text) = Some (b ∷ take_while p bs, drop_while p bs) in remaining ≡ Some
    (v, y ∷ rest)) → MarkCut (λ xs. Some (b ∷ take_while p xs, drop_while p xs)) v bs y rest
run_cut b v p y bs rest h =
    let q = some_parts (b ∷ take_while p bs) v (drop_while p bs) (y ∷ rest) h in
    let stop = stops_there p bs y rest q.1 in
    record {
      taken = take_while p bs;
      whole = run_whole p bs y rest q.1;
      again = λ other. ap₂ (λ (f k : Text). Some (b ∷ f, k))
          (front_run p (take_while p bs) (y ∷ other) (front_passes p bs) stop)
          (back_run p (take_while p bs) (y ∷ other) (front_passes p bs) stop) ∙ ap (λ t. Some (t, y ∷ other)) q.0;
    }

abbrev pub is_half : ℕ → Bool
is_half w = nat_le 55296 w && nat_lt w 57344

pub character-half : (w : ℕ) (r : Text) → is_half w ≡ true → character (w, r) ≡ None
character-half w r h = rw h refl

pub character-whole : (w : ℕ) (r : Text) → is_half w ≡ false → character (w, r) ≡ Some (encode_utf8 w, r)
character-whole w r h = rw h refl

number_case : (f : Text → ℕ × Text) (v : Text) (y : ℕ) (bs rest : Text) (w : ℕ) (r : Text) (t : Bool) → f bs ≡ (w, r)
    → is_half w ≡ t → ((w : ℕ) → f bs ≡ (w, y ∷ rest) → NumberCut f w bs y rest) → character (w, r) ≡ Some (v, y ∷ rest)
    → MarkCut (λ xs. character (f xs)) v bs y rest
number_case f v y bs rest w r true e t' more h = absurd (none_parts v (y ∷ rest) (sym (character-half w r t') ∙ h))
number_case f v y bs rest w r false e t' more h =
    let p = some_parts (encode_utf8 w) v r (y ∷ rest) (sym (character-whole w r t') ∙ h) in
    let k = more w (e ∙ ap (λ xs. (w, xs)) p.1) in
    record {
      taken = k.taken;
      whole = k.whole;
      again = λ other. ap character (k.again other) ∙ character-whole w (y ∷ other) t' ∙ ap (λ t. Some (t, y ∷ other)) p.0;
    }

character_cut : (f : Text → ℕ × Text) (v : Text) (y : ℕ) (bs rest : Text)
    → ((w : ℕ) → f bs ≡ (w, y ∷ rest) → NumberCut f w bs y rest) → character (f bs) ≡ Some (v, y ∷ rest)
    → MarkCut (λ xs. character (f xs)) v bs y rest
character_cut f v y bs rest more h = number_case f v y bs rest (f bs).0 (f bs).1 (is_half (f bs).0) refl refl more h

-- behind a byte that says what follows
under : (f g : Text → Option (Text × Text)) (b : ℕ) → ((xs : Text) → f (b ∷ xs) ≡ g xs) → (v : Text) (y : ℕ) (bs rest : Text) → MarkCut g v bs y rest → MarkCut f v (b ∷ bs) y rest
under f g b same v y bs rest k = record { taken = b ∷ k.taken; whole = ap (λ xs. b ∷ xs) k.whole; again = λ other. same (k.taken ++ y ∷ other) ∙ k.again other }

pub code-digit : (n b h : ℕ) (xs : Text) → is_hexadecimal h ≡ true → code_at (suc n) b (h ∷ xs) ≡ character (hexadecimal_at n (digit_value h) xs)
code-digit n b h xs e =
    ap (λ (t : Bool). if t then character (hexadecimal_at (suc n) 0 (h ∷ xs)) else Some (b ∷ [], h ∷ xs)) e
    ∙ ap character (hexadecimal-digit n 0 h xs true e ∙ ap (λ v. hexadecimal_at n v xs) zero_first) where
      zero_first : 0 * 16 + digit_value h ≡ digit_value h
      zero_first = omega arith

pub code-none : (n b y : ℕ) (xs : Text) → is_hexadecimal y ≡ false → code_at n b (y ∷ xs) ≡ Some (b ∷ [], y ∷ xs)
code-none n b y xs e = rw e refl

code_cases : (n b : ℕ) (v : Text) (y h : ℕ) (bs rest : Text) (t : Bool) → is_hexadecimal h ≡ t → code_at (suc n) b (h ∷ bs) ≡ Some (v, y ∷ rest) → MarkCut (code_at (suc n) b) v (h ∷ bs) y rest
code_cases n b v y h bs rest true t e =
    under (code_at (suc n) b) (λ xs. character (hexadecimal_at n (digit_value h) xs)) h (λ xs. code-digit n b h xs t) v y bs rest
    (character_cut (hexadecimal_at n (digit_value h)) v y bs rest (λ w k. hexadecimal_cut n (digit_value h) w y bs rest k) (sym (code-digit n b h bs t) ∙ e))
code_cases n b v y h bs rest false t e =
    let p = some_parts (b ∷ []) v (h ∷ bs) (y ∷ rest) (sym (code-none (suc n) b h bs t) ∙ e) in
    record {
      taken = [];
      whole = p.1;
      again = λ other. subst (λ x. code_at (suc n) b (x ∷ other) ≡ Some (v, x ∷ other))
          (first h y bs rest p.1) (code-none (suc n) b h other t ∙ ap (λ s. Some (s, h ∷ other)) p.0);
    }

nothing_left : (l v : Text) (y : ℕ) (rest : Text) → (let remaining : Option (Text × Text) = Some (l, []) in remaining ≡ Some (v, y ∷ rest)) → ⊥
nothing_left l v y rest h = empty (some_parts l v [] (y ∷ rest) h).1 where
  empty : [] ≡ y ∷ rest → ⊥
  empty h = cc

code_cut : (n b : ℕ) (v : Text) (y : ℕ) (bs rest : Text) → code_at (suc n) b bs ≡ Some (v, y ∷ rest) → MarkCut (code_at (suc n) b) v bs y rest
code_cut n b v y [] rest e = absurd (nothing_left (b ∷ []) v y rest e)
code_cut n b v y (h ∷ bs) rest e = code_cases n b v y h bs rest (is_hexadecimal h) refl e

pub wide-none : (h : ℕ) (xs : Text) → is_hexadecimal h ≡ false → wide_code_at (h ∷ xs) ≡ Some (85 ∷ [], h ∷ xs)
wide-none h xs t = rw t refl

wide_cases : (v : Text) (y h : ℕ) (bs rest : Text) (t : Bool) → is_hexadecimal h ≡ t → wide_code_at (h ∷ bs) ≡ Some (v, y ∷ rest) → MarkCut wide_code_at v (h ∷ bs) y rest
wide_cases v y h bs rest true t e = absurd (none_parts v (y ∷ rest) (sym (refused t) ∙ e)) where
  refused : is_hexadecimal h ≡ true → wide_code_at (h ∷ bs) ≡ None
  refused t = rw t refl
wide_cases v y h bs rest false t e =
    let p = some_parts (85 ∷ []) v (h ∷ bs) (y ∷ rest) (sym (wide-none h bs t) ∙ e) in
    record { taken = []; whole = p.1; again = λ other. subst (λ x. wide_code_at (x ∷ other) ≡ Some (v, x ∷ other)) (first h y bs rest p.1) (wide-none h other t ∙ ap (λ s. Some (s, h ∷ other)) p.0) }

wide_cut : (v : Text) (y : ℕ) (bs rest : Text) → wide_code_at bs ≡ Some (v, y ∷ rest) → MarkCut wide_code_at v bs y rest
wide_cut v y [] rest e = absurd (nothing_left (85 ∷ []) v y rest e)
wide_cut v y (h ∷ bs) rest e = wide_cases v y h bs rest (is_hexadecimal h) refl e

-- the whole of it, by the byte behind the backslash
pub octal_first : (b : ℕ) (xs : Text) → is_octal b ≡ true → octal_at 3 0 (b ∷ xs) ≡ octal_at 2 (0 * 8 + digit_value b) xs
octal_first b xs h = octal-digit 2 0 b xs true true h (small b h) where
  small : (b : ℕ) → nat_lt (digit_value b) 8 ≡ true → nat_lt (0 * 8 + digit_value b) 256 ≡ true
  small b h = less (digit_value b) h where
    less : (d : ℕ) → nat_lt d 8 ≡ true → nat_lt (0 * 8 + d) 256 ≡ true
    less d h = grind (arith, nat_tests)

abbrev pub marked : ℕ → Bool → Bool → Bool → Bool → Bool → Bool → Text → Option (Text × Text)
marked b n o x u l w xs =
    if n then Some (32 ∷ [], drop_while is_blank_or_tab xs) else if o then character (octal_at 3 0 (b ∷ xs)) else if x then code_at 2 b xs else if u then code_at 4 b xs
    else if l then wide_code_at xs else if w then Some (b ∷ take_while is_continuation xs, drop_while is_continuation xs) else Some (letter_value b ∷ [], xs)

pub same_mark : (b : ℕ) (n o x u l w : Bool) → (b == newline) ≡ n → is_octal b ≡ o → (b == 120) ≡ x → (b == 117) ≡ u
    → (b == 85) ≡ l → nat_le 128 b ≡ w → (xs : Text) → after_backslash (b ∷ xs) ≡ marked b n o x u l w xs
same_mark b n o x u l w n' o' x' u' l' w' xs =
    ap (λ t. marked b t (is_octal b) (b == 120) (b == 117) (b == 85) (nat_le 128 b) xs) n' ∙ ap (λ t. marked b n t (b == 120) (b == 117) (b == 85) (nat_le 128 b) xs) o'
    ∙ ap (λ t. marked b n o t (b == 117) (b == 85) (nat_le 128 b) xs) x' ∙ ap (λ t. marked b n o x t (b == 85) (nat_le 128 b) xs) u'
    ∙ ap (λ t. marked b n o x u t (nat_le 128 b) xs) l' ∙ ap (λ t. marked b n o x u l t xs) w'

mark_by : (b : ℕ) (v : Text) (y : ℕ) (bs rest : Text) (g : Text → Option (Text × Text))
    → after_backslash (b ∷ bs) ≡ Some (v, y ∷ rest) → ((xs : Text) → after_backslash (b ∷ xs) ≡ g xs)
    → (g bs ≡ Some (v, y ∷ rest) → MarkCut g v bs y rest) → MarkCut after_backslash v (b ∷ bs) y rest
mark_by b v y bs rest g h is cut = under after_backslash g b is v y bs rest (cut (sym (is bs) ∙ h))

mark_cases : (b : ℕ) (v : Text) (y : ℕ) (bs rest : Text) (n o x u l w : Bool) → (b == newline) ≡ n → is_octal b ≡ o
    → (b == 120) ≡ x → (b == 117) ≡ u → (b == 85) ≡ l → nat_le 128 b ≡ w → after_backslash (b ∷ bs) ≡ Some (v, y ∷ rest)
    → MarkCut after_backslash v (b ∷ bs) y rest
mark_cases b v y bs rest true o x u l w n' o' x' u' l' w' h = mark_by b v y bs rest
    (λ xs. Some (32 ∷ [], drop_while is_blank_or_tab xs)) h (same_mark b true o x u l w n' o' x' u' l' w')
    (back_cut (32 ∷ []) v is_blank_or_tab y bs rest)
mark_cases b v y bs rest false true x u l w n' o' x' u' l' w' h =
    mark_by b v y bs rest (λ xs. character (octal_at 2 (0 * 8 + digit_value b) xs)) h (λ xs. same_mark b false true x u l w n' o' x' u' l' w' xs ∙ ap character (octal_first b xs o'))
    (character_cut (octal_at 2 (0 * 8 + digit_value b)) v y bs rest (λ k e. octal_cut 2 (0 * 8 + digit_value b) k y bs rest e))
mark_cases b v y bs rest false false true u l w n' o' x' u' l' w' h = mark_by b v y bs rest (code_at 2 b) h (same_mark b false false true u l w n' o' x' u' l' w') (code_cut 1 b v y bs rest)
mark_cases b v y bs rest false false false true l w n' o' x' u' l' w' h = mark_by b v y bs rest (code_at 4 b) h (same_mark b false false false true l w n' o' x' u' l' w') (code_cut 3 b v y bs rest)
mark_cases b v y bs rest false false false false true w n' o' x' u' l' w' h = mark_by b v y bs rest wide_code_at h (same_mark b false false false false true w n' o' x' u' l' w') (wide_cut v y bs rest)
mark_cases b v y bs rest false false false false false true n' o' x' u' l' w' h =
    mark_by b v y bs rest (λ xs. Some (b ∷ take_while is_continuation xs, drop_while is_continuation xs)) h
    (same_mark b false false false false false true n' o' x' u' l' w') (run_cut b v is_continuation y bs rest)
mark_cases b v y bs rest false false false false false false n' o' x' u' l' w' h =
    mark_by b v y bs rest (λ xs. Some (letter_value b ∷ [], xs)) h (same_mark b false false false false false false n' o' x' u' l' w') (letter_cut (letter_value b ∷ []) v y bs rest)

pub mark_cut : (v : Text) (y : ℕ) (bs rest : Text) → after_backslash bs ≡ Some (v, y ∷ rest) → MarkCut after_backslash v bs y rest
mark_cut v y [] rest h = absurd (none_parts v (y ∷ rest) h)
mark_cut v y (b ∷ bs) rest h = mark_cases b v y bs rest (b == newline) (is_octal b) (b == 120) (b == 117) (b == 85) (nat_le 128 b) refl refl refl refl refl refl h

-- A piece, up to a byte behind it
pub record PieceCut (ends : ℕ → Bool) (bs e : Text) (y : ℕ) (rest : Text) : Type 0 where
  pub taken : Text
  pub whole : bs ≡ taken ++ y ∷ rest
  pub again : (other : Text) → ElementPiece ends (taken ++ y ∷ other) e (y ∷ other)

joined_cut : (ends : ℕ → Bool) (bs v r ts : Text) → after_backslash bs ≡ Some (v, r) → (y : ℕ) (rest taken : Text)
    → r ≡ taken ++ y ∷ rest → ((other : Text) → ElementPiece ends (taken ++ y ∷ other) ts (y ∷ other))
    → PieceCut ends (backslash ∷ bs) (v ++ ts) y rest
joined_cut ends bs v r ts stands y rest [] w again =
    let k = mark_cut v y bs rest (stands ∙ ap (λ xs. Some (v, xs)) w) in
    record { taken = backslash ∷ k.taken; whole = ap (λ xs. backslash ∷ xs) k.whole; again = λ other. grammar.ElementPiece.substituted v (y ∷ other) (k.again other) (again other) }
joined_cut ends bs v r ts stands y rest (z ∷ taken) w again =
    let k = mark_cut v z bs (taken ++ y ∷ rest) (stands ∙ ap (λ xs. Some (v, xs)) w) in
    record {
      taken = backslash ∷ (k.taken ++ z ∷ taken);
      whole = ap (λ xs. backslash ∷ xs) (k.whole ∙ sym (append_assoc k.taken (z ∷ taken) (y ∷ rest)));
      again = λ other. subst (λ xs. ElementPiece ends (backslash ∷ xs) (v ++ ts) (y ∷ other)) (sym (append_assoc k.taken (z ∷ taken) (y ∷ other)))
          (grammar.ElementPiece.substituted v (z ∷ (taken ++ y ∷ other)) (k.again (taken ++ y ∷ other)) (again other));
    }

pub piece_cut : {ends : ℕ → Bool} {bs e tail : Text} → ElementPiece ends bs e tail → (y : ℕ) (rest : Text) → tail ≡ y ∷ rest → PieceCut ends bs e y rest
piece_cut grammar.ElementPiece.nothing y rest e = record { taken = []; whole = e; again = λ other. grammar.ElementPiece.nothing }
piece_cut (grammar.ElementPiece.literal {b} {bs} {ts} h k m) y rest e =
    let more = piece_cut m y rest e in
    record { taken = b ∷ more.taken; whole = ap (λ xs. b ∷ xs) more.whole; again = λ other. grammar.ElementPiece.literal h k (more.again other) }
piece_cut {ends} (grammar.ElementPiece.substituted {bs} {ts} v r stands m) y rest e =
    let more = piece_cut m y rest e in
    joined_cut ends bs v r ts stands y rest more.taken more.whole more.again
