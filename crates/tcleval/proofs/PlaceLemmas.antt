-- The braces of a file, one after another, and the scripts under evaluation in both orders.
use Rattle.std.proofs.Common.{◌≡◌, ◌≢◌, ℕ, zero, suc, ◌+◌, ◌-◌, ◌<◌, ◌≤◌, Bool, true, false, List, [], ◌∷◌, ◌++◌, length}
use Rattle.std.proofs.Common.{reverse, string_bytes, Option, Some, None, Bor, refl, sym, ap, ap₂, ◌∙◌, arith, drop, get_or}
use Rattle.std.proofs.Common.{length-append}
use Rattle.std.specs.Prelude.{◌==◌, nat_lt, if◌then◌else◌, option_map, bytes_eq}
use Rattle.std.specs.List.{slice_get}
use Rattle.std.specs.Option.{option_or}
use Rattle.std.specs.Slice.{IsItemAt}
use Rattle.std.proofs.lemmas.Bool.{ne_eqb}
use Rattle.std.proofs.lemmas.List.{reverse-append, reverse-reverse}
use Rattle.std.proofs.lemmas.Option.{slice_get_read, slice_get_past, same_Some, none-some}
use Rattle.tcltext.specs.chars.Runs.{Text, begins, drop_while}
use Rattle.tcltext.specs.chars.Backslash.{is_blank_or_tab}
use Rattle.tcltext.specs.chars.Braces.{braced_at}
use Rattle.tcltext.specs.chars.BracedText.{braced_text}
use Rattle.tcltext.proofs.chars.BraceClose.{close_sound}
use Rattle.tclrules.specs.Derivation.{OpenScript}
use Rattle.tclrules.specs.Meaning.{outermost}
use Rattle.tclrules.specs.Plans.{with_offset, without_innermost, around}
use Rattle.tclrules.specs.Places.{behind_value, offset_inside, offset_from, offset_in_file, innermost_from, place_of}
use Rattle.tclrules.specs.Places.{place_within, placed}
use Rattle.tcleval.specs.declared.open_scripts.OpenScript as program
use Rattle.tcleval.specs.OpenScripts.{entries_view, outer_view, begins_inside}

-- A text in braces

dropped_shorter : (p : ℕ → Bool) (bs : Text) → length (drop_while p bs) ≤ length bs
dropped_shorter p [] = omega arith
dropped_shorter p (b ∷ bs) = by (p b) (dropped_shorter p bs)
  where
    by : (t : Bool) → length (drop_while p bs) ≤ length bs → length (if t then drop_while p bs else b ∷ bs) ≤ length (b ∷ bs)
    by true h = omega arith
    by false h = omega arith

rest_shorter : (bs : Text) → length (drop 1 bs) ≤ length bs
rest_shorter [] = omega arith
rest_shorter (b ∷ bs) = omega arith

each_shorter : (t u : Bool) (xs ys zs : Text) (n : ℕ) → length xs ≤ n → length ys ≤ n → length zs ≤ n
    → length (if t then (if u then xs else ys) else zs) ≤ n
each_shorter true true xs ys zs n a b c = a
each_shorter true false xs ys zs n a b c = b
each_shorter false u xs ys zs n a b c = c

-- what is left is part of the text
pub behind_shorter : (escaped : Bool) (n : ℕ) (bs : Text) → length (behind_value escaped n bs) ≤ length bs
behind_shorter escaped zero bs = omega arith
behind_shorter escaped (suc n) [] = omega arith
behind_shorter true (suc n) (b ∷ bs) = omega (arith, behind_shorter false n bs)
behind_shorter false (suc n) (b ∷ bs) =
    let blanks : length (drop_while is_blank_or_tab (drop 1 bs)) ≤ length bs = omega (arith, dropped_shorter is_blank_or_tab (drop 1 bs), rest_shorter bs) in
    let long : length (behind_value false n (drop_while is_blank_or_tab (drop 1 bs))) ≤ length (b ∷ bs) = omega (arith, behind_shorter false n (drop_while is_blank_or_tab (drop 1 bs)), blanks) in
    let other : length (behind_value true n bs) ≤ length (b ∷ bs) = omega (arith, behind_shorter true n bs) in
    let plain : length (behind_value false n bs) ≤ length (b ∷ bs) = omega (arith, behind_shorter false n bs) in
    each_shorter (b == 92) (begins 10 bs) _ _ _ _ long other plain

pub behind_nothing : (escaped : Bool) (n : ℕ) (bs : Text) → length bs ≡ 0 → bs ≡ behind_value escaped n bs
behind_nothing escaped zero bs h = refl
behind_nothing escaped (suc n) [] h = refl
behind_nothing escaped (suc n) (b ∷ bs) h = absurd (omega arith)

pub behind_all : (escaped : Bool) (n : ℕ) (bs : Text) → n ≡ 0 → bs ≡ behind_value escaped n bs
behind_all escaped n bs h = rw h refl

pub first_and_rest : (bs : Text) → 1 ≤ length bs → get_or bs 0 0 ∷ drop 1 bs ≡ bs
first_and_rest [] h = absurd (omega arith)
first_and_rest (b ∷ bs) h = refl

-- one byte of the value further on
pub behind_more : (escaped : Bool) (n b : ℕ) (bs rest rest' : Text) (escaped' : Bool) → 0 < n → rest ≡ b ∷ bs
    → ((m : ℕ) → behind_value escaped (suc m) (b ∷ bs) ≡ behind_value escaped' m rest')
    → behind_value escaped' (n - 1) rest' ≡ behind_value escaped n rest
behind_more escaped n b bs rest rest' escaped' l e h =
    let one : suc (n - 1) ≡ n = omega arith in
    sym (h (n - 1)) ∙ ap (λ k. behind_value escaped k (b ∷ bs)) one ∙ ap (behind_value escaped n) (sym e)

-- what is found in braces
inside_by : (t : Bool) (a b n : ℕ) → (if t then Some (a - b) else None) ≡ Some n → n ≤ a
inside_by true a b n h = let e : a - b ≡ n = same_Some (a - b) n h in omega arith
inside_by false a b n h = absurd (none-some n h)

within_found : (s : OpenScript) (bs : Text) (found : Option (Text × Text)) (n : ℕ) → braced_at false 0 bs ≡ found
    → offset_inside s found ≡ Some n → n < length bs
within_found s bs None n e h = absurd (none-some n h)
within_found s bs (Some p) n e h =
    let le : n ≤ length p.0 = inside_by (bytes_eq (braced_text p.0) s.text) (length p.0) (length (behind_value false s.offset p.0)) n h in
    let cut = (close_sound bs false 0 p.0 p.1 e).0 in
    omega (arith, ap length cut, length-append p.0 (125 ∷ p.1))

pub inside_within : (s : OpenScript) (bs : Text) (n : ℕ) → offset_inside s (braced_at false 0 bs) ≡ Some n → n < length bs
inside_within s bs n h = within_found s bs (braced_at false 0 bs) n refl h

pub inside_none : (s : OpenScript) (found : Option (Text × Text)) → None ≡ found → None ≡ offset_inside s found
inside_none s found h = ap (offset_inside s) h

pub inside_other : (s : OpenScript) (inside after : Text) (found : Option (Text × Text)) → Some (inside, after) ≡ found
    → bytes_eq (braced_text inside) s.text ≡ false → None ≡ offset_inside s found
inside_other s inside after found h e = (rw e refl) ∙ ap (offset_inside s) h

pub inside_there : (s : OpenScript) (inside after : Text) (found : Option (Text × Text)) (n : ℕ) → Some (inside, after) ≡ found
    → bytes_eq (braced_text inside) s.text ≡ true → n ≡ length inside - length (behind_value false s.offset inside)
    → Some n ≡ offset_inside s found
inside_there s inside after found n h e l = ap (λ (k : ℕ). Some k) l ∙ (rw e refl) ∙ ap (offset_inside s) h

-- The braces of a text

-- so many bytes further on
abbrev pub beyond : ℕ → Option ℕ → Option ℕ
beyond n o = option_map (λ i. n + i) o

beyond-beyond : (m n : ℕ) (o : Option ℕ) → beyond m (beyond n o) ≡ beyond (m + n) o
beyond-beyond m n None = refl
beyond-beyond m n (Some i) = let e : m + (n + i) ≡ m + n + i = omega arith in ap (λ (k : ℕ). Some k) e

one_more : (m n : ℕ) (o : Option ℕ) → n ≡ suc m → option_map suc (beyond m o) ≡ beyond n o
one_more m n None h = refl
one_more m n (Some i) h = let e : suc (m + i) ≡ n + i = omega arith in ap (λ (k : ℕ). Some k) e

one : (o : Option ℕ) → option_map suc o ≡ beyond 1 o
one None = refl
one (Some i) = let e : suc i ≡ 1 + i = omega arith in ap (λ (k : ℕ). Some k) e

-- what the first brace of a text gives
abbrev pub at_brace : OpenScript → Text → Option ℕ
at_brace s after = option_or (offset_inside s (braced_at false 0 after)) (offset_from s 0 after)

abbrev pub NoBrace : Text → Type 0
NoBrace bs = (i : ℕ) → i < length bs → get_or bs i 0 ≢ 123

behind_first : (b : ℕ) (bs : Text) → NoBrace (b ∷ bs) → NoBrace bs
behind_first b bs h = λ i l. h (suc i) (omega arith)

first_is : (b : ℕ) (bs : Text) → NoBrace (b ∷ bs) → (b == 123) ≡ false
first_is b bs h = ne_eqb b 123 (h 0 (omega arith))

-- a text without braces
none_from : (s : OpenScript) (from : ℕ) (bs : Text) → NoBrace bs → offset_from s from bs ≡ None
none_from s from [] h = refl
none_from s (suc from) (b ∷ bs) h = ap (option_map suc) (none_from s from bs (behind_first b bs h))
none_from s zero (b ∷ bs) h = rw (first_is b bs h) (ap (option_map suc) (none_from s zero bs (behind_first b bs h)))

-- a text whose first brace opens at the offset or behind, and one where it opens before
first_behind : (s : OpenScript) (from : ℕ) (xs after : Text) → NoBrace xs → from ≤ length xs
    → offset_from s from (xs ++ 123 ∷ after) ≡ beyond (length xs + 1) (at_brace s after)
first_behind s zero [] after h l = one (at_brace s after)
first_behind s (suc from) [] after h l = absurd (omega arith)
first_behind s zero (x ∷ xs) after h l = rw (first_is x xs h)
    (ap (option_map suc) (first_behind s zero xs after (behind_first x xs h) (omega arith))
    ∙ one_more (length xs + 1) (suc (length xs) + 1) (at_brace s after) (omega arith))
first_behind s (suc from) (x ∷ xs) after h l =
    ap (option_map suc) (first_behind s from xs after (behind_first x xs h) (omega arith))
    ∙ one_more (length xs + 1) (suc (length xs) + 1) (at_brace s after) (omega arith)

first_before : (s : OpenScript) (from : ℕ) (xs after : Text) → NoBrace xs → length xs < from
    → offset_from s from (xs ++ 123 ∷ after) ≡ beyond (length xs + 1) (offset_from s (from - (length xs + 1)) after)
first_before s zero xs after h l = absurd (omega arith)
first_before s (suc from) [] after h l =
    let e : suc from - 1 ≡ from = omega arith in
    one (offset_from s from after) ∙ ap (λ n. beyond 1 (offset_from s n after)) (sym e)
first_before s (suc from) (x ∷ xs) after h l =
    let e : from - (length xs + 1) ≡ suc from - (suc (length xs) + 1) = omega arith in
    ap (option_map suc) (first_before s from xs after (behind_first x xs h) (omega arith))
    ∙ one_more (length xs + 1) (suc (length xs) + 1) (offset_from s (from - (length xs + 1)) after) (omega arith)
    ∙ ap (λ n. beyond (suc (length xs) + 1) (offset_from s n after)) e

-- what is left of a file still gives what the file gives
pub record Left (s : OpenScript) (from : ℕ) (file rest : Text) : Type 0 where
  pub shorter : length rest ≤ length file
  pub same : offset_from s from file
      ≡ beyond (length file - length rest) (offset_from s (from - (length file - length rest)) rest)

pub left_whole : (s : OpenScript) (from : ℕ) (file : Text) → Left s from file file
left_whole s from file = record { shorter = omega arith; same = whole (offset_from s from file) (length file - length file) (omega arith) }
  where
    nothing : (o : Option ℕ) → o ≡ beyond 0 o
    nothing None = refl
    nothing (Some i) = let e : i ≡ 0 + i = omega arith in ap (λ (k : ℕ). Some k) e

    none_less : (n : ℕ) → n ≡ 0 → from ≡ from - n
    none_less n h = omega arith

    whole : (o : Option ℕ) (n : ℕ) → n ≡ 0 → offset_from s from file ≡ beyond n (offset_from s (from - n) file)
    whole o n h = nothing (offset_from s from file) ∙ ap₂ (λ (k m : ℕ). beyond k (offset_from s m file)) (sym h) (none_less n h)

module _ (s : OpenScript) (from : ℕ) (file rest xs after : Text) (l : Left s from file rest) (cut : rest ≡ xs ++ 123 ∷ after)
    (free : NoBrace xs) where
  lengths : length rest ≡ length xs + suc (length after)
  lengths = ap length cut ∙ length-append xs (123 ∷ after)

  -- at a brace behind the offset
  at_first : from < length file - length after → offset_from s from file ≡ beyond (length file - length after) (at_brace s after)
  at_first h =
      let short = l.shorter in
      let n : from - (length file - length rest) ≤ length xs = omega (arith, lengths) in
      let so : length file - length rest + (length xs + 1) ≡ length file - length after = omega (arith, lengths) in
      l.same
      ∙ ap (λ (t : Text). beyond (length file - length rest) (offset_from s (from - (length file - length rest)) t)) cut
      ∙ ap (beyond (length file - length rest)) (first_behind s (from - (length file - length rest)) xs after free n)
      ∙ beyond-beyond (length file - length rest) (length xs + 1) (at_brace s after)
      ∙ ap (λ (k : ℕ). beyond k (at_brace s after)) so

  pub left_other : from < length file - length after → None ≡ offset_inside s (braced_at false 0 after) → Left s from file after
  left_other h e =
      let short = l.shorter in
      let none : 0 ≡ from - (length file - length after) = omega arith in
      record {
        shorter = omega (arith, lengths);
        same = at_first h ∙ ap (λ (o : Option ℕ). beyond (length file - length after) (option_or o (offset_from s 0 after))) (sym e)
            ∙ ap (λ (k : ℕ). beyond (length file - length after) (offset_from s k after)) none;
      }

  pub left_before : length file - length after ≤ from → Left s from file after
  left_before h =
      let short = l.shorter in
      let n : length xs < from - (length file - length rest) = omega (arith, lengths) in
      let so : length file - length rest + (length xs + 1) ≡ length file - length after = omega (arith, lengths) in
      let less : from - (length file - length rest) - (length xs + 1) ≡ from - (length file - length after) = omega (arith, lengths) in
      record {
        shorter = omega (arith, lengths);
        same = l.same
            ∙ ap (λ (t : Text). beyond (length file - length rest) (offset_from s (from - (length file - length rest)) t)) cut
            ∙ ap (beyond (length file - length rest)) (first_before s (from - (length file - length rest)) xs after free n)
            ∙ beyond-beyond (length file - length rest) (length xs + 1) (offset_from s (from - (length file - length rest) - (length xs + 1)) after)
            ∙ ap₂ (λ (k m : ℕ). beyond k (offset_from s m after)) so less;
      }

  pub found_in : from < length file - length after → (offset : ℕ) → Some offset ≡ offset_inside s (braced_at false 0 after)
      → Some (length file - length after + offset) ≡ offset_from s from file
  found_in h offset e = sym (at_first h ∙ ap (λ (o : Option ℕ). beyond (length file - length after) (option_or o (offset_from s 0 after))) (sym e))

pub found_nowhere : (s : OpenScript) (from : ℕ) (file rest : Text) → Left s from file rest → NoBrace rest → None ≡ offset_from s from file
found_nowhere s from file rest l free =
    sym (l.same ∙ ap (beyond (length file - length rest)) (none_from s (from - (length file - length rest)) rest free))

-- Scripts under evaluation

-- a script on top of the others
abbrev pub entry_view : ℕ → program.OpenScript → OpenScript
entry_view offset e = record { remaining = e.remaining; text = string_bytes e.tree.value.text; offset = offset }

pub pushed : (offset : ℕ) (old new : List program.OpenScript) (e : program.OpenScript) → new ≡ old ++ e ∷ []
    → entries_view offset (reverse new) ≡ entry_view offset e ∷ entries_view e.outer_offset (reverse old)
pushed offset old new e h = ap (λ es. entries_view offset (reverse es)) h ∙ ap (entries_view offset) (reverse-append old (e ∷ []))

pub moved : (a b : ℕ) (es : List program.OpenScript) → entries_view a es ≡ with_offset a (entries_view b es)
moved a b [] = refl
moved a b (e ∷ es) = refl

pub popped : (offset : ℕ) (old new : List program.OpenScript) (e : program.OpenScript) → old ≡ new ++ e ∷ []
    → entries_view e.outer_offset (reverse new) ≡ without_innermost (entries_view offset (reverse old))
popped offset old new e h = ap without_innermost (sym (pushed offset new old e h))

pub emptied : (offset : ℕ) (old new : List program.OpenScript) → length old ≡ 0 → length new ≡ 0
    → entries_view offset (reverse new) ≡ without_innermost (entries_view offset (reverse old))
emptied offset [] [] h k = refl
emptied offset (e ∷ es) new h k = absurd (cc)
emptied offset [] (e ∷ es) h k = absurd (cc)

pub on_top : (remaining offset : ℕ) (old new : List program.OpenScript) (e : program.OpenScript) → new ≡ old ++ e ∷ []
    → nat_lt e.remaining remaining ≡ begins_inside remaining (entries_view offset (reverse new))
on_top remaining offset old new e h = ap (begins_inside remaining) (sym (pushed offset old new e h))

pub none_on_top : (remaining offset : ℕ) (es : List program.OpenScript) → length es ≡ 0
    → false ≡ begins_inside remaining (entries_view offset (reverse es))
none_on_top remaining offset [] h = refl
none_on_top remaining offset (e ∷ es) h = absurd (cc)

-- scripts that are left
pub left_on : (remaining : ℕ) (scripts : List OpenScript) → begins_inside remaining scripts ≡ true
    → around remaining (without_innermost scripts) ≡ around remaining scripts
left_on remaining [] h = absurd (cc)
left_on remaining (s ∷ scripts) h = rw h refl

pub fewer : (remaining : ℕ) (scripts : List OpenScript) → begins_inside remaining scripts ≡ true
    → length (without_innermost scripts) < length scripts
fewer remaining [] h = absurd (cc)
fewer remaining (s ∷ scripts) h = omega arith

pub left_all : (remaining : ℕ) (scripts : List OpenScript) → begins_inside remaining scripts ≡ false
    → scripts ≡ around remaining scripts
left_all remaining [] h = refl
left_all remaining (s ∷ scripts) h = rw h refl

-- both orders
outer_more : (offset : ℕ) (es : List program.OpenScript) (e : program.OpenScript)
    → outer_view offset (es ++ e ∷ []) ≡ outer_view e.outer_offset es ++ entry_view offset e ∷ []
outer_more offset [] e = refl
outer_more offset (f ∷ []) e = refl
outer_more offset (f ∷ g ∷ es) e = ap (λ l. entry_view g.outer_offset f ∷ l) (outer_more offset (g ∷ es) e)

outer_reversed : (offset : ℕ) (es : List program.OpenScript) → reverse (entries_view offset es) ≡ outer_view offset (reverse es)
outer_reversed offset [] = refl
outer_reversed offset (e ∷ es) =
    reverse-append (entry_view offset e ∷ []) (entries_view e.outer_offset es)
    ∙ ap (λ l. l ++ entry_view offset e ∷ []) (outer_reversed e.outer_offset es)
    ∙ sym (outer_more offset (reverse es) e) ∙ ap (outer_view offset) (sym (reverse-append (e ∷ []) es))

in_order : (offset : ℕ) (es : List program.OpenScript) → reverse (entries_view offset (reverse es)) ≡ outer_view offset es
in_order offset es = outer_reversed offset (reverse es) ∙ ap (outer_view offset) (reverse-reverse es)

-- the script at an index: its offset stands with the one inside of it
abbrev pub inner_offset : ℕ → Option program.OpenScript → ℕ
inner_offset offset None = offset
inner_offset offset (Some e) = e.outer_offset

outer_there : (offset : ℕ) (es : List program.OpenScript) (i : ℕ) (e : program.OpenScript) → slice_get es i ≡ Some e
    → slice_get (outer_view offset es) i ≡ Some (entry_view (inner_offset offset (slice_get es (suc i))) e)
outer_there offset [] i e h = absurd (none-some e h)
outer_there offset (f ∷ []) zero e h = ap (λ (x : program.OpenScript). Some (entry_view offset x)) (same_Some f e h)
outer_there offset (f ∷ []) (suc i) e h = absurd (none-some e h)
outer_there offset (f ∷ g ∷ es) zero e h = ap (λ (x : program.OpenScript). Some (entry_view g.outer_offset x)) (same_Some f e h)
outer_there offset (f ∷ g ∷ es) (suc i) e h = outer_there offset (g ∷ es) i e h

outer_past : (offset : ℕ) (es : List program.OpenScript) (i : ℕ) → slice_get es i ≡ None → slice_get (outer_view offset es) i ≡ None
outer_past offset [] i h = refl
outer_past offset (f ∷ []) zero h = absurd (none-some f (sym h))
outer_past offset (f ∷ []) (suc i) h = refl
outer_past offset (f ∷ g ∷ es) zero h = absurd (none-some f (sym h))
outer_past offset (f ∷ g ∷ es) (suc i) h = outer_past offset (g ∷ es) i h

pub script_there : (offset : ℕ) (es : List program.OpenScript) (scripts : List OpenScript) (i : ℕ) (e : program.OpenScript)
    → entries_view offset (reverse es) ≡ scripts → slice_get es i ≡ Some e
    → Some (entry_view (inner_offset offset (slice_get es (suc i))) e) ≡ slice_get (reverse scripts) i
script_there offset es scripts i e v h =
    sym (ap (λ (l : List OpenScript). slice_get (reverse l) i) (sym v) ∙ ap (λ (l : List OpenScript). slice_get l i) (in_order offset es) ∙ outer_there offset es i e h)

pub script_past : (offset : ℕ) (es : List program.OpenScript) (scripts : List OpenScript) (i : ℕ)
    → entries_view offset (reverse es) ≡ scripts → slice_get es i ≡ None → None ≡ slice_get (reverse scripts) i
script_past offset es scripts i v h =
    sym (ap (λ (l : List OpenScript). slice_get (reverse l) i) (sym v) ∙ ap (λ (l : List OpenScript). slice_get l i) (in_order offset es) ∙ outer_past offset es i h)

outer_length : (offset : ℕ) (es : List program.OpenScript) → length (outer_view offset es) ≡ length es
outer_length offset [] = refl
outer_length offset (f ∷ []) = refl
outer_length offset (f ∷ g ∷ es) = ap suc (outer_length offset (g ∷ es))

pub as_many : (offset : ℕ) (es : List program.OpenScript) (scripts : List OpenScript)
    → entries_view offset (reverse es) ≡ scripts → length (reverse scripts) ≡ length es
as_many offset es scripts v = ap (λ (l : List OpenScript). length (reverse l)) (sym v) ∙ ap length (in_order offset es) ∙ outer_length offset es

-- an element that get gives
pub item_there : (es : List program.OpenScript) (i : ℕ) (e : Bor program.OpenScript) → IsItemAt es i (Some e) → slice_get es i ≡ Some e.now
item_there es i e h = slice_get_read es (length es) i e.now refl h.3.0 h.1

pub item_past : (es : List program.OpenScript) (i : ℕ) → IsItemAt es i None → slice_get es i ≡ None
item_past es i h = slice_get_past es i h.3

-- the outermost is the last
outermost_is : (scripts : List OpenScript) (s : OpenScript) (rest : List OpenScript) → reverse scripts ≡ s ∷ rest
    → s.offset ≡ outermost scripts
outermost_is scripts s rest h = last_is (reverse scripts) scripts (reverse-reverse scripts) s rest h
  where
    last_of : (xs : List OpenScript) (s : OpenScript) → outermost (xs ++ s ∷ []) ≡ s.offset
    last_of [] s = refl
    last_of (x ∷ []) s = refl
    last_of (x ∷ y ∷ xs) s = last_of (y ∷ xs) s

    last_is : (rs xs : List OpenScript) → reverse rs ≡ xs → (s : OpenScript) (rest : List OpenScript) → rs ≡ s ∷ rest → s.offset ≡ outermost xs
    last_is rs xs r s rest e = sym (last_of (reverse rest) s) ∙ ap outermost (sym (reverse-append (s ∷ []) rest) ∙ sym (ap reverse e) ∙ r)

first_there : (xs : List OpenScript) (s : OpenScript) → Some s ≡ slice_get xs 0 → xs ≡ s ∷ drop 1 xs
first_there [] s h = absurd (none-some s (sym h))
first_there (x ∷ xs) s h = ap (λ (y : OpenScript). y ∷ xs) (same_Some x s (sym h))

first_none : (xs : List OpenScript) → None ≡ slice_get xs 0 → xs ≡ []
first_none [] h = refl
first_none (x ∷ xs) h = absurd (none-some x h)

pub outermost_there : (scripts : List OpenScript) (s : OpenScript) → Some s ≡ slice_get (reverse scripts) 0 → s.offset ≡ outermost scripts
outermost_there scripts s h = outermost_is scripts s (drop 1 (reverse scripts)) (first_there (reverse scripts) s h)

pub outermost_none : (scripts : List OpenScript) → None ≡ slice_get (reverse scripts) 0 → 0 ≡ outermost scripts
outermost_none scripts h = ap (λ (l : List OpenScript). outermost (reverse l)) (sym (first_none (reverse scripts) h)) ∙ ap outermost (reverse-reverse scripts)

-- The innermost command that is found

pub place_none : (file : Text) (scripts : List OpenScript) → None ≡ slice_get (reverse scripts) 0 → None ≡ place_of file scripts
place_none file scripts h = ap (place_within file) (sym (first_none (reverse scripts) h))

pub place_there : (file : Text) (scripts : List OpenScript) (s : OpenScript) (n : ℕ) → Some s ≡ slice_get (reverse scripts) 0
    → n ≡ innermost_from file s.offset (drop 1 (reverse scripts))
    → Some (placed file s.offset n) ≡ place_of file scripts
place_there file scripts s n h e =
    ap (λ (k : ℕ). Some (placed file s.offset k)) e ∙ ap (place_within file) (sym (first_there (reverse scripts) s h))

rest_there : (xs : List OpenScript) (i : ℕ) (s : OpenScript) → Some s ≡ slice_get xs i → drop i xs ≡ s ∷ drop (suc i) xs
rest_there [] i s h = absurd (none-some s (sym h))
rest_there (x ∷ xs) zero s h = ap (λ (y : OpenScript). y ∷ xs) (same_Some x s (sym h))
rest_there (x ∷ xs) (suc i) s h = rest_there xs i s h

rest_none : (xs : List OpenScript) (i : ℕ) → length xs ≤ i → drop i xs ≡ []
rest_none [] zero h = refl
rest_none [] (suc i) h = refl
rest_none (x ∷ xs) zero h = absurd (omega arith)
rest_none (x ∷ xs) (suc i) h = rest_none xs i (omega arith)

none_there : (xs : List OpenScript) (i : ℕ) → None ≡ slice_get xs i → drop i xs ≡ []
none_there [] zero h = refl
none_there [] (suc i) h = refl
none_there (x ∷ xs) zero h = absurd (none-some x h)
none_there (x ∷ xs) (suc i) h = none_there xs i h

-- a step inwards, by what is found of the next script
abbrev step_in : Text → ℕ → List OpenScript → Option ℕ → ℕ
step_in file at scripts found = elim found as (λ _. ℕ) [ Some offset ↦ innermost_from file offset scripts | None ↦ at ]

pub innermost_on : (file : Text) (at : ℕ) (xs : List OpenScript) (i : ℕ) (s : OpenScript) (offset : ℕ) → Some s ≡ slice_get xs i
    → Some offset ≡ offset_in_file file at s
    → innermost_from file at (drop i xs) ≡ innermost_from file offset (drop (i + 1) xs)
innermost_on file at xs i s offset h e =
    let so : suc i ≡ i + 1 = omega arith in
    ap (innermost_from file at) (rest_there xs i s h) ∙ ap (step_in file at (drop (suc i) xs)) (sym e)
    ∙ ap (λ (k : ℕ). innermost_from file offset (drop k xs)) so

pub innermost_stop : (file : Text) (at : ℕ) (xs : List OpenScript) (i : ℕ) (s : OpenScript) → Some s ≡ slice_get xs i
    → None ≡ offset_in_file file at s → at ≡ innermost_from file at (drop i xs)
innermost_stop file at xs i s h e =
    ap (step_in file at (drop (suc i) xs)) e ∙ ap (innermost_from file at) (sym (rest_there xs i s h))

pub innermost_past : (file : Text) (at : ℕ) (xs : List OpenScript) (i : ℕ) → None ≡ slice_get xs i → at ≡ innermost_from file at (drop i xs)
innermost_past file at xs i h = ap (innermost_from file at) (sym (none_there xs i h))

pub innermost_end : (file : Text) (at : ℕ) (xs : List OpenScript) (i : ℕ) → length xs ≤ i → at ≡ innermost_from file at (drop i xs)
innermost_end file at xs i h = ap (innermost_from file at) (sym (rest_none xs i h))
