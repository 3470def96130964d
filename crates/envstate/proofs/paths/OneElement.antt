-- One new element beside others, where no counter is written.
use Rattle.std.proofs.Common.{◌≡◌, ◌≢◌, ℕ, ◌+◌, ◌-◌, ◌<◌, ◌≤◌, Bool, true, false, cond, eqb, ◌||◌, List, [], ◌∷◌, refl}
use Rattle.std.proofs.Common.{sym, ap, ◌∙◌, subst, arith, leb, Option, Some, None, Bor, get_or, string_bytes}
use Rattle.std.specs.Prelude.{filter, bytes_eq, if◌then◌else◌}
use Rattle.std.specs.Option.{option_map}
use Rattle.std.specs.List.{join_with_byte}
use Rattle.std.proofs.Math.ListN.{length}
use Rattle.std.proofs.lemmas.Bool.{false≢true}
use Rattle.std.proofs.lemmas.Bool.Decides.{nat_tests}
use Rattle.std.proofs.lemmas.List.Splits.{length-slice_split, join_with_byte-slice_split}
use Rattle.envvars.specs.Texts.{Text, has, slice_texts}
use Rattle.envvars.specs.Fields.{text_of_elements, without, without_repeats}
use Rattle.envvars.proofs.TextLemmas.{same_text}
use Rattle.envstate.specs.paths.Paths.{PathState, put_at, one_higher, one_lower, add, add_all, drop, drop_all}
use Rattle.envstate.specs.paths.PathTexts.{split_elements, state_from, state_of, elements_text, is_lone_empty, counter_fields}
use Rattle.envstate.specs.paths.PathTexts.{counters_as_text}
use Rattle.envstate.specs.paths.PathEdits.{AreTexts, IsWritten}
use Rattle.envstate.specs.declared.paths.path.PathTexts.{PathTexts}
use Rattle.envstate.specs.declared.paths.adding.End.{End}
use Rattle.envstate.specs.declared.paths.adding.End.TheVariants.{Front, Back}
use Rattle.envstate.proofs.paths.PathSteps.{small_fits}
use Rattle.envstate.proofs.paths.WritingLemmas.{join_with_byte-push}

-- no counter is two or more

small_at : (h b : Bool) → (b ≡ true → h ≡ false) → (if h then 1 else 0) + (if b then 1 else 0) ≤ 1
small_at h true k = rw (k refl) (omega arith)
small_at true false k = omega arith
small_at false false k = omega arith

small : (xs : List Text) (x y : Text) → has x xs ≡ false → one_higher (state_from xs []).counter x y ≤ 1
small xs x y h = small_at (has y xs) (bytes_eq y x) (λ e. ap (λ (z : Text). has z xs) (same_text y x e) ∙ h)

-- so none is written

none_passes : (p : Text → Bool) (xs : List Text) → ((x : Text) → p x ≡ false) → filter p xs ≡ []
none_passes p [] h = refl
none_passes p (x ∷ xs) h = ap (λ (b : Bool). cond b (x ∷ filter p xs) (filter p xs)) (h x) ∙ none_passes p xs h

neither : (a b : Bool) → a ≡ false → b ≡ false → (a || b) ≡ false
neither false b e f = f
neither true b e f = absurd (false≢true (sym e))

none_written : (s : PathState) → ((x : Text) → s.counter x ≤ 1) → is_lone_empty s.elements ≡ false → counters_as_text s ≡ None
none_written s h l =
    ap (λ (ws : List Text). text_of_elements (counter_fields s ws))
    (none_passes (λ x. leb 2 (s.counter x) || is_lone_empty s.elements) (without_repeats s.elements)
    (λ x. neither (leb 2 (s.counter x)) (is_lone_empty s.elements)
    (let k : s.counter x ≤ 1 = h x in grind (arith, nat_tests)) l))

-- the list with the new element

two_are_there : (x p : Text) (ps : List Text) (end : End) → is_lone_empty (put_at (p ∷ ps) x end) ≡ false
two_are_there x p ps Front = refl
two_are_there x p [] Back = refl
two_are_there x p (q ∷ qs) Back = refl

text_at_end : (d : ℕ) (x p : Text) (ps : List Text) (end : End) → Some (join_with_byte d (put_at (join_with_byte d (p ∷ ps) ∷ []) x end)) ≡ elements_text d (put_at (p ∷ ps) x end)
text_at_end d x p ps Front = refl
text_at_end d x p ps Back = ap Some (sym (join_with_byte-push d p ps x))

-- the state with the new element, where xs are the others

record Parts (d : ℕ) (t : Text) (xs : List Text) : Type 0 where
  some : 0 < length xs
  joined : join_with_byte d xs ≡ t

parts_of : (d : ℕ) (t : Text) → Parts d t (split_elements d t)
parts_of d t = record { some = omega (arith, length-slice_split (λ (b : ℕ). eqb b d) t); joined = join_with_byte-slice_split d t }

abbrev grown : List Text → Text → End → PathState
grown xs x end = record { elements = put_at xs x end; counter = one_higher (state_from xs []).counter x }

lone : (d : ℕ) (t x : Text) (xs : List Text) (end : End) → Parts d t xs → is_lone_empty (put_at xs x end) ≡ false
lone d t x [] end p = let l : 0 < length {A = Text} [] = p.some in absurd (omega arith)
lone d t x (y ∷ ys) end p = two_are_there x y ys end

text : (d : ℕ) (t x : Text) (xs : List Text) (end : End) → Parts d t xs → Some (join_with_byte d (put_at (t ∷ []) x end)) ≡ elements_text d (put_at xs x end)
text d t x [] end p = let l : 0 < length {A = Text} [] = p.some in absurd (omega arith)
text d t x (y ∷ ys) end p = ap (λ (u : Text). Some (join_with_byte d (put_at (u ∷ []) x end))) (sym p.joined) ∙ text_at_end d x y ys end

grown_written : (texts : PathTexts) (d : ℕ) (t x : Text) (xs : List Text) (end : End) → Parts d t xs → has x xs ≡ false
    → option_map string_bytes texts.elements ≡ Some (join_with_byte d (put_at (t ∷ []) x end)) → option_map string_bytes texts.counters ≡ None → IsWritten texts d (grown xs x end)
grown_written texts d t x xs end p h e c = (
  small_fits (grown xs x end) (λ y. let l : one_higher (state_from xs []).counter x y ≤ 1 = small xs x y h in omega arith),
  record {
    elements = e ∙ text d t x xs end p;
    counters = c ∙ sym (none_written (grown xs x end) (λ y. small xs x y h) (lone d t x xs end p));
  },
)

one_added : (s : PathState) (x : Text) (end : End) → add_all s (x ∷ []) end ≡ add s x end
one_added s x Front = refl
one_added s x Back = refl

added_new : (xs : List Text) (x : Text) (end : End) → has x xs ≡ false → add (state_from xs []) x end ≡ grown xs x end
added_new xs x end h = ap (λ (b : Bool). record { elements = cond b xs (put_at xs x end); counter = one_higher (state_from xs []).counter x }) h

nonempty_state : (d : ℕ) (t : Text) → length t ≢ 0 → state_of d (Some t) None ≡ state_from (split_elements d t) []
nonempty_state d [] l = absurd (l refl)
nonempty_state d (b ∷ bs) l = refl

state_of_text : (d : ℕ) (o p : Option Text) (xs : List Text) (t x : Text) (end : End) → o ≡ Some t → p ≡ None → xs ≡ x ∷ [] → length t ≢ 0 → has x (split_elements d t) ≡ false
    → grown (split_elements d t) x end ≡ add_all (state_of d o p) xs end
state_of_text d o p xs t x end e f g l h =
    sym (added_new (split_elements d t) x end h) ∙ sym (one_added (state_from (split_elements d t) []) x end) ∙ ap (λ (s : PathState). add_all s (x ∷ []) end) (sym (nonempty_state d t l))
    ∙ rw (e, f, g) refl

not_empty : (n : ℕ) (b : Bool) → b ≡ eqb n 0 → b ≡ false → n ≢ 0
not_empty n b e f = λ z. false≢true (sym f ∙ e ∙ grind (arith, nat_tests))

-- a list of one, as the code has it
pub alone : (xs : List (Bor Text)) (d : Bor Text) → 1 ≤ length xs → length xs < 2 → slice_texts xs ≡ (get_or xs 0 d).now ∷ []
alone [] d l m = absurd (omega arith)
alone (x ∷ []) d l m = refl
alone (x ∷ y ∷ zs) d l m = absurd (omega arith)

pub one_more_written : (texts : PathTexts) (d : ℕ) (o p : Option Text) (xs : List Text) (t x : Text) (end : End) (empty there : Bool) → o ≡ Some t → p ≡ None → xs ≡ x ∷ []
    → empty ≡ eqb (length t) 0 → empty ≡ false → there ≡ has x (split_elements d t) → there ≡ false
    → option_map string_bytes texts.elements ≡ Some (join_with_byte d (put_at (t ∷ []) x end)) → option_map string_bytes texts.counters ≡ None → IsWritten texts d (add_all (state_of d o p) xs end)
one_more_written texts d o p xs t x end empty there e f g k i h j b c =
    subst (IsWritten texts d) (state_of_text d o p xs t x end e f g (not_empty (length t) empty k i) (sym h ∙ j))
    (grown_written texts d t x (split_elements d t) end
    (parts_of d t) (sym h ∙ j) b c)

-- one element dropped, where others stay

still_small : (h b : Bool) → (if h then 1 else 0) - (if b then 1 else 0) ≤ 1
still_small true b = omega arith
still_small false b = omega arith

abbrev shrunk : List Text → List Text → Text → PathState
shrunk xs rest x = record { elements = rest; counter = one_lower (state_from xs []).counter x }

not_lone : (d : ℕ) (r : Text) (ys : List Text) → Parts d r ys → length r ≢ 0 → is_lone_empty ys ≡ false
not_lone d r [] p l = refl
not_lone d r (y ∷ []) p l = let same : y ≡ r = p.joined in rw same (let k : length r ≢ 0 = l in grind (arith, nat_tests))
not_lone d r (y ∷ z ∷ zs) p l = refl

text_of : (d : ℕ) (r : Text) (ys : List Text) → Parts d r ys → Some r ≡ elements_text d ys
text_of d r [] p = let l : 0 < length {A = Text} [] = p.some in absurd (omega arith)
text_of d r (y ∷ ys) p = ap Some (sym p.joined)

shrunk_texts : (texts : PathTexts) (d : ℕ) (r x : Text) (xs rest : List Text) → Parts d r rest → length r ≢ 0
    → option_map string_bytes texts.elements ≡ Some r → option_map string_bytes texts.counters ≡ None
    → AreTexts texts d (shrunk xs rest x)
shrunk_texts texts d r x xs rest p l e c = record {
  elements = e ∙ text_of d r rest p;
  counters = c ∙ sym (none_written (shrunk xs rest x) (λ y. still_small (has y xs) (bytes_eq y x)) (not_lone d r rest p l));
}

counted_once : (h : Bool) → leb (if h then 1 else 0) 1 ≡ true
counted_once true = refl
counted_once false = refl

dropped_once : (xs : List Text) (x : Text) → drop (state_from xs []) x ≡ shrunk xs (without x xs) x
dropped_once xs x = ap (λ (b : Bool). record { elements = cond b (without x xs) xs; counter = one_lower (state_from xs []).counter x }) (counted_once (has x xs))

pub one_less_texts : (texts : PathTexts) (d : ℕ) (o p : Option Text) (xs : List Text) (t x r : Text) (empty none : Bool)
    → o ≡ Some t → p ≡ None → xs ≡ x ∷ [] → empty ≡ eqb (length t) 0 → empty ≡ false
    → split_elements d r ≡ without x (split_elements d t) → none ≡ eqb (length r) 0 → none ≡ false → option_map string_bytes texts.elements ≡ Some r → option_map string_bytes texts.counters ≡ None
    → AreTexts texts d (drop_all (state_of d o p) xs)
one_less_texts texts d o p xs t x r empty none e f g k i w h j b c =
    subst (AreTexts texts d)
    (ap (λ (rest : List Text). shrunk (split_elements d t) rest x) w ∙ sym (dropped_once (split_elements d t) x)
    ∙ ap (λ (s : PathState). drop_all s (x ∷ [])) (sym (nonempty_state d t (not_empty (length t) empty k i)))
    ∙ rw (e, f, g) refl)
    (shrunk_texts texts d r x (split_elements d t) (split_elements d r) (parts_of d r) (not_empty (length r) none h j) b c)
