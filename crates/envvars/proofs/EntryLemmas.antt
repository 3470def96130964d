-- The variable that an entry gives.
use Rattle.std.proofs.Common.{Option, Some, None, ◌≡◌, ℕ, suc, ◌+◌, ◌-◌, ◌<◌, Bool, true, false, List, [], ◌∷◌, length}
use Rattle.std.proofs.Common.{take, drop, refl, sym, ap, ◌∙◌, inl, inr, arith}
use Rattle.std.proofs.lemmas.Bool.{cases_Bool, false≢true}
use Rattle.std.proofs.lemmas.Bool.Decides.{nat_tests}
use Rattle.std.proofs.lemmas.List.{take_all, take-take, drop-take, drop-drop, length-drop, length-take-le}
use Rattle.std.proofs.lemmas.List.Sums.{position_or_len_is}
use Rattle.std.proofs.lemmas.Str.{IsUtf8-from_is_utf8, is_utf8-from_IsUtf8}
use Rattle.std.specs.Prelude.{nat_lt, get_or, ◌≤◌, ◌&&◌, if◌then◌else◌, Result, Ok, Err, OnOk, ◌==◌}
use Rattle.std.specs.List.{position_or_len, after_first, slice_split, onto_first}
use Rattle.std.specs.Str.{IsUtf8, is_utf8}
use Rattle.std.proofs.lemmas.List.Splits.{slice_split-cons_no, slice_split_first}
use Rattle.std.specs.FinMap as finite
use Rattle.memchr.specs.Find.{IsFirstByte, Passes, is_byte}
use Rattle.envvars.specs.Texts.{Text}
use Rattle.envvars.specs.Environment.{Environment, with_value}
use Rattle.envvars.specs.EnvironmentBlock.{is_equals, name_of, utf8_value, with_entry, with_entries, environment_of}

pub unreadable : (value : Text) → (IsUtf8 value → ⊥) → utf8_value value ≡ None
unreadable value h = elim (cases_Bool (is_utf8 value)) [
  | inl t ↦ absurd (h (IsUtf8-from_is_utf8 value t))
  | inr f ↦ rw f refl
]

pub readable_text : (value : Text) → IsUtf8 value → utf8_value value ≡ Some value
readable_text value u = rw (is_utf8-from_IsUtf8 value u) refl

-- the place that is found
abbrev place : Text → Option ℕ
place entry = if nat_lt (position_or_len is_equals entry) (length entry) then Some (position_or_len is_equals entry) else None

-- An entry without '=' gives no variable.
pub no_equals : (entry : Text) (e : Environment) → place entry ≡ None → with_entry entry e ≡ e
no_equals entry e h = elim (cases_Bool (nat_lt (position_or_len is_equals entry) (length entry))) [
  | inl t ↦ absurd (clash (rw t at h))
  | inr f ↦ rw f refl
] where
  clash : {n : ℕ} → ◌≡◌ {A = Option ℕ} (Some n) None → ⊥
  clash e = cc

placed : (b : Bool) (p end : ℕ) → (if b then Some p else None) ≡ Some end → (b ≡ true) × (p ≡ end)
placed true p end h = (refl, some h) where
  some : {m n : ℕ} → ◌≡◌ {A = Option ℕ} (Some m) (Some n) → m ≡ n
  some e = cc
placed false p end h = absurd (none h) where
  none : {n : ℕ} → ◌≡◌ {A = Option ℕ} None (Some n) → ⊥
  none e = cc

-- the variable that it gives
pub named : (entry : Text) (e : Environment) → nat_lt (position_or_len is_equals entry) (length entry) ≡ true → nat_lt 0 (length (name_of entry)) ≡ true → IsUtf8 (name_of entry)
    → with_value e (name_of entry) (utf8_value (after_first is_equals entry)) ≡ with_entry entry e
named entry e inside some u = rw (inside, some, is_utf8-from_IsUtf8 (name_of entry) u) refl

-- what follows from what holds where a call succeeds
pub on_ok : {X E P Q : Type 0} (r : Result X E) → (P → Q) → OnOk r P → OnOk r Q
on_ok (Ok x) f h = f h
on_ok (Err x) f h = h

-- where a search for the '=' of an entry finds it
found_at : (entry : Text) (r : Option ℕ) → IsFirstByte (is_byte 61) entry r → place entry ≡ r
found_at entry None h =
    let at : position_or_len is_equals entry ≡ length entry = position_or_len_is is_equals entry (length entry) 0
    (omega arith) (λ k l. passes_not k (h k (omega arith) l)) (λ l. absurd (omega (arith, l))) in
    let past : nat_lt (position_or_len is_equals entry) (length entry) ≡ false = grind (arith, nat_tests) in
    rw past refl
  where
    passes_not : (k : ℕ) → ¬ Passes (is_byte 61) entry k → is_equals (get_or entry k 0) ≡ false
    passes_not k n = elim (cases_Bool (is_equals (get_or entry k 0))) [ inl t ↦ absurd (n t) | inr f ↦ f ]
found_at entry (Some n) h =
    let inside : n < length entry = h.0.high in
    let at : position_or_len is_equals entry ≡ n = position_or_len_is is_equals entry n 0 (omega (arith, inside)) (λ k l. passes_not k (h.0.before k (omega arith) l)) (λ l. h.1) in
    let within : nat_lt (position_or_len is_equals entry) (length entry) ≡ true = grind (arith, nat_tests) in
    rw within (ap Some at)
  where
    passes_not : (k : ℕ) → ¬ Passes (is_byte 61) entry k → is_equals (get_or entry k 0) ≡ false
    passes_not k n = elim (cases_Bool (is_equals (get_or entry k 0))) [ inl t ↦ absurd (n t) | inr f ↦ f ]

-- an entry without '='
pub entry_without : (entry : Text) (e : Environment) → IsFirstByte (is_byte 61) entry None → with_entry entry e ≡ e
entry_without entry e h = no_equals entry e (found_at entry None h)

-- an entry before whose '=' there is no name in UTF-8
pub entry_unnamed : (entry : Text) (e : Environment) (n : ℕ) → IsFirstByte (is_byte 61) entry (Some n) → (nat_lt 0 (length (take n entry)) && is_utf8 (take n entry)) ≡ false → with_entry entry e ≡ e
entry_unnamed entry e n h f =
    let p = placed (nat_lt (position_or_len is_equals entry) (length entry)) (position_or_len is_equals entry) n (found_at entry (Some n) h) in
    rw (p.0, p.1, f) refl

both : (a b : Bool) → (a && b) ≡ true → (a ≡ true) × (b ≡ true)
both true true h = (refl, refl)
both true false h = absurd (false≢true h)
both false b h = absurd (false≢true h)

-- the parts of an entry, as they stand in its block
part_of : (block : Text) (start end n : ℕ) → start ≤ end → n ≤ end - start → take n (take (end - start) (drop start block)) ≡ take ((start + n) - start) (drop start block)
part_of block start end n l m = let same : n ≡ (start + n) - start = omega arith in take-take n (end - start) (drop start block) m ∙ ap (λ (k : ℕ). take k (drop start block)) same

rest_of : (block : Text) (start end n : ℕ) → start ≤ end → n < end - start → drop (n + 1) (take (end - start) (drop start block)) ≡ take (end - (start + n + 1)) (drop (start + n + 1) block)
rest_of block start end n l m =
    let whole : end - start ≡ (n + 1) + (end - (start + n + 1)) = omega (arith, l, m) in
    let place : start + (n + 1) ≡ start + n + 1 = omega arith in
    ap (λ (k : ℕ). drop (n + 1) (take k (drop start block))) whole ∙ drop-take (n + 1) (end - (start + n + 1)) (drop start block)
    ∙ ap (take (end - (start + n + 1))) (drop-drop (n + 1) start block ∙ ap (λ (k : ℕ). drop k block) place)

-- an entry with a name
pub entry_named : (block : Text) (start end n : ℕ) (e : Environment) → start ≤ end → end ≤ length block → IsFirstByte (is_byte 61) (take (end - start) (drop start block)) (Some n)
    → (nat_lt 0 (length (take n (take (end - start) (drop start block)))) && is_utf8 (take n (take (end - start) (drop start block)))) ≡ true
    → with_value e (take ((start + n) - start) (drop start block)) (utf8_value (take (end - (start + n + 1)) (drop (start + n + 1) block))) ≡ with_entry (take (end - start) (drop start block)) e
entry_named block start end n e ordered within h t =
    let entry = take (end - start) (drop start block) in
    let p = placed (nat_lt (position_or_len is_equals entry) (length entry)) (position_or_len is_equals entry) n (found_at entry (Some n) h) in
    let size : length entry ≡ end - start = length-take-le (end - start) (drop start block) (omega (arith, length-drop start block, within, ordered)) in
    let inside : n < length entry = h.0.high in
    let b = both (nat_lt 0 (length (take n entry))) (is_utf8 (take n entry)) t in
    let name = ap (λ (k : ℕ). take k entry) p.1 ∙ part_of block start end n ordered (omega (arith, size, inside)) in
    let rest = ap (λ (k : ℕ). drop (k + 1) entry) p.1 ∙ rest_of block start end n ordered (omega (arith, size, inside)) in
    rw (← name, ← rest) (named entry e p.0 (rw p.1 b.0) (IsUtf8-from_is_utf8 (name_of entry) (rw p.1 b.1)))

-- that name, as text
pub entry_name : (block : Text) (start end n : ℕ) → start ≤ end → n ≤ end - start
    → (nat_lt 0 (length (take n (take (end - start) (drop start block)))) && is_utf8 (take n (take (end - start) (drop start block)))) ≡ true
    → IsUtf8 (take ((start + n) - start) (drop start block))
entry_name block start end n ordered l t =
    let b = both (nat_lt 0 (length (take n (take (end - start) (drop start block))))) (is_utf8 (take n (take (end - start) (drop start block)))) t in
    rw (← part_of block start end n ordered l) (IsUtf8-from_is_utf8 (take n (take (end - start) (drop start block))) b.1)

-- the entries of a block, from its beginning
nul_free : (xs : Text) → ((k : ℕ) → k < length xs → (get_or xs k 0 == 0) ≡ false) → slice_split (λ (b : ℕ). b == 0) xs ≡ xs ∷ []
nul_free [] h = refl
nul_free (x ∷ xs) h = slice_split-cons_no (λ (b : ℕ). b == 0) x xs (h 0 (omega arith)) ∙ ap (onto_first x) (nul_free xs (λ k l. h (suc k) (omega (arith, l))))

fails : (xs : Text) (k : ℕ) → ¬ Passes (is_byte 0) xs k → (get_or xs k 0 == 0) ≡ false
fails xs k n = elim (cases_Bool (get_or xs k 0 == 0)) [ inl t ↦ absurd (n t) | inr f ↦ f ]

-- the last entry of a block
pub last_entry : (xs : Text) → IsFirstByte (is_byte 0) xs None → with_entry xs finite.empty ≡ environment_of xs
last_entry xs h = ap (λ (parts : List Text). with_entries parts finite.empty) (sym (nul_free xs (λ k l. fails xs k (h k (omega arith) l))))

-- the first of more entries
pub first_entry : (xs : Text) (n : ℕ) → IsFirstByte (is_byte 0) xs (Some n) → with_entry (take n xs) (environment_of (drop (n + 1) xs)) ≡ environment_of xs
first_entry xs n h =
    let inside : n < length xs = h.0.high in
    let at : position_or_len (λ (b : ℕ). b == 0) xs ≡ n = position_or_len_is (λ (b : ℕ). b == 0) xs n 0 (omega (arith, inside)) (λ k l. fails xs k (h.0.before k (omega arith) l)) (λ l. h.1) in
    let parts = slice_split_first (λ (b : ℕ). b == 0) xs 0 (omega (arith, at, inside)) in
    ap (λ (k : ℕ). with_entry (take k xs) (environment_of (drop (k + 1) xs))) (sym at) ∙ ap (λ (all : List Text). with_entries all finite.empty) (sym parts)

-- a block of which the entries before `start` are read
module _ (block : Text) (start : ℕ) (within : start ≤ length block) where
  pub next_within : (n : ℕ) → IsFirstByte (is_byte 0) (drop start block) (Some n) → start + n < length block
  next_within n h = omega (arith, length-drop start block, within, h.0.high)

  pub next_entry : (n : ℕ) → IsFirstByte (is_byte 0) (drop start block) (Some n)
      → with_entry (take ((start + n) - start) (drop start block)) (environment_of (drop (start + (n + 1)) block)) ≡ environment_of (drop start block)
  next_entry n h =
      let same : (start + n) - start ≡ n = omega arith in
      ap (λ (k : ℕ). with_entry (take k (drop start block)) (environment_of (drop (start + (n + 1)) block))) same
      ∙ ap (λ (t : Text). with_entry (take n (drop start block)) (environment_of t)) (sym (drop-drop (n + 1) start block))
      ∙ first_entry (drop start block) n h

  pub end_entry : IsFirstByte (is_byte 0) (drop start block) None → with_entry (take (length block - start) (drop start block)) finite.empty ≡ environment_of (drop start block)
  end_entry h = ap (λ (t : Text). with_entry t finite.empty) (take_all (length block - start) (drop start block) (omega (arith, length-drop start block))) ∙ last_entry (drop start block) h
