-- A reader of lines, from left to right. Where a text has lines, it finds them: so a text says at most one list of changes.
use Rattle.std.proofs.Common.{◌≡◌, ℕ, Bool, true, false, cond, not, ◌&&◌, ◌||◌, eqb, List, [], ◌∷◌, ◌++◌, Option, Some}
use Rattle.std.proofs.Common.{None, codes, refl, sym, ap, ◌∙◌, subst, inl, inr, arith, append_assoc}
use Rattle.std.proofs.lemmas.Bool.{cases_Bool, and_parts}
use Rattle.std.proofs.lemmas.Bool.Decides.{nat_tests}
use Rattle.std.specs.List.{flat_map, list_all}
use Rattle.envvars.specs.Names.{is_name_start, is_name_byte, is_variable_name}
use Rattle.envvars.specs.Changes.{NewValue}
use Rattle.shelltext.specs.declared.shell.Shell.{Shell}
use Rattle.shelltext.specs.declared.family.Family.{Family}
use Rattle.shelltext.specs.declared.family.Family.TheVariants.{Sh, Csh, Fish}
use Rattle.shelltext.specs.Shells.{family_of}
use Rattle.shelltext.specs.Reading.{is_special, is_literal, ValuePart, literal, special, AreParts, part_value}
use Rattle.shelltext.specs.Reading.{part_text, inner_text, value_text, set_line, unset_line, LineSays, LinesSay}
use Rattle.shelltext.specs.Reading.{TextSays}

-- between parts, inside quotes, behind a backslash
data Mode : Type 0 where
  outside : Mode
  inside : Mode
  behind : Mode

abbrev is_fish : Family → Bool
is_fish Sh = false
is_fish Csh = false
is_fish Fish = true

abbrev onto : ℕ → Option (List ℕ × List ℕ) → Option (List ℕ × List ℕ)
onto b None = None
onto b (Some p) = Some (b ∷ p.0, p.1)

-- the value at the front of a text, and the rest
abbrev value_at : Family → Mode → List ℕ → Option (List ℕ × List ℕ)
value_at family outside [] = Some ([], [])
value_at family outside (b ∷ bs) = cond (eqb b 39) (value_at family inside bs) (cond (eqb b 92 && not (is_fish family)) (value_at family behind bs) (Some ([], b ∷ bs)))
value_at family inside [] = None
value_at family inside (b ∷ bs) =
    cond (eqb b 39) (cond (is_fish family) (Some ([], bs)) (value_at family outside bs))
    (cond (eqb b 92 && is_fish family) (value_at family behind bs) (cond (is_literal family b) (onto b (value_at family inside bs)) None))
value_at family behind [] = None
value_at family behind (b ∷ bs) = cond (is_special family b) (onto b (cond (is_fish family) (value_at family inside bs) (value_at family outside bs))) None

abbrev name_at : List ℕ → List ℕ × List ℕ
name_at [] = ([], [])
name_at (b ∷ bs) = cond (is_name_byte b) (b ∷ (name_at bs).0, (name_at bs).1) ([], b ∷ bs)

abbrev expect : List ℕ → List ℕ → Option (List ℕ)
expect [] bs = Some bs
expect (p ∷ ps) [] = None
expect (p ∷ ps) (b ∷ bs) = cond (eqb p b) (expect ps bs) None

abbrev ended : NewValue → Option (List ℕ) → Option (NewValue × List ℕ)
ended s None = None
ended s (Some rest) = Some (s, rest)

abbrev valued : List ℕ → List ℕ → Option (List ℕ × List ℕ) → Option (NewValue × List ℕ)
valued name tail None = None
valued name tail (Some p) = ended (name, Some p.0) (expect tail p.1)

abbrev unset_at : List ℕ → Option (NewValue × List ℕ)
unset_at bs = ended ((name_at bs).0, None) (expect (59 ∷ 10 ∷ []) (name_at bs).1)

abbrev sh_after : List ℕ → List ℕ → Option (NewValue × List ℕ)
sh_after name [] = None
sh_after name (b ∷ bs) = cond (eqb b 61) (valued name (codes "; export " ++ (name ++ 59 ∷ 10 ∷ [])) (value_at Sh outside bs)) (unset_at bs)

abbrev set_after : Family → List ℕ → List ℕ → Option (NewValue × List ℕ)
set_after family name [] = None
set_after family name (b ∷ bs) = valued name (59 ∷ 10 ∷ []) (value_at family outside bs)

abbrev set_or : Family → List ℕ → Option (List ℕ) → Option (List ℕ) → Option (NewValue × List ℕ)
set_or family bs (Some rest) unset = set_after family (name_at rest).0 (name_at rest).1
set_or family bs None None = None
set_or family bs None (Some rest) = unset_at rest

abbrev line_at : Family → List ℕ → Option (NewValue × List ℕ)
line_at Sh bs = sh_after (name_at bs).0 (name_at bs).1
line_at Csh bs = set_or Csh bs (expect (codes "setenv ") bs) (expect (codes "unsetenv ") bs)
line_at Fish bs = set_or Fish bs (expect (codes "set -xg ") bs) (expect (codes "set -e ") bs)

expected : (p t : List ℕ) → expect p (p ++ t) ≡ Some t
expected [] t = refl
expected (b ∷ p) t = let e : eqb b b ≡ true = grind (arith, nat_tests) in rw e (expected p t)

named : (n : List ℕ) (c : ℕ) (t : List ℕ) → list_all is_name_byte n ≡ true → is_name_byte c ≡ false → name_at (n ++ c ∷ t) ≡ (n, c ∷ t)
named [] c t all e = rw e refl
named (b ∷ n) c t all e =
    let p = and_parts (is_name_byte b) (list_all is_name_byte n) all in
    rw (p.0, named n c t p.1 e) refl

start_is_byte : (x y : Bool) → x ≡ true → (x || y) ≡ true
start_is_byte true y e = refl
start_is_byte false y e = cc

later_all : (n : List ℕ) → is_variable_name n ≡ true → list_all is_name_byte n ≡ true
later_all [] e = refl
later_all (b ∷ n) e =
    let p = and_parts (is_name_start b) (list_all is_name_byte n) e in
    rw (start_is_byte (is_name_start b) _ p.0) p.1

abbrev prepend : List ℕ → Option (List ℕ × List ℕ) → Option (List ℕ × List ℕ)
prepend [] o = o
prepend (b ∷ bs) o = onto b (prepend bs o)

prepended : (xs v r : List ℕ) → prepend xs (Some (v, r)) ≡ Some (xs ++ v, r)
prepended [] v r = refl
prepended (x ∷ xs) v r = ap (onto x) (prepended xs v r)

no_quote : (family : Family) (b : ℕ) → is_literal family b ≡ true → eqb b 39 ≡ false
no_quote Sh b e = grind (arith, nat_tests)
no_quote Csh b e = grind (arith, nat_tests)
no_quote Fish b e = grind (arith, nat_tests)

no_backslash : (family : Family) (b : ℕ) → is_literal family b ≡ true → (eqb b 92 && is_fish family) ≡ false
no_backslash Sh b e = elim (cases_Bool (eqb b 92)) [ inl h ↦ rw h refl | inr h ↦ rw h refl ]
no_backslash Csh b e = elim (cases_Bool (eqb b 92)) [ inl h ↦ rw h refl | inr h ↦ rw h refl ]
no_backslash Fish b e = grind (arith, nat_tests)

inside_plain : (family : Family) (bytes t : List ℕ) → list_all (is_literal family) bytes ≡ true → value_at family inside (bytes ++ t) ≡ prepend bytes (value_at family inside t)
inside_plain family [] t all = refl
inside_plain family (b ∷ bytes) t all =
    let p = and_parts (is_literal family b) (list_all (is_literal family) bytes) all in
    rw (no_quote family b p.0, no_backslash family b p.0, p.0) (ap (onto b) (inside_plain family bytes t p.1))

quoted_value : (family : Family) → is_fish family ≡ false → (ps : List ValuePart) → AreParts family ps → (t : List ℕ)
    → value_at family outside (flat_map part_text ps ++ 59 ∷ t) ≡ Some (flat_map part_value ps, 59 ∷ t)
quoted_value family nf [] are t = refl
quoted_value family nf (literal bytes ∷ ps) are t =
    rw (
      append_assoc bytes (39 ∷ []) (flat_map part_text ps),
      append_assoc bytes (39 ∷ flat_map part_text ps) (59 ∷ t),
      inside_plain family bytes (39 ∷ (flat_map part_text ps ++ 59 ∷ t)) are.0,
      nf,
      quoted_value family nf ps are.1 t,
    )
    (prepended bytes (flat_map part_value ps) (59 ∷ t))
quoted_value family nf (special b ∷ ps) are t = rw (nf, are.0, quoted_value family nf ps are.1 t) refl

inner_value : (ps : List ValuePart) → AreParts Fish ps → (t : List ℕ) → value_at Fish inside (flat_map inner_text ps ++ 39 ∷ t) ≡ Some (flat_map part_value ps, t)
inner_value [] are t = refl
inner_value (literal bytes ∷ ps) are t =
    rw (append_assoc bytes (flat_map inner_text ps) (39 ∷ t), inside_plain Fish bytes (flat_map inner_text ps ++ 39 ∷ t) are.0, inner_value ps are.1 t)
    (prepended bytes (flat_map part_value ps) t)
inner_value (special b ∷ ps) are t = rw (are.0, inner_value ps are.1 t) refl

value_found : (family : Family) (ps : List ValuePart) → AreParts family ps → (t : List ℕ) → value_at family outside (value_text family ps ++ 59 ∷ t) ≡ Some (flat_map part_value ps, 59 ∷ t)
value_found Sh ps are t = quoted_value Sh refl ps are t
value_found Csh ps are t = quoted_value Csh refl ps are t
value_found Fish ps are t = rw (append_assoc (flat_map inner_text ps) (39 ∷ []) (59 ∷ t)) (inner_value ps are (59 ∷ t))

unset_found : (n rest : List ℕ) → is_variable_name n ≡ true → unset_at ((n ++ 59 ∷ 10 ∷ []) ++ rest) ≡ Some ((n, None), rest)
unset_found n rest e = rw (append_assoc n (59 ∷ 10 ∷ []) rest, named n 59 (10 ∷ rest) (later_all n e) refl) refl

unset_line_found : (family : Family) (n rest : List ℕ) → is_variable_name n ≡ true → line_at family (unset_line family n ++ rest) ≡ Some ((n, None), rest)
unset_line_found Sh n rest e = unset_found n rest e
unset_line_found Csh n rest e = unset_found n rest e
unset_line_found Fish n rest e = unset_found n rest e

abbrev sh_tail : List ℕ → List ℕ
sh_tail n = codes "; export " ++ (n ++ 59 ∷ 10 ∷ [])

sh_step : (n x : List ℕ) → is_variable_name n ≡ true → line_at Sh (n ++ 61 ∷ x) ≡ valued n (sh_tail n) (value_at Sh outside x)
sh_step n x e = rw (named n 61 x (later_all n e) refl) refl

key_step : (family : Family) (n x : List ℕ) → is_variable_name n ≡ true → set_after family (name_at (n ++ 32 ∷ x)).0 (name_at (n ++ 32 ∷ x)).1 ≡ valued n (59 ∷ 10 ∷ []) (value_at family outside x)
key_step family n x e = rw (named n 32 x (later_all n e) refl) refl

key_found : (family : Family) (n rest : List ℕ) (ps : List ValuePart) → is_variable_name n ≡ true → AreParts family ps
    → (let y = (n ++ 32 ∷ (value_text family ps ++ 59 ∷ 10 ∷ [])) ++ rest in set_after family (name_at y).0 (name_at y).1 ≡ Some ((n, Some (flat_map part_value ps)), rest))
key_found family n rest ps e are =
    rw (
      append_assoc n (32 ∷ (value_text family ps ++ 59 ∷ 10 ∷ [])) rest,
      append_assoc (value_text family ps)
          (59 ∷ 10 ∷ []) rest,
      key_step family n (value_text family ps ++ 59 ∷ 10 ∷ rest) e,
      value_found family ps are
          (10 ∷ rest),
    ) refl

set_line_found : (family : Family) (n rest : List ℕ) (ps : List ValuePart) → is_variable_name n ≡ true
    → AreParts family ps → line_at family (set_line family n (value_text family ps) ++ rest) ≡ Some
    ((n, Some (flat_map part_value ps)), rest)
set_line_found Sh n rest ps e are =
    ap (λ l. line_at Sh l) (append_assoc n (61 ∷ (value_text Sh ps ++ sh_tail n)) rest ∙ ap (λ (l : List ℕ). n ++ 61 ∷ l) (append_assoc (value_text Sh ps) (sh_tail n) rest))
    ∙ (sh_step n (value_text Sh ps ++ (sh_tail n ++ rest)) e
    ∙ (ap (λ o. valued n (sh_tail n) o) (value_found Sh ps are ((codes " export " ++ (n ++ 59 ∷ 10 ∷ [])) ++ rest))
    ∙ ap (λ o. ended (n, Some (flat_map part_value ps)) o) (expected (sh_tail n) rest)))
set_line_found Csh n rest ps e are = key_found Csh n rest ps e are
set_line_found Fish n rest ps e are = key_found Fish n rest ps e are

found : (family : Family) (line rest n : List ℕ) (v : Option (List ℕ)) → is_variable_name n ≡ true → LineSays family line n v → line_at family (line ++ rest) ≡ Some ((n, v), rest)
found family line rest n None e h = ap (λ l. line_at family (l ++ rest)) h ∙ unset_line_found family n rest e
found family line rest n (Some v) e h =
    ap (λ l. line_at family (l ++ rest)) (h.2 ∙ ap (λ t. set_line family n t) (sym h.1.spelled))
    ∙ (set_line_found family n rest h.1.parts e h.1.proper ∙ ap (λ (w : List ℕ). Some ((n, Some w), rest)) h.1.meant)

nothing_found : (family : Family) → line_at family [] ≡ None
nothing_found Sh = refl
nothing_found Csh = refl
nothing_found Fish = refl

clash : (family : Family) (text : List ℕ) (r : NewValue) (rs : List NewValue) → text ≡ [] → LinesSay family text (r ∷ rs) → ⊥
clash family text r rs e k =
    let some = ap (λ l. line_at family l) k.5 ∙ found family k.0 k.1 r.0 r.1 k.2 k.3 in
    let none = ap (λ l. line_at family l) e ∙ nothing_found family in
    let both = sym some ∙ none in
    let absurd_case : ◌≡◌ {A = Option (NewValue × List ℕ)} (Some (r, k.1)) None = both in cc

one_list : (family : Family) (text : List ℕ) (ss rs : List NewValue) → LinesSay family text ss → LinesSay family text rs → ss ≡ rs
one_list family text [] [] h k = refl
one_list family text [] (r ∷ rs) h k = absurd (clash family text r rs h k)
one_list family text (s ∷ ss) [] h k = absurd (clash family text s ss k h)
one_list family text (s ∷ ss) (r ∷ rs) h k =
    let a = ap (λ l. line_at family l) h.5 ∙ found family h.0 h.1 s.0 s.1 h.2 h.3 in
    let b = ap (λ l. line_at family l) k.5 ∙ found family k.0 k.1 r.0 r.1 k.2 k.3 in
    let both : ◌≡◌ {A = Option (NewValue × List ℕ)} (Some (s, h.1)) (Some (r, k.1)) = sym a ∙ b in
    let same : ◌≡◌ {A = NewValue × List ℕ} (s, h.1) (r, k.1) = cc in
    let rests : h.1 ≡ k.1 = ap (λ p. p.1) same in
    let P : List ℕ → Type 0 = λ t. LinesSay family t ss in
    let firsts : s ≡ r = ap (λ p. p.0) same in
    let others : ss ≡ rs = one_list family k.1 ss rs (subst P rests h.4) k.4 in
    cc

-- a text says at most one list of changes
pub one : (shell : Shell) (text : List ℕ) (ss rs : List NewValue) → TextSays shell text ss → TextSays shell text rs → ss ≡ rs
one shell text ss rs h k = one_list (family_of shell) text ss rs h k
