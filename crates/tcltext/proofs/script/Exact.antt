-- Readers that read exactly the texts of a set, and fail exactly at its faults.
use Rattle.std.proofs.Common.{◌≡◌, ℕ, zero, suc, ◌<◌, ◌≤◌, List, [], ◌∷◌, ◌++◌, length, Bool, true, false, Ok, Err}
use Rattle.std.proofs.Common.{refl, sym, ap, subst, ◌∙◌, arith, append_assoc, length-append, inl, inr}
use Rattle.tcltext.specs.chars.Runs.{Text}
use Rattle.tcltext.specs.chars.Reading.{◌>>=◌, Read, read_map, items_step, items_at}
use Rattle.tcltext.specs.declared.chars.fault.Fault.{Fault}
use Rattle.tcltext.proofs.chars.Results.{bind_ok, bind_err, ok_pair, read_map_ok, read_map_err, ok_err, err_ok}

-- what was taken of a text, before the rest
pub record Took {X : Type 0} (L : X → Text → Text → Type 0) (bs : Text) (x : X) (r : Text) : Type 0 where
  pub taken : Text
  pub whole : bs ≡ taken ++ r
  pub is : L x taken r

-- From a text that begins as B says, what is read is in L before the rest, and a fault that is met is in F; what is in L is read,
-- and what is in F is met.
pub record Exact {X : Type 0} (read : Text → Read X) (B : Text → Type 0) (L : X → Text → Text → Type 0) (F : Text → Fault → Type 0) : Type 0 where
  pub sound : (bs : Text) (x : X) (r : Text) → B bs → read bs ≡ Ok (x, r) → Took L bs x r
  pub again : (x : X) (t r : Text) → L x t r → read (t ++ r) ≡ Ok (x, r)
  pub faulty : (bs : Text) (f : Fault) → B bs → read bs ≡ Err f → F bs f
  pub met : (bs : Text) (f : Fault) → F bs f → read bs ≡ Err f

pub some_less : (t r : Text) → 0 < length t → length r < length (t ++ r)
some_less t r h = omega (arith, length-append t r)

-- Items

-- The items of a text: what skip passes over is in Gap, before each item and at the end.
pub record Items {X : Type 0} (skip : Text → Text) (ends : Text → Bool) (one : Text → Read X)
    (Gap : Text → Text → Type 0) (B : Text → Type 0) (L : X → Text → Text → Type 0) (F : Text → Fault → Type 0) : Type 0
  where
    pub exact : Exact one B L F
    pub skips : (bs : Text) → (gap : Text) × (bs ≡ gap ++ skip bs) × Gap gap (skip bs)
    pub over : (gap start : Text) → Gap gap start → skip (gap ++ start) ≡ skip start
    pub begins : (bs : Text) → ends (skip bs) ≡ false → B (skip bs)
    pub stays : (start : Text) → B start → (skip start ≡ start) × (ends start ≡ false)
    pub stops : (r : Text) → ends r ≡ true → skip r ≡ r
    pub good : (x : X) (t r : Text) → L x t r → B (t ++ r)
    pub bad : (bs : Text) (f : Fault) → F bs f → B bs
    pub some : (x : X) (t r : Text) → L x t r → 0 < length t

module _ {X : Type 0} (skip : Text → Text) (ends : Text → Bool) (one : Text → Read X) (Gap : Text → Text → Type 0)
    (B : Text → Type 0) (L : X → Text → Text → Type 0) (F : Text → Fault → Type 0)
    (items : Items skip ends one Gap B L F) where
  -- what is read at the end, where an item begins, and where one is wrong

  pub items-end : (n : ℕ) (gap r : Text) → Gap gap r → ends r ≡ true → items_at skip ends one (suc n) (gap ++ r) ≡ Ok ([], r)
  items-end n gap r h e =
      let start : skip (gap ++ r) ≡ r = items.over gap r h ∙ items.stops r e in
      ap (λ ys. items_step one (items_at skip ends one n) ys (ends ys)) start ∙ ap (items_step one (items_at skip ends one n) r) e

  at_item : (n : ℕ) (gap start : Text) → Gap gap start → B start → items_at skip ends one (suc n) (gap ++ start) ≡ (one start >>= (λ x. read_map (λ xs. x.0 ∷ xs) (items_at skip ends one n x.1)))
  at_item n gap start h b =
      let to : skip (gap ++ start) ≡ start = items.over gap start h ∙ (items.stays start b).0 in
      ap (λ ys. items_step one (items_at skip ends one n) ys (ends ys)) to ∙ ap (items_step one (items_at skip ends one n) start) (items.stays start b).1

  pub items-more : (n : ℕ) (gap body more : Text) (x : X) → Gap gap (body ++ more) → L x body more
      → items_at skip ends one (suc n) (gap ++ (body ++ more)) ≡ read_map (λ xs. x ∷ xs) (items_at skip ends one n more)
  items-more n gap body more x h l =
      at_item n gap (body ++ more) h (items.good x body more l) ∙ ap (λ y. y >>= (λ x. read_map (λ xs. x.0 ∷ xs) (items_at skip ends one n x.1))) (items.exact.again x body more l)

  pub items-fail : (n : ℕ) (gap body : Text) (f : Fault) → Gap gap body → F body f → items_at skip ends one (suc n) (gap ++ body) ≡ Err f
  items-fail n gap body f h l =
      at_item n gap body h (items.bad body f l) ∙ ap (λ y. y >>= (λ x. read_map (λ xs. x.0 ∷ xs) (items_at skip ends one n x.1))) (items.exact.met body f l)

  -- what is read is items, where these are made as follows
  module _ (All : List X → Text → Text → Type 0) (nil : (gap r : Text) → Gap gap r → ends r ≡ true → All [] gap r)
      (cons : (gap body rest r : Text) (x : X) (xs : List X) → Gap gap ((body ++ rest) ++ r) → L x body (rest ++ r) → All xs rest r → All (x ∷ xs) (gap ++ (body ++ rest)) r) where
    sound_turn : (n : ℕ) → ((bs : Text) (xs : List X) (r : Text) → items_at skip ends one n bs ≡ Ok (xs, r) → Took All bs xs r)
        → (gap start : Text) → Gap gap start → (B' : ends start ≡ false → B start) → (xs : List X) (r : Text) (t : Bool) → ends start ≡ t
        → items_step one (items_at skip ends one n) start t ≡ Ok (xs, r) → Took All (gap ++ start) xs r
    sound_turn n all gap start h b xs r true t e =
        let two = ok_pair ([], start) (xs, r) e in
        let made : Took All (gap ++ start) [] start = record { taken = gap; whole = refl; is = nil gap start h t } in
        subst (λ s. Took All (gap ++ start) xs s) two.1 (subst (λ ys. Took All (gap ++ start) ys start) two.0 made)
    sound_turn n all gap start h b xs r false t e =
        let more = items_at skip ends one n in
        let x = bind_ok (one start) (λ x. read_map (λ xs. x.0 ∷ xs) (more x.1)) (xs, r) e in
        let y = read_map_ok (λ xs. x.0.0 ∷ xs) (more x.0.1) xs r x.2 in
        let w = items.exact.sound start x.0.0 x.0.1 (b t) x.1 in
        let m = all x.0.1 y.0 r y.1 in
        let rest : start ≡ (w.taken ++ m.taken) ++ r = w.whole ∙ ap (λ ys. w.taken ++ ys) m.whole ∙ sym (append_assoc w.taken m.taken r) in
        let made : Took All (gap ++ start) (x.0.0 ∷ y.0) r = record {
          taken = gap ++ (w.taken ++ m.taken);
          whole = ap (λ ys. gap ++ ys) rest ∙ sym (append_assoc gap (w.taken ++ m.taken) r);
          is = cons gap w.taken m.taken r x.0.0 y.0 (subst (Gap gap) rest h) (subst (λ ys. L x.0.0 w.taken ys) m.whole w.is) m.is;
        } in
        subst (λ ys. Took All (gap ++ start) ys r) y.2 made

    pub items_sound : (n : ℕ) (bs : Text) (xs : List X) (r : Text) → items_at skip ends one n bs ≡ Ok (xs, r) → Took All bs xs r
    items_sound zero bs xs r h = absurd (err_ok (xs, r) _ h)
    items_sound (suc n) bs xs r h =
        let k = items.skips bs in
        subst (λ ys. Took All ys xs r) (sym k.1) (sound_turn n (items_sound n) k.0 (skip bs) k.2 (items.begins bs) xs r (ends (skip bs)) refl h)

  -- a fault that is met is one of an item
  module _ (Bad : Text → Fault → Type 0) (here : (gap body : Text) (f : Fault) → Gap gap body → F body f → Bad (gap ++ body) f)
      (later : (gap body rest : Text) (x : X) (f : Fault) → Gap gap (body ++ rest) → L x body rest → Bad rest f → Bad (gap ++ (body ++ rest)) f) where
    fault_turn : (n : ℕ) → ((bs : Text) (f : Fault) → length bs < n → items_at skip ends one n bs ≡ Err f → Bad bs f)
        → (gap start : Text) → Gap gap start → length start ≤ n → (B' : ends start ≡ false → B start) → (f : Fault) (t : Bool) → ends start ≡ t
        → items_step one (items_at skip ends one n) start t ≡ Err f → Bad (gap ++ start) f
    fault_turn n all gap start h less b f true t e = absurd (ok_err ([], start) f e)
    fault_turn n all gap start h less b f false t e =
        let more = items_at skip ends one n in
        elim (bind_err (one start) (λ x. read_map (λ xs. x.0 ∷ xs) (more x.1)) f e) [
          | inl bad ↦ here gap start f h (items.exact.faulty start f (b t) bad)
          | inr k ↦ (
              let w = items.exact.sound start k.0.0 k.0.1 (b t) k.1 in
              let next = all k.0.1 f (omega (arith, ap length w.whole, some_less w.taken k.0.1 (items.some k.0.0 w.taken k.0.1 w.is))) (read_map_err (λ xs. k.0.0 ∷ xs) (more k.0.1) f k.2) in
              subst (λ ys. Bad (gap ++ ys) f) (sym w.whole) (later gap w.taken k.0.1 k.0.0 f (subst (Gap gap) w.whole h) w.is next)
              )
        ]

    pub items_faulty : (n : ℕ) (bs : Text) (f : Fault) → length bs < n → items_at skip ends one n bs ≡ Err f → Bad bs f
    items_faulty zero bs f less h = absurd (omega arith)
    items_faulty (suc n) bs f less h =
        let k = items.skips bs in
        let short : length (skip bs) ≤ n = omega (arith, ap length k.1, length-append k.0 (skip bs)) in
        subst (λ ys. Bad ys f) (sym k.1) (fault_turn n (items_faulty n) k.0 (skip bs) k.2 short (items.begins bs) f (ends (skip bs)) refl h)
