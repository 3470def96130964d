-- Words in two lists, one by one.
use Rattle.std.proofs.Common.{◌≡◌, ◌<◌, ◌≤◌, ◌-◌, true, false, List, [], ◌∷◌, ◌++◌, length, take, drop, get_or, Option, Some, None, refl, ap, sym, ◌∙◌, append-nil, append_assoc, arith}
use Rattle.std.proofs.lemmas.List.{take_all}
use Rattle.std.specs.Prelude.{option_map}
use Rattle.envvars.specs.Texts.{Text}
use Rattle.modaudit.specs.command.Arguments.{PartedWords, is_without, parted, naming, keeping}

-- these words before the others
abbrev pub before : PartedWords → Option PartedWords → Option PartedWords
before p later = option_map (λ (q : PartedWords). record { without = p.without ++ q.without; others = p.others ++ q.others }) later

naming_before : (p new : PartedWords) (name : Text) (o : Option PartedWords) → new.without ≡ p.without ++ name ∷ [] → new.others ≡ p.others → before p (option_map (naming name) o) ≡ before new o
naming_before p new name None e f = refl
naming_before p new name (Some q) e f = λ i. Some (record {
  without = (sym (append_assoc p.without (name ∷ []) q.without) ∙ ap (λ (l : List Text). l ++ q.without) (sym e)) i;
  others = sym f i ++ q.others;
})

keeping_before : (p new : PartedWords) (word : Text) (o : Option PartedWords) → new.without ≡ p.without → new.others ≡ p.others ++ word ∷ [] → before p (option_map (keeping word) o) ≡ before new o
keeping_before p new word None e f = refl
keeping_before p new word (Some q) e f = λ i. Some (record {
  without = sym e i ++ q.without;
  others = (sym (append_assoc p.others (word ∷ []) q.others) ∙ ap (λ (l : List Text). l ++ q.others) (sym f)) i;
})

kept_first : (word : Text) (words : List Text) → is_without word ≡ false → parted (word ∷ words) ≡ option_map (keeping word) (parted words)
kept_first word [] f = rw f refl
kept_first word (next ∷ words) f = rw f refl

-- one word that is kept
pub kept : (p new : PartedWords) (word : Text) (words : List Text) → is_without word ≡ false → new.without ≡ p.without → new.others ≡ p.others ++ word ∷ []
    → before p (parted (word ∷ words)) ≡ before new (parted words)
kept p new word words f e g = ap (before p) (kept_first word words f) ∙ keeping_before p new word (parted words) e g

-- a name behind the option
pub named : (p new : PartedWords) (word name : Text) (words : List Text) → is_without word ≡ true → new.without ≡ p.without ++ name ∷ [] → new.others ≡ p.others
    → before p (parted (word ∷ name ∷ words)) ≡ before new (parted words)
named p new word name words t e g = rw t (naming_before p new name (parted words) e g)

-- the option without its name
pub nameless : (p : PartedWords) (word : Text) → is_without word ≡ true → before p (parted (word ∷ [])) ≡ None
nameless p word t = rw t refl

-- no word more
pub at_end : (p : PartedWords) → before p (parted []) ≡ Some p
at_end p = λ i. Some (record { without = append-nil p.without i; others = append-nil p.others i })

-- ---- a slice

-- what is behind the first
abbrev pub behind : {X : Type 0} → List X → List X
behind xs = take (length xs - 1) (drop 1 xs)

pub first_and_rest : {X : Type 0} (xs : List X) (x : X) → 1 ≤ length xs → x ≡ get_or xs 0 x → xs ≡ x ∷ behind xs
first_and_rest [] x l e = absurd (omega (arith, l))
first_and_rest {X} (y ∷ ys) x l e = ap (λ (z : X). z ∷ ys) (sym e) ∙ ap (λ (zs : List X). x ∷ zs) (sym (take_all (length (y ∷ ys) - 1) ys (omega arith)))

pub none_left : {X : Type 0} (xs : List X) → length xs < 1 → xs ≡ []
none_left [] l = refl
none_left (y ∷ ys) l = absurd (omega (arith, l))
