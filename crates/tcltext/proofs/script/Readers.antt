-- What each reader leaves is an end of its text, and shorter where something was read.
use Rattle.std.proofs.Common.{◌≡◌, ℕ, zero, suc, ◌-◌, ◌<◌, ◌≤◌, [], ◌∷◌, ◌++◌, length, Bool, true, false, ◌==◌, Option}
use Rattle.std.proofs.Common.{Some, None, Ok, Err, refl, sym, subst, ◌∙◌, arith, append_assoc}
use Rattle.std.proofs.lemmas.Bool.Decides.{nat_tests}
use Rattle.tcltext.specs.chars.Runs.{Text, drop_while, begins}
use Rattle.tcltext.specs.chars.Classes.{in_class}
use Rattle.tcltext.specs.chars.Backslash.{after_backslash}
use Rattle.tcltext.specs.chars.Braces.{braced_at}
use Rattle.tcltext.specs.chars.Reading.{◌>>=◌, Read, read_map, items_at, items_step}
use Rattle.tcltext.specs.declared.chars.fault.Fault.{Fault}
use Rattle.tcltext.specs.declared.chars.runs.Class.TheVariants.{InBracedName}
use Rattle.tcltext.proofs.chars.BraceClose.{close_sound}
use Rattle.tcltext.proofs.chars.RunLemmas.{drop_while-cons_true}
use Rattle.tcltext.specs.declared.script.context.Context.{Context}
use Rattle.tcltext.specs.declared.script.context.Context.TheVariants.{InScript, InBracket, InIndex, InQuotes}
use Rattle.tcltext.specs.script.ScanState.{Blanks, Gap, Name, scan, skip_blanks, skip_gap}
use Rattle.tcltext.specs.script.Pieces.{IsSuffixOf}
use Rattle.tcltext.specs.script.Tree.{word_of, parts_of, commands_of, indexed}
use Rattle.tcltext.specs.script.Ends.{script_ends, command_ends, word_ends, parts_end, class_of, bare}
use Rattle.tcltext.specs.script.Reading.{on_mark, after_closing, require_word_end, Inner, bracket_at, index_at}
use Rattle.tcltext.specs.script.Reading.{braced_name_at, scalar_variable, after_name, dollar_at, escaped, backslash_at}
use Rattle.tcltext.specs.script.Reading.{part_at, parts_with, word_in_braces, braced_word_at, quoted_word_at}
use Rattle.tcltext.specs.script.Reading.{unexpanded_word_at, unless_word_ends, after_expansion, word_from, word_at, words_at}
use Rattle.tcltext.specs.script.Reading.{command_at, command_in, script_with, inner_at}
use Rattle.tcltext.proofs.script.Ends.{end_same, end_through, end_no_longer, IsBehind, behind_mark, behind_through, end_mark}
use Rattle.tcltext.proofs.script.Escapes.{either, back_end, LeavesSome, backslash_end}
use Rattle.tcltext.proofs.script.Passes.{pass_end}
use Rattle.tcltext.proofs.script.Rests.{Leaves, leaves_map, leaves_then, text_then, at_mark, closed_leaves, ended_leaves}

-- a weaker or stronger rest
pub leaves_also : {A : Type 0} (P Q : Text → Type 0) (r : Read A) → ((rest : Text) → P rest → Q rest) → Leaves P r → Leaves Q r
leaves_also P Q (Ok x) more l = more x.1 l
leaves_also P Q (Err e) more l = tt

pub leaves_read : {A : Type 0} (P : Text → Type 0) (r : Read A) (x : A) (rest : Text) → Leaves P r → r ≡ Ok (x, rest) → P rest
leaves_read P r x rest l is = subst (Leaves P) is l

-- an end of a text behind a mark is behind the whole
pub leaves_behind : {A : Type 0} (bs : Text) (mark : ℕ) (xs : Text) (r : Read A) → bs ≡ mark ∷ xs → Leaves (IsSuffixOf xs) r → Leaves (IsBehind bs) r
leaves_behind bs mark xs r is l = leaves_also (IsSuffixOf xs) (IsBehind bs) r (λ rest e. behind_mark bs mark xs rest is e) l

pub leaves_end : {A : Type 0} (bs : Text) (r : Read A) → Leaves (IsBehind bs) r → Leaves (IsSuffixOf bs) r
leaves_end bs r l = leaves_also (IsBehind bs) (IsSuffixOf bs) r (λ rest b. b.0) l

-- Items, where what is passed and what is read leave ends
module _ {X : Type 0} (skip : Text → Text) (ends : Text → Bool) (one : Text → Read X)
    (skips : (bs : Text) → IsSuffixOf bs (skip bs)) (ones : (bs : Text) → Leaves (IsSuffixOf bs) (one bs)) where
  pub items_leave : (n : ℕ) (bs : Text) → Leaves (IsSuffixOf bs) (items_at skip ends one n bs)
  items_leave zero bs = tt
  items_leave (suc n) bs = go (items_leave n) (ends (skip bs)) where
    go : ((xs : Text) → Leaves (IsSuffixOf xs) (items_at skip ends one n xs)) → (t : Bool) → Leaves (IsSuffixOf bs) (items_step one (items_at skip ends one n) (skip bs) t)
    go more true = skips bs
    go more false = leaves_then (IsSuffixOf (skip bs)) (IsSuffixOf bs) (one (skip bs)) _ (ones (skip bs))
        (λ x rest e. leaves_map (IsSuffixOf bs) (λ xs. x ∷ xs) _
        (leaves_also (IsSuffixOf rest) (IsSuffixOf bs) _ (λ last f. end_through bs rest last
        (end_through bs (skip bs) rest (skips bs) e) f) (more rest)))

  -- something was read where an item is there
  pub items_behind : (n : ℕ) (bs : Text) → ends (skip bs) ≡ false → Leaves (IsBehind (skip bs)) (one (skip bs)) → Leaves (IsBehind bs) (items_at skip ends one (suc n) bs)
  items_behind n bs e some = rw e (leaves_then (IsBehind (skip bs)) (IsBehind bs) (one (skip bs)) _ some
      (λ x rest b. leaves_map (IsBehind bs) (λ xs. x ∷ xs) _ (leaves_also (IsSuffixOf rest) (IsBehind bs) _
      (λ last f. behind_first rest last b f) (items_leave n rest)))) where
        behind_first : (rest last : Text) → IsBehind (skip bs) rest → IsSuffixOf rest last → IsBehind bs last
        behind_first rest last b f =
            let less : length last ≤ length rest = end_no_longer rest last f in
            let here : length (skip bs) ≤ length bs = end_no_longer bs (skip bs) (skips bs) in
            let more : length rest < length (skip bs) = b.1 in
            (end_through bs (skip bs) last (skips bs) (end_through (skip bs) rest last b.0 f), omega arith)

-- the readers of what brackets and indexes hold leave ends
pub record InnerLeaves (inner : Inner) : Type 0 where
  pub script : (bs : Text) → Leaves (IsSuffixOf bs) (inner.script bs)
  pub index : (bs : Text) → Leaves (IsSuffixOf bs) (inner.index bs)

-- what follows a mark that closes
closed_behind : {A B : Type 0} (bs : Text) (r : Read A) (mark : ℕ) (fault : Fault) (f : A → Text → Read B) → Leaves (IsSuffixOf bs) r → ((x : A) (rest : Text) → Leaves (IsSuffixOf rest) (f x rest))
    → Leaves (IsSuffixOf bs) (r >>= (λ x. after_closing mark fault x.1 >>= (λ rest. f x.0 rest)))
closed_behind bs r mark fault f l more = leaves_then (IsSuffixOf bs) (IsSuffixOf bs) r _ l
    (λ x close e. text_then (IsSuffixOf close) (IsSuffixOf bs) (after_closing mark fault close) _ (closed_leaves mark fault close)
    (λ rest g. leaves_also (IsSuffixOf rest) (IsSuffixOf bs) (f x rest) (λ last h. end_through bs rest last (end_through bs close rest e g) h) (more x rest)))

module _ (inner : Inner) (inside : InnerLeaves inner) where
  bracket_leaves : (bs : Text) → Leaves (IsSuffixOf bs) (bracket_at inner bs)
  unfolding bracket_at
  bracket_leaves bs = closed_behind bs (inner.script bs) 93 _ (λ x rest. Ok (_, rest)) (inside.script bs) (λ x rest. end_same rest)

  index_leaves : (bs : Text) → Leaves (IsSuffixOf bs) (index_at inner bs)
  unfolding index_at
  index_leaves bs = closed_behind bs (inner.index bs) 41 _ (λ x rest. Ok (x, rest)) (inside.index bs) (λ x rest. end_same rest)

braced_name_leaves : (bs : Text) → Leaves (IsSuffixOf bs) (braced_name_at bs)
unfolding braced_name_at
braced_name_leaves bs = text_then (IsSuffixOf (drop_while (in_class InBracedName) bs)) (IsSuffixOf bs)
    (after_closing 125 _ (drop_while (in_class InBracedName) bs)) _
    (closed_leaves 125 _ (drop_while (in_class InBracedName) bs))
    (λ rest e. end_through bs (drop_while (in_class InBracedName) bs) rest (back_end (in_class InBracedName) bs) e)

escaped_leaves : (bs : Text) (found : Option (Text × Text)) → LeavesSome (IsSuffixOf bs) found → Leaves (IsSuffixOf bs) (escaped bs found)
escaped_leaves bs (Some p) e = e
escaped_leaves [] None e = end_same []
escaped_leaves (b ∷ bs) None e = tt

pub escape_leaves : (bs : Text) → Leaves (IsSuffixOf bs) (backslash_at bs)
unfolding backslash_at
escape_leaves bs = escaped_leaves bs (after_backslash bs) (backslash_end bs)

-- a byte that ends no part and begins no substitution stands for itself
spans : (context : Context) (b : ℕ) (bs : Text) → parts_end context (b ∷ bs) ≡ false → (b == 36) ≡ false → (b == 91) ≡ false → (b == 92) ≡ false → in_class (class_of context) b ≡ true
spans InScript b bs h k l m = grind (arith, nat_tests)
spans InBracket b bs h k l m = grind (arith, nat_tests)
spans InIndex b bs h k l m = grind (arith, nat_tests)
spans InQuotes b bs h k l m = grind (arith, nat_tests)

no_mark : (mark b : ℕ) (bs : Text) → begins mark (b ∷ bs) ≡ false → (b == mark) ≡ false
no_mark mark b bs h = h

pub literal_behind : (context : Context) (bs : Text) → parts_end context bs ≡ false → begins 36 bs ≡ false
    → begins 91 bs ≡ false → begins 92 bs ≡ false → IsBehind bs (drop_while (in_class (class_of context)) bs)
literal_behind InScript [] h k l m = cc
literal_behind InBracket [] h k l m = cc
literal_behind InIndex [] h k l m = cc
literal_behind InQuotes [] h k l m = cc
literal_behind context (b ∷ bs) h k l m =
    let here : drop_while (in_class (class_of context)) (b ∷ bs) ≡ drop_while (in_class (class_of context)) bs = drop_while-cons_true (in_class (class_of context)) b bs (spans context b bs h k l m) in
    subst (IsBehind (b ∷ bs)) (sym here) (behind_mark (b ∷ bs) b bs _ refl (back_end (in_class (class_of context)) bs))

module _ (inner : Inner) (inside : InnerLeaves inner) where
  name_leaves : (bs : Text) (p : Text × Text) → IsSuffixOf bs p.1 → Leaves (IsSuffixOf bs) (after_name inner p)
  name_leaves bs p e = at_mark (Leaves (IsSuffixOf bs)) 40 p.1 (λ xs. read_map (indexed p.0) (index_at inner xs)) (Ok (scalar_variable p.0, p.1))
      (λ xs is. leaves_map (IsSuffixOf bs) (indexed p.0) (index_at inner xs)
      (leaves_also (IsSuffixOf xs) (IsSuffixOf bs) (index_at inner xs)
      (λ rest f. end_through bs xs rest (end_through bs p.1 xs e (end_mark p.1 40 xs is)) f)
      (index_leaves inner inside xs)))
      (λ h. e)

  pub dollar_leaves : (bs : Text) → Leaves (IsSuffixOf bs) (dollar_at inner bs)
  unfolding dollar_at
  dollar_leaves bs = at_mark (Leaves (IsSuffixOf bs)) 123 bs braced_name_at (after_name inner (scan Name bs))
      (λ xs is. leaves_also (IsSuffixOf xs) (IsSuffixOf bs) (braced_name_at xs) (λ rest e. end_through bs xs rest (end_mark bs 123 xs is) e) (braced_name_leaves xs))
      (λ h. name_leaves bs (scan Name bs) (pass_end Name bs))

  -- a part, where parts don't end
  pub part_behind : (context : Context) (bs : Text) → parts_end context bs ≡ false → Leaves (IsBehind bs) (part_at context inner bs)
  unfolding part_at
  part_behind context bs e = at_mark (Leaves (IsBehind bs)) 36 bs (dollar_at inner) _
      (λ xs is. leaves_behind bs 36 xs (dollar_at inner xs) is (dollar_leaves xs))
      (λ h. at_mark (Leaves (IsBehind bs)) 91 bs (bracket_at inner) _
      (λ xs is. leaves_behind bs 91 xs (bracket_at inner xs) is (bracket_leaves inner inside xs))
      (λ k. at_mark (Leaves (IsBehind bs)) 92 bs backslash_at _
      (λ xs is. leaves_behind bs 92 xs (backslash_at xs) is (escape_leaves xs))
      (λ l. literal_behind context bs e h k l)))

  pub part_leaves : (context : Context) (bs : Text) → Leaves (IsSuffixOf bs) (part_at context inner bs)
  unfolding part_at
  part_leaves context bs = at_mark (Leaves (IsSuffixOf bs)) 36 bs (dollar_at inner) _
      (λ xs is. leaves_end bs _ (leaves_behind bs 36 xs (dollar_at inner xs) is (dollar_leaves xs)))
      (λ h. at_mark (Leaves (IsSuffixOf bs)) 91 bs (bracket_at inner) _
      (λ xs is. leaves_end bs _ (leaves_behind bs 91 xs (bracket_at inner xs) is (bracket_leaves inner inside xs)))
      (λ k. at_mark (Leaves (IsSuffixOf bs)) 92 bs backslash_at _
      (λ xs is. leaves_end bs _ (leaves_behind bs 92 xs (backslash_at xs) is (escape_leaves xs)))
      (λ l. back_end (in_class (class_of context)) bs)))

  pub parts_leave : (context : Context) (bs : Text) → Leaves (IsSuffixOf bs) (parts_with context inner bs)
  unfolding parts_with
  parts_leave context bs = leaves_map (IsSuffixOf bs) parts_of _ (items_leave (λ xs. xs) (parts_end context) (part_at context inner) end_same (part_leaves context) (suc (length bs)) bs)

  pub parts_behind : (context : Context) (bs : Text) → parts_end context bs ≡ false → Leaves (IsBehind bs) (parts_with context inner bs)
  unfolding parts_with
  parts_behind context bs e = leaves_map (IsBehind bs) parts_of _
      (items_behind (λ xs. xs) (parts_end context) (part_at context inner) end_same (part_leaves context) (length bs) bs
      e (part_behind context bs e))

-- Words

in_braces_leave : (nested : Bool) (bs : Text) (remaining : ℕ) (found : Option (Text × Text)) → LeavesSome (IsSuffixOf bs) found → Leaves (IsSuffixOf bs) (word_in_braces nested remaining found)
in_braces_leave nested bs remaining None e = tt
in_braces_leave nested bs remaining (Some p) e = text_then (IsSuffixOf p.1) (IsSuffixOf bs) (require_word_end nested p.1) _ (ended_leaves nested p.1) (λ rest f. end_through bs p.1 rest e f)

pub closing_end : (bs : Text) (found : Option (Text × Text)) → braced_at false 0 bs ≡ found → LeavesSome (IsSuffixOf bs) found
closing_end bs None is = tt
closing_end bs (Some p) is = let c = close_sound bs false 0 p.0 p.1 is in (p.0 ++ 125 ∷ [], c.0 ∙ sym (append_assoc p.0 (125 ∷ []) p.1))

braced_word_leaves : (nested : Bool) (bs : Text) → Leaves (IsSuffixOf bs) (braced_word_at nested bs)
unfolding braced_word_at
braced_word_leaves nested bs = in_braces_leave nested bs _ (braced_at false 0 bs) (closing_end bs (braced_at false 0 bs) refl)

module _ (inner : Inner) (inside : InnerLeaves inner) (nested : Bool) where
  quoted_word_leaves : (bs : Text) → Leaves (IsSuffixOf bs) (quoted_word_at nested inner bs)
  unfolding quoted_word_at
  quoted_word_leaves bs = closed_behind bs (parts_with InQuotes inner bs) 34 _ (λ x after. require_word_end nested after >>= (λ rest. Ok (x, rest))) (parts_leave inner inside InQuotes bs)
      (λ x after. text_then (IsSuffixOf after) (IsSuffixOf after) (require_word_end nested after) _ (ended_leaves nested after) (λ rest e. e))

  bare_going : (bs : Text) → word_ends nested bs ≡ false → parts_end (bare nested) bs ≡ false
  bare_going bs h = go nested h where
    go : (n : Bool) → word_ends n bs ≡ false → parts_end (bare n) bs ≡ false
    go true h = h
    go false h = h

  plain_word_behind : (bs : Text) → word_ends nested bs ≡ false → Leaves (IsBehind bs) (unexpanded_word_at nested inner bs)
  unfolding unexpanded_word_at
  plain_word_behind bs e = at_mark (Leaves (IsBehind bs)) 123 bs (braced_word_at nested) _
      (λ xs is. leaves_behind bs 123 xs (braced_word_at nested xs) is (braced_word_leaves nested xs))
      (λ h. at_mark (Leaves (IsBehind bs)) 34 bs (quoted_word_at nested inner) _
      (λ xs is. leaves_behind bs 34 xs (quoted_word_at nested inner xs) is (quoted_word_leaves xs))
      (λ k. parts_behind inner inside (bare nested) bs (bare_going bs e)))

  plain_word_leaves : (bs : Text) → Leaves (IsSuffixOf bs) (unexpanded_word_at nested inner bs)
  unfolding unexpanded_word_at
  plain_word_leaves bs = at_mark (Leaves (IsSuffixOf bs)) 123 bs (braced_word_at nested) _
      (λ xs is. leaves_end bs _ (leaves_behind bs 123 xs (braced_word_at nested xs) is (braced_word_leaves nested xs)))
      (λ h. at_mark (Leaves (IsSuffixOf bs)) 34 bs (quoted_word_at nested inner) _
      (λ xs is. leaves_end bs _ (leaves_behind bs 34 xs (quoted_word_at nested inner xs) is (quoted_word_leaves xs)))
      (λ k. parts_leave inner inside (bare nested) bs))

  -- what follows {*} is behind it
  abbrev pub IsBehindSome : Text → Option Text → Type 0
  IsBehindSome bs None = Unit {0}
  IsBehindSome bs (Some rest) = IsBehind bs rest

  unless_behind : (bs rest : Text) → IsBehind bs rest → IsBehindSome bs (unless_word_ends nested rest)
  unless_behind bs rest b = either (IsBehindSome bs) (word_ends nested rest) None (Some rest) tt b

  pub expansion_behind : (bs : Text) → IsBehindSome bs (after_expansion nested bs)
  unfolding after_expansion
  expansion_behind bs = at_mark (IsBehindSome bs) 123 bs (λ xs. on_mark 42 xs (λ ys. on_mark 125 ys (unless_word_ends nested) None) None) None
      (λ xs is. at_mark (IsBehindSome bs) 42 xs (λ ys. on_mark 125 ys (unless_word_ends nested) None) None
      (λ ys so. at_mark (IsBehindSome bs) 125 ys (unless_word_ends nested) None
      (λ zs thus. unless_behind bs zs (behind_mark bs 123 xs zs is (end_through xs ys zs (end_mark xs 42 ys so) (end_mark ys 125 zs thus))))
      (λ h. tt))
      (λ h. tt))
      (λ h. tt)

  pub expanded_end : (bs rest : Text) → Some rest ≡ after_expansion nested bs → IsSuffixOf bs rest
  expanded_end bs rest is = let b : IsBehind bs rest = subst (IsBehindSome bs) (sym is) (expansion_behind bs) in b.0

  from_behind : (bs : Text) (found : Option Text) → IsBehindSome bs found → word_ends nested bs ≡ false → Leaves (IsBehind bs) (word_from nested inner bs found)
  from_behind bs None b e = leaves_map (IsBehind bs) (word_of false) _ (plain_word_behind bs e)
  from_behind bs (Some xs) b e = leaves_map (IsBehind bs) (word_of true) _ (leaves_also (IsSuffixOf xs) (IsBehind bs) _ (λ rest f. behind_through bs xs rest b f) (plain_word_leaves xs))

  from_leaves : (bs : Text) (found : Option Text) → IsBehindSome bs found → Leaves (IsSuffixOf bs) (word_from nested inner bs found)
  from_leaves bs None b = leaves_map (IsSuffixOf bs) (word_of false) _ (plain_word_leaves bs)
  from_leaves bs (Some xs) b = leaves_map (IsSuffixOf bs) (word_of true) _ (leaves_also (IsSuffixOf xs) (IsSuffixOf bs) _ (λ rest f. (behind_through bs xs rest b f).0) (plain_word_leaves xs))

  -- a word, where no word ends
  pub word_behind : (bs : Text) → word_ends nested bs ≡ false → Leaves (IsBehind bs) (word_at nested inner bs)
  unfolding word_at
  word_behind bs e = from_behind bs (after_expansion nested bs) (expansion_behind bs) e

  pub word_leaves : (bs : Text) → Leaves (IsSuffixOf bs) (word_at nested inner bs)
  unfolding word_at
  word_leaves bs = from_leaves bs (after_expansion nested bs) (expansion_behind bs)

  -- Commands and scripts

  pub blanks_end : (bs : Text) → IsSuffixOf bs (skip_blanks bs)
  blanks_end bs = pass_end Blanks bs

  pub gap_end : (bs : Text) → IsSuffixOf bs (skip_gap bs)
  gap_end bs = pass_end Gap bs

  words_leave : (bs : Text) → Leaves (IsSuffixOf bs) (words_at nested inner bs)
  words_leave bs = items_leave skip_blanks (command_ends nested) (word_at nested inner) blanks_end word_leaves (suc (length bs)) bs

  pub command_leaves : (offset : ℕ) (bs : Text) → Leaves (IsSuffixOf bs) (command_at offset nested inner bs)
  unfolding command_at
  command_leaves offset bs = leaves_then (IsSuffixOf bs) (IsSuffixOf bs) (word_at nested inner bs) _ (word_leaves bs)
      (λ w rest e. leaves_map (IsSuffixOf bs) _ (words_at nested inner rest) (leaves_also (IsSuffixOf rest) (IsSuffixOf bs) _ (λ last f. end_through bs rest last e f) (words_leave rest)))

  pub command_behind : (offset : ℕ) (bs : Text) → word_ends nested bs ≡ false → Leaves (IsBehind bs) (command_at offset nested inner bs)
  unfolding command_at
  command_behind offset bs h = leaves_then (IsBehind bs) (IsBehind bs) (word_at nested inner bs) _ (word_behind bs h)
      (λ w rest b. leaves_map (IsBehind bs) _ (words_at nested inner rest) (leaves_also (IsSuffixOf rest) (IsBehind bs) _ (λ last f. behind_through bs rest last b f) (words_leave rest)))

  pub script_leaves : (bs : Text) → Leaves (IsSuffixOf bs) (script_with nested inner bs)
  unfolding script_with
  script_leaves bs = leaves_map (IsSuffixOf bs) commands_of _
      (items_leave skip_gap (script_ends nested) (command_in (length bs) nested inner) gap_end
      (λ xs. command_leaves (length bs - length xs) xs) (suc (length bs)) bs)

pub inner_leaves : (depth : ℕ) → InnerLeaves (inner_at depth)
unfolding inner_at
inner_leaves zero = record { script = λ bs. tt; index = λ bs. tt }
inner_leaves (suc depth) = record { script = script_leaves (inner_at depth) (inner_leaves depth) true; index = parts_leave (inner_at depth) (inner_leaves depth) InIndex }
