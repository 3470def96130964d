-- How deep lists of parts, words and commands nest, one more at a time.
use Rattle.std.proofs.Common.{◌≡◌, ◌≤◌, ℕ, max, List, [], ◌∷◌, ◌++◌, map, ap, ◌∙◌, arith, rules}
use Rattle.std.specs.Ordering.{ord_max, nat_cmp}
use Rattle.std.proofs.lemmas.Bool.Decides.{nat_tests}
use Rattle.tcltext.specs.chars.Runs.{Text}
use Rattle.std.proofs.lemmas.List.{map_push}
use Rattle.tcltext.specs.script.View.{script_view, command_view, word_view, content_view, part_view, parts_view}
use Rattle.tcltext.specs.declared.script.tree.Part as rust_part
use Rattle.tcltext.specs.declared.script.tree.Word as rust_word
use Rattle.tcltext.specs.declared.script.tree.Command as rust_command
use Rattle.tcltext.specs.declared.script.tree.Script as rust_script
use Rattle.tcltext.specs.expr.View.{words_view}
use Rattle.tcltext.specs.script.Tree.{Command, Word, Part, nesting, words_nesting, word_nesting, parts_nesting, part_nesting}
use Rattle.tcltext.specs.script.Tree.{commands_of, words_of, parts_of}

-- the larger of two, as the code's method has it
pub max_of : (a b : ℕ) → ord_max nat_cmp a b ≡ max a b
max_of a b = grind (arith, nat_tests)

max_last : (a b c : ℕ) → max a (max b c) ≡ max (max a b) c
max_last a b c = omega arith

pub parts_more : (ps : List Part) (p : Part) → parts_nesting (parts_of (ps ++ p ∷ [])) ≡ max (parts_nesting (parts_of ps)) (part_nesting p)
parts_more [] p = omega arith
parts_more (q ∷ ps) p = ap (max (part_nesting q)) (parts_more ps p) ∙ max_last (part_nesting q) (parts_nesting (parts_of ps)) (part_nesting p)

pub words_more : (ws : List Word) (w : Word) → words_nesting (words_of (ws ++ w ∷ [])) ≡ max (words_nesting (words_of ws)) (word_nesting w)
words_more [] w = omega arith
words_more (v ∷ ws) w = ap (max (word_nesting v)) (words_more ws w) ∙ max_last (word_nesting v) (words_nesting (words_of ws)) (word_nesting w)

pub commands_more : (cs : List Command) (c : Command) → nesting (commands_of (cs ++ c ∷ [])) ≡ max (nesting (commands_of cs)) (words_nesting c.words)
commands_more [] c = omega arith
commands_more (b ∷ cs) c = ap (max (words_nesting b.words)) (commands_more cs c) ∙ max_last (words_nesting b.words) (nesting (commands_of cs)) (words_nesting c.words)

-- the height so far, where numbers up to the limit are exact
abbrev pub Tallest : ℕ → ℕ → ℕ → Type 0
Tallest limit height n = n ≤ limit → height ≡ n

pub tallest_more : (limit height h n m k : ℕ) → k ≡ max n m → Tallest limit height n → Tallest limit h m → Tallest limit (max height h) k
tallest_more limit height h n m k e x y less =
    let a : height ≡ n = x (omega arith) in
    let b : h ≡ m = y (omega arith) in
    omega arith

module _ {P : Type 0} (shown : P → Text) where
  pub parts_step : (xs ys : List (rust_part.Part P)) (x : rust_part.Part P) → ys ≡ xs ++ x ∷ []
      → parts_nesting (parts_view shown ys) ≡ max (parts_nesting (parts_view shown xs))
      (part_nesting (part_view shown x))
  parts_step xs ys x e = ap (λ zs. parts_nesting (parts_view shown zs)) e
      ∙ ap (λ ps. parts_nesting (parts_of ps)) (map_push (part_view shown) xs x)
      ∙ parts_more (map (part_view shown) xs) (part_view shown x)

  pub words_step : (xs ys : List (rust_word.Word P)) (x : rust_word.Word P) → ys ≡ xs ++ x ∷ []
      → words_nesting (words_view shown ys) ≡ max (words_nesting (words_view shown xs))
      (word_nesting (word_view shown x))
  words_step xs ys x e = ap (λ zs. words_nesting (words_view shown zs)) e
      ∙ ap (λ ps. words_nesting (words_of ps)) (map_push (word_view shown) xs x)
      ∙ words_more (map (word_view shown) xs) (word_view shown x)

  pub commands_step : (xs ys : List (rust_command.Command P)) (x : rust_command.Command P) → ys ≡ xs ++ x ∷ []
      → nesting (commands_of (map (command_view shown) ys)) ≡ max (nesting (commands_of (map (command_view shown) xs)))
      (words_nesting (command_view shown x).words)
  commands_step xs ys x e = ap (λ zs. nesting (commands_of (map (command_view shown) zs))) e
      ∙ ap (λ ps. nesting (commands_of ps)) (map_push (command_view shown) xs x)
      ∙ commands_more (map (command_view shown) xs) (command_view shown x)

  pub words_of_command : (c : rust_command.Command P) → (command_view shown c).words ≡ words_view shown (rust_command.out-Command P c).words.items
  words_of_command c = search (rules, rust_command.the_lemmas)

  pub word_height : (w : rust_word.Word P) → word_nesting (word_view shown w) ≡ parts_nesting (content_view shown (rust_word.out-Word P w).content)
  word_height w = search (rules, rust_word.the_lemmas)

  pub script_height : (s : rust_script.Script P) → nesting (script_view shown s) ≡ nesting (commands_of (map (command_view shown) (rust_script.out-Script P s).commands.items))
  script_height s = search (rules, rust_script.the_lemmas)
