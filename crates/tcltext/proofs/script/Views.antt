-- Trees, level by level.
use Rattle.std.proofs.Common.{◌≡◌, ℕ, Bool, map, rules, Vec}
use Rattle.std.specs.declared.alloc.Global.{Global}
use Rattle.tcltext.specs.chars.Runs.{Text}
use Rattle.tcltext.specs.script.Tree.{bracket, part, literal, braced, no_parts, word_of, words_of, commands_of}
use Rattle.tcltext.specs.script.View.{script_view, command_view, word_view, content_view, part_view, parts_view}
use Rattle.tcltext.specs.declared.script.tree.Script.{Script, roll-Script}
use Rattle.tcltext.specs.declared.script.tree.Command.{Command, roll-Command}
use Rattle.tcltext.specs.declared.script.tree.Word.{Word, roll-Word}
use Rattle.tcltext.specs.declared.script.tree.WordContent.{WordContent, Bare, Braced, Parts}
use Rattle.tcltext.specs.declared.script.tree.Part.{Part, Bracket, the_lemmas}

module _ {P : Type 0} (shown : P → Text) where
  pub view-Command : (offset : ℕ) (source : P) (v : Vec (Word P) Global) → command_view shown (roll-Command P (record { offset = offset; source = source; words = v }))
      ≡ record { offset = offset; source = shown source; words = words_of (map (word_view shown) v.items) }
  view-Command offset source v = search (rules, the_lemmas)

  pub view-Script : (v : Vec (Command P) Global) → script_view shown (roll-Script P (record { commands = v })) ≡ commands_of (map (command_view shown) v.items)
  view-Script v = search (rules, the_lemmas)

  pub view-Word : (expands : Bool) (content : WordContent P) → word_view shown (roll-Word P (record { expands = expands; content = content })) ≡ word_of expands (content_view shown content)
  view-Word expands content = search (rules, the_lemmas)

  pub view-Bare : (s : P) → content_view shown (Bare s) ≡ part (literal (shown s)) no_parts
  view-Bare s = search (rules, the_lemmas)

  pub view-Braced : (s : P) → content_view shown (Braced s) ≡ part (braced (shown s)) no_parts
  view-Braced s = search (rules, the_lemmas)

  pub view-Parts : (v : Vec (Part P) Global) → content_view shown (Parts v) ≡ parts_view shown v.items
  view-Parts v = search (rules, the_lemmas)

  pub view-Bracket : (s : Script P) → part_view shown (Bracket s) ≡ bracket (script_view shown s)
  view-Bracket s = search (rules, the_lemmas)
