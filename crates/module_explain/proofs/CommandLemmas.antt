-- Where the first command of a script ends, by the list of the commands.
use Rattle.std.proofs.Common.{◌≡◌, ℕ, List, [], ◌∷◌, length, map, Bor, Option, Some, None, refl, ap, sym, ◌∙◌, rules}
use Rattle.std.specs.List.{slice_get}
use Rattle.std.specs.Slice.{IsItemAt}
use Rattle.std.proofs.lemmas.Option.{slice_get_read, slice_get_past, same_Some, none-some}
use Rattle.tcltext.specs.chars.Runs.{Text}
use Rattle.tcltext.specs.script.Tree.{commands_of}
use Rattle.tcltext.specs.script.View.{script_view, command_view}
use Rattle.tcltext.specs.declared.script.tree.Script as rust_script
use Rattle.tcltext.specs.declared.script.tree.Command as rust_command
use Rattle.module_explain.specs.Commands.{first_end}

module _ {P : Type 0} (shown : P → Text) where
  commands_seen : (s : rust_script.Script P) → script_view shown s ≡ commands_of (map (command_view shown) (rust_script.out-Script P s).commands.items)
  commands_seen s = search (rules, rust_script.the_lemmas)

  place_seen : (c : rust_command.Command P) → (command_view shown c).offset ≡ (rust_command.out-Command P c).offset
  place_seen c = search (rules, rust_command.the_lemmas)

  -- no second command
  alone : (len : ℕ) (cs : List (rust_command.Command P)) → slice_get cs 1 ≡ None → len ≡ first_end len (commands_of (map (command_view shown) cs))
  alone len [] h = refl
  alone len (c ∷ []) h = refl
  alone len (c ∷ d ∷ cs) h = absurd (none-some d (sym h))

  -- a second command
  followed : (len : ℕ) (cs : List (rust_command.Command P)) (second : rust_command.Command P) → slice_get cs 1 ≡ Some second
      → (command_view shown second).offset ≡ first_end len (commands_of (map (command_view shown) cs))
  followed len [] second h = absurd (none-some second h)
  followed len (c ∷ []) second h = absurd (none-some second h)
  followed len (c ∷ d ∷ cs) second h = ap (λ (x : rust_command.Command P). (command_view shown x).offset) (sym (same_Some d second h))

  pub end_alone : (len : ℕ) (s : rust_script.Script P) → slice_get (rust_script.out-Script P s).commands.items 1 ≡ None
      → len ≡ first_end len (script_view shown s)
  end_alone len s h = alone len _ h ∙ ap (first_end len) (sym (commands_seen s))

  pub end_followed : (len : ℕ) (s : rust_script.Script P) (second : rust_command.Command P)
      → slice_get (rust_script.out-Script P s).commands.items 1 ≡ Some second
      → (rust_command.out-Command P second).offset ≡ first_end len (script_view shown s)
  end_followed len s second h = sym (place_seen second) ∙ followed len _ second h ∙ ap (first_end len) (sym (commands_seen s))

  -- the second command, as `get` gives it
  pub end_without : (len : ℕ) (s : rust_script.Script P) (cs : List (rust_command.Command P)) → cs ≡ (rust_script.out-Script P s).commands.items
      → IsItemAt cs 1 None → len ≡ first_end len (script_view shown s)
  end_without len s cs same h = end_alone len s (ap (λ (l : List (rust_command.Command P)). slice_get l 1) (sym same) ∙ slice_get_past cs 1 h.3)

  pub end_with : (len : ℕ) (s : rust_script.Script P) (cs : List (rust_command.Command P)) (second : Bor (rust_command.Command P))
      → cs ≡ (rust_script.out-Script P s).commands.items → IsItemAt cs 1 (Some second)
      → (rust_command.out-Command P second.now).offset ≡ first_end len (script_view shown s)
  end_with len s cs second same h = end_followed len s second.now
      (ap (λ (l : List (rust_command.Command P)). slice_get l 1) (sym same) ∙ slice_get_read cs (length cs) 1 second.now refl h.3.0 h.1)
