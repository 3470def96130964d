-- Commands of literal words.
use Rattle.std.proofs.Common.{◌≡◌, ℕ, List, [], ◌∷◌, map, ap, ◌∙◌, Option, Some, None, Ok}
use Rattle.std.specs.Prelude.{IfSome}
use Rattle.tcltext.specs.chars.Runs.{Text}
use Rattle.tcltext.specs.script.Tree.{words_of}
use Rattle.tcltext.specs.script.View.{word_view}
use Rattle.tcltext.specs.declared.script.tree.Word.{Word}
use Rattle.tcltext.specs.declared.script.piece.ByteRange.{ByteRange}
use Rattle.tclvalue.specs.Commands.{command_value}
use Rattle.tclrules.specs.Variables.{State}
use Rattle.tclrules.specs.Plans.{Bounds, Step, Next, given}
use Rattle.tclrules.specs.Words.{words}
use Rattle.tclrules.specs.Forms as forms
use Rattle.tclrules.specs.Forms.{core_form}
use Rattle.tclrules.specs.Rules as rules
use Rattle.tclrules.specs.Rules.{called, value_command, core_command}
use Rattle.tclforms.specs.Views.{simple_view}
use Rattle.tclforms.specs.declared.form.SimpleForm.{SimpleForm}
use Rattle.tclforms.specs.substitution.Machine.{range_text, bounds}

-- the words of a command with this form do what the form does
called_form : (b : Bounds) (name : Text) (ws : List Text) (f : forms.Form) (s : State) (k : Next)
    → core_form name ws ≡ Some (Ok f) → command_value (name ∷ ws) b.bytes ≡ Ok None
    → called b (name ∷ ws) s k ≡ rules.form b f s k
called_form b name ws f s k c v = ap (λ a. given a s (value_command b name ws s k)) v ∙ ap (core_command b name ws s k) c

-- and so do words that make these texts
module _ (limit : ℕ) (source : Text) (ws : List (Word ByteRange)) (name : Text) (ts : List Text) where
  pub form_found : (res : Option SimpleForm)
      → ((remaining : ℕ) (s : State) (k : List Text → State → Step) → words (bounds limit remaining) (words_of (map (word_view (range_text source)) ws)) [] s k ≡ k (name ∷ ts) s)
      → IfSome res (λ f. (limit : ℕ) → (core_form name ts ≡ Some (Ok (simple_view f))) × (command_value (name ∷ ts) limit ≡ Ok None))
      → IfSome res (λ f. (remaining : ℕ) (s : State) (k : Next)
      → words (bounds limit remaining) (words_of (map (word_view (range_text source)) ws)) [] s
      (λ texts s1. called (bounds limit remaining) texts s1 k) ≡ rules.form (bounds limit remaining) (simple_view f)
      s k)
  form_found None w h = tt
  form_found (Some f) w h = λ remaining s k. w remaining s (λ texts s1. called (bounds limit remaining) texts s1 k)
      ∙ called_form (bounds limit remaining) name ts (simple_view f) s k (h limit).0 (h limit).1
