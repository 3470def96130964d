-- What the forms of the program stand for in the rules (tclrules/specs/Forms.antt). Own.
use Rattle.std.specs.Prelude.{ℕ, Bool, true, false, List, [], ◌∷◌, map, string_bytes, String, Option, Some, None, Ok}
use Rattle.std.specs.Prelude.{Err}
use Rattle.std.specs.Borrow.{Bor}
use Rattle.std.specs.Option.{option_map}
use Rattle.std.specs.declared.alloc.Global.{Global}
use Rattle.tcltext.specs.chars.Runs.{Text}
use Rattle.tclvalue.specs.operators.Faults.{Answer}
use Rattle.tclrules.specs.Forms as forms
use Rattle.tclforms.specs.declared.form.Form.{Form}
use Rattle.tclforms.specs.declared.form.Form.TheVariants as form
use Rattle.tclforms.specs.declared.form.SimpleForm.{SimpleForm}
use Rattle.tclforms.specs.declared.form.SimpleForm.TheVariants as simple
use Rattle.tclforms.specs.declared.form.Comparison.{Comparison}
use Rattle.tclforms.specs.declared.form.Comparison.TheVariants as comparisons
use Rattle.tclforms.specs.declared.form.WhenMissing.{WhenMissing}
use Rattle.tclforms.specs.declared.form.WhenMissing.TheVariants as missing
use Rattle.tclforms.specs.declared.form.Patterns.{Patterns}
use Rattle.tclforms.specs.declared.form.Patterns.TheVariants as patterns

-- the texts of words
abbrev pub texts_of : List (String Global) → List Text
texts_of ws = map string_bytes ws

-- texts by turns as pairs; a last one without a partner is dropped
abbrev pub in_pairs : List Text → List (Text × Text)
in_pairs [] = []
in_pairs (a ∷ []) = []
in_pairs (a ∷ b ∷ ts) = (a, b) ∷ in_pairs ts

-- pairs of borrowed texts
abbrev pub pair_texts : List (Bor (List ℕ) × Bor (List ℕ)) → List (Text × Text)
pair_texts ps = map (λ p. (p.0.now, p.1.now)) ps

-- the patterns and bodies of a switch, by turns
abbrev pub pattern_texts : Patterns → List Text
pattern_texts (patterns.Words ws) = texts_of ws.now
pattern_texts (patterns.Elements es) = texts_of es.items

-- switch compares by glob
abbrev pub is_glob : Comparison → Bool
is_glob comparisons.Exact = false
is_glob comparisons.Glob = true

-- unset makes nothing of a variable that isn't set
abbrev pub is_ignored : WhenMissing → Bool
is_ignored missing.Ignored = true
is_ignored missing.IsError = false

-- a form of a command that evaluates no script
abbrev pub simple_view : SimpleForm → forms.Form
simple_view (simple.Get v) = forms.Get v.now
simple_view (simple.Set v x) = forms.Set v.now x.now
simple_view (simple.Unset absent vs) = forms.Unset (is_ignored absent) (texts_of vs.now)
simple_view (simple.Append v xs) = forms.Append v.now (texts_of xs.now)
simple_view (simple.ListAppend v xs) = forms.ListAppend v.now (texts_of xs.now)
simple_view (simple.Increase v ns) = forms.Increase v.now (texts_of ns.now)
simple_view (simple.Define n ps b) = forms.Define n.now ps.now b.now
simple_view (simple.Return x) = forms.Return x.now
simple_view simple.Break = forms.Break
simple_view simple.Continue = forms.Continue
simple_view simple.Exit = forms.Exit
simple_view (simple.Error m) = forms.Error m.now
simple_view (simple.Exists v) = forms.Exists v.now
simple_view (simple.Global vs) = forms.Global (texts_of vs.now)
simple_view (simple.Put ws) = forms.Put (texts_of ws.now)

-- any form
abbrev pub form_view : Form → forms.Form
form_view (form.Simple s) = simple_view s
form_view (form.Express xs) = forms.Express (texts_of xs.now)
form_view (form.If ps other) = forms.If (pair_texts ps.items) (option_map (λ b. b.now) other)
form_view (form.While l) = forms.While l.condition.now l.body.now
form_view (form.For l) = forms.For l.start.now l.condition.now l.next.now l.body.now
form_view (form.Foreach ps b) = forms.Foreach (pair_texts ps.items) b.now
form_view (form.Switch comparison t ps) = forms.Switch (is_glob comparison) t.now (in_pairs (pattern_texts ps))
form_view (form.Catch s v) = forms.Catch s.now (option_map (λ v. v.now) v)

-- an optional answer as the answer of an option
abbrev pub transposed : {A : Type 0} → Option (Answer A) → Answer (Option A)
transposed None = Ok None
transposed (Some (Ok x)) = Ok (Some x)
transposed (Some (Err f)) = Err f
