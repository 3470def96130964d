-- Changes one after the other, and what a new file comes to.
use Rattle.std.proofs.Common.{◌≡◌, Bool, true, false, true≢false, refl, sym, ap, ◌∙◌}
use Rattle.std.specs.Prelude.{bytes_eq, if◌then◌else◌}
use Rattle.envvars.specs.Texts.{Text}
use Rattle.envvars.proofs.TextLemmas.{same_text, bytes_eq-same}
use Rattle.module_collections.specs.files.Entries.{Entry, Entries, nothing, file}
use Rattle.module_collections.specs.files.Calls.{AreSame, Changes, Clears, Makes, Moves, Narrows, Puts, with_at}

pub changes_then : (A B C : Entries → Type 0) (R S T : Entries → Entries → Type 0) → Changes A B R → Changes B C S
    → ((x y z : Entries) → R x y → S y z → T x z) → Changes A C T
changes_then A B C R S T f g h = λ new c. let y = g new c in let x = f y.0 y.1 in (x.0, x.1, h x.0 y.0 new x.2 y.2)

pub changes_as : (A B : Entries → Type 0) (R T : Entries → Entries → Type 0) → Changes A B R
    → ((x y : Entries) → R x y → T x y) → Changes A B T
changes_as A B R T f h = λ new b. let x = f new b in (x.0, x.1, h x.0 new x.2)

pub narrows_then : (A B C : Entries → Type 0) (S T : Entries → Entries → Type 0) → Narrows A B → Changes B C S
    → ((x y : Entries) → B x → S x y → T x y) → Changes A C T
narrows_then A B C S T narrows g h = λ new c. let x = g new c in (x.0, narrows x.0 x.1, h x.0 new x.1 x.2)

pub then_narrows : (A B C : Entries → Type 0) (R T : Entries → Entries → Type 0) → Changes A B R → Narrows B C
    → ((x y : Entries) → C y → R x y → T x y) → Changes A C T
then_narrows A B C R T f narrows h = λ new c. let x = f new (narrows new c) in (x.0, x.1, h x.0 new c x.2)

pub unchanged : (A B : Entries → Type 0) (T : Entries → Entries → Type 0) → Narrows A B
    → ((x : Entries) → B x → T x x) → Changes A B T
unchanged A B T narrows h = λ new b. (new, narrows new b, h new b)

cleared_case : (t : Bool) (path p : Text) (a b c : Entries) (bytes : Text) → bytes_eq path p ≡ t → a path ≡ nothing
    → b p ≡ (if t then file bytes else a p) → c p ≡ (if t then nothing else b p) → c p ≡ a p
cleared_case true path p a b c bytes e was m k = k ∙ (sym was ∙ ap a (same_text path p e))
cleared_case false path p a b c bytes e was m k = k ∙ m

-- a new file that is removed leaves what there was
pub made_cleared : (path : Text) (a b c : Entries) → Makes path a b → Clears path b c → AreSame a c
made_cleared path a b c m k = λ p. cleared_case (bytes_eq path p) path p a b c m.bytes refl m.was (m.puts p) (k p)

pub made_kept : (path : Text) (a b c : Entries) → Makes path a b → AreSame b c → Makes path a c
made_kept path a b c m k = record { was = m.was; bytes = m.bytes; puts = λ p. k p ∙ m.puts p }

at_itself : (path : Text) (entry : Entry) (a b : Entries) (t : Bool) → bytes_eq path path ≡ t → t ≡ true
    → b path ≡ (if t then entry else a path) → b path ≡ entry
at_itself path entry a b true e f k = k
at_itself path entry a b false e f k = absurd (true≢false (sym f))

-- what was put at a path is there
pub put_there : (path : Text) (entry : Entry) (a b : Entries) → Puts path entry a b → b path ≡ entry
put_there path entry a b puts =
    at_itself path entry a b (bytes_eq path path) refl (bytes_eq-same path) (puts path)

-- a new file with this text
pub made_with : (path text : Text) (a b c : Entries) → Makes path a b → b path ≡ file text → AreSame b c
    → (a path ≡ nothing) × Puts path (file text) a c
made_with path text a b c m has k =
    let same : file m.bytes ≡ file text = sym (put_there path (file m.bytes) a b m.puts) ∙ has in
    (m.was, λ p. k p ∙ (m.puts p ∙ ap (λ (e : Entry). with_at a path e p) same))

pub put_makes : (path text : Text) (a b : Entries) → a path ≡ nothing → Puts path (file text) a b → Makes path a b
put_makes path text a b was puts = record { was = was; bytes = text; puts = puts }

moved_case : (t s : Bool) (path end p text : Text) (a b c : Entries) → bytes_eq path p ≡ t → a path ≡ nothing
    → b p ≡ (if t then file text else a p) → b path ≡ file text
    → c p ≡ (if s then b path else (if t then nothing else b p)) → c p ≡ (if s then file text else a p)
moved_case t true path end p text a b c e was m has k = k ∙ has
moved_case true false path end p text a b c e was m has k = k ∙ (sym was ∙ ap a (same_text path p e))
moved_case false false path end p text a b c e was m has k = k ∙ m

-- a new file that is put in its place
pub put_moved : (path end text : Text) (a b c : Entries) → a path ≡ nothing → Puts path (file text) a b
    → Moves path end b c → Puts end (file text) a c
put_moved path end text a b c was puts moves = λ p.
    moved_case (bytes_eq path p) (bytes_eq end p) path end p text a b c refl was (puts p) (put_there path (file text) a b puts) (moves p)
