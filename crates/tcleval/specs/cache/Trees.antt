-- Texts with their trees, in the order of their coming, and how a request for one changes them. Own.
use Rattle.std.specs.Prelude.{◌≡◌, ℕ, ◌+◌, ◌≤◌, List, [], ◌∷◌, ◌++◌, Bool, true, false, ◌||◌, nat_lt, length, map}
use Rattle.std.specs.Prelude.{bytes_eq, Option, Some, None, Result, Ok, Err}
use Rattle.std.specs.List.{Contains, IsDistinct, position, sum_by}
use Rattle.tcltext.specs.chars.Runs.{Text}
use Rattle.tcltext.specs.chars.Whole.{FailsWith}
use Rattle.tcltext.specs.declared.chars.fault.TextFault.{TextFault}

-- distinct texts, each with its tree
abbrev pub Trees : Type 0 → Type 0
Trees T = List (Text × T)

-- the texts alone
abbrev pub texts_of : {T : Type 0} → Trees T → List Text
texts_of es = map (λ e. e.0) es

-- the index of a text, from 0
abbrev pub index_of : {T : Type 0} → Trees T → Text → Option ℕ
index_of es t = position (bytes_eq t) (texts_of es)

-- how many texts are cached at most, and how many bytes of text
abbrev pub max_texts : ℕ
max_texts = 1024

abbrev pub max_bytes : ℕ
max_bytes = 8388608

-- how many bytes the texts have together
abbrev pub bytes_of : {T : Type 0} → Trees T → ℕ
bytes_of es = sum_by length (texts_of es)

-- this text would exceed a limit
abbrev pub is_full : {T : Type 0} → Trees T → Text → Bool
is_full es t = nat_lt max_texts (length es + 1) || nat_lt max_bytes (bytes_of es + length t)

-- a text that isn't cached is parsed, and added at the end; where it has a fault, or memory runs out, nothing changes
abbrev pub Adds : {T : Type 0} → (Text → Result T TextFault) → Trees T → Text → Result (Option ℕ) TextFault → Trees T
    → Type 0
Adds {T} read old t (Ok (Some entry_index)) new = (entry_index ≡ length old) × (tree : T) × (read t ≡ Ok tree)
    × (new ≡ old ++ (t, tree) ∷ [])
Adds read old t (Ok None) new = ⊥
Adds read old t (Err fault) new = FailsWith fault (read t) × (new ≡ old)

-- the answer to a request for a text, and what is cached then
pub record AnswersIndex {T : Type 0} (read : Text → Result T TextFault) (old : Trees T) (t : Text)
    (result : Result (Option ℕ) TextFault) (new : Trees T) : Type 0 where
  -- a text that is there is answered by its index
  pub there : (entry_index : ℕ) → index_of old t ≡ Some entry_index → (result ≡ Ok (Some entry_index)) × (new ≡ old)
  -- one that would exceed a limit isn't cached, and isn't parsed
  pub full : index_of old t ≡ None → is_full old t ≡ true → (result ≡ Ok None) × (new ≡ old)
  pub added : index_of old t ≡ None → is_full old t ≡ false → Adds read old t result new

-- what is cached after a request for a text's tree. Of a text that is there the tree is the cached one
pub record CachesTree {T : Type 0} (old : Trees T) (t : Text) (tree : T) (new : Trees T) : Type 0 where
  pub there : (entry_index : ℕ) → index_of old t ≡ Some entry_index → Contains old (t, tree) × (new ≡ old)
  pub full : index_of old t ≡ None → is_full old t ≡ true → new ≡ old
  pub added : index_of old t ≡ None → is_full old t ≡ false → new ≡ old ++ (t, tree) ∷ []

-- the tree was parsed from this text, and stands for the tree that the grammar has for it
pub record IsTreeOfText {T U : Type 0} (text_of_tree : T → Text) (view : T → U) (read : Text → Result U TextFault)
    (e : Text × T) : Type 0 where
  pub text : text_of_tree e.1 ≡ e.0
  pub tree : read e.0 ≡ Ok (view e.1)

-- distinct texts within the limits
pub record AreLimited {T : Type 0} (es : Trees T) : Type 0 where
  pub distinct : IsDistinct bytes_eq (texts_of es)
  pub few : length es ≤ max_texts
  pub short : bytes_of es ≤ max_bytes

-- the same texts, each tree with what it stands for
abbrev pub map_trees : {T U : Type 0} → (T → U) → Trees T → Trees U
map_trees view es = map (λ e. (e.0, view e.1)) es

-- the second begins with the first
abbrev pub BeginsWith : {A : Type 0} → List A → List A → Type 0
BeginsWith {A} xs ys = (more : List A) × (ys ≡ xs ++ more)
