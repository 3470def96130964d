-- The words before one that is read, and the first that is refused.
use Rattle.std.proofs.Common.{◌≡◌, ℕ, ◌+◌, ◌<◌, List, [], ◌∷◌, ◌++◌, refl, sym, ap, ◌∙◌, Result, Ok, Err, Option, Some, None, IfSome, String, Global, string_bytes, get_or, take, drop, length, map}
use Rattle.std.proofs.lemmas.List.{take_more, drop_more, take-append-drop, map-append}
use Rattle.envvars.specs.Texts.{Text}
use Rattle.module_words.specs.modulepath.Faults.{PathReason}
use Rattle.module_words.specs.modulepath.Words.{before, each}

-- one more path behind those of some words
pushed_at : (a : Result Text PathReason) (b c : Result (List Text) PathReason) (ps : List Text) (p : Text) → before a b ≡ Ok ps → ((qs : List Text) → b ≡ Ok qs → c ≡ Ok (qs ++ p ∷ []))
    → before a c ≡ Ok (ps ++ p ∷ [])
pushed_at (Err r) b c ps p h k = cc
pushed_at (Ok q) (Err r) c ps p h k = cc
pushed_at (Ok q) (Ok qs) c ps p h k =
    let same : q ∷ qs ≡ ps = cc in
    ap (before (Ok q)) (k qs refl) ∙ ap (λ (l : List Text). Ok (l ++ p ∷ [])) same

each_push : (f : Text → Result Text PathReason) (xs : List Text) (x : Text) (ps : List Text) (p : Text) → each f xs ≡ Ok ps → f x ≡ Ok p → each f (xs ++ x ∷ []) ≡ Ok (ps ++ p ∷ [])
each_push f [] x ps p h e =
    let none : [] ≡ ps = cc in
    ap (λ (r : Result Text PathReason). before r (Ok [])) e ∙ ap (λ (l : List Text). Ok (l ++ p ∷ [])) none
each_push f (y ∷ ys) x ps p h e = pushed_at (f y) (each f ys) (each f (ys ++ x ∷ [])) ps p h (λ qs g. each_push f ys x qs p g e)

-- the first word that is refused
refused_at : (a : Result Text PathReason) (b c : Result (List Text) PathReason) (ps : List Text) (r : PathReason) → before a b ≡ Ok ps → ((qs : List Text) → b ≡ Ok qs → c ≡ Err r) → before a c ≡ Err r
refused_at (Err s) b c ps r h k = cc
refused_at (Ok q) (Err s) c ps r h k = cc
refused_at (Ok q) (Ok qs) c ps r h k = ap (before (Ok q)) (k qs refl)

each_refused : (f : Text → Result Text PathReason) (xs ys : List Text) (x : Text) (ps : List Text) (r : PathReason) → each f xs ≡ Ok ps → f x ≡ Err r → each f (xs ++ x ∷ ys) ≡ Err r
each_refused f [] ys x ps r h e = ap (λ (a : Result Text PathReason). before a (each f ys)) e
each_refused f (z ∷ zs) ys x ps r h e = refused_at (f z) (each f zs) (each f (zs ++ x ∷ ys)) ps r h (λ qs g. each_refused f zs ys x qs r g e)

-- a turn of the loop over words
pub each_turn : (f : Text → Result Text PathReason) (words : List (String Global)) (i : ℕ) (s : String Global) (text : Text) (done new : List Text) (p : Text) → i < length words
    → s ≡ get_or words i s → text ≡ string_bytes s
    → f text ≡ Ok p → new ≡ done ++ p ∷ [] → each f (map string_bytes (take i words)) ≡ Ok done → each f (map string_bytes (take (i + 1) words)) ≡ Ok new
each_turn f words i s text done new p l is same e grown h =
    ap (λ (ws : List (String Global)). each f (map string_bytes ws)) (take_more words i s l ∙ ap (λ (w : String Global). take i words ++ w ∷ []) (sym is))
    ∙ (ap (each f) (map-append string_bytes (take i words) (s ∷ []))
    ∙ (each_push f (map string_bytes (take i words)) (string_bytes s) done p h (ap f (sym same) ∙ e) ∙ ap Ok (sym grown)))

-- where a word is refused, all are
pub each_stop : (f : Text → Result Text PathReason) (words : List (String Global)) (i : ℕ) (s : String Global) (text : Text) (done : List Text) (wrong : Option PathReason)
    → i < length words → s ≡ get_or words i s → text ≡ string_bytes s
    → IfSome wrong (λ r. f text ≡ Err r) → each f (map string_bytes (take i words)) ≡ Ok done → IfSome wrong (λ r. each f (map string_bytes words) ≡ Err r)
each_stop f words i s text done None l is same e h = tt
each_stop f words i s text done (Some r) l is same e h =
    let whole : words ≡ take i words ++ (s ∷ drop (i + 1) words) =
    sym (take-append-drop i words) ∙ ap (λ (ws : List (String Global)). take i words ++ ws) (drop_more words i s l ∙ ap (λ (w : String Global). w ∷ drop (i + 1) words) (sym is)) in
    ap (λ (ws : List (String Global)). each f (map string_bytes ws)) whole
    ∙ (ap (each f) (map-append string_bytes (take i words) (s ∷ drop (i + 1) words))
    ∙ each_refused f (map string_bytes (take i words)) (map string_bytes (drop (i + 1) words)) (string_bytes s) done r h (ap f (sym same) ∙ e))
