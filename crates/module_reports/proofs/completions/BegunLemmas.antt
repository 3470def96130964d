-- The folder that a word names, and the names that are offered, one step after another.
use Rattle.std.proofs.Common.{◌≡◌, List, [], ◌∷◌, ◌++◌, Result, Ok, Err, IfOk, String, refl, ap, ◌∙◌}
use Rattle.std.specs.declared.alloc.Global.{Global}
use Rattle.std.specs.declared.vec.Vec.{Vec}
use Rattle.message.specs.Messages.{Text}
use Rattle.envvars.specs.Texts.{texts_in}
use Rattle.filetree.specs.Agreement.{Files, InEachPair, Listings, Narrows}
use Rattle.module_reports.specs.completions.Begun.{AreBegun, AreFor, Opens, folder_named, folder_of}
use Rattle.module_reports.specs.completions.Lines.{others_of, pieces_at}

others_before : (texts : List Text) (text : Text) → others_of (texts ++ text ∷ []) ≡ texts
others_before [] text = refl
others_before (first ∷ []) text = refl
others_before (first ∷ next ∷ texts) text = ap (λ others. first ∷ others) (others_before (next ∷ texts) text)

pub folder_by : (word : Text) (texts : List Text) (text : Text) → pieces_at 47 word ≡ texts ++ text ∷ [] → folder_of word ≡ folder_named texts
folder_by word texts text all = ap (λ ps. folder_named (others_of ps)) all ∙ ap folder_named (others_before texts text)

pub in_turn : {E : Type 0} (at first second last : Files → Listings → Type 0) (dirs : List Text) (word : Text) (begun one two : List Text) (result : Result (Vec (String Global) Global) E)
    → InEachPair at (λ files listings. AreBegun listings dirs word begun) → Narrows at first → InEachPair first (λ files listings. Opens listings dirs begun one) → Narrows first second
    → InEachPair second (λ files listings. Opens listings dirs one two) → Narrows second last → IfOk result (λ names. InEachPair last (λ files listings. Opens listings dirs two (texts_in names)))
    → IfOk result (λ names. InEachPair last (λ files listings. AreFor listings dirs word (texts_in names)))
in_turn at first second last dirs word begun one two (Ok names) is n1 opens n2 then n3 ends = λ files listings a.
    let c = n3 files listings a in
    let b = n2 files listings c in
    record { begun = begun; first = one; second = two; are_begun = is files listings (n1 files listings b); opens = opens files listings b; opens_next = then files listings c; opens_last = ends files listings a }
in_turn at first second last dirs word begun one two (Err e) is n1 opens n2 then n3 ends = tt
