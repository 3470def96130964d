-- The words of if, from one branch to the next.
use Rattle.std.proofs.Common.{◌≡◌, Bool, true, false, List, [], ◌∷◌, ◌++◌, Some, None, Ok, Err, refl, sym, ap, ◌∙◌}
use Rattle.std.specs.Prelude.{codes, bytes_eq, if◌then◌else◌}
use Rattle.std.proofs.lemmas.List.{append_assoc}
use Rattle.tcltext.specs.chars.Runs.{Text}
use Rattle.tclvalue.specs.operators.Faults.{Answer}
use Rattle.tclrules.specs.Forms as forms
use Rattle.tclrules.specs.Forms.{Branches, branch, last_words, branches, after_condition, after_body}
use Rattle.tclforms.specs.Branches.{FirstBranch, after_then, first_branch, after_elseif, prefixed_pairs}

of_then : (c : Text) (ws : List Text) (f : FirstBranch) → after_then c ws ≡ Some f → forms.after_then c ws ≡ branch f.0 f.1 (after_body f.2)
of_then c [] f h = absurd (cc)
of_then c (b ∷ ws) f h =
    let e : f ≡ (c, b, ws) = cc in
    rw e refl

of_words : (c w : Text) (ws : List Text) (f : FirstBranch) (t : Bool) → bytes_eq w (codes "then") ≡ t
    → (if t then after_then c ws else Some (c, w, ws)) ≡ Some f
    → after_condition c (w ∷ ws) ≡ branch f.0 f.1 (after_body f.2)
of_words c w ws f true e h = rw e (of_then c ws f h)
of_words c w ws f false e h =
    let g : f ≡ (c, w, ws) = cc in
    rw (e, g) refl

-- the first branch, and the words after it
of_first : (ws : List Text) (f : FirstBranch) → first_branch ws ≡ Some f → branches ws ≡ branch f.0 f.1 (after_body f.2)
of_first [] f h = absurd (cc)
of_first (c ∷ []) f h = absurd (cc)
of_first (c ∷ w ∷ ws) f h = of_words c w ws f (bytes_eq w (codes "then")) refl h

-- one more pair before the others
one_more : (ps : List (Text × Text)) (c b : Text) (more : Answer Branches) → prefixed_pairs ps (branch c b more) ≡ prefixed_pairs (ps ++ (c, b) ∷ []) more
one_more ps c b (Ok m) = ap (λ (qs : List (Text × Text)). Ok (qs, m.1)) (sym (append_assoc ps ((c, b) ∷ []) m.0))
one_more ps c b (Err f) = refl

at_elseif : (ws more : List Text) → after_elseif ws ≡ Some more → after_body ws ≡ branches more
at_elseif [] more h = absurd (cc)
at_elseif (w ∷ ws) more h = tested (bytes_eq w (codes "elseif")) refl h
  where
    tested : (t : Bool) → bytes_eq w (codes "elseif") ≡ t → (if t then Some ws else None) ≡ Some more → after_body (w ∷ ws) ≡ branches more
    tested true e g =
        let m : ws ≡ more = cc in
        rw (e, m) refl
    tested false e g = absurd (cc)

at_last : (ws : List Text) → after_elseif ws ≡ None → after_body ws ≡ last_words ws
at_last [] h = refl
at_last (w ∷ ws) h = tested (bytes_eq w (codes "elseif")) refl h
  where
    tested : (t : Bool) → bytes_eq w (codes "elseif") ≡ t → (if t then Some ws else None) ≡ None → after_body (w ∷ ws) ≡ last_words (w ∷ ws)
    tested true e g = absurd (cc)
    tested false e g = rw e refl

-- a branch with elseif after it
pub goes_on : (all rest rs more : List Text) (ps : List (Text × Text)) (c b : Text)
    → branches all ≡ prefixed_pairs ps (branches rest) → first_branch rest ≡ Some (c, b, rs)
    → after_elseif rs ≡ Some more
    → branches all ≡ prefixed_pairs (ps ++ (c, b) ∷ []) (branches more)
goes_on all rest rs more ps c b i f h =
    i ∙ ap (prefixed_pairs ps) (of_first rest (c, b, rs) f ∙ ap (branch c b) (at_elseif rs more h)) ∙ one_more ps c b (branches more)

-- and one without it
pub ends_there : (all rest rs : List Text) (ps : List (Text × Text)) (c b : Text) → branches all ≡ prefixed_pairs ps (branches rest) → first_branch rest ≡ Some (c, b, rs) → after_elseif rs ≡ None
    → branches all ≡ prefixed_pairs (ps ++ (c, b) ∷ []) (last_words rs)
ends_there all rest rs ps c b i f h =
    i ∙ ap (prefixed_pairs ps) (of_first rest (c, b, rs) f ∙ ap (branch c b) (at_last rs h)) ∙ one_more ps c b (last_words rs)
