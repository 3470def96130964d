-- Accounts that grow by a piece.
use Rattle.std.proofs.Common.{◌≡◌, ℕ, Bool, true, false, List, [], ◌∷◌, ◌++◌, take, drop, refl, sym, ap, subst, ◌∙◌, append_assoc, append-nil}
use Rattle.std.proofs.lemmas.List.{flat_map_more, map-append, take-append-drop}
use Rattle.tcltext.specs.chars.Runs.{Text}
use Rattle.port_rewriting.specs.AccountViews.{has_notes, piece_view, pieces_view}
use Rattle.port_rewriting.specs.declared.class.Note.{Note}
use Rattle.port_rewriting.specs.declared.pieces.TranslatedPiece.{TranslatedPiece}
use Rattle.port_rewriting.specs.Accounts.{Accounts, AreFor, AreUnsaid, Piece, Stays, joined, written}

pub one_more : (parts : List Text) (pieces : List Piece) (part : Text) (p : Piece) → AreFor parts pieces → Stays part p
    → AreFor (parts ++ part ∷ []) (pieces ++ p ∷ [])
one_more [] [] part p h k = (k, tt)
one_more [] (q ∷ pieces) part p h k = absurd h
one_more (other ∷ parts) [] part p h k = absurd h
one_more (other ∷ parts) (q ∷ pieces) part p h k = (h.0, one_more parts pieces part p h.1 k)

-- a piece is written for the part that the rest begins with
pub grown : (text rest part behind : Text) (pieces : List Piece) (p : Piece) → Accounts text pieces rest → part ++ behind ≡ rest → Stays part p
    → Accounts text (pieces ++ p ∷ []) behind
grown text rest part behind pieces p h e k = (
  h.0 ++ part ∷ [],
  one_more h.0 pieces part p h.1 k,
  ap (λ (t : Text). t ++ behind) (sym (flat_map_more (λ (t : Text). t) [] h.0 part))
      ∙ (append_assoc (joined h.0) part behind
      ∙ (ap (λ (t : Text). joined h.0 ++ t) e ∙ h.2)),
)

-- before the first piece
pub none : (text : Text) → Accounts text [] text
none text = ([], tt, refl)

pub none_at : (text rest : Text) (ps : List TranslatedPiece) → ps ≡ [] → rest ≡ text → Accounts text (pieces_view ps) rest
none_at text rest ps e f =
    subst (λ (r : Text). Accounts text (pieces_view ps) r) (sym f)
    (subst (λ (qs : List TranslatedPiece). Accounts text (pieces_view qs) text) (sym e) (none text))

-- a text in two
pub halves : (text a b : Text) (n : ℕ) → a ≡ take n text → b ≡ drop n text → a ++ b ≡ text
halves text a b n e f = ap (λ (t : Text). t ++ b) e ∙ (ap (λ (t : Text). take n text ++ t) f ∙ take-append-drop n text)

pub whole : (text : Text) → text ++ [] ≡ text
whole text = append-nil text

-- a piece with a note
pub said : (p : TranslatedPiece) (n : Note) → p.notes.items ≡ n ∷ [] → (piece_view p).is_said ≡ true
said p n e = ap has_notes e

-- a piece of the code behind others
grown_list : (old new : List TranslatedPiece) (p : TranslatedPiece) → new ≡ old ++ p ∷ [] → pieces_view new ≡ pieces_view old ++ piece_view p ∷ []
grown_list old new p n = ap pieces_view n ∙ map-append piece_view old (p ∷ [])

-- one for a part that the rest begins with
pub pushed : (rest was behind : Text) (old new : List TranslatedPiece) (p : TranslatedPiece) → was ++ behind ≡ rest → Stays was (piece_view p)
    → new ≡ old ++ p ∷ [] → (file : Text) → Accounts file (pieces_view old) rest → Accounts file (pieces_view new) behind
pushed rest was behind old new p e k n file h =
    subst (λ (ps : List Piece). Accounts file ps behind) (sym (grown_list old new p n)) (grown file rest was behind (pieces_view old) (piece_view p) h e k)

-- one for all of the rest
pub pushed_ended : (rest : Text) (old new : List TranslatedPiece) (p : TranslatedPiece) → Stays rest (piece_view p) → new ≡ old ++ p ∷ []
    → (file : Text) → Accounts file (pieces_view old) rest → Accounts file (pieces_view new) []
pushed_ended rest old new p k n = pushed rest rest [] old new p (append-nil rest) k n

-- one for no part, of which something is said
pub pushed_between : (rest : Text) (old new : List TranslatedPiece) (p : TranslatedPiece) → (piece_view p).is_said ≡ true → new ≡ old ++ p ∷ []
    → (file : Text) → Accounts file (pieces_view old) rest → Accounts file (pieces_view new) rest
pushed_between rest old new p e n =
    pushed rest [] rest old new p refl (λ (unsaid : (piece_view p).is_said ≡ false). let never : true ≡ false = sym e ∙ unsaid in cc) n

same : (parts : List Text) (pieces : List Piece) → AreFor parts pieces → AreUnsaid pieces → written pieces ≡ joined parts
same [] [] h u = refl
same [] (q ∷ pieces) h u = absurd h
same (part ∷ parts) [] h u = absurd h
same (part ∷ parts) (p ∷ pieces) h u =
    ap (λ (t : Text). t ++ written pieces) (h.0 u.0) ∙ ap (λ (t : Text). part ++ t) (same parts pieces h.1 u.1)

-- a text of which nothing is said stays
pub unsaid : (text : Text) (pieces : List Piece) → Accounts text pieces [] → AreUnsaid pieces → written pieces ≡ text
unsaid text pieces h u = same h.0 pieces h.1 u ∙ (sym (append-nil (joined h.0)) ∙ h.2)
