-- The names that are offered for a word that is typed, as far as folders tell them (module(1), on completion). Whether a
-- file of such a name is a modulefile isn't asked.
use Rattle.std.specs.Prelude.{◌≡◌, nat_eq, List, [], ◌∷◌, filter, Option, Some, None}
use Rattle.std.specs.List.{join_with_byte, starts_with}
use Rattle.message.specs.Messages.{Text}
use Rattle.envvars.specs.Fields.{without_repeats}
use Rattle.filetree.specs.Agreement.{Listings}
use Rattle.filetree.specs.hiding.Hidden.{without}
use Rattle.module_reports.specs.completions.Lines.{others_of, pieces_at}
use Rattle.module_reports.specs.listings.Along.{AreNamesAlong}

-- the folder of these parts before the last one, if there are such
abbrev pub folder_named : List Text → Option Text
folder_named [] = None
folder_named (part ∷ parts) = Some (join_with_byte 47 (part ∷ parts))

-- the folder whose entries a word may name: what is in front of its last slash
abbrev pub folder_of : Text → Option Text
folder_of word = folder_named (others_of (pieces_at 47 word))

-- the names that begin with a word
abbrev pub beginning : Text → List Text → List Text
beginning word names = filter (λ name. starts_with nat_eq name word) names

-- the names that begin with a word, each once, in the folder that the word names
abbrev pub AreBegun : Listings → List Text → Text → List Text → Type 0
AreBegun listings dirs word begun =
    (names : List Text) × AreNamesAlong listings (folder_of word) dirs names
    × (begun ≡ without_repeats (beginning word names))

-- the names, each once, if there are some
abbrev pub once_if_any : List Text → Option (List Text)
once_if_any [] = None
once_if_any (name ∷ names) = Some (without_repeats (name ∷ names))

-- the names, or else these
abbrev pub or_else : Option (List Text) → List Text → List Text
or_else None names = names
or_else (Some inside) names = inside

-- One name that has a folder gives way to what is in it; other names stay.
abbrev pub Opens : Listings → List Text → List Text → List Text → Type 0
Opens listings dirs [] next = next ≡ []
Opens listings dirs (name ∷ []) next =
    (inside : List Text) × AreNamesAlong listings (Some name) dirs inside
    × (next ≡ or_else (once_if_any inside) (name ∷ []))
Opens listings dirs (name ∷ other ∷ names) next = next ≡ name ∷ other ∷ names

-- The names that are offered for a word: those that begin with it, and in the place of one name what is in its folder. A
-- name has four parts at most, so this is done three times.
pub record AreFor (listings : Listings) (dirs : List Text) (word : Text) (names : List Text) : Type 0 where
  pub begun : List Text
  pub first : List Text
  pub second : List Text
  pub are_begun : AreBegun listings dirs word begun
  pub opens : Opens listings dirs begun first
  pub opens_next : Opens listings dirs first second
  pub opens_last : Opens listings dirs second names

-- these names, of what stands elsewhere than at some paths
abbrev pub AreForWithout : List Text → Listings → List Text → Text → List Text → Type 0
AreForWithout paths listings dirs word names = AreFor (without paths listings) dirs word names
