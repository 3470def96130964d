-- Names that may be meant by one that isn't found (own). Only names are read: whether a module has them isn't asked.
use Rattle.std.specs.Prelude.{◌≡◌, ℕ, ◌||◌, ◌==◌, nat_eq, not, Bool, length, if◌then◌else◌, List, [], ◌∷◌}
use Rattle.std.specs.Prelude.{filter, map, take, bytes_eq, Some, None}
use Rattle.std.specs.Char.{to_ascii_lowercase}
use Rattle.std.specs.List.{starts_with, slice_split, join_with_byte}
use Rattle.envvars.specs.Fields.{without_repeats}
use Rattle.envvars.specs.Texts.{Text}
use Rattle.filetree.specs.Agreement.{Listings}
use Rattle.module_words.specs.subcommands.Nearness.{differ_by_one}
use Rattle.modulename.specs.ModuleName.{parts}
use Rattle.requests.specs.Steps.{first_part}
use Rattle.module_reports.specs.listings.Along.{AreNamesAlong}

-- with small letters for the capitals of ASCII
abbrev pub in_small_letters : Text → Text
in_small_letters text = map to_ascii_lowercase text

-- the name, in small letters, begins with what was typed in small letters, or differs from it by one slip of the hand
abbrev pub is_like : Text → Text → Bool
is_like small name =
    starts_with nat_eq (in_small_letters name) small || differ_by_one small (in_small_letters name)

-- the names that are like what was typed, in small letters
abbrev pub likes : Text → List Text → List Text
likes small names = filter (is_like small) names

-- the parts that aren't empty
abbrev pub filled : List Text → List Text
filled names = filter (λ part. not (length part == 0)) names

-- what an ill-spelled name may stand for: a slash in place of each `@`, and no empty part
abbrev pub respelled : Text → Text
respelled name =
    join_with_byte 47
    (filled (slice_split (λ b. b == 47) (join_with_byte 47 (slice_split (λ b. b == 64) name))))

-- so many names are said at most
abbrev pub most_names : ℕ
most_names = 3

-- the first of these names, each once
abbrev pub first_names : List Text → List Text
first_names names = take most_names (without_repeats names)

-- the names that aren't the one that was typed
abbrev pub others : Text → List Text → List Text
others typed names = filter (λ name. not (bytes_eq name typed)) names

-- the versions that are like what was typed; where none is, the folder, if a version was typed
abbrev pub versions_or_folder : Text → Text → List Text → List Text
versions_or_folder typed folder [] = if bytes_eq typed folder then [] else folder ∷ []
versions_or_folder typed folder (name ∷ names) = name ∷ names

-- Which names may be meant, where the folder of the name's first part has these entries: versions in it. Where it has
-- none, what stands in the directories themselves and is like the first part.
abbrev pub MayBeMeant : Listings → List Text → (typed folder : Text) → List Text → List Text → Type 0
MayBeMeant listings dirs typed folder [] meant =
    (names : List Text) × AreNamesAlong listings None dirs names
    × (meant ≡ first_names (likes (in_small_letters folder) names))
MayBeMeant listings dirs typed folder (name ∷ names) meant =
    meant ≡ first_names (versions_or_folder typed folder (likes (in_small_letters typed) (name ∷ names)))

-- These names may be meant by a name that isn't found along these directories.
abbrev pub AreLike : Listings → List Text → (typed : Text) → List Text → Type 0
AreLike listings dirs typed meant =
    (inside : List Text) × AreNamesAlong listings (Some (first_part (parts typed))) dirs inside
    × MayBeMeant listings dirs typed (first_part (parts typed)) inside meant
